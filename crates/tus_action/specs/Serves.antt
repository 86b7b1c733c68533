-- The results of calls that act on the uploads, compared with the rules.
use Rattle.std.specs.Prelude.{◌≡◌, ◌≤◌, ◌<◌, ◌+◌, nat_le, if◌then◌else◌, ℕ, Bool, true, false, List, ◌++◌, length, take}
use Rattle.std.specs.Prelude.{drop, Option, Some, None, Result, Ok, Err, IfOk, [], ◌∷◌}
use Rattle.upload_rules.specs.Store.{Store, Upload, upload_of, text_of, find}
use Rattle.upload_rules.specs.World.{Patch, World, is_there}
use Rattle.upload_rules.specs.declared.uploads.Uploads.{Ghosts}
use Rattle.tus_request.specs.Requests.{Action, Create}
use Rattle.upload_rules.specs.Reading.{AreOf}
use Rattle.upload_rules.specs.Records.{IsValidNew, IsOffered}
use Rattle.upload_rules.specs.declared.errors.UploadError.{UploadError}
use Rattle.upload_rules.specs.declared.errors.UploadError.TheVariants as errors
use Rattle.tus_request.specs.Replies.{reply_refused}
use Rattle.tus_action.specs.Faults.{reply_fault_of}
use Rattle.tus_action.specs.Acts.{Acted, Giving, new_of, piece_of, pending_after}
use Rattle.tus_action.specs.declared.acts.Done as code
use Rattle.tus_action.specs.declared.acts.Done.TheVariants as done
use Rattle.tus_action.specs.declared.bodies.OpenPatch.{OpenPatch}
use Rattle.tus_action.specs.declared.acts.Giving as given
use Rattle.tus_action.specs.declared.acts.Given.{Given}
use Rattle.tus_action.specs.declared.acts.Given.TheVariants.{Piece, Last, Gone}
use Rattle.common.specs.declared.stop.Stop.{Stop}
use Rattle.common.specs.declared.stop.Stop.TheVariants.{NoMemory, DiskFault}

-- The open draft represents the open patch, or there is none.
abbrev pub DraftIs : {U B : Type 0} → Ghosts U B → World → Option B → Option ℕ → Type 0
DraftIs u w None None = Unit {0}
DraftIs u w (Some b) (Some d) = (u.number_of b ≡ d) × ((p : Patch) × (find d w.patches ≡ Some p) × u.holds b p)
DraftIs u w _ _ = ⊥

-- What is left of the text: its bytes from `given` to `length`, whatever was appended since.
pub record GivesAs (m : Store) (g : given.Giving) (h : Giving) (up : Upload) : Type 0 where
  pub number : g.number ≡ h.number
  pub found : upload_of m h.number ≡ Some up
  pub some : g.given ≤ g.length
  pub within : g.length ≤ length (text_of m.indexes up)
  pub left : h.left ≡ drop g.given (take g.length (text_of m.indexes up))
  pub closes : g.closes ≡ h.closes

-- The text that is pending. Its upload may be deleted meanwhile; no other upload ever gets its number.
pub record IsGiving (m : Store) (g : given.Giving) (h : Giving) : Type 0 where
  pub number : g.number ≡ h.number
  pub below : h.number < m.next
  pub closes : g.closes ≡ h.closes
  pub there : (up : Upload) → upload_of m h.number ≡ Some up → GivesAs m g h up

-- The same of a text that may be pending.
abbrev pub GivingIs : Store → Option given.Giving → Option Giving → Type 0
GivingIs m None None = Unit {0}
GivingIs m (Some g) (Some h) = IsGiving m g h
GivingIs m _ _ = ⊥

-- The draft that is open afterwards.
abbrev pub draft_in : {B : Type 0} → code.Done B → Option B
draft_in (done.Replied closes) = None
draft_in (done.Opened b) = Some b
draft_in (done.Giving g) = None

-- The text that is pending afterwards.
abbrev pub giving_in : {B : Type 0} → code.Done B → Option given.Giving
giving_in (done.Replied closes) = None
giving_in (done.Opened b) = None
giving_in (done.Giving g) = Some g

-- Whether the connection closes.
abbrev pub closes_in : {B : Type 0} → code.Done B → Bool
closes_in (done.Replied closes) = closes
closes_in (done.Opened b) = false
closes_in (done.Giving g) = false

-- The output grew by a reply and bytes of a text.
pub record AppendsText (sure : Bool) (old new bytes text : List ℕ) : Type 0 where
  pub reply : List ℕ
  pub piece : List ℕ
  pub parts : bytes ≡ reply ++ text
  pub appended : new ≡ old ++ (reply ++ piece)
  pub are : AreOf sure piece text

-- The output grew by these bytes, of which the last are those of the text, if any.
abbrev pub Appends : Bool → List ℕ → List ℕ → List ℕ → List ℕ → Type 0
Appends sure old new bytes [] = new ≡ old ++ bytes
Appends sure old new bytes (b ∷ text) = AppendsText sure old new bytes (b ∷ text)

-- The call did what the rules give.
pub record ActedAs {U B : Type 0} (u : Ghosts U B) (sure : Bool) (store : U) (a : code.Done B) (old new : List ℕ)
    (m : Acted) : Type 0 where
  pub represents : u.represents store sure m.world
  pub draft : DraftIs u m.world (draft_in a) m.draft
  pub giving : GivingIs m.world.store (giving_in a) m.pending
  pub closes : closes_in a ≡ m.closes
  pub bytes : Appends sure old new m.bytes m.text

-- The call did what the rules give. Or it was out of memory: what it began is gone. Or it met a disk fault. Both errors
-- leave the output unchanged.
abbrev pub Serves : {U B : Type 0} → Ghosts U B → Bool → U → Result (code.Done B) Stop → List ℕ → List ℕ → World → Acted
    → Type 0
Serves u sure store (Ok a) old new gone m = ActedAs u sure store a old new m
Serves u sure store (Err NoMemory) old new gone m = u.represents store sure gone × (new ≡ old)
Serves u sure store (Err DiskFault) old new gone m = new ≡ old

-- The patch took the bytes: nothing but its draft changed, and that has the same number.
pub record FedPatch {U B : Type 0} (u : Ghosts U B) (sure : Bool) (store : U) (b b' : OpenPatch B) (w : World)
    (p : Patch) : Type 0 where
  pub number : u.number_of b'.draft ≡ u.number_of b.draft
  pub holds : u.holds b'.draft p
  pub found : find (u.number_of b.draft) w.patches ≡ Some p
  pub shown : u.represents store sure w
  pub reached : b'.reached ≡ b.reached
  pub bare : b'.bare ≡ b.bare
  pub closes : b'.closes ≡ b.closes

-- The same result for the patch: out of memory, its draft is gone.
abbrev pub Feeds : {U B : Type 0} → Ghosts U B → Bool → U → Result (OpenPatch B) Stop → World → World → OpenPatch B
    → Patch → Type 0
Feeds u sure store (Ok b') gone w b p = FedPatch u sure store b b' w p
Feeds u sure store (Err NoMemory) gone w b p = u.represents store sure gone
Feeds u sure store (Err DiskFault) gone w b p = Unit {0}

-- The body's end was answered by a commit or a refusal. Out of memory, the patch is gone.
abbrev pub Finishes : {U : Type 0} {B : Type 0} → Ghosts U B → Bool → U → Result (Unit {0}) Stop → List ℕ → List ℕ
    → World → Acted → Type 0
Finishes u sure store (Ok x) old new gone m = u.represents store sure m.world × (new ≡ old ++ m.bytes)
Finishes u sure store (Err NoMemory) old new gone m = u.represents store sure gone × (new ≡ old)
Finishes u sure store (Err DiskFault) old new gone m = new ≡ old

-- The bytes received of a cut body are committed. Out of memory, the patch is gone.
abbrev pub CutCommits : {U B : Type 0} → Ghosts U B → Bool → U → Result (Unit {0}) Stop → World → World → Type 0
CutCommits u sure store (Ok x) gone w = u.represents store sure w
CutCommits u sure store (Err NoMemory) gone w = u.represents store sure gone
CutCommits u sure store (Err DiskFault) gone w = Unit {0}

-- The piece was appended to the output.
abbrev pub AppendsPiece : Bool → List ℕ → List ℕ → List ℕ → Type 0
AppendsPiece sure old new text = (piece : List ℕ) × (new ≡ old ++ piece) × AreOf sure piece text

-- The next piece of the text, or nothing if the upload is gone.
abbrev pub IsGiven : Bool → Store → Given → List ℕ → List ℕ → Giving → Option Upload → Type 0
IsGiven sure m (Piece g) old new h (Some up) =
    GivingIs m (Some g) (pending_after h) × AppendsPiece sure old new (piece_of h)
IsGiven sure m Last old new h (Some up) =
    (pending_after h ≡ None) × AppendsPiece sure old new (piece_of h)
IsGiven sure m Gone old new h None = new ≡ old
IsGiven sure m _ old new h _ = ⊥

-- The result of asking for more of a text. Errors occur only if the upload is there, and leave the output unchanged.
abbrev pub GivesMore : {U B : Type 0} → Ghosts U B → Bool → U → Result Given Stop → List ℕ → List ℕ → World → Giving
    → Type 0
GivesMore u sure store (Ok given) old new w h =
    u.represents store sure w × IsGiven sure w.store given old new h (upload_of w.store h.number)
GivesMore u sure store (Err NoMemory) old new w h =
    (is_there (upload_of w.store h.number) ≡ true) × u.represents store sure w × (new ≡ old)
GivesMore u sure store (Err DiskFault) old new w h = (is_there (upload_of w.store h.number) ≡ true) × (new ≡ old)

-- The metadata that a POST asks for fits a record, and its target has an encoder.
abbrev pub CanBeMade : Action → Type 0
CanBeMade (Create c) = IsValidNew (new_of c)
CanBeMade _ = Unit {0}

-- The index set offers the encodings that a POST asks for.
abbrev pub CanBeRead : World → Action → Type 0
CanBeRead w (Create c) = IsOffered w.store.indexes (new_of c)
CanBeRead w _ = Unit {0}

-- A refusal of the rules is answered, unless memory runs out; the other errors stop the call.
abbrev pub RepliesTo : {T : Type 0} → Result T Stop → UploadError → Bool → Bool → Bool → List ℕ → List ℕ → Type 0
RepliesTo (Ok a) (errors.Refused f) on_files bare closes old new =
    new ≡ old ++ reply_refused (reply_fault_of f) on_files bare closes
RepliesTo (Err stop) (errors.Refused f) on_files bare closes old new = (stop ≡ NoMemory) × (new ≡ old)
RepliesTo (Err stop) (errors.Stop why) on_files bare closes old new = (stop ≡ why) × (new ≡ old)
RepliesTo (Ok a) (errors.Stop why) on_files bare closes old new = ⊥

-- The same, and nothing is open afterwards.
pub record RepliesOnly {B : Type 0} (result : Result (code.Done B) Stop) (e : UploadError) (on_files bare closes : Bool)
    (old new : List ℕ) : Type 0 where
  pub replies : RepliesTo result e on_files bare closes old new
  pub nothing : IfOk result (λ a. a ≡ done.Replied closes)

-- What is left of a text after n more bytes.
abbrev pub given_after : given.Giving → ℕ → Given
given_after g n =
    if nat_le g.length (g.given + n) then Last
    else Piece (record { number = g.number; length = g.length; given = g.given + n; closes = g.closes })

-- The text of which more is to be given.
abbrev pub left_of : Given → Option given.Giving
left_of (Piece g) = Some g
left_of Last = None
left_of Gone = None

-- A reply with text left, or without.
abbrev pub replied_giving : {B : Type 0} → Option given.Giving → Bool → code.Done B
replied_giving None closes = done.Replied closes
replied_giving (Some g) closes = done.Giving g
