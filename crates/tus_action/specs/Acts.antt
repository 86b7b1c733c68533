-- What a request does at its head moment, and how the end of a body is answered.
use Rattle.std.specs.Prelude.{ℕ, Bool, true, false, ◌||◌, List, [], ◌∷◌, ◌++◌, length, take, drop, if◌then◌else◌}
use Rattle.std.specs.Prelude.{Option, Some, None}
use Rattle.tus_request.specs.declared.faults.Fault.{Fault}
use Rattle.tus_request.specs.declared.faults.Fault.TheVariants.{NoSuch}
use Rattle.tus_request.specs.Requests.{Creation, Options, Create, Head, Get, Delete, Action, Request}
use Rattle.tus_request.specs.Requests as requests
use Rattle.tus_request.specs.Requests.{Verdict, Asks, Refuses}
use Rattle.tus_request.specs.Replies.{reply_options, reply_created, reply_head, reply_patched, reply_deleted}
use Rattle.tus_request.specs.Replies.{reply_text, reply_continue, reply_refused}
use Rattle.upload_rules.specs.declared.errors.UploadRefusal.{UploadRefusal}
use Rattle.upload_rules.specs.Store.{New, Upload, upload_of, text_of, accepted_count}
use Rattle.upload_rules.specs.World.{Patch, World, free_number, reached}
use Rattle.upload_rules.specs.Calls.{create_refusal, created, terminate_refusal, terminated, begin_refusal, begun}
use Rattle.upload_rules.specs.Calls.{longer_patch, appended, commit_refusal, spent}
use Rattle.tus_action.specs.declared.reads.TheConstants.{PIECE}
use Rattle.tus_action.specs.Faults.{reply_fault_of}

-- A text of which more is to be given: its upload, the bytes that are left, and whether the connection then closes.
pub record Giving : Type 0 where
  pub number : ℕ
  pub left : List ℕ
  pub closes : Bool

-- The result of a request: the world, the draft that is open, the bytes of the reply, those of a text at its end, the
-- text that is pending, and whether the connection closes.
pub record Acted : Type 0 where
  pub world : World
  pub draft : Option ℕ
  pub bytes : List ℕ
  pub text : List ℕ
  pub pending : Option Giving
  pub closes : Bool

-- A reply that leaves nothing open.
abbrev pub replied : World → List ℕ → Bool → Acted
replied w bytes closes = record {
  world = w;
  draft = None;
  bytes = bytes;
  text = [];
  pending = None;
  closes = closes;
}

-- A request is refused at its head.
abbrev pub refused_at : World → Fault → Request → Bool → Acted
refused_at w f r closes = replied w (reply_refused f false r.bare closes) closes

-- The fields of the upload that a POST asks for.
abbrev pub new_of : Creation → New
new_of c = record { declared = c.declared; from = c.from; to = c.to; mode = c.mode; metadata = c.metadata }

-- The result of a POST.
abbrev pub post : World → Request → New → Option UploadRefusal → Acted
post w r new None = replied (created w new) (reply_created w.store.next r.bare r.closes) r.closes
post w r new (Some f) = replied w (reply_refused (reply_fault_of f) true r.bare r.closes) r.closes

-- The result of a DELETE.
abbrev pub delete : World → Request → ℕ → Option UploadRefusal → Acted
delete w r number None = replied (terminated w number) (reply_deleted r.closes) r.closes
delete w r number (Some f) = refused_at w (reply_fault_of f) r r.closes

-- The result of a HEAD.
abbrev pub head : World → Request → Option Upload → Acted
head w r None = refused_at w NoSuch r r.closes
head w r (Some u) = replied w (reply_head (accepted_count u) u.declared u.metadata r.bare r.closes) r.closes

-- The text is pending unless no bytes are left.
abbrev pub pending_of : ℕ → List ℕ → Bool → Option Giving
pending_of number [] closes = None
pending_of number (b ∷ left) closes = Some (record { number = number; left = b ∷ left; closes = closes })

-- Whether a text is pending.
abbrev pub is_pending : Option Giving → Bool
is_pending None = false
is_pending (Some g) = true

-- The reply's head and the first piece of the text. If more is pending, the connection closes only after its last byte.
abbrev pub giving : World → Request → ℕ → Upload → List ℕ → List ℕ → Acted
giving w r number u text left = record {
  world = w;
  draft = None;
  bytes = reply_text u.to (length text) r.bare r.closes ++ (if r.bare then [] else take PIECE text);
  text = if r.bare then [] else take PIECE text;
  pending = pending_of number left r.closes;
  closes = if is_pending (pending_of number left r.closes) then false else r.closes;
}

-- The result of a GET.
abbrev pub get : World → Request → ℕ → Option Upload → Acted
get w r number None = refused_at w NoSuch r r.closes
get w r number (Some u) =
    let text = text_of w.store.indexes u in giving w r number u text (if r.bare then [] else drop PIECE text)

-- The result of a PATCH at its head. If it is refused, a client that expects 100 Continue also gets a close.
abbrev pub patch : World → Request → ℕ → Option ℕ → Option UploadRefusal → Acted
patch w r number declare (Some f) = refused_at w (reply_fault_of f) r (r.closes || r.expects)
patch w r number declare None = record {
  world = begun w number r.length declare;
  draft = Some (free_number w);
  bytes = if r.expects then reply_continue else [];
  text = [];
  pending = None;
  closes = false;
}

-- The result of a request by its action.
abbrev pub acted_on : World → Request → Action → Acted
acted_on w r Options = replied w (reply_options r.closes) r.closes
acted_on w r (Create c) = post w r (new_of c) (create_refusal w (new_of c))
acted_on w r (Head n) = head w r (upload_of w.store n)
acted_on w r (Get n) = get w r n (upload_of w.store n)
acted_on w r (requests.Patch n offset declare) = patch w r n declare (begin_refusal w n offset r.length declare)
acted_on w r (Delete n) = delete w r n (terminate_refusal w n)

-- The result of a head by its verdict.
abbrev pub acted : World → Verdict → Acted
acted w (Asks r) = acted_on w r r.action
acted w (Refuses x) = replied w (reply_refused x.fault x.on_files x.bare x.closes) x.closes

-- Bodies.

-- The patch takes bytes of its body.
abbrev pub fed : World → ℕ → List ℕ → World
fed w d [] = w
fed w d (b ∷ piece) = appended w d (b ∷ piece)

-- The reply at the body moment.
abbrev pub patched_reply : Patch → Request → Option UploadRefusal → List ℕ
patched_reply p r None = reply_patched (reached p) r.closes
patched_reply p r (Some f) = reply_refused (reply_fault_of f) false r.bare r.closes

-- The commit with this result: the patch is spent and answered.
abbrev pub committed_as : World → ℕ → Patch → Request → Option UploadRefusal → Acted
committed_as w d p r refusal = replied (spent w d p refusal) (patched_reply p r refusal) r.closes

-- The commit of a patch, if it is there.
abbrev pub commit_with : World → ℕ → Verdict → Option Patch → Acted
commit_with w d (Asks r) (Some p) = committed_as w d p r (commit_refusal w d p)
commit_with w d v _ = replied w [] false

-- The patch after these bytes of its body.
abbrev pub fed_patch : World → ℕ → Patch → List ℕ → Patch
fed_patch w d p [] = p
fed_patch w d p (b ∷ piece) = longer_patch w d p (b ∷ piece)

-- The next piece of a text.
abbrev pub piece_of : Giving → List ℕ
piece_of g = take PIECE g.left

-- What is pending after that piece.
abbrev pub pending_after : Giving → Option Giving
pending_after g = pending_of g.number (drop PIECE g.left) g.closes
