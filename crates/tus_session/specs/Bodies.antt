-- What bytes of a body lead to: the patch goes on, it ends with an answer, or the body is dropped.
use Rattle.std.specs.Prelude.{◌≡◌, ◌++◌, ℕ, zero, suc, Bool, false, List, take, Option, None, Some, Result, Ok, Err}
use Rattle.std.specs.Prelude.{if◌then◌else◌}
use Rattle.upload_rules.specs.Store.{find}
use Rattle.upload_rules.specs.World.{World, Patch}
use Rattle.upload_rules.specs.Calls.{commit_refusal}
use Rattle.upload_rules.specs.declared.uploads.Uploads.{Ghosts}
use Rattle.tus_request.specs.Requests.{Request}
use Rattle.tus_request.specs.declared.buffer.HeadBuffer.{HeadBuffer}
use Rattle.tus_action.specs.Acts.{Acted, fed, fed_patch, committed_as}
use Rattle.tus_session.specs.declared.answers.Answer.{Answer}
use Rattle.tus_action.specs.declared.bodies.OpenPatch.{OpenPatch}
use Rattle.tus_session.specs.declared.conns.Awaiting.{Awaiting}
use Rattle.tus_session.specs.declared.conns.Awaiting.TheVariants as awaits
use Rattle.tus_session.specs.declared.conns.Link.{Link}
use Rattle.common.specs.declared.stop.Stop.{Stop}
use Rattle.common.specs.declared.stop.Stop.TheVariants.{NoMemory, DiskFault}

-- The answer of a call that took n bytes and leaves no text pending.
abbrev pub took : ℕ → Bool → Answer
took n closes = record { taken = n; closes = closes; more = false }

-- What a connection awaits while this many bytes of a body are to be dropped.
abbrev pub dropping : {B : Type 0} → ℕ → Awaiting B
dropping zero = awaits.Head
dropping (suc n) = awaits.Skip (suc n)

-- The connection after a reply, which may close it.
abbrev pub link_after : {B : Type 0} → HeadBuffer → ℕ → Bool → Option (Link B)
link_after head left closes = if closes then None else Some (record { head = head; awaiting = dropping left })

-- The patch goes on: nothing but its draft and the missing bytes changed.
pub record PatchGoesOn {U B : Type 0} (u : Ghosts U B) (sure : Bool) (store : U) (link : Option (Link B)) (a : Answer)
    (head : HeadBuffer) (b b' : OpenPatch B) (left taken : ℕ) (w : World) (p : Patch) : Type 0 where
  pub link_is : link ≡ Some (record { head = head; awaiting = awaits.Patch b' left })
  pub answer_is : a ≡ took taken false
  pub number : u.number_of b'.draft ≡ u.number_of b.draft
  pub holds : u.holds b'.draft p
  pub found : find (u.number_of b.draft) w.patches ≡ Some p
  pub shown : u.represents store sure w
  pub reached : b'.reached ≡ b.reached
  pub bare : b'.bare ≡ b.bare
  pub closes : b'.closes ≡ b.closes

-- The patch goes on with some draft.
abbrev pub GoesOnSome : {U B : Type 0} → Ghosts U B → Bool → U → Option (Link B) → Answer → HeadBuffer → OpenPatch B → ℕ
    → ℕ → World → Patch → Type 0
GoesOnSome {U} {B} u sure store link a head b left taken w p =
    (b' : OpenPatch B) × PatchGoesOn u sure store link a head b b' left taken w p

-- The result of bytes that leave the body unfinished. Out of memory, the patch is gone.
abbrev pub Parts : {U B : Type 0} → Ghosts U B → Bool → U → Result (Option (Link B) × Answer) Stop → HeadBuffer
    → OpenPatch B → ℕ → ℕ → World → Patch → World → Type 0
Parts u sure store (Ok (link, a)) head b left taken w p gone = GoesOnSome u sure store link a head b left taken w p
Parts u sure store (Err NoMemory) head b left taken w p gone = u.represents store sure gone
Parts u sure store (Err DiskFault) head b left taken w p gone = Unit {0}

-- The answer was appended, and nothing is open.
pub record Answered {U B : Type 0} (u : Ghosts U B) (sure : Bool) (store : U) (link : Option (Link B)) (a : Answer)
    (old new : List ℕ) (head : HeadBuffer) (taken : ℕ) (m : Acted) : Type 0 where
  pub shown : u.represents store sure m.world
  pub link_is : link ≡ link_after head 0 m.closes
  pub answer_is : a ≡ took taken m.closes
  pub bytes : new ≡ old ++ m.bytes

-- The result of the body's last bytes. A refusal appends nothing.
abbrev pub Replies : {U B : Type 0} → Ghosts U B → Bool → U → Result (Option (Link B) × Answer) Stop → List ℕ → List ℕ
    → HeadBuffer → ℕ → Acted → World → Type 0
Replies u sure store (Ok (link, a)) old new head taken m gone = Answered u sure store link a old new head taken m
Replies u sure store (Err NoMemory) old new head taken m gone = u.represents store sure gone × (new ≡ old)
Replies u sure store (Err DiskFault) old new head taken m gone = new ≡ old

-- The last piece of the body is fed, and the patch committed.
abbrev pub ended_by : World → ℕ → Patch → List ℕ → Request → Acted
ended_by w d p piece r = committed_as (fed w d piece) d (fed_patch w d p piece) r
    (commit_refusal (fed w d piece) d (fed_patch w d p piece))

-- A failed call cuts the output back to this length.
abbrev pub BackTo : {T : Type 0} → Result T Stop → ℕ → List ℕ → List ℕ → Type 0
BackTo (Ok x) start old new = new ≡ old
BackTo (Err e) start old new = new ≡ take start old
