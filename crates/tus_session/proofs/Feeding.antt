-- A patch whose body goes on.
use Rattle.std.proofs.Common.{◌≡◌, ℕ, ◌+◌, ◌==◌, Bool, true, false, List, [], ◌∷◌, ◌++◌, length, Option, Some, None}
use Rattle.std.proofs.Common.{Err, refl, sym, ◌∙◌, ap, arith, append-nil, if◌then◌else◌}
use Rattle.std.proofs.lemmas.Bool.Decides.{nat_tests}
use Rattle.std.proofs.lemmas.List.{length-append}
use Rattle.upload_rules.specs.Store.{find, without, replaced, accepted_count}
use Rattle.upload_rules.specs.World.{Patch, World, reached}
use Rattle.upload_rules.specs.Calls.{longer_patch, appended_at, dropped, commit_refusal, commit_outcome}
use Rattle.upload_rules.specs.Calls.{committed_store}
use Rattle.upload_rules.specs.Calls.{spent, outcome}
use Rattle.upload_rules.specs.declared.uploads.Uploads.{Ghosts}
use Rattle.tus_request.specs.Requests.{Request}
use Rattle.tus_action.specs.Acts.{Acted, fed, fed_patch}
use Rattle.tus_action.specs.Serves.{Feeds, Finishes, Serves}
use Rattle.common.specs.declared.stop.Stop.{Stop}
use Rattle.common.specs.declared.stop.Stop.TheVariants as stops
use Rattle.tus_action.specs.declared.bodies.OpenPatch.{OpenPatch}
use Rattle.tus_request.specs.declared.buffer.HeadBuffer.{HeadBuffer}
use Rattle.tus_session.specs.Bodies.{ended_by, took, link_after, Answered, Parts, Replies}
use Rattle.tus_session.specs.declared.conns.Link.{Link}
use Rattle.tus_session.specs.Turned.{Turned}
use Rattle.tus_session.specs.Turns.{Conn, Turn}
use Rattle.upload_rules.specs.declared.errors.UploadRefusal.{UploadRefusal}

pub fed_body : (w : World) (d : ℕ) (p : Patch) (piece : List ℕ) → (fed_patch w d p piece).body ≡ p.body ++ piece
fed_body w d p [] = sym (append-nil p.body)
fed_body w d p (b ∷ piece) = refl

pub fed_began : (w : World) (d : ℕ) (p : Patch) (piece : List ℕ) → (fed_patch w d p piece).began ≡ p.began
fed_began w d p [] = refl
fed_began w d p (b ∷ piece) = refl

pub fed_number : (w : World) (d : ℕ) (p : Patch) (piece : List ℕ) → (fed_patch w d p piece).number ≡ p.number
fed_number w d p [] = refl
fed_number w d p (b ∷ piece) = refl

pub fed_count : (w : World) (d : ℕ) (p : Patch) (piece : List ℕ) → (fed_patch w d p piece).count ≡ p.count
fed_count w d p [] = refl
fed_count w d p (b ∷ piece) = refl

pub fed_declare : (w : World) (d : ℕ) (p : Patch) (piece : List ℕ) → (fed_patch w d p piece).declare ≡ p.declare
fed_declare w d p [] = refl
fed_declare w d p (b ∷ piece) = refl

appended_store_is : (w : World) (d : ℕ) (piece : List ℕ) (o : Option Patch) → (appended_at w d piece o).store ≡ w.store
appended_store_is w d piece None = refl
appended_store_is w d piece (Some p) = refl

pub fed_store : (w : World) (d : ℕ) (piece : List ℕ) → (fed w d piece).store ≡ w.store
fed_store w d [] = refl
fed_store w d (b ∷ piece) = appended_store_is w d (b ∷ piece) (find d w.patches)

pub without_first : (d : ℕ) (q : Patch) (xs : List (ℕ × Patch)) → without d ((d, q) ∷ xs) ≡ xs
without_first d q xs = grind (arith, nat_tests)

without_case : (d : ℕ) (q : Patch) (x : ℕ × Patch) (xs : List (ℕ × Patch)) → without d (replaced d q xs) ≡ without d xs
    → (b : Bool) → (x.0 == d) ≡ b
    → without d (if b then (d, q) ∷ xs else x ∷ replaced d q xs) ≡ (if b then xs else x ∷ without d xs)
without_case d q x xs ih true e = without_first d q xs
without_case d q x xs ih false e = rw e (ap (λ ys. x ∷ ys) ih)

pub without_replaced : (d : ℕ) (q : Patch) (xs : List (ℕ × Patch)) → without d (replaced d q xs) ≡ without d xs
without_replaced d q [] = refl
without_replaced d q (x ∷ xs) = without_case d q x xs (without_replaced d q xs) (x.0 == d) refl

pub drop_fed : (w : World) (d : ℕ) (p : Patch) (piece : List ℕ) → find d w.patches ≡ Some p
    → dropped (fed w d piece) d ≡ dropped w d
drop_fed w d p [] found = refl
drop_fed w d p (b ∷ piece) found =
    ap (λ o. dropped (appended_at w d (b ∷ piece) o) d) found
    ∙ ap (λ ps. record w { patches = ps }) (without_replaced d (longer_patch w d p (b ∷ piece)) w.patches)

pub spent_store : (w : World) (d : ℕ) (p : Patch) (o : Option UploadRefusal)
    → (spent w d p o).store ≡ outcome o w.store (committed_store w.store p)
spent_store w d p None = refl
spent_store w d p (Some f) = refl

-- the offset after the whole body
pub reached_fed : (w : World) (d : ℕ) (p : Patch) (piece : List ℕ) (n : ℕ) → length p.body + length piece ≡ p.count
    → n ≡ accepted_count p.began + p.count
    → n ≡ reached (fed_patch w d p piece)
reached_fed w d p piece n all e =
    rw (fed_began w d p piece, fed_body w d p piece) (simp length-append (omega arith))

-- the store after the body's end
pub ended_store : (w : World) (d : ℕ) (p : Patch) (piece : List ℕ) (r : Request)
    → commit_outcome (fed w d piece) d (fed_patch w d p piece) ≡ (ended_by w d p piece r).world.store
ended_store w d p piece r =
    sym (spent_store (fed w d piece) d (fed_patch w d p piece)
    (commit_refusal (fed w d piece) d (fed_patch w d p piece)))

module _ {U B : Type 0} (u : Ghosts U B) (sure : Bool) where
  -- a reply was given, and nothing is open
  pub answered_as : (store : U) (link : Option (Link B)) (old new : List ℕ) (head : HeadBuffer) (taken : ℕ) (m : Acted)
      (closes : Bool) → u.represents store sure m.world → closes ≡ m.closes → link ≡ link_after head 0 closes
      → new ≡ old ++ m.bytes → Answered u sure store link (took taken closes) old new head taken m
  answered_as store link old new head taken m closes represents same at bytes =
      assumption (at ∙ ap (link_after head 0) same, ap (took taken) same)

  -- a call that stopped, out of memory or for a disk fault, closes the connection
  pub part_stops : (store : U) (head : HeadBuffer) (gone w : World) (p : Patch) (e : Stop) (b : OpenPatch B)
      (left taken : ℕ) → Feeds u sure store (Err e) gone w b p → Parts u sure store (Err e) head b left taken w p gone
  part_stops store head gone w p stops.NoMemory b left taken is = is
  part_stops store head gone w p stops.DiskFault b left taken is = is

  pub reply_stops : (store : U) (head : HeadBuffer) (gone w : World) (p : Patch) (e : Stop) (b : OpenPatch B)
      (out : List ℕ) (taken : ℕ) (m : Acted) → Feeds u sure store (Err e) gone w b p
      → Replies u sure store (Err e) out out head taken m gone
  reply_stops store head gone w p stops.NoMemory b out taken m is = (is, refl)
  reply_stops store head gone w p stops.DiskFault b out taken m is = refl

  pub stopped_as : (store : U) (e : Stop) (old new : List ℕ) (head : HeadBuffer) (taken : ℕ) (gone gone' : World)
      (m m' : Acted) → gone ≡ gone' → Finishes u sure store (Err e) old new gone m
      → Replies u sure store (Err e) old new head taken m' gone'
  stopped_as store stops.NoMemory old new head taken gone gone' m m' is (shown, same) = (rw is at shown, same)
  stopped_as store stops.DiskFault old new head taken gone gone' m m' is same = same

  pub head_stopped : (store : U) (e : Stop) (old new : List ℕ) (w : World) (conn : Conn) (m : Acted) (t : Turn)
      → conn.draft ≡ None → Serves u sure store (Err e) old new w m → Turned u sure store (Err e) old new w conn.draft t
  head_stopped store stops.NoMemory old new w conn m t none (shown, same) = (rw none shown, same)
  head_stopped store stops.DiskFault old new w conn m t none same = same
