-- What a call of the uploads leaves.
use Rattle.std.proofs.Common.{◌≡◌, ◌==◌, arith, ℕ, Bool, true, false, List, [], ◌∷◌, ◌++◌, length, take, Option, Some}
use Rattle.std.proofs.Common.{None, Result, Ok, Err, refl, sym, subst, ap, ◌∙◌, if◌then◌else◌}
use Rattle.upload_rules.specs.declared.errors.UploadRefusal.{UploadRefusal}
use Rattle.upload_rules.specs.declared.errors.UploadError.{UploadError}
use Rattle.upload_rules.specs.declared.errors.UploadError.TheVariants as errors
use Rattle.upload_rules.specs.declared.errors.UploadError.TheVariants.{Refused}
use Rattle.upload_rules.specs.declared.uploads.Uploads.{Ghosts}
use Rattle.tus_action.specs.Faults.{reply_fault_of}
use Rattle.tus_action.specs.Serves.{CutCommits, Feeds, Finishes, Serves, RepliesOnly, RepliesTo}
use Rattle.tus_action.specs.declared.bodies.OpenPatch.{OpenPatch}
use Rattle.common.specs.declared.stop.Stop.{Stop}
use Rattle.common.specs.declared.stop.Stop.TheVariants.{NoMemory, DiskFault}
use Rattle.tus_action.specs.declared.acts.Done as code
use Rattle.tus_request.specs.Replies.{reply_refused}
use Rattle.std.proofs.Math.Seq.{take-append_seam}
use Rattle.std.specs.Prelude.{IsErrOf}
use Rattle.upload_rules.specs.Answers.{Answers, DoesOrStops, IsLate, Limits}
use Rattle.tus_action.specs.Acts.{fed, fed_patch, Acted, replied}
use Rattle.upload_rules.specs.Store.{Store, find, replaced}
use Rattle.upload_rules.specs.World.{Patch, World}
use Rattle.upload_rules.specs.Calls.{longer_patch, appended, appended_at, dropped, spent, outcome}

same_number : (n : ℕ) → (n == n) ≡ true
same_number n = grind (arith)

found_here : {A : Type 0} (n : ℕ) (x : A) (entries : List (ℕ × A)) (o : Option A)
    → (if n == n then Some x else o) ≡ Some x
found_here n x entries o = ap (λ b. if b then Some x else o) (same_number n)

find_case : {A : Type 0} (n k : ℕ) (x y z : A) (es : List (ℕ × A)) (b : Bool) → (k == n) ≡ b
    → ((if b then Some z else find n es) ≡ Some y) → (find n es ≡ Some y → find n (replaced n x es) ≡ Some x)
    → find n (if b then (n, x) ∷ es else (k, z) ∷ replaced n x es) ≡ Some x
find_case n k x y z es true t e more = found_here n x es (find n es)
find_case n k x y z es false t e more = ap (λ b. if b then Some z else find n (replaced n x es)) t ∙ more e

pub find_replaced : {A : Type 0} (n : ℕ) (x y : A) (entries : List (ℕ × A)) → find n entries ≡ Some y
    → find n (replaced n x entries) ≡ Some x
find_replaced n x y [] e = absurd (cc)
find_replaced n x y (entry ∷ es) e =
    find_case n entry.0 x y entry.1 es (entry.0 == n) refl e (λ h. find_replaced n x y es h)

pub find_appended : (w : World) (d : ℕ) (p : Patch) (piece : List ℕ) → find d w.patches ≡ Some p
    → find d (appended w d piece).patches ≡ Some (longer_patch w d p piece)
find_appended w d p piece e =
    ap (λ o. find d (appended_at w d piece o).patches) e ∙ find_replaced d (longer_patch w d p piece) p w.patches e

-- a refused commit leaves the world without the patch
pub spent_refused : (S : World → Type 0) (w : World) (d : ℕ) (p : Patch) (r : Option UploadRefusal) (e : UploadRefusal)
    → r ≡ Some e → S (dropped w d) → S (spent w d p r)
spent_refused S w d p r e is s = subst (λ x. S (spent w d p x)) (sym is) s

-- bytes that came, where some came
pub fed_some : (w : World) (d : ℕ) (piece : List ℕ) → (piece ≡ [] → ⊥) → appended w d piece ≡ fed w d piece
fed_some w d [] some = absurd (some refl)
fed_some w d (b ∷ piece) some = refl

pub fed_patch_some : (w : World) (d : ℕ) (p : Patch) (piece : List ℕ) → (piece ≡ [] → ⊥)
    → longer_patch w d p piece ≡ fed_patch w d p piece
fed_patch_some w d p [] some = absurd (some refl)
fed_patch_some w d p (b ∷ piece) some = refl

pub refused_answer : {T : Type 0} (done : T → Type 0) (same : Type 0) (refusal : Option UploadRefusal) (e : UploadError)
    (f : UploadRefusal) → e ≡ Refused f
    → Answers {T = T} refusal (Err e) done same → (refusal ≡ Some f) × same
refused_answer {T = T} done same refusal e f is h = subst (λ x. Answers {T = T} refusal (Err x) done same) is h

pub memory_answer : {T : Type 0} (done : T → Type 0) (same : Type 0) (refusal : Option UploadRefusal) (e : UploadError)
    → e ≡ errors.Stop NoMemory
    → Answers {T = T} refusal (Err e) done same → IsLate refusal × same
memory_answer {T = T} done same refusal e is h = subst (λ x. Answers {T = T} refusal (Err x) done same) is h

-- the list isn't empty
pub some_items : {A : Type 0} (b : Bool) (list : List A) → b ≡ (length list == 0) → b ≡ false → list ≡ [] → ⊥
some_items b list is not_empty none = let e : true ≡ false =
    ap (λ l. length l == 0) (sym none) ∙ (sym is ∙ not_empty) in absurd (cc)

-- bytes that were not taken: the draft is dropped
pub fed_gone : {U B : Type 0} {sure : Bool} (u : Ghosts U B) (store next : U) (w : World) (stop : Stop) (d d' : ℕ)
    (w' : World) (b : OpenPatch B) (p : Patch) (done : Unit {0} → Type 0) → DoesOrStops {T = Unit {0}} (Err stop) done
    (u.represents store sure w) → (u.represents store sure w → u.represents next sure (dropped w d')) → d' ≡ d
    → Feeds u sure next (Err stop) (dropped w d) w' b p
fed_gone {sure = sure} u store next w NoMemory d d' w' b p done a drops same = subst
    (λ x. u.represents next sure (dropped w x)) same (drops a)
fed_gone {sure = sure} u store next w DiskFault d d' w' b p done a drops same = tt {0}

-- a cut body that isn't committed: out of memory, the patch is gone
pub stops_ends : {U B T : Type 0} (u : Ghosts U B) (sure : Bool) (store : U) (gone w : World) (stop : Stop)
    (refusal : Option UploadRefusal) (e : UploadError) (done : T → Type 0) → e ≡ errors.Stop stop
    → Answers {T = T} refusal (Err e) done (u.represents store sure gone) → CutCommits u sure store (Err stop) gone w
stops_ends u sure store gone w NoMemory refusal e done is answered =
    (memory_answer done (u.represents store sure gone) refusal e is answered).1
stops_ends u sure store gone w DiskFault refusal e done is answered = tt {0}

-- what was appended is taken back
pub taken_back : {A : Type 0} (old more new : List A) (n : ℕ) → n ≡ length old → new ≡ take n (old ++ more) → new ≡ old
taken_back old more new n is e = e ∙ (ap (λ k. take k (old ++ more)) is ∙ take-append_seam old more)

-- a call that stops, out of memory where the patch is gone
stops_as : {U B : Type 0} (u : Ghosts U B) (sure : Bool) (store : U) (gone : World) (m : Acted) (stop : Stop)
    (old new : List ℕ) → (stop ≡ NoMemory → u.represents store sure gone) → new ≡ old
    → Finishes u sure store (Err stop) old new gone m
stops_as u sure store gone m NoMemory old new represents same = (represents refl, same)
stops_as u sure store gone m DiskFault old new represents same = same

-- a call on the uploads that gave no answer, where its refusal changes nothing but what is gone
pub refused_finishes : {U B : Type 0} (u : Ghosts U B) (sure : Bool) (store : U) (gone : World)
    (m : Option UploadRefusal → Acted) (refusal : Option UploadRefusal) (e : UploadError)
    (result : Result (Unit {0}) Stop) (on_files bare closes : Bool) (old new : List ℕ) {T : Type 0} (done : T → Type 0)
    → ((f : UploadRefusal) → m (Some f) ≡ replied gone (reply_refused (reply_fault_of f) on_files bare closes) closes)
    → Answers {T = T} refusal (Err e) done (u.represents store sure gone)
    → RepliesTo result e on_files bare closes old new
    → Finishes u sure store result old new gone (m refusal)
refused_finishes u sure store gone m refusal (Refused f) (Ok a) on_files bare closes old new done replies_to answered
    replies
    =
    subst (λ x. Finishes u sure store (Ok a) old new gone (m x)) (sym answered.0)
    (subst (λ x. Finishes u sure store (Ok a) old new gone x) (sym (replies_to f)) (answered.1, replies))
refused_finishes u sure store gone m refusal (Refused f) (Err stop) on_files bare closes old new done replies_to
    answered replies =
    stops_as u sure store gone (m refusal) stop old new (λ none. answered.1) replies.1
refused_finishes u sure store gone m refusal (errors.Stop why) (Err stop) on_files bare closes old new done replies_to
    answered replies =
    stops_as u sure store gone (m refusal) stop old new
    (λ none. (memory_answer done (u.represents store sure gone) refusal (errors.Stop why)
    (ap errors.Stop (sym replies.0 ∙ none)) answered).1) replies.1
refused_finishes u sure store gone m refusal (errors.Stop why) (Ok a) on_files bare closes old new done replies_to
    answered replies =
    absurd replies

-- the same at a request's head
pub refused_serves : {U B : Type 0} (u : Ghosts U B) (sure : Bool) (store : U) (gone : World)
    (m : Option UploadRefusal → Acted) (refusal : Option UploadRefusal) (e : UploadError)
    (result : Result (code.Done B) Stop) (on_files bare closes : Bool) (old new : List ℕ) {T : Type 0}
    (done : T → Type 0) → ((f : UploadRefusal) → m (Some f) ≡ replied gone
    (reply_refused (reply_fault_of f) on_files bare closes) closes) → Answers {T = T} refusal (Err e) done
    (u.represents store sure gone) → RepliesOnly result e on_files bare closes old new
    → Serves u sure store result old new gone (m refusal)
refused_serves u sure store gone m refusal (Refused f) (Ok a) on_files bare closes old new done replies_to answered
    refuses =
    subst (λ x. Serves u sure store (Ok a) old new gone (m x)) (sym answered.0)
    (subst (λ x. Serves u sure store (Ok a) old new gone x) (sym (replies_to f))
    (subst (λ x. Serves u sure store (Ok x) old new gone
    (replied gone (reply_refused (reply_fault_of f) on_files bare closes) closes)) (sym refuses.nothing)
    (record { represents = answered.1; draft = tt {0}; giving = tt {0}; closes = refl; bytes = refuses.replies })))
refused_serves u sure store gone m refusal (errors.Stop why) (Ok a) on_files bare closes old new done replies_to
    answered refuses =
    absurd refuses.replies
refused_serves {B = B} u sure store gone m refusal e (Err stop) on_files bare closes old new done replies_to answered
    refuses
    =
    serves_as stop (refused_finishes u sure store gone m refusal e (Err stop) on_files bare closes old new done
    replies_to
    answered (replies_as e stop refuses.replies))
  where
    serves_as : (s : Stop) → Finishes u sure store (Err s) old new gone (m refusal)
        → Serves u sure store (Err s) old new gone (m refusal)
    serves_as NoMemory is = is
    serves_as DiskFault is = is

    replies_as : (x : UploadError) (s : Stop) → RepliesTo {T = code.Done B} (Err s) x on_files bare closes old new
        → RepliesTo {T = Unit {0}} (Err s) x on_files bare closes old new
    replies_as (Refused f) s is = is
    replies_as (errors.Stop why) s is = is

-- out of memory, by the call itself or after its refusal: nothing was made
pub nothing_made : {m0 m1 : ℕ} {l0 l1 : Option ℕ → ℕ → List Store → Type 0} {B T : Type 0} (before after : Store)
    (refusal : Option UploadRefusal) (e : UploadError)
    (result : Result B Stop) (on_files bare closes : Bool) (old new : List ℕ) (done : T → Type 0)
    (same : Type 0)
    → Answers {T = T} refusal (Err e) done same → RepliesTo result e on_files bare closes old new
    → IsErrOf result NoMemory
    → Limits m0 m1 l0 l1 before (outcome refusal before after)
    → (e ≡ errors.Stop NoMemory → Limits m0 m1 l0 l1 before before)
    → Limits m0 m1 l0 l1 before before
nothing_made {m0} {m1} {l0} {l1} before after refusal (Refused f) result on_files bare closes old new done same answered
    replies is limits unmade =
    subst (λ x. Limits m0 m1 l0 l1 before (outcome x before after)) answered.0 limits
nothing_made before after refusal (errors.Stop why) (Ok a) on_files bare closes old new done same answered replies is
    limits unmade = absurd replies
nothing_made before after refusal (errors.Stop why) (Err stop) on_files bare closes old new done same answered replies
    is limits unmade = let none : stop ≡ NoMemory = cc in unmade (ap errors.Stop (sym replies.0 ∙ none))
