-- Why a commit is refused.
use Rattle.std.proofs.Common.{arith, ◌≡◌, ◌⊎◌, ℕ, Bool, true, false, length, Option, Some, None, if◌then◌else◌, refl}
use Rattle.std.proofs.Common.{◌∙◌, ap, eq-eqb}
use Rattle.std.proofs.lemmas.Grind.{common_steps}
use Rattle.upload_rules.specs.declared.errors.UploadRefusal.{UploadRefusal}
use Rattle.upload_rules.specs.declared.errors.UploadRefusal.TheVariants.{Unencodable, Full, LengthSet, TooLong}
use Rattle.upload_rules.specs.Answers.{IsLate}
use Rattle.upload_rules.specs.Calls.{commit_refusal, committed, committed_store, declares, dropped, is_idle}
use Rattle.upload_rules.specs.Calls.{length_refusal, or_else, refuse_if, text_refusal, text_stays, upload_refusal}
use Rattle.upload_rules.specs.Room.{is_short}
use Rattle.upload_rules.specs.Store.{Upload, Store, patched_store, upload_of, accepted_count}
use Rattle.upload_rules.specs.World.{Patch, World, completes, is_there, patch_text, reached}

refusal_is : (w : World) (d : ℕ) (p : Patch) → commit_refusal w d p ≡ or_else
    (upload_refusal p (upload_of w.store p.number)) (text_refusal w d p)
unfolding commit_refusal
refusal_is w d p = refl

-- where the upload has as many bytes as at the head moment, its length decides
pub by_length : (p : Patch) (u : Upload) → accepted_count u ≡ accepted_count p.began
    → upload_refusal p (Some u) ≡ length_refusal u.declared p.declare (reached p)
by_length p u same = rw (eq-eqb (accepted_count u) (accepted_count p.began) same) refl

-- a length is refused so
pub length_refused : (known declare : Option ℕ) (end : ℕ) (e : UploadRefusal)
    → length_refusal known declare end ≡ Some e → (e ≡ LengthSet) ⊎ (e ≡ TooLong)
length_refused known declare end e is = search (arith, common_steps)

pub refused_by_length : (w : World) (d : ℕ) (p : Patch) (u : Upload) (e : UploadRefusal)
    → upload_of w.store p.number ≡ Some u → accepted_count u ≡ accepted_count p.began
    → length_refusal u.declared p.declare (reached p) ≡ Some e → commit_refusal w d p ≡ Some e
refused_by_length w d p u e there same refused = cc (refusal_is w d p, by_length p u same)

late_if : (a b c : Bool) → IsLate (if a then None else if b then Some Unencodable else refuse_if c Full)
late_if true b c = tt
late_if false true c = tt
late_if false false true = tt
late_if false false false = tt

-- the patch goes with its upload
module _ (w : World) (d : ℕ) (p : Patch) (allows : upload_refusal p (upload_of w.store p.number) ≡ None) where
  by_text : commit_refusal w d p ≡ text_refusal w d p
  by_text = refusal_is w d p ∙ ap (λ o. or_else o (text_refusal w d p)) allows

  pub late : IsLate (commit_refusal w d p)
  late = grind (arith, common_steps, by_text, late_if)

  pub nothing_refused : text_stays w.store p ≡ true → commit_refusal w d p ≡ None
  nothing_refused stays = by_text ∙ rw (stays) refl

  module _ (changes : text_stays w.store p ≡ false) where
    pub no_code : is_there (patch_text w.store.indexes p (completes w.store p)).fault ≡ true
        → commit_refusal w d p ≡ Some Unencodable
    no_code fault = by_text ∙ rw (changes, fault) refl

    pub no_room : (patch_text w.store.indexes p (completes w.store p)).fault ≡ None
        → is_short w d p (completes w.store p) ≡ true → commit_refusal w d p ≡ Some Full
    no_room fine short = by_text ∙ rw (changes, fine, short) refl

    pub allowed : (patch_text w.store.indexes p (completes w.store p)).fault ≡ None
        → is_short w d p (completes w.store p) ≡ false → commit_refusal w d p ≡ None
    allowed fine roomy = by_text ∙ rw (changes, fine, roomy) refl

-- WHAT IT MAKES OF THE STORE

-- a patch that declares a length, or whose text changes, brings something
declares_something : (m : Store) (p : Patch) → declares m p ≡ true → is_idle m p ≡ false
declares_something m p new = rw (new) refl

changes_something : (m : Store) (p : Patch) → text_stays m p ≡ false → is_idle m p ≡ false
changes_something m p changes = search (arith, common_steps)

store_put : (m : Store) (p : Patch) → is_idle m p ≡ false
    → committed_store m p ≡ patched_store m p.number p.declare p.body
store_put m p busy = rw (busy) refl

pub store_declared : (m : Store) (p : Patch) → declares m p ≡ true
    → committed_store m p ≡ patched_store m p.number p.declare p.body
store_declared m p new = store_put m p (declares_something m p new)

pub store_changed : (m : Store) (p : Patch) → text_stays m p ≡ false
    → committed_store m p ≡ patched_store m p.number p.declare p.body
store_changed m p changes = store_put m p (changes_something m p changes)

pub nothing_committed : (w : World) (d : ℕ) (p : Patch) → is_idle w.store p ≡ true → committed w d p ≡ dropped w d
nothing_committed w d p idle = ap (λ (m : Store). record (dropped w d) { store = m }) (rw (idle) refl)
