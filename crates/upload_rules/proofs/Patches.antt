-- Open drafts and the patches that they represent, number by number.
use Rattle.std.proofs.Common.{◌≡◌, ℕ, ◌<◌, true, List, [], ◌∷◌, length, set, Option, Some, None, refl, sym}
use Rattle.std.proofs.Common.{subst, arith, inl, inr, eq-eqb, get_or-set_same, get_or-set_other}
use Rattle.std.proofs.lemmas.List.{get_or_past, length-set}
use Rattle.std.proofs.lemmas.Bool.{cases_eq, cases_lt, ne_eqb}
use Rattle.std.proofs.lemmas.Bool.Decides.{nat_tests}
use Rattle.std.proofs.lemmas.Option.{same_Some}
use Rattle.upload_rules.specs.Store.{find, replaced, without}
use Rattle.upload_rules.specs.World.{Patch, is_there}
use Rattle.upload_rules.specs.Apart.{IsApart}
use Rattle.upload_rules.specs.Drafts.{DraftOf, draft_at, IsPlaced}
use Rattle.upload_rules.proofs.Finds.{find_without_other, find_without_same, find_replaced_same, find_replaced_other}
use Rattle.upload_rules.proofs.Finds.{none_without, none_replaced}

-- DIFFERENT NUMBERS

pub apart_without : (d : ℕ) (ps : List (ℕ × Patch)) → IsApart ps → IsApart (without d ps)
apart_without d [] apart = tt
apart_without d (p ∷ ps) apart =
    let ih = apart_without d ps apart.1 in grind (arith, nat_tests, none_without d p.0 ps apart.0)

pub apart_replaced : (d : ℕ) (q : Patch) (ps : List (ℕ × Patch)) → IsApart ps → IsApart (replaced d q ps)
apart_replaced d q [] apart = tt
apart_replaced d q (p ∷ ps) apart =
    let ih = apart_replaced d q ps apart.1 in
    let first = apart.0 in
    grind (arith, nat_tests, none_replaced d p.0 q ps)

-- ONE NUMBER

-- what a draft holds of its patch, in other words
pub held_on : {A : Type 0} (R S : Patch → A → Type 0) (q : Option Patch) (o : Option A)
    → ((p : Patch) (a : A) → q ≡ Some p → R p a → S p a) → DraftOf R q o → DraftOf S q o
held_on R S None None weaker h = tt
held_on R S None (Some o) weaker h = absurd h
held_on R S (Some p) None weaker h = absurd h
held_on R S (Some p) (Some o) weaker h = weaker p o refl h

-- the draft of a patch
pub draft_of : {A : Type 0} (R : Patch → A → Type 0) (p : Patch) (q : Option Patch) (o : Option A) → q ≡ Some p
    → DraftOf R q o → (a : A) × (o ≡ Some a) × R p a
draft_of R p None o e h = absurd cc
draft_of R p (Some q) None e h = absurd h
draft_of R p (Some q) (Some a) e h = (a, refl, subst (λ r. R r a) (same_Some q p e) h)

-- and the patch of a draft
pub patch_there : {A : Type 0} (R : Patch → A → Type 0) (q : Option Patch) (o : Option A) → DraftOf R q o
    → (is_there q ≡ true → is_there o ≡ true) × (is_there o ≡ true → is_there q ≡ true)
patch_there R q o h = grind arith

module _ {A : Type 0} (R : Patch → A → Type 0) (ps : List (ℕ × Patch)) (old new : List (Option A))
    (all : (d : ℕ) → DraftOf R (find d ps) (draft_at old d)) where
  cleared : (d : ℕ) → draft_at (set old d None) d ≡ None
  cleared d = grind (arith, get_or-set_same, get_or_past, length-set, cases_lt d (length old))

  pub dropped_represents : (d : ℕ) → IsApart ps → new ≡ set old d None → (e : ℕ)
      → DraftOf R (find e (without d ps)) (draft_at new e)
  dropped_represents d apart is e =
      elim (cases_eq d e) [
        | inl same ↦ rw (sym same, find_without_same d ps apart, is, cleared d) tt
        | inr other ↦ rw (find_without_other d e ps other, is, get_or-set_other old d e None None (λ s. other (sym s)))
            (all e)
      ]

  pub appended_represents : (d : ℕ) (p q : Patch) (o : A) → find d ps ≡ Some p → d < length old
      → new ≡ set old d (Some o)
      → R q o
      → (e : ℕ) → DraftOf R (find e (replaced d q ps)) (draft_at new e)
  appended_represents d p q o there lt is represents e =
      elim (cases_eq d e) [
        | inl same ↦ rw (sym same, find_replaced_same d p q ps there, is, get_or-set_same old d (Some o) None lt)
            represents
        | inr other ↦
            rw (find_replaced_other d e q ps other, is, get_or-set_other old d e (Some o) None (λ s. other (sym s)))
            (all e)
      ]

  pub begun_represents : (d : ℕ) (p : Patch) (o : A) → IsPlaced old o d new → R p o
      → (e : ℕ) → DraftOf R (find e ((d, p) ∷ ps)) (draft_at new e)
  begun_represents d p o placed represents e =
      elim (cases_eq d e) [
        | inl same ↦ rw (placed.after e, sym same, eq-eqb d d refl) represents
        | inr other ↦ rw (placed.after e, ne_eqb d e other, ne_eqb e d (λ s. other (sym s))) (all e)
      ]
