-- A slot that owns n blocks, among them one at each ordinal below n, owns no others.
use Rattle.std.proofs.lemmas.Grind.{common_steps}
use Rattle.std.proofs.Common.{◌≡◌, ℕ, zero, suc, ◌+◌, ◌<◌, List, None, Some, length, get_or, slice_set, inl, inr, sym}
use Rattle.std.proofs.Common.{◌∙◌, subst, arith}
use Rattle.std.proofs.lemmas.Bool.{cases_eq}
use Rattle.spool_blocks.specs.Blocks.{Row, slot_count}
use Rattle.spool_blocks.specs.Chains.{Owns, OwnsOneEach}
use Rattle.spool_blocks.proofs.Counts.{within}
use Rattle.spool_blocks.proofs.Links.{same_ordinal, count_less, owns_else}

one_less : (slot k : ℕ) (rows : List Row) (b : ℕ) → Owns rows b slot k
    → slot_count slot (slice_set rows b None) + 1 ≡ slot_count slot rows
one_less slot k rows b own = count_less slot k rows b (within rows b (slot, k) own) own

-- the block t came to those that the slot owns besides
module _ (n slot t : ℕ) (rows : List Row) (top : Owns rows t slot n)
    (rest : OwnsOneEach (slice_set rows t None) slot n) where
  beside : (b i : ℕ) → (b ≡ t → ⊥) → Owns rows b slot i → Owns (slice_set rows t None) b slot i
  beside b i other own = owns_else rows t b slot i None other own

  at_top : (b i : ℕ) → b ≡ t → Owns rows b slot i → i ≡ n
  at_top b i same own = same_ordinal rows t slot i slot n (subst (λ (a : ℕ). Owns rows a slot i) same own) top

  low : (b i : ℕ) → (b ≡ t → ⊥) → Owns rows b slot i → i < n
  low b i other own = rest.only b i (beside b i other own)

  block_at : (i : ℕ) → i < suc n → (b : ℕ) × Owns rows b slot i
  block_at i lt = elim (cases_eq i n) [
    | inl same ↦ (t, subst (λ (k : ℕ). Owns rows t slot k) (sym same) top)
    | inr other ↦ besides i (rest.there i (omega (arith, lt, other)))
  ]
    where
      besides : (i : ℕ) → (b : ℕ) × Owns (slice_set rows t None) b slot i → (b : ℕ) × Owns rows b slot i
      besides i at = search (arith, common_steps)

  one_more : OwnsOneEach rows slot (suc n)
  one_more = record {
    there = block_at;
    once = λ a b i own own'. elim (cases_eq a t) [
      | inl first ↦ search (arith, common_steps)
      | inr other ↦ elim (cases_eq b t) [
        | inl second ↦ absurd (omega (arith, at_top b i second own', low a i other own))
        | inr other' ↦ rest.once a b i (beside a i other own) (beside b i other' own')
      ]
    ];
    only = λ b i own. elim (cases_eq b t) [
      | inl same ↦ omega (arith, at_top b i same own)
      | inr other ↦ omega (arith, low b i other own)
    ];
  }

-- the others, where the block t is taken out
others : (n slot t : ℕ) (rows : List Row) → Owns rows t slot n → ((i : ℕ) → i < suc n → (b : ℕ) × Owns rows b slot i)
    → (i : ℕ) → i < n → (b : ℕ) × Owns (slice_set rows t None) b slot i
others n slot t rows top there i lt =
    let at = there i (omega (arith, lt)) in
    let other : (at.0 ≡ t → ⊥) = λ e. omega (arith, lt, same_ordinal rows t slot i slot n (rw e at at.1) top) in
    (at.0, owns_else rows t at.0 slot i None other at.1)

pub owns_each : (n slot : ℕ) (rows : List Row) → slot_count slot rows ≡ n
    → ((i : ℕ) → i < n → (b : ℕ) × Owns rows b slot i) → OwnsOneEach rows slot n
owns_each zero slot rows count there = record {
  there = λ i lt. absurd (omega (arith, lt));
  once = λ a b i own own'. absurd (omega (arith, count, one_less slot i rows a own));
  only = λ b i own. absurd (omega (arith, count, one_less slot i rows b own));
}
owns_each (suc n) slot rows count there =
    let top = there n (omega arith) in
    let less : slot_count slot (slice_set rows top.0 None) ≡ n =
    omega (arith, count, one_less slot n rows top.0 top.1) in
    one_more n slot top.0 rows top.1
    (owns_each n slot (slice_set rows top.0 None) less (others n slot top.0 rows top.1 there))

-- a list of them
pub list_whole : (rows : List Row) (slot n : ℕ) (list : List ℕ) → length list ≡ slot_count slot rows → length list ≡ n
    → ((i : ℕ) → i < length list → get_or rows (get_or list i 0) None ≡ Some (slot, i)) → OwnsOneEach rows slot n
list_whole rows slot n list count long owned =
    owns_each n slot rows (sym count ∙ long) (λ i lt. (get_or list i 0, owned i (omega (arith, lt, long))))
