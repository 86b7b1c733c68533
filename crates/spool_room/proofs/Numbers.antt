-- Entries by their numbers: the first one, and those after it.
use Rattle.std.proofs.Common.{◌≡◌, ◌≢◌, ℕ, suc, ◌<◌, List, [], ◌∷◌, length, slice_index, map, None, Some, refl, sym}
use Rattle.std.proofs.Common.{◌∙◌, ap, arith, eq-eqb}
use Rattle.std.proofs.lemmas.Bool.{ne_eqb}
use Rattle.upload_rules.specs.Store.{find}
use Rattle.upload_rules.specs.Apart.{IsApart}
use Rattle.upload_rules.specs.Slots.{IsRising}

module _ {A : Type 0} where
  pub first_found : (entry : ℕ × A) (entries : List (ℕ × A)) → find entry.0 (entry ∷ entries) ≡ Some entry.1
  first_found entry entries = rw (eq-eqb entry.0 entry.0 refl) refl

  pub found_after : (n : ℕ) (entry : ℕ × A) (entries : List (ℕ × A)) → entry.0 ≢ n
      → find n (entry ∷ entries) ≡ find n entries
  found_after n entry entries ne = rw (ne_eqb entry.0 n ne) refl

  -- what is after has another number
  pub is_other : (n : ℕ) (a : A) (entry : ℕ × A) (entries : List (ℕ × A)) → find entry.0 entries ≡ None
      → find n entries ≡ Some a → entry.0 ≢ n
  is_other n a entry entries none there e = none_some (sym none ∙ ap (λ (k : ℕ). find k entries) e ∙ there)
    where
      none_some : None ≡ Some a → ⊥
      none_some e = cc

  pub found_later : (n : ℕ) (a : A) (entry : ℕ × A) (entries : List (ℕ × A)) → find entry.0 entries ≡ None
      → find n entries ≡ Some a → find n (entry ∷ entries) ≡ Some a
  found_later n a entry entries none there =
      found_after n entry entries (is_other n a entry entries none there) ∙ there

  -- NUMBERS THAT RISE

  none_below : (n : ℕ) (entries : List (ℕ × A))
      → ((k : ℕ) → k < length (map (λ (entry : ℕ × A). entry.0) entries)
      → n < slice_index (map (λ (entry : ℕ × A). entry.0) entries) k) → find n entries ≡ None
  none_below n [] above = refl
  none_below n (entry ∷ entries) above =
      let first : n < entry.0 = above 0 (omega arith) in
      found_after n entry entries (λ e. absurd (omega (arith, first, e)))
      ∙ none_below n entries (λ k lt. above (suc k) (omega (arith, lt)))

  pub rising_apart : (entries : List (ℕ × A)) → IsRising (map (λ (entry : ℕ × A). entry.0) entries) → IsApart entries
  rising_apart [] rising = tt
  rising_apart (entry ∷ entries) rising = (
    none_below entry.0 entries (λ k lt. rising 0 (suc k) (omega arith) (omega (arith, lt))),
    rising_apart entries (λ i j lt lt'. rising (suc i) (suc j) (omega (arith, lt)) (omega (arith, lt'))),
  )
