-- Parts of texts.
use Rattle.std.specs.Prelude.{◌≡◌, ℕ, ◌+◌, ◌<◌, true, false, List, [], ◌∷◌, length, take, drop, ◌==◌, Some}
use Rattle.std.specs.Prelude.{None}
use Rattle.std.proofs.lemmas.Bool.{cases_Bool}
use Rattle.std.proofs.Common.{Bool, ◌≤◌, arith, ap, refl, zero, suc, get_or, inl, inr, add-one}
use Rattle.std.specs.List.{position, position_or_len, before_first}
use Rattle.std.proofs.lemmas.List.Quantifiers.{position-Some}
use Rattle.std.proofs.lemmas.Bool.Decides.{nat_tests}
use Rattle.std.proofs.lemmas.List.Sums.{fails_before_first}
use Rattle.common.specs.Splits.{before, rest_after}

pub none_passes : (p : ℕ → Bool) (xs : List ℕ) → position p xs ≡ None → (k : ℕ) → k < length xs
    → p (get_or xs k 0) ≡ false
none_passes p xs e k inside =
    let past : length xs ≤ position_or_len p xs = grind (arith, nat_tests) in
    fails_before_first p xs k 0 (omega arith)

-- the mark is at a place, and at none before it
cut_at : (mark : ℕ) (text : List ℕ) (i : ℕ) → i < length text → (get_or text i 0 == mark) ≡ true
    → ((k : ℕ) → k < i → (get_or text k 0 == mark) ≡ false)
    → (before mark text ≡ take i text) × (rest_after mark text ≡ drop (suc i) text)
cut_at mark [] i inside there none = absurd (omega arith)
cut_at mark (b ∷ text) zero inside there none = (rw there, rw there)
cut_at mark (b ∷ text) (suc i) inside there none =
    let h = cut_at mark text i (omega arith) there (λ k l. none (suc k) (omega arith)) in
    (rw (none 0 (omega arith), h.0), rw (none 0 (omega arith), h.1))

-- the mark is nowhere
uncut : (mark : ℕ) (text : List ℕ) → ((k : ℕ) → k < length text → (get_or text k 0 == mark) ≡ false)
    → (before mark text ≡ text) × (rest_after mark text ≡ [])
uncut mark [] none = (refl, refl)
uncut mark (b ∷ text) none =
    let h = uncut mark text (λ k l. none (suc k) (omega arith)) in
    (rw (none 0 (omega arith), h.0), rw (none 0 (omega arith), h.1))

pub cut_some : (mark : ℕ) (text : List ℕ) (i : ℕ) → position (λ b. b == mark) text ≡ Some i
    → (i < length text) × (before mark text ≡ take i text) × (rest_after mark text ≡ drop (i + 1) text)
cut_some mark text i e =
    let p = position-Some (λ b. b == mark) text i 0 e in
    let h = cut_at mark text i p.0 p.1 p.2 in
    (p.0, h.0, rw add-one h.1)

pub cut_none : (mark : ℕ) (text : List ℕ) → position (λ b. b == mark) text ≡ None
    → (before mark text ≡ text) × (rest_after mark text ≡ [])
cut_none mark text e = uncut mark text (none_passes (λ b. b == mark) text e)

pub before_first_is : (mark : ℕ) (text : List ℕ) → before_first (λ b. b == mark) text ≡ before mark text
before_first_is mark [] = refl
before_first_is mark (b ∷ text) =
    elim (cases_Bool (b == mark)) [
      | inl t ↦ rw t
      | inr f ↦
          let n : 1 + position_or_len (λ b. b == mark) text ≡ suc (position_or_len (λ b. b == mark) text) =
          omega arith in
          rw (f, n) (ap (λ t. b ∷ t) (before_first_is mark text))
    ]
