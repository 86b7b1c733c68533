-- The first line of a script, and its text.
use Rattle.std.proofs.Common.{◌≡◌, ◌==◌, ◌<◌, ℕ, zero, suc, true, false, List, [], ◌∷◌, length}
use Rattle.std.proofs.Common.{take, slice_index, refl, ap, arith}
use Rattle.std.specs.Io.BufRead.{take_through}
use Rattle.common.specs.Splits.{before}

-- none of the first n bytes is an LF
abbrev pub NoneIn : ℕ → List ℕ → Type 0
NoneIn n s = (k : ℕ) → k < n → (slice_index s k == 10) ≡ false

-- the first LF ends the line and its text
pub cut_at : (n : ℕ) (s : List ℕ) → n < length s → NoneIn n s → (slice_index s n == 10) ≡ true
    → (take (suc n) s ≡ take_through 10 s) × (take n s ≡ before 10 s)
cut_at n [] h none lf = absurd (omega arith)
cut_at zero (b ∷ s) h none lf = rw lf (refl, refl)
cut_at (suc n) (b ∷ s) h none lf =
    let i = cut_at n s (omega arith) (λ k l. none (suc k) (omega arith)) lf in
    rw (none zero (omega arith)) (ap (λ l. b ∷ l) i.0, ap (λ l. b ∷ l) i.1)

-- without an LF all is one line and all is text
pub uncut : (s : List ℕ) → NoneIn (length s) s → (s ≡ take_through 10 s) × (s ≡ before 10 s)
uncut [] none = (refl, refl)
uncut (b ∷ s) none =
    let i = uncut s (λ k l. none (suc k) (omega arith)) in
    rw (none zero (omega arith)) (ap (λ l. b ∷ l) i.0, ap (λ l. b ∷ l) i.1)
