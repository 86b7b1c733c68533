-- The last of the listed blocks that are still reserved is given back.
use Rattle.std.proofs.Common.{◌≡◌, ◌≢◌, ℕ, ◌<◌, ◌≤◌, Bool, true, false, List, length, get_or, slice_set}
use Rattle.std.proofs.Common.{sym, ◌∙◌, ap, arith, ⊎_elim}
use Rattle.std.proofs.lemmas.Bool.{cases_lt}
use Rattle.std.proofs.lemmas.Grind.{get_or-set_at}
use Rattle.std.proofs.lemmas.List.{get_or-set_other, get_or_past}

no : true ≡ false → ⊥
no e = cc

reserved_below : (reserved : List Bool) (b : ℕ) → get_or reserved b false ≡ true → b < length reserved
reserved_below reserved b is = ⊎_elim (λ (lt : b < length reserved). lt)
    (λ (past : length reserved ≤ b). absurd (no (sym is ∙ get_or_past reserved b false past)))
    (cases_lt b (length reserved))

module _ (list : List ℕ) (reserved : List Bool) (k b : ℕ) (here : k < length list) (is : b ≡ get_or list k 0)
    (distinct : (i k : ℕ) → i < k → k < length list → get_or list i 0 ≢ get_or list k 0) where
  pub still_reserved : (i : ℕ) → i < k → get_or reserved (get_or list i 0) false ≡ true
      → get_or (slice_set reserved b false) (get_or list i 0) false ≡ true
  still_reserved i before was =
      get_or-set_other reserved b (get_or list i 0) false false (λ e. distinct i k before here (e ∙ is)) ∙ was

  pub given_from : get_or reserved (get_or list k 0) false ≡ true
      → ((i : ℕ) → k < i → i < length list → get_or reserved (get_or list i 0) false ≡ false)
      → (i : ℕ) → k ≤ i → i < length list → get_or (slice_set reserved b false) (get_or list i 0) false ≡ false
  given_from was given i from lt = ⊎_elim
      (λ (after : k < i). get_or-set_other reserved b (get_or list i 0) false false
      (λ e. distinct k i after lt (sym (e ∙ is))) ∙ given i after lt)
      (λ (same : i ≤ k). get_or-set_at reserved b (get_or list i 0) false false
      (ap (λ (j : ℕ). get_or list j 0) (omega (arith, from, same)) ∙ sym is)
      (reserved_below reserved b (ap (λ (x : ℕ). get_or reserved x false) is ∙ was)))
      (cases_lt k i)

  pub others_same : (other : ℕ) → ((i : ℕ) → i < length list → get_or list i 0 ≢ other)
      → get_or (slice_set reserved b false) other false ≡ get_or reserved other false
  others_same other absent = get_or-set_other reserved b other false false (λ e. absent k here (sym (e ∙ is)))
