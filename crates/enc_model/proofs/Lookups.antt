-- Looking a pointer up pair by pair.
use Rattle.std.proofs.Common.{ℕ, suc, ◌+◌, ◌<◌, ◌≤◌, ◌≡◌, [], ◌∷◌, Some, None, length, drop, get_or, drop-cons, add-one}
use Rattle.std.proofs.Common.{arith}
use Rattle.std.proofs.lemmas.Grind.{common_steps}
use Rattle.enc_model.specs.Index.{Index, code}

code_head : (x : ℕ × ℕ) (xs : Index) (p : ℕ) → x.0 ≡ p → code (x ∷ xs) p ≡ Some x.1
unfolding code
code_head x xs p e = grind (arith, e)

code_tail : (x : ℕ × ℕ) (xs : Index) (p : ℕ) → (x.0 ≡ p → ⊥) → code (x ∷ xs) p ≡ code xs p
unfolding code
code_tail x xs p e = grind (arith, e)

pub code_here : (xs : Index) (i p : ℕ) → i < length xs → (get_or xs i (0, 0)).0 ≡ p
    → code (drop i xs) p ≡ Some (get_or xs i (0, 0)).1
code_here xs i p l e = rw (drop-cons xs i (0, 0)) (code_head (get_or xs i (0, 0)) (drop (suc i) xs) p e)

pub code_next : (xs : Index) (i p : ℕ) → i < length xs → ((get_or xs i (0, 0)).0 ≡ p → ⊥)
    → code (drop (i + 1) xs) p ≡ code (drop i xs) p
code_next xs i p l e = rw (drop-cons xs i (0, 0), add-one)
    (let h = code_tail (get_or xs i (0, 0)) (drop (suc i) xs) p e in cc)

pub code_end : (xs : Index) (i p : ℕ) → length xs ≤ i → code (drop i xs) p ≡ None
unfolding code
code_end [] i p l = grind (arith, common_steps)
code_end (x ∷ xs) i p l = grind (arith, common_steps)
