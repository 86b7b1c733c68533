-- Pages by ascending number.
use Rattle.std.proofs.Common.{◌≡◌, ℕ, zero, suc, ◌<◌, ◌≤◌, List, [], length, arith}
use Rattle.std.specs.List.Sorted.{IsNonDecreasingBy}
use Rattle.std.proofs.lemmas.Bool.{cases_lt}
use Rattle.std.proofs.lemmas.List.Sorted.{IsNonDecreasingBy-from_default}
use Rattle.spool_journal.specs.Image.{Ascends, page_number}

pub rises : (pages : List (ℕ × List ℕ)) → Ascends pages → (i k : ℕ) → i ≤ k → k < length pages
    → page_number pages i ≤ page_number pages k
rises pages ascends i zero le lt = grind arith
rises pages ascends i (suc k) le lt = grind (arith, ascends k, rises pages ascends i k, cases_lt i (suc k))

pub not_falling : (pages : List (ℕ × List ℕ)) → Ascends pages → IsNonDecreasingBy (λ (p : ℕ × List ℕ). p.0) pages
not_falling pages ascends = IsNonDecreasingBy-from_default (λ (p : ℕ × List ℕ). p.0) pages (0, []) (rises pages ascends)

-- where no page before `at` has the number and the one at it has another, none has it
pub not_there : (pages : List (ℕ × List ℕ)) → Ascends pages → (page at : ℕ)
    → ((k : ℕ) → k < at → page_number pages k < page)
    → ((k : ℕ) → at ≤ k → k < length pages → page ≤ page_number pages k)
    → (at < length pages → page_number pages at ≡ page → ⊥)
    → (k : ℕ) → k < length pages → page_number pages k ≡ page → ⊥
not_there pages ascends page at below above other k lt is =
    grind (arith, cases_lt k at, below k, rises pages ascends at k, above at, other)
