-- The least number that no open patch has.
use Rattle.std.proofs.Common.{◌≡◌, ℕ, zero, suc, ◌+◌, ◌<◌, ◌≤◌, true, false, List, length, Option, Some, None}
use Rattle.std.proofs.Common.{refl, ◌∙◌, ap, arith}
use Rattle.std.proofs.lemmas.Bool.{cases_order}
use Rattle.upload_rules.specs.Store.{find, without}
use Rattle.upload_rules.specs.World.{Patch, World, is_there, least_from, free_number}
use Rattle.upload_rules.proofs.Finds.{find_without_other, length_without}

-- all numbers below this one are there
abbrev IsFull : ℕ → List (ℕ × Patch) → Type 0
IsFull n patches = (k : ℕ) → k < n → is_there (find k patches) ≡ true

one_is : (o : Option Patch) → is_there o ≡ true → (p : Patch) × (o ≡ Some p)
one_is None h = absurd cc
one_is (Some p) h = (p, refl)

full_without : (n : ℕ) (patches : List (ℕ × Patch)) → IsFull (n + 1) patches → IsFull n (without n patches)
full_without n patches full k lt = ap is_there (find_without_other n k patches (omega arith)) ∙ full k (omega arith)

-- there are as many entries
at_least : (n m : ℕ) (patches : List (ℕ × Patch)) → m ≡ n → IsFull n patches → n ≤ length patches
at_least zero m patches same full = omega arith
at_least (suc n) m patches same full =
    let there = one_is (find n patches) (full n (omega arith)) in
    let shorter = length_without n there.0 patches there.1 in
    let more : IsFull (n + 1) patches = λ k lt. full k (omega arith) in
    let rest = at_least n n (without n patches) refl (full_without n patches more) in
    omega (arith, shorter, rest)

-- a number that isn't there is the one sought, where all below that one are there
least : (left n f : ℕ) (patches : List (ℕ × Patch)) → n ≤ f → f ≤ n + left → IsFull f patches
    → is_there (find f patches) ≡ false → least_from left n patches ≡ f
least zero n f patches low high full none = omega arith
least (suc left) n f patches low high full none =
    grind (arith, full n, least left (n + 1) f patches, cases_order n f)

pub is_free : (w : World) (f : ℕ) → ((k : ℕ) → k < f → is_there (find k w.patches) ≡ true)
    → is_there (find f w.patches) ≡ false → free_number w ≡ f
is_free w f full none = least (length w.patches) 0 f w.patches (omega arith)
    (let h = at_least f f w.patches refl full in omega (arith, h)) full none
