use Rattle.std.proofs.Common.{◌≡◌, ◌+◌, ◌<◌, ℕ, suc, Bool, false, not, nat_eq, List, [], ◌∷◌, map, length}
use Rattle.std.proofs.Common.{get_or, refl, sym, ◌∙◌, ap, arith, w8}
use Rattle.std.proofs.lemmas.Bool.{eqb-true}
use Rattle.std.proofs.lemmas.Bool.Decides.{nat_tests}
use Rattle.std.proofs.lemmas.Simd.{length-chunk, get_or-chunk, bitmask_splat, none_from_empty_mask}
use lib.Lanes.{chunk, mask_l}
use Rattle.spool_pages.proofs.pages.are_zeros.Goals as goal

abbrev differs : ℕ → ℕ → Bool
differs a b = not (nat_eq a b)

-- no bit is set where no lane passes
no_bits : (p : ℕ → Bool) (xs : List ℕ) → ((k : ℕ) → k < length xs → p (get_or xs k 0) ≡ false) → mask_l (map p xs) ≡ 0
no_bits p [] none = refl
no_bits p (x ∷ xs) none =
    let rest = no_bits p xs (λ k lt. none (suc k) (omega (arith, lt))) in grind (arith, none 0)

is_zero : (b : ℕ) → differs b 0 ≡ false → b ≡ 0
is_zero b same = grind (arith, nat_tests)

same_zero : (b : ℕ) → b ≡ 0 → differs b 0 ≡ false
same_zero b is = grind (arith, nat_tests)

pub returns-clause-zeros : goal.returns-clause-zeros
returns-clause-zeros c all k from below =
    let v = chunk c.args.at 64 c.args.bytes.now in
    let long = length-chunk c.args.at 64 c.args.bytes.now c.requires in
    let mask = bitmask_splat w8 differs v 64 0 long (omega arith) in
    is_zero _ (none_from_empty_mask (λ x. differs x 0) c.args.bytes.now c.args.at 64 0 c.requires
    (sym mask ∙ eqb-true _ _ all) k from below)

pub returns-clause-blank : goal.returns-clause-blank
returns-clause-blank c padded =
    let v = chunk c.args.at 64 c.args.bytes.now in
    let long = length-chunk c.args.at 64 c.args.bytes.now c.requires in
    let mask = bitmask_splat w8 differs v 64 0 long (omega arith) in
    let none = no_bits (λ x. differs x 0) v (λ k lt. same_zero (get_or v k 0)
    (get_or-chunk c.args.at 64 c.args.bytes.now k 0 (omega (arith, lt, long)) ∙ padded.each (c.args.at + k))) in
    ap (λ (n : ℕ). nat_eq n 0) (mask ∙ none)
