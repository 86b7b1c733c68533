use Rattle.std.proofs.Common.{◌≡◌, ℕ, ◌<◌, true, List, [], ◌∷◌, map, length, refl, ap, arith, Fits, w8}
use Rattle.std.proofs.lemmas.Bool.Decides.{nat_tests}
use Rattle.std.proofs.lemmas.List.Sums.{prefix_len_passes}
use Rattle.std.proofs.lemmas.Simd.{length-chunk, Each1-from_get_or}
use Rattle.std.specs.List.{prefix_len}
use lib.Lanes.{Each1, chunk, put_chunk}
use Rattle.std.specs.Char.{is_ascii}
use Rattle.lane_kernels.proofs.narrowing.write_lanes.Goals as goal

small : (x : ℕ) → is_ascii x ≡ true → Fits w8 x
small x e = let below : x < 128 = grind (arith, nat_tests) in record { fits = omega (arith, below) }

all_small : (v : List ℕ) (n : ℕ) → length v ≡ n → prefix_len is_ascii v ≡ n → Each1 (Fits w8) v
all_small v n long whole =
    Each1-from_get_or (Fits w8) v 0
    (λ i lt. small _ (prefix_len_passes is_ascii v i 0 (omega (arith, lt, long, whole))))

same_lanes : (v : List ℕ) → map (λ x. x) v ≡ v
same_lanes [] = refl
same_lanes (x ∷ v) = ap (λ rest. x ∷ rest) (same_lanes v)

pub overflow_cast-out : goal.overflow_cast-out
overflow_cast-out c =
    let v = chunk c.args.at 32 c.args.units.now in
    all_small v 32 (length-chunk c.args.at 32 c.args.units.now c.requires.units) c.requires.below

pub returns : goal.returns
returns c = ap (put_chunk c.args.at c.args.out.now) (same_lanes (chunk c.args.at 32 c.args.units.now))
