-- Words of units below 800 by lanes.
use Rattle.std.proofs.Common.{ℕ, zero, suc, ◌+◌, ◌*◌, ◌-◌, ◌/◌, ◌%◌, ◌^◌, ◌<◌, ◌≡◌, cond, ltb, List, []}
use Rattle.std.proofs.Common.{◌∷◌, map, length, replicate, refl, ap, ap₂, sym, ◌∙◌, arith, bit_and, w16}
use Rattle.std.proofs.lemmas.Bool.Decides.{nat_tests}
use Rattle.std.proofs.lemmas.Nat.{and_mask}
use Rattle.std.proofs.lemmas.Simd.{zip2_splat, zip2_of_maps, splat_is_map}
use Rattle.std.proofs.lemmas.List.{map-id}
use Rattle.lane_kernels.proofs.Made.{map_alike}
use lib.Lanes.{Each1, zip2, sel_l, top, number_l, digits_l}
use mir.Val.{bits, hbits}
use Rattle.enc_unicode.specs.Packing.{narrow_word, narrow_word_bytes}
use Rattle.enc_unicode.proofs.Words.{chosen, last, right}

abbrev pub two : ℕ → ℕ
two x = ((x / 2 ^ 6 + last x * 2 ^ 8 % 2 ^ 16) % 2 ^ 16 + 0x80C0) % 2 ^ 16

two_is : (x : ℕ) → x < 2048 → two x ≡ 0x80C0 + x / 64 + 256 * (x % 64)
two_is x small = let a : bit_and x 63 ≡ x % 64 = and_mask x 6 in omega (arith, small, a)

lane : (x : ℕ) → x < 2048 → cond (ltb x 128) x (two x) ≡ narrow_word x
lane x small = ap (λ a. cond (ltb x 128) x a) (two_is x small)

abbrev left : ℕ → ℕ → ℕ
left x s = x * 2 ^ s % 2 ^ 16

abbrev plus : ℕ → ℕ → ℕ
plus a b = (a + b) % 2 ^ 16

module _ (v : List ℕ) (long : length v ≡ 8) where
  pub twos : zip2 plus (zip2 plus (zip2 right v (replicate 8 6)) (zip2 left (zip2 bit_and v (replicate 8 63))
      (replicate 8 8))) (replicate 8 0x80C0) ≡ map two v
  twos = zip2_of_maps plus (λ x. (x / 2 ^ 6 + last x * 2 ^ 8 % 2 ^ 16) % 2 ^ 16) (λ _. 0x80C0) v
      (zip2_of_maps plus (λ x. x / 2 ^ 6) (λ x. last x * 2 ^ 8 % 2 ^ 16) v (zip2_splat right v 8 6 long)
      (zip2_of_maps left last (λ _. 8) v (zip2_splat bit_and v 8 63 long) (splat_is_map v 8 8 long)))
      (splat_is_map v 8 0x80C0 long)

  pub words_are : {a : List ℕ} → a ≡ map two v → Each1 (λ x. x < 2048) v →
      sel_l (map (top (hbits w16)) (zip2 (λ a b. cond (ltb a b) (2 ^ bits w16 - 1) 0) v (replicate 8 128))) v a
      ≡ map narrow_word v
  words_are p small = chosen w16 8 v 128 (λ x. x) two long (sym (map-id v)) p
      ∙ map_alike 2048 (λ x. cond (ltb x 128) x (two x)) narrow_word lane v small

-- their bytes
abbrev pub pairs : ℕ → ℕ
pairs zero = zero
pairs (suc n) = suc (suc (pairs n))

digit : (w n : ℕ) → w < 65536 → ((w + 65536 * n) % 256 ≡ w % 256)
    × (((w + 65536 * n) / 256 % 256 ≡ w / 256 % 256) × ((w + 65536 * n) / 256 / 256 ≡ n))
digit w n small = (omega (arith, small), (omega (arith, small), omega (arith, small)))

pub word_digits : (n : ℕ) (ws : List ℕ) → length ws ≡ n → Each1 (λ w. w < 65536) ws
    → digits_l 256 (pairs n) (number_l 65536 ws) ≡ narrow_word_bytes ws
word_digits zero [] long small = refl
word_digits zero (w ∷ ws) long small = absurd (omega (arith, long))
word_digits (suc n) [] long small = absurd (omega (arith, long))
word_digits (suc n) (w ∷ ws) long small =
    let d = digit w (number_l 65536 ws) small.0 in
    ap₂ (λ a rest. a ∷ rest) d.0 (ap₂ (λ a rest. a ∷ rest) d.1.0 (ap (digits_l 256 (pairs n)) d.1.1
    ∙ word_digits n ws (omega (arith, long)) small.1))

word_small : (u : ℕ) → u < 2048 → narrow_word u < 65536
word_small u small = grind (arith, nat_tests, small)

pub words_small : (units : List ℕ) → Each1 (λ u. u < 2048) units → Each1 (λ w. w < 65536) (map narrow_word units)
words_small [] small = tt
words_small (u ∷ units) small = (word_small u small.0, words_small units small.1)
