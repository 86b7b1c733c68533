-- Words of units by lanes.
use Rattle.std.proofs.Common.{ℕ, zero, suc, ◌+◌, ◌-◌, ◌*◌, ◌/◌, ◌%◌, ◌^◌, ◌<◌, ◌≡◌, Bool, cond, ltb, List, []}
use Rattle.std.proofs.Common.{◌∷◌, map, length, replicate, refl, ap, ap₂, sym, ◌∙◌, arith, bit_and, w32}
use Rattle.std.proofs.lemmas.Bool.Decides.{nat_tests}
use Rattle.std.proofs.lemmas.Nat.{and_mask}
use Rattle.std.proofs.lemmas.Simd.{zip2_splat, zip2_of_maps, splat_is_map, tops_compared}
use Rattle.std.proofs.lemmas.List.{map-id}
use Rattle.lane_kernels.proofs.Made.{map_alike}
use lib.Lanes.{Each1, zip2, sel_l, top, number_l, digits_l}
use mir.Syntax.{Width}
use mir.Val.{bits, hbits}
use Rattle.enc_unicode.specs.Packing.{utf8_word, word_bytes}

abbrev pub last : ℕ → ℕ
last x = bit_and x 63

abbrev pub middle : ℕ → ℕ
middle x = bit_and (x / 2 ^ 6) 63

abbrev pub two : ℕ → ℕ
two x = ((x / 2 ^ 6 + last x * 2 ^ 8 % 2 ^ 32) % 2 ^ 32 + 0x80C0) % 2 ^ 32

abbrev pub three : ℕ → ℕ
three x = (((x / 2 ^ 12 + middle x * 2 ^ 8 % 2 ^ 32) % 2 ^ 32 + last x * 2 ^ 16 % 2 ^ 32) % 2 ^ 32 + 0x8080E0) % 2 ^ 32

two_is : (x : ℕ) → x < 65536 → two x ≡ 0x80C0 + x / 64 + 256 * (x % 64)
two_is x small = let a : bit_and x 63 ≡ x % 64 = and_mask x 6 in omega (arith, small, a)

three_is : (x : ℕ) → x < 65536 → three x ≡ 0x8080E0 + x / 4096 + 256 * (x / 64 % 64) + 65536 * (x % 64)
three_is x small =
    let a : bit_and x 63 ≡ x % 64 = and_mask x 6 in
    let b : bit_and (x / 2 ^ 6) 63 ≡ x / 64 % 64 = and_mask (x / 64) 6 in
    omega (arith, small, a, b)

lane : (x : ℕ) → x < 65536 → cond (ltb x 128) x (cond (ltb x 2048) (two x) (three x)) ≡ utf8_word x
lane x small = ap₂ (λ a b. cond (ltb x 128) x (cond (ltb x 2048) a b)) (two_is x small) (three_is x small)

selected : (t : ℕ → Bool) (f g : ℕ → ℕ) (v : List ℕ) → sel_l (map t v) (map f v) (map g v) ≡ map
    (λ x. cond (t x) (f x) (g x)) v
selected t f g [] = refl
selected t f g (x ∷ v) = ap (λ ys. cond (t x) (f x) (g x) ∷ ys) (selected t f g v)

-- lanes chosen by a comparison with one number
pub chosen : (w : Width) (n : ℕ) (v : List ℕ) (y : ℕ) (f g : ℕ → ℕ) {xs ys : List ℕ} → length v ≡ n → xs ≡ map f v
    → ys ≡ map g v →
    sel_l (map (top (hbits w)) (zip2 (λ a b. cond (ltb a b) (2 ^ bits w - 1) 0) v (replicate n y))) xs ys ≡ map
    (λ x. cond (ltb x y) (f x) (g x)) v
chosen w n v y f g {xs = xs} {ys = ys} long p q =
    ap (λ ms. sel_l ms xs ys) (tops_compared w ltb v (replicate n y) ∙ zip2_splat ltb v n y long)
    ∙ ap₂ (sel_l (map (λ x. ltb x y) v)) p q
    ∙ selected (λ x. ltb x y) f g v

abbrev pub right : ℕ → ℕ → ℕ
right x s = x / 2 ^ s

abbrev left : ℕ → ℕ → ℕ
left x s = x * 2 ^ s % 2 ^ 32

abbrev plus : ℕ → ℕ → ℕ
plus a b = (a + b) % 2 ^ 32

module _ (v : List ℕ) (long : length v ≡ 4) where
  lasts : zip2 bit_and v (replicate 4 63) ≡ map last v
  lasts = zip2_splat bit_and v 4 63 long

  middles : zip2 bit_and (zip2 right v (replicate 4 6)) (replicate 4 63) ≡ map middle v
  middles = zip2_of_maps bit_and (λ x. x / 2 ^ 6) (λ _. 63) v (zip2_splat right v 4 6 long) (splat_is_map v 4 63 long)

  pub twos : zip2 plus (zip2 plus (zip2 right v (replicate 4 6)) (zip2 left (zip2 bit_and v (replicate 4 63))
      (replicate 4 8))) (replicate 4 0x80C0) ≡ map two v
  twos = zip2_of_maps plus (λ x. (x / 2 ^ 6 + last x * 2 ^ 8 % 2 ^ 32) % 2 ^ 32) (λ _. 0x80C0) v
      (zip2_of_maps plus (λ x. x / 2 ^ 6) (λ x. last x * 2 ^ 8 % 2 ^ 32) v (zip2_splat right v 4 6 long)
      (zip2_of_maps left last (λ _. 8) v lasts (splat_is_map v 4 8 long)))
      (splat_is_map v 4 0x80C0 long)

  pub threes : zip2 plus (zip2 plus (zip2 plus (zip2 right v (replicate 4 12)) (zip2 left (zip2 bit_and
      (zip2 right v (replicate 4 6)) (replicate 4 63)) (replicate 4 8)))
      (zip2 left (zip2 bit_and v (replicate 4 63)) (replicate 4 16))) (replicate 4 0x8080E0) ≡ map three v
  threes = zip2_of_maps plus
      (λ x. ((x / 2 ^ 12 + middle x * 2 ^ 8 % 2 ^ 32) % 2 ^ 32 + last x * 2 ^ 16 % 2 ^ 32) % 2 ^ 32) (λ _. 0x8080E0) v
      (zip2_of_maps plus (λ x. (x / 2 ^ 12 + middle x * 2 ^ 8 % 2 ^ 32) % 2 ^ 32) (λ x. last x * 2 ^ 16 % 2 ^ 32) v
      (zip2_of_maps plus (λ x. x / 2 ^ 12) (λ x. middle x * 2 ^ 8 % 2 ^ 32) v (zip2_splat right v 4 12 long)
      (zip2_of_maps left middle (λ _. 8) v middles (splat_is_map v 4 8 long)))
      (zip2_of_maps left last (λ _. 16) v lasts (splat_is_map v 4 16 long)))
      (splat_is_map v 4 0x8080E0 long)

  pub words_are : {a b : List ℕ} → a ≡ map two v → b ≡ map three v → Each1 (λ x. x < 65536) v →
      sel_l (map (top (hbits w32)) (zip2 (λ a b. cond (ltb a b) (2 ^ bits w32 - 1) 0) v (replicate 4 128))) v
      (sel_l (map (top (hbits w32)) (zip2 (λ a b. cond (ltb a b) (2 ^ bits w32 - 1) 0) v (replicate 4 2048))) a b)
      ≡ map utf8_word v
  words_are p q small =
      chosen w32 4 v 128 (λ x. x) (λ x. cond (ltb x 2048) (two x) (three x)) long (sym (map-id v))
      (chosen w32 4 v 2048 two three long p q)
      ∙ map_alike 65536 (λ x. cond (ltb x 128) x (cond (ltb x 2048) (two x) (three x))) utf8_word lane v small

-- their bytes
abbrev pub fours : ℕ → ℕ
fours zero = zero
fours (suc n) = suc (suc (suc (suc (fours n))))

digit : (w n : ℕ) → w < 4294967296 →
    (((w + 4294967296 * n) % 256 ≡ w % 256) × ((w + 4294967296 * n) / 256 % 256 ≡ w / 256 % 256))
    × (((w + 4294967296 * n) / 256 / 256 % 256 ≡ w / 65536 % 256)
    × (((w + 4294967296 * n) / 256 / 256 / 256 % 256 ≡ w / 16777216 % 256)
    × ((w + 4294967296 * n) / 256 / 256 / 256 / 256 ≡ n)))
digit w n small = (
  (omega (arith, small), omega (arith, small)),
  (omega (arith, small), (omega (arith, small), omega (arith, small))),
)

pub word_digits : (n : ℕ) (ws : List ℕ) → length ws ≡ n → Each1 (λ w. w < 4294967296) ws
    → digits_l 256 (fours n) (number_l 4294967296 ws) ≡ word_bytes ws
word_digits zero [] long small = refl
word_digits zero (w ∷ ws) long small = absurd (omega (arith, long))
word_digits (suc n) [] long small = absurd (omega (arith, long))
word_digits (suc n) (w ∷ ws) long small =
    let d = digit w (number_l 4294967296 ws) small.0 in
    ap₂ (λ a rest. a ∷ rest) d.0.0 (ap₂ (λ a rest. a ∷ rest) d.0.1 (ap₂ (λ a rest. a ∷ rest) d.1.0
    (ap₂ (λ a rest. a ∷ rest) d.1.1.0 (ap (digits_l 256 (fours n)) d.1.1.1
    ∙ word_digits n ws (omega (arith, long)) small.1))))

word_small : (u : ℕ) → u < 65536 → utf8_word u < 4294967296
word_small u small = grind (arith, nat_tests, small)

pub words_small : (units : List ℕ) → Each1 (λ u. u < 65536) units → Each1 (λ w. w < 4294967296) (map utf8_word units)
words_small [] small = tt
words_small (u ∷ units) small = (word_small u small.0, words_small units small.1)
