-- What leads and trails count, and bytes, by lanes.
use Rattle.std.proofs.Common.{ℕ, zero, suc, ◌≡◌, ◌<◌, ◌≤◌, ◌-◌, ◌+◌, ◌*◌, ◌/◌, ◌%◌, ◌^◌, false, List, [], ◌∷◌}
use Rattle.std.proofs.Common.{map, length}
use Rattle.std.proofs.Common.{replicate, get_or, refl, ap, ap₂, sym, ◌∙◌, subst, arith, bit_and, Fits, w8, ltb, true}
use Rattle.std.proofs.lemmas.Bool.Decides.{nat_tests}
use Rattle.std.proofs.lemmas.List.{map-id, length-map, get_or-map}
use Rattle.std.proofs.lemmas.List.Sums.{prefix_len-le-length, prefix_len_passes}
use Rattle.std.proofs.lemmas.Nat.{and_mask}
use Rattle.std.proofs.lemmas.Simd.{zip2_splat, zip2_of_maps, splat_is_map, Each1-get_or}
use Rattle.std.specs.List.{prefix_len}
use lib.Lanes.{Each1, zip2, number_l, digits_l}
use Rattle.lane_kernels.specs.Units.{units_of}
use Rattle.lane_kernels.proofs.Made.{length-units_of, low_units}
use Rattle.enc_encode.specs.Letters.{IsLetter, pair_codes}

-- LEADS AND TRAILS

abbrev pub last : ℕ → ℕ
last x = bit_and x 255

abbrev pub left : ℕ → ℕ → ℕ
left x s = x * 2 ^ s % 2 ^ 16

abbrev pub right : ℕ → ℕ → ℕ
right x s = x / 2 ^ s

abbrev pub plus : ℕ → ℕ → ℕ
plus a b = (a + b) % 2 ^ 16

abbrev code_in : ℕ → ℕ
code_in x = (last x * 2 ^ 6 % 2 ^ 16 + x / 2 ^ 8) % 2 ^ 16

each : (a b : ℕ) → a < 256 → b < 256 → code_in (b * 256 + a) ≡ a * 64 + b
each a b ha hb =
    let m : bit_and (b * 256 + a) 255 ≡ (b * 256 + a) % 256 = and_mask (b * 256 + a) 8 in
    omega (arith, m, ha, hb)

all : (xs : List ℕ) → Each1 (λ x. x < 256) xs → map code_in (units_of false xs) ≡ pair_codes xs
all [] below = refl
all (a ∷ []) below = refl
all (a ∷ b ∷ xs) below = ap₂ (λ y ys. y ∷ ys) (each a b below.0 below.1.0) (all xs below.1.1)

abbrev units : List ℕ → List ℕ
units lanes = digits_l 65536 16 (number_l 256 lanes)

pub codes_are : (lanes : List ℕ) → length lanes ≡ 32 → Each1 (λ x. x < 256) lanes →
    zip2 plus (zip2 left (zip2 bit_and (digits_l 65536 16 (number_l 256 lanes)) (replicate 16 255)) (replicate 16 6))
    (zip2 right (digits_l 65536 16 (number_l 256 lanes)) (replicate 16 8)) ≡ pair_codes lanes
codes_are lanes long below =
    let v = units lanes in
    let is : v ≡ units_of false lanes = low_units 16 lanes long below in
    let many : length v ≡ 16 = ap length is ∙ length-units_of false 16 lanes long in
    zip2_of_maps plus (λ x. last x * 2 ^ 6 % 2 ^ 16) (λ x. x / 2 ^ 8) v
    (zip2_of_maps left last (λ _. 6) v (zip2_splat bit_and v 16 255 many) (splat_is_map v 16 6 many))
    (zip2_splat right v 16 8 many)
    ∙ ap (map code_in) is ∙ all lanes below

-- BYTES

abbrev low_byte : ℕ → ℕ → ℕ
low_byte b p = bit_and ((p + b) % 2 ^ 16) 255

low_is : (b p : ℕ) → low_byte b p ≡ (p + b) % 256
low_is b p = let m : bit_and ((p + b) % 65536) 255 ≡ (p + b) % 65536 % 256 = and_mask ((p + b) % 65536) 8 in
    omega (arith, m)

lows : (b : ℕ) (v : List ℕ) → map (low_byte b) v ≡ map (λ p. (p + b) % 256) v
lows b [] = refl
lows b (p ∷ v) = ap₂ (λ y ys. y ∷ ys) (low_is b p) (lows b v)

fit : (b : ℕ) (v : List ℕ) → Each1 (Fits w8) (map (λ p. (p + b) % 256) v)
fit b [] = tt
fit b (p ∷ v) = (record { fits = omega arith }, fit b v)

module _ (b : ℕ) (v : List ℕ) (long : length v ≡ 16) where
  masked : zip2 bit_and (zip2 plus v (replicate 16 b)) (replicate 16 255) ≡ map (λ p. (p + b) % 256) v
  masked =
      zip2_of_maps bit_and (λ p. (p + b) % 2 ^ 16) (λ _. 255) v (zip2_splat plus v 16 b long)
      (splat_is_map v 16 255 long) ∙ lows b v

  pub bytes_fit : Each1 (Fits w8) (zip2 bit_and (zip2 plus v (replicate 16 b)) (replicate 16 255))
  bytes_fit = subst (Each1 (Fits w8)) (sym masked) (fit b v)

  pub bytes_are : map (λ x. x) (zip2 bit_and (zip2 plus v (replicate 16 b)) (replicate 16 255))
      ≡ map (λ p. (p + b) % 256) v
  bytes_are = map-id (zip2 bit_and (zip2 plus v (replicate 16 b)) (replicate 16 255)) ∙ masked

-- LETTERS

pub pair_long : (n : ℕ) (xs : List ℕ) → length xs ≡ 2 * n → length (pair_codes xs) ≡ n
pair_long zero [] long = refl
pair_long zero (a ∷ xs) long = absurd (omega (arith, long))
pair_long (suc n) [] long = absurd (omega (arith, long))
pair_long (suc n) (a ∷ []) long = absurd (omega (arith, long))
pair_long (suc n) (a ∷ b ∷ xs) long =
    let rest = pair_long n xs (omega (arith, long)) in omega (arith, rest)

pub pair_at : (xs : List ℕ) (k : ℕ) → 2 * k + 1 < length xs
    → get_or (pair_codes xs) k 0 ≡ get_or xs (2 * k) 0 * 64 + get_or xs (2 * k + 1) 0
pair_at [] k l = absurd (omega (arith, l))
pair_at (a ∷ []) k l = absurd (omega (arith, l))
pair_at (a ∷ b ∷ xs) zero l = refl
pair_at (a ∷ b ∷ xs) (suc k) l =
    let e : suc (suc (2 * k)) ≡ 2 * suc k = omega arith in
    let f : suc (suc (2 * k + 1)) ≡ 2 * suc k + 1 = omega arith in
    pair_at xs k (omega (arith, l))
    ∙ ap₂ (λ i j. get_or (a ∷ b ∷ xs) i 0 * 64 + get_or (a ∷ b ∷ xs) j 0) e f

abbrev minus : ℕ → ℕ → ℕ
minus a b = (a + (2 ^ 16 - b)) % 2 ^ 16

module _ (lanes places : List ℕ) (low count : ℕ) (long : length lanes ≡ 32)
    (are : places ≡ zip2 minus (pair_codes lanes) (replicate 16 low)) where
  places_are : places ≡ map (λ x. minus x low) (pair_codes lanes)
  places_are = are ∙ zip2_splat minus (pair_codes lanes) 16 low (pair_long 16 lanes long)

  places_long : length places ≡ 16
  places_long = ap length places_are ∙ length-map (pair_codes lanes) (λ x. minus x low) ∙ pair_long 16 lanes long

  pub few_below : prefix_len (λ p. ltb p count) places ≤ 16
  few_below = let l = prefix_len-le-length (λ p. ltb p count) places in omega (arith, l, places_long)

  pub bytes_long : (bytes : List ℕ) (byte : ℕ) → bytes ≡ map (λ p. (p + byte) % 256) places → length bytes ≡ 16
  bytes_long bytes byte own = ap length own ∙ length-map places (λ p. (p + byte) % 256) ∙ places_long

  -- each before the first place that isn't below
  pub letter_at : (bytes : List ℕ) (byte k : ℕ) → Each1 (λ x. x < 256) lanes → low + count ≤ 14464
      → k < prefix_len (λ p. ltb p count) places → bytes ≡ map (λ p. (p + byte) % 256) places →
      IsLetter low byte count (get_or lanes (2 * k) 0) (get_or lanes (2 * k + 1) 0) (get_or bytes k 0)
  letter_at bytes byte k below high before own =
      let place = get_or places k 0 in
      let lead = get_or lanes (2 * k) 0 in
      let trail = get_or lanes (2 * k + 1) 0 in
      let few = few_below in
      let in_places : k < length places = omega (arith, before, few, places_long) in
      let in_codes : k < length (pair_codes lanes) = omega (arith, before, few, pair_long 16 lanes long) in
      let passes : ltb place count ≡ true = prefix_len_passes (λ p. ltb p count) places k 0 before in
      let inside : place < count = grind (arith, nat_tests, passes) in
      let is : place ≡ minus (lead * 64 + trail) low =
      ap (λ l. get_or l k 0) places_are ∙ get_or-map (λ x. minus x low) (pair_codes lanes) k 0 0 in_codes
      ∙ ap (λ x. minus x low) (pair_at lanes k (omega (arith, before, few, long))) in
      let a : lead < 256 = Each1-get_or (λ x. x < 256) lanes (2 * k) 0 (omega (arith, before, few, long)) below in
      let b : trail < 256 = Each1-get_or (λ x. x < 256) lanes (2 * k + 1) 0 (omega (arith, before, few, long)) below in
      record {
        place = place;
        inside = inside;
        small = b;
        code = omega (arith, is, inside, a, b, high);
        own = ap (λ l. get_or l k 0) own ∙ get_or-map (λ p. (p + byte) % 256) places k 0 0 in_places ∙ omega arith;
      }
