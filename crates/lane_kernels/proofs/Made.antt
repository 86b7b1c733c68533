-- Units made of bytes, two by two.
use Rattle.std.proofs.Common.{◌≡◌, ℕ, zero, suc, ◌+◌, ◌*◌, ◌/◌, ◌%◌, ◌<◌, Bool, true, false, List, [], ◌∷◌, ◌++◌}
use Rattle.std.proofs.Common.{Option, Some, None, map, length, take, get_or, refl, ap, ap₂, sym, ◌∙◌, arith}
use Rattle.std.proofs.lemmas.List.{take_all, take_more, length-take-le}
use lib.Lanes.{number_l, digits_l, Each1}
use Rattle.enc_model.specs.Utf16.{unit_of}
use Rattle.lane_kernels.specs.Units.{units_of, left_over, with_carried}

digit : (a b n : ℕ) → a < 256 → b < 256
    → ((a + 256 * (b + 256 * n)) % 65536 ≡ b * 256 + a) × ((a + 256 * (b + 256 * n)) / 65536 ≡ n)
digit a b n ha hb = (omega (arith, ha, hb), omega (arith, ha, hb))

-- the lower byte first
pub low_units : (n : ℕ) (xs : List ℕ) → length xs ≡ 2 * n → Each1 (λ x. x < 256) xs
    → digits_l 65536 n (number_l 256 xs) ≡ units_of false xs
low_units zero [] long below = refl
low_units zero (a ∷ xs) long below = absurd (omega (arith, long))
low_units (suc n) [] long below = absurd (omega (arith, long))
low_units (suc n) (a ∷ []) long below = absurd (omega (arith, long))
low_units (suc n) (a ∷ b ∷ xs) long below =
    let d = digit a b (number_l 256 xs) below.0 below.1.0 in
    ap₂ (λ unit rest. unit ∷ rest) d.0 (ap (digits_l 65536 n) d.1 ∙ low_units n xs (omega (arith, long)) below.1.1)

-- lanes below a bound, of which two functions give the same
pub map_alike : (n : ℕ) (f g : ℕ → ℕ) → ((x : ℕ) → x < n → f x ≡ g x) → (v : List ℕ) → Each1 (λ x. x < n) v
    → map f v ≡ map g v
map_alike n f g same [] small = refl
map_alike n f g same (x ∷ v) small = ap₂ (λ y ys. y ∷ ys) (same x small.0) (map_alike n f g same v small.1)

turned : (a b : ℕ) → a < 256 → b < 256 → (b * 256 + a) % 256 * 256 + (b * 256 + a) / 256 ≡ a * 256 + b
turned a b ha hb = omega (arith, ha, hb)

-- changed round, the higher byte first
pub high_units : (xs : List ℕ) → Each1 (λ x. x < 256) xs → map (λ unit. unit % 256 * 256 + unit / 256)
    (units_of false xs) ≡ units_of true xs
high_units [] below = refl
high_units (a ∷ []) below = refl
high_units (a ∷ b ∷ xs) below = ap₂ (λ unit rest. unit ∷ rest) (turned a b below.0 below.1.0) (high_units xs below.1.1)

-- of an even number of bytes none is left over, and one more makes no unit
pub none_left : (n : ℕ) (xs : List ℕ) → length xs ≡ 2 * n → left_over xs ≡ None
none_left n [] long = refl
none_left n (a ∷ []) long = absurd (omega (arith, long))
none_left zero (a ∷ b ∷ xs) long = absurd (omega (arith, long))
none_left (suc n) (a ∷ b ∷ xs) long = none_left n xs (omega (arith, long))

pub one_left : (n : ℕ) (xs : List ℕ) (y : ℕ) → length xs ≡ 2 * n → left_over (xs ++ y ∷ []) ≡ Some y
one_left n [] y long = refl
one_left n (a ∷ []) y long = absurd (omega (arith, long))
one_left zero (a ∷ b ∷ xs) y long = absurd (omega (arith, long))
one_left (suc n) (a ∷ b ∷ xs) y long = one_left n xs y (omega (arith, long))

pub one_more : (big : Bool) (n : ℕ) (xs : List ℕ) (y : ℕ) → length xs ≡ 2 * n
    → units_of big (xs ++ y ∷ []) ≡ units_of big xs
one_more big n [] y long = refl
one_more big n (a ∷ []) y long = absurd (omega (arith, long))
one_more big zero (a ∷ b ∷ xs) y long = absurd (omega (arith, long))
one_more big (suc n) (a ∷ b ∷ xs) y long =
    ap (λ rest. unit_of big a b ∷ rest) (one_more big n xs y (omega (arith, long)))

pub length-units_of : (big : Bool) (n : ℕ) (xs : List ℕ) → length xs ≡ 2 * n → length (units_of big xs) ≡ n
length-units_of big zero [] long = refl
length-units_of big (suc n) [] long = absurd (omega (arith, long))
length-units_of big n (a ∷ []) long = absurd (omega (arith, long))
length-units_of big zero (a ∷ b ∷ xs) long = absurd (omega (arith, long))
length-units_of big (suc n) (a ∷ b ∷ xs) long = ap suc (length-units_of big n xs (omega (arith, long)))

-- 64 bytes after what is carried: the units are those of the first 64 of all
module _ (bytes : List ℕ) (long : length bytes ≡ 64) where
  split_last : bytes ≡ take 63 bytes ++ get_or bytes 63 0 ∷ []
  split_last = sym (take_all 64 bytes (omega (arith, long))) ∙ take_more bytes 63 0 (omega (arith, long))

  prefix_long : (first : ℕ) → length (first ∷ take 63 bytes) ≡ 2 * 32
  prefix_long first = omega (arith, length-take-le 63 bytes (omega (arith, long)))

  pub joined_units : (big : Bool) (odd : Option ℕ) → units_of big (take 64 (with_carried odd bytes)) ≡ units_of big
      (with_carried odd bytes)
  joined_units big None = ap (units_of big) (take_all 64 bytes (omega (arith, long)))
  joined_units big (Some first) =
      sym (ap (λ rest. units_of big (first ∷ rest)) split_last ∙ one_more big 32 (first ∷ take 63 bytes)
      (get_or bytes 63 0) (prefix_long first))

  pub joined_long : (odd : Option ℕ) → length (take 64 (with_carried odd bytes)) ≡ 2 * 32
  joined_long None = length-take-le 64 bytes (omega (arith, long)) ∙ omega arith
  joined_long (Some first) = prefix_long first

  pub left_of_none : left_over bytes ≡ None
  left_of_none = none_left 32 bytes (omega (arith, long))

  pub left_of_one : (first : ℕ) → left_over (first ∷ bytes) ≡ Some (get_or bytes 63 0)
  left_of_one first = ap (λ rest. left_over (first ∷ rest)) split_last ∙ one_left 32 (first ∷ take 63 bytes)
      (get_or bytes 63 0) (prefix_long first)
