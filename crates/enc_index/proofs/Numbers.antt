-- Reading a number digit by digit.
use Rattle.std.proofs.Common.{◌≡◌, ℕ, ◌+◌, ◌*◌, ◌^◌, ◌<◌, ◌≤◌, List, length, drop, get_or, Some, None, arith, refl}
use Rattle.std.proofs.lemmas.Bool.Decides.{nat_tests}
use Rattle.std.proofs.lemmas.List.{drop_more, drop_all}
use Rattle.std.proofs.lemmas.Grind.{pow_more}
use Rattle.std.proofs.Math.Nat.{mul-le-mul_right, pow-le-pow_right}
use Rattle.std.specs.Char.{digit_value}
use Rattle.enc_index.specs.Files.{number_onward}

-- one digit more
pub grown : (radix value i digit : ℕ) → value < radix ^ i → digit < radix → value * radix + digit < radix ^ (i + 1)
grown radix value i digit h d =
    let more : (value + 1) * radix ≤ radix ^ i * radix = mul-le-mul_right radix (omega arith) in
    rw pow_more (grind (arith, more, d))

pub still_fits : (radix i most : ℕ) → 2 ≤ radix → i < most → radix ^ most ≤ 2 ^ 32 → radix ^ (i + 1) ≤ 2 ^ 32
still_fits radix i most r h fits =
    let below : radix ^ (i + 1) ≤ radix ^ most = pow-le-pow_right (omega arith) (omega arith) in
    omega arith

pub room_for_digit : (radix value i digit most : ℕ) → 2 ≤ radix → radix ^ most ≤ 2 ^ 32 → i < most → value < radix ^ i
    → digit < radix → value * radix + digit < 2 ^ 32
room_for_digit radix value i digit most r fits h v d = let a = grown radix value i digit v d in let b =
    still_fits radix i most r h fits in omega arith

pub room_for_radix : (radix value i most : ℕ) → 2 ≤ radix → radix ^ most ≤ 2 ^ 32 → i < most → value < radix ^ i
    → value * radix < 2 ^ 32
room_for_radix radix value i most r fits h v = let a =
    room_for_digit radix value i 0 most r fits h v (omega arith) in omega arith

pub onward_next : (radix value : ℕ) (digits : List ℕ) (i : ℕ) → i < length digits
    → digit_value (get_or digits i 0) < radix →
    number_onward radix value (drop i digits) ≡ number_onward radix (value * radix + digit_value (get_or digits i 0))
    (drop (i + 1) digits)
unfolding number_onward
onward_next radix value digits i h d = rw (drop_more digits i 0 h) (grind (arith, nat_tests, d))

pub onward_bad : (radix value : ℕ) (digits : List ℕ) (i : ℕ) → i < length digits
    → (digit_value (get_or digits i 0) < radix → ⊥) → number_onward radix value (drop i digits) ≡ None
unfolding number_onward
onward_bad radix value digits i h d = rw (drop_more digits i 0 h) (grind (arith, nat_tests, d))

pub onward_end : (radix value : ℕ) (digits : List ℕ) (i : ℕ) → length digits ≤ i
    → number_onward radix value (drop i digits) ≡ Some value
unfolding number_onward
onward_end radix value digits i h = rw (drop_all i digits h) refl

-- a number, digit by digit
pub ruleset by_digits = (room_for_digit, room_for_radix, grown, onward_next, onward_bad, onward_end)
