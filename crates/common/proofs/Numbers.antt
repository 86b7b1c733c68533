-- Digits, one at a time.
use Rattle.std.specs.Prelude.{◌≡◌, ℕ, ◌+◌, ◌*◌, ◌-◌, ◌<◌, ◌≤◌, ◌^◌, List, true, length}
use Rattle.std.proofs.Common.{take, get_or, arith, add-one}
use Rattle.std.specs.Char.{is_ascii_digit, digit_value}
use Rattle.std.proofs.lemmas.List.{length-take-le}
use Rattle.std.proofs.lemmas.List.Folds.{list_all_more}
use Rattle.std.proofs.lemmas.Int.Digits.{digits_value_more}
use Rattle.std.proofs.lemmas.Str.{digit_value_digit}
use Rattle.std.proofs.Math.Nat.{pow-succ', pow-le-pow_right}
use Rattle.common.specs.Numbers.{AreDigits}

pub more_digits : (text : List ℕ) (i value : ℕ) → i < length text → AreDigits (take i text) value
    → is_ascii_digit (get_or text i 0) ≡ true → 48 ≤ get_or text i 0 → get_or text i 0 ≤ 57
    → AreDigits (take (i + 1) text) (10 * value + (get_or text i 0 - 48))
more_digits text i value inside was digit low high =
    let d : digit_value (get_or text i 0) + 48 ≡ get_or text i 0 = digit_value_digit (get_or text i 0) (low, high) in
    let p : 10 ^ (i + 1) ≡ 10 * 10 ^ i = rw add-one (pow-succ' 10 i) in
    let n : length (take i text) ≡ i = length-take-le i text (omega arith) in
    let m : length (take (i + 1) text) ≡ i + 1 = length-take-le (i + 1) text (omega arith) in
    let b : value < 10 ^ i = rw n at was.bound in
    record {
      digits = rw (list_all_more is_ascii_digit text i 0 inside, was.digits, digit);
      value_is = rw digits_value_more (let v = was.value_is in omega arith);
      bound = rw m (omega arith);
    }

pub small_digits : (text : List ℕ) (i value : ℕ) → i < length text → length text ≤ 18 → AreDigits (take i text) value
    → value < 10 ^ 17
small_digits text i value inside short was =
    let n : length (take i text) ≡ i = length-take-le i text (omega arith) in
    let b : value < 10 ^ i = rw n at was.bound in
    let p : 10 ^ i ≤ 10 ^ 17 = pow-le-pow_right {n = 10} (omega arith) {i = i} {j = 17} (omega arith) in
    omega arith
