-- Single digits and pairs by the definitions of hex.
use Rattle.std.proofs.Common.{◌≡◌, ℕ, ◌+◌, ◌*◌, ◌<◌, List, [], ◌∷◌, Option, Some, None, Result, Ok, Err, slice_index}
use Rattle.std.proofs.Common.{length, drop, take, slice_set, ◌∙◌, arith}
use Rattle.std.proofs.Common.{inl, inr}
use Rattle.std.proofs.lemmas.Bool.{cases_lt}
use Rattle.std.proofs.lemmas.List.{get_or-set_other, get_or-set_same}
use Rattle.hex.specs.Hex.{decode_pairs, decode_sized, digit_or_error, hex_digit_value, pair_value, ◌>>=◌}
use Rattle.hex.specs.declared.error.FromHexError.{FromHexError}
use Rattle.hex.proofs.Pairs.{decode_err, prepend}
use Rattle.gateway_script.specs.Digits.{HaveValues}
use Rattle.tus_request.specs.Value.{answered}

-- the first byte that was read
abbrev pub first_of : Result (List ℕ) FromHexError → Option ℕ
first_of (Ok bytes) = Some (slice_index bytes 0)
first_of (Err e) = None

after_zero : (digit : ℕ) (value : Option ℕ)
    → first_of ((digit_or_error digit 1 value >>= (λ l. Ok (0 * 16 + l))) >>= (λ byte. Ok (byte ∷ []))) ≡ value
after_zero digit value = grind arith

-- a digit after a zero is read as itself
pub digit_alone : (digit : ℕ) → first_of (decode_sized (48 ∷ digit ∷ []) 1) ≡ hex_digit_value digit
unfolding decode_pairs
digit_alone digit = after_zero digit (hex_digit_value digit)

-- what is answered is what was read
pub read_is : (r : Result ℕ FromHexError) (v : ℕ) → Some v ≡ answered r → r ≡ Ok v
read_is r v h = grind arith

-- a pair that isn't of digits ends the reading
pub read_ends : (text out : List ℕ) (i : ℕ) (r : Result ℕ FromHexError) → 2 * i + 1 < length text
    → pair_value (slice_index text (2 * i)) (slice_index text (2 * i + 1)) (2 * i) ≡ r → None ≡ answered r
    → decode_pairs 0 text ≡ prepend (take i out) (decode_pairs (2 * i) (drop (2 * i) text))
    → answered (decode_pairs 0 text) ≡ None
read_ends text out i r fits e none read = grind (arith, decode_err)

-- one value more
pub values_more : (values : List (Option ℕ)) (at : ℕ) (value : Option ℕ) → at < length values → HaveValues values at
    → value ≡ hex_digit_value at → HaveValues (slice_set values at value) (at + 1)
values_more values at value room have is byte below =
    elim (cases_lt byte at) [
      | inl before ↦ get_or-set_other values at byte value None (λ same. omega arith) ∙ have byte before
      | inr after ↦
          let e : byte ≡ at = omega arith in
          rw e (get_or-set_same values at value None room ∙ is)
    ]
