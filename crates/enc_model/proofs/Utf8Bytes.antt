-- The bytes of a character, and of ASCII.
use Rattle.std.proofs.Common.{ℕ, ◌+◌, ◌*◌, ◌/◌, ◌%◌, ◌<◌, ◌≤◌, ◌≡◌, true, List, [], ◌∷◌, ◌++◌, refl, sym, ◌∙◌, ap}
use Rattle.std.proofs.Common.{arith, append-nil, All}
use Rattle.std.proofs.lemmas.Bool.Decides.{nat_tests}
use Rattle.std.proofs.lemmas.Bool.{and_from}
use Rattle.std.proofs.lemmas.List.Elements.{All-head, All-tail}
use Rattle.std.proofs.lemmas.Str.{chars-encodes}
use Rattle.std.specs.Str.{IsUtf8, chars}
use Rattle.std.specs.Char.{IsScalar}
use lib.Utf8.{encode, encodes, scalar, scalars, low_scalar}

pub one_byte : (c : ℕ) → c < 128 → encode c ≡ c ∷ []
unfolding encode
one_byte c l = grind (arith, nat_tests)

pub two_bytes : (c : ℕ) → 128 ≤ c → c < 2048 → encode c ≡ (192 + c / 64) ∷ (128 + c % 64) ∷ []
unfolding encode
two_bytes c l h = grind (arith, nat_tests)

pub three_bytes : (c : ℕ) → 2048 ≤ c → c < 65536 → encode
    c ≡ (224 + c / 4096) ∷ (128 + c / 64 % 64) ∷ (128 + c % 64) ∷ []
unfolding encode
three_bytes c l h = grind (arith, nat_tests)

pub four_bytes : (c : ℕ) → 65536 ≤ c → encode
    c ≡ (240 + c / 262144) ∷ (128 + c / 4096 % 64) ∷ (128 + c / 64 % 64) ∷ (128 + c % 64) ∷ []
unfolding encode
four_bytes c l = grind (arith, nat_tests)

pub one_char : (c : ℕ) → IsScalar c → chars (encode c) ≡ c ∷ []
one_char c s = ap chars (sym (append-nil (encode c))) ∙ chars-encodes (c ∷ []) (and_from (scalar c) true s refl)

ascii_scalars : (bs : List ℕ) → All (λ b. b < 128) bs → (scalars bs ≡ true) × (encodes bs ≡ bs)
ascii_scalars [] a = (refl, refl)
ascii_scalars (b ∷ bs) a =
    let l = All-head (λ x. x < 128) b bs a in
    let i = ascii_scalars bs (All-tail (λ x. x < 128) b bs a) in (
      and_from (scalar b) (scalars bs) (low_scalar b (omega (arith, l))) i.0,
      ap (λ z. z ++ encodes bs) (one_byte b l)
          ∙ ap (λ z. b ∷ z) i.1,
    )

pub ascii_utf8 : (bs : List ℕ) → All (λ b. b < 128) bs → IsUtf8 bs
ascii_utf8 bs a = let i = ascii_scalars bs a in (bs, (i.0, i.1))

pub ascii_chars : (bs : List ℕ) → All (λ b. b < 128) bs → chars bs ≡ bs
ascii_chars bs a = let i = ascii_scalars bs a in ap chars (sym i.1) ∙ chars-encodes bs i.0
