-- Bytes that begin with a character in UTF-8.
use Rattle.std.proofs.Common.{ℕ, ◌+◌, ◌/◌, ◌%◌, ◌<◌, ◌≤◌, ◌≡◌, List, [], ◌∷◌, sym, ◌∙◌, ap, subst, arith, take, get_or}
use Rattle.std.specs.Char.{IsScalar}
use Rattle.std.specs.Str.{chars}
use lib.Utf8.{encode}
use Rattle.enc_model.specs.Utf8Chars.{IsUtf8Char, char_in}
use Rattle.enc_model.proofs.Utf8Bytes.{one_char, one_byte, two_bytes, three_bytes, four_bytes}

ready : (c : ℕ) (bytes : List ℕ) (len : ℕ) → IsScalar c → len ≤ 4 → take len bytes ≡ encode c
    → (c ≡ char_in bytes len) × IsUtf8Char bytes len
ready c bytes len s few e =
    let is : char_in bytes len ≡ c = ap (λ z. get_or (chars z) 0 0) e ∙ ap (λ z. get_or z 0 0) (one_char c s) in
    (sym is, record { scalar = subst IsScalar (sym is) s; code = e ∙ ap encode (sym is); few = few })

pub ready_one : (c : ℕ) → IsScalar c → c < 128 → (c ≡ char_in (c ∷ 0 ∷ 0 ∷ 0 ∷ []) 1) × IsUtf8Char (c ∷ 0 ∷ 0 ∷ 0 ∷ [])
    1
ready_one c s l = ready c _ 1 s (omega arith) (sym (one_byte c l))

pub ready_two : (c : ℕ) → IsScalar c → 128 ≤ c → c < 2048 → let b =
    (192 + c / 64) ∷ (128 + c % 64) ∷ 0 ∷ 0 ∷ [] in (c ≡ char_in b 2) × IsUtf8Char b 2
ready_two c s l h = ready c _ 2 s (omega arith) (sym (two_bytes c l h))

pub ready_three : (c : ℕ) → IsScalar c → 2048 ≤ c → c < 65536 →
    let b = (224 + c / 4096) ∷ (128 + c / 64 % 64) ∷ (128 + c % 64) ∷ 0 ∷ [] in (c ≡ char_in b 3) × IsUtf8Char b 3
ready_three c s l h = ready c _ 3 s (omega arith) (sym (three_bytes c l h))

pub ready_four : (c : ℕ) → IsScalar c → 65536 ≤ c →
    let b = (240 + c / 262144) ∷ (128 + c / 4096 % 64) ∷ (128 + c / 64 % 64) ∷ (128 + c % 64) ∷ [] in (c ≡ char_in b
    4) × IsUtf8Char b 4
ready_four c s l = ready c _ 4 s (omega arith) (sym (four_bytes c l))

-- a character of each length
pub ruleset ready_each = (ready_one, ready_two, ready_three, ready_four)
