-- Characters of three bytes at a text's start.
use Rattle.std.proofs.Common.{ℕ, ◌≡◌, ◌<◌, ◌≤◌, ◌+◌, ◌*◌, ◌/◌, ◌%◌, List, [], ◌∷◌, ◌++◌, sym, ◌∙◌, ap, arith}
use Rattle.std.proofs.Common.{get_or, drop, inl, inr, Option, Some, None, IfSome}
use Rattle.std.proofs.lemmas.Bool.{cases_lt}
use Rattle.std.specs.Str.{IsUtf8}
use lib.Utf8.{encode}
use Rattle.enc_model.proofs.Utf8Bytes.{one_byte, two_bytes, three_bytes, four_bytes}
use Rattle.enc_encode.specs.Runs.{FirstGiven}
use Rattle.enc_encode.proofs.Twos.{begins}

-- it is the one of three bytes that the first three bytes count
three_first : (a b d : ℕ) (more : List ℕ) (c : ℕ) (rest : List ℕ) → a ∷ b ∷ d ∷ more ≡ encode c ++ rest
    → b < 256 → d < 256 → 938112 ≤ a * 4096 + b * 64 + d → a * 4096 + b * 64 + d ≤ 991200 →
    (a * 4096 + b * 64 + d ≡ c + 925824) × (more ≡ rest)
three_first a b d more c rest e second third low high =
    elim (cases_lt c 128) [
      | inl l ↦
          let h : a ≡ c = ap (λ z. get_or z 0 0) (e ∙ ap (λ z. z ++ rest) (one_byte c l)) in
          absurd (omega (arith, h, l, second, third, low))
      | inr m ↦ elim (cases_lt c 2048) [
        | inl l ↦
            let h : a ≡ 192 + c / 64 = ap (λ z. get_or z 0 0) (e ∙ ap (λ z. z ++ rest) (two_bytes c m l)) in
            absurd (omega (arith, h, l, second, third, low))
        | inr n ↦ elim (cases_lt c 65536) [
          | inl l ↦
              let f : a ∷ b ∷ d ∷ more ≡ ((224 + c / 4096) ∷ (128 + c / 64 % 64) ∷ (128 + c % 64) ∷ []) ++ rest =
              e ∙ ap (λ z. z ++ rest) (three_bytes c n l) in
              let h : a ≡ 224 + c / 4096 = ap (λ z. get_or z 0 0) f in
              let k : b ≡ 128 + c / 64 % 64 = ap (λ z. get_or z 1 0) f in
              let j : d ≡ 128 + c % 64 = ap (λ z. get_or z 2 0) f in
              (omega (arith, h, k, j), ap (drop 3) f)
          | inr l ↦
              let f : a ∷ b ∷ d ∷ more ≡ ((240 + c / 262144) ∷ (128 + c / 4096 % 64) ∷ (128 + c / 64 % 64)
              ∷ (128 + c % 64) ∷ []) ++ rest =
              e ∙ ap (λ z. z ++ rest) (four_bytes c l) in
              let h : a ≡ 240 + c / 262144 = ap (λ z. get_or z 0 0) f in
              let k : b ≡ 128 + c / 4096 % 64 = ap (λ z. get_or z 1 0) f in
              absurd (omega (arith, h, k, l, high))
        ]
      ]
    ]

pub three_begin : (a b d c : ℕ) (more : List ℕ) → IsUtf8 (a ∷ b ∷ d ∷ more) → b < 256 → d < 256
    → a * 4096 + b * 64 + d ≡ c + 925824 → 12288 ≤ c → c ≤ 65376 → a ∷ b ∷ d ∷ more ≡ encode c ++ more
three_begin a b d c more u second third code low high =
    let x = begins a (b ∷ d ∷ more) u in
    let t = three_first a b d more x.0 x.1 x.2 second third (omega (arith, code, low)) (omega (arith, code, high)) in
    let same : x.0 ≡ c = let own = t.0 in omega (arith, own, code) in
    x.2 ∙ ap (λ z. encode z ++ x.1) same ∙ ap (λ z. encode c ++ z) (sym t.1)

-- its two bytes, where there are some
pub first_given : (gives : ℕ → List ℕ → Type 0) (a b d c : ℕ) (r : Option (ℕ × ℕ)) → b < 256 → d < 256
    → a * 4096 + b * 64 + d ≡ c + 925824 → 12288 ≤ c → c ≤ 65376 → IfSome r (λ p. gives c (p.0 ∷ p.1 ∷ [])) →
    IfSome r (λ p. (more : List ℕ) → IsUtf8 (a ∷ b ∷ d ∷ more) →
    FirstGiven gives (a ∷ b ∷ d ∷ more) (p.0 ∷ p.1 ∷ []) more)
first_given gives a b d c None second third code low high g = tt
first_given gives a b d c (Some p) second third code low high g =
    λ more u. record { c = c; parts = three_begin a b d c more u second third code low high; given = g }
