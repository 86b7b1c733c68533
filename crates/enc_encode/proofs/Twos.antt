-- Characters of two bytes at a text's start.
use Rattle.std.proofs.Common.{ℕ, ◌≡◌, ◌<◌, ◌≤◌, ◌+◌, ◌*◌, ◌/◌, ◌%◌, List, [], ◌∷◌, ◌++◌, sym, ◌∙◌, ap, arith}
use Rattle.std.proofs.Common.{get_or, drop, inl, inr}
use Rattle.std.proofs.lemmas.Bool.{cases_lt}
use Rattle.std.specs.Str.{IsUtf8}
use lib.Utf8.{encode, encodes}
use Rattle.enc_model.proofs.Utf8Bytes.{one_byte, two_bytes, three_bytes, four_bytes}

-- a text that isn't empty begins with a character
pub begins : (b : ℕ) (more : List ℕ) → IsUtf8 (b ∷ more) → (c : ℕ) × (rest : List ℕ) × (b ∷ more ≡ encode c ++ rest)
begins b more ([], p) = absurd (let e = p.1 in cc)
begins b more (c ∷ cs, p) = (c, encodes cs, sym p.1)

-- it is the one of two bytes that the first two bytes count
two_first : (lead trail : ℕ) (more : List ℕ) (c : ℕ) (rest : List ℕ) → lead ∷ trail ∷ more ≡ encode c ++ rest
    → trail < 256 → 12416 ≤ lead * 64 + trail → lead * 64 + trail < 14464 →
    (lead * 64 + trail ≡ c + 12416) × (128 ≤ c) × (more ≡ rest)
two_first lead trail more c rest e small low high =
    elim (cases_lt c 128) [
      | inl l ↦
          let h : lead ≡ c = ap (λ z. get_or z 0 0) (e ∙ ap (λ z. z ++ rest) (one_byte c l)) in
          absurd (omega (arith, h, l, small, low))
      | inr m ↦ elim (cases_lt c 2048) [
        | inl l ↦
            let f : lead ∷ trail ∷ more ≡ ((192 + c / 64) ∷ (128 + c % 64) ∷ []) ++ rest =
            e ∙ ap (λ z. z ++ rest) (two_bytes c m l) in
            let h : lead ≡ 192 + c / 64 = ap (λ z. get_or z 0 0) f in
            let k : trail ≡ 128 + c % 64 = ap (λ z. get_or z 1 0) f in
            (omega (arith, h, k), m, ap (drop 2) f)
        | inr n ↦ elim (cases_lt c 65536) [
          | inl l ↦
              let h : lead ≡ 224 + c / 4096 = ap (λ z. get_or z 0 0) (e ∙ ap (λ z. z ++ rest) (three_bytes c n l)) in
              let k : trail ≡ 128 + c / 64 % 64 =
              ap (λ z. get_or z 1 0) (e ∙ ap (λ z. z ++ rest) (three_bytes c n l)) in
              absurd (omega (arith, h, k, high))
          | inr l ↦
              let h : lead ≡ 240 + c / 262144 = ap (λ z. get_or z 0 0) (e ∙ ap (λ z. z ++ rest) (four_bytes c l)) in
              absurd (omega (arith, h, high))
        ]
      ]
    ]

pub two_begin : (lead trail : ℕ) (more : List ℕ) → IsUtf8 (lead ∷ trail ∷ more) → trail < 256
    → 12416 ≤ lead * 64 + trail → lead * 64 + trail < 14464 →
    (c : ℕ) × (lead * 64 + trail ≡ c + 12416) × (128 ≤ c) × (lead ∷ trail ∷ more ≡ encode c ++ more)
two_begin lead trail more u small low high =
    let b = begins lead (trail ∷ more) u in
    let t = two_first lead trail more b.0 b.1 b.2 small low high in
    (b.0, t.0, t.1, b.2 ∙ ap (λ z. encode b.0 ++ z) (sym t.2))
