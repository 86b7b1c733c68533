-- Text that bytes begin with, a character at a time.
use Rattle.std.proofs.Common.{ℕ, ◌+◌, ◌-◌, ◌*◌, ◌/◌, ◌%◌, ◌<◌, ◌≤◌, ◌≡◌, true, List, [], ◌∷◌, ap, ap₂, take-append-drop}
use Rattle.std.proofs.Common.{subst, sym, ◌∙◌, arith, length, take, drop, get_or}
use Rattle.std.proofs.lemmas.Bool.Decides.{nat_tests}
use Rattle.std.proofs.lemmas.Str.{IsUtf8-append, IsUtf8-encode}
use Rattle.std.proofs.lemmas.List.Sums.{prefix_len-le-length}
use Rattle.std.proofs.lemmas.List.{length-take, take-append-le}
use Rattle.std.proofs.Math.Seq.{take-add}
use Rattle.std.specs.Char.{IsScalar, is_ascii}
use Rattle.std.specs.List.{prefix_len}
use Rattle.std.specs.Str.{IsUtf8}
use Rattle.enc_model.specs.Index.{within}
use Rattle.enc_feed.proofs.Prefixes.{prefix_all}
use Rattle.enc_model.proofs.Utf8Bytes.{ascii_utf8, two_bytes, three_bytes}

low_scalar : (c : ℕ) → c < 0xD800 → IsScalar c
low_scalar c l = grind (arith, nat_tests)

follows : (y : ℕ) → within 0x80 0xBF y ≡ true → (0x80 ≤ y) × (y ≤ 0xBF)
follows y e = (grind (arith, nat_tests, e), grind (arith, nat_tests, e))

pub two_text : (bs : List ℕ) → 2 ≤ length bs → (0xC2 ≤ get_or bs 0 0) × (get_or bs 0 0 ≤ 0xDF)
    → within 0x80 0xBF (get_or bs 1 0) ≡ true → IsUtf8 (take 2 bs)
two_text [] l f e = absurd (omega (arith, l))
two_text (x ∷ []) l f e = absurd (omega (arith, l))
two_text (x ∷ y ∷ rest) l f e =
    let g = follows y e in
    let c = (x - 192) * 64 + (y - 128) in
    let first : 192 + c / 64 ≡ x = omega (arith, f.0, g.0, g.1) in
    let second : 128 + c % 64 ≡ y = omega (arith, f.0, g.0, g.1) in
    subst IsUtf8
    (two_bytes c (omega (arith, f.0, g.0)) (omega (arith, f.1, g.1)) ∙ ap₂ (λ a b. a ∷ b ∷ []) first second)
    (IsUtf8-encode c (low_scalar c (omega (arith, f.1, g.1))))

pub three_text : (bs : List ℕ) → 3 ≤ length bs → (0xE1 ≤ get_or bs 0 0) × (get_or bs 0 0 ≤ 0xEC)
    → within 0x80 0xBF (get_or bs 1 0) ≡ true →
    within 0x80 0xBF (get_or bs 2 0) ≡ true → IsUtf8 (take 3 bs)
three_text [] l f e d = absurd (omega (arith, l))
three_text (x ∷ []) l f e d = absurd (omega (arith, l))
three_text (x ∷ y ∷ []) l f e d = absurd (omega (arith, l))
three_text (x ∷ y ∷ z ∷ rest) l f e d =
    let g = follows y e in
    let h = follows z d in
    let c = (x - 224) * 4096 + (y - 128) * 64 + (z - 128) in
    let first : 224 + c / 4096 ≡ x = omega (arith, f.0, g.0, g.1, h.0, h.1) in
    let second : 128 + c / 64 % 64 ≡ y = omega (arith, f.0, g.0, g.1, h.0, h.1) in
    let third : 128 + c % 64 ≡ z = omega (arith, f.0, g.0, g.1, h.0, h.1) in
    subst IsUtf8
    (three_bytes c (omega (arith, f.0, g.0, h.0)) (omega (arith, f.1, g.1, h.1))
    ∙ ap₂ (λ a b. a ∷ b ∷ (128 + c % 64) ∷ []) first second ∙ ap (λ a. x ∷ y ∷ a ∷ []) third)
    (IsUtf8-encode c (low_scalar c (omega (arith, f.1, g.1, h.1))))

-- a run of ASCII
pub ascii_text : (bs : List ℕ) (n : ℕ) → n ≡ prefix_len is_ascii bs → (n ≤ length bs) × IsUtf8 (take n bs)
ascii_text bs n e = (
  omega (arith, e, prefix_len-le-length is_ascii bs),
  subst (λ k. IsUtf8 (take k bs)) (sym e)
      (ascii_utf8 (take (prefix_len is_ascii bs) bs) (prefix_all bs)),
)

-- a text, and one after it
pub text_goes_on : (bs : List ℕ) (at n : ℕ) → IsUtf8 (take at bs) → IsUtf8 (take n (drop at bs))
    → IsUtf8 (take (at + n) bs)
text_goes_on bs at n t u = subst IsUtf8 (sym (take-add at n bs)) (IsUtf8-append (take at bs) (take n (drop at bs)) t u)

pub prefix_of_prefix : (bs window text : List ℕ) → window ≡ take (length window) bs → text ≡ take (length text) window →
    (length text ≤ length bs) × (text ≡ take (length text) bs)
prefix_of_prefix bs window text w t =
    let n = length text in
    let k = length window in
    let short = ap length t ∙ length-take n window in
    let whole = ap length w ∙ length-take k bs in
    let long = ap length w in (
      omega (arith, short, whole),
      t ∙ ap (take n) w ∙ sym (take-append-le n (take k bs) (drop k bs) (omega (arith, short, long)))
          ∙ ap (take n) (take-append-drop k bs),
    )
