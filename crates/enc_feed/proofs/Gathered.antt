-- A text that grows by a character.
use Rattle.std.proofs.Common.{ℕ, ◌+◌, ◌*◌, ◌/◌, ◌%◌, ◌<◌, ◌≤◌, ◌≡◌, true, false, List, [], ◌∷◌, ◌++◌, Some, refl, sym}
use Rattle.std.proofs.Common.{◌∙◌, ap, arith, length, length-append, append-nil}
use Rattle.std.proofs.lemmas.Bool.Decides.{nat_tests}
use Rattle.std.proofs.lemmas.Str.{IsUtf8-nil, IsUtf8-append, IsUtf8-encode, IsUtf8-from_is_utf8, is_utf8-from_IsUtf8}
use Rattle.std.proofs.lemmas.Str.{chars-append, chars-encodes, encodes-chars, length-encode, len_utf8_bounds}
use Rattle.std.specs.Str.{IsUtf8, is_utf8, chars}
use Rattle.std.specs.Char.{IsScalar}
use lib.Utf8.{encode, encodes, scalar}
use Rattle.std.proofs.lemmas.Bool.{and_from}
use Rattle.std.proofs.lemmas.List.Elements.{All-head, All-tail}
use Rattle.std.proofs.lemmas.Str.{chars-nil}
use Rattle.std.proofs.Common.{All}
use lib.Utf8.{scalars, low_scalar}
use Rattle.enc_model.specs.declared.Answer.{Answer}
use Rattle.enc_model.specs.declared.Answer.TheVariants.{Point, Error, Nothing, Finished}
use Rattle.enc_model.specs.Stream.{Handler, IsCalm, points_of, steps, quick, byte_run, all_bytes}
use Rattle.enc_model.proofs.Steps.{steps_bytes}
use Rattle.enc_feed.specs.Batches.{BatchTook, BatchRefused}
use Rattle.std.proofs.Common.{take, drop, ◌-◌, length-drop}
use Rattle.std.proofs.lemmas.List.{take_rest, length-take-le}
use Rattle.enc_model.proofs.Utf8Bytes.{one_char}

pub nothing : is_utf8 [] ≡ true
nothing = is_utf8-from_IsUtf8 [] IsUtf8-nil

pub char_more : (old : List ℕ) (c : ℕ) → is_utf8 old ≡ true → IsScalar c → is_utf8 (old ++ encode c) ≡ true
char_more old c u s = is_utf8-from_IsUtf8 (old ++ encode c)
    (IsUtf8-append old (encode c) (IsUtf8-from_is_utf8 old u) (IsUtf8-encode c s))

-- a batch took a character, or a text
pub took_char : (old new : List ℕ) (c : ℕ) → is_utf8 old ≡ true → IsScalar c → new ≡ old ++ encode c
    → BatchTook old (c ∷ []) new
took_char old new c u s e =
    let size = len_utf8_bounds c in
    let l = length-append old (encode c) in
    let n : length new ≡ length (old ++ encode c) = ap length e in
    let k = length-encode c in
    record {
      text = ap chars e ∙ chars-append old (encode c) (IsUtf8-from_is_utf8 old u)
          ∙ ap (λ z. chars old ++ z) (one_char c s);
      size = omega (arith, size, l, n, k);
    }

encodes_size : (cs : List ℕ) → length (encodes cs) ≤ 4 * length cs
encodes_size [] = omega arith
encodes_size (c ∷ cs) = let i = encodes_size cs in let l = length-append (encode c) (encodes cs) in let k =
    length-encode c in let b = len_utf8_bounds c in omega (arith, i, l, k, b)

pub chars_size : (bs : List ℕ) → IsUtf8 bs → length bs ≤ 4 * length (chars bs)
chars_size bs u = let e = encodes_size (chars bs) in let l : length (encodes (chars bs)) ≡ length bs =
    ap length (encodes-chars bs u) in omega (arith, e, l)

pub took_text : (old new bs : List ℕ) → is_utf8 old ≡ true → IsUtf8 bs → new ≡ old ++ bs → BatchTook old (chars bs) new
took_text old new bs u v e =
    let l = length-append old bs in
    let n : length new ≡ length (old ++ bs) = ap length e in
    let k = chars_size bs v in
    record { text = ap chars e ∙ chars-append old bs (IsUtf8-from_is_utf8 old u); size = omega (arith, l, n, k) }

pub text_more : (old bs : List ℕ) → is_utf8 old ≡ true → IsUtf8 bs → is_utf8 (old ++ bs) ≡ true
text_more old bs u v = is_utf8-from_IsUtf8 (old ++ bs) (IsUtf8-append old bs (IsUtf8-from_is_utf8 old u) v)

pub still_text : (old new : List ℕ) (c : ℕ) → is_utf8 old ≡ true → IsScalar c → new ≡ old ++ encode c
    → is_utf8 new ≡ true
still_text old new c u s e = ap is_utf8 e ∙ char_more old c u s

-- a calm handler gives at most three characters a byte
module _ {S : Type 0} (h : Handler S) (calm : IsCalm h) where
  points_size : (a : Answer) → length (points_of a) ≤ 1
  points_size (Point c) = omega arith
  points_size Error = omega arith
  points_size Nothing = omega arith
  points_size Finished = omega arith

  quick_size : (s : S) (bs : List ℕ) → length (all_bytes (quick h) s bs).text ≤ length bs
  quick_size s [] = omega arith
  quick_size s (b ∷ bs) =
      let t = h s (Some b) in
      let i = quick_size t.state bs in
      let o = points_size t.answer in
      let l = length-append (points_of t.answer) (all_bytes (quick h) t.state bs).text in
      omega (arith, i, o, l)

  bytes_size : (s : S) (bs : List ℕ) → length (all_bytes (byte_run h) s bs).text ≤ 3 * length bs
  bytes_size s [] = omega arith
  bytes_size s (b ∷ bs) =
      let t = h s (Some b) in
      let r = byte_run h s b in
      let again = all_bytes (quick h) t.state t.restored in
      let i = bytes_size r.state bs in
      let o = points_size t.answer in
      let q = quick_size t.state t.restored in
      let f = calm.few s b in
      let l = length-append (points_of t.answer) again.text in
      let m = length-append r.text (all_bytes (byte_run h) r.state bs).text in
      omega (arith, i, o, q, f, l, m)

  pub steps_size : (s : S) (bs : List ℕ) → length (steps h false s bs).text ≤ 3 * length bs
  steps_size s bs = let b =
      bytes_size s bs in let e : length (steps h false s bs).text ≡ length (all_bytes (byte_run h) s bs).text =
      ap (λ r. length r.text) (steps_bytes h calm s bs) in omega (arith, b, e)

  -- so there is room for the text of so many bytes
  pub no_refusal : {E : Type 0} (s : S) (bytes old new : List ℕ) (e : E) → length old + 12 * length bytes ≤ 3072
      → BatchRefused old (steps h false s bytes).text e new → ⊥
  no_refusal s bytes old new e room full = let z = steps_size s bytes in absurd (omega (arith, z, room, full))

  -- and after the text of the first of them room for that of the rest
  pub room_left : (s : S) (bytes rest old new : List ℕ) (at : ℕ) → at ≤ length bytes
      → rest ≡ take (length bytes - at) (drop at bytes) →
      BatchTook old (steps h false s (take at bytes)).text new → length old + 12 * length bytes ≤ 3072
      → length new + 12 * length rest ≤ 3072
  room_left s bytes rest old new at l is took room =
      let z = steps_size s (take at bytes) in
      let n = took.size in
      let f : length (take at bytes) ≡ at = length-take-le at bytes l in
      let r : length rest ≡ length bytes - at = ap length (is ∙ take_rest bytes at) ∙ length-drop at bytes in
      omega (arith, z, n, f, r, l, room)

-- what was gathered from nothing
pub from_nothing : (old given new : List ℕ) → old ≡ [] → BatchTook old given new → chars new ≡ given
from_nothing old given new e t = t.text ∙ ap (λ z. chars z ++ given) e ∙ ap (λ z. z ++ given) chars-nil
