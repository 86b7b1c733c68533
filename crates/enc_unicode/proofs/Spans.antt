-- Blocks of units without surrogates.
use Rattle.std.proofs.Common.{ℕ, ◌+◌, ◌-◌, ◌<◌, ◌≤◌, ◌≡◌, Bool, true, false, not, List, [], ◌∷◌, ◌++◌, None}
use Rattle.std.proofs.Common.{All, length, take, drop, get_or, refl, ap, ap₂, sym, ◌∙◌, arith}
use Rattle.std.proofs.lemmas.Bool.Decides.{nat_tests}
use Rattle.std.proofs.lemmas.List.{length-take-le, length-drop}
use Rattle.std.proofs.lemmas.List.Elements.{All-head, All-tail, All-from_get_or, All-weaker}
use Rattle.std.proofs.lemmas.List.Sums.{prefix_len_passes}
use Rattle.std.proofs.lemmas.Simd.{Each1-get_or}
use Rattle.std.proofs.lemmas.Str.{IsUtf8-append, chars-append, chars-encodes}
use Rattle.std.proofs.lemmas.Bool.{and_from}
use Rattle.std.specs.Char.{IsScalar}
use lib.Utf8.{encodes, scalar, scalars}
use Rattle.std.proofs.Math.Seq.{take-add}
use lib.Lanes.{Each1}
use Rattle.std.specs.List.{prefix_len}
use Rattle.std.specs.Str.{IsUtf8, chars}
use Rattle.enc_model.specs.Index.{within}
use Rattle.enc_model.specs.Stream.{text_then, steps}
use Rattle.enc_model.specs.Utf16.{utf16, utf16_start}
use Rattle.enc_model.proofs.Calm.{utf16_calm}
use Rattle.enc_model.proofs.Utf8Bytes.{ascii_utf8, ascii_chars}
use Rattle.enc_model.proofs.Steps.{steps_append}
use Rattle.lane_kernels.specs.Units.{ArePaired, is_lead, is_scalar_unit, is_trail, lead_of, units_of}
use Rattle.lane_kernels.proofs.Made.{length-units_of, none_left}
use Rattle.lane_kernels.proofs.Walks.{paired_decode}
use Rattle.enc_unicode.specs.WroteUnits.{WroteUnits}
use Rattle.lane_kernels.specs.Steps.{scalars_of}
use Rattle.enc_unicode.proofs.Scalars.{whole_prefix, whole_scalars}

low : (limit u : ℕ) → u < 65536 → not (within limit 0xFFFF u) ≡ true → u < limit
low limit u small e = grind (arith, nat_tests, small, e)

-- units none of which is from a limit on
pub all_low : (limit : ℕ) (units : List ℕ) → Each1 (λ u. u < 65536) units → length units ≡ 32
    → prefix_len (λ u. not (within limit 0xFFFF u)) units ≡ 32 → All (λ u. u < limit) units
all_low limit units small long none = All-from_get_or (λ u. u < limit) units 0 (λ k inside.
    low limit (get_or units k 0) (Each1-get_or (λ u. u < 65536) units k 0 inside small)
    (prefix_len_passes (λ u. not (within limit 0xFFFF u)) units k 0 (omega (arith, inside, long, none))))

narrow_scalar : (u : ℕ) → u < 2048 → is_scalar_unit u ≡ true
narrow_scalar u l = grind (arith, nat_tests)

pub narrow_scalars : (units : List ℕ) → All (λ u. u < 2048) units → prefix_len is_scalar_unit units ≡ length units
narrow_scalars [] a = refl
narrow_scalars (u ∷ units) a =
    let e = narrow_scalar u (All-head (λ u. u < 2048) u units a) in
    let i = narrow_scalars units (All-tail (λ u. u < 2048) u units a) in
    rw e (omega (arith, i))

pub low_scalars : (units : List ℕ) → All (λ u. u < 128) units → prefix_len is_scalar_unit units ≡ length units
low_scalars units a = narrow_scalars units
    (All-weaker (λ u. u < 128) (λ u. u < 2048) (λ u l. omega (arith, l)) units a)

-- they are their own text
pub wrote_low : (units old new : List ℕ) → length units ≡ 32 → All (λ u. u < 128) units → IsUtf8 old
    → new ≡ old ++ units → WroteUnits units old new
wrote_low units old new long a u is = record {
  scalars = low_scalars units a ∙ long;
  utf8 = rw is (IsUtf8-append old units u (ascii_utf8 units a));
  text = ap chars is ∙ chars-append old units u ∙ ap (λ z. chars old ++ z) (ascii_chars units a);
}

scalar_unit : (u : ℕ) → u < 65536 → is_scalar_unit u ≡ true → IsScalar u
scalar_unit u small e = grind (arith, nat_tests, small, e)

all_scalars : (units : List ℕ) → Each1 (λ u. u < 65536) units → prefix_len is_scalar_unit units ≡ length units
    → scalars units ≡ true
all_scalars [] small whole = refl
all_scalars (u ∷ units) small whole =
    let f = whole_prefix (is_scalar_unit u) (prefix_len is_scalar_unit units) (length units) whole in
    and_from (scalar u) (scalars units) (scalar_unit u small.0 f.0) (all_scalars units small.1 f.1)

-- units without surrogates, encoded one after the other
pub wrote_codes : (units old new : List ℕ) → length units ≡ 32 → Each1 (λ u. u < 65536) units
    → prefix_len is_scalar_unit units ≡ 32 → IsUtf8 old → new ≡ old ++ encodes units → WroteUnits units old new
wrote_codes units old new long small whole u is =
    let s = all_scalars units small (whole ∙ sym long) in
    let code : IsUtf8 (encodes units) = (units, (s, refl)) in
    record {
      scalars = whole;
      utf8 = rw is (IsUtf8-append old (encodes units) u code);
      text = ap chars is ∙ chars-append old (encodes units) u ∙ ap (λ z. chars old ++ z) (chars-encodes units s);
    }

no_trail : (u : ℕ) → is_scalar_unit u ≡ true → is_trail u ≡ false
no_trail u e = grind (arith, nat_tests, e)

no_lead : (u : ℕ) → is_scalar_unit u ≡ true → is_lead u ≡ false
no_lead u e = grind (arith, nat_tests, e)

no_lead_of : (u : ℕ) → is_scalar_unit u ≡ true → lead_of u ≡ None
no_lead_of u e = rw (no_lead u e) refl

scalars_are_paired : (units : List ℕ) → prefix_len is_scalar_unit units ≡ length units → ArePaired None units
scalars_are_paired units whole = record {
  first = λ some. no_trail (get_or units 0 0) (prefix_len_passes is_scalar_unit units 0 0 (omega (arith, whole, some)));
  next = λ k inside.
      no_trail (get_or units (k + 1) 0)
      (prefix_len_passes is_scalar_unit units (k + 1) 0 (omega (arith, whole, inside)))
      ∙ sym (no_lead (get_or units k 0) (prefix_len_passes is_scalar_unit units k 0 (omega (arith, whole, inside))));
}

-- the steps over a block without surrogates
block_steps : (big : Bool) (block : List ℕ) → length block ≡ 64 → prefix_len is_scalar_unit (units_of big block) ≡ 32 →
    steps (utf16 big) false utf16_start block ≡ record { text = units_of big block; state = utf16_start }
block_steps big block long scalars =
    let units = units_of big block in
    let many : length units ≡ 32 = length-units_of big 32 block (omega (arith, long)) in
    let whole : prefix_len is_scalar_unit units ≡ length units = scalars ∙ sym many in
    let last = no_lead_of (get_or units (length units - 1) 0)
    (prefix_len_passes is_scalar_unit units (length units - 1) 0 (omega (arith, whole, many))) in
    paired_decode big utf16_start block (scalars_are_paired units whole) (omega (arith, many))
    ∙ ap₂ (λ byte lead. record { text = scalars_of None units; state = record { byte = byte; lead = lead } })
    (none_left 32 block (omega (arith, long))) last
    ∙ ap (λ text. record { text = text; state = utf16_start }) (whole_scalars None units whole)

-- the steps over a block more
pub block_more : (big : Bool) (bytes : List ℕ) (read : ℕ) (old new : List ℕ) → read + 64 ≤ length bytes →
    steps (utf16 big) false utf16_start (take read bytes) ≡ record { text = chars old; state = utf16_start } →
    WroteUnits (units_of big (take 64 (drop read bytes))) old new →
    steps (utf16 big) false utf16_start (take (read + 64) bytes) ≡ record { text = chars new; state = utf16_start }
block_more big bytes read old new inside run wrote =
    let block = take 64 (drop read bytes) in
    let long : length block ≡ 64 =
    length-take-le 64 (drop read bytes) (omega (arith, length-drop read bytes, inside)) in
    ap (steps (utf16 big) false utf16_start) (take-add read 64 bytes)
    ∙ steps_append (utf16 big) (utf16_calm big) false utf16_start (take read bytes) block
    ∙ ap (λ r. text_then r.text (steps (utf16 big) false r.state block)) run
    ∙ ap (text_then (chars old)) (block_steps big block long wrote.scalars)
    ∙ ap (λ text. record { text = text; state = utf16_start }) (sym wrote.text)
