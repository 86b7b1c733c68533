-- The decoders that use an index: single-byte, Shift_JIS, EUC-JP and ISO-2022-JP (Encoding Standard, 9.1, 12.3.1,
-- 12.1.1 and 12.2.1).
use Rattle.std.specs.Prelude.{ℕ, ◌+◌, ◌-◌, ◌*◌, Bool, true, false, not, ◌&&◌, ◌||◌, List, [], ◌∷◌, Option, Some, None}
use Rattle.std.specs.Prelude.{◌==◌, nat_lt, if◌then◌else◌}
use Rattle.enc_model.specs.declared.Answer.{Answer}
use Rattle.enc_model.specs.declared.Answer.TheVariants.{Point, Error, Nothing, Finished}
use Rattle.enc_model.specs.declared.Charset.{Charset}
use Rattle.enc_model.specs.declared.Charset.TheVariants.{Ascii, Roman, Katakana, Lead}
use Rattle.enc_model.specs.declared.Introducer.{Introducer}
use Rattle.enc_model.specs.declared.Introducer.TheVariants.{Dollar, Paren}
use Rattle.enc_model.specs.declared.Place.{Place}
use Rattle.enc_model.specs.declared.Place.TheVariants.{In, Trail, EscapeStart, Escape}
use Rattle.enc_model.specs.Stream.{HandlerStep, Handler}
use Rattle.enc_model.specs.Index.{Index, code, within}

-- Single-byte encodings.

-- Their decoder has no state.
pub data Single : Type 0 where
  SingleState : Single

-- A code point, or an error.
abbrev pub point_or_error : Option ℕ → Answer
point_or_error (Some c) = Point c
point_or_error None = Error

-- The single-byte decoder.
unfoldable pub single : Index → Handler Single
single index s None = record { state = s; answer = Finished; restored = [] }
single index s (Some b) =
    record {
      state = s;
      answer = if nat_lt b 0x80 then Point b else point_or_error (code index (b - 0x80));
      restored = [];
    }

-- Shift_JIS. The state is the lead byte, or 0.

-- The pointer of two bytes.
abbrev pub shift_jis_at : ℕ → ℕ → ℕ
shift_jis_at lead b =
    let offset = if nat_lt b 0x7F then 0x40 else 0x41 in
    let lead_offset = if nat_lt lead 0xA0 then 0x81 else 0xC1 in
    (lead - lead_offset) * 188 + b - offset

-- The code point of a pointer: one of private use, or that of the index.
abbrev pub shift_jis_code : Index → ℕ → Option ℕ
shift_jis_code jis0208 pointer =
    if within 8836 10715 pointer then Some (0xE000 + (pointer - 8836)) else code jis0208 pointer

-- The code point of two bytes.
abbrev pub shift_jis_pair : Index → ℕ → ℕ → Option ℕ
shift_jis_pair jis0208 lead b =
    if within 0x40 0x7E b || within 0x80 0xFC b then shift_jis_code jis0208 (shift_jis_at lead b) else None

-- The answer to a trail byte. Without a code point, a byte below 80 is restored.
abbrev pub pair_step : {S : Type 0} → S → Option ℕ → ℕ → HandlerStep S
pair_step s (Some c) b = record { state = s; answer = Point c; restored = [] }
pair_step s None b = record { state = s; answer = Error; restored = if nat_lt b 0x80 then b ∷ [] else [] }

-- The Shift_JIS decoder.
unfoldable pub shift_jis : Index → Handler ℕ
shift_jis jis0208 lead None = record { state = 0; answer = if lead == 0 then Finished else Error; restored = [] }
shift_jis jis0208 lead (Some b) =
    if lead == 0 then
    (if nat_lt b 0x81 then record { state = 0; answer = Point b; restored = [] }
    else if within 0xA1 0xDF b then record { state = 0; answer = Point (0xFF61 + (b - 0xA1)); restored = [] }
    else if within 0x81 0x9F b || within 0xE0 0xFC b then record { state = b; answer = Nothing; restored = [] }
    else record { state = 0; answer = Error; restored = [] })
    else pair_step 0 (shift_jis_pair jis0208 lead b) b

-- EUC-JP. The flag means that the next pair is one of jis0212.

-- The state of its decoder.
pub record EucJp : Type 0 where
  pub lead : ℕ
  pub flag : Bool

-- The first state.
abbrev pub euc_jp_start : EucJp
euc_jp_start = record { lead = 0; flag = false }

-- The code point of two bytes.
abbrev pub euc_jp_pair : Index → Index → Bool → ℕ → ℕ → Option ℕ
euc_jp_pair jis0208 jis0212 flag lead b =
    if within 0xA1 0xFE lead && within 0xA1 0xFE b
    then code (if flag then jis0212 else jis0208) ((lead - 0xA1) * 94 + (b - 0xA1))
    else None

-- The EUC-JP decoder.
unfoldable pub euc_jp : Index → Index → Handler EucJp
euc_jp jis0208 jis0212 s None = record {
  state = euc_jp_start;
  answer = if s.lead == 0 then Finished else Error;
  restored = [];
}
euc_jp jis0208 jis0212 s (Some b) =
    if s.lead == 0 then
    (if nat_lt b 0x80 then record { state = euc_jp_start; answer = Point b; restored = [] }
    else if (b == 0x8E) || (b == 0x8F) || within 0xA1 0xFE b
    then record { state = record { lead = b; flag = false }; answer = Nothing; restored = [] }
    else record { state = euc_jp_start; answer = Error; restored = [] })
    else if (s.lead == 0x8E) && within 0xA1 0xDF b
    then record { state = euc_jp_start; answer = Point (0xFF61 + (b - 0xA1)); restored = [] }
    else if (s.lead == 0x8F) && within 0xA1 0xFE b
    then record { state = record { lead = b; flag = true }; answer = Nothing; restored = [] }
    else pair_step euc_jp_start (euc_jp_pair jis0208 jis0212 s.flag s.lead b) b

-- ISO-2022-JP.

-- The byte after 1B.
abbrev pub introducer_byte : Introducer → ℕ
introducer_byte Dollar = 0x24
introducer_byte Paren = 0x28

-- The state of its decoder: the place, the output state, and the output flag.
pub record Iso2022 : Type 0 where
  pub place : Place
  pub output : Charset
  pub flag : Bool

-- The first state.
abbrev pub iso2022_start : Iso2022
iso2022_start = record { place = In Ascii; output = Ascii; flag = false }

-- A step to this state.
abbrev pub iso2022_to : Place → Charset → Bool → Answer → List ℕ → HandlerStep Iso2022
iso2022_to place output flag answer restored =
    record { state = record { place = place; output = output; flag = flag }; answer = answer; restored = restored }

-- ASCII other than 0E and 0F.
abbrev pub plain : ℕ → Bool
plain b = nat_lt b 0x80 && not ((b == 0x0E) || (b == 0x0F))

-- The answer to a byte in a character set.
abbrev pub iso2022_answer : Charset → ℕ → Answer
iso2022_answer Ascii b = if plain b then Point b else Error
iso2022_answer Roman b = if b == 0x5C then Point 0xA5 else if b == 0x7E then Point 0x203E else if plain b then Point b
    else Error
iso2022_answer Katakana b = if within 0x21 0x5F b then Point (0xFF61 + (b - 0x21)) else Error
iso2022_answer Lead b = if within 0x21 0x7E b then Nothing else Error

-- The step over a byte other than 1B.
abbrev pub iso2022_plain : Charset → Charset → ℕ → HandlerStep Iso2022
iso2022_plain Lead output b =
    if within 0x21 0x7E b then iso2022_to (Trail b) output false Nothing [] else iso2022_to (In Lead) output false Error
    []
iso2022_plain set output b = iso2022_to (In set) output false (iso2022_answer set b) []

-- The character set that an escape sequence switches to.
abbrev pub escape_of : Introducer → ℕ → Option Charset
escape_of Paren b = if b == 0x42 then Some Ascii else if b == 0x4A then Some Roman else if b == 0x49 then Some Katakana
    else None
escape_of Dollar b = if (b == 0x40) || (b == 0x42) then Some Lead else None

-- The step at the end of an escape sequence. Two in a row are an error, and so is an unknown one, whose bytes are
-- restored.
abbrev pub iso2022_escape : Charset → Bool → Option Charset → List ℕ → HandlerStep Iso2022
iso2022_escape output flag (Some set) again = iso2022_to (In set) set true (if flag then Error else Nothing) []
iso2022_escape output flag None again = iso2022_to (In output) output false Error again

-- The step over a byte.
abbrev pub iso2022_byte : Index → Place → Charset → Bool → ℕ → HandlerStep Iso2022
iso2022_byte jis0208 (In set) output flag b =
    if b == 0x1B then iso2022_to EscapeStart output flag Nothing [] else iso2022_plain set output b
iso2022_byte jis0208 (Trail lead) output flag b =
    if b == 0x1B then iso2022_to EscapeStart output flag Error []
    else if within 0x21 0x7E b
    then iso2022_to (In Lead) output flag (point_or_error (code jis0208 ((lead - 0x21) * 94 + (b - 0x21)))) []
    else iso2022_to (In Lead) output flag Error []
iso2022_byte jis0208 EscapeStart output flag b =
    if b == 0x24 then iso2022_to (Escape Dollar) output flag Nothing []
    else if b == 0x28 then iso2022_to (Escape Paren) output flag Nothing []
    else iso2022_to (In output) output false Error (b ∷ [])
iso2022_byte jis0208 (Escape lead) output flag b =
    iso2022_escape output flag (escape_of lead b) (introducer_byte lead ∷ b ∷ [])

-- The step at the end.
abbrev pub iso2022_end : Place → Charset → Bool → HandlerStep Iso2022
iso2022_end (In set) output flag = iso2022_to (In set) output flag Finished []
iso2022_end (Trail lead) output flag = iso2022_to (In Lead) output flag Error []
iso2022_end EscapeStart output flag = iso2022_to (In output) output false Error []
iso2022_end (Escape lead) output flag = iso2022_to (In output) output false Error (introducer_byte lead ∷ [])

-- The ISO-2022-JP decoder.
unfoldable pub iso2022 : Index → Handler Iso2022
iso2022 jis0208 s None = iso2022_end s.place s.output s.flag
iso2022 jis0208 s (Some b) = iso2022_byte jis0208 s.place s.output s.flag b
