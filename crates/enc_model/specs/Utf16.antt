-- The shared UTF-16 decoder (Encoding Standard, 14.2.1).
use Rattle.std.specs.Prelude.{ℕ, ◌+◌, ◌-◌, ◌*◌, Bool, [], ◌∷◌, Option, Some, None, if◌then◌else◌}
use Rattle.enc_model.specs.declared.Answer.TheVariants.{Point, Error, Nothing, Finished}
use Rattle.enc_model.specs.Stream.{HandlerStep, Handler}
use Rattle.enc_model.specs.Index.{within}

-- The state: an odd byte and a lead surrogate, if there are such.
pub record Utf16 : Type 0 where
  pub byte : Option ℕ
  pub lead : Option ℕ

-- The first state.
abbrev pub utf16_start : Utf16
utf16_start = record { byte = None; lead = None }

-- The code unit of two bytes.
abbrev pub unit_of : Bool → ℕ → ℕ → ℕ
unit_of big a b = if big then a * 256 + b else b * 256 + a

-- The step over a code unit. A lead without its trail is an error, and the unit's bytes are restored.
abbrev pub utf16_unit : Option ℕ → ℕ → ℕ → ℕ → HandlerStep Utf16
utf16_unit (Some lead) unit a b =
    if within 0xDC00 0xDFFF unit
    then record {
      state = utf16_start;
      answer = Point (0x10000 + (lead - 0xD800) * 0x400 + (unit - 0xDC00));
      restored = [];
    }
    else record { state = utf16_start; answer = Error; restored = a ∷ b ∷ [] }
utf16_unit None unit a b =
    if within 0xD800 0xDBFF unit then record
    { state = record { byte = None; lead = Some unit }; answer = Nothing; restored = [] }
    else if within 0xDC00 0xDFFF unit then record { state = utf16_start; answer = Error; restored = [] }
    else record { state = utf16_start; answer = Point unit; restored = [] }

-- The step over a byte.
abbrev pub utf16_byte : Bool → Option ℕ → Option ℕ → ℕ → HandlerStep Utf16
utf16_byte big None lead b = record { state = record { byte = Some b; lead = lead }; answer = Nothing; restored = [] }
utf16_byte big (Some a) lead b = utf16_unit lead (unit_of big a b) a b

-- The step at the end.
abbrev pub utf16_end : Option ℕ → Option ℕ → HandlerStep Utf16
utf16_end None None = record { state = utf16_start; answer = Finished; restored = [] }
utf16_end byte lead = record { state = utf16_start; answer = Error; restored = [] }

-- The UTF-16 decoder.
unfoldable pub utf16 : Bool → Handler Utf16
utf16 big s None = utf16_end s.byte s.lead
utf16 big s (Some b) = utf16_byte big s.byte s.lead b
