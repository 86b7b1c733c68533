-- The UTF-8 decoder (Encoding Standard, 8.1.1).
use Rattle.std.specs.Prelude.{ℕ, ◌+◌, ◌-◌, ◌*◌, List, [], ◌∷◌, ◌++◌, Some, None, ◌==◌, nat_lt, if◌then◌else◌}
use Rattle.enc_model.specs.declared.Answer.TheVariants.{Point, Error, Nothing, Finished}
use Rattle.enc_model.specs.Stream.{HandlerStep, Handler}
use Rattle.enc_model.specs.Index.{within}

-- The state of the decoder.
pub record Utf8 : Type 0 where
  -- How many bytes are still needed, and the bounds of the next one.
  pub needed : ℕ
  pub lower : ℕ
  pub upper : ℕ
  -- The code point so far, and the bytes that it came from.
  pub point : ℕ
  pub partial : List ℕ

-- The first state.
abbrev pub utf8_start : Utf8
utf8_start = record { needed = 0; lower = 0x80; upper = 0xBF; point = 0; partial = [] }

-- The step over a lead byte.
abbrev pub lead_step : ℕ → ℕ → ℕ → ℕ → ℕ → HandlerStep Utf8
lead_step b needed lower upper point =
    record {
      state = record { needed = needed; lower = lower; upper = upper; point = point; partial = b ∷ [] };
      answer =
          Nothing;
      restored = [];
    }

-- The step over the first byte of a character.
abbrev pub utf8_first : ℕ → HandlerStep Utf8
utf8_first b =
    if nat_lt b 0x80 then record { state = utf8_start; answer = Point b; restored = [] }
    else if within 0xC2 0xDF b then lead_step b 1 0x80 0xBF (b - 0xC0)
    else if within 0xE0 0xEF b then lead_step b 2 (if b == 0xE0 then 0xA0 else 0x80) (if b == 0xED then 0x9F else 0xBF)
    (b - 0xE0)
    else if within 0xF0 0xF4 b then lead_step b 3 (if b == 0xF0 then 0x90 else 0x80) (if b == 0xF4 then 0x8F else 0xBF)
    (b - 0xF0)
    else record { state = utf8_start; answer = Error; restored = [] }

-- The step over a further byte.
abbrev pub utf8_next : Utf8 → ℕ → HandlerStep Utf8
utf8_next s b =
    let point = s.point * 64 + (b - 0x80) in
    if s.needed == 1 then record { state = utf8_start; answer = Point point; restored = [] }
    else record {
      state = record {
        needed = s.needed - 1;
        lower = 0x80;
        upper = 0xBF;
        point = point;
        partial = s.partial ++ b ∷ [];
      };
      answer = Nothing;
      restored = [];
    }

-- The UTF-8 decoder.
unfoldable pub utf8 : Handler Utf8
utf8 s None =
    if s.needed == 0 then record { state = s; answer = Finished; restored = [] }
    else record { state = utf8_start; answer = Error; restored = [] }
utf8 s (Some b) =
    if s.needed == 0 then utf8_first b
    else if within s.lower s.upper b then utf8_next s b
    -- The byte doesn't continue the character: it is restored.
    else record { state = utf8_start; answer = Error; restored = b ∷ [] }
