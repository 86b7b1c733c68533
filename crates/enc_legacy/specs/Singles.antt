-- The single-byte decoders as one handler whose state is the encoding.
use Rattle.std.specs.Prelude.{◌-◌, [], Some, None, nat_lt, if◌then◌else◌}
use Rattle.enc_model.specs.declared.Answer.TheVariants.{Point, Finished}
use Rattle.enc_model.specs.declared.Encoding.{Encoding}
use Rattle.enc_model.specs.Encode.{Tables}
use Rattle.enc_model.specs.Index.{code}
use Rattle.enc_model.specs.Stream.{Handler}
use Rattle.enc_model.specs.Japanese.{Single, SingleState, point_or_error}

-- The first state.
abbrev pub single_start : Single
single_start = SingleState

-- The handler.
unfoldable pub single_in : Tables → Handler Encoding
single_in t e None = record { state = e; answer = Finished; restored = [] }
single_in t e (Some b) =
    record {
      state = e;
      answer = if nat_lt b 0x80 then Point b else point_or_error (code (t.single e) (b - 0x80));
      restored = [];
    }
