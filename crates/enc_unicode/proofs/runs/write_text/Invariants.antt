use Rattle.std.proofs.Common.{◌≡◌, ◌≤◌, ◌-◌, false, take, length}
use Rattle.std.specs.Str.{IsUtf8, chars}
use Rattle.enc_model.specs.Stream.{steps}
use Rattle.enc_model.specs.Utf16.{utf16, utf16_start}
use Rattle.lane_kernels.specs.Orders.{is_big}
use Rattle.enc_unicode.proofs.runs.write_text.Given as goal

abbrev pub invariant-by_blocks : goal.invariant-by_blocks
invariant-by_blocks l = record {
  run : steps (utf16 (is_big l.order)) false utf16_start (take l.read l.bytes)
      ≡ record { text = chars (take l.len l.code); state = utf16_start };
  utf8 : IsUtf8 (take l.len l.code);
  within : l.read ≤ length l.bytes;
  few : l.len ≤ 2048;
}

abbrev pub decreases-by_blocks : goal.decreases-by_blocks
decreases-by_blocks l = length l.bytes - l.read
