use Rattle.std.proofs.Common.{◌≡◌, ◌<◌, ◌≤◌, ◌^◌, length, drop}
use Rattle.enc_index.specs.Files.{number_onward}
use Rattle.enc_index.proofs.file.number.Given as goal

abbrev pub invariant-loop-byte : goal.invariant-loop-byte
invariant-loop-byte l = record {
  value : number_onward l.radix 0 l.digits ≡ number_onward l.radix l.value (drop l.byte-index l.digits);
  fits : l.value < l.radix ^ l.byte-index;
  few : length l.digits ≤ l.most;
}
