use Rattle.std.proofs.Common.{◌≡◌, ℕ, ◌<◌, length, slice_index}
use Rattle.enc_index.specs.Entries.{pairs_from}
use Rattle.enc_index.specs.Bytes.{byte_char}
use Rattle.enc_index.proofs.ready.ready_bytes.Given as goal

abbrev pub invariant-loop-byte : goal.invariant-loop-byte
invariant-loop-byte l = record {
  long : length l.ready.items ≡ l.byte;
  chars : (b : ℕ) → b < l.byte → slice_index l.ready.items b ≡ byte_char (pairs_from 0 l.codes) b;
}
