use Rattle.std.proofs.Common.{◌≡◌, ℕ, ◌+◌, ◌*◌, ◌<◌, length, slice_index}
use Rattle.enc_index.specs.Area.{area_byte}
use Rattle.enc_index.proofs.set.IndexSet.to_area.Given as goal

abbrev pub invariant-loop-i : goal.invariant-loop-i
invariant-loop-i l = record {
  long : length l.bytes ≡ 4096;
  bytes : (k : ℕ) → k < l.i → slice_index l.bytes k ≡ area_byte l.self (4096 * l.page + k);
}
