use Rattle.std.proofs.Common.{◌≡◌, ℕ, ◌+◌, ◌<◌, length, slice_index_or, None}
use Rattle.enc_index.specs.Area.{word_of, scalar_in_entry}
use Rattle.enc_index.proofs.area.codes_of.Given as goal

abbrev pub invariant-loop-pointer : goal.invariant-loop-pointer
invariant-loop-pointer l = record {
  long : length l.codes.items ≡ l.pointer;
  codes : (k : ℕ) → k < l.pointer → slice_index_or l.codes.items k None ≡ scalar_in_entry
      (word_of l.area (l.start + k));
}
