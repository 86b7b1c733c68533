use Rattle.std.proofs.Common.{◌≡◌, ℕ, ◌+◌, ◌*◌, ◌<◌, List, Option, None, IfSome, length, take, slice_index_or}
use Rattle.enc_model.specs.Index.{Index}
use Rattle.enc_index.specs.Sets.{IsIndex}
use Rattle.enc_index.specs.Area.{IsFileIn}
use Rattle.enc_index.proofs.area.single_of.Given as goal

abbrev pub invariant-loop-place : goal.invariant-loop-place
invariant-loop-place l = record {
  long : length l.single.items ≡ l.place;
  valid : (k : ℕ) → IfSome (slice_index_or l.single.items k None) (IsIndex 128);
  given_back : (single : List (Option Index)) → length single ≡ 15
      → ((k : ℕ) → k < 15 → IsFileIn l.area (3 + k) (20179 + 128 * k) 128 (slice_index_or single k None)) →
      l.single.items ≡ take l.place single;
}
