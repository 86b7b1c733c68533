use Rattle.std.proofs.Common.{◌≡◌, ℕ, ◌≤◌, length, drop}
use Rattle.enc_model.specs.Index.{pointer_where}
use Rattle.enc_index.specs.Entries.{pairs_from, found_pointer}
use Rattle.enc_index.specs.Usable.{includes}
use Rattle.enc_index.proofs.pointers.Pointers.least.Given as goal

abbrev pub invariant-loop-place : goal.invariant-loop-place
invariant-loop-place l = record {
  within : l.place ≤ length l.codes;
  long : length l.at.items ≡ l.count;
  least : (c : ℕ) → found_pointer l.at.items c ≡ pointer_where (includes l.usable)
      (pairs_from l.place (drop l.place l.codes)) c;
}

abbrev pub decreases-loop-place : goal.decreases-loop-place
decreases-loop-place l = l.place
