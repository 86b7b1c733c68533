use Rattle.std.proofs.Common.{◌≡◌, ℕ, ◌+◌, ◌<◌, option_copied}
use Rattle.enc_index.specs.Area.{word_of, entry_of}
use Rattle.enc_index.proofs.area.has_entries.Given as goal

abbrev pub invariant-loop-pointer : goal.invariant-loop-pointer
invariant-loop-pointer l =
    (k : ℕ) → k < l.pointer → word_of l.area (l.start + k) ≡ entry_of (option_copied l.table) k
