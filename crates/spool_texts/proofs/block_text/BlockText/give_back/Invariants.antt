use Rattle.std.proofs.Common.{◌≡◌, ◌≢◌, ◌<◌, ◌≤◌, ◌+◌, ℕ, length, get_or, true, false}
use Rattle.spool_texts.proofs.block_text.BlockText.give_back.Given as goal

abbrev pub invariant-loop-given : goal.invariant-loop-given
invariant-loop-given l = record {
  rows : l.blocks.rows ≡ l.fn.blocks.rows;
  size : length l.blocks.reserved ≡ length l.fn.blocks.reserved;
  todo : (i : ℕ) → i + l.given < length l.list.items → get_or l.blocks.reserved (get_or l.list.items i 0) false ≡ true;
  given : (i : ℕ) → length l.list.items ≤ i + l.given → i < length l.list.items
      → get_or l.blocks.reserved (get_or l.list.items i 0) false ≡ false;
  others : (b : ℕ) → ((i : ℕ) → i < length l.list.items → get_or l.list.items i 0 ≢ b)
      → get_or l.blocks.reserved b false ≡ get_or l.fn.blocks.reserved b false;
}
