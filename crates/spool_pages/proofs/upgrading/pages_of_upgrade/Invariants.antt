use Rattle.std.proofs.Common.{◌≡◌, ◌≤◌, ◌<◌, ◌+◌, ◌*◌, ℕ, None, length, get_or}
use Rattle.spool_journal.specs.Image.{journal_pages, InArea}
use Rattle.spool_pages.specs.Changes.{page_in, state_number}
use Rattle.spool_pages.proofs.Upgraded.{EncodesSlotIn}
use Rattle.spool_pages.proofs.upgrading.pages_of_upgrade.Given as goal

abbrev pub invariant-loop-pair : goal.invariant-loop-pair
invariant-loop-pair l = record {
  area : InArea (journal_pages l.layout) l.pages;
  count : length l.pages ≡ l.pair + 1;
  state : page_in (state_number l.layout) l.pages ≡ page_in (state_number l.layout) l.initial.pages;
  encodes : (s : ℕ) → s < 2 * l.pair → EncodesSlotIn l.layout l.pages s (get_or l.slots s None);
  none : (q : ℕ) → 26 + journal_pages l.layout + l.pair ≤ q → page_in q l.pages ≡ None;
}
