use Rattle.std.proofs.Common.{◌≡◌, ◌+◌, ◌<◌, ℕ, IsSome, get_or}
use Rattle.spool_journal.specs.Image.{journal_pages, InArea}
use Rattle.spool_pages.specs.Changes.{page_in, row_number}
use Rattle.spool_pages.proofs.changes.pages_of_change.Given as goal

abbrev pub invariant-loop-block : goal.invariant-loop-block
invariant-loop-block l = record {
  area : InArea (journal_pages l.layout) l.pages;
  prefix : (page : ℕ) → page < 282 + journal_pages l.layout → page_in page l.pages ≡ page_in page l.initial.pages;
  last : IsSome (page_in l.last l.pages);
  there : (i : ℕ) → i < l.block-index → IsSome (page_in (row_number l.layout (get_or l.blocks i 0)) l.pages);
}
