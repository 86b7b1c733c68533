use Rattle.std.proofs.Common.{◌∙◌, ◌+◌, option_copied, get_or, below_more, refl, sym, rules, arith}
use Rattle.spool_journal.specs.Image.{journal_pages}
use Rattle.spool_pages.specs.Changes.{row_number}
use Rattle.spool_pages.proofs.Changed.{room_some, room_changes, encodes_beside}
use Rattle.spool_pages.proofs.PageIn.{in_put, in_none, still_some}
use Rattle.spool_pages.proofs.changes.pages_of_change.Goals as goal

pub loop-block-init : goal.loop-block-init
loop-block-init c = record {
  area = search rules;
  prefix = λ page below. refl;
  last = rw (in_put c.in_ok-put.ensures.put (in_none _ _ c.new-pages.ensures)) refl;
  there = λ i lt. absurd (omega (arith, lt));
}

pub loop-block-preserved : goal.loop-block-preserved
loop-block-preserved c =
    let made = c.in_ok-make_room.ensures in
    record {
      area = made.area (journal_pages c.args.layout.now) c.row_number-page.ensures.inside c.loop-block.invariant.area;
      prefix = λ page below. made.others page (λ e. omega (arith, e, below, c.row_number-page.ensures.number))
          ∙ c.loop-block.invariant.prefix page below;
      last = made.there;
      there = below_more _ _
          (λ i lt. still_some c.row_number-page.result c.loop-block.pages c.make_room.new.pages made.there made.others
          (row_number c.args.layout.now (get_or c.args.blocks.now i 0)) (c.loop-block.invariant.there i lt))
          (rw c.row_number-page.ensures.number at made.there);
    }

pub returns-clause-some : goal.returns-clause-some
returns-clause-some c = room_some c.loop-block.pages (282 + journal_pages c.args.layout.now) c.new-pages.ensures
    c.in_ok-put.ensures.put c.loop-block.invariant.prefix
    (omega (arith, c.record_number-last.ensures.number, c.requires.slot))

pub returns-clause-changes : goal.returns-clause-changes
returns-clause-changes c v blocks version slots beside rows same =
    room_changes c.loop-block.pages c.new-pages.ensures c.in_ok-put.ensures.put v c.args.slot
    (option_copied c.args.own) c.args.blocks.now rows
    (rw (sym blocks) at c.loop-block.invariant.prefix)
    (λ i lt. rw blocks (c.loop-block.invariant.there i (omega (arith, lt))))
    (rw blocks c.record_number-last.ensures.number) c.requires.slot slots (rw version c.page_with.ensures.own)
    (encodes_beside v c.args.slot c.page_with.result version beside c.page_with.ensures.beside) same
