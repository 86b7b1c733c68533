use Rattle.std.proofs.Common.{ℕ, [], ◌∷◌, Option, take, drop, length-take, sym, ap, arith, ◌∙◌}
use Rattle.spool_journal.specs.Image.{text_page}
use Rattle.spool_texts.specs.Drafts.{prefix_on}
use Rattle.spool_texts.specs.TextOn.{blocks_on}
use Rattle.spool_texts.proofs.Shown.{length-blocks_on}
use Rattle.spool_texts.proofs.Steps.{prefix_read}
use Rattle.spool_texts.proofs.last_blocks.read_tail.Goals as goal

pub returns-clause-tail : goal.returns-clause-tail
returns-clause-tail g c honest =
    let len = c.args.len in
    let current = g.D.Disk.current c.args.disk.now in
    let first = text_page c.args.layout.now in
    let on = blocks_on current first (c.in-Some.block ∷ []) in
    prefix_read (take len on) (take len c.args.page.now) c.read_text.new.buf (drop len c.args.page.now) len
    c.in_ok-read_text.field-0
    (omega (arith, length-take len on, length-blocks_on current first (c.in-Some.block ∷ []), c.requires.few))
    (omega (arith, length-take len c.args.page.now, c.requires.page, c.requires.few))
    (c.in_ok-read_text.ensures.read honest)
    ∙ sym (ap (λ (tail : Option ℕ). prefix_on current first tail len) c.in-Some.is)
