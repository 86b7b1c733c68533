use Rattle.std.proofs.Common.{rules, ◌≡◌, ◌≤◌, ◌*◌, ◌+◌, length, ℕ, ◌/◌, ◌%◌, ap, arith, ◌∙◌, get_or, length-take, take}
use Rattle.spool_disk.proofs.Gave.{grew_none, grew_one}
use Rattle.spool_journal.specs.declared.TheConstants.{PAGE}
use Rattle.spool_disk.specs.Disk.{span}
use Rattle.spool_journal.specs.Image.{text_page}
use Rattle.spool_journal.proofs.Recovers.{all_is}
use Rattle.spool_texts.proofs.Pieces.{piece_is, run_below}
use Rattle.spool_texts.proofs.reads.read_piece.Goals as goal

pub read-requires : goal.read-requires
read-requires g c =
    let run = c.run-count.ensures in
    let here : get_or c.args.list.now (c.args.at / PAGE) 0 + c.run-count.result ≤ c.args.layout.now =
    run_below c.args.list.now c.args.layout.now (c.args.at / PAGE) c.run-count.result c.requires.blocks run.follow
    run.some run.within in
    omega (
      arith,
      here,
      all_is c.args.layout.now,
      c.requires.room,
      c.block_page-page.ensures.page,
      c.min-n.ensures,
      length-take c.min-n.result c.args.buf.now,
    )

pub returns-in_err-read-clause-reads : goal.returns-in_err-read-clause-reads
returns-in_err-read-clause-reads g c = grew_none c.in_err-read.ensures.none

pub returns-clause-reads : goal.returns-clause-reads
returns-clause-reads g c = grew_one c.in_ok-read.ensures.given

pub returns-clause-piece : goal.returns-clause-piece
returns-clause-piece g c honest =
    let size : length (take c.min-n.result c.args.buf.now) ≡ c.min-n.result =
    omega (arith, length-take c.min-n.result c.args.buf.now, c.min-n.ensures) in
    let place : PAGE * c.block_page-page.result + c.args.at % PAGE
    ≡ PAGE * (text_page c.args.layout.now + get_or c.args.list.now (c.args.at / PAGE) 0) + c.args.at % PAGE =
    omega (arith, c.block_page-page.ensures.page) in
    piece_is (g.D.Disk.current c.args.disk.now) (text_page c.args.layout.now) c.args.list.now c.args.at
    c.run-count.result c.min-n.result c.args.buf.now c.read.new.buf (omega (arith, c.min-n.ensures))
    c.run-count.ensures.follow (omega (arith, c.min-n.ensures, c.run-count.ensures.some))
    (c.in_ok-read.ensures.bytes honest (search rules) ∙ ap
    (λ (n : ℕ). span (g.D.Disk.current c.args.disk.now) (PAGE * c.block_page-page.result + c.args.at % PAGE) n) size
    ∙ ap (λ (at : ℕ). span (g.D.Disk.current c.args.disk.now) at c.min-n.result) place)
