use Rattle.std.proofs.Common.{◌≤◌, length, ◌-◌, arith, ◌∙◌, take, drop, length-take}
use Rattle.spool_disk.proofs.Firm.{lasts_on, lasts_more, not_err}
use Rattle.spool_disk.proofs.Gave.{grew_on}
use Rattle.spool_journal.specs.Image.{text_page}
use Rattle.spool_journal.proofs.Steps.{no_failure}
use Rattle.spool_texts.proofs.Pieces.{bytes_on, rest_on, all_read, preserves_on, image_preserves}
use Rattle.spool_texts.proofs.reads.read_text.Goals as goal

pub returns-in_err-done-clause-reads : goal.returns-in_err-done-clause-reads
returns-in_err-done-clause-reads g c = grew_on c.loop-done.invariant.reads c.read_piece.ensures.reads

pub loop-done-preserved : goal.loop-done-preserved
loop-done-preserved g c =
    let inv = c.loop-done.invariant in
    let fits : c.min-count.result ≤ length c.loop-done.buf = omega (arith, c.loop-done.auto.buf, c.min-count.ensures) in
    let few : c.in_ok-done.field-0 ≤ length
    (take (c.min-count.result - c.loop-done.done) (drop c.loop-done.done c.loop-done.buf)) =
    c.in_ok-done.ensures.within in
    record {
      size = c.read_piece.ensures.size ∙ inv.size;
      honest = λ honest. c.read_piece.ensures.honest.0 (inv.honest honest);
      back = λ honest. inv.back (c.read_piece.ensures.honest.1 honest);
      later = omega (arith, inv.later, c.read_piece.ensures.later);
      reads = grew_on inv.reads c.read_piece.ensures.reads;
      counts = no_failure c.read_piece.ensures.counts (not_err _ _ c.in_ok-done.was) ∙ inv.counts;
      preserves = λ honest. preserves_on (inv.preserves honest) (c.read_piece.ensures.preserves (inv.honest honest));
      lasts = λ honest. lasts_on (inv.lasts honest)
          (lasts_more (c.read_piece.ensures.lasts (inv.honest honest))
          (λ image is. image_preserves (inv.preserves honest) is));
      within = omega (
        arith,
        few,
        length-take (c.min-count.result - c.loop-done.done)
            (drop c.loop-done.done c.loop-done.buf),
        inv.within,
      );
      bytes = λ honest. bytes_on _ _ c.args.at c.loop-done.done c.min-count.result c.in_ok-done.field-0 c.args.buf.now
          c.loop-done.buf c.read_piece.new.buf (inv.preserves honest) inv.within fits few
          (c.in_ok-done.ensures.piece (inv.honest honest)) (inv.bytes honest);
      rest = λ honest. rest_on _ _ c.args.at c.loop-done.done c.min-count.result c.in_ok-done.field-0 c.args.buf.now
          c.loop-done.buf c.read_piece.new.buf (inv.preserves honest) inv.within fits few
          (c.in_ok-done.ensures.piece (inv.honest honest)) (inv.rest honest);
    }

pub returns-clause-read : goal.returns-clause-read
returns-clause-read g c honest =
    let inv = c.loop-done.invariant in
    all_read (g.D.Disk.current c.args.disk.now) (text_page c.args.layout.now) c.args.list.now c.args.len
    c.args.at c.min-count.result c.args.buf.now c.loop-done.buf c.requires.long
    (omega (arith, c.min-count.ensures, c.saturating_sub.ensures)) c.loop-done.auto.buf
    (λ k lt. inv.bytes honest k (omega (arith, lt, c.loop-done-test.false)))
    (λ k le. inv.rest honest k (omega (arith, le, inv.within)))
