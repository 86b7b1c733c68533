use Rattle.std.proofs.Common.{◌∙◌, ◌≤◌, arith, subst}
use Rattle.spool_disk.proofs.Gave.{grew_on}
use Rattle.upload_rules.specs.Reading.{text_at}
use Rattle.upload_rules.specs.Store.{upload_of}
use Rattle.gateway_outside.specs.Counted.{unfailed}
use Rattle.gateway_texts.specs.Pieces.{all_written, more_written, quiet_both}
use Rattle.gateway_texts.proofs.copies.copy_bytes.Goals as goal

pub returns-clause-copied : goal.returns-clause-copied
returns-clause-copied g c sure w represents len =
    all_written sure (text_at w.store (upload_of w.store c.args.number)) c.loop-at.at
    (g.W.Write.contents c.args.writer.now) (g.W.Write.contents c.loop-at.writer)
    (subst (λ n. n ≤ c.loop-at.at) len c.loop-at-test.false) ((c.loop-at.invariant.3 sure w represents).1 len)

pub loop-at-preserved : goal.loop-at-preserved
loop-at-preserved g c =
    let is = c.loop-at.invariant in
    let next = c.in_ok-at.ensures.next in (
      let le = is.0 in omega (arith, le, next),
      unfailed _ _ _ (λ f. absurd (cc)) c.in_ok-at.ensures.counts ∙ is.1,
      quiet_both _ _ _ _ _ _ is.2 c.in_ok-at.ensures.crash,
      λ sure w represents.
          let was = is.3 sure w represents in (
            c.in_ok-at.ensures.represents sure w was.0,
            λ len. more_written sure (text_at w.store (upload_of w.store c.args.number)) c.loop-at.at c.in_ok-at.at
                (g.W.Write.contents c.args.writer.now) (g.W.Write.contents c.loop-at.writer)
                (g.W.Write.contents c.copy_piece.new.writer) (omega (arith, next)) (was.1 len)
                (c.in_ok-at.ensures.copied sure w was.0 len),
          ),
      grew_on is.4 c.in_ok-at.ensures.reads,
    )

pub returns-in_err-at-clause-reads : goal.returns-in_err-at-clause-reads
returns-in_err-at-clause-reads g c = grew_on c.loop-at.invariant.4 c.in_err-at.ensures.reads
