use Rattle.std.proofs.Common.{◌∙◌, ◌≤◌, arith, subst}
use Rattle.gateway_export.proofs.Later.{more_on}
use Rattle.upload_rules.specs.Reading.{text_at}
use Rattle.upload_rules.specs.Store.{upload_of}
use Rattle.gateway_outside.specs.Counted.{unfailed}
use Rattle.gateway_texts.specs.Pieces.{all_written, more_written, quiet_both}
use Rattle.gateway_export.proofs.Counting.{counts_after, counts_on, handed_on}
use Rattle.gateway_export.proofs.writing.copy_into.Goals as goal

pub returns-clause-copied : goal.returns-clause-copied
returns-clause-copied g c sure w represents =
    all_written sure (text_at w.store (upload_of w.store c.args.number)) c.loop-at.at
    (g.F.Folder.content c.args.file.now) (g.F.Folder.content c.loop-at.file)
    (subst (λ n. n ≤ c.loop-at.at) (c.text_len-len.ensures sure w represents) c.loop-at-test.false)
    (c.loop-at.invariant.3 sure w represents).1

pub loop-at-preserved : goal.loop-at-preserved
loop-at-preserved g c =
    let is = c.loop-at.invariant in
    let one = c.in_ok-at.ensures in
    let next = one.next in (
      let le = is.0 in omega (arith, le, next),
      unfailed _ _ _ (λ f. absurd (cc)) one.counts ∙ is.1,
      quiet_both _ _ _ _ _ _ is.2 one.crash,
      λ sure w represents.
          let was = is.3 sure w represents in
          let len = c.text_len-len.ensures sure w represents in (
            one.represents sure w was.0,
            more_written sure (text_at w.store (upload_of w.store c.args.number)) c.loop-at.at c.in_ok-at.at
                (g.F.Folder.content c.args.file.now) (g.F.Folder.content c.loop-at.file)
                (g.F.Folder.content c.copy_piece.new.file) (omega (arith, next)) was.1
                (one.copied sure w was.0 len),
          ),
      more_on is.4 one.reads,
      λ files held. one.preserves files (is.5 files held),
      λ name lasts. one.still name (is.6 name lasts),
      one.names ∙ is.7,
      λ sure w represents.
          unfailed _ _ _ (λ f. absurd (cc))
          (one.io sure w (is.3 sure w represents).0 (c.text_len-len.ensures sure w represents)) ∙ is.8 sure w represents,
      one.unread ∙ is.9,
    )

pub returns-in_err-at-clause-reads : goal.returns-in_err-at-clause-reads
returns-in_err-at-clause-reads g c = more_on c.loop-at.invariant.4 c.in_err-at.ensures.reads

pub returns-in_err-at-clause-io : goal.returns-in_err-at-clause-io
returns-in_err-at-clause-io g c sure w represents =
    counts_on c.from_residual.result _ _ _ (handed_on c.from_residual.result _ c.from_residual.ensures.1)
    (counts_after _ _ _ _ (c.loop-at.invariant.8 sure w represents)
    (c.in_err-at.ensures.io sure w (c.loop-at.invariant.3 sure w represents).0
    (c.text_len-len.ensures sure w represents)))
