use Rattle.std.proofs.Common.{◌∙◌, refl, rules}
use Rattle.enc_model.specs.Indexes.{tables}
use Rattle.gateway_outside.specs.Counted.{unfailed}
use Rattle.gateway_text.proofs.Copying.{copied_all, copied_none, copied_on}
use Rattle.gateway_text.proofs.transcoding.text_on.Goals as goal

pub loop-more-init : goal.loop-more-init
loop-more-init g c = (
  copied_none (tables c.args.set.now) c.args.conversion c.new-transcoder.result (g.I.Input.remaining c.args.input.now)
      (g.W.Output.contents c.args.output.now) c.new-transcoder.ensures.value,
  λ never. absurd (cc),
  refl,
)

pub loop-more-preserved : goal.loop-more-preserved
loop-more-preserved g c =
    let copied = copied_on (tables c.args.set.now) c.args.conversion c.loop-more.transcoder
    c.copy_piece.new.transcoder (g.I.Input.remaining c.args.input.now) (g.I.Input.remaining c.loop-more.input)
    (g.I.Input.remaining c.copy_piece.new.input) (g.W.Output.contents c.args.output.now)
    (g.W.Output.contents c.loop-more.output) (g.W.Output.contents c.copy_piece.new.output) _
    c.loop-more.invariant.0 c.in_ok-more.ensures.more c.in_ok-more.ensures.end in
    (copied.0, copied.1, unfailed _ _ _ (λ never. absurd (cc)) c.in_ok-more.ensures.io ∙ c.loop-more.invariant.2)

pub returns-clause-stored : goal.returns-clause-stored
returns-clause-stored g c =
    copied_all (tables c.args.set.now) c.args.conversion c.loop-more.transcoder
    (g.I.Input.remaining c.args.input.now) (g.I.Input.remaining c.loop-more.input)
    (g.W.Output.contents c.args.output.now) (g.W.Output.contents c.loop-more.output)
    (g.W.Output.contents c.copy_end.new.output) c.copy_end.result c.loop-more.invariant.0
    (c.loop-more.invariant.1 (search rules)) c.copy_end.ensures.end
