use Rattle.std.proofs.Common.{◌≡◌, ◌+◌, false}
use Rattle.std.specs.Io.KnownBytes.{IsAtEnd}
use Rattle.enc_model.specs.Indexes.{tables}
use Rattle.gateway_text.proofs.Copying.{Copied}
use Rattle.gateway_text.proofs.transcoding.text_on.Given as goal

abbrev pub invariant-loop-more : goal.invariant-loop-more
invariant-loop-more g l =
    Copied (tables l.set) l.fn.conversion l.transcoder (g.I.Input.remaining l.fn.input) (g.I.Input.remaining l.input)
    (g.W.Output.contents l.fn.output) (g.W.Output.contents l.output)
    × (l.more ≡ false → IsAtEnd (g.I.Input.remaining l.input))
    × (g.I.Input.refusals l.input + g.W.Output.refusals l.output
    ≡ g.I.Input.refusals l.fn.input + g.W.Output.refusals l.fn.output)

abbrev pub decreases-loop-more : goal.decreases-loop-more
decreases-loop-more g l = g.I.Input.pieces l.input
