use Rattle.std.proofs.Common.{false, ◌≡◌, subst, sym}
use Rattle.enc_model.specs.Indexes.{tables}
use Rattle.enc_stream.specs.TranscoderState.{TranscoderState, is_done}
use Rattle.enc_stream.proofs.StillOpen.{steps_on}
use Rattle.enc_stream.proofs.open.OpenTranscoder.fed.Goals as goal

pub invariant_of-result : goal.invariant_of-result
invariant_of-result c =
    let more = subst (λ (s : TranscoderState). is_done s ≡ false) (sym c.copy-next.ensures) c.self.invariant in
    steps_on (tables c.args.set.now) c.copy-next.result c.feed.new.self c.args.piece.now more c.in-Ok.ensures.next
