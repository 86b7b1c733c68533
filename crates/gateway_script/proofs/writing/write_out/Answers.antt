use Rattle.std.proofs.Common.{◌∙◌}
use Rattle.std.proofs.lemmas.List.{take_rest}
use Rattle.tus_session.proofs.Counting.{uncounted}
use Rattle.gateway_script.proofs.Outputs.{wrote_more}
use Rattle.gateway_script.proofs.writing.write_out.Goals as goal

pub loop-rest-preserved : goal.loop-rest-preserved
loop-rest-preserved g c =
    let i = c.loop-rest.invariant in
    let count = c.in-Ok.count in
    let more = wrote_more (g.W.CountedWrite.contents c.args.writer.now) (g.W.CountedWrite.contents c.loop-rest.writer)
    (g.W.CountedWrite.contents c.write_piece.new.self) c.args.bytes.now i.1 c.loop-rest.rest.now _ count
    i.2 i.3 c.in-Ok.ensures.bytes (take_rest c.loop-rest.rest.now count) in (
      uncounted (λ fails. absurd (cc)) c.in-Ok.ensures.counts ∙ i.0,
      more.0,
      more.1,
      more.2,
    )
