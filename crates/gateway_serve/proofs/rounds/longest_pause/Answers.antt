use Rattle.std.proofs.Common.{sym, ◌∙◌, ap, arith}
use Rattle.std.proofs.lemmas.List.{get_or_default}
use Rattle.gateway_serve.specs.Longest.{between_since}
use Rattle.gateway_serve.specs.declared.places.Place.TheVariants.{Free}
use Rattle.gateway_serve.proofs.Pauses.{longest_on}
use Rattle.gateway_serve.proofs.rounds.longest_pause.Goals as goal

pub loop-conn-preserved : goal.loop-conn-preserved
loop-conn-preserved g c =
    longest_on c.args.places.now c.loop-conn.conn c.loop-conn.longest c.longer-longest.result c.between_since.result
    (c.between_since.ensures ∙ ap between_since (c.index-places-conn.is ∙ sym (get_or_default c.args.places.now
    c.loop-conn.conn Free _ (omega (arith, c.loop-conn-test.true)))))
    c.longer-longest.ensures.one c.longer-longest.ensures.known c.longer-longest.ensures.other c.loop-conn.invariant
