use Rattle.std.proofs.Common.{rules, take}
use Rattle.enc_legacy.proofs.Strides.{pairs_read}
use Rattle.enc_legacy.proofs.stride.read_pairs.Goals as goal

pub returns-in-Some : goal.returns-in-Some
returns-in-Some g c =
    let t = c.args.tables.now in
    let read = pairs_read (g.D.Decoder.handler t) (g.met.D.Decoder.calm t) c.args.state.now
    (g.D.PairReader.represent c.in-Some.ready.now) c.in-Some.ensures (take c.push_pairs.result c.args.rest.now)
    c.args.batch.now c.push_pairs.new.self c.push_pairs.ensures.took in
    record { within = search rules; text = read.0; state = read.1 }
