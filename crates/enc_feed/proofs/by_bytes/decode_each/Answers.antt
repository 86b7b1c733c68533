use Rattle.enc_feed.proofs.Gathered.{no_refusal}
use Rattle.enc_feed.proofs.by_bytes.decode_each.Goals as goal

pub unreachable-requires : goal.unreachable-requires
unreachable-requires g c =
    no_refusal (g.D.Decoder.handler c.args.tables.now) (g.met.D.Decoder.calm c.args.tables.now) c.args.state.now
    c.args.bytes.now c.args.batch.now c.feed_each.new.sink c.in-Err.field-0
    c.requires c.in-Err.ensures.given
