use Rattle.std.proofs.Common.{◌≡◌, false, take}
use Rattle.enc_model.specs.Stream.{steps}
use Rattle.enc_feed.proofs.by_bytes.feed_each.Given as goal

abbrev pub invariant-loop-byte : goal.invariant-loop-byte
invariant-loop-byte g l =
    let so_far = steps (g.D.Decoder.handler l.tables) false l.fn.state (take l.byte-index l.piece) in
    g.S.Sink.takes l.fn.sink so_far.text l.sink × (l.state ≡ so_far.state)
