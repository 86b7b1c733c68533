use Rattle.std.proofs.Common.{◌+◌, arith, refl, take}
use Rattle.enc_feed.proofs.Stored.{prefix_unchanged, took_prefix}
use Rattle.enc_feed.proofs.room.store_prefix.Goals as goal

pub returns : goal.returns
returns c =
    let r = c.requires in
    let unchanged = prefix_unchanged c.args.room.now c.store_part.new.room c.args.bytes.now c.args.from c.args.prefix 32
    (let room = r.room in let long = c.told-room in omega (arith, long, room)) r.within r.many c.store_part.ensures in
    let stored = took_prefix (take c.args.from c.args.room.now)
    (take (c.args.from + c.args.prefix) c.store_part.new.room) (take c.args.prefix c.args.bytes.now) r.text r.ascii
    unchanged in
    record { took = stored.0; text = stored.1; end = refl }
