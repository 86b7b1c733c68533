use Rattle.std.proofs.Common.{ℕ, refl, arith, take, length-drop}
use Rattle.std.proofs.lemmas.Grind.{common_steps}
use Rattle.std.proofs.lemmas.List.{take_all, take_rest, length-take}
use Rattle.enc_feed.specs.Batches.{BatchTook, BatchRefused}
use Rattle.enc_feed.specs.BatchLaws.{batch_sink}
use Rattle.enc_feed.proofs.Gathered.{steps_size}
use Rattle.enc_feed.proofs.Parts.{part_taken, part_state}
use Rattle.enc_legacy.proofs.stride.decode_strides.Goals as goal

pub stride-at-requires-clause-room : goal.stride-at-requires-clause-room
stride-at-requires-clause-room g c =
    let h = g.D.Decoder.handler c.args.tables.now in
    let block = c.args.block.now in
    let at = c.loop-at.at in
    let taken = c.loop-at.invariant.text.size in
    let size = steps_size h (g.met.D.Decoder.calm c.args.tables.now) c.args.state.now (take at block) in
    rw (take_rest block at) (omega (arith, taken, size, length-take {A = ℕ}, length-drop {A = ℕ}))

pub loop-at-preserved : goal.loop-at-preserved
loop-at-preserved g c =
    let h = g.D.Decoder.handler c.args.tables.now in
    let calm = g.met.D.Decoder.calm c.args.tables.now in
    let e = c.stride-at.ensures in
    let v = c.loop-at.invariant in record {
      text = part_taken h calm BatchTook (BatchRefused {E = ℕ}) batch_sink c.args.state.now c.loop-at.state
          c.args.block.now _ c.loop-at.at c.stride-at.result c.args.batch.now c.loop-at.batch c.stride-at.new.batch
          refl v.state v.text e.text;
      state = part_state h calm c.args.state.now c.loop-at.state c.stride-at.new.self c.args.block.now _ c.loop-at.at
          c.stride-at.result refl v.state e.state;
      at = grind (arith, common_steps);
    }

pub returns : goal.returns
returns g c =
    let all = take_all c.loop-at.at c.args.block.now c.loop-at-test.false in
    let v = c.loop-at.invariant in record { text = rw (← all) v.text; state = rw (← all) v.state }
