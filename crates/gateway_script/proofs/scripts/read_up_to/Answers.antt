use Rattle.std.proofs.Common.{◌≡◌, ◌≤◌, length, take, List, ℕ, arith, sym}
use Rattle.gateway_script.proofs.Taking.{takes_more, taken_few}
use Rattle.gateway_script.proofs.scripts.read_up_to.Goals as goal

pub returns-in_err-extend_from_slice-clause-taken :
    goal.returns-in_err-extend_from_slice-clause-taken
returns-in_err-extend_from_slice-clause-taken g c =
    let part : List ℕ = take c.in_ok-count.count c.read_piece.new.piece in
    let size : length part ≡ c.in_ok-count.count = sym c.in_ok-count.ensures.bound.1 in
    let few : c.in_ok-count.count ≤ c.min-room.result =
    taken_few c.in_ok-count.count c.min-room.result _ c.in_ok-count.ensures.within in
    let room = c.min-room.ensures in
    takes_more _ _ _ c.loop-piece.read.items part c.args.most (length part) c.loop-piece.invariant.2
    c.in_ok-count.ensures.ok (omega arith)
    (omega (
      arith,
      size,
      few,
      room,
      c.len-in-loop-piece.ensures,
      c.loop-piece-test.true,
      c.loop-piece.read.ok.0,
      c.loop-piece.invariant.0,
    ))
