use Rattle.std.proofs.Common.{◌≡◌, ◌∷◌, ◌++◌, [], None, arith, length, ap}
use Rattle.std.proofs.lemmas.List.{length_push}
use Rattle.tus_session.proofs.InPlace.{closed_push}
use Rattle.tus_session.proofs.session.Session.new.Goals as goal

pub loop-preserved : goal.loop-preserved
loop-preserved g c = record {
  count =
      let e : length c.push.new.self.items ≡ length (c.loop.links.items ++ None ∷ []) =
      ap length c.in-Ok.ensures.items in
      let n = length_push c.loop.links.items None in
      let before = c.loop.invariant.count in
      omega arith;
  all = λ k. rw c.in-Ok.ensures.items (closed_push c.loop.links.items c.loop.invariant.all k);
  room = omega (arith, c.loop.invariant.room, c.in-Ok.ensures.capacity, c.push.ensures.capacity);
}
