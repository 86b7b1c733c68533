use Rattle.std.proofs.Common.{ℕ, ◌-◌, ◌+◌, refl, arith, length, length-drop, take, drop, map, slice_index}
use Rattle.std.proofs.lemmas.List.{length-take}
use Rattle.enc_feed.proofs.Stored.{map_parts, map_rest, took_on}
use Rattle.enc_feed.proofs.room.Room.store_bytes.Goals as goal

pub loop-at-preserved : goal.loop-at-preserved
loop-at-preserved g c =
    let bytes = c.args.bytes.now in
    let at = c.loop-at.at in
    let n = c.store_some-count.result.0 in
    let rest = take (length bytes - at) (drop at bytes) in
    let char : ℕ → ℕ = λ b. slice_index c.args.chars.now b in
    let e = c.store_some-count.ensures in
    let v = c.loop-at.invariant in
    record {
      took = took_on c.args.self.now (take c.loop-at.len c.loop-at.self-inside.bytes)
          (take c.store_some-count.result.1 c.store_some-count.new.room) (map char (take at bytes))
          (map char (take n rest)) (map char (take (at + n) bytes)) v.took e.took (map_parts char bytes rest at n refl);
      text = e.text;
      few = let f = v.few in let m = e.few in omega (arith, f, m);
      at = let w = e.within in let l = length-take (length bytes - at) (drop at bytes) in let d =
          length-drop at bytes in let a = v.at in omega (arith, w, l, d, a);
    }

pub returns-clause-took : goal.returns-clause-took
returns-clause-took g c =
    let bytes = c.args.bytes.now in
    let at = c.loop-at.at in
    let rest = take (length bytes - at) (drop at bytes) in
    let char : ℕ → ℕ = λ b. slice_index c.args.chars.now b in
    took_on c.args.self.now (take c.loop-at.len c.loop-at.self-inside.bytes)
    (take c.store_each-self-inside.result c.store_each-self-inside.new.room) (map char (take at bytes)) (map char rest)
    (map char bytes) c.loop-at.invariant.took c.store_each-self-inside.ensures.took (map_rest char bytes rest at refl)
