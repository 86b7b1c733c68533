use Rattle.std.proofs.Common.{◌≤◌, ◌+◌, ◌⊎◌, inl, inr, arith, length, vec_capacity}
use Rattle.std.proofs.lemmas.Bool.{cases_lt}
use Rattle.enc_encode.proofs.Growth.{some_of, some_full, all_of, more_of}
use Rattle.enc_encode.proofs.append.append_in_parts.Goals as goal

pub loop-size-init : goal.loop-size-init
loop-size-init c =
    let n = c.min-done.result in
    let room = c.capacity.ensures in
    let len = c.len.ensures in
    let few = c.min-done.ensures in
    let own = c.args.out.now.ok.0 in
    let full : (vec_capacity c.args.out.now ≤ length c.args.out.now.items + n) ⊎ (length c.args.bytes.now ≤ n) =
    elim (cases_lt n (length c.args.bytes.now)) [
      | inl l ↦ inl (omega (arith, l, room, len, few, own))
      | inr l ↦ inr (omega (arith, l))
    ] in
    record {
      within = omega (arith, few);
      items = c.fill.ensures.items;
      capacity = c.fill.ensures.capacity;
      full = full;
    }

pub loop-size-preserved-then-size-gt1 : goal.loop-size-preserved-then-size-gt1
loop-size-preserved-then-size-gt1 c =
    let e = c.append_exactly-done.ensures in
    more_of c.args.out.now c.args.bytes.now c.loop-size.done _ c.append_exactly-done.result c.loop-size.out
    c.append_exactly-done.new.out c.loop-size.invariant e.few e.items e.capacity

pub loop-size-preserved : goal.loop-size-preserved
loop-size-preserved c =
    let e = c.append_exactly-done.ensures in
    more_of c.args.out.now c.args.bytes.now c.loop-size.done _ c.append_exactly-done.result c.loop-size.out
    c.append_exactly-done.new.out c.loop-size.invariant e.few e.items e.capacity

pub returns-then-done-bytes-clause-grew : goal.returns-then-done-bytes-clause-grew
returns-then-done-bytes-clause-grew c =
    some_of c.args.out.now c.args.bytes.now c.loop-size.done c.loop-size.out c.loop-size.invariant c.if-done-bytes.true

pub returns-then-done-bytes-clause-full : goal.returns-then-done-bytes-clause-full
returns-then-done-bytes-clause-full c =
    some_full c.args.out.now c.args.bytes.now c.loop-size.done c.loop-size.out c.loop-size.invariant
    c.if-done-bytes.true

pub returns-clause-grew : goal.returns-clause-grew
returns-clause-grew c =
    all_of c.args.out.now c.args.bytes.now c.loop-size.done c.loop-size.out c.loop-size.invariant c.if-done-bytes.false
