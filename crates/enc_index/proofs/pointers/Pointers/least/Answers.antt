use Rattle.std.proofs.Common.{◌≡◌, ◌-◌, ◌+◌, ◌<◌, length, arith, sym, ◌∙◌, replicate, rules}
use Rattle.enc_index.specs.Usable.{includes}
use Rattle.enc_index.proofs.Least.{past_none, past_unusable, past_taken, from_nothing, found_none, found_set}
use Rattle.std.proofs.lemmas.List.{length-replicate, length-set}
use Rattle.enc_index.proofs.pointers.Pointers.least.Goals as goal

pub loop-place-init : goal.loop-place-init
loop-place-init c =
    let count = c.code_points-count.result in
    let empty : c.resize.new.self.items ≡ replicate count 0xFFFF = c.in_ok-resize.ensures.items ∙ search rules in
    record {
      within = omega arith;
      long = rw empty (length-replicate count 0xFFFF);
      least = λ q. rw (empty, found_none count q) (sym (from_nothing (includes c.args.usable) c.args.codes.now q));
    }

pub loop-place-preserved-then-may_use : goal.loop-place-preserved-then-may_use
loop-place-preserved-then-may_use c =
    let entries = c.args.codes.now in
    let next : c.loop-place.place - 1 + 1 ≡ c.loop-place.place = omega arith in
    let inside : c.loop-place.place - 1 < length entries = omega arith in
    let usable = sym c.may_use.ensures ∙ c.if-may_use.true in
    let greatest = rw c.in-Some.is at (c.code_points-count.ensures (c.loop-place.place - 1)) in
    let room : c.in-Some.c < length c.loop-place.at.items = omega (arith, greatest) in
    record {
      within = omega arith;
      long = length-set c.loop-place.at.items c.in-Some.c _ ∙ c.loop-place.invariant.long;
      least = λ q. found_set c.loop-place.at.items c.in-Some.c _ q room (omega arith)
          ∙ rw (c.loop-place.invariant.least q)
          (sym (past_taken _ entries _ _ next inside c.in-Some.c c.in-Some.is usable q));
    }

pub loop-place-preserved-else-may_use : goal.loop-place-preserved-else-may_use
loop-place-preserved-else-may_use c =
    let next : c.loop-place.place - 1 + 1 ≡ c.loop-place.place = omega arith in
    let inside : c.loop-place.place - 1 < length c.args.codes.now = omega arith in
    let unusable = sym c.may_use.ensures ∙ c.if-may_use.false in
    record {
      within = omega arith;
      long = c.loop-place.invariant.long;
      least = λ q. c.loop-place.invariant.least q ∙ sym
          (past_unusable _ c.args.codes.now _ _ next inside c.in-Some.c c.in-Some.is unusable q);
    }

pub loop-place-preserved : goal.loop-place-preserved
loop-place-preserved c =
    let next : c.loop-place.place - 1 + 1 ≡ c.loop-place.place = omega arith in
    let inside : c.loop-place.place - 1 < length c.args.codes.now = omega arith in
    record {
      within = omega arith;
      long = c.loop-place.invariant.long;
      least = λ q. c.loop-place.invariant.least q ∙ sym
          (past_none _ c.args.codes.now _ _ next inside c.in_default.is q);
    }
