use Rattle.std.proofs.Common.{◌≡◌, length, arith, refl, sym, ◌∙◌, subst}
use Rattle.std.proofs.lemmas.List.{take_all}
use Rattle.tus_session.proofs.Closes.{begins_closing, popped, after_closed, after_open, all_closed, IsClosing}
use Rattle.tus_session.proofs.session.Session.close.Goals as goal

pub loop-place-init : goal.loop-place-init
loop-place-init g c = record {
  represents = λ sure st represents. (
    st.world,
    begins_closing g.U.Uploads sure c.args.self.links.items c.args.store.now st
        represents,
  );
  prefix = sym (take_all (length c.args.self.links.items) c.args.self.links.items (omega arith));
  below = omega arith;
  counts = refl;
  crash = record { later = omega arith; limits = λ n t ms le left. left };
}

pub loop-place-preserved : goal.loop-place-preserved
loop-place-preserved g c =
    let inv = c.loop-place.invariant in
    let is = popped c.args.self.links.items c.loop-place.links.items c.pop.new.self.items c.in-Some.place inv.prefix
    c.in-Some.ensures.items in
    record {
      represents = λ sure st represents.
          let v = inv.represents sure st represents in
          after_closed g.U.Uploads sure c.args.self.links.items c.loop-place.links.items c.pop.new.self.items
          c.args.store.now st represents c.loop-place.store v.0 c.in-Some.place c.in_default-place.is is v.1;
      prefix = is.prefix;
      below = omega (arith, inv.below, is.count);
      counts = inv.counts;
      crash = inv.crash;
    }

pub loop-place-preserved-in-Some-place : goal.loop-place-preserved-in-Some-place
loop-place-preserved-in-Some-place g c =
    let inv = c.loop-place.invariant in
    let is = popped c.args.self.links.items c.loop-place.links.items c.pop.new.self.items c.in-Some.place inv.prefix
    c.in-Some.ensures.items in
    record {
      represents = λ sure st represents.
          let v = inv.represents sure st represents in
          after_open g.U.Uploads sure c.args.self.links.items c.loop-place.links.items c.pop.new.self.items
          c.args.store.now st represents c.loop-place.store c.drop_link.new.store v.0 c.in-Some.place
          c.in-Some-place.link
          c.in-Some-place.is is v.1 (c.drop_link.ensures.represents sure v.0 v.1.shown);
      prefix = is.prefix;
      below = omega (arith, inv.below, is.count);
      counts = c.drop_link.ensures.counts ∙ inv.counts;
      crash = record {
        later = omega (arith, inv.crash.later, c.drop_link.ensures.crash.later);
        limits = λ n t ms le left.
            c.drop_link.ensures.crash.limits n t ms (omega (arith, inv.crash.later)) (inv.crash.limits n t ms le left);
      };
    }

pub returns-clause-represents : goal.returns-clause-represents
returns-clause-represents g c sure st represents =
    let none : length c.loop-place.links.items ≡ 0 =
    omega (arith, c.in_default.ensures.cases.0, c.loop-place.links.ok.0) in
    let v = c.loop-place.invariant.represents sure st represents in
    all_closed g.U.Uploads sure st c.loop-place.store v.0
    (subst (λ n. IsClosing g.U.Uploads sure st n c.loop-place.store v.0) none v.1)
