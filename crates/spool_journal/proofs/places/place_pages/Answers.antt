use Rattle.std.proofs.Common.{◌<◌, length, arith, ◌∙◌}
use Rattle.spool_disk.proofs.Firm.{lasts_on, not_err, one_call}
use Rattle.spool_journal.proofs.Steps.{no_failure}
use Rattle.spool_journal.proofs.Gate.{opened}
use Rattle.spool_journal.proofs.places.place_pages.Goals as goal

pub returns-in_err-place-clause-placing : goal.returns-in_err-place-clause-placing
returns-in_err-place-clause-placing g c honest j opened matches placing =
    let inv = c.loop-i.invariant in
    let lt : c.loop-i.i < length c.args.items.now = omega arith in
    c.place.ensures.placing (inv.calls.honest honest) j c.loop-i.i opened (inv.placing honest j opened matches placing)
    (omega (arith, lt, matches.size)) (matches.numbers c.loop-i.i lt)

pub returns-in_err-place-clause-lasts : goal.returns-in_err-place-clause-lasts
returns-in_err-place-clause-lasts g c honest j few opened matches placing =
    let inv = c.loop-i.invariant in
    let lt : c.loop-i.i < length c.args.items.now = omega arith in
    lasts_on (inv.lasts honest j few opened matches placing)
    (c.place.ensures.lasts (inv.calls.honest honest) j c.loop-i.i few opened
    (inv.placing honest j opened matches placing)
    (omega (arith, lt, matches.size)) (matches.numbers c.loop-i.i lt))

pub loop-i-preserved : goal.loop-i-preserved
loop-i-preserved g c =
    let inv = c.loop-i.invariant in
    let lt : c.loop-i.i < length c.args.items.now = omega arith in
    record {
      calls = one_call inv.calls c.place.ensures.size c.place.ensures.honest
          (no_failure c.place.ensures.counts (not_err _ _ c.in_ok-place.was));
      reads = c.place.ensures.reads ∙ inv.reads;
      placing = λ honest j opened matches placing. c.place.ensures.placing (inv.calls.honest honest) j c.loop-i.i opened
          (inv.placing honest j opened matches placing) (omega (arith, lt, matches.size))
          (matches.numbers c.loop-i.i lt);
      upto = λ honest opened matches upto. c.in_ok-place.ensures.upto (inv.calls.honest honest) c.loop-i.i opened
          (inv.upto honest opened matches upto) (matches.numbers c.loop-i.i lt)
          (λ x below. matches.contents c.loop-i.i x lt below);
      lasts = λ honest j few opened matches placing. lasts_on (inv.lasts honest j few opened matches placing)
          (c.place.ensures.lasts (inv.calls.honest honest) j c.loop-i.i few opened
          (inv.placing honest j opened matches placing) (omega (arith, lt, matches.size))
          (matches.numbers c.loop-i.i lt));
    }
