use Rattle.std.proofs.Common.{◌+◌, ◌<◌, ◌≤◌, get_or, length, Ok, Err, ◌∙◌, refl, arith}
use Rattle.tus_session.proofs.Counting.{uncounted}
use Rattle.gateway_serve.specs.Reasons.{none}
use Rattle.gateway_serve.proofs.All.{among_all, all_served, free_before}
use Rattle.gateway_serve.proofs.Carries.{among_preserve}
use Rattle.gateway_serve.proofs.Counted.{adds_on, count_with, free_adds, none_open, uncounts}
use Rattle.gateway_serve.proofs.Drainings.{drains_then}
use Rattle.gateway_serve.proofs.Lost.{ended_once, more_ended}
use Rattle.gateway_serve.specs.declared.reasons.Reason.TheVariants.{Over}
use Rattle.gateway_serve.proofs.rounds.end_each.Goals as goal

pub returns-in-Err-clause-serves : goal.returns-in-Err-clause-serves
returns-in-Err-clause-serves g c = λ refused.
    among_all {T = Unit {0}} g.C.Connections _ c.loop-conn.gateway c.end.new.gateway (Err c.in-Err.fault) _
    c.loop-conn.places c.loop-conn.conn c.index-places-conn.result c.end.new.self _ c.loop-conn.ended.items
    c.end.new.ended.items refused refused (c.loop-conn.invariant.1 refused) c.in-Err.ensures.serves c.end.ensures.others
    (omega (arith, c.loop-conn-test.true, c.loop-conn.auto.places))

pub returns-in-Err-clause-streams : goal.returns-in-Err-clause-streams
returns-in-Err-clause-streams g c = λ times.
    among_preserve g.S.Read.remaining g.S.Write.contents times _ c.loop-conn.places c.loop-conn.conn
    c.index-places-conn.result c.end.new.self _ c.loop-conn.ended.items c.end.new.ended.items
    (c.loop-conn.invariant.2 times) (omega (arith, c.loop-conn-test.true, c.loop-conn.auto.places))
    (c.end.ensures.streams times)

pub loop-conn-init : goal.loop-conn-init
loop-conn-init g c = (
  refl,
  λ refused sure before st past went joins. (past, went, joins),
  λ times have had. (have, had),
  λ k lt. absurd (omega (arith, lt)),
  none,
  omega arith,
  refl,
  refl,
  record { all = λ all. all; count = refl },
)

pub loop-conn-preserved : goal.loop-conn-preserved
loop-conn-preserved g c =
    let inside : c.loop-conn.conn < length c.loop-conn.places =
    omega (arith, c.loop-conn-test.true, c.loop-conn.auto.places) in (
      uncounted (λ fails. absurd (cc)) c.in-Ok.ensures.counts ∙ c.loop-conn.invariant.0,
      λ refused. among_all {T = Unit {0}} g.C.Connections _ c.loop-conn.gateway c.end.new.gateway (Ok tt) _
          c.loop-conn.places c.loop-conn.conn c.index-places-conn.result c.end.new.self _ c.loop-conn.ended.items
          c.end.new.ended.items refused refused (c.loop-conn.invariant.1 refused) c.in-Ok.ensures.serves
          c.end.ensures.others
          inside,
      λ times. among_preserve g.S.Read.remaining g.S.Write.contents times _ c.loop-conn.places c.loop-conn.conn
          c.index-places-conn.result c.end.new.self _ c.loop-conn.ended.items c.end.new.ended.items
          (c.loop-conn.invariant.2 times) inside (c.end.ensures.streams times),
      free_before c.loop-conn.conn c.loop-conn.places c.end.new.self inside c.end.ensures.free c.loop-conn.invariant.3,
      ended_once c.args.ended.now.items c.loop-conn.conn
          (get_or c.loop-conn.places c.loop-conn.conn c.index-places-conn.result) c.loop-conn.ended.items
          c.end.new.ended.items c.end.ensures.ended c.loop-conn.invariant.4,
      omega (
        arith,
        c.loop-conn.invariant.5,
        more_ended c.loop-conn.conn Over
            (get_or c.loop-conn.places c.loop-conn.conn c.index-places-conn.result) c.loop-conn.ended.items
            c.end.new.ended.items c.end.ensures.ended,
      ),
      adds_on _ c.loop-conn.places c.loop-conn.conn c.index-places-conn.result c.end.new.self _
          c.loop-conn.ended.items c.end.new.ended.items inside c.loop-conn.invariant.6
          (free_adds c.end.new.self _ _ _ c.end.ensures.free c.end.ensures.kept),
      count_with c.loop-conn.conn (get_or c.loop-conn.places c.loop-conn.conn c.index-places-conn.result)
          c.loop-conn.ended.items c.end.new.ended.items c.end.ensures.ended ∙ c.loop-conn.invariant.7,
      drains_then _ _ _ _ _ _ c.loop-conn.invariant.8 c.end.ensures.drains,
    )

pub returns-in-Err-clause-drains : goal.returns-in-Err-clause-drains
returns-in-Err-clause-drains g c = drains_then _ _ _ _ _ _ c.loop-conn.invariant.8 c.end.ensures.drains

pub returns-clause-drains : goal.returns-clause-drains
returns-clause-drains g c = c.loop-conn.invariant.8

pub returns-in-Err-clause-kept : goal.returns-in-Err-clause-kept
returns-in-Err-clause-kept g c =
    adds_on _ c.loop-conn.places c.loop-conn.conn c.index-places-conn.result c.end.new.self _ c.loop-conn.ended.items
    c.end.new.ended.items (omega (arith, c.loop-conn-test.true, c.loop-conn.auto.places)) c.loop-conn.invariant.6
    (free_adds c.end.new.self _ _ _ c.end.ensures.free c.end.ensures.kept)

pub returns-in-Err-clause-before : goal.returns-in-Err-clause-before
returns-in-Err-clause-before g c =
    count_with c.loop-conn.conn (get_or c.loop-conn.places c.loop-conn.conn c.index-places-conn.result)
    c.loop-conn.ended.items c.end.new.ended.items c.end.ensures.ended ∙ c.loop-conn.invariant.7

pub returns-clause-kept : goal.returns-clause-kept
returns-clause-kept g c = c.loop-conn.invariant.6

pub returns-clause-before : goal.returns-clause-before
returns-clause-before g c = c.loop-conn.invariant.7

pub returns-clause-none : goal.returns-clause-none
returns-clause-none g c =
    let most : length c.loop-conn.places ≤ c.loop-conn.conn =
    omega (arith, c.loop-conn-test.false, c.loop-conn.auto.places) in
    none_open c.loop-conn.places (λ k inside. c.loop-conn.invariant.3 k (omega (arith, inside, most)))

pub returns-clause-serves : goal.returns-clause-serves
returns-clause-serves g c = λ refused sure before st past went joins.
    let s = c.loop-conn.invariant.1 refused sure before st past went joins in
    let most : length c.loop-conn.places ≤ c.loop-conn.conn =
    omega (arith, c.loop-conn-test.false, c.loop-conn.auto.places) in (
      s.0,
      s.1,
      all_served sure c.loop-conn.places c.loop-conn.ended.items refused st s.0
          (λ k lt. c.loop-conn.invariant.3 k (omega (arith, lt, most))) s.2,
    )

pub returns-in-Err-clause-once : goal.returns-in-Err-clause-once
returns-in-Err-clause-once g c = (
  c.loop-conn.conn + 1,
  ended_once c.args.ended.now.items c.loop-conn.conn
      (get_or c.loop-conn.places c.loop-conn.conn c.index-places-conn.result) c.loop-conn.ended.items
      c.end.new.ended.items c.end.ensures.ended c.loop-conn.invariant.4,
)

pub returns-clause-once : goal.returns-clause-once
returns-clause-once g c = (c.loop-conn.conn, c.loop-conn.invariant.4)

pub returns-clause-more : goal.returns-clause-more
returns-clause-more g c = c.loop-conn.invariant.5

pub returns-in-Err-clause-more : goal.returns-in-Err-clause-more
returns-in-Err-clause-more g c = omega (
  arith,
  c.loop-conn.invariant.5,
  more_ended c.loop-conn.conn Over
      (get_or c.loop-conn.places c.loop-conn.conn c.index-places-conn.result) c.loop-conn.ended.items
      c.end.new.ended.items c.end.ensures.ended,
)

pub returns-clause-counts : goal.returns-clause-counts
returns-clause-counts g c = uncounts _ _ c.loop-conn.invariant.0
