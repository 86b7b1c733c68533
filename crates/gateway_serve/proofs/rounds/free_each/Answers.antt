use Rattle.std.proofs.Common.{◌≡◌, ◌<◌, ◌≤◌, ◌∙◌, get_or, length, refl, arith}
use Rattle.gateway_serve.specs.Counted.{open_in}
use Rattle.gateway_serve.proofs.All.{none_left, all_left, one_more_left, free_before}
use Rattle.gateway_serve.proofs.Counted.{adds_on, count_with, free_adds, none_open}
use Rattle.gateway_serve.specs.Reasons.{none}
use Rattle.gateway_serve.proofs.Carries.{among_preserve}
use Rattle.gateway_serve.proofs.Drainings.{over_drains_none}
use Rattle.gateway_serve.proofs.Lost.{ended_once}
use Rattle.gateway_serve.proofs.rounds.free_each.Goals as goal

pub loop-conn-init : goal.loop-conn-init
loop-conn-init g c = (
  λ sure refused st past all. none_left sure c.args.places.now c.args.ended.now.items refused st past all,
  λ times have had. (have, had),
  none,
  refl,
  refl,
  λ k less. absurd (omega (arith, less)),
  refl,
)

pub loop-conn-preserved : goal.loop-conn-preserved
loop-conn-preserved g c =
    let inside : c.loop-conn.conn < length c.loop-conn.places =
    omega (arith, c.loop-conn-test.true, c.loop-conn.auto.places) in (
      λ sure refused st past all. one_more_left sure c.loop-conn.conn c.loop-conn.places c.index-places-conn.result
          c.free.new.self
          c.loop-conn.ended.items c.free.new.ended.items st past inside
          c.free.ensures.ended c.free.ensures.waiting (c.loop-conn.invariant.0 sure refused st past all),
      λ times. among_preserve g.S.Read.remaining g.S.Write.contents times _ c.loop-conn.places c.loop-conn.conn
          c.index-places-conn.result c.free.new.self _ c.loop-conn.ended.items c.free.new.ended.items
          (c.loop-conn.invariant.1 times) inside (c.free.ensures.streams times),
      ended_once c.args.ended.now.items c.loop-conn.conn
          (get_or c.loop-conn.places c.loop-conn.conn c.index-places-conn.result) c.loop-conn.ended.items
          c.free.new.ended.items c.free.ensures.ended c.loop-conn.invariant.2,
      adds_on _ c.loop-conn.places c.loop-conn.conn c.index-places-conn.result c.free.new.self _
          c.loop-conn.ended.items c.free.new.ended.items inside c.loop-conn.invariant.3
          (free_adds c.free.new.self _ _ _ c.free.ensures.free c.free.ensures.kept),
      count_with c.loop-conn.conn (get_or c.loop-conn.places c.loop-conn.conn c.index-places-conn.result)
          c.loop-conn.ended.items c.free.new.ended.items c.free.ensures.ended ∙ c.loop-conn.invariant.4,
      free_before c.loop-conn.conn c.loop-conn.places c.free.new.self inside c.free.ensures.free
          c.loop-conn.invariant.5,
      over_drains_none c.free.result c.free.ensures.drains ∙ c.loop-conn.invariant.6,
    )

pub returns-clause-drains : goal.returns-clause-drains
returns-clause-drains g c = c.loop-conn.invariant.6

pub returns-clause-kept : goal.returns-clause-kept
returns-clause-kept g c =
    let most : length c.loop-conn.places ≤ c.loop-conn.conn =
    omega (arith, c.loop-conn-test.false, c.loop-conn.auto.places) in
    let free : open_in c.loop-conn.places ≡ 0 =
    none_open c.loop-conn.places (λ k inside. c.loop-conn.invariant.5 k (omega (arith, inside, most))) in
    omega (arith, c.loop-conn.invariant.3, free)

pub returns-clause-before : goal.returns-clause-before
returns-clause-before g c = c.loop-conn.invariant.4

pub returns-clause-left : goal.returns-clause-left
returns-clause-left g c = λ sure refused st past all.
    let most : length c.loop-conn.places ≤ c.loop-conn.conn =
    omega (arith, c.loop-conn-test.false, c.loop-conn.auto.places) in (
      all_left sure c.loop-conn.conn c.loop-conn.places c.loop-conn.ended.items st past most
          (c.loop-conn.invariant.0 sure refused st past all),
      all.1,
    )

pub returns-clause-once : goal.returns-clause-once
returns-clause-once g c = (c.loop-conn.conn, c.loop-conn.invariant.2)
