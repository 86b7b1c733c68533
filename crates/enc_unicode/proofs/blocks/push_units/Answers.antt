use Rattle.std.proofs.Common.{◌+◌, sym, subst, drop, arith, get_or}
use Rattle.std.proofs.lemmas.List.{drop_all}
use Rattle.lane_kernels.specs.Units.{lead_of}
use Rattle.lane_kernels.specs.Steps.{scalar_text, scalars_of, unit_scalar}
use Rattle.enc_unicode.proofs.Scalars.{Remains, remains_all, remains_more, remains_none, scalars_more, few}
use Rattle.enc_unicode.proofs.blocks.push_units.Goals as goal

pub loop-unit-init : goal.loop-unit-init
loop-unit-init c = (
  c.requires.carried,
  remains_all c.args.batch.now (scalars_of c.args.carried c.args.units.now),
  omega
      arith,
)

pub push_unit-requires-clause-carried : goal.push_unit-requires-clause-carried
push_unit-requires-clause-carried c = c.loop-unit.invariant.0

pub push_unit-requires-clause-room : goal.push_unit-requires-clause-room
push_unit-requires-clause-room c =
    let size = c.loop-unit.invariant.2 in
    let l = c.loop-unit-test.true in
    let r = c.requires.room in
    omega (arith, size, l, r)

pub loop-unit-preserved : goal.loop-unit-preserved
loop-unit-preserved c =
    let units = c.args.units.now in
    let i = c.loop-unit.unit-index in
    let unit = get_or units i 0 in
    let x = scalar_text (unit_scalar c.loop-unit.lead unit) in
    let old = c.args.batch.now in
    let all = scalars_of c.args.carried units in
    let rest = scalars_of (lead_of unit) (drop (i + 1) units) in
    let before = c.loop-unit.invariant.1 in
    let size = c.loop-unit.invariant.2 in
    let one = few (unit_scalar c.loop-unit.lead unit) in
    let took = c.push_unit.ensures.size in
    let next = remains_more old all c.loop-unit.batch x rest c.push_unit.new.batch
    (subst (λ z. Remains old all c.loop-unit.batch z)
    (scalars_more c.loop-unit.lead units i (omega (arith, c.loop-unit-test.true, c.told-units)))
    before) c.push_unit.ensures in (
      c.lead_in-lead.ensures.carried,
      subst (λ z. Remains old all c.push_unit.new.batch (scalars_of z (drop (i + 1) units)))
          (sym c.lead_in-lead.ensures.value) next,
      omega (arith, size, one, took),
    )

pub returns : goal.returns
returns c =
    let units = c.args.units.now in
    let all = scalars_of c.args.carried units in
    let end = drop_all c.loop-unit.unit-index units (omega (arith, c.loop-unit-test.false, c.told-units)) in
    remains_none c.args.batch.now all c.loop-unit.batch
    (subst (λ z. Remains c.args.batch.now all c.loop-unit.batch (scalars_of c.loop-unit.lead z)) end
    c.loop-unit.invariant.1)
