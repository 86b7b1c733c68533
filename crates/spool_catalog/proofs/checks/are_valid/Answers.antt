use Rattle.std.proofs.Common.{◌≡◌, inl, inr, None, get_or, refl, ap, sym, ◌∙◌, arith}
use Rattle.std.proofs.lemmas.Bool.{cases_lt, false≢true}
use Rattle.spool_catalog.proofs.Valid.{in_use}
use Rattle.spool_catalog.proofs.checks.are_valid.Goals as goal

pub returns-then-not-is_valid_at : goal.returns-then-not-is_valid_at
returns-then-not-is_valid_at c = (
  λ yes. absurd (false≢true yes),
  λ are. absurd (false≢true
      (sym c.if-not-is_valid_at.true ∙ c.is_valid_at.ensures.1 (λ r there. are.records c.loop-slot.slot r there))),
)

pub loop-slot-preserved : goal.loop-slot-preserved
loop-slot-preserved c s r lt there = elim (cases_lt s c.loop-slot.slot) [
  | inl below ↦ c.loop-slot.invariant s r below there
  | inr over ↦
      let here : s ≡ c.loop-slot.slot = omega (arith, lt, over) in
      c.is_valid_at.ensures.0 c.if-not-is_valid_at.false r (ap (λ k. get_or c.args.slots.now k None) (sym here) ∙ there)
]

pub returns : goal.returns
returns c = (
  λ yes. record {
    least = omega arith;
    most = omega arith;
    records =
        λ s r there. let used = in_use c.args.slots.now s r there in c.loop-slot.invariant s r
        (omega (arith, used, c.loop-slot-test.false)) there;
  },
  λ are. refl,
)
