use Rattle.std.proofs.Common.{◌≡◌, inl, inr, ◌+◌, ◌-◌, ◌<◌, ◌*◌, ◌∙◌, ℕ, Option, None, get_or, sym, subst, arith}
use Rattle.std.proofs.lemmas.Bool.{cases_lt}
use Rattle.common.specs.declared.limits.TheConstants.{SLOTS}
use Rattle.spool_journal.specs.Image.{byte_of}
use Rattle.spool_pages.specs.View.{AreAt, row_bytes}
use Rattle.spool_load.proofs.owners.fill.Goals as goal

pub returns-then-are_free-clause-decoded : goal.returns-then-are_free-clause-decoded
returns-then-are_free-clause-decoded c all long fits are_at was = record {
  each = λ k lt. elim (cases_lt k c.args.first) [
    | inl below ↦ was.each k below
    | inr from ↦
        let m : ℕ = k - c.args.first in
        let at : c.args.first + m ≡ k = omega (arith, from) in
        let few : m < SLOTS = omega (arith, lt, from) in
        let none = c.are_free.ensures.only c.if-are_free.true m few (get_or all (c.args.first + m) None)
        (fits (c.args.first + m)) (are_at m few) in
        c.requires.free.each k from ∙ sym (subst (λ (j : ℕ). get_or all j None ≡ None) at none)
  ];
}

pub returns-then-are_free-clause-valid : goal.returns-then-are_free-clause-valid
returns-then-are_free-clause-valid c k lt =
    subst (λ (row : Option (ℕ × ℕ)). AreAt (byte_of c.args.page.now) (8 * k) 8 (row_bytes row))
    (sym (c.requires.free.each (c.args.first + k) (omega arith))) (c.are_free.ensures.free.0 c.if-are_free.true k lt)

pub returns-then-are_free-clause-after : goal.returns-then-are_free-clause-after
returns-then-are_free-clause-after c = record { each = λ k from. c.requires.free.each k (omega (arith, from)) }
