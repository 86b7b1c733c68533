-- A number that leaves the order.
use Rattle.std.proofs.lemmas.Grind.{common_steps}
use Rattle.std.proofs.Common.{◌≡◌, inl, inr, ℕ, ◌+◌, ◌-◌, ◌<◌, ◌≤◌, List, length, get_or, sym, ◌∙◌, ap, arith}
use Rattle.std.specs.List.{remove}
use Rattle.std.proofs.lemmas.Bool.{cases_lt, cases_eq}
use Rattle.std.proofs.lemmas.List.Edits.{length-remove, get_or-remove_below, get_or-remove_above}
use Rattle.spool_catalog.specs.declared.order.NumberedSlot.{NumberedSlot}
use Rattle.spool_catalog.specs.Holding.{numbered, number_at, Rises}
use Rattle.spool_catalog.specs.TakenOut.{IsWithout}

module _ (order : List NumberedSlot) (place n : ℕ) (rises : Rises order) (within : place < length order)
    (here : number_at order place ≡ n) where
  long : length (remove order place) + 1 ≡ length order
  long = length-remove order place within

  below : (k : ℕ) → k < place → get_or (remove order place) k (numbered 0 0) ≡ get_or order k (numbered 0 0)
  below k lt = get_or-remove_below order place (numbered 0 0) k lt within

  above : (k : ℕ) → place ≤ k → get_or (remove order place) k (numbered 0 0) ≡ get_or order (k + 1) (numbered 0 0)
  above k le = get_or-remove_above order place (numbered 0 0) k le within

  num : {a b : NumberedSlot} → a ≡ b → a.number ≡ b.number
  num e = ap (λ (p : NumberedSlot). p.number) e

  rises_on : Rises (remove order place)
  rises_on i k less lt = elim (cases_lt k place) [
    | inl before ↦
        let up = rises i k less (omega (arith, before, within)) in
        omega (arith, num (below i (omega (arith, less, before))), num (below k before), up)
    | inr from ↦ elim (cases_lt i place) [
      | inl low ↦
          let up = rises i (k + 1) (omega (arith, less)) (omega (arith, lt, long)) in
          omega (arith, num (below i low), num (above k from), up)
      | inr high ↦
          let up = rises (i + 1) (k + 1) (omega (arith, less)) (omega (arith, lt, long)) in
          omega (arith, num (above i high), num (above k from), up)
    ]
  ]

  pub without_number : IsWithout order n (remove order place)
  without_number = record {
    rises = rises_on;
    preserved = λ m s other l. elim (cases_lt l.place place) [
      | inl before ↦ search (arith, common_steps)
      | inr from ↦ elim (cases_eq l.place place) [
        | inl same ↦ absurd (other (sym (num l.here) ∙ ap (number_at order) same ∙ here))
        | inr away ↦
            let next : l.place - 1 + 1 ≡ l.place = omega (arith, from, away) in
            record {
              place = l.place - 1;
              below = omega (arith, l.below, long, from, away);
              here = cc (above (l.place - 1) (omega (arith, from, away)));
            }
      ]
    ];
    only = λ m s l. elim (cases_lt l.place place) [
      | inl before ↦ search (arith, common_steps)
      | inr from ↦
          let there = sym (above l.place from) ∙ l.here in
          let inside : l.place + 1 < length order = omega (arith, l.below, long) in
          let more = rises place (l.place + 1) (omega (arith, from)) inside in (
            λ same. omega (arith, num there, more, here, same),
            record { place = l.place + 1; below = inside; here = there },
          )
    ];
  }
