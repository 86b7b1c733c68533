use Rattle.std.proofs.Common.{◌≡◌, ◌<◌, ℕ, List, Option, Some, None, get_or, ltb, true, sym, ◌∙◌, ap, subst, arith}
use Rattle.std.proofs.lemmas.Bool.{false≢true}
use Rattle.std.proofs.lemmas.Bool.Decides.{nat_tests}
use Rattle.std.proofs.lemmas.Option.{same_Some}
use Rattle.upload_rules.specs.Room.{blocks_of}
use Rattle.spool_pages.specs.View.{SlotRecord}
use Rattle.spool_catalog.proofs.Valid.{is_less}
use Rattle.spool_catalog.specs.Checks.{RowPasses}
use Rattle.spool_catalog.proofs.checks.is_row_valid.Goals as goal

less_is : (a b : ℕ) → ltb a b ≡ true → a < b
less_is a b h = grind (arith, nat_tests)

module _ (slots : List (Option SlotRecord)) (slot ordinal : ℕ) (row : Option (ℕ × ℕ))
    (is : row ≡ Some (slot, ordinal)) where
  abbrev is_valid_in : Option (ℕ × ℕ) → Type 0
  is_valid_in None = Unit {0}
  is_valid_in (Some o) = RowPasses slots o.0 o.1

  row_valid : RowPasses slots slot ordinal → (s k : ℕ) → row ≡ Some (s, k) → RowPasses slots s k
  row_valid valid s k same = subst is_valid_in (sym is ∙ same) valid

  row_below : (r : SlotRecord) → get_or slots slot None ≡ Some r
      → ((s k : ℕ) → row ≡ Some (s, k) → RowPasses slots s k) → ordinal < blocks_of r.text_len
  row_below r there valid =
      let here = valid slot ordinal is in
      let same : here.used ≡ r = same_Some _ _ (sym here.there ∙ there) in
      subst (λ (q : SlotRecord). ordinal < blocks_of q.text_len) same here.below

  row_not_free : get_or slots slot None ≡ None → ((s k : ℕ) → row ≡ Some (s, k) → RowPasses slots s k) → ⊥
  row_not_free free valid = let here = valid slot ordinal is in let e = here.there in absurd (cc)

pub returns-in-Some-record_at-clause-valid : goal.returns-in-Some-record_at-clause-valid
returns-in-Some-record_at-clause-valid c =
    let r = c.in-Some-record_at.slot_used.now in
    let there : get_or c.args.slots.now c.in-Some.slot None ≡ Some r = sym c.in-Some-record_at.ensures in
    let limit : c.blocks_of.result ≡ blocks_of r.text_len =
    c.blocks_of.ensures ∙ ap (λ (q : SlotRecord). blocks_of q.text_len) c.record.ensures.slot_record in (
      λ yes. row_valid c.args.slots.now c.in-Some.slot c.in-Some.ordinal c.args.row c.in-Some.is (record {
        used = r;
        there = there;
        below = let lt = less_is c.in-Some.ordinal c.blocks_of.result yes in omega (arith, lt, limit);
      }),
      λ valid.
          let lt = row_below c.args.slots.now c.in-Some.slot c.in-Some.ordinal c.args.row c.in-Some.is r there valid in
          is_less c.in-Some.ordinal c.blocks_of.result (omega (arith, lt, limit)),
    )

pub returns-in-None-clause-valid : goal.returns-in-None-clause-valid
returns-in-None-clause-valid c = (
  λ yes. absurd (false≢true yes),
  λ valid. absurd (row_not_free c.args.slots.now c.in-Some.slot c.in-Some.ordinal c.args.row c.in-Some.is
      (sym c.in-None.ensures) valid),
)
