use Rattle.std.proofs.Common.{◌≡◌, ◌∙◌, Err, Option, Some, ap, rules, sym}
use Rattle.std.proofs.lemmas.Result.{err_from_is_err_and}
use Rattle.spool_pages.specs.View.{SlotRecord}
use Rattle.upload_rules.specs.declared.errors.UploadRefusal.{UploadRefusal}
use Rattle.spool_kept.proofs.commits.FoundFor as lemmas
use Rattle.spool_kept.proofs.finding.found_for.Goals as goal

pub returns-in_default : goal.returns-in_default
returns-in_default c slot used = c.in_default.ensures.used slot (rw (← c.number.ensures) at used)

-- the slot's record, as it was read
abbrev there : {o : Option SlotRecord} {q r : SlotRecord} → Some q ≡ o → r ≡ q → o ≡ Some r
there here slot_record = sym here ∙ ap (λ (r : SlotRecord). Some r) (sym slot_record)

pub returns-then-accepted-offset : goal.returns-then-accepted-offset
returns-then-accepted-offset c = record {
  slot = c.in-Some.slot;
  used = rw c.number.ensures at c.in-Some.ensures.used;
  none = λ s has.
      let number = has.number ∙ sym c.number.ensures in
      let at = c.in-Some.ensures.only s (record { used = has.used; there = has.there; is = number }) in
      c.if-accepted-offset.true (lemmas.has_count has at (there c.in-Some-in_slot.ensures.slot
      c.record.ensures.slot_record)
      ∙ sym c.offset.ensures);
}

pub returns-in_err-declared : goal.returns-in_err-declared
returns-in_err-declared c =
    let err = err_from_is_err_and c.from_residual.result c.from_residual.ensures.1 in
    let is : c.from_residual.result ≡ Err c.in_err-declared.field-0.0 =
    err.1 ∙ ap (λ (e : UploadRefusal). Err e) err.2 in
    rw is (lemmas.refused c.args.draft.now c.record.result.now
    (there c.in-Some-in_slot.ensures.slot c.record.ensures.slot_record) (rw c.number.ensures at c.in-Some.ensures.used)
    (c.if-accepted-offset.false ∙ c.offset.ensures) c.declare-declare.ensures c.came-came.ensures
    c.in_err-declared.field-0.0 c.in_err-declared.ensures)

pub returns : goal.returns
returns c =
    lemmas.found c.args.draft.now c.record.result.now (there c.in-Some-in_slot.ensures.slot
    c.record.ensures.slot_record)
    (rw c.number.ensures at c.in-Some.ensures.used) (c.if-accepted-offset.false ∙ c.offset.ensures)
    c.declare-declare.ensures c.came-came.ensures c.in_ok-declared.ensures.0 c.in_ok-declared.ensures.1
    c.in_ok-declared.ensures.2 (search rules) c.record.ensures.unpacked c.is_new-declares.ensures c.stays.result
    c.stays.ensures.stays c.stays.ensures.goes
