use Rattle.std.proofs.Common.{rules, sym, ◌≡◌, ◌∙◌, ap, subst, List}
use Rattle.upload_rules.specs.Room.{blocks_of}
use Rattle.spool_blocks.specs.Blocks.{Row, slot_count, IsWholeText}
use Rattle.spool_blocks.proofs.Totals.{each_counted, whole}
use Rattle.spool_pages.specs.View.{SlotRecord}
use Rattle.spool_catalog.proofs.Valid.{slot_owns}
use Rattle.spool_catalog.proofs.lists.push_list.Goals as goal

pub returns-in_err-list-in-Some-clause-passes : goal.returns-in_err-list-in-Some-clause-passes
returns-in_err-list-in-Some-clause-passes c v valid same rows =
    let s = c.args.slot in
    let slot_used = c.in-Some.slot_used.now in
    let own = slot_owns v valid c.args.slots.now same s slot_used (sym c.in-Some.ensures) in
    let n = blocks_of slot_used.text_len in
    let len : n ≡ blocks_of c.record.result.now.text_len =
    ap (λ (r : SlotRecord). blocks_of r.text_len) (sym c.record.ensures.slot_record) in
    let count = subst (λ (xs : List Row). slot_count s xs ≡ n) (sym rows) (each_counted n s v.rows own) in
    let entire = subst (λ (xs : List Row). IsWholeText s xs) (sym rows) (whole n s v.rows own) in
    let passed = c.checked_list.ensures.passes (count ∙ len) entire in
    search rules
