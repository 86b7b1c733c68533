use Rattle.std.proofs.Common.{◌≡◌, ◌∙◌, ◌-◌, ◌*◌, ℕ, List, Option, arith, refl, rules, sym, subst}
use Rattle.common.specs.declared.given.GivenRead.{GivenRead}
use Rattle.common.specs.declared.limits.TheConstants.{ROWS, SLOTS}
use Rattle.spool_disk.specs.Given.{Between, ReadsOnce}
use Rattle.spool_disk.proofs.Gave.{between_on, once_more, once_none, once_on}
use Rattle.spool_journal.specs.Image.{journal_pages}
use Rattle.std.proofs.lemmas.Bool.{false≢true}
use Rattle.spool_disk.proofs.Firm.{counts_on}
use Rattle.spool_pages.specs.View.{SlotRecord, row_place, slot_place, state_place}
use Rattle.spool_load.specs.ReadBy.{IsOfState}
use Rattle.spool_catalog.specs.Checks.{RecordsPass}
use Rattle.spool_load.proofs.ValidViews.{slots_updated, valid_passes, read_loaded, read_shows}
use Rattle.spool_load.proofs.Faults.{check_sound, check_reported}
use Rattle.spool_load.proofs.Looks.{gave_each, gave_rest, reads_none, reads_on, ok_no_fault}
use Rattle.spool_journal.proofs.Steps.{no_failure}
use Rattle.spool_load.proofs.loading.read.Goals as goal

pub of-requires-clause-below : goal.of-requires-clause-below
of-requires-clause-below g c s r there =
    let looked : c.deref.result.now ≡ c.in_ok-slots.slots.items = search rules in
    let are =
    subst (λ (xs : List (Option SlotRecord)). RecordsPass c.args.found.next xs) looked
    (c.are_valid.ensures.0 (search rules)) in
    (are.records s r there).below

pub returns-in_err-slots-clause-reads : goal.returns-in_err-slots-clause-reads
returns-in_err-slots-clause-reads g c = reads_on c.load_fields.ensures.reads c.load_slots.ensures.reads

pub returns-in_err-slots-clause-decoded : goal.returns-in_err-slots-clause-decoded
returns-in_err-slots-clause-decoded g c bytes gave v valid is encodes =
    let loaded =
    slots_updated bytes c.args.found.layout v valid (sym is.blocks) encodes c.args.found.version is.state.version
    (c.in_err-slots.ensures.decoded bytes (gave_rest c.load_fields.ensures.reads c.load_slots.ensures.reads gave)) in
    search rules

pub returns-then-not-are_valid-clause-reads : goal.returns-then-not-are_valid-clause-reads
returns-then-not-are_valid-clause-reads g c = reads_on c.load_fields.ensures.reads c.load_slots.ensures.reads

pub returns-then-not-are_valid-clause-decoded : goal.returns-then-not-are_valid-clause-decoded
returns-then-not-are_valid-clause-decoded g c bytes gave v valid is encodes =
    let slots : c.in_ok-slots.slots.items ≡ v.slots =
    slots_updated bytes c.args.found.layout v valid (sym is.blocks) encodes c.args.found.version is.state.version
    (c.in_ok-slots.ensures.decoded bytes (gave_rest c.load_fields.ensures.reads c.load_slots.ensures.reads gave)) in
    let looked : c.deref.result.now ≡ v.slots = search rules in
    let are = subst (λ (n : ℕ). RecordsPass n v.slots) (sym is.state.next) (valid_passes v valid) in
    let passes =
    c.are_valid.ensures.1
    (subst (λ (xs : List (Option SlotRecord)). RecordsPass c.args.found.next xs) (sym looked) are) in
    absurd (false≢true (sym c.if-not-are_valid.true ∙ passes))

pub returns-in_err-blocks-clause-reads : goal.returns-in_err-blocks-clause-reads
returns-in_err-blocks-clause-reads g c =
    reads_on (reads_on c.load_fields.ensures.reads c.load_slots.ensures.reads) c.load_blocks.ensures.reads

pub returns-in_err-blocks-clause-decoded : goal.returns-in_err-blocks-clause-decoded
returns-in_err-blocks-clause-decoded g c bytes gave v valid is encodes =
    let parts = gave_each c.load_fields.ensures.reads c.load_slots.ensures.reads c.load_blocks.ensures.reads gave in
    let slots : c.in_ok-slots.slots.items ≡ v.slots =
    slots_updated bytes c.args.found.layout v valid (sym is.blocks) encodes c.args.found.version is.state.version
    (c.in_ok-slots.ensures.decoded bytes parts.1) in
    let loaded = c.in_err-blocks.ensures.decoded bytes parts.2 v valid (sym is.blocks) encodes (search rules) in
    search rules

pub returns-clause-reads : goal.returns-clause-reads
returns-clause-reads g c =
    reads_on (reads_on c.load_fields.ensures.reads c.load_slots.ensures.reads) c.load_blocks.ensures.reads

pub returns-in_err-catalog-clause-reads : goal.returns-in_err-catalog-clause-reads
returns-in_err-catalog-clause-reads g c =
    reads_on (reads_on c.load_fields.ensures.reads c.load_slots.ensures.reads) c.load_blocks.ensures.reads

pub returns-clause-decoded : goal.returns-clause-decoded
returns-clause-decoded g c bytes gave v valid is encodes =
    let parts = gave_each c.load_fields.ensures.reads c.load_slots.ensures.reads c.load_blocks.ensures.reads gave in
    let indexes = c.in_ok-indexes.ensures.decoded bytes parts.0 v valid (sym is.blocks) encodes in
    let slots : c.in_ok-slots.slots.items ≡ v.slots =
    slots_updated bytes c.args.found.layout v valid (sym is.blocks) encodes c.args.found.version is.state.version
    (c.in_ok-slots.ensures.decoded bytes parts.1) in
    let held = c.in_ok-blocks.ensures.decoded bytes parts.2 v valid (sym is.blocks) encodes (search rules) in
    c.in_ok-catalog.ensures.decoded v valid (sym is.blocks) is.state.version is.state.next indexes slots held.0 held.1

pub returns-in_err-catalog-clause-decoded : goal.returns-in_err-catalog-clause-decoded
returns-in_err-catalog-clause-decoded g c bytes gave v valid is encodes =
    let parts = gave_each c.load_fields.ensures.reads c.load_slots.ensures.reads c.load_blocks.ensures.reads gave in
    let indexes = c.in_ok-indexes.ensures.decoded bytes parts.0 v valid (sym is.blocks) encodes in
    let slots : c.in_ok-slots.slots.items ≡ v.slots =
    slots_updated bytes c.args.found.layout v valid (sym is.blocks) encodes c.args.found.version is.state.version
    (c.in_ok-slots.ensures.decoded bytes parts.1) in
    let held = c.in_ok-blocks.ensures.decoded bytes parts.2 v valid (sym is.blocks) encodes (search rules) in
    let shown =
    check_reported c.in_err-catalog.field-0.0
    (c.in_err-catalog.ensures.decoded v valid (sym is.blocks) is.state.version is.state.next indexes slots held.0
    held.1) in
    search rules

pub returns-in_err-slots-clause-counts : goal.returns-in_err-slots-clause-counts
returns-in_err-slots-clause-counts g c =
    let counted =
    counts_on c.load_fields.ensures.counts (ok_no_fault _ _ c.in_ok-indexes.was) c.in_err-slots.ensures.counts in
    search rules

pub returns-then-not-are_valid-clause-counts : goal.returns-then-not-are_valid-clause-counts
returns-then-not-are_valid-clause-counts g c =
    let first = no_failure c.load_fields.ensures.counts (ok_no_fault _ _ c.in_ok-indexes.was) in
    let second = no_failure c.load_slots.ensures.counts (ok_no_fault _ _ c.in_ok-slots.was) in
    search rules

pub returns-in_err-blocks-clause-counts : goal.returns-in_err-blocks-clause-counts
returns-in_err-blocks-clause-counts g c =
    let second =
    counts_on c.load_fields.ensures.counts (ok_no_fault _ _ c.in_ok-indexes.was) c.load_slots.ensures.counts in
    let counted = counts_on second (ok_no_fault _ _ c.in_ok-slots.was) c.in_err-blocks.ensures.counts in
    search rules

pub returns-clause-valid : goal.returns-clause-valid
returns-clause-valid g c bytes gave found =
    let parts = gave_each c.load_fields.ensures.reads c.load_slots.ensures.reads c.load_blocks.ensures.reads gave in
    let fields = c.in_ok-indexes.ensures.valid bytes parts.0 in
    let state = found.rest.0 (search rules) in
    let slots = c.in_ok-slots.ensures.valid bytes parts.1 in
    let rows = c.in_ok-blocks.ensures.valid bytes parts.2 in
    let looked : c.deref.result.now ≡ c.in_ok-slots.slots.items = search rules in
    let are =
    subst (λ (xs : List (Option SlotRecord)). RecordsPass c.args.found.next xs) looked
    (c.are_valid.ensures.0 (search rules)) in
    read_loaded bytes c.args.found.layout c.args.found.version c.args.found.next c.in_ok-indexes.indexes
    c.in_ok-slots.slots.items c.in_ok-blocks.blocks.rows c.in_ok-indexes.ensures.set c.in_ok-slots.ensures.fits
    (search rules) (search rules) c.in_ok-slots.ensures.long c.in_ok-blocks.ensures.long are (search rules)
    c.in_ok-blocks.ensures.fits c.in_ok-catalog.ensures.distinct c.in_ok-catalog.ensures.whole
    c.in_ok-blocks.blocks.reserved c.in_ok-catalog.catalog c.in_ok-blocks.ensures.reserved
    c.in_ok-catalog.ensures.decoded
    fields state slots rows

pub returns-in_err-catalog-clause-counts : goal.returns-in_err-catalog-clause-counts
returns-in_err-catalog-clause-counts g c =
    let first = no_failure c.load_fields.ensures.counts (ok_no_fault _ _ c.in_ok-indexes.was) in
    let second = no_failure c.load_slots.ensures.counts (ok_no_fault _ _ c.in_ok-slots.was) in
    let third = no_failure c.load_blocks.ensures.counts (ok_no_fault _ _ c.in_ok-blocks.was) in
    let sound = check_sound c.in_err-catalog.field-0.0 in
    search rules

pub returns-clause-view : goal.returns-clause-view
returns-clause-view g c =
    let looked : c.deref.result.now ≡ c.in_ok-slots.slots.items = search rules in
    let are =
    subst (λ (xs : List (Option SlotRecord)). RecordsPass c.args.found.next xs) looked
    (c.are_valid.ensures.0 (search rules)) in
    read_shows (λ p. 0) c.args.found.layout c.args.found.version c.args.found.next c.in_ok-indexes.indexes
    c.in_ok-slots.slots.items c.in_ok-blocks.blocks.rows c.in_ok-indexes.ensures.set c.in_ok-slots.ensures.fits
    (search rules) (search rules) c.in_ok-slots.ensures.long c.in_ok-blocks.ensures.long are (search rules)
    c.in_ok-blocks.ensures.fits c.in_ok-catalog.ensures.distinct c.in_ok-catalog.ensures.whole
    c.in_ok-blocks.blocks.reserved c.in_ok-catalog.catalog c.in_ok-blocks.ensures.reserved
    c.in_ok-catalog.ensures.decoded

pub returns-then-not-found-clause-reads : goal.returns-then-not-found-clause-reads
returns-then-not-found-clause-reads g c = reads_none c.args.disk.now

-- WHICH PLACES ARE READ: page 0 and the index area, then the slots, then the rows
module _ (n : ℕ) {a b : List GivenRead} (fields : ReadsOnce (Between 0 (state_place n)) a b) where
  abbrev IsElsewhere : ℕ → Type 0
  IsElsewhere p = IsOfState n p → ⊥

  only_fields : ReadsOnce IsElsewhere a b
  only_fields = once_more (λ p is state. omega (arith, is.1, state.0)) fields

  then_slots : {c : List GivenRead} → ReadsOnce (Between (slot_place n 0) (slot_place n SLOTS)) b c
      → ReadsOnce IsElsewhere a c
  then_slots slots =
      once_on fields slots (λ p is also. omega (arith, is.1, also.0)) (λ p is state. omega (arith, is.1, state.0))
      (λ p is state. omega (arith, is.0, state.1))

  then_rows : {c d : List GivenRead} → ReadsOnce (Between (slot_place n 0) (slot_place n SLOTS)) b c
      → ReadsOnce (Between (row_place n 0) (row_place n (ROWS * (journal_pages n - 257)))) c d
      → ReadsOnce IsElsewhere a d
  then_rows slots rows =
      once_on fields
      (between_on (slot_place n 0) (slot_place n SLOTS) slots (row_place n 0)
      (row_place n (ROWS * (journal_pages n - 257))) rows (omega arith) (omega arith) (omega arith))
      (λ p is also. omega (arith, is.1, also.0)) (λ p is state. omega (arith, is.1, state.0))
      (λ p is state. omega (arith, is.0, state.1))

pub returns-then-not-found-clause-once : goal.returns-then-not-found-clause-once
returns-then-not-found-clause-once g c = once_none refl

pub returns-in_err-indexes-clause-once : goal.returns-in_err-indexes-clause-once
returns-in_err-indexes-clause-once g c = only_fields c.args.found.layout c.load_fields.ensures.once

pub returns-in_err-slots-clause-once : goal.returns-in_err-slots-clause-once
returns-in_err-slots-clause-once g c =
    then_slots c.args.found.layout c.load_fields.ensures.once c.load_slots.ensures.once

pub returns-then-not-are_valid-clause-once : goal.returns-then-not-are_valid-clause-once
returns-then-not-are_valid-clause-once g c =
    then_slots c.args.found.layout c.load_fields.ensures.once c.load_slots.ensures.once

pub returns-in_err-blocks-clause-once : goal.returns-in_err-blocks-clause-once
returns-in_err-blocks-clause-once g c =
    then_rows c.args.found.layout c.load_fields.ensures.once c.load_slots.ensures.once c.load_blocks.ensures.once

pub returns-in_err-catalog-clause-once : goal.returns-in_err-catalog-clause-once
returns-in_err-catalog-clause-once g c =
    then_rows c.args.found.layout c.load_fields.ensures.once c.load_slots.ensures.once c.load_blocks.ensures.once

pub returns-clause-once : goal.returns-clause-once
returns-clause-once g c =
    then_rows c.args.found.layout c.load_fields.ensures.once c.load_slots.ensures.once c.load_blocks.ensures.once
