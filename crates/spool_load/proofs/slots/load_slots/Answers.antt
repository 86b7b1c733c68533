use Rattle.std.proofs.Common.{◌≡◌, ◌+◌, ◌∙◌, ℕ, List, length, refl, rules, ap, arith}
use Rattle.common.specs.declared.given.GivenRead.{GivenRead}
use Rattle.common.specs.declared.limits.TheConstants.{SLOTS}
use Rattle.spool_disk.specs.Given.{Between, ReadsOnce}
use Rattle.spool_disk.proofs.Gave.{between_more, between_on, once_none}
use Rattle.spool_pages.specs.View.{slot_place}
use Rattle.spool_journal.proofs.Steps.{no_failure}
use Rattle.spool_load.proofs.Looks.{gave_first, gave_rest, reads_none, reads_on, ok_no_fault, prefix_all}
use Rattle.spool_load.proofs.slots.load_slots.Goals as goal

pub returns-in_err-push_slot-clause-decoded : goal.returns-in_err-push_slot-clause-decoded
returns-in_err-push_slot-clause-decoded g c bytes gave decoded long fits are_at =
    let inv = c.loop-slot.invariant in
    let s = c.loop-slot.slot in
    let before = gave_first inv.reads c.push_slot.ensures.reads gave in
    let pushed =
    c.in_err-push_slot.ensures.decoded bytes (gave_rest inv.reads c.push_slot.ensures.reads gave) decoded long (fits s)
    (are_at s (omega arith)) inv.long (inv.decoded bytes before decoded long fits are_at) in
    search rules

-- the slots before, and one more
pushed_slot : (n s : ℕ) {a b c : List GivenRead} → ReadsOnce (Between (slot_place n 0) (slot_place n s)) a b
    → ReadsOnce (Between (slot_place n s) (slot_place n (s + 1))) b c
    → ReadsOnce (Between (slot_place n 0) (slot_place n (s + 1))) a c
pushed_slot n s before one =
    between_on (slot_place n 0) (slot_place n s) before (slot_place n s) (slot_place n (s + 1)) one (omega arith)
    (omega arith) (omega arith)

pub loop-slot-preserved : goal.loop-slot-preserved
loop-slot-preserved g c =
    let inv = c.loop-slot.invariant in
    let s = c.loop-slot.slot in
    record {
      reads = reads_on inv.reads c.push_slot.ensures.reads;
      once = pushed_slot c.args.layout.now s inv.once c.push_slot.ensures.once;
      counts = no_failure c.push_slot.ensures.counts (ok_no_fault _ _ c.in_ok-push_slot.was) ∙ inv.counts;
      long = c.in_ok-push_slot.ensures.long ∙ ap (λ (n : ℕ). n + 1) inv.long;
      decoded =
          λ bytes gave decoded long fits are_at. c.in_ok-push_slot.ensures.decoded bytes
          (gave_rest inv.reads c.push_slot.ensures.reads gave) decoded long (fits s) (are_at s (omega arith)) inv.long
          (inv.decoded bytes (gave_first inv.reads c.push_slot.ensures.reads gave) decoded long fits are_at);
      valid =
          λ bytes gave. c.in_ok-push_slot.ensures.valid bytes (gave_rest inv.reads c.push_slot.ensures.reads gave)
          inv.long (inv.valid bytes (gave_first inv.reads c.push_slot.ensures.reads gave));
      fits = c.in_ok-push_slot.ensures.fits inv.fits;
    }

pub returns-clause-decoded : goal.returns-clause-decoded
returns-clause-decoded g c bytes gave decoded long fits are_at =
    let inv = c.loop-slot.invariant in
    prefix_all decoded c.loop-slot.slots.items (inv.decoded bytes gave decoded long fits are_at)
    (omega (arith, inv.long, long))

pub loop-slot-init : goal.loop-slot-init
loop-slot-init g c =
    let empty : length c.new-slots.result.items ≡ 0 = search rules in
    record {
      reads = reads_none c.args.disk.now;
      once = once_none refl;
      counts = refl;
      long = empty;
      decoded = λ bytes gave decoded long fits are_at. record {
        few = omega (arith, empty);
        each = λ k below. absurd (omega (arith, below, empty));
      };
      valid = λ bytes gave. record {
        each = λ s below. absurd (omega (arith, below, empty));
      };
      fits = λ s. search rules;
    }

pub returns-in_err-push_slot-clause-reads : goal.returns-in_err-push_slot-clause-reads
returns-in_err-push_slot-clause-reads g c = reads_on c.loop-slot.invariant.reads c.push_slot.ensures.reads

pub returns-in_err-push_slot-clause-once : goal.returns-in_err-push_slot-clause-once
returns-in_err-push_slot-clause-once g c =
    let n = c.args.layout.now in
    let s = c.loop-slot.slot in
    between_more (slot_place n 0) (slot_place n (s + 1))
    (pushed_slot n s c.loop-slot.invariant.once c.push_slot.ensures.once) (slot_place n 0) (slot_place n SLOTS)
    (omega arith) (omega (arith, c.loop-slot-test.true))

pub returns-clause-once : goal.returns-clause-once
returns-clause-once g c =
    let n = c.args.layout.now in
    between_more (slot_place n 0) (slot_place n c.loop-slot.slot) c.loop-slot.invariant.once (slot_place n 0)
    (slot_place n SLOTS) (omega arith) (omega arith)
