use Rattle.std.proofs.Common.{◌≡◌, ◌<◌, ℕ, List, Option, None, length, get_or}
use Rattle.common.specs.declared.limits.TheConstants.{SLOTS}
use Rattle.spool_disk.specs.Given.{Between, ReadsGave, ReadsOnce}
use Rattle.spool_catalog.specs.Records.{FitsCatalog}
use Rattle.spool_pages.specs.Fits.{FitsSlotOf}
use Rattle.spool_load.specs.Reads.{OnlyReads, IsPrefixOf, SlotsAreAt}
use Rattle.spool_pages.specs.View.{SlotRecord, AreAt, slot_bytes, slot_place}
use Rattle.spool_load.proofs.slots.load_slots.Given as goal

abbrev pub invariant-loop-slot : goal.invariant-loop-slot
invariant-loop-slot g l = record {
  reads : OnlyReads g.D.Disk l.fn.disk l.disk;
  once : ReadsOnce (Between (slot_place l.layout 0) (slot_place l.layout l.slot)) (g.D.Disk.reads l.fn.disk)
      (g.D.Disk.reads l.disk);
  counts : g.D.Disk.failures l.disk ≡ g.D.Disk.failures l.fn.disk;
  long : length l.slots.items ≡ l.slot;
  decoded : (bytes : ℕ → ℕ) → ReadsGave bytes (g.D.Disk.reads l.fn.disk) (g.D.Disk.reads l.disk) →
      (decoded : List (Option SlotRecord)) → length decoded ≡ SLOTS → ((s : ℕ) → FitsCatalog (get_or decoded s None)) →
      ((s : ℕ) → s < SLOTS → AreAt bytes (slot_place l.layout s) 2048 (slot_bytes l.version (get_or decoded s None)))
      → IsPrefixOf decoded l.slots.items;
  valid : (bytes : ℕ → ℕ) → ReadsGave bytes (g.D.Disk.reads l.fn.disk) (g.D.Disk.reads l.disk)
      → SlotsAreAt bytes l.layout l.version l.slots.items;
  fits : (s : ℕ) → FitsSlotOf (get_or l.slots.items s None);
}
