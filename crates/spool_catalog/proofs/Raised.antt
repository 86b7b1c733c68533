-- A view with a later next number is as valid as before, and shows the same uploads.
use Rattle.std.proofs.Common.{◌≡◌, ◌≤◌, ◌^◌, ◌∙◌, ℕ, Some, refl, arith}
use Rattle.spool_blocks.specs.Chains.{Owns}
use Rattle.upload_rules.specs.Store.{Store, Upload, find}
use Rattle.spool_pages.specs.Changes.{with_next}
use Rattle.spool_pages.specs.View.{SlotRecord, View, slot_at}
use Rattle.spool_catalog.specs.Raising.{raised}
use Rattle.spool_catalog.specs.Shows.{HasSlot, IsOwned, IsRecorded, IsValid, IsValidRecord, Shows}

-- a record's number is below a later one too
raised_record : (r : SlotRecord) (before next : ℕ) → before ≤ next → IsValidRecord before r → IsValidRecord next r
raised_record r before next le valid = record {
  some = valid.some;
  below = let less = valid.below in omega (arith, less, le);
  accepted = valid.accepted;
  declared = valid.declared;
  text_fits = valid.text_fits;
  state_size = valid.state_size;
  state = valid.state;
  metadata_size = valid.metadata_size;
  printable = valid.printable;
}

raised_valid : (v : View) (next : ℕ) → IsValid v → v.next ≤ next → next ≤ 10 ^ 18 → IsValid (with_next v next)
raised_valid v next valid le most = record {
  least = valid.least;
  most = valid.most;
  next_least = let least = valid.next_least in omega (arith, least, le);
  next_most = most;
  indexes = valid.indexes;
  slot_count = valid.slot_count;
  row_count = valid.row_count;
  records = λ s r there. raised_record r v.next next le (valid.records s r there);
  distinct = valid.distinct;
  owners = λ b slot ordinal owns.
      let owned = valid.owners b slot ordinal owns in
      record { used = owned.used; there = owned.there; fits = owned.fits };
  lists = valid.lists;
}

pub raised_shows : (v : View) (m : Store) (next : ℕ) → Shows v m → v.next ≤ next → next ≤ 10 ^ 18
    → Shows (with_next v next) (raised m next)
raised_shows v m next shows le most = record {
  valid = raised_valid v next shows.valid le most;
  next = refl;
  indexes = shows.indexes;
  rising = shows.rising;
  recorded = λ s r there.
      let one = shows.recorded s r there in
      record { upload = one.upload; there = one.there; represents = one.represents };
  all = λ n u there.
      let has = shows.all n u there in
      record { slot = has.slot; used = has.used; there = has.there; number = has.number };
}
