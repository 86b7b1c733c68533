-- A view with a free slot shows the store without that slot's upload.
use Rattle.std.proofs.Common.{◌≡◌, ℕ, List, None, Some, refl, sym, ap, arith}
use Rattle.upload_rules.specs.Store.{Store, others, deleted_store}
use Rattle.upload_rules.proofs.Deleted.{find_in_others, none_in_others}
use Rattle.spool_blocks.specs.Blocks.{Row}
use Rattle.spool_pages.specs.Rests.{HasTexts}
use Rattle.spool_pages.specs.View.{SlotRecord, View, slot_at}
use Rattle.spool_catalog.specs.Shows.{Shows}
use Rattle.spool_catalog.specs.Rows.{FreesRows}
use Rattle.spool_kept.specs.Terminating.{deleted_view}
use Rattle.spool_catalog.proofs.slots.ChangedSlots.{clash, one_value}
use Rattle.spool_catalog.proofs.slots.Freed.{none_owned, others_stay}
use Rattle.spool_kept.proofs.slots.Others.{others_rise}
use Rattle.spool_kept.proofs.slots.SlotChange.{IsChange, changed_shows, changed_texts}
use Rattle.spool_catalog.proofs.Valid.{in_use}

module _ (v : View) (m : Store) (shows : Shows v m) (s : ℕ) (r : SlotRecord) (there : slot_at v s ≡ Some r)
    (rows : List Row) (frees : FreesRows s v.rows rows) where
  goes : IsChange v m s r.number None rows v.texts v.next m.next (others r.number m.uploads)
  goes = record {
    within = omega (arith, in_use v.slots s r there, shows.valid.slot_count);
    own = λ q e. ap (λ (x : SlotRecord). x.number) (one_value e there);
    apart = λ t q other e same. other (shows.valid.distinct t s q r e there (sym same));
    more = omega arith;
    most = shows.valid.next_most;
    next_is = shows.next;
    has = record {
      size = frees.size;
      others = others_stay s v.rows rows frees;
      blocks = tt;
      owners = λ b i owns. absurd (none_owned s v.rows rows frees b i owns);
    };
    texts_else = λ t other. refl;
    uploads_else = λ k other. find_in_others r.number k m.uploads other;
    rising = others_rise r.number m.uploads shows.rising;
    now = tt;
    gone = λ u e. clash (none_in_others r.number m.uploads) e;
  }

  pub deleted_shows : Shows (deleted_view v s rows) (deleted_store m r.number)
  deleted_shows = changed_shows shows goes

  -- and its texts are those that the rows show
  pub deleted_texts : (current : ℕ → ℕ) → HasTexts current v → HasTexts current (deleted_view v s rows)
  deleted_texts current texts = changed_texts shows goes current texts (λ q e. clash refl e)
