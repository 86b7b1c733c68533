-- What a crash may leave while a spool is made.
use Rattle.std.proofs.Common.{◌≡◌, inl, inr, ℕ, ◌*◌, ◌≤◌, List, length, refl, ◌∙◌, arith, ⊎_elim}
use Rattle.spool_journal.specs.declared.TheConstants.{PAGE}
use Rattle.common.specs.declared.limits.TheConstants.{LEAST_BLOCKS, MOST_BLOCKS}
use Rattle.enc_model.specs.Indexes.{IndexSet}
use Rattle.enc_index.specs.Sets.{IsIndexSet}
use Rattle.spool_disk.specs.Disk.{In, IsImage, Preserves, Syncs, Writes}
use Rattle.spool_disk.specs.Views.{Lasts}
use Rattle.spool_disk.specs.declared.disk.Disk.{Ghosts}
use Rattle.spool_disk.proofs.Firm.{lasts_more, lasts_on}
use Rattle.spool_journal.specs.Image.{all_pages}
use Rattle.spool_journal.specs.Phases.{Still}
use Rattle.spool_image.specs.Format.{FormatsTo, PrefixStays, LeftByFormat}
use Rattle.spool_image.specs.Fresh.{IsFreshTo, PreservesFirstPage}
use Rattle.spool_image.proofs.NoUploads.{fresh_shows}

-- PAGE 0

pub read_only : {D : Type 0} (disk : Ghosts D) (a b : D) (n : ℕ) (x : IndexSet)
    → Lasts disk a b (IsImage (disk.current a) (disk.unsynced a))
    → Lasts disk a b (LeftByFormat n x (disk.current a) (disk.unsynced a))
read_only disk a b n x lasts = lasts_more lasts (λ image is. inl
    (record { same = λ p lt is_synced. is.same p is_synced }))

pub prefix_unchanged : (current : ℕ → ℕ) (unsynced : ℕ → Type 0) → PreservesFirstPage current current unsynced unsynced
prefix_unchanged current unsynced = record { same = λ p lt is_synced. refl; unsyncs = λ p lt l. l }

module _ {current current' : ℕ → ℕ} {unsynced unsynced' : ℕ → Type 0} where
  -- after page 0 anything may be written
  pub prefix_written : {at : ℕ} {bytes : List ℕ} {done : Type 0} → PAGE ≤ at
      → Writes at bytes done current current' unsynced unsynced'
      → PreservesFirstPage current current' unsynced unsynced'
  prefix_written from writes = record {
    same = λ p lt is_synced. writes.outside p (λ within. omega (arith, within.from, from, lt));
    unsyncs = λ p lt l. ⊎_elim (λ was. was) (λ within. absurd (omega (arith, within.from, from, lt)))
        (writes.unsyncs p l);
  }

  pub prefix_synced : {done : Type 0} → Syncs done current current' unsynced unsynced'
      → PreservesFirstPage current current' unsynced unsynced'
  prefix_synced syncs = record {
    same = λ p lt is_synced. syncs.outside p is_synced;
    unsyncs = λ p lt l.
        syncs.unsyncs p l;
  }

  pub prefix_image : PreservesFirstPage current current' unsynced unsynced' → (image : ℕ → ℕ)
      → IsImage current' unsynced' image
      → PrefixStays current unsynced image
  prefix_image preserves image is = record {
    same = λ p lt is_synced. is.same p (λ l. is_synced (preserves.unsyncs p lt l)) ∙ preserves.same p lt is_synced;
  }

pub prefix_on : {a b c : ℕ → ℕ} {la lb lc : ℕ → Type 0} → PreservesFirstPage a b la lb → PreservesFirstPage b c lb lc
    → PreservesFirstPage a c la lc
prefix_on first then = record {
  same = λ p lt is_synced. then.same p lt (λ l. is_synced (first.unsyncs p lt l)) ∙ first.same p lt is_synced;
  unsyncs = λ p lt l. first.unsyncs p lt (then.unsyncs p lt l);
}

pub prefix_stays : {current current' : ℕ → ℕ} {unsynced unsynced' : ℕ → Type 0}
    → PreservesFirstPage current current' unsynced unsynced'
    → (image : ℕ → ℕ) → PrefixStays current' unsynced' image → PrefixStays current unsynced image
prefix_stays preserves image stays = record {
  same = λ p lt is_synced. stays.same p lt (λ l. is_synced (preserves.unsyncs p lt l)) ∙ preserves.same p lt is_synced;
}

pub prefix_read : {current current' : ℕ → ℕ} {unsynced unsynced' : ℕ → Type 0}
    → Preserves current current' unsynced unsynced'
    → PreservesFirstPage current current' unsynced unsynced'
prefix_read preserves = record { same = λ p lt is_synced. preserves.same p; unsyncs = λ p lt l. preserves.unsyncs p l }

-- a call that only reads, and then what is made
pub read_then : {D : Type 0} (disk : Ghosts D) (a b c : D) (n : ℕ) (x : IndexSet)
    → Lasts disk a b (IsImage (disk.current a) (disk.unsynced a))
    → Preserves (disk.current a) (disk.current b) (disk.unsynced a) (disk.unsynced b)
    → Lasts disk b c (LeftByFormat n x (disk.current b) (disk.unsynced b))
    → Lasts disk a c (LeftByFormat n x (disk.current a) (disk.unsynced a))
read_then disk a b c n x lasts preserves then =
    lasts_on (read_only disk a b n x lasts)
    (lasts_more then (λ image one. ⊎_elim (λ stays. inl (prefix_stays (prefix_read preserves) image stays))
    (λ made. inr made)
    one))

-- nothing has happened
pub lasts_none : {D : Type 0} (disk : Ghosts D) (d : D) (P : (ℕ → ℕ) → Type 0) → Lasts disk d d P
lasts_none disk d P = record { later = omega arith; nothing_else = λ t image le left. inl left }

-- THE PAGES AFTER IT, which are synced before page 0 is written

pub fresh_image : {n end : ℕ} {x : IndexSet} {a b c : ℕ → ℕ} {lb lc : ℕ → Type 0} {done : Type 0} {bytes : List ℕ}
    → IsFreshTo n x end a → Still a b lb → Writes 0 bytes done b c lb lc → length bytes ≡ PAGE → (image : ℕ → ℕ)
    → IsImage c lc image → IsFreshTo n x end image
fresh_image {bytes = bytes} fresh still writes long image is = record {
  each = λ p from below.
      let apart : In 0 (length bytes) p → ⊥ = λ within. omega (arith, within.below, from, long) in
      is.same p (λ l. ⊎_elim (still.is_synced p) apart (writes.unsyncs p l)) ∙ writes.outside p apart ∙ still.reads p
      ∙ fresh.each p from below;
}

pub fresh_image_synced : {n end : ℕ} {x : IndexSet} {a b c d : ℕ → ℕ} {lb lc ld : ℕ → Type 0} {done synced : Type 0}
    {bytes : List ℕ} → IsFreshTo n x end a → Still a b lb → Writes 0 bytes done b c lb lc → Syncs synced c d lc ld
    → length bytes ≡ PAGE → (image : ℕ → ℕ) → IsImage d ld image → IsFreshTo n x end image
fresh_image_synced fresh still writes again long image is =
    fresh_image fresh still writes long image (record {
      same = λ p is_synced. is.same p (λ l. is_synced (again.unsyncs p l)) ∙ again.outside p is_synced;
    })

-- where page 0 is whole then, the image shows no uploads
pub formats_to : (n : ℕ) (x : IndexSet) (image : ℕ → ℕ) → LEAST_BLOCKS ≤ n → n ≤ MOST_BLOCKS → IsIndexSet x
    → IsFreshTo n x (PAGE * all_pages n) image → FormatsTo n x image
formats_to n x image least most valid fresh = record {
  shows = λ prefix. fresh_shows n x image (record { prefix = prefix; after = fresh }) least most valid;
}
