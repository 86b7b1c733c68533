-- A view with a new record shows the store with the new upload.
use Rattle.std.proofs.lemmas.Grind.{common_steps}
use Rattle.std.proofs.Common.{◌≡◌, ℕ, ◌+◌, ◌^◌, ◌<◌, ◌≤◌, [], Option, None, Some, length, refl, ◌∙◌, ap, arith}
use Rattle.common.specs.declared.limits.TheConstants.{SLOTS}
use Rattle.upload_rules.specs.Store.{New, Upload, Store, find, new_upload, created_store}
use Rattle.upload_rules.proofs.Finds.{find_push_other}
use Rattle.upload_rules.proofs.NewUploads.{new_text}
use Rattle.spool_blocks.specs.Chains.{Owns}
use Rattle.spool_pages.specs.View.{SlotRecord, View, slot_at}
use Rattle.spool_pages.specs.Rests.{HasTexts}
use Rattle.spool_catalog.specs.Shows.{IsValidRecord, IsRecordOf, Shows}
use Rattle.spool_kept.specs.Changed.{texts_with, created_view}
use Rattle.spool_catalog.proofs.slots.ChangedSlots.{clash, valid_more}
use Rattle.spool_kept.proofs.slots.SlotChange.{text_else}
use Rattle.spool_catalog.proofs.numbers.Entries.{find_push_same, rising_more}
use Rattle.spool_kept.proofs.slots.SlotChange.{IsChange, changed_shows}
use Rattle.spool_catalog.proofs.slots.SlotFits.{same_others}

-- an upload's number is below the next one
pub number_below : (v : View) (m : Store) → Shows v m → (n : ℕ) (u : Upload) → find n m.uploads ≡ Some u → n < m.next
number_below v m shows n u there =
    let has = shows.all n u there in
    omega (arith, (shows.valid.records has.slot has.used has.there).below, has.number, shows.next)

-- no upload has the next number
next_unused : (v : View) (m : Store) → Shows v m → find m.next m.uploads ≡ None
next_unused v m shows = by_answer (find m.next m.uploads) refl
  where
    by_answer : (o : Option Upload) → find m.next m.uploads ≡ o → find m.next m.uploads ≡ None
    by_answer None e = e
    by_answer (Some u) e = absurd (omega (arith, number_below v m shows m.next u e))

module _ (v : View) (m : Store) (new : New) (s : ℕ) (r : SlotRecord) (shows : Shows v m) (within : s < SLOTS)
    (free : slot_at v s ≡ None) (number : r.number ≡ m.next) (is : IsRecordOf m.indexes r [] (new_upload new))
    (valid : IsValidRecord (m.next + 1) r) (most : m.next + 1 ≤ 10 ^ 18) where
  unowned : (b i : ℕ) → Owns v.rows b s i → ⊥
  unowned b i owns = let owned = shows.valid.owners b s i owns in clash free owned.there

  no_text : r.text_len ≡ 0
  no_text = is.text_len ∙ ap length (new_text m.indexes new)

  comes : IsChange v m s m.next (Some r) v.rows (texts_with v s []) (v.next + 1) (m.next + 1)
      (created_store m new).uploads
  comes = record {
    within = within;
    own = λ q e. clash free e;
    apart = λ t q other e same. omega (arith, (shows.valid.records t q e).below, shows.next, same);
    more = omega arith;
    most = omega (arith, most, shows.next);
    next_is = ap (λ (n : ℕ). n + 1) shows.next;
    has = record {
      size = refl;
      others = same_others s v.rows v.rows refl;
      blocks = record {
        there = λ i lt. absurd (omega (arith, lt, no_text));
        once = λ a b i owns more. absurd (unowned a i owns);
        only = λ b i owns. absurd (unowned b i owns);
      };
      owners = λ b i owns. absurd (unowned b i owns);
    };
    texts_else = text_else v s [];
    uploads_else = λ k other. find_push_other k m.next (new_upload new) m.uploads other;
    rising = rising_more m.uploads m.next (new_upload new) shows.rising (number_below v m shows);
    now = record {
      number = number;
      valid = valid_more (omega (arith, shows.next)) valid;
      upload = new_upload new;
      there = find_push_same m.next (new_upload new) m.uploads (next_unused v m shows);
      represents = search (arith, common_steps);
    };
    gone = λ u e. (r, refl);
  }

  pub created_shows : Shows (created_view v s r) (created_store m new)
  created_shows = changed_shows shows comes

  -- and its texts are those that the rows show
  pub created_texts : (current : ℕ → ℕ) → HasTexts current v → HasTexts current (created_view v s r)
  created_texts current texts = search (arith, common_steps)
