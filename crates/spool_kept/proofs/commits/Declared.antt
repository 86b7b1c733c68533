-- A length alone: what it makes of an upload whose text stays.
use Rattle.std.proofs.lemmas.Grind.{common_steps}
use Rattle.std.proofs.Common.{◌≡◌, ◌∙◌, ℕ, Bool, false, List, [], Option, None, Some, length}
use Rattle.std.proofs.Common.{refl, sym, ap, subst, arith}
use Rattle.std.proofs.lemmas.List.{append-nil}
use Rattle.enc_stream.specs.StateBytes.{IsValidState}
use Rattle.spool_disk.specs.declared.disk.Disk.{Ghosts}
use Rattle.spool_journal.specs.Image.{text_page}
use Rattle.spool_pages.specs.View.{SlotRecord}
use Rattle.upload_rules.specs.Lengths.{is_length, is_too_large, known_or, longest}
use Rattle.upload_rules.specs.States.{state_with, transcoder_with}
use Rattle.upload_rules.specs.Store.{Store, Upload, find, is_complete, patched, text_of, upload_of, accepted_count}
use Rattle.upload_rules.proofs.Commits.{state_patched, text_of_is, text_patched, transcoder_patched}
use Rattle.spool_kept.specs.Committing.{MayDeclare}
use Rattle.spool_kept.specs.Extending.{IsExtension, IsPending, OnlyDeclares}
use Rattle.spool_catalog.specs.Holding.{Holding, IsUsedBy}
use Rattle.spool_catalog.specs.Shows.{IsRecorded}
use Rattle.spool_kept.specs.Stored.{Stored}
use Rattle.spool_catalog.specs.declared.longer.Longer.{Longer}
use Rattle.spool_catalog.proofs.slots.ChangedSlots.{one_value}

-- the upload as it is in its record, with a length
abbrev pub named : SlotRecord → ℕ → Option ℕ → Longer
named r slot declared = record {
  slot = slot;
  declared = declared;
  accepted = r.accepted;
  text_len = r.text_len;
  state = r.state;
}

-- the slot's record, by an equal one
abbrev pub may_as : {slots : List (Option SlotRecord)} {slot : ℕ} {declared : Option ℕ} (r : SlotRecord)
    → (may : MayDeclare slots slot declared) → r ≡ may.used → MayDeclare slots slot declared
may_as {declared = declared} r may is = record {
  used = r;
  there = may.there ∙ ap (λ (q : SlotRecord). Some q) (sym is);
  unknown = ap (λ (q : SlotRecord). q.declared) is ∙ may.unknown;
  within = omega (arith, may.within, ap (λ (q : SlotRecord). q.accepted) is);
  incomplete = ap (λ (q : SlotRecord). is_length declared q.accepted) is ∙ may.incomplete;
}

pub only_declares : {slots : List (Option SlotRecord)} {slot : ℕ} {declared : Option ℕ}
    (may : MayDeclare slots slot declared) → OnlyDeclares may.used (named may.used slot declared)
only_declares may = record { unknown = may.unknown; accepted = refl; text_len = refl; state = refl }

module _ {D : Type 0} {sure : Bool} {disk : Ghosts D} {d : D} {h : Holding} {m : Store} {n slot : ℕ}
    {declared : Option ℕ} (stored : Stored sure disk d h m) (may : MayDeclare h.slots slot declared)
    (used : IsUsedBy h.slots slot n) (small : is_too_large declared ≡ false) where
  abbrev recorded : IsRecorded m may.used (stored.view.texts slot)
  recorded = stored.shows.recorded slot may.used (cc)

  number_is : may.used.number ≡ n
  number_is = ap (λ (r : SlotRecord). r.number) (one_value may.there used.there) ∙ used.is

  there : upload_of m n ≡ Some recorded.upload
  there = ap (λ (k : ℕ). find k m.uploads) (sym number_is) ∙ recorded.there

  unknown : recorded.upload.declared ≡ None
  unknown = sym recorded.represents.declared ∙ may.unknown

  known_is : known_or recorded.upload.declared declared ≡ declared
  known_is = rw unknown refl

  -- whatever upload is in the store is that one
  pub unknown_of : (v : Upload) → upload_of m n ≡ Some v → v.declared ≡ None
  unknown_of v is = ap (λ (w : Upload). w.declared) (one_value is there) ∙ unknown

  open_before : is_complete recorded.upload ≡ false
  open_before = ap (λ (k : Option ℕ). is_length k (accepted_count recorded.upload)) unknown

  open_still : is_complete (patched recorded.upload declared []) ≡ false
  open_still = search (arith, common_steps)

  alike : is_complete (patched recorded.upload declared []) ≡ is_complete recorded.upload
  alike = open_still ∙ sym open_before

  same_text : text_of m.indexes (patched recorded.upload declared []) ≡ text_of m.indexes recorded.upload
  same_text = grind (arith, common_steps, text_patched, alike, text_of_is)

  extension : {known : Type 0} (current : ℕ → ℕ) → IsExtension known m.indexes recorded.upload declared [] []
      (named may.used slot declared) [] current (text_page h.layout)
  unfolding state_with
  extension current = record {
    declared = sym known_is;
    accepted = omega (arith, recorded.represents.accepted);
    few = omega (arith, recorded.represents.accepted, may.within, ap longest known_is);
    small = small;
    state = recorded.represents.state ∙ ap (state_with m.indexes recorded.upload []) (sym alike)
        ∙ sym (state_patched m.indexes recorded.upload declared []);
    valid = subst IsValidState (sym (transcoder_patched m.indexes recorded.upload declared []
        ∙ ap (transcoder_with m.indexes recorded.upload []) alike)) recorded.represents.valid;
    encodable = search (arith, common_steps);
    text = same_text ∙ sym (append-nil (text_of m.indexes recorded.upload));
    text_len = recorded.represents.text_len ∙ ap length (sym same_text);
    nothing = λ none. refl;
    content = λ known some. absurd (omega (arith, some));
  }

  -- nothing is still to be written
  pub pending : IsPending sure disk d h m n declared [] (named may.used slot declared) [] []
  pending = record {
    stored = stored;
    text = [];
    fits = λ some. absurd (omega (arith, some));
    held = λ known some. absurd (omega (arith, some));
    append = λ e stored' written. record {
      stored = stored';
      used = used;
      upload = recorded.upload;
      there = there;
      added = [];
      extension = extension (disk.current e);
    };
  }
