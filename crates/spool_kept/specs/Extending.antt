-- What a patch makes of the catalog.
use Rattle.std.specs.Prelude.{◌≡◌, ◌⊎◌, ℕ, ◌*◌, ◌+◌, ◌-◌, ◌/◌, ◌%◌, ◌<◌, ◌≤◌, ◌++◌, List, [], Some, None, Bool}
use Rattle.std.specs.Prelude.{true, false, Option, length, drop}
use Rattle.spool_journal.specs.declared.TheConstants.{PAGE}
use Rattle.enc_model.specs.Indexes.{IndexSet}
use Rattle.enc_stream.specs.StateBytes.{IsValidState}
use Rattle.spool_disk.specs.declared.disk.Disk.{Ghosts}
use Rattle.spool_drafts.specs.Effect.{OnlyWrites}
use Rattle.spool_journal.specs.Image.{journal_pages, text_page}
use Rattle.spool_texts.specs.Drafts.{bytes_with}
use Rattle.spool_texts.specs.TextOn.{text_on}
use Rattle.upload_rules.specs.Lengths.{is_length, is_too_large, known_or, longest}
use Rattle.upload_rules.specs.Store.{Upload, Store, upload_of, accepted_count, is_complete, text_of, text_with}
use Rattle.upload_rules.specs.Store.{patched}
use Rattle.upload_rules.specs.States.{state_of, transcoder_with}
use Rattle.spool_pages.specs.View.{SlotRecord}
use Rattle.spool_catalog.specs.Holding.{Holding, IsUsedBy}
use Rattle.spool_kept.specs.Stored.{Stored}
use Rattle.spool_catalog.specs.declared.longer.Longer.{Longer}

-- more bytes are accepted, or as many and these are all
abbrev pub Advances : SlotRecord → Longer → Type 0
Advances r longer =
    (r.accepted < longer.accepted)
    ⊎ ((longer.accepted ≡ r.accepted) × (is_length longer.declared longer.accepted ≡ true))

-- the record had no length; all else stays
pub record OnlyDeclares (r : SlotRecord) (longer : Longer) : Type 0 where
  pub unknown : r.declared ≡ None
  pub accepted : longer.accepted ≡ r.accepted
  pub text_len : longer.text_len ≡ r.text_len
  pub state : longer.state ≡ r.state

-- how many bytes of a text are on full blocks
abbrev pub full_bytes : ℕ → ℕ
full_bytes len = len - len % PAGE

-- With this length, where none was known, and with these bytes, the upload's text grows by what is added. Where the
-- disk is sure to hold what was written, the blocks hold what is not on the old full ones
pub record IsExtension (sure : Type 0) (x : IndexSet) (u : Upload) (declare : Option ℕ) (bytes added : List ℕ)
    (longer : Longer) (more : List ℕ) (current : ℕ → ℕ) (first : ℕ) : Type 0 where
  pub declared : longer.declared ≡ known_or u.declared declare
  pub accepted : longer.accepted ≡ accepted_count u + length bytes
  pub few : accepted_count u + length bytes ≤ longest (known_or u.declared declare)
  pub small : is_too_large declare ≡ false
  pub state : longer.state ≡ state_of x (patched u declare bytes)
  pub valid : IsValidState (transcoder_with x (patched u declare bytes) [] (is_complete (patched u declare bytes)))
  pub encodable : (text_with x (patched u declare bytes) [] (is_complete (patched u declare bytes))).fault ≡ None
  pub text : text_of x (patched u declare bytes) ≡ text_of x u ++ added
  pub text_len : longer.text_len ≡ length (text_of x (patched u declare bytes))
  pub nothing : length more ≡ 0 → added ≡ []
  pub content : sure → 0 < length more → text_on current first more (longer.text_len - full_bytes (length
      (text_of x u))) ≡
      drop (full_bytes (length (text_of x u))) (text_of x u) ++ added

-- the disk and the catalog represent the store, and this is what a patch makes of the slot's upload
pub record IsAppend {D : Type 0} (sure : Bool) (disk : Ghosts D) (d : D) (h : Holding) (m : Store) (n : ℕ)
    (declare : Option ℕ) (bytes : List ℕ) (longer : Longer) (more : List ℕ) : Type 0 where
  pub stored : Stored sure disk d h m
  pub used : IsUsedBy h.slots longer.slot n
  pub upload : Upload
  pub there : upload_of m n ≡ Some upload
  pub added : List ℕ
  pub extension : IsExtension (sure ≡ true) m.indexes upload declare bytes added longer more (disk.current d)
      (text_page h.layout)

-- one whose last bytes are still to be written: with its text on its blocks it is one
pub record IsPending {D : Type 0} (sure : Bool) (disk : Ghosts D) (d : D) (h : Holding) (m : Store) (n : ℕ)
    (declare : Option ℕ) (bytes : List ℕ) (longer : Longer) (more last : List ℕ) : Type 0 where
  pub stored : Stored sure disk d h m
  pub text : List ℕ
  pub fits : 1 ≤ length more → (length last + 4095) / PAGE ≤ length more
  pub held : sure ≡ true → 1 ≤ length more → bytes_with (disk.current d) (text_page h.layout) more last ≡ text
  pub append : (e : D) → Stored sure disk e h m
      → (sure ≡ true → 1 ≤ length more → text_on (disk.current e) (text_page h.layout) more (length text) ≡ text)
      → IsAppend sure disk e h m n declare bytes longer more

-- the text's last bytes were written to its blocks alone, and then no byte of a text block
pub record IsLastWritten {D : Type 0} (sure : Bool) (disk : Ghosts D) (old new : D) (h : Holding) (m : Store) (n : ℕ)
    (declare : Option ℕ) (bytes : List ℕ) (longer : Longer) (more : List ℕ) : Type 0 where
  pub mid : D
  pub only : disk.honest old → OnlyWrites disk (journal_pages h.layout) more old mid
  pub append : IsAppend sure disk mid h m n declare bytes longer more
  pub texts : sure ≡ true → (p : ℕ) → PAGE * text_page h.layout ≤ p → disk.current new p ≡ disk.current mid p
