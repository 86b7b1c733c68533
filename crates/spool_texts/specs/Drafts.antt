-- The new text of a draft.
use Rattle.std.specs.Prelude.{◌≡◌, ◌≢◌, ℕ, ◌+◌, ◌*◌, ◌-◌, ◌/◌, ◌%◌, ◌<◌, ◌++◌, List, [], ◌∷◌}
use Rattle.std.specs.Prelude.{Option, None, Some, true, false, length, get_or, replicate, take}
use Rattle.spool_journal.specs.declared.TheConstants.{PAGE}
use Rattle.spool_blocks.specs.Blocks.{Held, IsFree}
use Rattle.spool_texts.specs.TextOn.{blocks_on, text_on}
use Rattle.spool_texts.specs.declared.block_text.Unread.{Unread}

-- `unread` is the committed text's bytes after its last full block, until they are in memory. The blocks are by
-- ordinal, from that one on. The unfinished bytes are in memory, and aren't on a full block. `room` is how many blocks
-- fit the list before it grows.
pub record Draft : Type 0 where
  pub unread : Option Unread
  pub blocks : List ℕ
  pub unfinished : List ℕ
  pub room : ℕ

-- How many of the blocks are full. The last isn't if bytes are unfinished.
abbrev pub full_count : Draft → ℕ
full_count d = length d.blocks - (length d.unfinished + 4095) / PAGE

-- How many bytes are on full blocks or in memory.
abbrev pub held_count : Draft → ℕ
held_count d = PAGE * full_count d + length d.unfinished

-- Those bytes. The text blocks begin at page `first`.
abbrev pub content_on : (ℕ → ℕ) → ℕ → Draft → List ℕ
content_on current first d = blocks_on current first (take (full_count d) d.blocks) ++ d.unfinished

-- The listed block, if there is one.
abbrev pub tail_list : Option ℕ → List ℕ
tail_list None = []
tail_list (Some block) = block ∷ []

-- The first n bytes of the block, or zeros without one.
abbrev pub prefix_on : (ℕ → ℕ) → ℕ → Option ℕ → ℕ → List ℕ
prefix_on current first None n = replicate n 0
prefix_on current first (Some block) n = text_on current first (block ∷ []) n

-- The block of the committed text's last bytes. None if they are in memory, there are none, or the upload is deleted.
abbrev pub tail_on : Option Unread → List ℕ
tail_on None = []
tail_on (Some u) = tail_list u.block

-- They are zeros.
abbrev pub without_block : Option Unread → Option Unread
without_block None = None
without_block (Some u) = Some (record u { block = None })

-- How many they are.
abbrev pub unread_count : Option Unread → ℕ
unread_count None = 0
unread_count (Some u) = u.len

abbrev pub unread_on : (ℕ → ℕ) → ℕ → Option Unread → List ℕ
unread_on current first None = []
unread_on current first (Some u) = prefix_on current first u.block u.len

-- How many bytes the draft has, from the committed text's unfinished block on.
abbrev pub len_of : Draft → ℕ
len_of d = unread_count d.unread + held_count d

abbrev pub draft_bytes : (ℕ → ℕ) → ℕ → Draft → List ℕ
draft_bytes current first d = unread_on current first d.unread ++ content_on current first d

-- Nothing was added yet to the text of this length on the listed blocks.
pub record IsNothingAfter (len : ℕ) (list : List ℕ) (d : Draft) : Type 0 where
  pub none : d.blocks ≡ []
  pub count : len_of d ≡ len % PAGE
  pub tail : (i : ℕ) → i < length (tail_on d.unread)
      → (len / PAGE < length list) × (get_or (tail_on d.unread) i 0 ≡ get_or list (len / PAGE) 0)
  pub bytes : (current : ℕ → ℕ) (first : ℕ)
      → text_on current first list (PAGE * (len / PAGE)) ++ draft_bytes current first d ≡ text_on current first list len

-- How many bytes are on the listed blocks, with the last ones, which have yet to be written.
abbrev pub count_with : List ℕ → List ℕ → ℕ
count_with list last = PAGE * (length list - (length last + 4095) / PAGE) + length last

-- The bytes on the listed blocks, followed by the last ones, which have yet to be written to the last of these blocks.
abbrev pub bytes_with : (ℕ → ℕ) → ℕ → List ℕ → List ℕ → List ℕ
bytes_with current first list last = blocks_on current first (take (length list -
    (length last + 4095) / PAGE) list) ++ last

-- The listed blocks are reserved and distinct, and no slot owns one.
pub record IsReserved (h : Held) (list : List ℕ) : Type 0 where
  pub below : (i : ℕ) → i < length list → get_or list i 0 < length h.rows
  pub reserved : (i : ℕ) → i < length list → get_or h.reserved (get_or list i 0) false ≡ true
  pub no_owner : (i : ℕ) → i < length list → get_or h.rows (get_or list i 0) None ≡ None
  pub distinct : (i k : ℕ) → i < k → k < length list → get_or list i 0 ≢ get_or list k 0

-- The list grew by free blocks, which are reserved now. All others are unchanged.
pub record Takes (old new : Held) (list list' : List ℕ) : Type 0 where
  pub more : List ℕ
  pub grown : list' ≡ list ++ more
  pub rows : new.rows ≡ old.rows
  pub size : length new.reserved ≡ length old.reserved
  pub free : (i : ℕ) → i < length more → IsFree old (get_or more i 0)
  pub taken : (i : ℕ) → i < length more → get_or new.reserved (get_or more i 0) false ≡ true
  pub others : (b : ℕ) → ((i : ℕ) → i < length more → get_or more i 0 ≢ b)
      → get_or new.reserved b false ≡ get_or old.reserved b false
  pub preserves : (b : ℕ) → get_or old.reserved b false ≡ true → get_or new.reserved b false ≡ true

-- The listed blocks aren't reserved any more. All others are unchanged.
pub record GivesBack (old new : Held) (list : List ℕ) : Type 0 where
  pub rows : new.rows ≡ old.rows
  pub size : length new.reserved ≡ length old.reserved
  pub given : (i : ℕ) → i < length list → get_or new.reserved (get_or list i 0) false ≡ false
  pub others : (b : ℕ) → ((i : ℕ) → i < length list → get_or list i 0 ≢ b)
      → get_or new.reserved b false ≡ get_or old.reserved b false
