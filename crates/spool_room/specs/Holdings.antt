-- The blocks that uploads own and open patches reserve.
use Rattle.std.specs.Prelude.{◌≡◌, ◌≢◌, ℕ, ◌+◌, ◌-◌, ◌<◌, ◌≤◌, List, [], Bool, true, false, Some, None, length, get_or}
use Rattle.enc_model.specs.Indexes.{IndexSet}
use Rattle.spool_blocks.specs.Blocks.{Row, Held, IsFree}
use Rattle.spool_blocks.specs.Chains.{Owns, OwnsOneEach}
use Rattle.spool_texts.specs.Drafts.{IsReserved}
use Rattle.spool_texts.specs.Written.{NoneOf}
use Rattle.upload_rules.specs.Store.{Upload, find, text_of}
use Rattle.upload_rules.specs.World.{Patch, World, patch_text}
use Rattle.upload_rules.specs.Apart.{IsApart}
use Rattle.upload_rules.specs.Room.{blocks_of, used, need, needs_but, wants, is_short}

-- The slot is that of an upload.
pub record IsInUse (uploads : List (ℕ × Upload)) (slots : ℕ → ℕ) (slot : ℕ) : Type 0 where
  pub number : ℕ
  pub upload : Upload
  pub there : find number uploads ≡ Some upload
  pub is : slots number ≡ slot

-- Each upload has a slot of its own. It owns the blocks of the text, one at each ordinal, and no other slot owns any.
pub record OwnsTexts (x : IndexSet) (uploads : List (ℕ × Upload)) (slots : ℕ → ℕ) (rows : List Row) : Type 0 where
  pub apart : IsApart uploads
  pub texts : (n : ℕ) (u : Upload) → find n uploads ≡ Some u → OwnsOneEach rows (slots n)
      (blocks_of (length (text_of x u)))
  pub distinct : (m n : ℕ) (u v : Upload) → find m uploads ≡ Some u → find n uploads ≡ Some v → slots m ≡ slots n
      → m ≡ n
  pub owners : (b slot ordinal : ℕ) → Owns rows b slot ordinal → IsInUse uploads slots slot

-- The block is in one of the lists.
pub record IsInSome (lists : ℕ → List ℕ) (b : ℕ) : Type 0 where
  pub list : ℕ
  pub at : ℕ
  pub below : at < length (lists list)
  pub here : get_or (lists list) at 0 ≡ b

-- Each draft number has a list of blocks of its own, and together they are the reserved blocks. Except for draft d,
-- which is under way, a list is as long as the need of its patch, and empty without a patch.
pub record Reserves (x : IndexSet) (patches : List (ℕ × Patch)) (lists : ℕ → List ℕ) (d : ℕ) (h : Held) : Type 0 where
  pub apart : IsApart patches
  pub reserved : (e : ℕ) → IsReserved h (lists e)
  pub distinct : (e f : ℕ) → e ≢ f → NoneOf (lists e) (lists f)
  pub all : (b : ℕ) → get_or h.reserved b false ≡ true → IsInSome lists b
  pub needs : (e : ℕ) (p : Patch) → e ≢ d → find e patches ≡ Some p → length (lists e) ≡ need x p false
  pub none : (e : ℕ) → e ≢ d → find e patches ≡ None → lists e ≡ []

-- The blocks are those of a world: its uploads own them, and its patches reserve them.
pub record IsHeldBy (w : World) (slots : ℕ → ℕ) (lists : ℕ → List ℕ) (d : ℕ) (h : Held) : Type 0 where
  pub texts : OwnsTexts w.store.indexes w.store.uploads slots h.rows
  pub drafts : Reserves w.store.indexes w.patches lists d h
  pub limit : w.blocks ≡ Some (length h.rows)

-- No block is free.
abbrev pub IsFull : Held → Type 0
IsFull h = (b : ℕ) → IsFree h b → ⊥

-- The blocks of the texts, of the other patches and of draft d.
abbrev pub blocks_taken : World → ℕ → List ℕ → ℕ
blocks_taken w d list = used w.store.indexes w.store.uploads + needs_but d w.store.indexes w.patches + length list

-- The rule of room, by the draft's list and the free blocks.
pub record RuleHolds (w : World) (d : ℕ) (list : List ℕ) (h : Held) : Type 0 where
  pub fits : blocks_taken w d list ≤ length h.rows
  pub full : IsFull h → blocks_taken w d list ≡ length h.rows
  pub enough : (p : Patch) (done : Bool) → p.short ≡ false → wants w.store.indexes p done ≤ length list
      → is_short w d p done ≡ false
  pub lacking : (p : Patch) (done : Bool) → IsFull h → length list < wants w.store.indexes p done
      → is_short w d p done ≡ true
  pub stays : (p : Patch) (done : Bool) → p.short ≡ true → is_short w d p done ≡ true

-- How many bytes the patch adds to the text.
abbrev pub added_count : IndexSet → Patch → Bool → ℕ
added_count x p done = length (patch_text x p done).bytes - length (text_of x p.began)
