-- A spool at rest: images that agree but for blocks that no row owns encode the same view.
use Rattle.std.proofs.Common.{◌≡◌, inl, inr, ℕ, zero, suc, ◌+◌, ◌*◌, ◌/◌, ◌≤◌, ◌++◌, Bool, true, false, cond, List, []}
use Rattle.std.proofs.Common.{◌∷◌, Option, None, Some, get_or, take, refl, sym, ◌∙◌, ap, arith, ⊎_elim}
use Rattle.spool_journal.specs.declared.TheConstants.{PAGE}
use Rattle.spool_disk.specs.Disk.{IsImage, Preserves}
use Rattle.spool_disk.proofs.Span.{span_same}
use Rattle.spool_journal.specs.Image.{journal_pages, Outside, overlaid, text_page}
use Rattle.spool_journal.specs.Phases.{Idle, Settled, IsBefore, ReadsAs}
use Rattle.spool_texts.specs.Texts.{owns, block_at, block_bytes, joined_blocks, text_shown}
use Rattle.spool_journal.proofs.Gate.{shut_view}
use Rattle.spool_texts.specs.Written.{InBlocks, WritesIn, IsImageBut, aside_blocks}
use Rattle.spool_texts.proofs.Asides.{aside_blocks_else}
use Rattle.spool_pages.specs.Rests.{OnFree, Rests, Unowned}
use Rattle.spool_pages.specs.View.{View, Encodes, IsViewOf, index_place, state_place, slot_place, row_place}
use Rattle.spool_pages.proofs.Encodes.{some_journal, at_same, encodes_same}

-- TEXTS

module _ (a b : ℕ → ℕ) (first : ℕ) where
  -- from this block on, the two agree on the blocks that are owned by the rows
  abbrev AgreeFrom : ℕ → List (Option (ℕ × ℕ)) → Type 0
  AgreeFrom x rows = (k p : ℕ) → (get_or rows k None ≡ None → ⊥) → first + (x + k) ≡ p / PAGE → a p ≡ b p

  owned_block : (slot ordinal : ℕ) (rows : List (Option (ℕ × ℕ))) (x : ℕ) → AgreeFrom x rows
      → block_bytes a first (block_at slot ordinal rows x) ≡ block_bytes b first (block_at slot ordinal rows x)
  unfolding block_at block_bytes owns
  owned_block slot ordinal [] x agree = refl
  owned_block slot ordinal (row ∷ rows) x agree =
      either (owns slot ordinal row) (Some x) (block_at slot ordinal rows (x + 1))
      (λ mine. span_same a b (PAGE * (first + x)) PAGE
      (λ p within. agree 0 p (λ none. unowned row none mine) (omega (arith, within.from, within.below))))
      (owned_block slot ordinal rows (x + 1) (λ k p owned e. agree (suc k) p owned (omega (arith, e))))
    where
      unowned : (row : Option (ℕ × ℕ)) → row ≡ None → owns slot ordinal row ≡ true → ⊥
      unowned row e mine = grind arith

      either : (t : Bool) (y z : Option ℕ) → (t ≡ true → block_bytes a first y ≡ block_bytes b first y)
          → block_bytes a first z ≡ block_bytes b first z → block_bytes a first (cond t y z) ≡ block_bytes b first
          (cond t y z)
      either true y z here rest = here refl
      either false y z here rest = rest

  owned_joined : (rows : List (Option (ℕ × ℕ))) → AgreeFrom 0 rows → (slot ordinal n : ℕ)
      → joined_blocks a first rows slot ordinal n ≡ joined_blocks b first rows slot ordinal n
  unfolding joined_blocks
  owned_joined rows agree slot ordinal zero = refl
  owned_joined rows agree slot ordinal (suc n) =
      ap (λ (xs : List ℕ). xs ++ joined_blocks a first rows slot (ordinal + 1) n)
      (owned_block slot ordinal rows 0 agree)
      ∙ ap (λ (xs : List ℕ). block_bytes b first (block_at slot ordinal rows 0) ++ xs)
      (owned_joined rows agree slot (ordinal + 1) n)

  pub owned_shown : (rows : List (Option (ℕ × ℕ)))
      → ((x p : ℕ) → (get_or rows x None ≡ None → ⊥) → first + x ≡ p / PAGE → a p ≡ b p) → (slot len : ℕ)
      → text_shown a first rows slot len ≡ text_shown b first rows slot len
  owned_shown rows agree slot len =
      ap (λ (xs : List ℕ). take len xs)
      (owned_joined rows (λ k p owned e. agree k p owned (omega (arith, e))) slot 0 ((len + 4095) / PAGE))

-- WHAT AN IMAGE ENCODES

-- no place before the text blocks is in one
pub not_free : (v : View) (p : ℕ) → p / PAGE + 1 ≤ text_page v.blocks → OnFree v p → ⊥
not_free v p below free = omega (arith, free.here, below)

-- neither gate and journal nor the blocks that no row owns matter
pub encodes_frees : (a b : ℕ → ℕ) (v : View)
    → ((p : ℕ) → Outside (journal_pages v.blocks) p → (OnFree v p → ⊥) → a p ≡ b p) → Encodes b v → Encodes a v
encodes_frees a b v same encodes =
    let j = some_journal v.blocks in
    record {
      first = at_same (λ i lt. same (0 + i) (inl (omega (arith, lt))) (not_free v _ (omega (arith, lt))))
          encodes.first;
      area = λ i lt. same (index_place v.blocks + i) (inr (omega arith)) (not_free v _ (omega (arith, lt, j)))
          ∙ encodes.area i lt;
      state = at_same (λ i lt. same (state_place v.blocks + i) (inr (omega arith))
          (not_free v _ (omega (arith, lt, j)))) encodes.state;
      slots = λ s lt. at_same
          (λ i below. same (slot_place v.blocks s + i) (inr (omega arith)) (not_free v _ (omega (arith, lt, below, j))))
          (encodes.slots s lt);
      rows = λ r lt. at_same
          (λ i below. same (row_place v.blocks r + i) (inr (omega arith)) (not_free v _ (omega (arith, lt, below, j))))
          (encodes.rows r lt);
      texts = λ s r e. encodes.texts s r e ∙ sym
          (owned_shown a b (text_page v.blocks) v.rows
          (λ x p owned here. same p (inr (omega (arith, here, j)))
          (λ free. owned (grind (arith, free.here, free.free))))
          s r.text_len);
    }

pub shut_encodes : (image : ℕ → ℕ) (v : View) → (image PAGE ≡ 165 → ⊥) → IsViewOf image v → Encodes image v
shut_encodes image v shut is = encodes_same image (overlaid image) v (λ p outside. sym (shut_view image p shut))
    is.encodes

pub shut_is : (image : ℕ → ℕ) (v : View) → (image PAGE ≡ 165 → ⊥) → Encodes image v → IsViewOf image v
shut_is image v shut encodes = record {
  form = λ ajar. absurd (shut ajar);
  encodes = encodes_same (overlaid image) image v (λ p outside. shut_view image p shut) encodes;
}

-- a place in a block that no row owns
pub in_free : {v : View} {n : ℕ} {blocks : List ℕ} (p : ℕ) → v.blocks ≡ n → Unowned v.rows blocks
    → InBlocks (text_page n) blocks p → OnFree v p
in_free {blocks = blocks} p size unowned within = record {
  block = get_or blocks within.at 0;
  here = omega (arith, ap journal_pages size, within.here);
  free = unowned within.at within.below;
}

-- A SPOOL AT REST

module _ {v : View} {current : ℕ → ℕ} {unsynced : ℕ → Type 0} where
  pub rests_encodes : Rests v current unsynced → Encodes current v
  rests_encodes rests = shut_encodes current v rests.closed rests.is

  -- an image that agrees with it but for gate, journal and the blocks that no row owns
  pub rests_is : (image : ℕ → ℕ) → Rests v current unsynced → (image PAGE ≡ 165 → ⊥)
      → ((p : ℕ) → Outside (journal_pages v.blocks) p → (OnFree v p → ⊥) → image p ≡ current p) → IsViewOf image v
  rests_is image rests shut same = shut_is image v shut (encodes_frees image current v same (rests_encodes rests))

  pub rests_agrees : (image : ℕ → ℕ) → Rests v current unsynced → ((p : ℕ) → (OnFree v p → ⊥) → image p ≡ current p)
      → IsViewOf image v
  rests_agrees image rests same =
      rests_is image rests (λ ajar. rests.closed (sym (same PAGE (not_free v PAGE (omega arith))) ∙ ajar))
      (λ p outside. same p)

  pub rests_image : (image : ℕ → ℕ) → Rests v current unsynced → IsImage current unsynced image → IsViewOf image v
  rests_image image rests is = rests_agrees image rests (λ p taken. is.same p (λ l. taken (rests.is_synced p l)))

  pub rests_preserve : {current' : ℕ → ℕ} {unsynced' : ℕ → Type 0} → Rests v current unsynced
      → Preserves current current' unsynced unsynced'
      → Rests v current' unsynced'
  rests_preserve {current' = current'} rests preserves = record {
    closed = λ ajar. rests.closed (sym (preserves.same PAGE) ∙ ajar);
    is_synced = λ p l. rests.is_synced p (preserves.unsyncs p l);
    is = rests_agrees current' rests (λ p taken. preserves.same p);
  }

  pub rests_writes : {n : ℕ} {current' : ℕ → ℕ} {unsynced' : ℕ → Type 0} (blocks : List ℕ) → v.blocks ≡ n
      → Rests v current unsynced
      → Unowned v.rows blocks → WritesIn (text_page n) blocks current current' unsynced unsynced'
      → Rests v current' unsynced'
  rests_writes {current' = current'} blocks size rests unowned writes = record {
    closed = λ ajar. rests.closed (sym (same PAGE (not_free v PAGE (omega arith))) ∙ ajar);
    is_synced = λ p l. ⊎_elim (rests.is_synced p) (in_free p size unowned) (writes.unsyncs p l);
    is = rests_agrees current' rests same;
  }
    where
      same : (p : ℕ) → (OnFree v p → ⊥) → current' p ≡ current p
      same p taken = writes.outside p (λ within. taken (in_free p size unowned within))

  pub rests_but : {n : ℕ} (blocks : List ℕ) (image : ℕ → ℕ) → v.blocks ≡ n → Rests v current unsynced
      → Unowned v.rows blocks
      → IsImageBut (text_page n) blocks current unsynced image → IsViewOf image v
  rests_but blocks image size rests unowned is =
      rests_agrees image rests (λ p taken. is.same p (λ within. taken (in_free p size unowned within))
      (λ l. taken (rests.is_synced p l)))

  pub rests_aside : {n : ℕ} (blocks : List ℕ) (image : ℕ → ℕ) → v.blocks ≡ n → Rests v current unsynced
      → Unowned v.rows blocks → IsImage current unsynced (aside_blocks (text_page n) blocks current image)
      → IsViewOf image v
  rests_aside {n = n} blocks image size rests unowned is = rests_but blocks image size rests unowned record {
    same = λ p away is_synced. sym (aside_blocks_else (text_page n) blocks current image p away) ∙ is.same p is_synced;
  }

  pub settled_rests : {n : ℕ} {bytes : ℕ → ℕ} → v.blocks ≡ n → Settled (journal_pages n) bytes current unsynced
      → Encodes bytes v
      → Rests v current unsynced
  settled_rests {bytes = bytes} size settled encodes = record {
    closed = settled.closed;
    is_synced = λ p l. absurd (settled.is_synced p l);
    is = shut_is current v settled.closed
        (encodes_same current bytes v (λ p outside. settled.same p (rw size at outside)) encodes);
  }

  pub rests_idle : {n : ℕ} → v.blocks ≡ n → Rests v current unsynced → Idle (journal_pages n) current unsynced
  rests_idle size rests = record {
    gate = λ l. not_free v PAGE (omega arith) (rests.is_synced PAGE l);
    closed = rests.closed;
    area = λ p within l. not_free v p (omega (arith, within.below, ap journal_pages size)) (rests.is_synced p l);
  }

  pub rests_before : {n : ℕ} (image : ℕ → ℕ) → v.blocks ≡ n → Rests v current unsynced
      → IsBefore (journal_pages n) current unsynced image → IsViewOf image v
  rests_before image size rests before =
      rests_is image rests before.closed
      (λ p outside taken. before.same p (rw size at outside) (λ l. taken (rests.is_synced p l)))

-- the plain reading of the image encodes what the bytes encode
pub reads_is : {n : ℕ} (image bytes : ℕ → ℕ) (v : View) → v.blocks ≡ n → ReadsAs (journal_pages n) image bytes
    → Encodes bytes v → IsViewOf image v
reads_is image bytes v size reads encodes = record {
  form = λ ajar. rw size (reads.form ajar);
  encodes = encodes_same (overlaid image) bytes v (λ p outside. reads.same p (rw size at outside)) encodes;
}
