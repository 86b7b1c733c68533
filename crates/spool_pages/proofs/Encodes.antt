-- Two images that encode the same view.
use Rattle.std.proofs.Common.{◌≡◌, inl, inr, ℕ, zero, suc, ◌+◌, ◌*◌, ◌/◌, ◌<◌, ◌≤◌, ◌++◌, List, Option, None, Some}
use Rattle.std.proofs.Common.{take, refl, sym, ◌∙◌, ap, arith}
use Rattle.spool_journal.specs.declared.TheConstants.{PAGE}
use Rattle.spool_disk.proofs.Span.{span_same}
use Rattle.spool_journal.specs.Image.{journal_pages, all_pages, Outside, text_page}
use Rattle.spool_texts.specs.Texts.{block_at, block_bytes, joined_blocks, text_shown}
use Rattle.spool_pages.specs.View.{View, AreAt, Encodes, index_place, state_place, slot_place, row_place}

pub some_journal : (n : ℕ) → 257 ≤ journal_pages n
unfolding journal_pages
some_journal n = omega arith

pub all_is : (n : ℕ) → all_pages n ≡ text_page n + n
unfolding all_pages
all_is n = refl

-- TEXTS

module _ (a b : ℕ → ℕ) (first : ℕ) (same : (p : ℕ) → PAGE * first ≤ p → a p ≡ b p) where
  block_same : (block : Option ℕ) → block_bytes a first block ≡ block_bytes b first block
  unfolding block_bytes
  block_same None = refl
  block_same (Some x) = span_same a b (PAGE * (first + x)) PAGE (λ p within. same p (omega (arith, within.from)))

  joined_same : (rows : List (Option (ℕ × ℕ))) (slot ordinal n : ℕ)
      → joined_blocks a first rows slot ordinal n ≡ joined_blocks b
      first rows slot ordinal n
  unfolding joined_blocks
  joined_same rows slot ordinal zero = refl
  joined_same rows slot ordinal (suc n) =
      ap (λ (xs : List ℕ). xs ++ joined_blocks a first rows slot (ordinal + 1) n)
      (block_same (block_at slot ordinal rows 0))
      ∙ ap (λ (xs : List ℕ). block_bytes b first (block_at slot ordinal rows 0) ++ xs)
      (joined_same rows slot (ordinal + 1) n)

  pub shown_same : (rows : List (Option (ℕ × ℕ))) (slot len : ℕ) → text_shown a first rows slot len ≡ text_shown b first
      rows slot len
  shown_same rows slot len = ap (λ (xs : List ℕ). take len xs) (joined_same rows slot 0 ((len + 4095) / PAGE))

-- WHAT AN IMAGE ENCODES

pub at_same : {a b : ℕ → ℕ} {place size : ℕ} {bytes : List ℕ} → ((i : ℕ) → i < size → a (place + i) ≡ b (place + i))
    → AreAt b place size bytes → AreAt a place size bytes
at_same same are_at = record { each = λ i lt. same i lt ∙ are_at.each i lt }

-- the gate and the journal don't matter
pub encodes_same : (a b : ℕ → ℕ) (v : View) → ((p : ℕ) → Outside (journal_pages v.blocks) p → a p ≡ b p) → Encodes b v
    → Encodes a v
encodes_same a b v same encodes =
    let j = some_journal v.blocks in
    record {
      first = at_same (λ i lt. same (0 + i) (inl (omega (arith, lt)))) encodes.first;
      area = λ i lt. same (index_place v.blocks + i) (inr (omega arith)) ∙ encodes.area i lt;
      state = at_same (λ i lt. same (state_place v.blocks + i) (inr (omega arith))) encodes.state;
      slots = λ s lt. at_same (λ i below. same (slot_place v.blocks s + i) (inr (omega arith))) (encodes.slots s lt);
      rows = λ r lt. at_same (λ i below. same (row_place v.blocks r + i) (inr (omega arith))) (encodes.rows r lt);
      texts = λ s r e. encodes.texts s r e ∙ sym
          (shown_same a b (text_page v.blocks) (λ p from. same p (inr (omega (arith, from, j)))) v.rows s r.text_len);
    }
