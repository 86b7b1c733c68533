-- Images but for listed blocks.
use Rattle.std.proofs.Common.{◌≡◌, ◌⊎◌, inl, inr, ℕ, zero, suc, ◌+◌, ◌/◌, ◌<◌, ◌≤◌, List, [], ◌∷◌, length, get_or}
use Rattle.std.proofs.Common.{refl, ◌∙◌, arith, ⊎_elim}
use Rattle.std.proofs.lemmas.Bool.{cases_eq}
use Rattle.spool_journal.specs.declared.TheConstants.{PAGE}
use Rattle.spool_disk.specs.Disk.{IsImage}
use Rattle.spool_texts.proofs.TextFrames.{aside_there, aside_else, frame_aside}
use Rattle.spool_texts.specs.Written.{InBlocks, IsImageBut, aside_blocks, FrameBlocks}
use Rattle.spool_journal.specs.Image.{area_end}

pub in_more : {first b p : ℕ} {blocks : List ℕ} → InBlocks first blocks p → InBlocks first (b ∷ blocks) p
in_more within = record { at = suc within.at; below = omega (arith, within.below); here = within.here }

pub in_prefix : {first b p : ℕ} {blocks : List ℕ} → first + b ≡ p / PAGE → InBlocks first (b ∷ blocks) p
in_prefix e = record { at = 0; below = omega arith; here = e }

pub aside_blocks_else : (first : ℕ) (blocks : List ℕ) (was image : ℕ → ℕ) (p : ℕ) → (InBlocks first blocks p → ⊥)
    → aside_blocks first blocks was image p ≡ image p
unfolding aside_blocks
aside_blocks_else first [] was image p away = refl
aside_blocks_else first (b ∷ blocks) was image p away =
    aside_else (first + b) was (aside_blocks first blocks was image) p (λ e. away (in_prefix e))
    ∙ aside_blocks_else first blocks was image p (λ within. away (in_more within))

-- a place in one block more
pub in_cons : {first b p : ℕ} {blocks : List ℕ} → InBlocks first (b ∷ blocks) p
    → (first + b ≡ p / PAGE) ⊎ InBlocks first blocks p
in_cons {first = first} {b = b} {p = p} {blocks = blocks} within = by_place within.at within.below within.here
  where
    by_place : (at : ℕ) → at < length (b ∷ blocks) → first + get_or (b ∷ blocks) at 0 ≡ p / PAGE
        → (first + b ≡ p / PAGE) ⊎ InBlocks first blocks p
    by_place zero below here = inl here
    by_place (suc at) below here = inr record { at = at; below = omega (arith, below); here = here }

-- a place has its old byte, or is outside the blocks
aside_or_away : (first : ℕ) (blocks : List ℕ) (was image : ℕ → ℕ) (p : ℕ)
    → (aside_blocks first blocks was image p ≡ was p) ⊎ (InBlocks first blocks p → ⊥)
unfolding aside_blocks
aside_or_away first [] was image p = inr (λ within. omega (arith, within.below))
aside_or_away first (b ∷ blocks) was image p =
    ⊎_elim
    (λ (e : first + b ≡ p / PAGE). inl (aside_there (first + b) was (aside_blocks first blocks was image) p e))
    (λ (e : first + b ≡ p / PAGE → ⊥). ⊎_elim
    (λ same. inl (aside_else (first + b) was (aside_blocks first blocks was image) p e ∙ same))
    (λ away. inr (λ within. ⊎_elim e away (in_cons within)))
    (aside_or_away first blocks was image p))
    (cases_eq (first + b) (p / PAGE))

-- with the blocks as they were, it is an image from before
pub image_aside : (first : ℕ) (blocks : List ℕ) {current image : ℕ → ℕ} {unsynced : ℕ → Type 0}
    → IsImageBut first blocks current unsynced image
    → IsImage current unsynced (aside_blocks first blocks current image)
image_aside first blocks {current = current} {image = image} is = record {
  same = λ p is_synced. ⊎_elim (λ same. same)
      (λ away. aside_blocks_else first blocks current image p away ∙ is.same p away is_synced)
      (aside_or_away first blocks current image p);
}

pub frame_blocks : (j : ℕ) (blocks : List ℕ) (was image : ℕ → ℕ) → j ≤ 385
    → FrameBlocks j (area_end j) blocks image (aside_blocks (area_end j) blocks was image)
unfolding aside_blocks
frame_blocks j [] was image few = record {
  texts = λ rows slot len none. refl;
  form = λ formed gate. formed gate;
  others = λ formed p away. refl;
}
frame_blocks j (b ∷ blocks) was image few =
    let prefix = frame_aside j b (aside_blocks (area_end j) blocks was image) was few in
    let rest = frame_blocks j blocks was image few in
    record {
      texts = λ rows slot len none. rest.texts rows slot len (λ i lt. none (suc i) (omega (arith, lt)))
          ∙ prefix.texts rows slot len (none 0 (omega arith));
      form = λ formed gate. rest.form (prefix.form formed) gate;
      others = λ formed p away. rest.others (prefix.form formed) p (λ within. away (in_more within))
          ∙ prefix.others formed p (λ e. away (in_prefix e));
    }
