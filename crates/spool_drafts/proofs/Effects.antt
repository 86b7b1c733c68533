-- What calls leave, one after another.
use Rattle.std.proofs.Common.{◌≡◌, inl, inr, ℕ, ◌++◌, List, [], refl, sym, ◌∙◌, subst, arith}
use Rattle.std.proofs.Common.{append-nil, ⊎_elim}
use Rattle.spool_blocks.specs.Blocks.{Held}
use Rattle.spool_disk.specs.Disk.{IsImage, Preserves}
use Rattle.spool_disk.specs.Views.{Lasts}
use Rattle.spool_disk.specs.declared.disk.Disk.{Ghosts}
use Rattle.spool_disk.proofs.Firm.{lasts_on, lasts_more}
use Rattle.spool_texts.specs.Drafts.{Draft, IsReserved, Takes, GivesBack}
use Rattle.spool_texts.specs.Written.{WritesIn, IsImageBut, aside_blocks}
use Rattle.spool_texts.proofs.Asides.{aside_blocks_else, image_aside}
use Rattle.spool_texts.proofs.Prefixes.{writes_preserve, writes_none, writes_on, idle_in, image_in, but_image}
use Rattle.spool_texts.proofs.Prefixes.{but_more, but_on}
use Rattle.spool_texts.proofs.Reserves.{takes_none}
use Rattle.enc_stream.specs.TranscoderState.{TranscoderState}
use Rattle.spool_drafts.specs.Progress.{blocks_in}
use Rattle.spool_drafts.specs.declared.progress.Progress.{Progress}
use Rattle.spool_drafts.specs.declared.progress.Progress.TheVariants.{Text}
use Rattle.spool_drafts.specs.Effect.{Effect, Regrasps, OnlyWrites}
use Rattle.spool_journal.specs.Image.{area_end}

-- an image that is one from before with the blocks as they were is one but for them
but_aside : {current image : ℕ → ℕ} {unsynced : ℕ → Type 0} {first : ℕ} {own : List ℕ}
    → IsImage current unsynced (aside_blocks first own current image) → IsImageBut first own current unsynced image
but_aside {current = current} {image = image} {first = first} {own = own} is = record {
  same = λ p away is_synced. sym (aside_blocks_else first own current image p away) ∙ is.same p is_synced;
}

-- BLOCKS

pub grasp_takes : {old new : Held} {list list' : List ℕ} → Takes old new list list' → IsReserved new list'
    → Regrasps old new list list' list'
grasp_takes {new = new} takes reserved = record {
  held = new;
  takes = takes;
  reserved = reserved;
  holds = inl (refl, refl);
}

-- a draft that stores a text has its blocks
pub takes_in : {old new : Held} {s : Progress} {t : TranscoderState} {text : Draft} {own : List ℕ} → s ≡ Text t text
    → Takes old new text.blocks own → Takes old new (blocks_in s) own
takes_in {old = old} {new = new} {own = own} is =
    subst (λ (s : Progress). Takes old new (blocks_in s) own) (sym is)

pub grasp_none : (h : Held) (list list' : List ℕ) → list' ≡ list → IsReserved h list → Regrasps h h list list' list'
grasp_none h list list' same reserved =
    grasp_takes (takes_none h list list' same) (subst (IsReserved h) (sym same) reserved)

pub grasp_gives : {old held new : Held} {list own : List ℕ} (list' : List ℕ) → Takes old held list own
    → IsReserved held own → GivesBack held new own → list' ≡ [] → Regrasps old new list list' own
grasp_gives {held = held} list' takes reserved gives none = record {
  held = held;
  takes = takes;
  reserved = reserved;
  holds = inr (gives, none);
}

-- THE DISK

module _ {D : Type 0} {disk : Ghosts D} {j : ℕ} where
  pub only : {own : List ℕ} {old new : D} → WritesIn (area_end j) own (disk.current old) (disk.current new)
      (disk.unsynced old)
      (disk.unsynced new) → Lasts disk old new (IsImageBut (area_end j) own (disk.current old) (disk.unsynced old))
      → OnlyWrites disk j own old new
  only writes lasts = record {
    writes = writes;
    idle = λ idle. idle_in idle writes;
    image = λ image is. image_aside _ _ (image_in writes is);
    lasts = lasts_more lasts (λ image is. image_aside _ _ is);
  }

  -- nothing is written
  pub only_none : (own : List ℕ) (d : D) → OnlyWrites disk j own d d
  only_none own d = only (writes_none _ _) record { later = omega arith; nothing_else = λ t image le left. inl left }

  pub only_read : (own : List ℕ) {old new : D}
      → Preserves (disk.current old) (disk.current new) (disk.unsynced old) (disk.unsynced new)
      → Lasts disk old new (IsImage (disk.current old) (disk.unsynced old)) → OnlyWrites disk j own old new
  only_read own preserves lasts =
      only (writes_preserve _ _ preserves) (lasts_more lasts (λ image is. but_image is))

  -- one call and then another
  pub only_on : {own own' : List ℕ} {old mid new : D} (more : List ℕ) → own' ≡ own ++ more
      → OnlyWrites disk j own old mid → OnlyWrites disk j own' mid new → OnlyWrites disk j own' old new
  only_on more grown a b = only
      (writes_on more grown a.writes b.writes)
      (lasts_on (lasts_more a.lasts (λ image is. but_more more grown (but_aside is)))
      (lasts_more b.lasts (λ image is. but_on more grown a.writes (but_aside is))))

  -- on more blocks
  pub only_wide : {own own' : List ℕ} {old new : D} (more : List ℕ) → own' ≡ own ++ more → OnlyWrites disk j own old new
      → OnlyWrites disk j own' old new
  only_wide more grown a = only (writes_on more grown a.writes (writes_none _ _))
      (lasts_more a.lasts (λ image is. but_more more grown (but_aside is)))

  -- a call, and then a write to what the draft holds
  pub only_then : {blocks blocks' : Held} {list list' own : List ℕ} {old mid new : D}
      → Regrasps blocks blocks' list list' own → OnlyWrites disk j own old mid → OnlyWrites disk j list' mid new
      → OnlyWrites disk j own old new
  only_then {own = own} {mid = mid} {new = new} grasp a b = only_on [] (sym (append-nil own)) a
      (⊎_elim
      (λ here. subst (λ (list : List ℕ). OnlyWrites disk j list mid new) here.1 b)
      (λ given. only_wide own refl (subst (λ (list : List ℕ). OnlyWrites disk j list mid new) given.1 b))
      grasp.holds)

  -- neither blocks nor the disk
  pub effect_none : {list : List ℕ} {h : Held} (d : D) → IsReserved h list → Effect disk j list list d d h h
  effect_none {list = list} {h = h} d reserved = record {
    own = list;
    grasp = grasp_none h list list refl reserved;
    writes = λ honest. only_none list d;
  }

  -- blocks, and the disk is only read
  pub effect_read : {blocks blocks' : Held} {list list' own : List ℕ} {old new : D}
      → Regrasps blocks blocks' list list' own
      → (disk.honest old → Preserves (disk.current old) (disk.current new) (disk.unsynced old) (disk.unsynced new))
      → (disk.honest old → Lasts disk old new (IsImage (disk.current old) (disk.unsynced old)))
      → Effect disk j list list' old new blocks blocks'
  effect_read {own = own} grasp preserves lasts = record {
    own = own;
    grasp = grasp;
    writes = λ honest. only_read own (preserves honest) (lasts honest);
  }
