-- A draft with a piece more of its body.
use Rattle.std.proofs.Common.{◌≡◌, inr, ◌≤◌, ◌<◌, ◌+◌, ◌-◌, ◌/◌, ◌%◌, ◌^◌, ◌++◌, ℕ, Bool, true, false, List, []}
use Rattle.std.proofs.Common.{◌∷◌}
use Rattle.std.proofs.Common.{length, min, eqb, Option, None, Some, refl, sym, ◌∙◌, ap, subst, arith, length-append}
use Rattle.std.proofs.lemmas.Bool.{both_ways}
use Rattle.spool_journal.specs.declared.TheConstants.{PAGE}
use Rattle.enc_model.specs.Indexes.{IndexSet}
use Rattle.enc_stream.specs.TranscoderState.{TranscoderState}
use Rattle.spool_blocks.specs.Blocks.{Held}
use Rattle.spool_texts.specs.Drafts.{Draft, len_of}
use Rattle.upload_rules.specs.Room.{need_of, wants, need}
use Rattle.upload_rules.specs.Store.{is_complete}
use Rattle.upload_rules.specs.World.{Patch, is_there, patch_text}
use Rattle.spool_drafts.specs.Drafts.{Holds, IsLonger, open_text, with_piece, shortened, transcoder_of}
use Rattle.spool_drafts.specs.Effect.{RunsShort}
use Rattle.spool_drafts.specs.Progress.{IsCompleteIn, IsStateAfter, ReadsOn, HoldsLen, IsStored, IsGrowing, blocks_in}
use Rattle.spool_drafts.specs.Progress.{transcoder_in}
use Rattle.spool_drafts.specs.declared.draft.SpoolDraft.{SpoolDraft}
use Rattle.spool_drafts.specs.declared.progress.Progress.{Progress}
use Rattle.spool_drafts.specs.declared.progress.Progress.TheVariants.{Text, OutOfRoom, Unencodable, Complete}
use Rattle.spool_drafts.proofs.Lengths.{is_open, need_more, need_some_more}
use Rattle.spool_drafts.proofs.Patches.{committed_first, fine_before, need_fault, need_roomy, need_short, open_grows}
use Rattle.spool_drafts.proofs.Patches.{patch_text_is, wants_of}

-- a list that isn't empty
some_of : (piece : List ℕ) (empty : Bool) → empty ≡ eqb (length piece) 0 → empty ≡ false → 0 < length piece
some_of [] empty is not = absurd (both_ways empty not is)
some_of (b ∷ piece) empty is not = omega arith

-- the draft after a piece
abbrev pub gone_on : SpoolDraft → Progress → ℕ → SpoolDraft
gone_on d s count = record d { progress = s; came = min (d.came + count) (2 ^ 64 - 1) }

-- where bytes may come and no text is stored, the draft is short of blocks
pub short_of : (short : Bool) (len n : ℕ) (s : Progress) → ((t : TranscoderState) (text : Draft) → s ≡ Text t text → ⊥)
    → IsGrowing (transcoder_in s) → IsStored short len n s → short ≡ true
short_of short len n (Text t text) other growing stored = absurd (other t text refl)
short_of short len n (OutOfRoom t) other growing stored = stored
short_of short len n Unencodable other growing stored = absurd growing
short_of short len n Complete other growing stored = absurd growing

-- a draft takes no bytes for a complete upload, since its patch has none
pub not_complete : {x : IndexSet} {p : Patch} {d : SpoolDraft} → Holds x p d → (piece : List ℕ) (empty : Bool)
    → length p.body + length piece ≤ p.count → empty ≡ eqb (length piece) 0 → empty ≡ false → d.progress ≡ Complete → ⊥
not_complete {p = p} held piece empty fits is_empty not_empty is =
    let still = is_open p.began p.declare p.count (omega (arith, some_of piece empty is_empty not_empty, fits))
    held.within in
    let complete = subst (IsCompleteIn p.began) is held.complete in
    cc

module _ {x : IndexSet} {p : Patch} {d : SpoolDraft} (held : Holds x p d) {piece : List ℕ}
    (fits : length p.body + length piece ≤ p.count) {empty : Bool} (is_empty : empty ≡ eqb (length piece) 0)
    (not_empty : empty ≡ false) {next : Option TranscoderState} {added : List ℕ}
    (fed : is_complete p.began ≡ false → IsStateAfter x p.began p.body (transcoder_of d)
    → ReadsOn x p.began p.body piece next added) where
  abbrev longer : Patch
  longer = with_piece p piece

  -- more bytes may come, since the piece has some
  still : is_complete p.began ≡ false
  still = is_open p.began p.declare p.count (omega (arith, some_of piece empty is_empty not_empty, fits)) held.within

  reads : ReadsOn x p.began p.body piece next added
  reads = fed still held.state_after

  -- what stays
  went_on : (short : Bool) (s : Progress) → IsStateAfter x p.began (p.body ++ piece) (transcoder_in s)
      → IsCompleteIn p.began s
      → length (blocks_in s) ≡ need x (record longer { short = short }) false
      → IsStored short d.committed_len (length (open_text x (record longer { short = short }) false)) s
      → Holds x (record longer { short = short }) (gone_on d s (length piece))
  went_on short s state_after complete needs stored = record {
    number = held.number;
    offset = held.offset;
    came = omega (arith, held.came, held.within, held.fits, fits, length-append p.body piece);
    held = omega (arith, fits, length-append p.body piece);
    declare = held.declare;
    small = held.small;
    within = held.within;
    fits = held.fits;
    committed = held.committed;
    state_after = state_after;
    complete = complete;
    needs = needs;
    stored = stored;
  }

  -- a character without a code
  pub longer_fault : next ≡ None → Holds x longer (gone_on d Unencodable (length piece))
  longer_fault none =
      let state_after = subst (IsStateAfter x p.began (p.body ++ piece)) none reads.state_after in
      went_on p.short Unencodable state_after tt
      (sym (need_fault x longer false (ap (λ r. is_there r.fault) (patch_text_is x longer false)
      ∙ state_after still))) tt

  module _ (t : TranscoderState) (some : next ≡ Some t) where
    reads_on : ReadsOn x p.began p.body piece (Some t) added
    reads_on = subst (λ n. ReadsOn x p.began p.body piece n added) some reads

    -- no room, as before
    pub longer_short : ((t : TranscoderState) (text : Draft) → d.progress ≡ Text t text → ⊥)
        → (IsGrowing next → IsGrowing (transcoder_of d)) → Holds x longer (gone_on d (OutOfRoom t) (length piece))
    longer_short other growing =
        let short = short_of p.short _ _ d.progress other (growing (subst IsGrowing (sym some) tt)) held.stored in
        went_on p.short (OutOfRoom t) reads_on.state_after tt (sym (need_short x longer false short)) short

    encodable_after : (patch_text x longer false).fault ≡ None
    encodable_after = ap (λ r. r.fault) (patch_text_is x longer false)
        ∙ reads_on.state_after.encodable

    pub open_longer : open_text x longer false ≡ open_text x p false ++ added
    open_longer = open_grows x p piece added false false
        (committed_first x p false still (fine_before x p piece false encodable_after)) reads_on.adds

    module _ {was : TranscoderState} {old : Draft} (is : d.progress ≡ Text was old) where
      stored : (p.short ≡ false) × HoldsLen d.committed_len old (length (open_text x p false))
      stored = subst (IsStored p.short d.committed_len (length (open_text x p false))) is held.stored

      size : length (open_text x p false) + length added ≡ length (open_text x longer false)
      size = sym (ap length open_longer ∙ length-append (open_text x p false) added)

      wanted : need_of d.committed_len
          ((length (open_text x p false) + length added) - d.committed_len % PAGE) ≡ wants x longer false
      wanted = wants_of x longer false d.committed_len (length (open_text x p false) + length added) held.committed size
          encodable_after

      pub longer_text : (new : Draft) → (length added ≡ 0 → new.blocks ≡ old.blocks)
          → (1 ≤ length added → length new.blocks ≡ (len_of new + 4095) / PAGE)
          → len_of new ≡ len_of old + length added → Holds x longer (gone_on d (Text t new) (length piece))
      longer_text new same listed grown =
          let holds = stored.1 in
          let needs = need_more d.committed_len _ (length added) old holds new.blocks same
          (λ some. listed some ∙ ap (λ (k : ℕ). (k + 4095) / PAGE) grown) in
          went_on p.short (Text t new) reads_on.state_after tt (needs ∙ wanted
          ∙ sym (need_roomy x longer false stored.0)) (
            stored.0,
            subst (HoldsLen d.committed_len new) size record {
              some = omega (arith, holds.some);
              listed = needs;
              count = omega (arith, grown, holds.count);
            },
          )

      -- no block was free
      pub longer_full : (blocks blocks' : Held) → 1 ≤ length added
          → ((wanted : ℕ) → (len_of old + length added + 4095) / PAGE ≡ wanted
          → RunsShort blocks blocks' (blocks_in d.progress) wanted)
          → IsLonger x longer d (gone_on d (OutOfRoom t) (length piece)) blocks blocks'
      longer_full blocks blocks' some ran = inr (
        went_on true (OutOfRoom t) reads_on.state_after tt (sym (need_short x (shortened longer) false refl)) refl,
        ran (wants x longer false) (need_some_more d.committed_len _ (length added) old stored.1 some ∙ wanted),
      )
