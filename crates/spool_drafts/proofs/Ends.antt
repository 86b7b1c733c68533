-- A draft whose text ends.
use Rattle.std.proofs.Common.{◌≡◌, ◌⊎◌, inl, inr, ◌≤◌, ◌<◌, ◌+◌, ◌-◌, ◌*◌, ◌/◌, ◌%◌, ◌++◌, ℕ, Bool, true, false}
use Rattle.std.proofs.Common.{List, [], length, None, Err, sym, ◌∙◌, ap, subst, arith, append-nil, length-append}
use Rattle.std.proofs.Common.{length-drop, ⊎_elim}
use Rattle.std.proofs.lemmas.Bool.{cases_eq, cases_lt}
use Rattle.spool_journal.specs.declared.TheConstants.{PAGE}
use Rattle.enc_model.specs.Indexes.{IndexSet}
use Rattle.spool_blocks.specs.Blocks.{Held}
use Rattle.upload_rules.specs.declared.errors.UploadError.{UploadError}
use Rattle.upload_rules.specs.declared.errors.UploadError.TheVariants.{Stop, Refused}
use Rattle.upload_rules.specs.declared.errors.UploadRefusal.{UploadRefusal}
use Rattle.upload_rules.specs.declared.errors.UploadRefusal.TheVariants as refusals
use Rattle.spool_texts.specs.Drafts.{Draft, count_with, len_of}
use Rattle.upload_rules.specs.Room.{need_of, wants}
use Rattle.upload_rules.specs.Store.{text_of, text_with, is_complete}
use Rattle.upload_rules.specs.World.{Patch, is_there, patch_text}
use Rattle.spool_drafts.specs.Drafts.{Holds, IsWholeDraft, EndsAs, open_text, list_of}
use Rattle.spool_drafts.specs.Effect.{RunsShort}
use Rattle.spool_drafts.specs.Progress.{IsFinished, FinishesAs, HoldsLen, IsStored}
use Rattle.spool_drafts.specs.declared.progress.Progress.TheVariants.{Text}
use Rattle.enc_stream.specs.TranscoderState.{TranscoderState}
use Rattle.spool_drafts.specs.declared.draft.DraftEnd.{DraftEnd}
use Rattle.spool_drafts.specs.declared.draft.SpoolDraft.{SpoolDraft}
use Rattle.spool_drafts.proofs.Lengths.{need_more, need_some, need_some_more}
use Rattle.spool_drafts.proofs.Patches.{committed_first, fine_before, open_grows, patch_text_is, wants_of}

-- where no block is needed nothing was added
need_none : (t n : ℕ) → need_of t (n - t % PAGE) ≡ 0 → n ≤ t % PAGE
need_none t n none = ⊎_elim (λ (lt : t % PAGE < n). omega (arith, lt, none, need_some t n lt))
    (λ (le : n ≤ t % PAGE). le) (cases_lt (t % PAGE) n)

-- the length of the text that ended: as it was where no block is listed, and after its full blocks where some are
whole_is : (t n : ℕ) (list last : List ℕ) (whole : ℕ) → t % PAGE ≤ n → length list ≡ need_of t (n - t % PAGE)
    → (length list ≡ 0 → whole ≡ t)
    → (0 < length list → whole ≡ PAGE * (t / PAGE) + count_with list last)
    → (1 ≤ length list → count_with list last ≡ n) → whole ≡ PAGE * (t / PAGE) + n
whole_is t n list last whole some listed nothing more count = elim (cases_eq (length list) 0) [
  | inl none ↦ omega (arith, nothing none, some, need_none t n (sym listed ∙ none))
  | inr there ↦ more (omega (arith, there)) ∙ ap (λ (k : ℕ). PAGE * (t / PAGE) + k) (count (omega (arith, there)))
]

module _ {x : IndexSet} {p : Patch} {d : SpoolDraft} (held : Holds x p d) (still : is_complete p.began ≡ false)
    (done : Bool) where
  pub refused : (blocks blocks' : Held) (new : SpoolDraft) (e : UploadError) → FinishesAs x p.began p.body done (Err e)
      → EndsAs x p done d new blocks blocks' (Err e)
  refused blocks blocks' new (Stop stop) ends = tt
  refused blocks blocks' new (Refused e) ends =
      subst (λ (r : UploadRefusal). EndsAs x p done d new blocks blocks' (Err (Refused r))) (sym ends.0)
      (ap (λ r. is_there r.fault) (patch_text_is x p done) ∙ ends.1)

  module _ {state text : List ℕ} (finished : IsFinished x p.began p.body done state text) where
    encodable_end : (patch_text x p done).fault ≡ None
    encodable_end = ap (λ r. r.fault) (patch_text_is x p done) ∙ finished.encodable

    at_nil : p.body ++ [] ≡ p.body
    at_nil = append-nil p.body

    encodable_open : (patch_text x p false).fault ≡ None
    encodable_open = fine_before x p [] done
        (ap (λ (b : List ℕ). (patch_text x (record p { body = b }) done).fault) at_nil ∙ encodable_end)

    pub open_ended : open_text x p done ≡ open_text x p false ++ text
    open_ended =
        ap (λ (b : List ℕ). open_text x (record p { body = b }) done) (sym at_nil)
        ∙ open_grows x p [] text false done (committed_first x p false still encodable_open)
        (finished.adds ∙ ap (λ (b : List ℕ). (text_with x p.began b done).bytes) (sym at_nil))

    -- no block was free
    pub full : (blocks blocks' : Held) (new : SpoolDraft)
        → (p.short ≡ true) ⊎ RunsShort blocks blocks' (list_of d) (wants x p done)
        → EndsAs x p done d new blocks blocks' (Err (Refused refusals.Full))
    full blocks blocks' new room = (encodable_end, room)

    module _ {was : TranscoderState} {old : Draft} (in_text : d.progress ≡ Text was old) where
      stored : (p.short ≡ false) × HoldsLen d.committed_len old (length (open_text x p false))
      stored = subst (IsStored p.short d.committed_len (length (open_text x p false))) in_text held.stored

      size : length (open_text x p false) + length text ≡ length (open_text x p done)
      size = sym (ap length open_ended ∙ length-append (open_text x p false) text)

      wanted : need_of d.committed_len
          ((length (open_text x p false) + length text) - d.committed_len % PAGE) ≡ wants x p done
      wanted = wants_of x p done d.committed_len (length (open_text x p false) + length text) held.committed size
          encodable_end

      pub whole : (new : SpoolDraft) (e : DraftEnd) (list last : List ℕ) → e.state ≡ state → list_of new ≡ list
          → (length text ≡ 0 → list ≡ old.blocks)
          → (1 ≤ length text → length list ≡ (len_of old + length text + 4095) / PAGE)
          → (length list ≡ 0 → e.text_len ≡ d.committed_len)
          → (0 < length list → e.text_len ≡ PAGE * (d.committed_len / PAGE) + count_with list last)
          → (1 ≤ length list → count_with list last ≡ len_of old + length text) → IsWholeDraft x p done new e
      whole new e list last is here same listed nothing more count =
          let holds = stored.1 in
          let t = length (text_of x p.began) in
          let n = length (open_text x p false) in
          let needs = need_more d.committed_len n (length text) old holds list same listed in
          record {
            state_is = is ∙ finished.state_is;
            valid = finished.valid;
            encodable = encodable_end;
            roomy = stored.0;
            listed = ap length here ∙ needs ∙ wanted;
            len = omega (
              arith,
              size,
              whole_is d.committed_len (n + length text) list last e.text_len (omega (arith, holds.some)) needs nothing
                  more (λ there. count there ∙ ap (λ (k : ℕ). k + length text) holds.count),
              ap (λ (k : ℕ). PAGE * (k / PAGE)) held.committed,
              length-drop (PAGE * (t / PAGE)) (patch_text x p done).bytes,
              committed_first x p done still encodable_end,
            );
          }

      -- how many blocks it lacked
      pub lacks : 1 ≤ length text → (len_of old + length text + 4095) / PAGE ≡ wants x p done
      lacks some = need_some_more d.committed_len _ (length text) old stored.1 some ∙ wanted
