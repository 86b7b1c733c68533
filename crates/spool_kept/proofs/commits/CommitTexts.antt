-- A draft's whole text after its upload's.
use Rattle.std.proofs.lemmas.Grind.{common_steps}
use Rattle.std.proofs.Common.{◌≡◌, ℕ, ◌≤◌, ◌+◌, ◌-◌, ◌*◌, ◌/◌, ◌++◌, Bool, false, List, [], Option, None}
use Rattle.std.proofs.Common.{length, drop, refl, sym, ◌∙◌, ap, subst, arith, length-append}
use Rattle.std.proofs.lemmas.Bool.{cases_lt}
use Rattle.std.proofs.lemmas.List.{drop-append-le, nil_from_length}
use Rattle.spool_journal.specs.declared.TheConstants.{PAGE}
use Rattle.enc_model.specs.Indexes.{IndexSet}
use Rattle.enc_stream.specs.StateBytes.{IsValidState}
use Rattle.upload_rules.specs.Lengths.{is_too_large, known_or, longest}
use Rattle.upload_rules.specs.States.{state_with}
use Rattle.upload_rules.specs.Store.{Upload, text_of, text_with, with_length, patched, is_complete}
use Rattle.upload_rules.specs.World.{Patch, reached, patch_text}
use Rattle.upload_rules.proofs.Commits.{state_patched, text_patched, transcoder_patched, whole_patched}
use Rattle.upload_rules.proofs.Longer.{text_at_start}
use Rattle.spool_drafts.specs.Drafts.{IsWholeDraft, list_of, open_text}
use Rattle.spool_drafts.specs.declared.draft.DraftEnd.{DraftEnd}
use Rattle.spool_drafts.specs.declared.draft.SpoolDraft.{SpoolDraft}
use Rattle.spool_drafts.proofs.Patches.{value_before}
use Rattle.spool_room.specs.Holdings.{added_count}
use Rattle.spool_room.proofs.Needs.{wants_some}
use Rattle.spool_texts.specs.TextOn.{text_on}
use Rattle.spool_kept.specs.Extending.{IsExtension, full_bytes}
use Rattle.spool_catalog.specs.declared.longer.Longer.{Longer}

patch_text_is : (x : IndexSet) (p : Patch) (done : Bool) → patch_text x p done ≡ text_with x p.began p.body done
unfolding patch_text
patch_text_is x p done = refl

-- A LENGTH THAT WAS DECLARED SINCE

-- an upload that isn't complete with a length wasn't without it
pub open_before : (u : Upload) (since : Option ℕ) → is_complete (with_length u since) ≡ false → is_complete u ≡ false
open_before u since open_still = search (arith, common_steps)

-- and its text is the same
pub text_since : (x : IndexSet) (u : Upload) (since : Option ℕ) → is_complete (with_length u since) ≡ false
    → text_of x (with_length u since) ≡ text_of x u
unfolding text_of
text_since x u since open_still = cc (open_before u since open_still)

module _ (x : IndexSet) (p : Patch) (since : Option ℕ) (o : SpoolDraft) (end : DraftEnd)
    (open_still : is_complete (with_length p.began since) ≡ false)
    (within : reached p ≤ longest (known_or (known_or p.began.declared since) p.declare))
    (small : is_too_large p.declare ≡ false) (done : Bool)
    (is_done : is_complete (patched (with_length p.began since) p.declare p.body) ≡ done)
    (whole : IsWholeDraft x p done o end) where
  abbrev u : Upload
  u = with_length p.began since

  fine : (text_with x p.began p.body done).fault ≡ None
  fine = ap (λ r. r.fault) (sym (patch_text_is x p done)) ∙ whole.encodable

  -- what the body adds to the text
  pub grown : (more : List ℕ) × (text_of x (patched (with_length p.began since) p.declare p.body) ≡ text_of x
      (with_length p.began since) ++ more)
  grown = text_at_start x u p.declare p.body open_still (value_before x u [] p.body done fine)

  abbrev pub more : List ℕ
  more = grown.0

  all_is : (patch_text x p done).bytes ≡ text_of x p.began ++ more
  all_is = grind (arith, common_steps, patch_text_is, text_patched, grown, text_since)

  all_len : length (patch_text x p done).bytes ≡ length (text_of x p.began) + length more
  all_len = omega (arith, ap length all_is, length-append (text_of x p.began) more)

  added_is : added_count x p done ≡ length more
  added_is = omega (arith, all_len)

  none_added : length (list_of o) ≡ 0 → length more ≡ 0
  none_added none = grind (arith, common_steps, cases_lt, wants_some, added_is)

  -- THE BYTES

  pub extension : {sure : Type 0} (longer : Longer) (current : ℕ → ℕ) (first : ℕ)
      → longer.declared ≡ known_or (known_or p.began.declared since) p.declare → longer.accepted ≡ reached p
      → longer.text_len ≡ end.text_len → longer.state ≡ end.state
      → (sure → 1 ≤ length (list_of o) → text_on current first (list_of o) (length (open_text x p done)) ≡ open_text x p
      done) → IsExtension sure x (with_length p.began since) p.declare p.body more longer (list_of o) current first
  unfolding state_with
  extension longer current first declared accepted len is content =
      let t = length (text_of x p.began) in
      let total : longer.text_len ≡ t + length more = len ∙ whole.len ∙ all_len in
      let same_text = text_since x p.began since open_still in
      let same_len : length (text_of x u) ≡ t = ap length same_text in
      record {
        declared = declared;
        accepted = accepted;
        few = within;
        small = small;
        state = cc (state_patched x u p.declare p.body);
        valid = subst IsValidState (sym (cc (transcoder_patched x u p.declare p.body))) whole.valid;
        encodable = ap (λ r. r.fault) (whole_patched x u p.declare p.body ∙ ap (text_with x u p.body) is_done) ∙ fine;
        text = grown.1;
        text_len = omega (arith, total, same_len, ap length grown.1, length-append (text_of x u) more);
        nothing = λ none. nil_from_length more (none_added none);
        content = λ known listed.
            subst (λ (xs : List ℕ). text_on current first (list_of o) (longer.text_len - full_bytes (length xs)) ≡ drop
            (full_bytes (length xs)) xs ++ more) (sym same_text) (
            let prefix : PAGE * (t / PAGE) ≡ full_bytes t = omega arith in
            let size : longer.text_len - full_bytes t ≡ length (open_text x p done) = search (arith, common_steps) in
            let bytes : open_text x p done ≡ drop (full_bytes t) (text_of x p.began) ++ more =
            ap (λ (xs : List ℕ). drop (PAGE * (t / PAGE)) xs) all_is ∙ drop-append-le (PAGE * (t / PAGE))
            (text_of x p.began) more (omega arith) ∙ ap (λ (n : ℕ). drop n (text_of x p.began) ++ more) prefix in
            ap (λ (n : ℕ). text_on current first (list_of o) n) size ∙ content known (omega (arith, listed)) ∙ bytes);
      }
