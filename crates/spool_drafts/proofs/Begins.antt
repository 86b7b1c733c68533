-- The draft that `begin` makes.
use Rattle.std.proofs.Common.{◌≡◌, inl, inr, ◌≤◌, ◌<◌, ◌+◌, ◌-◌, ◌*◌, ◌/◌, ◌%◌, ◌^◌, ◌++◌, ℕ, Bool, true, false, List}
use Rattle.std.proofs.Common.{[], length, drop, Option, None, refl, sym, ◌∙◌, ap, arith, append-nil}
use Rattle.std.proofs.Common.{length-append, length-drop, length-take}
use Rattle.std.proofs.lemmas.Bool.{cases_Bool}
use Rattle.std.proofs.Math.Seq.{drop-append_seam}
use Rattle.spool_journal.specs.declared.TheConstants.{PAGE}
use Rattle.enc_model.specs.Indexes.{IndexSet, tables}
use Rattle.upload_rules.specs.Calls.{first_patch}
use Rattle.upload_rules.specs.Lengths.{is_length, is_too_large, known_or, longest}
use Rattle.upload_rules.specs.Records.{RepresentsValid}
use Rattle.upload_rules.specs.Room.{need_of, need}
use Rattle.upload_rules.specs.Store.{Upload, text_of, text_with, is_complete}
use Rattle.upload_rules.specs.World.{Patch, patch_text}
use Rattle.upload_rules.specs.declared.records.Record.{Record}
use Rattle.upload_rules.proofs.TextGrows.{text_after}
use Rattle.spool_texts.specs.Drafts.{draft_bytes}
use Rattle.spool_texts.specs.TextOn.{blocks_on, text_on}
use Rattle.spool_texts.proofs.Shown.{length-blocks_on}
use Rattle.spool_drafts.specs.Drafts.{Holds, open_text}
use Rattle.spool_drafts.specs.Progress.{HasBytes, IsCompleteIn, IsGrowing, IsStored, IsStateAfter, Starts, blocks_in}
use Rattle.spool_drafts.specs.Progress.{transcoder_in}
use Rattle.spool_drafts.specs.declared.progress.Progress.{Progress}
use Rattle.spool_drafts.specs.declared.progress.Progress.TheVariants.{Text, OutOfRoom, Unencodable, Complete}
use Rattle.spool_drafts.proofs.Patches.{fault_cases, need_fault, need_roomy, patch_text_is, wants_is}

-- no block is reserved yet
pub starts_none : (len : ℕ) (list : List ℕ) (s : Progress) → Starts len list s → blocks_in s ≡ []
starts_none len list (Text t text) starts = starts.none
starts_none len list (OutOfRoom t) starts = absurd starts
starts_none len list Unencodable starts = refl
starts_none len list Complete starts = refl

module _ (x : IndexSet) (u : Upload) (n count : ℕ) (declare : Option ℕ) where
  abbrev first : Patch
  first = first_patch n count declare u

  first_text : patch_text x first false ≡ text_with x u [] false
  first_text = patch_text_is x first false

  own_text : (b : Bool) → is_complete u ≡ b → length (text_of x u) ≡ length (text_with x u [] b).bytes
  unfolding text_of
  own_text b is = ap (λ (c : Bool). length (text_with x u [] c).bytes) is

  same_text : is_complete u ≡ false → (patch_text x first false).bytes ≡ text_of x u
  unfolding text_of
  same_text still = ap (λ r. r.bytes) first_text ∙ ap (λ (c : Bool). (text_with x u [] c).bytes) (sym still)

  -- the end takes no byte away
  no_longer : (patch_text x first false).fault ≡ None → length (patch_text x first false).bytes ≤ length (text_of x u)
  no_longer none = elim (cases_Bool (is_complete u)) [
    | inl whole ↦
        let both = text_after (tables x) u.from u.to u.mode u.origin (u.accepted ++ [])
        (ap (λ r. r.fault) (sym first_text) ∙ none) [] true in
        let at = ap (λ (b : List ℕ). length (text_with x (record u { accepted = [] }) b true).bytes)
        (append-nil (u.accepted ++ [])) in
        omega (
          arith,
          at,
          ap length both.1,
          own_text true whole,
          ap (λ r. length r.bytes) first_text,
          length-append
              (text_with x u [] false).bytes both.0,
        )
    | inr still ↦ omega (arith, ap length (same_text still))
  ]

  first_need : need x first false ≡ 0
  first_need = elim (fault_cases (patch_text x first false).fault) [
    | inl none ↦
        let t = length (text_of x u) in
        let bytes = (patch_text x first false).bytes in
        let e : length (open_text x first false) - t % PAGE ≡ 0 =
        omega (arith, no_longer none, length-drop (PAGE * (t / PAGE)) bytes) in
        need_roomy x first false refl ∙ wants_is x first false none ∙ ap (need_of t) e
    | inr there ↦ need_fault x first false there
  ]

  first_len : is_complete u ≡ false → length (open_text x first false) ≡ length (text_of x u) % PAGE
  first_len still = omega (
    arith,
    ap length (same_text still),
    length-drop (PAGE * (length (text_of x u) / PAGE))
        (patch_text x first false).bytes,
  )

  pub open_still : (r : Record) → RepresentsValid x n r u → is_length r.declared r.accepted ≡ false
      → is_complete u ≡ false
  open_still r valid_record still =
      sym (ap (λ (known : Option ℕ). is_length known r.accepted) valid_record.represents.declared
      ∙ ap (is_length u.declared) valid_record.represents.accepted) ∙ still

  pub begins : (r : Record) (list : List ℕ) (offset : ℕ) (s : Progress) → RepresentsValid x n r u
      → (r.accepted ≡ offset) × (offset + count ≤ longest (known_or r.declared declare))
      × (longest (known_or r.declared declare) < 2 ^ 64) → is_too_large declare ≡ false
      → IsStateAfter x u [] (transcoder_in s) → IsCompleteIn u s → (IsGrowing (transcoder_in s) → is_complete u ≡ false)
      → Starts r.text_len list s → Holds x first (record {
        number = r.number;
        offset = offset;
        came = 0;
        declare = declare;
        committed_len = r.text_len;
        progress = s;
        spare = tt;
      })
  begins r list offset s valid_record room small state_after complete is_open starts =
      let committed = valid_record.represents.text_len in
      let same_longest = ap (λ (known : Option ℕ). longest (known_or known declare)) valid_record.represents.declared in
      record {
        number = valid_record.represents.number_is;
        offset = sym room.0 ∙ valid_record.represents.accepted;
        came = refl;
        held = omega arith;
        declare = refl;
        small = small;
        within = omega (arith, room.0, room.1, valid_record.represents.accepted, same_longest);
        fits = omega (arith, room.2, same_longest);
        committed = committed;
        state_after = state_after;
        complete = complete;
        needs = ap length (starts_none r.text_len list s starts) ∙ sym first_need;
        stored = stored s is_open starts;
      }
    where
      stored : (s : Progress) → (IsGrowing (transcoder_in s) → is_complete u ≡ false) → Starts r.text_len list s
          → IsStored false r.text_len (length (open_text x first false)) s
      stored (Text t text) is_open starts =
          let size : length (open_text x first false) ≡ r.text_len % PAGE =
          first_len (is_open tt) ∙ ap (λ (k : ℕ). k % PAGE) (sym valid_record.represents.text_len) in
          let rest : length (open_text x first false) - r.text_len % PAGE ≡ 0 = omega (arith, size) in (
            refl,
            record {
              some = omega (arith, size);
              listed = ap length starts.none ∙ sym (ap (need_of r.text_len) rest);
              count = starts.count ∙ sym size;
            },
          )
      stored (OutOfRoom t) is_open starts = absurd starts
      stored Unencodable is_open starts = tt
      stored Complete is_open starts = tt

  -- the committed text's last bytes, where the list has it
  begins_bytes : (current : ℕ → ℕ) (page len : ℕ) (list tail : List ℕ) → len ≤ PAGE * length list
      → text_on current page list (PAGE * (len / PAGE)) ++ tail ≡ text_on current page list len
      → text_on current page list len ≡ text_of x u → len ≡ length (text_of x u)
      → is_complete u ≡ false → tail ≡ open_text x first false
  begins_bytes current page len list tail long both is size still =
      let prefix = text_on current page list (PAGE * (len / PAGE)) in
      let k : length prefix ≡ PAGE * (len / PAGE) =
      omega (
        arith,
        long,
        length-take (PAGE * (len / PAGE)) (blocks_on current page list),
        length-blocks_on current page
            list,
      ) in
      sym (drop-append_seam prefix tail)
      ∙ ap (λ (m : ℕ). drop m (prefix ++ tail)) (k ∙ ap (λ (t : ℕ). PAGE * (t / PAGE)) size)
      ∙ ap (drop (PAGE * (length (text_of x u) / PAGE))) (both ∙ is ∙ sym (same_text still))

  pub begins_carries : (current : ℕ → ℕ) (page len : ℕ) (list : List ℕ) (s : Progress) → len ≤ PAGE * length list
      → Starts len list s → text_on current page list len ≡ text_of x u → len ≡ length (text_of x u)
      → (IsGrowing (transcoder_in s) → is_complete u ≡ false) → HasBytes current page (open_text x first false) s
  begins_carries current page len list (Text t text) long starts is size is_open =
      begins_bytes current page len list (draft_bytes current page text) long (starts.bytes current page) is size
      (is_open tt)
  begins_carries current page len list (OutOfRoom t) long starts is size is_open = tt
  begins_carries current page len list Unencodable long starts is size is_open = tt
  begins_carries current page len list Complete long starts is size is_open = tt
