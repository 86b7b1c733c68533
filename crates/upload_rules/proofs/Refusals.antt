-- Why calls are refused, and a table's commit.
use Rattle.std.proofs.Common.{◌≡◌, ◌==◌, ℕ, ◌+◌, ◌<◌, ◌≤◌, Bool, true, false, List, [], ◌++◌, length, get_or, set}
use Rattle.std.proofs.Common.{Option, Some, None, Result, Ok, Err, refl, sym, ◌∙◌, ap, subst, arith, eq-eqb, append-nil}
use Rattle.std.proofs.Common.{if◌then◌else◌, Vec, Global}
use Rattle.std.proofs.lemmas.Bool.{ne_eqb, cases_lt}
use Rattle.std.proofs.lemmas.Bool.Decides.{nat_tests}
use Rattle.upload_rules.proofs.Growing.{known_already}
use Rattle.std.proofs.lemmas.List.{get_or_past, set-set, nil_from_length}
use Rattle.std.proofs.lemmas.Option.{same_Some}
use Rattle.upload_rules.specs.declared.errors.UploadError.{UploadError}
use Rattle.upload_rules.specs.declared.errors.UploadError.TheVariants.{Stop, Refused}
use Rattle.common.specs.declared.stop.Stop.TheVariants.{NoMemory, DiskFault}
use Rattle.upload_rules.specs.declared.errors.UploadRefusal.TheVariants as refusals
use Rattle.upload_rules.specs.declared.appends.OpenAppend.{OpenAppend}
use Rattle.upload_rules.specs.declared.slot.Slot.{Slot}
use Rattle.upload_rules.specs.declared.table.Table.{Table}
use Rattle.upload_rules.specs.Lengths.{is_length, known_or, is_new, longest}
use Rattle.upload_rules.specs.Store.{Upload, Store, find, upload_of, with_length, patched, replaced, without}
use Rattle.upload_rules.specs.Store.{patched_at, text_with, is_complete, accepted_count}
use Rattle.upload_rules.specs.World.{Patch, World, is_there, reached, length_then, completes, patch_text}
use Rattle.upload_rules.specs.Room.{is_short}
use Rattle.upload_rules.specs.Calls.{committed_store, length_refusal, commit_refusal, text_refusal, declares_at}
use Rattle.upload_rules.specs.Calls.{longer_patch}
use Rattle.upload_rules.specs.Calls.{text_stays, committed, is_empty, declares, appended, or_else, is_idle, dropped}
use Rattle.enc_model.specs.Indexes.{IndexSet}
use Rattle.upload_rules.specs.declared.errors.UploadRefusal.{UploadRefusal}
use Rattle.upload_rules.specs.Answers.{Answers, IsLate}
use Rattle.upload_rules.specs.Slots.{numbers, IsNowhere, IsFirstAt, SlotRepresents}
use Rattle.upload_rules.specs.Drafts.{draft_at}
use Rattle.upload_rules.specs.Appends.{AppendRepresents, IsCommitPut}
use Rattle.upload_rules.specs.Table.{TableRepresents}
use Rattle.upload_rules.proofs.Finds.{replaced_same}
use Rattle.upload_rules.proofs.Places.{count_of}
use Rattle.upload_rules.proofs.Same.{same_upload}
use Rattle.upload_rules.proofs.Patches.{draft_of}
use Rattle.upload_rules.proofs.Lookups.{no_upload, upload_at}
use Rattle.upload_rules.proofs.Worlds.{Appends, drops, puts, appends_more}

full_of : (body : List ℕ) → 0 < length body → is_empty body ≡ false
full_of body lt = grind arith

brings_nothing : (b : Bool) (n : ℕ) → (if b then false else n == 0) ≡ true → (n ≡ 0) × (b ≡ false)
brings_nothing b n e = grind (arith, nat_tests)

brings : (b : Bool) (n : ℕ) → (if b then false else n == 0) ≡ false → n ≡ 0 → b ≡ true
brings b n e none = grind (arith, nat_tests)

patch_text_is : (x : IndexSet) (p : Patch) (done : Bool) → patch_text x p done ≡ text_with x p.began p.body done
unfolding patch_text
patch_text_is x p done = refl

never_short : (w : World) (d : ℕ) (p : Patch) (done : Bool) → p.short ≡ false → w.blocks ≡ None
    → is_short w d p done ≡ false
unfolding is_short
never_short w d p done e f = rw (e, f) refl

pub no_such_upload : (w : World) (d : ℕ) (p : Patch) → upload_of w.store p.number ≡ None
    → commit_refusal w d p ≡ Some refusals.NoSuch
unfolding commit_refusal
no_such_upload w d p none = rw none refl

pub other_offset : (w : World) (d : ℕ) (p : Patch) (u : Upload) → upload_of w.store p.number ≡ Some u
    → (accepted_count u ≡ accepted_count p.began → ⊥)
    → commit_refusal w d p ≡ Some refusals.Offset
unfolding commit_refusal
other_offset w d p u there other = rw (there, ne_eqb (accepted_count u) (accepted_count p.began) other) refl

-- where the offset is the upload's, its length decides, and then the text
same_offset : (w : World) (d : ℕ) (p : Patch) (u : Upload) → upload_of w.store p.number ≡ Some u
    → accepted_count u ≡ accepted_count p.began
    → commit_refusal w d p ≡ or_else (length_refusal u.declared p.declare (reached p)) (text_refusal w d p)
unfolding commit_refusal
same_offset w d p u there same = rw (there, eq-eqb (accepted_count u) (accepted_count p.began) same) refl

-- WHAT A PATCH BRINGS

module _ (m : Store) (p : Patch) (u : Upload) (there : upload_of m p.number ≡ Some u) where
  declares_is : declares m p ≡ is_new u.declared p.declare
  declares_is = ap (declares_at p) there

  pub completes_is : completes m p ≡ is_length (known_or u.declared p.declare) (reached p)
  completes_is = ap (λ o. is_length (length_then p o) (reached p)) there

  -- neither a length nor bytes
  module _ (old : is_new u.declared p.declare ≡ false) (none : p.body ≡ []) where
    declares_not : declares m p ≡ false
    declares_not = declares_is ∙ old

    idle_stays : text_stays m p ≡ true
    idle_stays = rw (declares_not, none) refl

    store_same : committed_store m p ≡ m
    store_same = rw (declares_not, none) refl

  -- a length or bytes
  module _ (brings : length p.body ≡ 0 → is_new u.declared p.declare ≡ true) where
    not_idle : (b : Bool) → is_new u.declared p.declare ≡ b → is_idle m p ≡ false
    not_idle b e = grind (arith, declares_is, full_of p.body)

    store_longer : committed_store m p ≡ record m { uploads = replaced p.number (patched u p.declare p.body) m.uploads }
    store_longer = rw (not_idle (is_new u.declared p.declare) refl) (ap (patched_at m p.number p.declare p.body) there)

    -- a text that stays is that of the accepted bytes, which aren't all
    stays : text_stays m p ≡ true → (p.body ≡ []) × (completes m p ≡ false)
    stays is = grind (arith, declares_is)

    -- the accepted bytes aren't all: the length allows more
    pub open_still : reached p ≤ longest (known_or u.declared p.declare)
        → accepted_count u ≡ accepted_count p.began → is_complete u ≡ false
    open_still within same = grind (arith, nat_tests)

no_code : (w : World) (d : ℕ) (p : Patch) → text_stays w.store p ≡ false → is_there
    (patch_text w.store.indexes p (completes w.store p)).fault ≡ true → text_refusal w d p ≡ Some refusals.Unencodable
no_code w d p moves fault = rw (moves, fault) refl

text_fine : (w : World) (d : ℕ) (p : Patch) (b : Bool) → text_stays w.store p ≡ b
    → (patch_text w.store.indexes p (completes w.store p)).fault ≡ None → p.short ≡ false → w.blocks ≡ None
    → text_refusal w d p ≡ None
text_fine w d p b stays fault e f = grind (arith, never_short w d p (completes w.store p))

nothing_refused : (w : World) (d : ℕ) (p : Patch) → text_stays w.store p ≡ true → text_refusal w d p ≡ None
nothing_refused w d p stays = rw (stays) refl

abbrev Slots : Type 0
Slots = Vec Slot Global

with_nothing : (u : Upload) → patched u None [] ≡ u
with_nothing u = rw (append-nil, known_already) refl

late_text : (w : World) (d : ℕ) (p : Patch) → IsLate (text_refusal w d p)
late_text w d p = grind arith

in_range : (appends : List (Option OpenAppend)) (d : ℕ) (o : OpenAppend) → Some o ≡ draft_at appends d
    → d < length appends
in_range appends d o is = grind (arith, get_or_past, cases_lt)

-- a patch with a piece more is not short of room
longer_is : (w : World) (d : ℕ) (p : Patch) (piece : List ℕ) → p.short ≡ false → w.blocks ≡ None
    → longer_patch w d p piece ≡ record p { body = p.body ++ piece }
longer_is w d p piece e f =
    let q : Patch = record p { body = p.body ++ piece } in
    ap (λ b. record q { short = b }) (never_short w d q false e f ∙ sym e)

module _ (t : Table) (w : World) (represents : TableRepresents t w) (d : ℕ) (p : Patch)
    (there : find d w.patches ≡ Some p)
  where
    -- the append of the draft is the patch's
    pub append_is : (o : OpenAppend) → Some o ≡ draft_at t.appends.items d → AppendRepresents w.store.indexes
        w.store.next p o
    append_is o is =
        let a = draft_of (AppendRepresents w.store.indexes w.store.next) p (find d w.patches)
        (draft_at t.appends.items d)
        there (represents.appends d) in
        rw (same_Some a.0 o (sym a.1 ∙ sym is)) at a.2

    -- the append was taken out and is put back with more of its body
    module _ (o : OpenAppend) (is : Some o ≡ draft_at t.appends.items d) (taken v : Appends) (new : OpenAppend)
        (gone : taken.items ≡ set t.appends.items d None)
        (back : v.items ≡ set taken.items d (Some new)) where
      put_back : v.items ≡ set t.appends.items d (Some new)
      put_back = back ∙ ap (λ l. set l d (Some new)) gone ∙ set-set t.appends.items d None (Some new)

      pub fed : (piece : List ℕ) → AppendRepresents w.store.indexes w.store.next (record p { body = p.body ++ piece })
          new
          → TableRepresents (record t { appends = v }) (appended w d piece)
      fed piece held =
          let q = longer_is w d p piece (append_is o is).roomy represents.unlimited in
          rw (there, q)
          (appends_more t w represents d p (p.body ++ piece) new v there (in_range t.appends.items d o is) put_back
          held)

      pub not_fed : AppendRepresents w.store.indexes w.store.next p new → TableRepresents (record t { appends = v }) w
      not_fed held =
          rw (replaced_same d p w.patches there) at
          (appends_more t w represents d p p.body new v there (in_range t.appends.items d o is) put_back held)

    module _ (v : Appends) (gone : v.items ≡ set t.appends.items d None) where
      pub refused_missing : (o : OpenAppend) → Some o ≡ draft_at t.appends.items d
          → IsNowhere (numbers t.slots.items) o.number
          → (commit_refusal w d p ≡ Some refusals.NoSuch) × TableRepresents (record t { appends = v }) (dropped w d)
      refused_missing o is other = (
        no_such_upload w d p (no_upload t w represents p.number (rw (append_is o is).number at other)),
        drops t w represents d v gone,
      )

      -- an upload's bytes are as many as at the head moment
      module _ (o : OpenAppend) (is : Some o ≡ draft_at t.appends.items d) (place : ℕ) (s : Slot)
          (first : IsFirstAt (numbers t.slots.items) o.number place)
          (here : s ≡ get_or t.slots.items place s) where
        -- the upload of the slot
        abbrev pub upload : (u : Upload) × (upload_of w.store p.number ≡ Some u) × SlotRepresents w.store.indexes
            p.number u s
        upload = upload_at t w represents p.number place s (rw (append_is o is).number at first) here

        pub refused_offset : (s.record.accepted ≡ o.offset → ⊥)
            → (commit_refusal w d p ≡ Some refusals.Offset) × TableRepresents (record t { appends = v }) (dropped w d)
        refused_offset other = (
          other_offset w d p upload.0 upload.1 (λ e. other (upload.2.represents.accepted ∙ e
              ∙ sym (append_is o is).offset)),
          drops t w represents d v gone,
        )

        module _ (same : s.record.accepted ≡ o.offset) where
          abbrev u : Upload
          u = upload.0

          there_is : upload_of w.store p.number ≡ Some u
          there_is = upload.1

          as_long : accepted_count u ≡ accepted_count p.began
          as_long = sym upload.2.represents.accepted ∙ same ∙ (append_is o is).offset

          -- so it is the upload of the head moment, but for a length
          pub as_before : (since : Option ℕ) × (u ≡ with_length p.began since)
          as_before = same_upload w d p u represents.grown there there_is as_long

          end_is : o.offset + o.came ≡ reached p
          end_is = let a = append_is o is in omega (arith, a.offset, a.came)

          length_is : length_refusal s.record.declared o.declare (o.offset + o.came) ≡ length_refusal u.declared
              p.declare (reached p)
          length_is = cc (upload.2.represents.declared, (append_is o is).declare, end_is)

          new_is : is_new s.record.declared o.declare ≡ is_new u.declared p.declare
          new_is = cc (upload.2.represents.declared, (append_is o is).declare)

          pub refused_length : (e : UploadRefusal)
              → length_refusal s.record.declared o.declare (o.offset + o.came) ≡ Some e
              → (commit_refusal w d p ≡ Some e) × TableRepresents (record t { appends = v }) (dropped w d)
          refused_length e refusal = (
            same_offset w d p u there_is as_long ∙ rw (sym length_is, refusal) refl,
            drops t w represents d v gone,
          )

          -- the length lets the bytes come
          module _ (fits : length_refusal s.record.declared o.declare (o.offset + o.came) ≡ None) where
            refused : text_refusal w d p ≡ commit_refusal w d p
            refused = sym (same_offset w d p u there_is as_long ∙ rw (sym length_is, fits) refl)

            pub commits_nothing : (if is_new s.record.declared o.declare then false else o.came == 0) ≡ true
                → (commit_refusal w d p ≡ None) × ((o.offset ≡ reached p) × TableRepresents (record t { appends = v })
                (committed w d p))
            commits_nothing idle =
                let a = append_is o is in
                let brought = brings_nothing (is_new s.record.declared o.declare) o.came idle in
                let empty : length p.body ≡ 0 = sym a.came ∙ brought.0 in
                let e = nil_from_length p.body empty in
                let still = sym new_is ∙ brought.1 in (
                  sym refused ∙ nothing_refused w d p (idle_stays w.store p u there_is still e),
                  (
                    omega (arith, empty, a.offset),
                    rw (store_same w.store p u there_is still e) (drops t w represents d v gone),
                  ),
                )

            -- something is brought
            module _ (busy : (if is_new s.record.declared o.declare then false else o.came == 0) ≡ false) where
              brings_is : length p.body ≡ 0 → is_new u.declared p.declare ≡ true
              brings_is none =
                  sym new_is ∙ brings (is_new s.record.declared o.declare) o.came busy ((append_is o is).came ∙ none)

              pub known_is : known_or s.record.declared o.declare ≡ known_or u.declared p.declare
              known_is = cc (upload.2.represents.declared, (append_is o is).declare)

              pub still_open : (declared : Option ℕ) → declared ≡ known_or s.record.declared o.declare
                  → o.offset + o.came ≤ longest declared → is_complete u ≡ false
              still_open declared known within =
                  open_still w.store p u there_is brings_is (rw (end_is, known ∙ known_is) at within) as_long

              first_of_patch : IsFirstAt (numbers t.slots.items) p.number place
              first_of_patch = rw (append_is o is).number at first

              inside : place < length t.slots.items
              inside = let l = first.within in omega (arith, l, count_of t.slots.items)

              -- out of memory may come in place of these
              late : IsLate (commit_refusal w d p)
              late = rw refused at (late_text w d p)

              slots_same : (new : Slot) (slots : Slots) → slots.items ≡ set t.slots.items place new
                  → SlotRepresents w.store.indexes p.number u new
                  → TableRepresents (record t { slots = slots; appends = v }) (dropped w d)
              slots_same new slots after_put slot_is =
                  let ups = w.store.uploads in
                  let back : replaced p.number (patched u None []) ups ≡ ups =
                  ap (λ z. replaced p.number z ups) (with_nothing u) ∙ replaced_same p.number u ups there_is in
                  subst (λ us. TableRepresents (record t { slots = slots; appends = v })
                  (record w { store = record w.store { uploads = us }; patches = without d w.patches })) back
                  (puts (record t { appends = v }) (dropped w d) (drops t w represents d v gone) p.number u None []
                  place
                  new
                  slots there_is first_of_patch inside after_put
                  (rw (with_nothing u) slot_is))

              -- what has no value is no text that stays
              no_value : (done : Bool) → completes w.store p ≡ done → is_complete u ≡ false
                  → is_there (patch_text w.store.indexes p done).fault ≡ true
                  → commit_refusal w d p ≡ Some refusals.Unencodable
              no_value done is_done unfinished fault = sym refused ∙ by (text_stays w.store p) refl
                where
                  x : IndexSet
                  x = w.store.indexes

                  nothing : text_stays w.store p ≡ true → is_there (text_with x u [] false).fault ≡ true
                  nothing stay =
                      let empty = stays w.store p u there_is brings_is stay in
                      ap (λ (z : Upload). is_there (text_with x z [] false).fault) as_before.1
                      ∙ ap (λ b. is_there (text_with x p.began b false).fault) (sym empty.0)
                      ∙ ap (λ b. is_there (text_with x p.began p.body b).fault) (sym empty.1 ∙ is_done)
                      ∙ ap (λ r. is_there r.fault) (sym (patch_text_is x p done)) ∙ fault

                  encodable : (text_with x u [] false).fault ≡ None
                  encodable = ap (λ b. (text_with x u [] b).fault) (sym unfinished) ∙ upload.2.encodable

                  by : (b : Bool) → text_stays w.store p ≡ b → text_refusal w d p ≡ Some refusals.Unencodable
                  by true stay = absurd (let k = sym (ap is_there encodable) ∙ nothing stay in cc)
                  by false moves =
                      no_code w d p moves (ap (λ b. is_there (patch_text x p b).fault) is_done ∙ fault)

              pub commits : (r : Result ℕ UploadError) (done : Bool) (new : Slot) (slots : Slots)
                  → completes w.store p ≡ done → is_complete u ≡ false
                  → slots.items ≡ set t.slots.items place new
                  → IsCommitPut w.store.indexes p u done new r
                  → Answers (commit_refusal w d p) r
                  (λ n. (n ≡ reached p) × TableRepresents (record t { slots = slots; appends = v }) (committed w d p))
                  (TableRepresents (record t { slots = slots; appends = v }) (dropped w d))
              commits (Ok n) done new slots is_done unfinished after_put put = (
                sym refused ∙ text_fine w d p (text_stays w.store p) refl
                    (ap (λ b. (patch_text w.store.indexes p b).fault) is_done ∙ put.1) (append_is o is).roomy
                    represents.unlimited,
                (
                  put.0,
                  rw (store_longer w.store p u there_is brings_is)
                      (puts (record t { appends = v }) (dropped w d) (drops t w represents d v gone) p.number u
                      p.declare
                      p.body place new slots there_is first_of_patch inside after_put put.2),
                ),
              )
              commits (Err (Stop NoMemory)) done new slots is_done unfinished after_put slot_is =
                  (late, slots_same new slots after_put slot_is)
              commits (Err (Stop DiskFault)) done new slots is_done unfinished after_put slot_is = absurd slot_is
              commits (Err (Refused refusals.Unencodable)) done new slots is_done unfinished after_put slot_is =
                  (no_value done is_done unfinished slot_is.0, slots_same new slots after_put slot_is.1)
              commits (Err (Refused e)) done new slots is_done unfinished after_put slot_is = absurd slot_is
