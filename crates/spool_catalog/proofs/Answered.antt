-- The catalog represents the uploads that a view shows.
use Rattle.std.proofs.lemmas.Grind.{common_steps}
use Rattle.std.proofs.Common.{◌≡◌, inl, inr, ℕ, ◌<◌, ◌≤◌, List, [], Option, None, Some, MatchOption, length, get_or}
use Rattle.std.proofs.Common.{refl, sym, ◌∙◌, ap, subst, arith}
use Rattle.std.proofs.lemmas.Bool.{cases_lt, cases_eq}
use Rattle.std.proofs.lemmas.Option.{same_Some}
use Rattle.common.specs.declared.limits.TheConstants.{SLOTS}
use Rattle.enc_model.specs.Indexes.{IndexSet}
use Rattle.spool_texts.specs.Reading as pieces
use Rattle.upload_rules.specs.Reading.{IsRead, no_such, text_at}
use Rattle.upload_rules.specs.Records.{RepresentsValid, RepresentsOf, above, with_number}
use Rattle.upload_rules.specs.Store.{Upload, Store, find, upload_of, text_of}
use Rattle.upload_rules.specs.declared.records.Record.{Record}
use Rattle.spool_journal.specs.Image.{text_page}
use Rattle.spool_texts.specs.TextOn.{text_on}
use Rattle.spool_texts.proofs.Shown.{shown}
use Rattle.spool_texts.proofs.Reserves.{few_distinct}
use Rattle.spool_pages.specs.View.{SlotRecord, View, Encodes, slot_at}
use Rattle.spool_catalog.specs.declared.order.NumberedSlot.{NumberedSlot}
use Rattle.spool_catalog.specs.Holding.{Holding, FitsTogether, IsUsedBy, IsListedAt, IsPlaceFor, numbered, number_at}
use Rattle.spool_catalog.specs.Catalog.{HasView}
use Rattle.spool_catalog.specs.Records.{slot_record_of, IsUnpacked, RepresentsValidOf}
use Rattle.spool_catalog.specs.Shows.{Shows, IsRecorded}
use Rattle.spool_catalog.proofs.numbers.Numbered.{above_is, above_none}
use Rattle.spool_catalog.proofs.Valid.{in_use}
use Rattle.spool_catalog.proofs.Recorded.{valid_record}
use Rattle.spool_catalog.proofs.slots.ChangedSlots.{clash, one_value}
use Rattle.common.specs.declared.limits.TheConstants.{MOST_BLOCKS}
use Rattle.spool_blocks.specs.Blocks.{Row}
use Rattle.spool_catalog.specs.Holding.{IsListOf, IsOwnedBy}
use Rattle.std.proofs.Common.{IfSome}
use Rattle.spool_catalog.proofs.numbers.Ordered.{ordered_slot}

pub none_valid : (x : IndexSet) (n : ℕ) (o : Option Upload) → o ≡ None → RepresentsValidOf x n o None
none_valid x n o e = subst (λ (p : Option Upload). RepresentsValidOf x n p None) (sym e) tt

pub some_valid : (x : IndexSet) (n : ℕ) (o : Option Upload) (u : Upload) (r : Record) → o ≡ Some u
    → RepresentsValid x n r u
    → RepresentsValidOf x n o (Some r)
some_valid x n o u r e k = subst (λ (p : Option Upload). RepresentsValidOf x n p (Some r)) (sym e) k

pub catalog_represents : (x : IndexSet) (n : ℕ) (o : Option Upload) (r : Option Record) → RepresentsValidOf x n o r
    → RepresentsOf x (with_number n o) r
catalog_represents x n None None k = tt
catalog_represents x n (Some u) (Some r) k = k.represents
catalog_represents x n u r k = absurd k

pub match_is_none : {A X : Type 0} (P : A → Type 0) (o : Option A) → o ≡ None → X → MatchOption o X P
match_is_none P None e x = x
match_is_none P (Some a) e x = clash e refl

pub text_there : (m : Store) (o : Option Upload) (u : Upload) (text : List ℕ) → o ≡ Some u → text ≡ text_of m.indexes u
    → (no_such o ≡ None) × (text_at m o ≡ text)
text_there m None u text there is = absurd cc
text_there m (Some w) u text there is = (refl, ap (text_of m.indexes) (same_Some w u there) ∙ sym is)

pub same_read : (text : List ℕ) (at n : ℕ) (old new : List ℕ) → pieces.IsRead text at n old new
    → IsRead text at n old new
same_read text at n old new is = record { count = is.count; bytes = is.bytes }

-- the record of the only slot of a number
pub only_record : {slots : List (Option SlotRecord)} {s n : ℕ} {q r : SlotRecord} (t : ℕ)
    → ((k : ℕ) → IsUsedBy slots k n → k ≡ s) → get_or slots s None ≡ Some r → IsUsedBy slots s n
    → get_or slots t None ≡ Some q → q.number ≡ r.number → q ≡ r
only_record {q = q} t only there used e is =
    let at = only t (record { used = q; there = e; is = cc (used.there, used.is) }) in
    cc

-- the slot of a number, by the order
pub used_of : (h : Holding) → FitsTogether h → (number : ℕ) (o : Option ℕ)
    → MatchOption o ((s : ℕ) → IsListedAt h.order number s → ⊥) (IsListedAt h.order number)
    → MatchOption o ((s : ℕ) → IsUsedBy h.slots s number → ⊥) (λ s. IsUsedBy h.slots s number)
used_of h fits number None free = λ s used.
    let lt : s < SLOTS = let inside = in_use h.slots s used.used used.there in omega (arith, inside, fits.slot_count) in
    free s (subst (λ (n : ℕ). IsListedAt h.order n s) used.is (fits.ordered.all s used.used lt used.there))
used_of h fits number (Some s) there = fits.ordered.names number s there

module _ {h : Holding} {v : View} {m : Store} (catalog : HasView h v) (shows : Shows v m) where
  pub no_upload : (n : ℕ) → ((s : ℕ) → IsUsedBy h.slots s n → ⊥) → upload_of m n ≡ None
  no_upload n free = go (upload_of m n) refl
    where
      go : (o : Option Upload) → upload_of m n ≡ o → upload_of m n ≡ None
      go None e = e
      go (Some u) e =
          let has = shows.all n u e in
          let there = ap (λ (xs : List (Option SlotRecord)). get_or xs has.slot None) catalog.slots ∙ has.there in
          absurd (free has.slot (record { used = has.used; there = there; is = has.number }))

  -- the slot of a number represents its upload
  module _ {s n : ℕ} {q : SlotRecord} (here : get_or h.slots s None ≡ Some q) (used : IsUsedBy h.slots s n) where
    there : slot_at v s ≡ Some q
    there = ap (λ (xs : List (Option SlotRecord)). get_or xs s None) (sym catalog.slots) ∙ here

    abbrev recorded : IsRecorded m q (v.texts s)
    recorded = shows.recorded s q there

    number : q.number ≡ n
    number = ap (λ (r : SlotRecord). r.number) (one_value here used.there) ∙ used.is

    upload_is : upload_of m n ≡ Some recorded.upload
    upload_is = ap (λ (k : ℕ). find k m.uploads) (sym number) ∙ recorded.there

    pub found : {r : Record} → slot_record_of r ≡ q → IsUnpacked r
        → (u : Upload) × (upload_of m n ≡ Some u) × RepresentsValid m.indexes n r u
    found {r = r} slot_record unpacked = (
      recorded.upload,
      upload_is,
      valid_record m.indexes q (v.texts s) recorded.upload recorded.represents r
          slot_record unpacked n number,
    )

    -- and the text on its blocks is its upload's
    pub text_recorded : (bytes : ℕ → ℕ) → Encodes bytes v → (u : Upload) → upload_of m n ≡ Some u
        → text_on bytes (text_page h.layout) (get_or h.lists s []) q.text_len ≡ text_of m.indexes u
    text_recorded bytes encodes u found_there = rw catalog.blocks
        (shown bytes (text_page v.blocks) v.rows s q.text_len (get_or h.lists s []) (catalog.listed s q there)
        (catalog.sizes s q there) ∙ sym (encodes.texts s q there) ∙ recorded.represents.text
        ∙ ap (text_of m.indexes) (same_Some recorded.upload u (sym upload_is ∙ found_there)))

  -- each upload is in the order
  pub listed : (j : ℕ) (w : Upload) → find j m.uploads ≡ Some w
      → (i : ℕ) × (i < length h.order) × (number_at h.order i ≡ j)
  listed j w e =
      let has = shows.all j w e in
      let lt : has.slot < SLOTS = search (arith, common_steps) in
      let l = catalog.ordered.all has.slot has.used lt has.there in
      (l.place, l.below, ap (λ (p : NumberedSlot). p.number) l.here ∙ has.number)

  module _ (n place : ℕ) (is : IsPlaceFor h.order n place) where
    pub none_after : length h.order ≤ place → above n m.uploads ≡ None
    none_after le = grind (arith, common_steps, above_none, listed)

    pub some_after : (k s : ℕ) → place < length h.order → get_or h.order place (numbered 0 0) ≡ numbered k s
        → (u : Upload) → upload_of m k ≡ Some u → above n m.uploads ≡ Some (k, u)
    some_after k s lt e u there =
        let here : number_at h.order place ≡ k = ap (λ (p : NumberedSlot). p.number) e in
        let more = is.after place (omega arith) lt in
        above_is m.uploads shows.rising n k u (omega (arith, more, here)) there (λ j w over f.
        let at = listed j w f in
        let inside = at.1 in
        elim (cases_lt at.0 place) [
          | inl low ↦ let up = is.before at.0 low in absurd (omega (arith, up, at.2, over))
          | inr high ↦ elim (cases_eq at.0 place) [
            | inl same ↦ search (arith, common_steps)
            | inr other ↦ search (arith, common_steps)
          ]
        ])

    -- the entry names a slot in use
    pub named : (k s : ℕ) → place < length h.order → get_or h.order place (numbered 0 0) ≡ numbered k s
        → IsUsedBy h.slots s k
    named k s lt e = search (arith, common_steps)

-- ONE SLOT FOR A NUMBER

one_slot : (h : Holding) → FitsTogether h → (n s : ℕ) → IsListedAt h.order n s → (t : ℕ) → IsUsedBy h.slots t n → t ≡ s
one_slot h fits n s l t used =
    let inside = in_use h.slots t used.used used.there in
    let lt : t < SLOTS = omega (arith, inside, fits.slot_count) in
    let k = subst (λ (m : ℕ). IsListedAt h.order m t) used.is (fits.ordered.all t used.used lt used.there) in
    ordered_slot h.slots h.order fits.slot_count fits.ordered n t s k l

pub only_of : (h : Holding) → FitsTogether h → (n : ℕ) (found : Option ℕ)
    → MatchOption found ((s : ℕ) → IsListedAt h.order n s → ⊥) (IsListedAt h.order n)
    → IfSome found (λ s. (t : ℕ) → IsUsedBy h.slots t n → t ≡ s)
only_of h fits n None l = tt
only_of h fits n (Some s) l = one_slot h fits n s l

-- A SLOT'S LIST

few_owned : (rows : List Row) (s : ℕ) (list : List ℕ)
    → ((i : ℕ) → i < length list → get_or rows (get_or list i 0) None ≡ Some (s, i)) → length list ≤ length rows
few_owned rows s list owned =
    few_distinct (length rows) list (λ i lt. in_use rows (get_or list i 0) (s, i) (owned i lt))
    (λ i k lt lt' e. let same : ◌≡◌ {A = Row} (Some (s, i)) (Some (s, k)) = sym (owned i (omega (arith, lt, lt')))
    ∙ ap (λ (b : ℕ). get_or rows b None) e ∙ owned k lt' in omega (arith, lt, ordinal s i k same))
  where
    ordinal : (s i k : ℕ) → ◌≡◌ {A = Row} (Some (s, i)) (Some (s, k)) → i ≡ k
    ordinal s i k e = ap (λ (o : Row). elim o as (λ _. ℕ) [ None ↦ i | Some p ↦ p.1 ]) e

pub few_listed : (h : Holding) → FitsTogether h → (s : ℕ) → s < SLOTS → h.layout ≤ MOST_BLOCKS → (list : List ℕ)
    → list ≡ get_or h.lists s [] → length list ≤ MOST_BLOCKS
few_listed h fits s lt few list is = of_slot (get_or h.slots s None) (fits.listed s lt)
  where
    of_slot : (o : Option SlotRecord) → IsListOf h.blocks.rows s o (get_or h.lists s []) → length list ≤ MOST_BLOCKS
    of_slot None none = omega (arith, ap length (is ∙ none))
    of_slot (Some r) has = omega
        (arith, ap length is, few_owned h.blocks.rows s (get_or h.lists s []) has.owned, fits.row_count, few)

-- a slot's list holds its upload's blocks
pub list_owned : (h : Holding) → FitsTogether h → (s : ℕ) → s < SLOTS → (number : ℕ) → IsUsedBy h.slots s number
    → (list : List ℕ) → list ≡ get_or h.lists s [] → IsOwnedBy h.slots h.blocks.rows number list
list_owned h fits s lt number used list is =
    let has = rw used.there at (fits.listed s lt) in
    record {
      slot = s;
      used = used;
      owned = λ i lt. (
        i,
        ap (λ (xs : List ℕ). get_or h.blocks.rows (get_or xs i 0) None) is
            ∙ has.owned i (omega (arith, lt, ap length is)),
      );
    }
