-- Calls that only read.
use Rattle.std.proofs.Common.{◌≡◌, inl, inr, ℕ, ◌≢◌, take, ◌++◌, below_more, Option, None, Result, Ok, Err, IfOk}
use Rattle.std.proofs.Common.{IsOk, OnErr, OnOk}
use Rattle.std.proofs.Common.{◌+◌, ◌-◌, ◌*◌, ◌<◌, ◌≤◌, List, [], ◌∷◌, length, length-append, get_or, refl, sym, ◌∙◌, ap}
use Rattle.std.proofs.Common.{subst, arith}
use Rattle.std.proofs.Math.ListN.{get_or-append, get_or-eq_default}
use Rattle.std.proofs.lemmas.Bool.{cases_lt}
use Rattle.std.proofs.Math.Seq.{take-append_seam}
use Rattle.spool_disk.specs.Disk.{span}
use Rattle.spool_disk.specs.Given.{Between, ReadsGave, ReadsOnce, given}
use Rattle.common.specs.declared.given.GivenRead.{GivenRead}
use Rattle.spool_disk.specs.declared.disk.Disk.{Ghosts}
use Rattle.spool_disk.proofs.Gave.{both, first, grew_none, grew_on, none, of_one, one, read_once, rest}
use Rattle.spool_disk.proofs.Firm.{lasts_on}
use Rattle.spool_journal.specs.Image.{all_pages, byte_of, journal_pages, text_page}
use Rattle.spool_journal.specs.Phases.{Still}
use Rattle.spool_journal.proofs.Recovers.{get_span}
use Rattle.spool_pages.specs.Bytes.{IsPadded}
use Rattle.spool_pages.specs.View.{SlotRecord, AreAt, first_page, state_page, slot_bytes, slot_place, row_bytes}
use Rattle.spool_pages.specs.View.{row_place, state_place}
use Rattle.spool_pages.specs.Fits.{FitsSlotOf}
use Rattle.spool_pages.specs.declared.version.Version.{Version}
use Rattle.spool_pages.proofs.Encodes.{all_is, some_journal}
use Rattle.spool_load.specs.Reads.{OnlyReads, IsReadAt, IsPrefixOf, IsSameTo, SlotsAreAt, RowsAreAt}
use Rattle.std.proofs.lemmas.List.{ext_get_or, get_or-append-add}
use Rattle.common.specs.declared.limits.TheConstants.{ROWS}
use Rattle.spool_journal.specs.declared.TheConstants.{PAGE}

pub reads_on : {D : Type 0} {disk : Ghosts D} {a b c : D} → OnlyReads disk a b → OnlyReads disk b c → OnlyReads disk a c
reads_on first second = record {
  size = second.size ∙ first.size;
  honest = λ honest. second.honest (first.honest honest);
  back = λ honest. first.back (second.back honest);
  grew = grew_on first.grew second.grew;
  gave =
      λ honest bytes still. both (first.gave honest bytes still)
      (second.gave (first.honest honest) bytes (first.still honest bytes still));
  still = λ honest bytes still. second.still (first.honest honest) bytes (first.still honest bytes still);
  lasts =
      λ honest bytes still. lasts_on (first.lasts honest bytes still)
      (second.lasts (first.honest honest) bytes (first.still honest bytes still));
}

-- a read, which may fail
module _ {E : Type 0} {old new : List GivenRead} (at : ℕ) (bs : List ℕ) where
  pub read_gave : (bytes : ℕ → ℕ) (r : Result (Unit {0}) E) → OnOk r (new ≡ given at bs ∷ old) → OnErr r (new ≡ old)
      → (IsOk r → span bytes at (length bs) ≡ bs) → ReadsGave bytes old new
  read_gave bytes (Ok done) one_more none_more is = of_one one_more (is refl)
  read_gave bytes (Err e) one_more none_more is = none none_more

  -- it is of such places, and of none twice
  pub part_once : (r : Result (Unit {0}) E) → OnOk r (new ≡ given at bs ∷ old) → OnErr r (new ≡ old)
      → (from to : ℕ) → from ≤ at → at + length bs ≤ to → ReadsOnce (Between from to) old new
  part_once r one_more none_more from to low high =
      read_once at bs r one_more none_more (λ p over below. (omega (arith, low, over), omega (arith, below, high)))

pub reads_none : {D : Type 0} {disk : Ghosts D} (d : D) → OnlyReads disk d d
reads_none d = record {
  size = refl;
  honest = λ honest. honest;
  back = λ honest. honest;
  grew = grew_none refl;
  gave = λ honest bytes still. none refl;
  still = λ honest bytes still. still;
  lasts = λ honest bytes still. record { later = omega arith; nothing_else = λ t image le since. inl since };
}

-- what the reads of two such calls gave, the reads of each gave
module _ {D : Type 0} {disk : Ghosts D} {a b c : D} {bytes : ℕ → ℕ} (early : OnlyReads disk a b)
    (late : OnlyReads disk b c) (gave : ReadsGave bytes (disk.reads a) (disk.reads c)) where
  pub gave_first : ReadsGave bytes (disk.reads a) (disk.reads b)
  gave_first = first early.grew late.grew gave

  pub gave_rest : ReadsGave bytes (disk.reads b) (disk.reads c)
  gave_rest = rest early.grew late.grew gave

-- and those of three
pub gave_each : {D : Type 0} {disk : Ghosts D} {a b c d : D} {bytes : ℕ → ℕ} → OnlyReads disk a b → OnlyReads disk b c
    → OnlyReads disk c d → ReadsGave bytes (disk.reads a) (disk.reads d)
    → ReadsGave bytes (disk.reads a) (disk.reads b) × ReadsGave bytes (disk.reads b) (disk.reads c)
    × ReadsGave bytes (disk.reads c) (disk.reads d)
gave_each early mid late gave =
    let then = gave_rest early (reads_on mid late) gave in
    (gave_first early (reads_on mid late) gave, gave_first mid late then, gave_rest mid late then)

-- what ends before the text blocks is on the disk
pub before_texts : (n size end : ℕ) → PAGE * all_pages n ≤ size → end ≤ PAGE * text_page n → end ≤ size
before_texts n size end room few = omega (arith, all_is n, room, few)

-- so is the state page
pub state_within : (n size : ℕ) → PAGE * all_pages n ≤ size → state_place n + PAGE ≤ size
state_within n size room = omega (arith, all_is n, some_journal n, room)

-- what a read gave is in its buffer
pub read_is : (bytes : ℕ → ℕ) (place : ℕ) (buf : List ℕ) {old new : List GivenRead} → new ≡ given place buf ∷ old
    → ReadsGave bytes old new → IsReadAt bytes place buf
read_is bytes place buf e gave = record {
  each =
      λ i lt. ap (λ (xs : List ℕ). get_or xs i 0) (sym (one e gave)) ∙ get_span bytes place (length buf) i lt;
}

-- one read after the other
pub read_more : (bytes : ℕ → ℕ) (place then : ℕ) (old buf new : List ℕ) → IsReadAt bytes place old
    → IsReadAt bytes then buf → place + length old ≡ then → new ≡ old ++ buf → IsReadAt bytes place new
read_more bytes place then old buf new was read here is = record {
  each = λ i lt. ap (λ (xs : List ℕ). get_or xs i 0) is ∙ elim (cases_lt i (length old)) [
    | inl below ↦ get_or-append old buf 0 i below ∙ was.each i below
    | inr over ↦
        let k : ℕ = i - length old in
        let at : length old + k ≡ i = omega (arith, over) in
        let within : k < length buf = omega (arith, lt, over, long) in
        let place_is : then + k ≡ place + i = omega (arith, here, at) in
        subst (λ (j : ℕ). get_or (old ++ buf) j 0 ≡ bytes (place + j)) at
        (get_or-append-add old buf k 0 ∙ read.each k within
        ∙ ap bytes (let moved : then + k ≡ place + (length old + k) = omega (arith, here) in moved))
  ];
}
  where
    long : length new ≡ length old + length buf
    long = ap length is ∙ length-append old buf

-- on a disk with these bytes, all synced, a read gives them
pub still_span : (current bytes : ℕ → ℕ) {unsynced : ℕ → Type 0} (place n : ℕ) → Still bytes current unsynced
    → span bytes place n ≡ span current place n
still_span current bytes place n still = ap (λ (f : ℕ → ℕ). span f place n) (λ i p. sym (still.reads p) i)

-- what is on the disk is in the buffer
pub read_padded : (bytes : ℕ → ℕ) (place at : ℕ) (buf xs : List ℕ) (size : ℕ) → IsReadAt bytes place buf
    → length buf ≡ size → place ≡ at → length xs ≤ size → AreAt bytes at size xs → IsPadded buf xs
read_padded bytes place at buf xs size read long same few are_at = record {
  each = λ i. elim (cases_lt i size) [
    | inl below ↦ read.each i (omega (arith, below, long)) ∙ ap (λ (p : ℕ). bytes (p + i)) same ∙ are_at.each i below
    | inr over ↦ get_or-eq_default buf 0 (omega (arith, over, long)) ∙ sym
        (get_or-eq_default xs 0 (omega (arith, over, few)))
  ];
}

pub length-first : (n : ℕ) → length (first_page n) ≡ 12
unfolding first_page
length-first n = refl

pub length-state : (version : Version) (next : ℕ) → length (state_page version next) ≡ 12
unfolding state_page
length-state version next = refl

pub prefix_all : {A : Type 0} (whole prefix : List (Option A)) → IsPrefixOf whole prefix → length prefix ≡ length whole
    → prefix ≡ whole
prefix_all whole prefix is long = ext_get_or None prefix whole long (λ i lt. is.each i lt)

pub ok_no_fault : {T E : Type 0} (r : Result T E) (t : T) {fault : E} → r ≡ Ok t → r ≡ Err fault → ⊥
ok_no_fault r t is err = cc

-- what is on the disk within the range is in the buffer
pub read_at_place : (bytes : ℕ → ℕ) (place at off size : ℕ) (buf xs : List ℕ) → IsReadAt bytes place buf
    → off + size ≤ length buf → at ≡ place + off → AreAt bytes at size xs → AreAt (byte_of buf) off size xs
read_at_place bytes place at off size buf xs read room is are_at = record {
  each = λ i lt.
      let same : place + (off + i) ≡ at + i = omega (arith, is) in
      read.each (off + i) (omega (arith, lt, room)) ∙ ap bytes same ∙ are_at.each i lt;
}

-- and what is in the buffer is on the disk
pub read_back : (bytes : ℕ → ℕ) (place at off size : ℕ) (buf xs : List ℕ) → IsReadAt bytes place buf
    → off + size ≤ length buf → at ≡ place + off → AreAt (byte_of buf) off size xs → AreAt bytes at size xs
read_back bytes place at off size buf xs read room is are_at = record {
  each = λ i lt.
      let same : at + i ≡ place + (off + i) = omega (arith, is) in
      ap bytes same ∙ sym (read.each (off + i) (omega (arith, lt, room))) ∙ are_at.each i lt;
}

pub padded_back : (bytes : ℕ → ℕ) (place at : ℕ) (buf xs : List ℕ) (size : ℕ) → IsReadAt bytes place buf
    → length buf ≡ size → at ≡ place → IsPadded buf xs → AreAt bytes at size xs
padded_back bytes place at buf xs size read long is padded = record {
  each = λ i lt.
      let same : at + i ≡ place + i = omega (arith, is) in
      ap bytes same ∙ sym (read.each i (omega (arith, lt, long))) ∙ padded.each i;
}

pub at_part : (f : ℕ → ℕ) (at size part : ℕ) (xs : List ℕ) → part ≤ size → AreAt f at size xs → AreAt f at part xs
at_part f at size part xs few are_at = record { each = λ i lt. are_at.each i (omega (arith, lt, few)) }

-- ANSWERS

pub if_ok_more : {T E : Type 0} (r : Result T E) {P Q : T → Type 0} → ((t : T) → P t → Q t) → IfOk r P → IfOk r Q
if_ok_more (Ok t) more p = more t p
if_ok_more (Err e) more p = tt

pub if_ok_both : {T E : Type 0} (r : Result T E) {P Q R : T → Type 0} → ((t : T) → P t → Q t → R t) → IfOk r P
    → IfOk r Q → IfOk r R
if_ok_both (Ok t) more p q = more t p q
if_ok_both (Err e) more p q = tt

-- SLOTS AND ROWS

-- one more at the end of a list
module _ (slots : List (Option SlotRecord)) (slot_there : Option SlotRecord) (new : List (Option SlotRecord))
    (is : new ≡ slots ++ slot_there ∷ []) where
  one_more : length new ≡ length slots + 1
  one_more = ap length is ∙ length-append slots (slot_there ∷ [])

  before : (s : ℕ) → s < length slots → get_or new s None ≡ get_or slots s None
  before s below =
      ap (λ (xs : List (Option SlotRecord)). get_or xs s None) is ∙ get_or-append slots (slot_there ∷ []) None s below

  at_end : get_or new (length slots) None ≡ slot_there
  at_end =
      let zero : length slots + 0 ≡ length slots = omega arith in
      let there : get_or (slots ++ slot_there ∷ []) (length slots + 0) None ≡ slot_there =
      get_or-append-add slots (slot_there ∷ []) 0 None in
      ap (λ (xs : List (Option SlotRecord)). get_or xs (length slots) None) is ∙ subst
      (λ (k : ℕ). get_or (slots ++ slot_there ∷ []) k None ≡ slot_there) zero there

  -- each before and the new one
  each_with : (P : ℕ → Option SlotRecord → Type 0) → ((s : ℕ) → s < length slots → P s (get_or slots s None))
      → P (length slots) slot_there → (s : ℕ) → s < length new → P s (get_or new s None)
  each_with P old put s lt = elim (cases_lt s (length slots)) [
    | inl below ↦ subst (P s) (sym (before s below)) (old s below)
    | inr over ↦
        let here : length slots ≡ s = omega (arith, over, lt, one_more) in
        subst (λ (k : ℕ). P k (get_or new k None)) here (subst (P (length slots)) (sym at_end) put)
  ]

  pub at_push : (bytes : ℕ → ℕ) (n : ℕ) (version : Version) → SlotsAreAt bytes n version slots
      → AreAt bytes (slot_place n (length slots)) 2048 (slot_bytes version slot_there) → SlotsAreAt bytes n version new
  at_push bytes n version was are_at = record {
    each = each_with (λ s o. AreAt bytes (slot_place n s) 2048 (slot_bytes version o)) was.each are_at;
  }

  pub fit_push : ((s : ℕ) → FitsSlotOf (get_or slots s None)) → FitsSlotOf slot_there
      → (s : ℕ) → FitsSlotOf (get_or new s None)
  fit_push was fits s = elim (cases_lt s (length new)) [
    | inl below ↦ each_with (λ s o. FitsSlotOf o) (λ s lt. was s) fits s below
    | inr past ↦ subst FitsSlotOf (sym (get_or-eq_default new None past)) tt
  ]

module _ (old new : List (Option (ℕ × ℕ))) (at : ℕ) (row : Option (ℕ × ℕ)) (put : get_or new at None ≡ row)
    (others : (b : ℕ) → b ≢ at → get_or new b None ≡ get_or old b None) where
  pub put_same : (all : List (Option (ℕ × ℕ))) → IsSameTo at all old → row ≡ get_or all at None
      → IsSameTo (at + 1) all new
  put_same all same is = record {
    each = below_more _ _ (λ b below. let ne : b ≢ at = omega arith in others b ne ∙ same.each b below) (put ∙ is);
  }

  pub put_at : (page : ℕ → ℕ) (first k : ℕ) → first + k ≡ at
      → ((m : ℕ) → m < k → AreAt page (8 * m) 8 (row_bytes (get_or old (first + m) None)))
      → AreAt page (8 * k) 8 (row_bytes row) → (m : ℕ) → m < k + 1
      → AreAt page (8 * m) 8 (row_bytes (get_or new (first + m) None))
  put_at page first k here was are_at = below_more _ _
      (λ m below. let ne : first + m ≢ at = omega (arith, below, here) in subst
      (λ (o : Option (ℕ × ℕ)). AreAt page (8 * m) 8 (row_bytes o)) (sym (others (first + m) ne)) (was m below))
      (subst (λ (o : Option (ℕ × ℕ)). AreAt page (8 * k) 8 (row_bytes o))
      (sym (ap (λ (b : ℕ). get_or new b None) here ∙ put)) are_at)

-- the rows of a page, in the buffer
pub rows_at_place : (bytes : ℕ → ℕ) (n place page : ℕ) (buf : List ℕ) (all : List (Option (ℕ × ℕ)))
    → IsReadAt bytes place buf → length buf ≡ PAGE → place ≡ row_place n (ROWS * page) → 257 + page < journal_pages n
    → ((b : ℕ) → b < ROWS * (journal_pages n - 257) → AreAt bytes (row_place n b) 8 (row_bytes (get_or all b None)))
    → (k : ℕ) → k < ROWS → AreAt (byte_of buf) (8 * k) 8 (row_bytes (get_or all (ROWS * page + k) None))
rows_at_place bytes n place page buf all read long here few are_at k lt =
    read_at_place bytes place (row_place n (ROWS * page + k)) (8 * k) 8 buf _ read (omega (arith, lt, long))
    (omega (arith, here)) (are_at (ROWS * page + k) (omega (arith, lt, few)))

-- a page of rows more
pub rows_read : (bytes : ℕ → ℕ) (n place page : ℕ) (buf : List ℕ) (old new : List (Option (ℕ × ℕ)))
    → IsReadAt bytes place buf → length buf ≡ PAGE → place ≡ row_place n (ROWS * page)
    → RowsAreAt bytes n (ROWS * page) old → ((b : ℕ) → b < ROWS * page → get_or new b None ≡ get_or old b None)
    → ((k : ℕ) → k < ROWS → AreAt (byte_of buf) (8 * k) 8 (row_bytes (get_or new (ROWS * page + k) None)))
    → RowsAreAt bytes n (ROWS * (page + 1)) new
rows_read bytes n place page buf old new read long here was before filled = record {
  each = λ b lt. elim (cases_lt b (ROWS * page)) [
    | inl below ↦ subst (λ (o : Option (ℕ × ℕ)). AreAt bytes (row_place n b) 8 (row_bytes o)) (sym (before b below))
        (was.each b below)
    | inr over ↦
        let k : ℕ = b - ROWS * page in
        let few : k < ROWS = omega (arith, lt, over) in
        let at : ROWS * page + k ≡ b = omega (arith, over) in
        let are_at = filled k few in
        let there =
        read_back bytes place (row_place n b) (8 * k) 8 buf _ read (omega (arith, few, long))
        (omega (arith, here, at)) are_at in
        subst (λ (j : ℕ). AreAt bytes (row_place n b) 8 (row_bytes (get_or new j None))) at there
  ];
}

pub same_all : {A : Type 0} (end : ℕ) (whole list : List (Option A)) → IsSameTo end whole list
    → length list ≡ length whole → length list ≤ end → list ≡ whole
same_all end whole list same long covers =
    ext_get_or None list whole long (λ i lt. same.each i (omega (arith, lt, covers)))

pub take_new : {A : Type 0} (n : ℕ) (new rest : List A) → length new ≡ n → take n (new ++ rest) ≡ new
take_new n new rest long = subst (λ (k : ℕ). take k (new ++ rest) ≡ new) long (take-append_seam new rest)
