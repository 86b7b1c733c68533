-- Steps of a recovery.
use Rattle.std.proofs.Common.{◌≡◌, ◌⊎◌, inl, inr, ℕ, zero, suc, ◌+◌, ◌*◌, ◌<◌, ◌≤◌, ◌==◌, List, length, get_or, refl}
use Rattle.std.proofs.Common.{sym, ◌∙◌, ap, subst, arith, ⊎_elim, Bool, true, false}
use Rattle.std.proofs.lemmas.Bool.{cases_eq}
use Rattle.spool_journal.specs.declared.TheConstants.{PAGE}
use Rattle.common.specs.declared.limits.TheConstants.{MOST_BLOCKS}
use Rattle.spool_disk.specs.Disk.{span, IsImage, Preserves}
use Rattle.spool_journal.specs.Image.{word, byte_of, journal_pages, all_pages, count, journal_number, content, over}
use Rattle.spool_journal.specs.Image.{overlaid}
use Rattle.spool_journal.specs.Image.{text_page, laid, replayed, InForm, InArea, Ascends, page_number}
use Rattle.spool_journal.specs.Phases.{IsBefore, ReadsAs, Placing, Upto, Settled, Still, HeadOf}
use Rattle.spool_disk.specs.Views.{Lasts}
use Rattle.spool_disk.specs.declared.disk.Disk.{Ghosts}
use Rattle.spool_disk.proofs.Firm.{lasts_more}
use Rattle.spool_journal.proofs.Steps.{word_same, form_same, few_pages}
use Rattle.spool_journal.proofs.Gate.{hit_from, shut_view, open_view, reads_more}
use Rattle.spool_journal.proofs.Over.{yes, no}

pub journal_few : (n : ℕ) → n ≤ MOST_BLOCKS → journal_pages n ≤ 385
unfolding journal_pages
journal_few n few = omega (arith, few)

pub all_is : (n : ℕ) → all_pages n ≡ text_page n + n
unfolding all_pages
all_is n = refl

pub get_span : (f : ℕ → ℕ) (at n x : ℕ) → x < n → get_or (span f at n) x 0 ≡ f (at + x)
unfolding span
get_span f at zero x lt = omega (arith, lt)
get_span f at (suc n) zero lt = let e : at ≡ at + 0 = omega arith in ap f e
get_span f at (suc n) (suc x) lt = let e : at + 1 + x ≡ at + suc x =
    omega arith in get_span f (at + 1) n x (omega (arith, lt)) ∙ ap f e

module _ {current current' : ℕ → ℕ} {unsynced unsynced' : ℕ → Type 0} where
  pub placing_preserves : {j : ℕ} {opened : ℕ → ℕ} → Placing j opened current unsynced
      → Preserves current current' unsynced unsynced'
      → Placing j opened current' unsynced'
  placing_preserves placing preserves = record {
    gate = placing.gate;
    form = placing.form;
    same = λ p miss. preserves.same p ∙ placing.same p miss;
    is_synced = λ p l. placing.is_synced p (preserves.unsyncs p l);
  }

  pub still_preserves : {bytes : ℕ → ℕ} → Still bytes current unsynced → Preserves current current' unsynced unsynced'
      → Still bytes current' unsynced'
  still_preserves still preserves = record {
    reads = λ p. preserves.same p ∙ still.reads p;
    is_synced = λ p l. still.is_synced p (preserves.unsyncs p l);
  }

pub still_image : {bytes current image : ℕ → ℕ} {unsynced : ℕ → Type 0} → Still bytes current unsynced
    → IsImage current unsynced image
    → (p : ℕ) → image p ≡ bytes p
still_image still is p = is.same p (still.is_synced p) ∙ still.reads p

-- the bytes of a read page
pub page_read : (f g : ℕ → ℕ) (at : ℕ) (bytes : List ℕ) (n : ℕ) → n ≡ PAGE → bytes ≡ span f at n → (x : ℕ) → x < PAGE
    → f (at + x) ≡ g (at + x) → byte_of bytes x ≡ g (at + x)
page_read f g at bytes n size e x lt same =
    ap (λ (l : List ℕ). get_or l x 0) e ∙ get_span f at n x (omega (arith, size, lt)) ∙ same

-- the journal is as it was when the gate opened
pub placing_content : {j : ℕ} {opened current : ℕ → ℕ} {unsynced : ℕ → Type 0} → Placing j opened current unsynced
    → (i x : ℕ)
    → i < count opened → x < PAGE → content current i x ≡ content opened i x
placing_content {j = j} {opened = opened} placing i x lt below =
    placing.same (PAGE * (3 + i) + x)
    (λ hit. omega (arith, hit_from j opened _ placing.form hit, lt, below, placing.form.few))

pub still_placing : {j : ℕ} {bytes current : ℕ → ℕ} {unsynced : ℕ → Type 0} → Still bytes current unsynced
    → bytes PAGE ≡ 165
    → InForm j (count bytes) (journal_number bytes) → Placing j bytes current unsynced
still_placing still gate form = record {
  gate = gate;
  form = form;
  same = λ p miss. still.reads p;
  is_synced = λ p l. absurd (still.is_synced p l);
}

pub still_upto : (bytes current : ℕ → ℕ) {unsynced : ℕ → Type 0} → Still bytes current unsynced → Upto bytes current 0
unfolding over
still_upto bytes current still p = still.reads p

-- the count and the numbers in a head that was read are those on the disk
pub head_count : (bytes : ℕ → ℕ) (head : List ℕ) → HeadOf bytes head → word (byte_of head) 0 ≡ count bytes
head_count bytes head here =
    word_same (byte_of head) bytes 0 8192
    (λ i lt. let e : 0 + i ≡ i = omega arith in ap (byte_of head) e ∙ here i (omega (arith, lt)))

pub head_number : (bytes : ℕ → ℕ) (head : List ℕ) → HeadOf bytes head → (k : ℕ) → k < 385
    → word (byte_of head) (4 + 4 * k) ≡ journal_number bytes k
head_number bytes head here k below =
    word_same (byte_of head) bytes (4 + 4 * k) (8196 + 4 * k)
    (λ i lt. let e : 8192 + (4 + 4 * k + i) ≡ 8196 + 4 * k + i = omega arith in here (4 + 4 * k + i)
    (omega (arith, lt, below)) ∙ ap bytes e)

pub head_form : (j : ℕ) (bytes : ℕ → ℕ) (head : List ℕ) → j ≤ 385 → HeadOf bytes head
    → InForm j (word (byte_of head) 0) (λ k. word (byte_of head) (4 + 4 * k))
    → InForm j (count bytes) (journal_number bytes)
head_form j bytes head few here form =
    form_same j (word (byte_of head) 0) (count bytes) (λ k. word (byte_of head) (4 + 4 * k)) (journal_number bytes)
    (head_count bytes head here) (λ k lt. head_number bytes head here k (omega (arith, few, lt, form.few))) form

pub form_head : (j : ℕ) (bytes : ℕ → ℕ) (head : List ℕ) → j ≤ 385 → HeadOf bytes head
    → InForm j (count bytes) (journal_number bytes) → InForm j (word (byte_of head) 0)
    (λ k. word (byte_of head) (4 + 4 * k))
form_head j bytes head few here form =
    form_same j (count bytes) (word (byte_of head) 0) (journal_number bytes) (λ k. word (byte_of head) (4 + 4 * k))
    (sym (head_count bytes head here))
    (λ k lt. sym (head_number bytes head here k (omega (arith, few, lt, form.few)))) form

-- a gate that is closed from the first
pub still_settled : {j : ℕ} {bytes current : ℕ → ℕ} {unsynced : ℕ → Type 0} → Still bytes current unsynced
    → (bytes PAGE ≡ 165 → ⊥)
    → Settled j (overlaid bytes) current unsynced
still_settled {bytes = bytes} still closed = record {
  is_synced = still.is_synced;
  closed = λ e. closed (sym (still.reads PAGE) ∙ e);
  same = λ p outside. still.reads p ∙ sym (shut_view bytes p closed);
}

pub page_read_at : (f g : ℕ → ℕ) (at at' : ℕ) (bytes : List ℕ) (n : ℕ) → n ≡ PAGE → at' ≡ at → bytes ≡ span f at' n
    → (x : ℕ) → x < PAGE → f (at + x) ≡ g (at + x) → byte_of bytes x ≡ g (at + x)
page_read_at f g at at' bytes n size same_place e x lt same =
    page_read f g at bytes n size (subst (λ (a : ℕ). bytes ≡ span f a n) same_place e) x lt same

pub items_few : (j : ℕ) (items pages : List (ℕ × List ℕ)) → j ≤ 385 → items ≡ pages → InArea j pages → Ascends pages
    → length items ≤ 385
items_few j items pages few e inside ascends = let size : length items ≡ length pages =
    ap (λ (l : List (ℕ × List ℕ)). length l) e in omega (arith, few, size, few_pages j pages inside ascends)

pub items_journal : (n : ℕ) (items pages : List (ℕ × List ℕ)) (size : ℕ) → items ≡ pages
    → InArea (journal_pages n) pages → Ascends pages → PAGE * all_pages n ≤ size → PAGE * (3 + length items) ≤ size
items_journal n items pages size e inside ascends room = let same : length items ≡ length pages =
    ap (λ (l : List (ℕ × List ℕ)). length l) e in omega
    (arith, same, few_pages (journal_pages n) pages inside ascends, all_is n, room)

pub items_room : (n : ℕ) (items pages : List (ℕ × List ℕ)) (size : ℕ) → items ≡ pages → InArea (journal_pages n) pages
    → PAGE * all_pages n ≤ size → (k : ℕ) → k < length items → PAGE * (page_number items k + 1) ≤ size
items_room n items pages size e inside room k lt =
    let within = subst (InArea (journal_pages n)) (sym e) inside k lt in
    omega (arith, within.below, all_is n, room)

pub in_items : (i j : ℕ) (items pages : List (ℕ × List ℕ)) → i ≡ j → items ≡ pages → InArea j pages → InArea i items
in_items i j items pages e f inside = subst (λ (n : ℕ). InArea n items) (sym e) (subst (InArea j) (sym f) inside)

pub lasts_laid : {D : Type 0} {disk : Ghosts D} {old new : D} {i j : ℕ} {current : ℕ → ℕ} {unsynced : ℕ → Type 0}
    {items pages : List (ℕ × List ℕ)} → i ≡ j → items ≡ pages
    → Lasts disk old new (λ image. IsBefore i current unsynced image ⊎ ReadsAs i image (laid items current))
    → Lasts disk old new (λ image. IsBefore j current unsynced image ⊎ ReadsAs j image (laid pages current))
lasts_laid {j = j} {current = current} {unsynced = unsynced} {items = items} same e lasts = lasts_more lasts
    (λ image either.
    ⊎_elim (λ before. inl (subst (λ (n : ℕ). IsBefore n current unsynced image) same before))
    (λ reads. inr (subst (λ (l : List (ℕ × List ℕ)). ReadsAs j image (laid l current)) e
    (subst (λ (n : ℕ). ReadsAs n image (laid items current)) same reads))) either)

pub gate_is : (gate : List ℕ) (current bytes : ℕ → ℕ) → gate ≡ span current PAGE 1 → ((p : ℕ) → current p ≡ bytes p)
    → (get_or gate 0 0 == 165) ≡ (bytes PAGE == 165)
unfolding span
gate_is gate current bytes e same = ap (λ (b : ℕ). b == 165) (ap (λ (l : List ℕ). get_or l 0 0) e ∙ same PAGE)

-- a number under the one that was due
pub not_in_form : (j n k least : ℕ) (num : ℕ → ℕ) → k < n → (k ≡ 0 → least ≡ 25 + j)
    → ((i : ℕ) → k ≡ i + 1 → least ≡ num i + 1) → num k < least → InForm j n num → ⊥
not_in_form j n zero least num lt start due under form = let h =
    form.inside 0 lt in omega (arith, h.from, start refl, under)
not_in_form j n (suc k) least num lt start due under form =
    let e : suc k ≡ k + 1 = omega arith in
    let u : num (k + 1) < least = subst (λ (i : ℕ). num i < least) e under in
    omega (arith, form.ascends k (omega (arith, lt)), due k e, u)

-- the gate's byte, as a read gave it
pub gate_given : (gate : List ℕ) (bytes : ℕ → ℕ) → length gate ≡ 1 → span bytes PAGE (length gate) ≡ gate
    → (get_or gate 0 0 == 165) ≡ (bytes PAGE == 165)
gate_given gate bytes size e =
    gate_is gate bytes bytes (sym (subst (λ (n : ℕ). span bytes PAGE n ≡ gate) size e)) (λ p. refl)

-- the head, as a read gave it
pub head_given : (head : List ℕ) (bytes : ℕ → ℕ) → length head ≡ PAGE → span bytes 8192 (length head) ≡ head
    → HeadOf bytes head
head_given head bytes size e i lt = page_read bytes bytes 8192 head (length head) size (sym e) i lt refl

-- a gate that was found open
pub shown_open : (shown : Bool) (b : ℕ) → shown ≡ (b == 165) → shown ≡ true → b ≡ 165
shown_open shown b e gate_is =
    ⊎_elim (λ (is : b ≡ 165). is)
    (λ (not : b ≡ 165 → ⊥). let f : true ≡ false = sym gate_is ∙ e ∙ no b 165 not in absurd cc) (cases_eq b 165)

-- a gate that was found closed
pub shown_closed : (shown : Bool) (b : ℕ) → shown ≡ (b == 165) → shown ≡ false → b ≡ 165 → ⊥
shown_closed shown b e closed is = let f : false ≡ true = sym closed ∙ e ∙ yes b 165 is in cc

-- what a replay leaves, as a plain reading before it gives it
pub lasts_mended : {D : Type 0} {disk : Ghosts D} {old new : D} {i j : ℕ} {bytes : ℕ → ℕ} {unsynced : ℕ → Type 0}
    → i ≡ j → bytes PAGE ≡ 165
    → Lasts disk old new (λ image. ((p : ℕ) → image p ≡ bytes p) ⊎ ReadsAs i image (replayed bytes))
    → Lasts disk old new (λ image. IsImage bytes unsynced image ⊎ ReadsAs j image (overlaid bytes))
lasts_mended {bytes = bytes} same gate lasts = lasts_more lasts
    (λ image either.
    ⊎_elim (λ is. inl record { same = λ p _. is p })
    (λ reads. inr (reads_more (λ p _. sym (open_view bytes p gate))
    (subst (λ (n : ℕ). ReadsAs n image (replayed bytes)) same reads))) either)
