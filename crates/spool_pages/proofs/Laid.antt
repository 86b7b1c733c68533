-- Changed pages laid over what was there, page by page.
use Rattle.std.proofs.Common.{◌≡◌, inl, inr, ℕ, zero, suc, ◌+◌, ◌-◌, ◌*◌, ◌/◌, ◌%◌, ◌<◌, ◌≤◌, List, [], ◌∷◌, Option}
use Rattle.std.proofs.Common.{None, Some, length, get_or, refl, sym, ◌∙◌, ap, arith}
use Rattle.std.proofs.lemmas.Bool.{cases_eq, cases_lt}
use Rattle.spool_journal.specs.Image.{byte_of, journal_pages, InMeta, over, laid, page_number, page_byte, InArea}
use Rattle.spool_journal.specs.Image.{text_page, Ascends}
use Rattle.std.proofs.lemmas.Bool.Decides.{nat_tests}
use Rattle.common.specs.declared.limits.TheConstants.{ROWS, SLOTS}
use Rattle.spool_journal.specs.declared.TheConstants.{PAGE}
use Rattle.spool_pages.proofs.PageIn.{number_none}
use Rattle.spool_journal.proofs.Over.{over_hit, over_pass, over_none}
use Rattle.spool_pages.specs.Changes.{page_in, UpdatedBy, Changes, state_number, record_number, row_number}
use Rattle.spool_pages.specs.Rests.{Rests, HasTexts}
use Rattle.spool_pages.specs.View.{SlotRecord, View, AreAt, Encodes, state_page, slot_bytes, row_bytes, slot_at}
use Rattle.spool_pages.specs.View.{index_place, state_place, slot_place, row_place}
use Rattle.spool_pages.specs.declared.version.Version.{Version}
use Rattle.spool_pages.proofs.Resting.{rests_encodes}
use Rattle.spool_pages.proofs.Encodes.{shown_same}

-- where the page of this number is among them
record PageAt (n : ℕ) (pages : List (ℕ × List ℕ)) (bytes : List ℕ) : Type 0 where
  at : ℕ
  below : at < length pages
  number : page_number pages at ≡ n
  bytes_are : (get_or pages at (0, [])).1 ≡ bytes

page_some : (n : ℕ) (pages : List (ℕ × List ℕ)) (bytes : List ℕ) → page_in n pages ≡ Some bytes → PageAt n pages bytes
unfolding page_in
page_some n [] bytes e = absurd (let f : None ≡ Some bytes = e in cc)
page_some n (entry ∷ pages) bytes e = elim (cases_eq entry.0 n) [
  | inl here ↦ record { at = 0; below = omega arith; number = here; bytes_are = grind (arith, nat_tests) }
  | inr other ↦
      let rest = page_some n pages bytes (grind (arith, nat_tests)) in
      record { at = suc rest.at; below = omega (arith, rest.below); number = rest.number; bytes_are = rest.bytes_are }
]

-- a page that is the last one of its number
over_at : (num : ℕ → ℕ) (con : ℕ → ℕ → ℕ) (base : ℕ → ℕ) (n k p : ℕ) → k < n → num k ≡ p / PAGE
    → ((i : ℕ) → k < i → i < n → num i ≡ p / PAGE → ⊥) → over num con base n p ≡ con k (p % PAGE)
over_at num con base zero k p lt here last = omega (arith, lt)
over_at num con base (suc n) k p lt here last = elim (cases_lt k n) [
  | inl below ↦ over_pass num con base n p (last n below (omega arith))
      ∙ over_at num con base n k p below here (λ i from under. last i from (omega (arith, under)))
  | inr from ↦ let e : k ≡ n = omega (arith, lt, from) in rw (sym e) (over_hit num con base k p here)
]

farther : (pages : List (ℕ × List ℕ)) → Ascends pages → (i d : ℕ) → i + d + 1 < length pages
    → page_number pages i < page_number pages (i + d + 1)
farther pages ascends i zero lt = grind (arith, ascends i)
farther pages ascends i (suc d) lt = grind (arith, ascends (i + d + 1), farther pages ascends i d)

module _ (pages : List (ℕ × List ℕ)) (base : ℕ → ℕ) where
  pub laid_none : (n p : ℕ) → page_in n pages ≡ None → n ≡ p / PAGE → laid pages base p ≡ base p
  laid_none n p none here =
      over_none (page_number pages) (page_byte pages) base (length pages) p
      (λ k lt e. number_none n pages none k lt (e ∙ sym here))

  pub laid_some : (n p : ℕ) (bytes : List ℕ) → Ascends pages → page_in n pages ≡ Some bytes → n ≡ p / PAGE
      → laid pages base p ≡ byte_of bytes (p % PAGE)
  laid_some n p bytes ascends some here =
      let there = page_some n pages bytes some in
      over_at (page_number pages) (page_byte pages) base (length pages) there.at p there.below (there.number ∙ here)
      (later there) ∙ ap (λ (xs : List ℕ). get_or xs (p % PAGE) 0) there.bytes_are
    where
      later : (there : PageAt n pages bytes) (i : ℕ) → there.at < i → i < length pages → page_number pages i ≡ p / PAGE
          → ⊥
      later there i from below e =
          grind (arith, farther pages ascends there.at (i - there.at - 1), there.number, here)

  -- outside the metadata
  pub laid_out : (j p : ℕ) → InArea j pages → (InMeta j (p / PAGE) → ⊥) → laid pages base p ≡ base p
  laid_out j p inside away =
      over_none (page_number pages) (page_byte pages) base (length pages) p
      (λ k lt e. away (rw e at (inside k lt)))

  -- the bytes of a page that is laid over, or those that were there
  pub at_or_same : {A : Type 0} (bytes_of : A → List ℕ) (old new : A) (page at size place : ℕ) → Ascends pages
      → at + size ≤ PAGE → place ≡ PAGE * page + at
      → UpdatedBy (page_in page pages) (λ bytes x. AreAt (byte_of bytes) at size (bytes_of x)) old new
      → AreAt base place size (bytes_of old) → AreAt (laid pages base) place size (bytes_of new)
  at_or_same {A = A} bytes_of old new page at size place ascends fits here encoded stood =
      by_page (page_in page pages) refl encoded
    where
      by_page : (o : Option (List ℕ)) → page_in page pages ≡ o → UpdatedBy o
          (λ bytes x. AreAt (byte_of bytes) at size (bytes_of x)) old new
          → AreAt (laid pages base) place size (bytes_of new)
      by_page None none same = record {
        each = λ i lt. laid_none page (place + i) none (omega (arith, here, fits, lt)) ∙ stood.each i lt
            ∙ ap (λ (x : A). byte_of (bytes_of x) i) (sym same);
      }
      by_page (Some bytes) some encodes = record {
        each = λ i lt.
            let within : (place + i) % PAGE ≡ at + i = omega (arith, here, fits, lt) in
            laid_some page (place + i) bytes ascends some (omega (arith, here, fits, lt)) ∙ ap (byte_of bytes) within
            ∙ encodes.each i lt;
      }

-- WHAT THE CHANGED PAGES ENCODE

module _ (pages : List (ℕ × List ℕ)) (current : ℕ → ℕ) (v v' : View)
    (inside : InArea (journal_pages v.blocks) pages) (ascends : Ascends pages) (changes : Changes pages v v')
    (texts : HasTexts current v') (encodes : Encodes current v) where
  out : (p : ℕ) → (InMeta (journal_pages v.blocks) (p / PAGE) → ⊥) → laid pages current p ≡ current p
  out p away = laid_out pages current (journal_pages v.blocks) p inside away

  same_journal : journal_pages v'.blocks ≡ journal_pages v.blocks
  same_journal = ap journal_pages changes.others.blocks

  state_there : AreAt (laid pages current) (state_place v.blocks) PAGE (state_page v'.version v'.next)
  state_there = at_or_same pages current (λ (s : Version × ℕ). state_page s.0 s.1) (v.version, v.next)
      (v'.version, v'.next) (state_number v.blocks) 0 PAGE (state_place v.blocks) ascends (omega arith) (omega arith)
      changes.others.state encodes.state

  slot_there : (s : ℕ) → s < SLOTS → AreAt (laid pages current) (slot_place v.blocks s) 2048
      (slot_bytes v'.version (slot_at v' s))
  slot_there s lt = at_or_same pages current (λ (x : Version × Option SlotRecord). slot_bytes x.0 x.1)
      (v.version, slot_at v s) (v'.version, slot_at v' s) (record_number v.blocks s) (2048 * (s % 2)) 2048
      (slot_place v.blocks s) ascends (omega arith) (omega arith) (changes.others.slots s lt) (encodes.slots s lt)

  row_there : (b : ℕ) → b < ROWS * (journal_pages v.blocks - 257) → AreAt (laid pages current) (row_place v.blocks b) 8
      (row_bytes (get_or v'.rows b None))
  row_there b lt = at_or_same pages current row_bytes (get_or v.rows b None) (get_or v'.rows b None)
      (row_number v.blocks b) (8 * (b % ROWS)) 8 (row_place v.blocks b) ascends (omega arith) (omega arith)
      (changes.rows b lt) (encodes.rows b lt)

  laid_encodes : Encodes (laid pages current) v'
  laid_encodes = record {
    first = rw changes.others.blocks (record {
      each = λ i lt. out (0 + i) (λ within. omega (arith, within.from, lt)) ∙ encodes.first.each i lt;
    });
    area = λ i lt. rw (changes.others.blocks, changes.others.indexes)
        (out (index_place v.blocks + i) (λ within. omega (arith, within.from, lt)) ∙ encodes.area i lt);
    state = rw changes.others.blocks state_there;
    slots = λ s lt. rw changes.others.blocks (slot_there s lt);
    rows = λ b lt. rw changes.others.blocks (row_there b (omega (arith, lt, same_journal)));
    texts = λ s r e. texts s r e ∙ sym
        (shown_same (laid pages current) current (text_page v'.blocks)
        (λ p from. out p (λ within. omega (arith, within.below, from, same_journal))) v'.rows s r.text_len);
  }

-- a commit of them makes the new view of the old one
pub changed_encodes : {n : ℕ} {pages : List (ℕ × List ℕ)} {current : ℕ → ℕ} {unsynced : ℕ → Type 0} {v v' : View}
    → v.blocks ≡ n
    → InArea (journal_pages n) pages → Rests v current unsynced → Ascends pages → Changes pages v v'
    → HasTexts current v' → Encodes (laid pages current) v'
changed_encodes {pages = pages} {current = current} {v = v} {v' = v'} size inside rests ascends changes texts =
    laid_encodes pages current v v' (rw size inside) ascends changes texts (rests_encodes rests)
