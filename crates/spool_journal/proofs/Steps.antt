-- Steps of the phases.
use Rattle.std.proofs.Common.{◌≡◌, ℕ, zero, suc, ◌+◌, ◌*◌, ◌<◌, ◌≤◌, List, [], ◌∷◌, length, get_or, refl, sym}
use Rattle.std.proofs.Common.{◌∙◌, arith, ⊎_elim, Result, Ok, Err, OnOk}
use Rattle.std.proofs.lemmas.Bool.{cases_lt}
use Rattle.spool_journal.specs.declared.TheConstants.{PAGE}
use Rattle.spool_disk.specs.Disk.{In, span, IsImage, Writes, Syncs, Counts}
use Rattle.spool_journal.specs.Image.{word, byte_of, count, journal_number, InMeta, InJournal, Outside, InForm, InArea}
use Rattle.spool_journal.specs.Image.{Ascends, page_number, page_byte}
use Rattle.spool_journal.specs.Phases.{IsBefore, Idle, Staging, Copied, Ready}

-- the bytes of a span by index
pub span_at : (f : ℕ → ℕ) (at : ℕ) (xs : List ℕ) (k : ℕ) → span f at (length xs) ≡ xs → k < length xs
    → f (at + k) ≡ get_or xs k 0
unfolding span
span_at f at [] k e lt = omega (arith, lt)
span_at f at (x ∷ xs) zero e lt = grind arith
span_at f at (x ∷ xs) (suc k) e lt = grind (arith, span_at f (at + 1) xs k)

-- the same four bytes, the same number
pub word_same : (f g : ℕ → ℕ) (a b : ℕ) → ((i : ℕ) → i < 4 → f (a + i) ≡ g (b + i)) → word f a ≡ word g b
unfolding word
word_same f g a b same = grind (arith, same 0, same 1, same 2, same 3)

-- a place outside is not in the journal
pub outside_journal : (j p : ℕ) → Outside j p → InJournal j p → ⊥
outside_journal j p outside within = grind arith

module _ {was current : ℕ → ℕ} {risk unsynced : ℕ → Type 0} {j : ℕ} where
  pub staged_before : {image : ℕ → ℕ} → Idle j was risk → Staging j was risk current unsynced
      → IsImage current unsynced image
      → IsBefore j was risk image
  staged_before idle staging is =
      let gate : InJournal j PAGE → ⊥ = λ within. omega (arith, within.from) in
      record {
        closed = λ opened. idle.closed
            (sym (is.same PAGE (λ l. idle.gate (staging.is_synced PAGE gate l)) ∙ staging.same PAGE gate) ∙ opened);
        same = λ p outside is_synced. let away =
            outside_journal j p outside in
            is.same p (λ l. is_synced (staging.is_synced p away l)) ∙ staging.same p away;
      }

  pub idle_on : Idle j was risk → Staging j was risk current unsynced → Idle j current unsynced
  idle_on idle staging =
      let gate : InJournal j PAGE → ⊥ = λ within. omega (arith, within.from) in
      record {
        gate = λ l. idle.gate (staging.is_synced PAGE gate l);
        closed = λ opened. idle.closed (sym (staging.same PAGE gate) ∙ opened);
        area = λ p within l. idle.area p within
            (staging.is_synced p (λ in_journal. omega (arith, within.from, in_journal.below)) l);
      }

  pub staging_writes : {current' : ℕ → ℕ} {unsynced' : ℕ → Type 0} {at : ℕ} {bytes : List ℕ} {done : Type 0}
      → Staging j was risk current unsynced → Writes at bytes done current current' unsynced unsynced' → 8192 ≤ at
      → at + length bytes ≤ PAGE * (3 + j) → Staging j was risk current' unsynced'
  staging_writes {at = at} {bytes = bytes} staging writes from below = record {
    same = λ p away. writes.outside p (λ here. away (inside p here)) ∙ staging.same p away;
    is_synced = λ p away l. ⊎_elim (staging.is_synced p away) (λ here. absurd (away (inside p here)))
        (writes.unsyncs p l);
  }
    where
      inside : (p : ℕ) → In at (length bytes) p → InJournal j p
      inside p here = grind arith

pub staging_syncs : {was current current' : ℕ → ℕ} {risk unsynced unsynced' : ℕ → Type 0} {j : ℕ} {done : Type 0}
    → Staging j was risk current unsynced → Syncs done current current' unsynced unsynced' → done
    → Staging j was risk current' unsynced'
staging_syncs staging syncs done = record {
  same = λ p away. syncs.same done p ∙ staging.same p away;
  is_synced = λ p away l. absurd (syncs.is_synced done p l);
}

-- an image of a sync is one from before it
pub sync_image : {current current' image : ℕ → ℕ} {unsynced unsynced' : ℕ → Type 0} {done : Type 0}
    → Syncs done current current' unsynced unsynced' → IsImage current' unsynced' image → IsImage current unsynced image
sync_image syncs is = record {
  same = λ p is_synced. is.same p (λ l. is_synced (syncs.unsyncs p l)) ∙ syncs.outside p is_synced;
}

pub staging_start : {was : ℕ → ℕ} {risk : ℕ → Type 0} {j : ℕ} → Staging j was risk was risk
staging_start = record { same = λ p away. refl; is_synced = λ p away l. l }

pub before_on : {was mid image : ℕ → ℕ} {risk between : ℕ → Type 0} {j : ℕ} → Staging j was risk mid between
    → IsBefore j mid between image → IsBefore j was risk image
before_on {j = j} a b = record {
  closed = b.closed;
  same = λ p outside is_synced. let away =
      outside_journal j p outside in b.same p outside (λ l. is_synced (a.is_synced p away l)) ∙ a.same p away;
}

-- one page more in the journal
pub copied_more : {current current' : ℕ → ℕ} {unsynced unsynced' : ℕ
    → Type 0} {done : Type 0} (pages : List (ℕ × List ℕ)) (n : ℕ)
    (bytes : List ℕ) → Copied pages current n
    → Writes (PAGE * (3 + n)) bytes done current current' unsynced unsynced' → done
    → length bytes ≡ PAGE → ((x : ℕ) → page_byte pages n x ≡ get_or bytes x 0) → Copied pages current' (n + 1)
copied_more {current' = current'} pages n bytes copied writes done size same k x lt below = ⊎_elim
    (λ (before : k < n). writes.outside (PAGE * (3 + k) + x) (λ here. omega (arith, here.from, before, below))
    ∙ copied k x before below)
    (λ (from : n ≤ k).
    let e : k ≡ n = omega (arith, lt, from) in
    rw e (span_at current' (PAGE * (3 + n)) bytes x (writes.inside done) (omega (arith, below, size)) ∙ sym (same x)))
    (cases_lt k n)

-- a call that did not fail
pub no_failure : {F : Type 0} {a b : ℕ} → Counts F a b → (F → ⊥) → b ≡ a
no_failure {a = a} {b = b} counts not = grind (arith, cases_lt a b, counts.nothing_else, counts.later)

-- what was written and synced, by index
pub head_at : {current mid current' : ℕ → ℕ} {unsynced between unsynced' : ℕ → Type 0} {wrote synced : Type 0} (at : ℕ)
    (bytes : List ℕ) → length bytes ≡ PAGE → Writes at bytes wrote current mid unsynced between → wrote
    → Syncs synced mid current' between unsynced' → synced → (i : ℕ) → i < PAGE → current' (at + i) ≡ byte_of bytes i
head_at {mid = mid} at bytes size writes wrote syncs synced i lt =
    syncs.same synced (at + i) ∙ span_at mid at bytes i (writes.inside wrote) (omega (arith, lt, size))

-- the numbers of n ascending pages of an area
pub ascends_from : (j : ℕ) (numbers : ℕ → ℕ) (n : ℕ) → ((k : ℕ) → k < n → InMeta j (numbers k))
    → ((k : ℕ) → k + 1 < n → numbers k < numbers (k + 1)) → (k : ℕ) → k < n → 25 + j + k ≤ numbers k
ascends_from j numbers n inside ascends zero lt = grind (arith, inside 0)
ascends_from j numbers n inside ascends (suc k) lt =
    grind (arith, ascends k, ascends_from j numbers n inside ascends k)

-- so they are no more than its pages
pub few_pages : (j : ℕ) (pages : List (ℕ × List ℕ)) → InArea j pages → Ascends pages → length pages ≤ j
few_pages j pages inside ascends = few (length pages) (page_number pages) inside ascends
  where
    few : (n : ℕ) (numbers : ℕ → ℕ) → ((k : ℕ) → k < n → InMeta j (numbers k))
        → ((k : ℕ) → k + 1 < n → numbers k < numbers (k + 1)) → n ≤ j
    few zero numbers inside ascends = omega arith
    few (suc n) numbers inside ascends =
        grind (arith, inside n, ascends_from j numbers (suc n) inside ascends n)

pub form_same : (j n n' : ℕ) (num num' : ℕ → ℕ) → n ≡ n' → ((k : ℕ) → k < n → num k ≡ num' k) → InForm j n num
    → InForm j n' num'
form_same j n n' num num' e same form = record {
  some = omega (arith, e, form.some);
  few = omega (arith, e, form.few);
  inside = λ k lt. rw (same k (omega (arith, e, lt))) at (form.inside k (omega (arith, e, lt)));
  ascends = λ k lt. grind (arith, form.ascends k, same k, same (k + 1));
}

-- the journal is written whole
pub ready : {was mid current : ℕ → ℕ} {risk between unsynced : ℕ
    → Type 0} {j : ℕ} (pages : List (ℕ × List ℕ)) (head : List ℕ)
    → 1 ≤ length pages → length pages ≤ 385 → length pages ≤ j → InArea j pages → Ascends pages
    → Staging j was risk mid between → Copied pages mid (length pages) → word (byte_of head) 0 ≡ length pages
    → ((k : ℕ) → k < length pages → word (byte_of head) (4 + 4 * k) ≡ page_number pages k)
    → Staging j mid between current unsynced → ((i : ℕ) → i < PAGE → current (8192 + i) ≡ byte_of head i)
    → ((p : ℕ) → 12288 ≤ p → current p ≡ mid p) → ((p : ℕ) → unsynced p → ⊥) → Ready j pages was current unsynced
ready {current = current} {j = j} pages head some few fits inside ascends a copied counted numbered b here unchanged
    is_synced =
    record {
      is_synced = is_synced;
      same = λ p away. b.same p away ∙ a.same p away;
      matches = record {
        size = size;
        numbers = numbers;
        contents = λ k x lt below. unchanged _ (omega arith) ∙ copied k x lt below;
      };
      form = form_same j (length pages) (count current) (page_number pages) (journal_number current) (sym size)
          (λ k lt. sym (numbers k lt)) assumption;
    }
  where
    size : count current ≡ length pages
    size = word_same current (byte_of head) 8192 0 (λ i lt. grind (arith, here i)) ∙ counted

    numbers : (k : ℕ) → k < length pages → journal_number current k ≡ page_number pages k
    numbers k lt = word_same current (byte_of head) (8196 + 4 * k) (4 + 4 * k)
        (λ i below. grind (arith, here (4 + 4 * k + i))) ∙ numbered k lt

pub ready_ok : {T E A B C F X : Type 0} (r : Result T E) → OnOk r A → OnOk r B → OnOk r C → OnOk r F
    → (A → B → C → F → X) → OnOk r X
ready_ok (Ok t) a b c f more = more a b c f
ready_ok (Err e) a b c f more = tt
