-- The bytes of a spool without uploads.
use Rattle.std.proofs.Common.{◌≡◌, inl, inr, subst, ℕ, ◌+◌, ◌-◌, ◌*◌, ◌<◌, ◌≤◌, ltb, true, false, List, length, get_or}
use Rattle.std.proofs.Common.{◌∙◌, arith}
use Rattle.std.proofs.Math.ListN.{get_or-eq_default}
use Rattle.std.proofs.lemmas.Bool.{cases_lt}
use Rattle.std.proofs.lemmas.Bool.Decides.{nat_tests}
use Rattle.spool_journal.specs.declared.TheConstants.{PAGE}
use Rattle.enc_model.specs.Indexes.{IndexSet}
use Rattle.enc_index.specs.Area.{area_byte}
use Rattle.spool_disk.specs.Disk.{IsImage, Writes, Syncs}
use Rattle.spool_journal.specs.Image.{byte_of, all_pages}
use Rattle.spool_journal.specs.Phases.{Still}
use Rattle.spool_journal.proofs.Steps.{span_at}
use Rattle.spool_pages.specs.declared.version.Version.TheVariants.{Two}
use Rattle.spool_pages.specs.View.{index_place, state_place, first_page, state_page}
use Rattle.spool_load.proofs.Looks.{length-state}
use Rattle.spool_image.specs.Fresh.{fresh_byte, IsFreshTo, IsFresh}

yes : (a b : ℕ) → a < b → ltb a b ≡ true
yes a b h = grind (arith, nat_tests)

no : (a b : ℕ) → b ≤ a → ltb a b ≡ false
no a b h = grind (arith, nat_tests)

module _ (n : ℕ) (x : IndexSet) (p : ℕ) where
  pub fresh_prefix : p < index_place n → fresh_byte n x p ≡ 0
  unfolding fresh_byte
  fresh_prefix below = rw (yes p (index_place n) below)

  pub fresh_area : index_place n ≤ p → p < state_place n → fresh_byte n x p ≡ area_byte x (p - index_place n)
  unfolding fresh_byte
  fresh_area from below = rw (no p (index_place n) from, yes p (state_place n) below)

  pub fresh_state : state_place n ≤ p → fresh_byte n x p ≡ byte_of (state_page Two 1) (p - state_place n)
  unfolding fresh_byte
  fresh_state from =
      let far : index_place n ≤ p = omega (arith, from) in
      rw (no p (index_place n) far, no p (state_place n) from)

-- after the state page are zeros
pub fresh_zeros : (n : ℕ) (x : IndexSet) (p : ℕ) → state_place n + 12 ≤ p → fresh_byte n x p ≡ 0
fresh_zeros n x p from =
    fresh_state n x p (omega (arith, from))
    ∙ get_or-eq_default (state_page Two 1) 0 (omega (arith, length-state Two 1, from))

-- a page more
pub fresh_more : {current current' : ℕ → ℕ} {unsynced unsynced' : ℕ
    → Type 0} {done : Type 0} (n : ℕ) (x : IndexSet) (page : ℕ)
    (bytes : List ℕ) → IsFreshTo n x (PAGE * page) current
    → Writes (PAGE * page) bytes done current current' unsynced unsynced' → done
    → length bytes ≡ PAGE → ((i : ℕ) → i < PAGE → get_or bytes i 0 ≡ fresh_byte n x (PAGE * page + i))
    → IsFreshTo n x (PAGE * (page + 1)) current'
fresh_more {current = current} {current' = current'} n x page bytes was writes done long here = record {
  each = λ p from below. elim (cases_lt p (PAGE * page)) [
    | inl before ↦ writes.outside p (λ within. omega (arith, within.from, before)) ∙ was.each p from before
    | inr after ↦
        let at : PAGE * page + (p - PAGE * page) ≡ p = omega (arith, after) in
        let there : current' (PAGE * page + (p - PAGE * page)) ≡ get_or bytes (p - PAGE * page) 0 =
        span_at current' (PAGE * page) bytes (p - PAGE * page) (writes.inside done)
        (omega (arith, long, below, after)) in
        let is = here (p - PAGE * page) (omega (arith, below, after)) in
        subst (λ (q : ℕ). current' q ≡ fresh_byte n x q) at (there ∙ is)
  ];
}

-- after a sync that succeeded the bytes are the same, and none is unsynced
pub synced_still : {a b : ℕ → ℕ} {la lb : ℕ → Type 0} {synced : Type 0} → Syncs synced a b la lb → synced
    → Still a b lb
synced_still syncs done = record { reads = syncs.same done; is_synced = syncs.is_synced done }

-- the first page before them
pub fresh_all : {a b c d : ℕ → ℕ} {lb lc ld : ℕ → Type 0} {done : Type 0} (n : ℕ) (x : IndexSet) (bytes : List ℕ)
    → Still a b lb → Writes 0 bytes done b c lb lc → done → Still c d ld → length bytes ≡ PAGE
    → ((i : ℕ) → get_or bytes i 0 ≡ get_or (first_page n) i 0) → IsFreshTo n x (PAGE * all_pages n) a → IsFresh n x d
fresh_all {c = c} n x bytes first writes two second long is was = record {
  prefix = λ i lt.
      let at : 0 + i ≡ i = omega arith in
      let there : c i ≡ get_or bytes i 0 =
      subst (λ (q : ℕ). c q ≡ get_or bytes i 0) at
      (span_at c 0 bytes i (writes.inside two) (omega (arith, long, lt))) in
      second.reads i ∙ there ∙ is i;
  after = record {
    each = λ p from below. second.reads p ∙ writes.outside p (λ within. omega (arith, within.below, from, long))
        ∙ first.reads p ∙ was.each p from below;
  };
}

-- an image where nothing is unsynced
pub fresh_on : {n : ℕ} {x : IndexSet} {current image : ℕ → ℕ} {unsynced : ℕ → Type 0} → IsImage current unsynced image
    → ((p : ℕ) → unsynced p → ⊥) → IsFresh n x current → IsFresh n x image
fresh_on is is_synced fresh = record {
  prefix = λ i lt. is.same i (is_synced i) ∙ fresh.prefix i lt;
  after = record { each = λ p from below. is.same p (is_synced p) ∙ fresh.after.each p from below };
}
