-- A fresh spool shows no uploads.
use Rattle.std.proofs.Common.{◌≡◌, inl, inr, ℕ, ◌+◌, ◌-◌, ◌*◌, ◌<◌, ◌≤◌, [], Option, None, Some, get_or, replicate}
use Rattle.std.proofs.Common.{refl, sym, ◌∙◌, ap, subst, arith}
use Rattle.std.proofs.Math.ListN.{get_or-eq_default, length-replicate}
use Rattle.std.proofs.lemmas.List.{get_or-replicate}
use Rattle.std.proofs.lemmas.Bool.{cases_lt}
use Rattle.spool_journal.specs.declared.TheConstants.{PAGE}
use Rattle.common.specs.declared.limits.TheConstants.{LEAST_BLOCKS, MOST_BLOCKS, ROWS, SLOTS}
use Rattle.enc_model.specs.Indexes.{IndexSet}
use Rattle.enc_index.specs.Area.{area_byte}
use Rattle.enc_index.specs.Sets.{IsIndexSet}
use Rattle.spool_journal.specs.Image.{journal_pages, all_pages, byte_of, overlaid}
use Rattle.spool_journal.proofs.Gate.{shut_view}
use Rattle.upload_rules.specs.Store.{no_uploads}
use Rattle.spool_pages.specs.View.{SlotRecord, View, IsViewOf, Encodes, AreAt, slot_bytes, row_bytes, index_place}
use Rattle.spool_pages.specs.View.{state_place}
use Rattle.spool_pages.specs.declared.version.Version.TheVariants.{Two}
use Rattle.spool_pages.specs.View.{slot_place, row_place, state_page, first_page}
use Rattle.spool_catalog.specs.Shows.{IsValid, ImageShows}
use Rattle.spool_image.specs.Format.{IsNewest}
use Rattle.spool_image.specs.Fresh.{IsFresh}
use Rattle.spool_image.proofs.Fresh.{fresh_prefix, fresh_area, fresh_state, fresh_zeros}
use Rattle.spool_pages.proofs.Encodes.{some_journal, all_is, encodes_same}

abbrev nothing : (A : Type 0) → Option A
nothing A = None

none_at : {A : Type 0} (n i : ℕ) → get_or (replicate n (nothing A)) i (nothing A) ≡ nothing A
none_at {A = A} n i = elim (cases_lt i n) [
  | inl below ↦ get_or-replicate n i (nothing A) (nothing A) below
  | inr from ↦ get_or-eq_default (replicate n (nothing A)) (nothing A)
      (omega (arith, length-replicate {A = Option A} n (nothing A), from))
]

never : {A X : Type 0} {o : Option A} {a : A} → o ≡ None → o ≡ Some a → X
never none some = cc

fresh_view : ℕ → IndexSet → View
fresh_view n x = record {
  blocks = n;
  version = Two;
  next = 1;
  indexes = x;
  slots = replicate SLOTS None;
  rows = replicate n None;
  texts = λ s. [];
}

module _ (n : ℕ) (x : IndexSet) (image : ℕ → ℕ) (fresh : IsFresh n x image) where
  zeros : (place size : ℕ) → state_place n + 12 ≤ place → place + size ≤ PAGE * all_pages n → AreAt image place size []
  zeros place size from below = record {
    each = λ i lt. fresh.after.each (place + i) (omega (arith, from)) (omega (arith, below, lt))
        ∙ fresh_zeros n x (place + i) (omega (arith, from));
  }

  slot : (s : ℕ) → s < SLOTS → AreAt image (slot_place n s) 2048 []
  slot s lt = zeros (slot_place n s) 2048 (omega arith) (omega (arith, all_is n, some_journal n, lt))

  row : (b : ℕ) → b < ROWS * (journal_pages n - 257) → AreAt image (row_place n b) 8 []
  row b lt = zeros (row_place n b) 8 (omega arith) (omega (arith, all_is n, some_journal n, lt))

  row_none : (b : ℕ) → b < ROWS * (journal_pages n - 257) → AreAt image (row_place n b) 8 (row_bytes None)
  unfolding row_bytes
  row_none b lt = row b lt

  fresh_encodes : Encodes image (fresh_view n x)
  unfolding fresh_view
  fresh_encodes =
      let j = some_journal n in
      let all = all_is n in
      record {
        first = record {
          each = λ i lt.
              let at : i ≡ 0 + i = omega arith in
              subst (λ (p : ℕ). image p ≡ byte_of (first_page n) i) at (fresh.prefix i lt);
        };
        area = λ i lt.
            let at : index_place n + i - index_place n ≡ i = omega arith in
            fresh.after.each (index_place n + i) (omega arith) (omega (arith, lt, all))
            ∙ fresh_area n x (index_place n + i) (omega arith) (omega (arith, lt))
            ∙ ap (λ (p : ℕ). area_byte x p) at;
        state = record {
          each = λ i lt.
              let at : state_place n + i - state_place n ≡ i = omega arith in
              fresh.after.each (state_place n + i) (omega arith) (omega (arith, lt, all, j))
              ∙ fresh_state n x (state_place n + i) (omega arith) ∙ ap (λ (p : ℕ). byte_of (state_page Two 1) p) at;
        };
        slots = λ s lt. subst (λ (o : Option SlotRecord). AreAt image (slot_place n s) 2048 (slot_bytes Two o))
            (sym (none_at SLOTS s)) (slot s lt);
        rows = λ b lt. subst (λ (o : Option (ℕ × ℕ)). AreAt image (row_place n b) 8 (row_bytes o)) (sym (none_at n b))
            (row_none b lt);
        texts = λ s r e. never (none_at SLOTS s) e;
      }

  fresh_valid : LEAST_BLOCKS ≤ n → n ≤ MOST_BLOCKS → IsIndexSet x → IsValid (fresh_view n x)
  unfolding fresh_view
  fresh_valid least most valid = record {
    least = least;
    most = most;
    next_least = omega arith;
    next_most = omega arith;
    indexes = valid;
    slot_count = length-replicate {A = Option SlotRecord} SLOTS None;
    row_count = length-replicate {A = Option (ℕ × ℕ)} n None;
    records = λ s r e. never (none_at SLOTS s) e;
    distinct = λ s t r q e f same. never (none_at SLOTS s) e;
    owners = λ b slot ordinal e. never (none_at n b) e;
    lists = λ s r e. never (none_at SLOTS s) e;
  }

  gate_shut : image PAGE ≡ 165 → ⊥
  gate_shut ajar =
      let zero_there : image PAGE ≡ 0 =
      fresh.after.each PAGE (omega arith) (omega (arith, all_is n)) ∙ fresh_prefix n x PAGE (omega arith) in
      omega (arith, zero_there, ajar)

  fresh_is : IsViewOf image (fresh_view n x)
  unfolding fresh_view
  fresh_is = record {
    form = λ ajar. absurd (gate_shut ajar);
    encodes = encodes_same (overlaid image) image (fresh_view n x) (λ p outside. shut_view image p gate_shut)
        fresh_encodes;
  }

  pub fresh_shows : LEAST_BLOCKS ≤ n → n ≤ MOST_BLOCKS → IsIndexSet x → ImageShows n image (no_uploads x)
  unfolding fresh_view
  fresh_shows least most valid = record {
    view = fresh_view n x;
    blocks = refl;
    is = fresh_is;
    shows = record {
      valid = fresh_valid least most valid;
      next = refl;
      indexes = refl;
      rising = λ i k lt below. omega (arith, below);
      recorded = λ s r e. never (none_at SLOTS s) e;
      all = λ k u e. never refl e;
    };
  }

  -- in version 2
  pub fresh_newest : LEAST_BLOCKS ≤ n → n ≤ MOST_BLOCKS → IsIndexSet x → IsNewest image
  unfolding fresh_view
  fresh_newest least most valid =
      record { view = fresh_view n x; valid = fresh_valid least most valid; new = refl; is = fresh_is }
