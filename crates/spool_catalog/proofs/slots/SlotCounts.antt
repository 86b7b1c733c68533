-- As many uploads as slots in use.
use Rattle.std.proofs.lemmas.Grind.{common_steps}
use Rattle.std.proofs.Common.{◌≡◌, inl, inr, ℕ, zero, suc, ◌<◌, ◌≤◌, ◌==◌, if◌then◌else◌, List, Option, None, Some}
use Rattle.std.proofs.Common.{IsSome, IfSome, MatchOption, ◌⊎◌, ◌^◌, length, get_or, slice_index, refl, sym, ◌∙◌, ap}
use Rattle.std.proofs.Common.{arith}
use Rattle.std.proofs.lemmas.Bool.{cases_eq}
use Rattle.common.specs.declared.limits.TheConstants.{SLOTS}
use Rattle.upload_rules.specs.Store.{Store}
use Rattle.spool_pages.specs.View.{SlotRecord, View}
use Rattle.spool_catalog.specs.declared.order.NumberedSlot.{NumberedSlot}
use Rattle.spool_catalog.specs.Holding.{Holding, FitsTogether, IsListedAt, Orders, numbered, number_at}
use Rattle.spool_catalog.specs.TakenIn.{HasRoomAt}
use Rattle.spool_catalog.specs.Catalog.{HasView}
use Rattle.spool_catalog.specs.Shows.{Shows}
use Rattle.spool_catalog.proofs.Answered.{listed}
use Rattle.spool_catalog.proofs.numbers.Entries.{length-numbers, number_found}
use Rattle.spool_catalog.proofs.numbers.Numbered.{numbers, found_at}
use Rattle.spool_catalog.proofs.numbers.Ordered.{one_place}

-- each of n has one of k, and no two have the same
pub pigeons : (n k : ℕ) (P : ℕ → ℕ → Type 0) → ((i : ℕ) → i < n → (j : ℕ) × (j < k) × P i j)
    → ((a b j : ℕ) → P a j → P b j → a ≡ b) → n ≤ k
pigeons zero k P there one = omega arith
pigeons (suc n) zero P there one = let last = there n (omega arith) in let lt = last.1 in absurd (omega (arith, lt))
pigeons (suc n) (suc k) P there one =
    let last = there n (omega arith) in
    let Q : ℕ → ℕ → Type 0 = λ i j. P i (if j == last.0 then k else j) in
    let rest = pigeons n k Q (λ i lt.
    let own = there i (omega (arith, lt)) in
    let below = own.1 in
    let top = last.1 in
    let differs : own.0 ≡ last.0 → ⊥ = search (arith, common_steps) in
    elim (cases_eq own.0 k) [
      | inl same ↦ search (arith, common_steps)
      | inr other ↦ search (arith, common_steps)
    ]) (λ a b j p q. one a b (if j == last.0 then k else j) p q) in
    omega (arith, rest)

-- where no slot is free there are 512 in the order
pub all_listed : (slots : List (Option SlotRecord)) (order : List NumberedSlot) → Orders slots order SLOTS
    → ((s : ℕ) → s < SLOTS → IsSome (get_or slots s None)) → SLOTS ≤ length order
all_listed slots order orders full = pigeons SLOTS (length order) (λ s i. (get_or order i (numbered 0 0)).slot ≡ s)
    (λ s lt. at s lt (get_or slots s None) refl (full s lt)) (λ a b j p q. sym p ∙ q)
  where
    at : (s : ℕ) → s < SLOTS → (o : Option SlotRecord) → get_or slots s None ≡ o → IsSome o
        → (i : ℕ) × (i < length order) × ((get_or order i (numbered 0 0)).slot ≡ s)
    at s lt None e some = absurd cc
    at s lt (Some r) e some = let l = orders.all s r lt e in
        (l.place, l.below, ap (λ (p : NumberedSlot). p.slot) l.here)

module _ {h : Holding} {v : View} {m : Store} (catalog : HasView h v) (shows : Shows v m) where
  pub not_more : length h.order ≤ length m.uploads
  not_more = rw (length-numbers m.uploads) at (pigeons (length h.order) (length (numbers m.uploads))
      (λ i j. (i < length h.order) × (slice_index (numbers m.uploads) j ≡ number_at h.order i)) (λ i lt. at i lt) one)
    where
      at : (i : ℕ) → i < length h.order → (j : ℕ) × (j < length (numbers m.uploads))
          × ((i < length h.order) × (slice_index (numbers m.uploads) j ≡ number_at h.order i))
      at i lt =
          let l : IsListedAt h.order (get_or h.order i (numbered 0 0)).number (get_or h.order i (numbered 0 0)).slot =
          record { place = i; below = lt; here = refl } in
          let used = catalog.ordered.names (get_or h.order i (numbered 0 0)).number
          (get_or h.order i (numbered 0 0)).slot l in
          let recorded = shows.recorded (get_or h.order i (numbered 0 0)).slot used.used used.there in
          let place = found_at m.uploads used.used.number recorded.upload recorded.there in
          (place.0, place.1, (lt, place.2 ∙ used.is))

      one : (a b j : ℕ) → (a < length h.order) × (slice_index (numbers m.uploads) j ≡ number_at h.order a)
          → (b < length h.order) × (slice_index (numbers m.uploads) j ≡ number_at h.order b) → a ≡ b
      one a b j p q = one_place (number_at h.order) (length h.order) catalog.ordered.rises a b p.0 q.0 (sym p.1 ∙ q.1)

  pub not_fewer : length m.uploads ≤ length h.order
  not_fewer = rw (length-numbers m.uploads) at (pigeons (length (numbers m.uploads)) (length h.order) (λ i j. (i <
      length (numbers m.uploads)) × (number_at h.order j ≡ slice_index (numbers m.uploads) i)) (λ i lt. at i lt) one)
    where
      at : (i : ℕ) → i < length (numbers m.uploads) → (j : ℕ) × (j < length h.order)
          × ((i < length (numbers m.uploads)) × (number_at h.order j ≡ slice_index (numbers m.uploads) i))
      at i lt =
          let found = number_found m.uploads i (omega (arith, lt, length-numbers m.uploads)) in
          let place = listed catalog shows (slice_index (numbers m.uploads) i) found.0 found.1 in
          (place.0, place.1, (lt, place.2))

      one : (a b j : ℕ) → (a < length (numbers m.uploads)) × (number_at h.order j ≡ slice_index (numbers m.uploads) a)
          → (b < length (numbers m.uploads)) × (number_at h.order j ≡ slice_index (numbers m.uploads) b) → a ≡ b
      one a b j p q = one_place (slice_index (numbers m.uploads)) (length (numbers m.uploads)) shows.rising a b p.0 q.0
          (sym p.1 ∙ q.1)

-- A SLOT FOR A NEW UPLOAD

pub room_at : (h : Holding) (slots : List (Option SlotRecord)) → FitsTogether h → slots ≡ h.slots → h.next < 10 ^ 18
    → (X : Type 0) (o : Option ℕ)
    → MatchOption o X (λ s. (s < SLOTS) × (get_or slots s None ≡ None)) → IfSome o (HasRoomAt h)
room_at h slots fits same next X None e = tt
room_at h slots fits same next X (Some s) e = record {
  within = e.0;
  free = ap (λ (xs : List (Option SlotRecord)). get_or xs s None) (sym same) ∙ e.1;
  next = next;
}

module _ (h : Holding) (slots : List (Option SlotRecord)) (fits : FitsTogether h) (same : slots ≡ h.slots)
    (room : length h.order < SLOTS) where
  pub few_at : {v : View} {m : Store} → HasView h v → Shows v m → (P : ℕ → Type 0) (o : Option ℕ)
      → MatchOption o ((s : ℕ) → s < SLOTS → IsSome (get_or slots s None)) P
      → MatchOption o ((SLOTS ≤ length m.uploads) ⊎ (10 ^ 18 ≤ m.next)) (λ s. length m.uploads < SLOTS)
  few_at catalog shows P None all =
      let full = all_listed h.slots h.order fits.ordered (λ s lt. rw same at (all s lt)) in
      absurd (omega (arith, full, room))
  few_at catalog shows P (Some s) e = let le = not_fewer catalog shows in omega (arith, le, room)
