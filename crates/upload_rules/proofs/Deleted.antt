-- A table without one of its uploads.
use Rattle.std.proofs.Common.{◌≡◌, ℕ, zero, suc, ◌+◌, ◌<◌, List, [], ◌∷◌, length, get_or, slice_index, Some}
use Rattle.std.proofs.Common.{None, refl, sym, ◌∙◌, ap, arith, inl, inr, eq-eqb, Vec, Global}
use Rattle.std.specs.List.{remove}
use Rattle.std.proofs.lemmas.Bool.{cases_eq, cases_lt, ne_eqb}
use Rattle.std.proofs.lemmas.List.Edits.{length-remove, get_or-remove_above, get_or-remove_below}
use Rattle.enc_model.specs.Indexes.{IndexSet}
use Rattle.upload_rules.specs.declared.slot.Slot.{Slot}
use Rattle.upload_rules.specs.declared.table.Table.{Table}
use Rattle.upload_rules.specs.declared.errors.UploadRefusal.TheVariants as refusals
use Rattle.upload_rules.specs.Store.{Upload, find, others}
use Rattle.upload_rules.specs.World.{World}
use Rattle.upload_rules.specs.Calls.{terminated, terminate_refusal}
use Rattle.upload_rules.specs.Reading.{no_such}
use Rattle.upload_rules.specs.Grown.{IsGrown}
use Rattle.upload_rules.specs.Slots.{numbers, IsRising, IsBelow, IsFirstAt, IsNowhere, AllRepresent}
use Rattle.upload_rules.specs.Table.{TableRepresents}
use Rattle.upload_rules.proofs.Lookups.{no_upload, upload_at}
use Rattle.std.proofs.lemmas.Bool.Decides.{nat_tests}
use Rattle.upload_rules.proofs.RecordOfUpload.{counts}
use Rattle.upload_rules.proofs.Places.{count_of}

-- ENTRIES

module _ {A : Type 0} where
  pub none_in_others : (n : ℕ) (xs : List (ℕ × A)) → find n (others n xs) ≡ None
  none_in_others n [] = refl
  none_in_others n (x ∷ xs) = let ih = none_in_others n xs in grind (arith, nat_tests)

  pub find_in_others : (n m : ℕ) (xs : List (ℕ × A)) → (n ≡ m → ⊥) → find m (others n xs) ≡ find m xs
  find_in_others n m [] ne = refl
  find_in_others n m (x ∷ xs) ne = let ih = find_in_others n m xs ne in grind (arith, nat_tests)

-- PLACES

numbers_removed : (ss : List Slot) (i : ℕ) → numbers (remove ss i) ≡ remove (numbers ss) i
numbers_removed [] zero = refl
numbers_removed [] (suc i) = refl
numbers_removed (s ∷ ss) zero = refl
numbers_removed (s ∷ ss) (suc i) = ap (λ ns. s.record.number ∷ ns) (numbers_removed ss i)

-- an element of a list without its i-th was at its place or one further
module _ (ns : List ℕ) (i : ℕ) (lt : i < length ns) where
  rising_removed : IsRising ns → IsRising (remove ns i)
  rising_removed rising a b less inside =
      let long = length-remove ns i lt in
      grind (
        arith,
        get_or-remove_above ns i 0,
        get_or-remove_below ns i 0,
        cases_lt a i,
        cases_lt b i,
        rising a b,
        rising a (b + 1),
        rising (a + 1) (b + 1),
      )

  below_removed : (top : ℕ) → IsBelow ns top → IsBelow (remove ns i) top
  below_removed top below k inside =
      let long = length-remove ns i lt in
      grind (arith, get_or-remove_above ns i 0 k, get_or-remove_below ns i 0 k, cases_lt k i, below k, below (k + 1))

-- THE SLOTS

module _ (x : IndexSet) where
  none_of : (n : ℕ) (us : List (ℕ × Upload)) (ss : List Slot) → AllRepresent x us ss → IsNowhere (numbers ss) n
      → others n us ≡ us
  none_of n [] ss all other = refl
  none_of n (u ∷ us) [] all other = absurd all
  none_of n (u ∷ us) (t ∷ ss) all other =
      let ih = none_of n us ss all.1 (λ k l e. other (suc k) (omega arith) e) in
      grind (arith, nat_tests, all.0.represents.number_is, other 0)

  removed : (n : ℕ) (us : List (ℕ × Upload)) (ss : List Slot) (place : ℕ) → AllRepresent x us ss → place < length ss
      → slice_index (numbers ss) place ≡ n → IsRising (numbers ss) → AllRepresent x (others n us) (remove ss place)
  removed n [] ss place all lt here rising = absurd (let c = counts x [] ss all in omega arith)
  removed n (u ∷ us) [] place all lt here rising = absurd all
  removed n (u ∷ us) (t ∷ ss) zero all lt here rising =
      let e : u.0 ≡ n = sym all.0.represents.number_is ∙ here in
      let greater : IsNowhere (numbers ss) n =
      λ k l same. (let r = rising 0 (suc k) (omega arith) (omega arith) in omega (arith, r, same, here)) in
      rw (eq-eqb u.0 n e, none_of n us ss all.1 greater) all.1
  removed n (u ∷ us) (t ∷ ss) (suc place) all lt here rising =
      let less = rising 0 (suc place) (omega arith) (let c = count_of (t ∷ ss) in omega (arith, c, lt)) in
      let ne : u.0 ≡ n → ⊥ = λ e. (let f = all.0.represents.number_is in omega (arith, e, f, less, here)) in
      rw (ne_eqb u.0 n ne) (
        all.0,
        removed n us ss place all.1 (omega arith) here
            (λ i j l inside. rising (suc i) (suc j) (omega arith) (omega arith)),
      )

-- WORLDS

grown_deleted : (w : World) (n : ℕ) → IsGrown w → IsGrown (terminated w n)
grown_deleted w n grown = record {
  each = λ d p found. elim (cases_eq n p.number) [
    | inl same ↦ rw (sym same, none_in_others n w.store.uploads) tt
    | inr other ↦ rw (find_in_others n p.number w.store.uploads other) (grown.each d p found)
  ];
}

module _ (t : Table) (w : World) (represents : TableRepresents t w) (n : ℕ) where
  pub not_there : IsNowhere (numbers t.slots.items) n → terminate_refusal w n ≡ Some refusals.NoSuch
  not_there other = ap no_such (no_upload t w represents n other)

  pub deletes : (place : ℕ) (slots : Vec Slot Global) → IsFirstAt (numbers t.slots.items) n place
      → slots.items ≡ remove t.slots.items place
      → TableRepresents (record t { slots = slots }) (terminated w n)
  deletes place slots first is =
      let lt : place < length t.slots.items = let l = first.within in omega (arith, l, count_of t.slots.items) in
      let same : numbers slots.items ≡ remove (numbers t.slots.items) place =
      ap numbers is ∙ numbers_removed t.slots.items place in
      let slots' : AllRepresent w.store.indexes (others n w.store.uploads) slots.items =
      rw is (removed w.store.indexes n w.store.uploads t.slots.items place represents.slots lt first.here
      represents.rising) in
      let rising : IsRising (numbers slots.items) =
      rw same (rising_removed (numbers t.slots.items) place first.within represents.rising) in
      let below : IsBelow (numbers slots.items) w.store.next =
      rw same (below_removed (numbers t.slots.items) place first.within w.store.next represents.below) in
      assumption (grown_deleted w n represents.grown)

  pub there : (place : ℕ) (s : Slot) → IsFirstAt (numbers t.slots.items) n place → s ≡ get_or t.slots.items place s
      → terminate_refusal w n ≡ None
  there place s first is = ap no_such (upload_at t w represents n place s first is).1
