-- The slots of a table and the uploads that they represent, place by place.
use Rattle.std.proofs.Common.{◌≡◌, ℕ, zero, suc, ◌<◌, ◌≤◌, List, [], ◌∷◌, ◌++◌, length, get_or, slice_index, Some, None}
use Rattle.std.proofs.Common.{refl, sym, ◌∙◌, arith, set, eq-eqb}
use Rattle.std.proofs.lemmas.Bool.{ne_eqb, lt-ltb, le-ltb}
use Rattle.std.proofs.lemmas.Bool.Decides.{nat_tests}
use Rattle.enc_model.specs.Indexes.{IndexSet}
use Rattle.upload_rules.specs.declared.slot.Slot.{Slot}
use Rattle.upload_rules.specs.Store.{Upload, find, replaced}
use Rattle.upload_rules.specs.Records.{above}
use Rattle.upload_rules.specs.Slots.{numbers, SlotRepresents, AllRepresent, IsNowhere}
use Rattle.upload_rules.proofs.Finds.{AllBelow}

module _ (x : IndexSet) where
  pub counts : (us : List (ℕ × Upload)) (ss : List Slot) → AllRepresent x us ss → length us ≡ length ss
  counts [] [] all = refl
  counts [] (s ∷ ss) all = absurd all
  counts (u ∷ us) [] all = absurd all
  counts (u ∷ us) (s ∷ ss) all = let h = counts us ss all.1 in omega (arith, h)

  -- the upload of the slot at the number's place
  pub found : (n : ℕ) (us : List (ℕ × Upload)) (ss : List Slot) (place : ℕ) (s : Slot) → AllRepresent x us ss
      → place < length ss
      → slice_index (numbers ss) place ≡ n → ((k : ℕ) → k < place → slice_index (numbers ss) k ≡ n → ⊥)
      → s ≡ get_or ss place s
      → (u : Upload) × (find n us ≡ Some u) × SlotRepresents x n u s
  found n [] ss place s all lt here before is = absurd (let c = counts [] ss all in omega arith)
  found n (u ∷ us) [] place s all lt here before is = absurd all
  found n (u ∷ us) (t ∷ ss) zero s all lt here before is =
      let e : u.0 ≡ n = sym all.0.represents.number_is ∙ here in
      (u.1, rw (eq-eqb u.0 n e) refl, rw (is, sym e) all.0)
  found n (u ∷ us) (t ∷ ss) (suc place) s all lt here before is =
      let ne : u.0 ≡ n → ⊥ = λ e. before 0 (omega arith) (all.0.represents.number_is ∙ e) in
      let rest = found n us ss place s all.1 (omega arith) here (λ k l e. before (suc k) (omega arith) e) is in
      (rest.0, rw (ne_eqb u.0 n ne) rest.1, rest.2)

  pub none_found : (n : ℕ) (us : List (ℕ × Upload)) (ss : List Slot) → AllRepresent x us ss → IsNowhere (numbers ss) n
      → find n us ≡ None
  none_found n [] ss all other = refl
  none_found n (u ∷ us) [] all other = absurd all
  none_found n (u ∷ us) (t ∷ ss) all other =
      let ih = none_found n us ss all.1 (λ k l e. other (suc k) (omega arith) e) in
      grind (arith, nat_tests, all.0.represents.number_is, other 0)

  -- another slot for the upload at the number's place
  pub put : (n : ℕ) (us : List (ℕ × Upload)) (ss : List Slot) (place : ℕ) (u' : Upload) (s' : Slot)
      → AllRepresent x us ss
      → place < length ss
      → slice_index (numbers ss) place ≡ n → ((k : ℕ) → k < place → slice_index (numbers ss) k ≡ n → ⊥)
      → SlotRepresents x n u' s'
      → AllRepresent x (replaced n u' us) (set ss place s')
  put n [] ss place u' s' all lt here before new = absurd (let c = counts [] ss all in omega arith)
  put n (u ∷ us) [] place u' s' all lt here before new = absurd all
  put n (u ∷ us) (t ∷ ss) zero u' s' all lt here before new =
      let e : u.0 ≡ n = sym all.0.represents.number_is ∙ here in
      rw (eq-eqb u.0 n e) (new, all.1)
  put n (u ∷ us) (t ∷ ss) (suc place) u' s' all lt here before new =
      let ne : u.0 ≡ n → ⊥ = λ e. before 0 (omega arith) (all.0.represents.number_is ∙ e) in
      rw (ne_eqb u.0 n ne) (
        all.0,
        put n us ss place u' s' all.1 (omega arith) here
            (λ k l e. before (suc k) (omega arith) e) new,
      )

  pub push : (n : ℕ) (u : Upload) (s : Slot) (us : List (ℕ × Upload)) (ss : List Slot) → AllRepresent x us ss
      → SlotRepresents x n u s
      → AllRepresent x (us ++ (n, u) ∷ []) (ss ++ s ∷ [])
  push n u s [] [] all new = (new, tt)
  push n u s [] (t ∷ ss) all new = absurd all
  push n u s (v ∷ us) [] all new = absurd all
  push n u s (v ∷ us) (t ∷ ss) all new = (all.0, push n u s us ss all.1 new)

  -- the upload of the least number above n
  pub next_found : (n : ℕ) (us : List (ℕ × Upload)) (ss : List Slot) (place : ℕ) (s : Slot) → AllRepresent x us ss
      → place < length ss
      → ((k : ℕ) → k < place → slice_index (numbers ss) k ≤ n) → n < slice_index (numbers ss) place
      → s ≡ get_or ss place s
      → (u : ℕ × Upload) × (above n us ≡ Some u) × SlotRepresents x u.0 u.1 s
  next_found n [] ss place s all lt before here is = absurd (let c = counts [] ss all in omega arith)
  next_found n (u ∷ us) [] place s all lt before here is = absurd all
  next_found n (u ∷ us) (t ∷ ss) zero s all lt before here is =
      let number : t.record.number ≡ u.0 = all.0.represents.number_is in
      let l : n < u.0 = omega (arith, number, here) in
      (u, rw (lt-ltb n u.0 l) refl, rw is all.0)
  next_found n (u ∷ us) (t ∷ ss) (suc place) s all lt before here is =
      let number : t.record.number ≡ u.0 = all.0.represents.number_is in
      let first = before 0 (omega arith) in
      let l : u.0 ≤ n = omega (arith, number, first) in
      let rest = next_found n us ss place s all.1 (omega arith) (λ k b. before (suc k) (omega arith)) here is in
      (rest.0, rw (le-ltb n u.0 l) rest.1, rest.2)

  pub no_next : (n : ℕ) (us : List (ℕ × Upload)) (ss : List Slot) → AllRepresent x us ss
      → ((k : ℕ) → k < length ss → slice_index (numbers ss) k ≤ n) → above n us ≡ None
  no_next n [] ss all before = refl
  no_next n (u ∷ us) [] all before = absurd all
  no_next n (u ∷ us) (t ∷ ss) all before =
      let ih = no_next n us ss all.1 (λ k b. before (suc k) (omega arith)) in
      grind (arith, nat_tests, all.0.represents.number_is, before 0)

  -- the numbers of the uploads are those of the slots
  pub all_below : (top : ℕ) (us : List (ℕ × Upload)) (ss : List Slot) → AllRepresent x us ss
      → ((k : ℕ) → k < length (numbers ss) → slice_index (numbers ss) k < top) → AllBelow top us
  all_below top [] ss all below = tt
  all_below top (u ∷ us) [] all below = absurd all
  all_below top (u ∷ us) (t ∷ ss) all below =
      let number : t.record.number ≡ u.0 = all.0.represents.number_is in
      let first = below 0 (omega arith) in
      (omega (arith, number, first), all_below top us ss all.1 (λ k l. below (suc k) (omega arith)))
