-- Uploads written one after the other, each by the least number above the one before.
use Rattle.std.proofs.Common.{◌≡◌, ◌∙◌, ◌⊎◌, inl, inr, ap, sym, subst, refl, ℕ, suc, ◌<◌, ◌==◌, Bool}
use Rattle.std.proofs.Common.{true, false, nat_lt, List, [], ◌∷◌, ◌++◌, if◌then◌else◌, map, Option, Some, None}
use Rattle.std.proofs.Common.{arith, flat_map, append_assoc, append-nil}
use Rattle.std.proofs.Common.{Bor, option_copied}
use Rattle.enc_model.specs.Indexes.{IndexSet}
use Rattle.upload_rules.specs.Records.{above, Represents, RepresentsOf}
use Rattle.upload_rules.specs.declared.records.Record.{Record}
use Rattle.upload_rules.specs.Slots.{IsRising}
use Rattle.upload_rules.specs.Store.{Upload, find}
use Rattle.gateway_outside.specs.Bools.{true_or_false}

-- those from the first with a number above this one on
abbrev pub after : ℕ → List (ℕ × Upload) → List (ℕ × Upload)
after n [] = []
after n (x ∷ xs) = if nat_lt n x.0 then x ∷ xs else after n xs

abbrev pub numbers : List (ℕ × Upload) → List ℕ
numbers xs = map (λ e. e.0) xs

pub none_above : (n : ℕ) (xs : List (ℕ × Upload)) → above n xs ≡ None → after n xs ≡ []
none_above n [] e = refl
none_above n (x ∷ xs) e =
    elim (true_or_false (nat_lt n x.0)) [
      | inl t ↦ let bad : Some x ≡ None = subst (λ b. (if b then Some x else above n xs) ≡ None) t e in absurd (cc)
      | inr f ↦ let less : above n xs ≡ None = subst (λ b. (if b then Some x else above n xs) ≡ None) f e in
          rw f (none_above n xs less)
    ]

above_greater : (n : ℕ) (xs : List (ℕ × Upload)) (entry : ℕ × Upload) → above n xs ≡ Some entry → n < entry.0
above_greater n [] entry e = absurd (cc)
above_greater n (x ∷ xs) entry e =
    elim (true_or_false (nat_lt n x.0)) [
      | inl t ↦ let is : Some x ≡ Some entry = subst (λ b. (if b then Some x else above n xs) ≡ Some entry) t e in
          let same : x ≡ entry = cc in
          subst (λ (y : ℕ × Upload). n < y.0) same (grind (arith, t))
      | inr f ↦ above_greater n xs entry (subst (λ b. (if b then Some x else above n xs) ≡ Some entry) f e)
    ]

pub rising_rest : (x : ℕ × Upload) (xs : List (ℕ × Upload)) → IsRising (numbers (x ∷ xs)) → IsRising (numbers xs)
rising_rest x xs rising i j less within = rising (suc i) (suc j) (omega (arith, less)) (omega (arith, within))

-- all after the first are greater
after_first : (x : ℕ × Upload) (xs : List (ℕ × Upload)) → IsRising (numbers (x ∷ xs)) → after x.0 xs ≡ xs
after_first x [] rising = refl
after_first x (y ∷ xs) rising =
    let less : x.0 < y.0 = rising 0 1 (omega arith) (omega arith) in
    let yes : nat_lt x.0 y.0 ≡ true = grind (arith, less) in
    rw yes refl

pub some_above : (n : ℕ) (xs : List (ℕ × Upload)) (entry : ℕ × Upload) → IsRising (numbers xs)
    → above n xs ≡ Some entry → after n xs ≡ entry ∷ after entry.0 xs
some_above n [] entry rising e = absurd (cc)
some_above n (x ∷ xs) entry rising e =
    elim (true_or_false (nat_lt n x.0)) [
      | inl t ↦
          let is : Some x ≡ Some entry = subst (λ b. (if b then Some x else above n xs) ≡ Some entry) t e in
          let same : x ≡ entry = cc in
          let no : nat_lt x.0 x.0 ≡ false = grind (arith) in
          let here : after x.0 (x ∷ xs) ≡ xs = rw no (after_first x xs rising) in
          let all : after n (x ∷ xs) ≡ x ∷ xs = rw t refl in
          all ∙ (ap (λ ys. x ∷ ys) (sym here) ∙ ap (λ (y : ℕ × Upload). y ∷ after y.0 (x ∷ xs)) same)
      | inr f ↦
          let later : above n xs ≡ Some entry =
          subst (λ b. (if b then Some x else above n xs) ≡ Some entry) f e in
          let greater = above_greater n xs entry later in
          let no : nat_lt entry.0 x.0 ≡ false = grind (arith, f, greater) in
          let past : after entry.0 (x ∷ xs) ≡ after entry.0 xs = rw no refl in
          let rest : after n (x ∷ xs) ≡ after n xs = rw f refl in
          rest ∙ (some_above n xs entry (rising_rest x xs rising) later ∙ ap (λ ys. entry ∷ ys) (sym past))
    ]

-- where none has number 0, all are above it
pub all_above : (xs : List (ℕ × Upload)) → ((u : Upload) → find 0 xs ≡ Some u → ⊥) → after 0 xs ≡ xs
all_above [] some = refl
all_above (x ∷ xs) some =
    elim (true_or_false (nat_lt 0 x.0)) [
      | inl t ↦ rw t refl
      | inr f ↦
          let zero : (x.0 == 0) ≡ true = grind (arith, f) in
          let there : find 0 (x ∷ xs) ≡ Some x.1 = rw zero refl in
          absurd (some x.1 there)
    ]

-- before the first all are to be written
pub reported_first : {X : Type 0} (f : ℕ × Upload → List X) (out : List X) (xs : List (ℕ × Upload))
    → ((u : Upload) → find 0 xs ≡ Some u → ⊥) → out ≡ [] → out ++ flat_map f (after 0 xs) ≡ flat_map f xs
reported_first f out xs some e =
    ap (λ l. l ++ flat_map f (after 0 xs)) e ∙ ap (λ ys. flat_map f ys) (all_above xs some)

-- one more is written, of what is to be written in the end
reported_more : {X : Type 0} (f : ℕ × Upload → List X) (whole out : List X) (xs : List (ℕ × Upload)) (n : ℕ)
    (entry : ℕ × Upload)
    → IsRising (numbers xs) → above n xs ≡ Some entry → out ++ flat_map f (after n xs) ≡ whole
    → (out ++ f entry) ++ flat_map f (after entry.0 xs) ≡ whole
reported_more f whole out xs n entry rising e before =
    append_assoc out (f entry) (flat_map f (after entry.0 xs))
    ∙ (ap (λ ys. out ++ flat_map f ys) (sym (some_above n xs entry rising e)) ∙ before)

-- all are written
reported_all : {X : Type 0} (f : ℕ × Upload → List X) (whole out : List X) (xs : List (ℕ × Upload)) (n : ℕ)
    → above n xs ≡ None → out ++ flat_map f (after n xs) ≡ whole → out ≡ whole
reported_all f whole out xs n e before =
    sym (append-nil out) ∙ (ap (λ ys. out ++ flat_map f ys) (sym (none_above n xs e)) ∙ before)

pub none_represented : (x : IndexSet) (o : Option (ℕ × Upload)) (r : Option Record) → r ≡ None → RepresentsOf x o r
    → o ≡ None
none_represented x None r e t = refl
none_represented x (Some y) None e t = absurd t
none_represented x (Some y) (Some r) e t = absurd (cc)

pub represented : (x : IndexSet) (o : Option (ℕ × Upload)) (r : Record) → RepresentsOf x o (Some r)
    → (entry : ℕ × Upload) × (o ≡ Some entry) × Represents x entry.0 r entry.1
represented x None r t = absurd t
represented x (Some entry) r t = (entry, refl, t)

-- what is written of each upload, by its record
module _ {X : Type 0} (x : IndexSet) (f : ℕ × Upload → List X) (whole out : List X) (xs : List (ℕ × Upload)) (n : ℕ)
    (r : Option (Bor Record)) (t : RepresentsOf x (above n xs) (option_copied r))
    (before : out ++ flat_map f (after n xs) ≡ whole) where
  pub reported_none : r ≡ None → out ≡ whole
  reported_none e =
      reported_all f whole out xs n (none_represented x (above n xs) (option_copied r) (ap (λ o. option_copied o) e)
      t) before

  pub reported_next : (of : Record → List X)
      → ((r : Record) (entry : ℕ × Upload) → Represents x entry.0 r entry.1 → of r ≡ f entry)
      → (now : Bor Record) (more : List X) → IsRising (numbers xs) → r ≡ Some now → more ≡ out ++ of now.now
      → more ++ flat_map f (after now.now.number xs) ≡ whole
  reported_next of is now more rising e pushed =
      let it = represented x (above n xs) now.now (subst (λ o. RepresentsOf x (above n xs) (option_copied o)) e t) in
      ap (λ l. l ++ flat_map f (after now.now.number xs)) pushed
      ∙ (ap (λ l. (out ++ l) ++ flat_map f (after now.now.number xs)) (is now.now it.0 it.2)
      ∙ (ap (λ k. (out ++ f it.0) ++ flat_map f (after k xs)) it.2.number_is
      ∙ reported_more f whole out xs n it.0 rising it.1 before))
