-- What handlers give where their tables have scalar values.
use Rattle.std.proofs.Common.{ℕ, zero, suc, ◌<◌, ◌≤◌, ◌≡◌, ◌==◌, Bool, true, false, ◌&&◌, List, [], ◌∷◌, ◌++◌, Option}
use Rattle.std.proofs.Common.{Some, None, refl, arith, if◌then◌else◌, nat_le, nat_lt, IfSome, append-nil}
use Rattle.std.proofs.lemmas.Bool.{and_parts}
use Rattle.std.proofs.lemmas.Bool.Decides.{nat_tests}
use Rattle.std.proofs.lemmas.List.Elements.{All-nil, All-cons, All-head, All-tail, All-append}
use Rattle.enc_model.specs.declared.Answer.{Answer}
use Rattle.enc_model.specs.declared.Answer.TheVariants.{Point, Error, Nothing, Finished}
use Rattle.enc_model.specs.Index.{Index, code}
use Rattle.enc_model.specs.Indexes.{IndexSet, pairs_of, at_place}
use Rattle.enc_model.specs.Stream.{HandlerStep, Handler, DecoderRun, points_of, text_then, steps, steps_within}
use Rattle.enc_index.specs.Entries.{ascends}
use Rattle.enc_index.specs.Scalars.{is_scalar}
use Rattle.enc_index.specs.Sets.{IsIndex, IsIndexSet}
use Rattle.enc_laws.specs.WellFormed.{AreBytes, AreScalars}

pub low_scalar : (c : ℕ) → c < 0xD800 → is_scalar c ≡ true
low_scalar c l = grind (arith, nat_tests)

pub high_scalar : (c : ℕ) → 0xE000 ≤ c → c ≤ 0x10FFFF → is_scalar c ≡ true
high_scalar c l h = grind (arith, nat_tests)

-- AN INDEX

abbrev pub IsScalarOption : Option ℕ → Type 0
IsScalarOption None = Unit {0}
IsScalarOption (Some c) = is_scalar c ≡ true

-- it maps to scalar values
abbrev pub HasScalars : Index → Type 0
HasScalars index = (p : ℕ) → IsScalarOption (code index p)

index_scalars : (low bound : ℕ) (index : Index) → ascends low bound index ≡ true → HasScalars index
unfolding ascends code
index_scalars low bound [] a p = tt
index_scalars low bound (pair ∷ index) a p =
    let outer = and_parts (nat_le low pair.0 && nat_lt pair.0 bound && is_scalar pair.1)
    (ascends (suc pair.0) bound index)
    a in
    let scalar = (and_parts (nat_le low pair.0 && nat_lt pair.0 bound) (is_scalar pair.1) outer.0).1 in
    elim (pair.0 == p) as (λ v. IsScalarOption (if v then Some pair.1 else code index p))
    [ true ↦ scalar | false ↦ index_scalars (suc pair.0) bound index outer.1 p ]

pub set_scalars : (index : Option Index) (pointers : ℕ) → IfSome index (IsIndex pointers) → HasScalars (pairs_of index)
unfolding code
set_scalars None pointers i p = tt
set_scalars (Some index) pointers i p = index_scalars 0 pointers index i p

pub place_scalars : (x : IndexSet) (place : Option ℕ) → IsIndexSet x → HasScalars (pairs_of (at_place x.single place))
unfolding code
place_scalars x None i p = tt
place_scalars x (Some place) i p = set_scalars (at_place x.single (Some place)) 128 (i.single place) p

-- A HANDLER

abbrev pub IsScalarAnswer : Answer → Type 0
IsScalarAnswer (Point c) = is_scalar c ≡ true
IsScalarAnswer _ = Unit {0}

abbrev pub FewBytes : List ℕ → Type 0
FewBytes [] = Unit {0}
FewBytes (b ∷ bytes) = (b < 0x100) × FewBytes bytes

pub record IsValid {S : Type 0} (Good : S → Type 0) (t : HandlerStep S) : Type 0 where
  pub state : Good t.state
  pub answer : IsScalarAnswer t.answer
  pub restored : FewBytes t.restored

few_bytes : (few bytes : List ℕ) → FewBytes few → AreBytes bytes → AreBytes (few ++ bytes)
few_bytes [] bytes f all = all
few_bytes (b ∷ few) bytes f all = All-cons (λ z. z < 0x100) b (few ++ bytes) f.0 (few_bytes few bytes f.1 all)

points_scalars : (a : Answer) → IsScalarAnswer a → AreScalars (points_of a)
points_scalars (Point c) s = All-cons (λ z. is_scalar z ≡ true) c [] s (All-nil (λ z. is_scalar z ≡ true))
points_scalars Error s = All-cons (λ z. is_scalar z ≡ true) 0xFFFD [] refl (All-nil (λ z. is_scalar z ≡ true))
points_scalars Nothing s = All-nil (λ z. is_scalar z ≡ true)
points_scalars Finished s = All-nil (λ z. is_scalar z ≡ true)

scalars_append : (a b : List ℕ) → AreScalars a → AreScalars b → AreScalars (a ++ b)
scalars_append a b p q = All-append (λ z. is_scalar z ≡ true) a b p q

module _ {S : Type 0} (h : Handler S) (Good : S → Type 0)
    (reads : (s : S) (b : ℕ) → Good s → b < 0x100 → IsValid Good (h s (Some b)))
    (ends : (s : S) → Good s → IsValid Good (h s None)) where
  end_case : (n : ℕ) (t : HandlerStep S) (a : Answer) → AreScalars (points_of t.answer)
      → AreScalars (steps_within n h true t.state t.restored).text →
      AreScalars (elim a as (λ _. DecoderRun S) [
        | Finished ↦ record { text = []; state = t.state }
        | _ ↦ text_then (points_of t.answer) (steps_within n h true t.state t.restored)
      ]).text
  end_case n t Finished p q = All-nil (λ z. is_scalar z ≡ true)
  end_case n t _ p q = scalars_append (points_of t.answer) (steps_within n h true t.state t.restored).text p q

  valid_within : (n : ℕ) (ended : Bool) (s : S) (bytes : List ℕ) → Good s → AreBytes bytes
      → AreScalars (steps_within n h ended s bytes).text
  unfolding steps_within
  valid_within zero ended s bytes g all = All-nil (λ z. is_scalar z ≡ true)
  valid_within (suc n) ended s (b ∷ bytes) g all =
      let t = h s (Some b) in
      let valid = reads s b g (All-head (λ z. z < 0x100) b bytes all) in
      scalars_append (points_of t.answer) (steps_within n h ended t.state (t.restored ++ bytes)).text
      (points_scalars t.answer valid.answer)
      (valid_within n ended t.state (t.restored ++ bytes) valid.state
      (few_bytes t.restored bytes valid.restored (All-tail (λ z. z < 0x100) b bytes all)))
  valid_within (suc n) false s [] g all = All-nil (λ z. is_scalar z ≡ true)
  valid_within (suc n) true s [] g all =
      let t = h s None in
      let valid = ends s g in
      let bytes : AreBytes t.restored =
      rw (← append-nil t.restored) (few_bytes t.restored [] valid.restored (All-nil (λ z. z < 0x100))) in
      end_case n t t.answer (points_scalars t.answer valid.answer)
      (valid_within n true t.state t.restored valid.state bytes)

  pub valid_steps : (ended : Bool) (s : S) (bytes : List ℕ) → Good s → AreBytes bytes
      → AreScalars (steps h ended s bytes).text
  unfolding steps
  valid_steps ended s bytes g all = valid_within _ ended s bytes g all
