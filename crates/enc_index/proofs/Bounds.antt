-- A pointer that is found is one of its kind.
use Rattle.std.proofs.Common.{ℕ, zero, suc, ◌<◌, ◌≡◌, List, [], ◌∷◌, Bool, true, false, Option, Some, None, refl, arith}
use Rattle.std.proofs.Common.{subst, sym, ◌∙◌, nat_le, nat_lt, ◌==◌, ◌&&◌, if◌then◌else◌, slice_index_or, set}
use Rattle.std.specs.Prelude.{IfSome}
use Rattle.std.proofs.lemmas.List.{length-set}
use Rattle.std.proofs.lemmas.Bool.Decides.{nat_tests}
use Rattle.enc_model.specs.Index.{Index, pointer_where, least}
use Rattle.enc_model.specs.Indexes.{IndexSet, single_byte_place, at_place}
use Rattle.enc_index.specs.declared.kind.Kind.{Kind}
use Rattle.enc_index.specs.declared.kind.Kind.TheVariants.{Jis0208, Jis0212, Katakana, Single}
use Rattle.enc_index.specs.Entries.{ascends}
use Rattle.enc_index.specs.Scalars.{is_scalar}
use Rattle.enc_index.specs.Files.{pointers_of}
use Rattle.enc_index.specs.Kinds.{index_of}
use Rattle.enc_index.specs.Sets.{IsIndex, IsIndexSet}

abbrev Below : ℕ → Option ℕ → Type 0
Below n found = IfSome found (λ p. p < n)

below_least : (n p : ℕ) (q : Option ℕ) → p < n → Below n q → Below n (least p q)
below_least n p None l h = l
below_least n p (Some q) l h =
    elim (nat_lt q p) as (λ v. Below n (if v then Some q else Some p)) [ true ↦ h | false ↦ l ]

and_left : (a b : Bool) → (a && b) ≡ true → a ≡ true
and_left true b e = refl
and_left false b e = absurd cc

and_right : (a b : Bool) → (a && b) ≡ true → b ≡ true
and_right true b e = e
and_right false b e = absurd cc

-- the facts of an index's first pair
first_below : (low n : ℕ) (pair : ℕ × ℕ) (index : Index) → ascends low n (pair ∷ index) ≡ true → pair.0 < n
unfolding ascends
first_below low n pair index e =
    let prefix = and_left (nat_le low pair.0 && nat_lt pair.0 n && is_scalar pair.1) (ascends (suc pair.0) n index) e in
    let test : nat_lt pair.0 n ≡ true =
    and_right (nat_le low pair.0) (nat_lt pair.0 n)
    (and_left (nat_le low pair.0 && nat_lt pair.0 n) (is_scalar pair.1) prefix) in
    grind (arith, nat_tests, test)

others : (low n : ℕ) (pair : ℕ × ℕ) (index : Index) → ascends low n (pair ∷ index) ≡ true
    → ascends (suc pair.0) n index ≡ true
unfolding ascends
others low n pair index e =
    and_right (nat_le low pair.0 && nat_lt pair.0 n && is_scalar pair.1) (ascends (suc pair.0) n index) e

below_in : (includes : ℕ → Bool) (low n : ℕ) (index : Index) (c : ℕ) → ascends low n index ≡ true
    → Below n (pointer_where includes index c)
unfolding pointer_where
below_in includes low n [] c e = tt
below_in includes low n (pair ∷ index) c e =
    let rest = pointer_where includes index c in
    let h = below_in includes (suc pair.0) n index c (others low n pair index e) in
    elim ((pair.1 == c) && includes pair.0) as (λ v. Below n (if v then least pair.0 rest else rest))
    [ true ↦ below_least n pair.0 rest (first_below low n pair index e) h | false ↦ h ]

at_place_is : (x : IndexSet) → IsIndexSet x → (place : Option ℕ) → IfSome (at_place x.single place) (IsIndex 128)
at_place_is x is None = tt
at_place_is x is (Some p) = is.single p

index_in : (x : IndexSet) → IsIndexSet x → (kind : Kind) → IfSome (index_of x kind) (IsIndex (pointers_of kind))
index_in x is Jis0208 = is.jis0208
index_in x is Jis0212 = is.jis0212
index_in x is Katakana = is.katakana
index_in x is (Single e) = at_place_is x is (single_byte_place e)

pub below_found : (includes : ℕ → Bool) (x : IndexSet) (kind : Kind) (c : ℕ) (index : Index) → IsIndexSet x
    → Some index ≡ index_of x kind →
    IfSome (pointer_where includes index c) (λ p. p < pointers_of kind)
below_found includes x kind c index is e =
    let h : IsIndex (pointers_of kind) index =
    subst (λ y. IfSome y (IsIndex (pointers_of kind))) (sym e) (index_in x is kind) in
    below_in includes 0 (pointers_of kind) index c h

set_includes : (single : List (Option Index)) (place : ℕ) (index : Index) → IsIndex 128 index
    → ((k : ℕ) → IfSome (slice_index_or single k None) (IsIndex 128)) →
    (k : ℕ) → IfSome (slice_index_or (set single place (Some index)) k None) (IsIndex 128)
set_includes [] place index valid is k = is k
set_includes (first ∷ single) zero index valid is zero = valid
set_includes (first ∷ single) zero index valid is (suc k) = is (suc k)
set_includes (first ∷ single) (suc place) index valid is zero = is zero
set_includes (first ∷ single) (suc place) index valid is (suc k) = set_includes single place index valid
    (λ n. is (suc n)) k

-- a set into which an index of a single-byte encoding was put
pub put_single : (x : IndexSet) (place : ℕ) (index : Index) → IsIndexSet x → IsIndex 128 index
    → IsIndexSet (record x { single = set x.single place (Some index) })
put_single x place index is valid = record {
  jis0208 = is.jis0208;
  jis0212 = is.jis0212;
  katakana = is.katakana;
  single = set_includes x.single place index valid is.single;
  places = length-set x.single place (Some index) ∙ is.places;
}
