-- The least pointers, from the last entry to the first.
use Rattle.std.proofs.Common.{◌≡◌, ℕ, zero, suc, ◌+◌, ◌<◌, Bool, true, false, cond, ◌&&◌, List, [], ◌∷◌, length, drop}
use Rattle.std.proofs.Common.{Option, Some, None, refl, arith, slice_index_or, ◌==◌, add-one, ◌≢◌, set, replicate}
use Rattle.std.proofs.lemmas.Bool.Decides.{nat_tests}
use Rattle.std.proofs.lemmas.List.{drop_more, drop_all, get_or-set_same, get_or-set_other}
use Rattle.enc_model.specs.Index.{Index, pointer_where, least}
use Rattle.enc_index.specs.Entries.{pairs_from, entry, found_pointer}

-- a pointer below the least of two is the least of three
below_both : (p q : ℕ) (r : Option ℕ) → p < q → least p r ≡ Some p → least p (least q r) ≡ Some p
below_both p q None h e = grind (arith, nat_tests)
below_both p q (Some r) h e = grind (arith, nat_tests, e)

least_below : (includes : ℕ → Bool) (c p q : ℕ) (entries : List (Option ℕ)) → p < q
    → least p (pointer_where includes (pairs_from q entries) c) ≡ Some p
unfolding pairs_from pointer_where
least_below includes c p q [] h = refl
least_below includes c p q (None ∷ entries) h = least_below includes c p (suc q) entries (omega arith)
least_below includes c p q (Some d ∷ entries) h =
    let rest = least_below includes c p (suc q) entries (omega arith) in
    let r = pointer_where includes (pairs_from (suc q) entries) c in
    elim ((d == c) && includes q) as (λ b. least p (cond b (least q r) r) ≡ Some p)
    [ true ↦ below_both p q r h rest | false ↦ rest ]

-- the pairs from an entry on
pub from_none : (entries : List (Option ℕ)) (i : ℕ) → i < length entries → slice_index_or entries i None ≡ None
    → pairs_from i (drop i entries) ≡ pairs_from (i + 1) (drop (i + 1) entries)
unfolding pairs_from
from_none entries i h e = rw (drop_more entries i None h, e, add-one) refl

pub from_some : (entries : List (Option ℕ)) (i c : ℕ) → i < length entries → slice_index_or entries i None ≡ Some c
    → pairs_from i (drop i entries) ≡ (i, c) ∷ pairs_from (i + 1) (drop (i + 1) entries)
unfolding pairs_from
from_some entries i c h e = rw (drop_more entries i None h, e, add-one) refl

module _ (includes : ℕ → Bool) (entries : List (Option ℕ)) (i j : ℕ) (next : i + 1 ≡ j) (h : i < length entries) where
  -- the least pointers among the entries from a place on
  abbrev from : ℕ → ℕ → Option ℕ
  from k c = pointer_where includes (pairs_from k (drop k entries)) c

  pub past_none : slice_index_or entries i None ≡ None → (c : ℕ) → from i c ≡ from j c
  past_none e c = rw (from_none entries i h e, next) refl

  skipped : (d c : ℕ) (rest : Index) → includes i ≡ false → pointer_where includes ((i, d) ∷ rest) c ≡ pointer_where
      includes
      rest c
  unfolding pointer_where
  skipped d c rest k = rw k
      (elim (d == c) as (λ b. cond (b && false) (least i (pointer_where includes rest c))
      (pointer_where includes rest c) ≡ pointer_where includes rest c) [ true ↦ refl | false ↦ refl ])

  pub past_unusable : (d : ℕ) → slice_index_or entries i None ≡ Some d → includes i ≡ false → (c : ℕ)
      → from i c ≡ from j c
  past_unusable d e k c = rw (from_some entries i d h e, next) (skipped d c _ k)

  taken : (d c : ℕ) (rest : Index) → includes i ≡ true → least i (pointer_where includes rest c) ≡ Some i
      → pointer_where includes ((i, d) ∷ rest) c ≡ cond (d == c) (Some i) (pointer_where includes rest c)
  unfolding pointer_where
  taken d c rest k l = rw k
      (elim (d == c) as (λ b. cond (b && true) (least i (pointer_where includes rest c))
      (pointer_where includes rest c) ≡ cond b (Some i) (pointer_where includes rest c)) [ true ↦ l | false ↦ refl ])

  pub past_taken : (d : ℕ) → slice_index_or entries i None ≡ Some d → includes i ≡ true → (c : ℕ)
      → from i c ≡ cond (d == c) (Some i) (from j c)
  past_taken d e k c = rw (from_some entries i d h e, next) (taken d c _ k (least_below includes c i j _ (omega arith)))

-- after the last entry there is nothing
pub from_nothing : (includes : ℕ → Bool) (entries : List (Option ℕ)) (c : ℕ)
    → pointer_where includes (pairs_from (length entries) (drop (length entries) entries)) c ≡ None
unfolding pairs_from pointer_where
from_nothing includes entries c = rw (drop_all (length entries) entries (omega arith)) refl

-- TABLES BY CODE POINT

nowhere : (n c d : ℕ) → slice_index_or (replicate n d) c d ≡ d
nowhere zero c d = refl
nowhere (suc n) zero d = refl
nowhere (suc n) (suc c) d = nowhere n c d

-- an empty table gives nothing
pub found_none : (n c : ℕ) → found_pointer (replicate n 0xFFFF) c ≡ None
found_none n c = rw (nowhere n c 0xFFFF) refl

entry_some : (p : ℕ) → p < 0xFFFF → entry p ≡ Some p
entry_some p below = grind (arith, nat_tests)

-- an entry that is written is given, and the others are as before
pub found_set : (pointers : List ℕ) (d p c : ℕ) → d < length pointers → p < 0xFFFF
    → found_pointer (set pointers d p) c ≡ cond (d == c) (Some p) (found_pointer pointers c)
found_set pointers d p c inside below = go (d == c) refl
  where
    go : (b : Bool) → (d == c) ≡ b → found_pointer (set pointers d p) c ≡ cond b (Some p) (found_pointer pointers c)
    go true e = let same : d ≡ c =
        grind (arith, nat_tests, e) in rw (← same, get_or-set_same pointers d p 0xFFFF inside) (entry_some p below)
    go false e = let other : c ≢ d =
        grind (arith, nat_tests, e) in rw (get_or-set_other pointers d c p 0xFFFF other) refl
