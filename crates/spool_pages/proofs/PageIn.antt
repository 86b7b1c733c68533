-- The page of a number among pages.
use Rattle.std.proofs.Common.{◌≡◌, ℕ, zero, suc, ◌<◌, ◌≤◌, List, [], ◌∷◌, Some, None, IsSome}
use Rattle.std.proofs.Common.{length, get_or, refl, sym, ◌∙◌, ap, arith, ⊎_elim}
use Rattle.std.specs.List.{insert}
use Rattle.std.proofs.lemmas.Bool.{cases_eq}
use Rattle.std.proofs.lemmas.Bool.Decides.{nat_tests}
use Rattle.spool_journal.specs.Image.{IsPagePut, page_number}
use Rattle.spool_pages.specs.Changes.{page_in}

-- BY NUMBER

pub none_by_number : (q : ℕ) (pages : List (ℕ × List ℕ)) → ((k : ℕ) → k < length pages → page_number pages k ≡ q → ⊥)
    → page_in q pages ≡ None
unfolding page_in
none_by_number q [] none = refl
none_by_number q (entry ∷ pages) none =
    let rest = none_by_number q pages (λ k lt. none (suc k) (omega (arith, lt))) in
    let first = none 0 in
    grind (arith, nat_tests)

pub number_none : (q : ℕ) (pages : List (ℕ × List ℕ)) → page_in q pages ≡ None → (k : ℕ) → k < length pages
    → page_number pages k ≡ q → ⊥
unfolding page_in
number_none q [] none k lt e = omega (arith, lt)
number_none q (entry ∷ pages) none zero lt e = grind (arith, nat_tests)
number_none q (entry ∷ pages) none (suc k) lt e =
    let rest = λ (is : page_in q pages ≡ None). number_none q pages is k (omega (arith, lt)) e in
    grind (arith, nat_tests)

pub some_by_number : (q : ℕ) (pages : List (ℕ × List ℕ)) (k : ℕ) → k < length pages → page_number pages k ≡ q
    → IsSome (page_in q pages)
some_by_number q pages k lt e = grind (arith, number_none q pages)

pub some_length : (q : ℕ) (pages : List (ℕ × List ℕ)) (bytes : List ℕ) → page_in q pages ≡ Some bytes → 1 ≤ length pages
unfolding page_in
some_length q [] bytes is = absurd (cc)
some_length q (entry ∷ pages) bytes is = omega arith

-- what holds of each page of the number holds of the one that is found
pub of_found : (P : List ℕ → Type 0) (q : ℕ) (pages : List (ℕ × List ℕ))
    → ((k : ℕ) → k < length pages → page_number pages k ≡ q → P (get_or pages k (0, [])).1) → (bytes : List ℕ)
    → page_in q pages ≡ Some bytes → P bytes
unfolding page_in
of_found P q [] each bytes is = absurd (cc)
of_found P q (entry ∷ pages) each bytes is = ⊎_elim
    (λ (here : entry.0 ≡ q).
    let same : entry.1 ≡ bytes = grind (arith, nat_tests) in rw (sym same) (each 0 (omega arith) here))
    (λ (ne : entry.0 ≡ q → ⊥). of_found P q pages (λ k lt. each (suc k) (omega (arith, lt))) bytes
    (grind (arith, nat_tests)))
    (cases_eq entry.0 q)

-- ONE PAGE MORE

module _ (page : ℕ) (bytes : List ℕ) where
  put_here : (old : List (ℕ × List ℕ)) (at : ℕ) → page_in page old ≡ None
      → page_in page (insert old at (page, bytes)) ≡ Some bytes
  unfolding page_in
  put_here old zero none = grind (arith, nat_tests)
  put_here [] (suc at) none = grind (arith, nat_tests)
  put_here (entry ∷ old) (suc at) none = grind (arith, nat_tests, put_here old at)

  put_else : (q : ℕ) → (page ≡ q → ⊥) → (old : List (ℕ × List ℕ)) (at : ℕ)
      → page_in q (insert old at (page, bytes)) ≡ page_in q old
  unfolding page_in
  put_else q other old zero = grind (arith, nat_tests)
  put_else q other [] (suc at) = grind (arith, nat_tests)
  put_else q other (entry ∷ old) (suc at) = grind (arith, nat_tests, put_else q other old at)

-- OTHER BYTES

-- the same numbers, and the same bytes where the number is this one
pub same_page : (q : ℕ) (old new : List (ℕ × List ℕ)) → length new ≡ length old
    → ((k : ℕ) → k < length old → page_number new k ≡ page_number old k)
    → ((k : ℕ) → k < length old → page_number old k ≡ q → (get_or new k (0, [])).1 ≡ (get_or old k (0, [])).1)
    → page_in q new ≡ page_in q old
unfolding page_in
same_page q [] [] long numbers bytes = refl
same_page q [] (e ∷ new) long numbers bytes = absurd (omega (arith, long))
same_page q (e ∷ old) [] long numbers bytes = absurd (omega (arith, long))
same_page q (e ∷ old) (e' ∷ new) long numbers bytes =
    let rest = same_page q old new (omega (arith, long)) (λ k lt. numbers (suc k) (omega (arith, lt)))
    (λ k lt. bytes (suc k) (omega (arith, lt))) in
    let number = numbers 0 (omega arith) in
    let there = bytes 0 (omega arith) in
    grind (arith, nat_tests, cases_eq)

pub none_same : (q : ℕ) (old new : List (ℕ × List ℕ)) → length new ≡ length old
    → ((k : ℕ) → k < length old → page_number new k ≡ page_number old k) → page_in q new ≡ None → page_in q old ≡ None
none_same q old new long numbers none =
    none_by_number q old (λ k lt e. number_none q new none k (omega (arith, lt, long)) (numbers k lt ∙ e))

-- A PAGE PUT AMONG THEM

module _ {old : List (ℕ × List ℕ)} {page : ℕ} {bytes : List ℕ} {new : List (ℕ × List ℕ)} where
  pub in_put : IsPagePut old page bytes new → page_in page old ≡ None → page_in page new ≡ Some bytes
  in_put is none = ap (page_in page) is.put ∙ put_here page bytes old is.at none

  pub in_put_else : IsPagePut old page bytes new → (q : ℕ) → (page ≡ q → ⊥) → page_in q new ≡ page_in q old
  in_put_else is q other = ap (page_in q) is.put ∙ put_else page bytes q other old is.at

pub in_none : (q : ℕ) (pages : List (ℕ × List ℕ)) → pages ≡ [] → page_in q pages ≡ None
unfolding page_in
in_none q pages empty = rw empty refl

-- a page is there after one more was given room
pub still_some : (page : ℕ) (old new : List (ℕ × List ℕ)) → IsSome (page_in page new)
    → ((other : ℕ) → (page ≡ other → ⊥) → page_in other new ≡ page_in other old) → (q : ℕ) → IsSome (page_in q old)
    → IsSome (page_in q new)
still_some page old new there others q some = grind (arith, cases_eq, others q)
