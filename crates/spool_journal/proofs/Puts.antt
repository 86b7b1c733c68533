-- What is known of pages once one more is put among them.
use Rattle.std.proofs.Common.{◌≡◌, ◌⊎◌, inl, inr, ℕ, ◌+◌, ◌-◌, ◌<◌, ◌≤◌, List, [], length, ◌∙◌, ap, arith, ⊎_elim}
use Rattle.std.specs.List.{insert}
use Rattle.std.proofs.lemmas.Bool.{cases_eq, cases_lt}
use Rattle.std.proofs.lemmas.List.Edits.{get_or-insert_at, get_or-insert_below, get_or-insert_above, length-insert}
use Rattle.spool_journal.specs.Image.{InMeta, InArea, IsPagePut, page_number}

-- the number is that of one of the pages
pub record Among (pages : List (ℕ × List ℕ)) (number : ℕ) : Type 0 where
  pub at : ℕ
  pub below : at < length pages
  pub here : number ≡ page_number pages at

number_of : (new old : List (ℕ × List ℕ)) (k : ℕ) → new ≡ old → page_number new k ≡ page_number old k
number_of new old k e = ap (λ (l : List (ℕ × List ℕ)). page_number l k) e

module _ {old : List (ℕ × List ℕ)} {page : ℕ} {bytes : List ℕ} {new : List (ℕ × List ℕ)} where
  pub put_length : IsPagePut old page bytes new → length new ≡ length old + 1
  put_length is = ap (λ (l : List (ℕ × List ℕ)). length l) is.put ∙ length-insert old is.at (page, bytes) is.within

  -- each number is the new one or one from before
  pub put_number : IsPagePut old page bytes new → (k : ℕ) → k < length new → (page_number new k ≡ page) ⊎ Among old
      (page_number new k)
  put_number is k lt = ⊎_elim
      (λ (below : k < is.at). inr record {
        at = k;
        below = omega (arith, below, is.within);
        here = number_of _ _ k is.put
            ∙ ap (λ (p : ℕ × List ℕ). p.0) (get_or-insert_below old is.at (page, bytes) (0, []) k below is.within);
      })
      (λ (from : is.at ≤ k). ⊎_elim
      (λ (e : k ≡ is.at). inl (number_of _ _ k is.put ∙ ap (λ (i : ℕ). page_number (insert old is.at (page, bytes)) i) e
      ∙ ap (λ (p : ℕ × List ℕ). p.0) (get_or-insert_at old is.at (page, bytes) (0, []) is.within)))
      (λ (ne : k ≡ is.at → ⊥).
      let before : k ≡ k - 1 + 1 = omega (arith, from, ne) in
      inr record {
        at = k - 1;
        below = omega (arith, lt, put_length is, from, ne);
        here = number_of _ _ k is.put ∙ ap (λ (i : ℕ). page_number (insert old is.at (page, bytes)) i) before
            ∙ ap (λ (p : ℕ × List ℕ). p.0)
            (get_or-insert_above old is.at (page, bytes) (0, []) (k - 1) (omega (arith, from, ne)) is.within);
      })
      (cases_eq k is.at))
      (cases_lt k is.at)

  pub put_area : {j : ℕ} → IsPagePut old page bytes new → InArea j old → InMeta j page → InArea j new
  put_area {j = j} is area inside k lt = ⊎_elim
      (λ (e : page_number new k ≡ page). rw e inside)
      (λ (among : Among old (page_number new k)). rw among.here (area among.at among.below))
      (put_number is k lt)
