-- Numbers with no two equal.
use Rattle.std.proofs.Common.{◌≡◌, ◌≢◌, ℕ, suc, ◌+◌, ◌-◌, ◌<◌, ◌≤◌, ◌++◌, ◌||◌, Bool, true, false, List, [], ◌∷◌}
use Rattle.std.proofs.Common.{length, get_or, refl, sym, ◌∙◌, ap, subst, arith, ⊎_elim, length-append, None}
use Rattle.std.proofs.Math.Dec.{eqb}
use Rattle.std.proofs.lemmas.Bool.{eqb-true, cases_lt, both_ways}
use Rattle.std.proofs.lemmas.Bool.Decides.{nat_tests}
use Rattle.std.proofs.lemmas.List.{get_or_default, get_or_append_left, get_or-append_right, get_or-append-add}
use Rattle.std.proofs.lemmas.List.{get_or_push, length_push, append_assoc, append-nil}
use Rattle.std.proofs.lemmas.Map.Keys.{IsDistinct-from_apart}
use Rattle.std.proofs.lemmas.Map.Steps.{length-le_from_distinct_below}
use Rattle.std.specs.List.{list_any}
use Rattle.spool_blocks.specs.Blocks.{Row, Held, IsFree}
use Rattle.spool_texts.specs.Drafts.{IsReserved, Takes}

listed_below : (q bound : ℕ) (list : List ℕ) → ((i : ℕ) → i < length list → get_or list i 0 < bound)
    → list_any (eqb q) list ≡ true → q < bound
listed_below q bound [] below e = cc
listed_below q bound (x ∷ list) below e =
    by_head (eqb q x) refl e (λ f. listed_below q bound list (λ i lt. below (suc i) (omega (arith, lt))) f)
  where
    by_head : (t : Bool) → t ≡ eqb q x → (t || list_any (eqb q) list) ≡ true
        → (list_any (eqb q) list ≡ true → q < bound) → q < bound
    by_head true is e rest = omega (arith, eqb-true q x (sym is), below 0 (omega arith))
    by_head false is e rest = rest e

-- a list of distinct numbers below a bound isn't longer than the bound
pub few_distinct : (bound : ℕ) (list : List ℕ) → ((i : ℕ) → i < length list → get_or list i 0 < bound)
    → ((i k : ℕ) → i < k → k < length list → get_or list i 0 ≢ get_or list k 0) → length list ≤ bound
few_distinct bound list below distinct =
    length-le_from_distinct_below list bound
    (IsDistinct-from_apart eqb list (λ i k d lt lt'. apart i k d lt lt'))
    (λ q e. listed_below q bound list below e)
  where
    differ : (a b : ℕ) → a ≢ b → eqb a b ≡ false
    differ a b e = grind (arith, nat_tests)

    apart : (i k d : ℕ) → i < k → k < length list → eqb (get_or list i d) (get_or list k d) ≡ false
    apart i k d lt lt' = differ (get_or list i d) (get_or list k d)
        (λ e. distinct i k lt lt'
        (get_or_default list i 0 d (omega (arith, lt, lt')) ∙ e ∙ get_or_default list k d 0 lt'))

-- one reserved block more
pub few_more : (h : Held) (list : List ℕ) (b : ℕ) → IsReserved h list → IsFree h b → length list + 1 ≤ length h.rows
few_more h list b reserved free =
    omega (arith, length_push list b, few_distinct (length h.rows) (list ++ b ∷ []) below distinct)
  where
    prefix : (i : ℕ) → i < length list → get_or (list ++ b ∷ []) i 0 ≡ get_or list i 0
    prefix i lt = get_or_append_left list (b ∷ []) 0 i lt

    last : (i : ℕ) → i ≡ length list → get_or (list ++ b ∷ []) i 0 ≡ b
    last i e = get_or_push list b 0 i (sym e)

    below : (i : ℕ) → i < length (list ++ b ∷ []) → get_or (list ++ b ∷ []) i 0 < length h.rows
    below i lt = ⊎_elim
        (λ (before : i < length list). omega (arith, prefix i before, reserved.below i before))
        (λ (after : length list ≤ i). omega
        (arith, last i (omega (arith, lt, after, length_push list b)), free.below))
        (cases_lt i (length list))

    distinct : (i k : ℕ) → i < k → k < length (list ++ b ∷ []) → get_or (list ++ b ∷ []) i 0 ≢ get_or (list ++ b ∷ []) k
        0
    distinct i k lt lt' e =
        let before : i < length list = omega (arith, lt, lt', length_push list b) in
        ⊎_elim
        (λ (inside : k < length list). reserved.distinct i k lt inside (sym (prefix i before) ∙ e ∙ prefix k inside))
        (λ (after : length list ≤ k).
        let same : get_or list i 0 ≡ b =
        sym (prefix i before) ∙ e ∙ last k (omega (arith, lt', after, length_push list b)) in
        let flag : get_or h.reserved b false ≡ true =
        subst (λ (n : ℕ). get_or h.reserved n false ≡ true) same (reserved.reserved i before) in
        both_ways (get_or h.reserved b false) free.not_reserved flag)
        (cases_lt k (length list))

-- a block of two lists
pub in_either : (P : ℕ → Type 0) (more more' : List ℕ) → ((i : ℕ) → i < length more → P (get_or more i 0))
    → ((i : ℕ) → i < length more' → P (get_or more' i 0)) → (i : ℕ) → i < length (more ++ more')
    → P (get_or (more ++ more') i 0)
in_either P more more' first second i lt = ⊎_elim
    (λ (inside : i < length more). subst P (sym (get_or_append_left more more' 0 i inside)) (first i inside))
    (λ (after : length more ≤ i). subst P (sym (get_or-append_right more more' (length more) i 0 refl after))
    (second (i - length more) (omega (arith, lt, after, length-append more more'))))
    (cases_lt i (length more))

-- no block more
pub takes_none : (h : Held) (list list' : List ℕ) → list' ≡ list → Takes h h list list'
takes_none h list list' same = record {
  more = [];
  grown = same ∙ sym (append-nil list);
  rows = refl;
  size = refl;
  free = λ i lt. absurd (omega (arith, lt));
  taken = λ i lt. absurd (omega (arith, lt));
  others = λ b away. refl;
  preserves = λ b e. e;
}

-- the list grew, and then again
pub takes_on : {a b c : Held} {first second third : List ℕ} → Takes a b first second → Takes b c second third
    → Takes a c first third
takes_on {a = a} {b = b} {c = c} {first = first} x y = record {
  more = x.more ++ y.more;
  grown = y.grown ∙ ap (λ (xs : List ℕ). xs ++ y.more) x.grown ∙ append_assoc first x.more y.more;
  rows = y.rows ∙ x.rows;
  size = y.size ∙ x.size;
  free = in_either (IsFree a) x.more y.more x.free (λ i lt. earlier (get_or y.more i 0) (y.free i lt));
  taken = in_either (λ (n : ℕ). get_or c.reserved n false ≡ true) x.more y.more
      (λ i lt. y.preserves (get_or x.more i 0) (x.taken i lt)) y.taken;
  others = λ n away.
      y.others n (λ i lt e. away (length x.more + i) (omega (arith, lt, length-append x.more y.more))
      (get_or-append-add x.more y.more i 0 ∙ e))
      ∙ x.others n (λ i lt e. away i (omega (arith, lt, length-append x.more y.more))
      (get_or_append_left x.more y.more 0 i lt ∙ e));
  preserves = λ n e. y.preserves n (x.preserves n e);
}
  where
    earlier : (n : ℕ) → IsFree b n → IsFree a n
    earlier n free = record {
      below = omega (arith, free.below, ap length x.rows);
      no_owner = subst (λ (rows : List Row). get_or rows n None ≡ None) x.rows free.no_owner;
      not_reserved = unset (get_or a.reserved n false) refl;
    }
      where
        unset : (t : Bool) → t ≡ get_or a.reserved n false → get_or a.reserved n false ≡ false
        unset true e = absurd (both_ways (get_or b.reserved n false) free.not_reserved (x.preserves n (sym e)))
        unset false e = sym e
