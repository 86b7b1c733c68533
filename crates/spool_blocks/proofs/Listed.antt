-- A slot's blocks are listed along the links, and where its ordinals are whole, the list has each at its ordinal.
use Rattle.std.proofs.Common.{◌≡◌, ℕ, zero, suc, ◌+◌, ◌-◌, ◌<◌, ◌≤◌, List, Option, None, Some, length}
use Rattle.std.proofs.Common.{get_or, slice_set, get_or-set_other, refl, sym, ◌∙◌, arith, ⊎_elim}
use Rattle.std.proofs.lemmas.Bool.{cases_eq, cases_lt}
use Rattle.std.proofs.lemmas.Option.{none-some}
use Rattle.common.specs.declared.limits.TheConstants.{MOST_BLOCKS, SLOTS}
use Rattle.spool_blocks.specs.Blocks.{Row, IsInOrder, IsWholeText, slot_count}
use Rattle.spool_blocks.specs.Chains.{Owns, rank, Linked}
use Rattle.spool_blocks.proofs.Counts.{within}
use Rattle.spool_blocks.proofs.Links.{lower, sets, popped, count_less}
use Rattle.spool_blocks.proofs.Totals.{none_counted}

-- the ordinal of an owned block
pub ordinal_in : Row → ℕ
ordinal_in None = 0
ordinal_in (Some o) = o.1

-- the rank of an owned block
pub rank_in : List Row → ℕ → ℕ
rank_in rows b = rank b (ordinal_in (get_or rows b None))

-- From `at` on the list has blocks of the slot, by rising rank. `left` are the rows without them: the slot's blocks
-- there are linked from `next` down, are as many as the places below `at`, and rank lower.
pub record ListedFrom (rows : List Row) (below : List (Option ℕ)) (slot : ℕ) (next : Option ℕ) (at : ℕ)
    (list : List ℕ) : Type 0 where
  pub left : List Row
  pub tops : List (Option ℕ)
  pub counts : List ℕ
  pub linked : Linked left below tops counts
  pub next_is : get_or tops slot None ≡ next
  pub count : get_or counts slot 0 ≡ at
  pub only : (b k : ℕ) → Owns left b slot k → Owns rows b slot k
  pub owned : (i : ℕ) → at ≤ i → i < length list → (a : ℕ) × Owns rows (get_or list i 0) slot a
  pub rises : (i k : ℕ) → at ≤ i → i < k → k < length list
      → rank_in rows (get_or list i 0) < rank_in rows (get_or list k 0)
  pub lower : (i b k : ℕ) → at ≤ i → i < length list → Owns left b slot k → rank b k < rank_in rows (get_or list i 0)

module _ {rows : List Row} {below : List (Option ℕ)} {slot at : ℕ} {next : Option ℕ} {list : List ℕ}
    (from : ListedFrom rows below slot next at list) where
  -- the next block is listed
  module _ {t : ℕ} (some : next ≡ Some t) where
    held : (k : ℕ) × Owns from.left t slot k
    held = from.linked.at_top slot t (from.next_is ∙ some)

    slot_in : slot < SLOTS
    slot_in = from.linked.slots t slot held.0 held.1

    t_in : t < length from.left
    t_in = within from.left t (slot, held.0) held.1

    pub block_in : t < length below
    block_in = omega (arith, t_in, from.linked.below_size)

    pub some_left : 1 ≤ at
    some_left = omega (
      arith,
      from.count,
      from.linked.counted slot slot_in,
      count_less slot held.0 from.left t t_in held.1,
    )

    rank_t : rank_in rows t ≡ rank t held.0
    unfolding rank_in ordinal_in
    rank_t = rw (from.only t held.0 held.1) refl

    no_higher : (b k : ℕ) → Owns (slice_set from.left t None) b slot k
        → Owns from.left b slot k × (rank b k < rank_in rows t)
    no_higher b k own =
        let was : (b ≡ t → ⊥) × Owns from.left b slot k = grind (sets, t_in) in
        let high = from.linked.top slot b k was.1 in
        let le : rank b k ≤ rank t held.0 =
        grind (arith, from.next_is, some, high.is, high.least, high.owned, held.1) in
        let b_in = within from.left b (slot, k) was.1 in
        (was.1, rw rank_t (lower from.left t b held.0 k from.linked.few t_in b_in was.0 le))

    pub listed_on : (next' : Option ℕ) → get_or below t None ≡ next' → at ≤ length list
        → ListedFrom rows below slot next' (at - 1) (slice_set list (at - 1) t)
    listed_on next' link room = record {
      left = slice_set from.left t None;
      tops = slice_set from.tops slot next';
      counts = slice_set from.counts slot (at - 1);
      linked = popped from.linked slot t held.0 next' at (from.next_is ∙ some) held.1 link from.count;
      next_is = grind (sets, from.linked.tops_size, slot_in);
      count = grind (sets, from.linked.counts_size, slot_in);
      only = λ b k own. from.only b k (no_higher b k own).0;
      owned = λ i le lt. ⊎_elim
          (λ (e : i ≡ at - 1). (held.0, rw (here i e) (from.only t held.0 held.1)))
          (λ (ne : i ≡ at - 1 → ⊥). rw (there i ne) (from.owned i (omega (arith, le, ne)) (grind sets)))
          (cases_eq i (at - 1));
      rises = λ i k le lt lt'.
          let above = from.lower k t held.0 (omega (arith, le, lt)) (grind sets) held.1 in
          grind (sets, here i, there i, there k, rank_t, above, from.rises i k);
      lower = λ i b k le lt own.
          let was = no_higher b k own in
          grind (sets, here i, there i, was.1, was.0, from.lower i b k);
    }
      where
        here : (i : ℕ) → i ≡ at - 1 → get_or (slice_set list (at - 1) t) i 0 ≡ t
        here i e = grind (sets, some_left, room)

        there : (i : ℕ) → (i ≡ at - 1 → ⊥) → get_or (slice_set list (at - 1) t) i 0 ≡ get_or list i 0
        there i ne = get_or-set_other list (at - 1) i t 0 ne

  -- nothing is left: the whole list is in order
  module _ (none : next ≡ None) (lt : slot < SLOTS) (few : length rows ≤ MOST_BLOCKS) where
    at_start : at ≡ 0
    at_start = omega (
      arith,
      from.count,
      from.linked.counted slot lt,
      none_counted slot from.left (λ b k own. none-some (from.linked.top slot b k own).top
          (sym (from.next_is ∙ none) ∙ (from.linked.top slot b k own).is)),
    )

    pub all_listed : IsInOrder slot rows list
    unfolding rank_in ordinal_in
    all_listed = record {
      owned = λ i i_in. from.owned i (omega (arith, at_start)) i_in;
      ascends = λ i k a b lt k_in own own'.
          let rises : rank (get_or list i 0) a < rank (get_or list k 0) b =
          rw (own, own') at (from.rises i k (omega (arith, at_start)) lt k_in) in
          let i_below = within rows (get_or list i 0) (slot, a) own in
          let k_below = within rows (get_or list k 0) (slot, b) own' in
          grind (arith, few, i_below, k_below, rises, cases_lt a b);
    }

-- WHOLE TEXTS

-- with a block at each ordinal below n, a slot has n blocks or more
many : (n slot : ℕ) (rows : List Row) → ((i : ℕ) → i < n → (b : ℕ) × Owns rows b slot i) → n ≤ slot_count slot rows
many zero slot rows there = omega arith
many (suc n) slot rows there =
    let top = there n (omega arith) in
    let less = count_less slot n rows top.0 (within rows top.0 (slot, n) top.1) top.1 in
    let rest = many n slot (slice_set rows top.0 None)
    (λ i lt. let at = there i (omega (arith, lt)) in (at.0, grind sets)) in
    omega (arith, less, rest)

-- numbers that ascend are no closer than their places
apart : (n : ℕ) (f : ℕ → ℕ) → ((i k : ℕ) → i < k → k < n → f i < f k) → (d i k : ℕ) → i + d ≡ k → k < n → f i + d ≤ f k
apart n f ascends zero i k e lt = grind arith
apart n f ascends (suc d) i k e lt =
    omega (
      arith,
      apart n f ascends d i (k - 1) (omega (arith, e)) (omega (arith, e, lt)),
      ascends (k - 1) k
          (omega (arith, e)) lt,
    )

module _ {slot : ℕ} {rows : List Row} {list : List ℕ} (size : length list ≡ slot_count slot rows)
    (ordered : IsInOrder slot rows list) (whole : IsWholeText slot rows) where
  ordinal : ℕ → ℕ
  ordinal i = ordinal_in (get_or rows (get_or list i 0) None)

  own : (i : ℕ) → i < length list → Owns rows (get_or list i 0) slot (ordinal i)
  unfolding ordinal ordinal_in
  own i lt = rw (ordered.owned i lt).1 refl

  ascends : (i k : ℕ) → i < k → k < length list → ordinal i < ordinal k
  ascends i k lt k_in =
      let own_i = own i (omega (arith, lt, k_in)) in
      ⊎_elim (λ (lt : ordinal i < ordinal k). lt)
      (λ (e : (ordinal i ≡ ordinal k) × (get_or list i 0 < get_or list k 0)).
      let one = whole.once (get_or list i 0) (get_or list k 0) (ordinal k) (rw e.0 at own_i) (own k k_in) in
      absurd (omega (arith, one, e.1)))
      (ordered.ascends i k (ordinal i) (ordinal k) lt k_in own_i (own k k_in))

  -- each ordinal below the count has a block, so none is higher
  below : (b i : ℕ) → Owns rows b slot i → i < slot_count slot rows
  below b i here =
      let less = count_less slot i rows b (within rows b (slot, i) here) here in
      ⊎_elim (λ (lt : i < slot_count slot rows). lt)
      (λ (le : slot_count slot rows ≤ i).
      let rest = many (slot_count slot rows) slot (slice_set rows b None)
      (λ j lt. let at = whole.there j lt in (at.0, grind sets)) in
      absurd (omega (arith, less, rest)))
      (cases_lt i (slot_count slot rows))

  pub listed_whole : (i : ℕ) → i < length list → Owns rows (get_or list i 0) slot i
  listed_whole i lt =
      let n = length list in
      let low = apart n ordinal ascends i 0 i (omega arith) lt in
      let high = apart n ordinal ascends (n - 1 - i) i (n - 1) (omega (arith, lt)) (omega (arith, lt)) in
      let last = below (get_or list (n - 1) 0) (ordinal (n - 1)) (own (n - 1) (omega (arith, lt))) in
      let is : ordinal i ≡ i = omega (arith, low, high, last, size, lt) in
      rw is at (own i lt)
