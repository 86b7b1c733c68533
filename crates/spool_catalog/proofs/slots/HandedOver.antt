-- Rows after a slot's last blocks became free and others became the slot's.
use Rattle.std.proofs.lemmas.Grind.{common_steps}
use Rattle.std.proofs.Common.{◌≡◌, ◌≢◌, inl, inr, ◌⊎◌, ℕ, ◌+◌, ◌-◌, ◌<◌, ◌≤◌, List, ◌++◌, None, Some, length, get_or}
use Rattle.std.proofs.Common.{take, drop, refl, sym, ◌∙◌, ap, subst, arith, length-append, length-take, length-drop}
use Rattle.std.proofs.lemmas.Bool.{cases_eq, cases_lt}
use Rattle.std.proofs.lemmas.List.{get_or_append_left, get_or-append_right, get_or-append-add, get_or-drop}
use Rattle.common.specs.declared.limits.TheConstants.{MOST_BLOCKS, SLOTS}
use Rattle.spool_blocks.specs.Blocks.{Row}
use Rattle.spool_blocks.specs.Chains.{Owns, OwnsOneEach}
use Rattle.spool_texts.specs.TextOn.{IsListed}
use Rattle.spool_texts.proofs.Reserves.{few_distinct}
use Rattle.spool_pages.specs.Changes.{SameRowsBut}
use Rattle.spool_pages.specs.Fits.{FitsRow}
use Rattle.spool_pages.specs.Rests.{Unowned}
use Rattle.spool_catalog.specs.Rows.{SameOthers, HandsOver}
use Rattle.spool_catalog.proofs.slots.ChangedSlots.{clash}
use Rattle.spool_catalog.proofs.slots.Members.{IsOut}
use Rattle.spool_catalog.proofs.slots.Members.{place_or_out}

-- who owns a block of it
pub same_owner : {row : Row} {s k t i : ℕ} → row ≡ Some (s, k) → row ≡ Some (t, i) → (s ≡ t) × (k ≡ i)
same_owner {s = s} {k = k} {t = t} {i = i} own more = search (arith, common_steps)

-- the first blocks of a list, and others after them
module _ (list more : List ℕ) (first : ℕ) (low : first ≤ length list) where
  short : length (take first list) ≡ first
  short = omega (arith, length-take first list, low)

  pub joined_length : length (take first list ++ more) ≡ first + length more
  joined_length = omega (arith, length-append (take first list) more, short)

  in_first : (i : ℕ) → i < first → get_or (take first list ++ more) i 0 ≡ get_or list i 0
  in_first i lt = search (arith, common_steps)

  in_more : (i : ℕ) → first ≤ i → get_or (take first list ++ more) i 0 ≡ get_or more (i - first) 0
  in_more i from = get_or-append_right (take first list) more first i 0 short from

module _ (old : List Row) (slot first : ℕ) (more : List ℕ) (new : List Row) (hands : HandsOver old slot first more new)
    (no_owner : Unowned old more) where
  -- each block is owned as before, but for the slot's last ones
  preserves : (b s i : ℕ) → Owns old b s i → (s ≡ slot → i < first) → Owns new b s i
  preserves b s i owns low = search (arith, common_steps)

  -- each row was handed over, or was there
  pub row_was : (b s i : ℕ) → Owns new b s i
      → ((j : ℕ) × (j < length more) × (get_or more j 0 ≡ b) × (s ≡ slot) × (i ≡ first + j)) ⊎ (Owns old b s
      i × (s ≡ slot → i < first))
  row_was b s i owns = elim (place_or_out more b) [
    | inl there ↦
        let same = same_owner owns (cc (hands.listed there.at there.below)) in
        inl (there.at, there.below, there.here, same.0, same.1)
    | inr not ↦ inr (by_row not (get_or old b None) refl)
  ]
    where
      low_or : IsOut more b → (t k : ℕ) → Owns old b t k → (t ≢ slot) ⊎ (k < first)
      low_or not t k own = elim (cases_eq t slot) [
        | inl same ↦ elim (cases_lt k first) [
          | inl lt ↦ inr lt
          | inr from ↦ clash (hands.freed b k not from (subst (λ (n : ℕ). Owns old b n k) same own)) owns
        ]
        | inr other ↦ inl other
      ]

      by_row : IsOut more b → (o : Row) → get_or old b None ≡ o → Owns old b s i × (s ≡ slot → i < first)
      by_row not None e = clash (hands.preserved b not (λ k from own. clash e own) ∙ e) owns
      by_row not (Some o) e =
          let stays : (o.0 ≢ slot) ⊎ (o.1 < first) = low_or not o.0 o.1 e in
          let same : get_or new b None ≡ get_or old b None = search (arith, common_steps) in
          let was : Owns old b s i = sym same ∙ owns in
          let is = same_owner was e in
          (was, λ mine. elim stays [ inl other ↦ absurd (other (sym is.0 ∙ mine)) | inr lt ↦ omega (arith, lt, is.1) ])

  pub others_same : SameOthers slot old new
  others_same = grind (arith, common_steps, preserves, row_was)

  once_still : ((a b i : ℕ) → Owns old a slot i → Owns old b slot i → a ≡ b) → (a b i : ℕ) → Owns new a slot i
      → Owns new b slot i → a ≡ b
  once_still once a b i owns owns' = elim (row_was a slot i owns) [
    | inl handed ↦ elim (row_was b slot i owns') [
      | inl handed' ↦ search (arith, common_steps)
      | inr was' ↦ absurd (omega (arith, was'.1 refl, handed.4))
    ]
    | inr was ↦ elim (row_was b slot i owns') [
      | inl handed' ↦ absurd (omega (arith, was.1 refl, handed'.4))
      | inr was' ↦ once a b i was.0 was'.0
    ]
  ]

  -- the slot has one block at each ordinal
  pub owns_one_each : (n : ℕ) → first ≤ n → OwnsOneEach old slot n → OwnsOneEach new slot (first + length more)
  owns_one_each n low one = record {
    there = λ i lt. elim (cases_lt i first) [
      | inl before ↦ let own = one.there i
          (omega (arith, before, low)) in (own.0, preserves own.0 slot i own.1 (λ same. before))
      | inr from ↦
          let at : first + (i - first) ≡ i = omega (arith, from) in (
            get_or more (i - first) 0,
            rw at at (hands.listed (i - first) (omega (arith, lt, from))),
          )
    ];
    once = λ a b i owns owns'. once_still one.once a b i owns owns';
    only = λ b i owns. elim (row_was b slot i owns) [
      | inl handed ↦ omega (arith, handed.4, handed.1)
      | inr was ↦ omega (arith, was.1 refl)
    ];
  }

  -- its blocks by ordinal
  pub owned_now : (list : List ℕ) → first ≤ length list
      → ((i : ℕ) → i < length list → Owns old (get_or list i 0) slot i)
      → (i : ℕ) → i < length (take first list ++ more) → Owns new (get_or (take first list ++ more) i 0) slot i
  owned_now list low owned i lt = elim (cases_lt i first) [
    | inl before ↦ search (arith, common_steps)
    | inr from ↦
        let at : first + (i - first) ≡ i = omega (arith, from) in
        rw (in_more list more first low i from) (subst (λ (k : ℕ). Owns new (get_or more (i - first) 0) slot k) at
        (hands.listed (i - first) (omega (arith, lt, from, joined_length list more first low))))
  ]

  pub listed_now : (list : List ℕ) → first ≤ length list → IsListed old slot list
      → IsListed new slot (take first list ++ more)
  listed_now list low listed = search (arith, common_steps, owned_now, once_still)

  -- rows that fit their bytes still do
  pub fit_now : slot < SLOTS → first + length more ≤ MOST_BLOCKS → ((b : ℕ) → FitsRow (get_or old b None)) → (b : ℕ)
      → FitsRow (get_or new b None)
  fit_now few room fit b = by_row (get_or new b None) refl
    where
      by_row : (o : Row) → get_or new b None ≡ o → FitsRow o
      by_row None e = tt
      by_row (Some o) e = elim (row_was b o.0 o.1 e) [
        | inl handed ↦ (omega (arith, handed.3, few), omega (arith, handed.4, handed.1, room))
        | inr was ↦ subst FitsRow was.0 (fit b)
      ]

  -- the rows differ only where a list has the blocks that were handed over and the slot's last ones
  pub rows_but : (n : ℕ) (list changed : List ℕ) → OwnsOneEach old slot n → IsListed old slot list → length list ≡ n
      → ((b : ℕ) → IsOut changed b → IsOut more b)
      → ((i : ℕ) → first ≤ i → i < n → (k : ℕ) × (k < length changed) × (get_or changed k 0 ≡ get_or list i 0))
      → SameRowsBut changed old new
  rows_but n list changed one listed size covers tail b not = hands.preserved b (covers b not) (λ k from owns.
      let lt = one.only b k owns in
      let at = tail k from lt in
      not at.0 at.1 (at.2 ∙ listed.once (get_or list k 0) b k (listed.owned k (omega (arith, lt, size))) owns))

  pub rows_but_last : (n : ℕ) (list : List ℕ) → OwnsOneEach old slot n → IsListed old slot list → length list ≡ n
      → SameRowsBut (more ++ drop first list) old new
  rows_but_last n list one listed size = rows_but n list (more ++ drop first list) one listed size
      (λ b not k lt same. not k (omega (arith, lt, long)) (get_or_append_left more (drop first list) 0 k lt ∙ same))
      (λ i from lt.
      let at : first + (i - first) ≡ i = omega (arith, from) in (
        length more + (i - first),
        omega (arith, long, lt, from, size, length-drop first list),
        get_or-append-add more
            (drop first list) (i - first) 0 ∙ get_or-drop first list (i - first) 0 ∙ ap (λ (k : ℕ). get_or list k 0) at,
      ))
    where
      long : length (more ++ drop first list) ≡ length more + length (drop first list)
      long = length-append more (drop first list)

-- there are ordinals for the blocks: with the slot's first ones they are no more than all
pub room_for : (rows : List Row) (slot first : ℕ) (list more : List ℕ)
    → ((i : ℕ) → i < length list → Owns rows (get_or list i 0) slot i) → first ≤ length list → Unowned rows more
    → ((i : ℕ) → i < length more → get_or more i 0 < length rows)
    → ((i k : ℕ) → i < k → k < length more → get_or more i 0 ≢ get_or more k 0) → first + length more ≤ length rows
room_for rows slot first list more owned low no_owner below distinct =
    let most = few_distinct (length rows) (take first list ++ more) all_below apart in
    omega (arith, most, long)
  where
    long : length (take first list ++ more) ≡ first + length more
    long = joined_length list more first low

    own : (i : ℕ) → i < first → Owns rows (get_or (take first list ++ more) i 0) slot i
    own i lt = rw (in_first list more first low i lt) (owned i (omega (arith, lt, low)))

    all_below : (i : ℕ) → i < length (take first list ++ more) → get_or (take first list ++ more) i 0 < length rows
    all_below i lt = search (arith, common_steps)

    apart : (i k : ℕ) → i < k → k < length (take first list ++ more)
        → get_or (take first list ++ more) i 0 ≢ get_or (take first list ++ more) k 0
    apart i k lt inside same = grind (arith, common_steps, cases_lt, same_owner, own, clash, long, in_more)
