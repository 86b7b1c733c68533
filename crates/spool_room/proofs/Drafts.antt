-- The blocks of the drafts' lists are the reserved ones.
use Rattle.std.proofs.Common.{◌≡◌, ◌≢◌, ℕ, zero, suc, ◌+◌, ◌<◌, List, [], ◌∷◌, Bool, true, false, length, get_or}
use Rattle.std.proofs.Common.{slice_set, Option, None, Some, refl, sym, ◌∙◌, ap, subst, arith, ⊎_elim, eq-eqb}
use Rattle.std.proofs.lemmas.Bool.{cases_eq, ne_eqb}
use Rattle.std.proofs.lemmas.List.{get_or-set_other}
use Rattle.enc_model.specs.Indexes.{IndexSet}
use Rattle.spool_blocks.specs.Blocks.{Row, Held, reserved_count}
use Rattle.spool_blocks.proofs.Totals.{none_reserved, one_reserved}
use Rattle.spool_texts.specs.Drafts.{IsReserved}
use Rattle.spool_texts.specs.Written.{NoneOf}
use Rattle.upload_rules.specs.Store.{find}
use Rattle.upload_rules.specs.World.{Patch}
use Rattle.upload_rules.specs.Apart.{IsApart}
use Rattle.upload_rules.specs.Room.{need, needs_but}
use Rattle.spool_room.specs.Holdings.{Reserves}
use Rattle.spool_room.proofs.Numbers.{first_found, found_after, is_other, found_later}

-- A LIST

-- the block is not in the list
IsAway : ℕ → List ℕ → Type 0
IsAway b list = (i : ℕ) → i < length list → get_or list i 0 ≢ b

-- the blocks of the list are reserved no more
unset : List Bool → List ℕ → List Bool
unset flags [] = flags
unset flags (b ∷ list) = unset (slice_set flags b false) list

set_false : (flags : List Bool) (b : ℕ) → get_or (slice_set flags b false) b false ≡ false
set_false [] b = refl
set_false (f ∷ flags) zero = refl
set_false (f ∷ flags) (suc b) = set_false flags b

-- what is still reserved was so before, and is not in the list
module _ (b : ℕ) where
  was_set : (flags : List Bool) (a : ℕ) → get_or (slice_set flags a false) b false ≡ true
      → (get_or flags b false ≡ true) × (a ≢ b)
  was_set flags a flagged =
      let ne : a ≢ b = λ e. false_true
      (sym (set_false flags b) ∙ ap (λ (k : ℕ). get_or (slice_set flags k false) b false) (sym e) ∙ flagged) in
      (sym (get_or-set_other flags a b false false (λ e. ne (sym e))) ∙ flagged, ne)
    where
      false_true : false ≡ true → ⊥
      false_true e = cc

  still_set : (list : List ℕ) (flags : List Bool) → get_or (unset flags list) b false ≡ true
      → (get_or flags b false ≡ true) × IsAway b list
  unfolding unset IsAway
  still_set [] flags flagged = (flagged, λ i lt e. absurd (omega (arith, lt)))
  still_set (a ∷ list) flags flagged =
      let later = still_set list (slice_set flags a false) flagged in
      let first = was_set flags a later.0 in
      (first.0, away first.1 later.1)
    where
      away : a ≢ b → ((i : ℕ) → i < length list → get_or list i 0 ≢ b) → (i : ℕ) → i < length (a ∷ list)
          → get_or (a ∷ list) i 0 ≢ b
      away ne rest zero lt = ne
      away ne rest (suc i) lt = rest i (omega (arith, lt))

  set_unchanged : (list : List ℕ) (flags : List Bool) → IsAway b list → get_or flags b false ≡ true
      → get_or (unset flags list) b false ≡ true
  unfolding unset IsAway
  set_unchanged [] flags away flagged = flagged
  set_unchanged (a ∷ list) flags away flagged =
      set_unchanged list (slice_set flags a false) (λ i lt. away (suc i) (omega (arith, lt)))
      (get_or-set_other flags a b false false (λ e. away 0 (omega arith) (sym e)) ∙ flagged)

-- reserved blocks are as many fewer
list_less : (rows : List Row) (list : List ℕ) (flags : List Bool) → IsReserved (record {
  rows = rows;
  reserved = flags;
}) list → reserved_count rows flags ≡ reserved_count rows (unset flags list) + length list
unfolding unset
list_less rows [] flags reserved = omega arith
list_less rows (b ∷ list) flags reserved =
    let one = one_reserved rows flags b (reserved.below 0 (omega arith)) (reserved.no_owner 0 (omega arith))
    (reserved.reserved 0 (omega arith)) in
    omega (
      arith,
      one,
      list_less rows list (slice_set flags b false) (record {
        below = λ i lt. reserved.below (suc i) (omega (arith, lt));
        reserved = λ i lt. get_or-set_other flags b (get_or list i 0) false false
            (λ e. reserved.distinct 0 (suc i) (omega arith) (omega (arith, lt)) (sym e))
            ∙ reserved.reserved (suc i) (omega (arith, lt));
        no_owner = λ i lt. reserved.no_owner (suc i) (omega (arith, lt));
        distinct = λ i k lt lt'. reserved.distinct (suc i) (suc k) (omega (arith, lt)) (omega (arith, lt'));
      }),
    )

-- lists that have no block of this one
other_list : (rows : List Row) (flags : List Bool) (list other : List ℕ) → NoneOf list other → IsReserved (record {
  rows = rows;
  reserved = flags;
}) other → IsReserved (record { rows = rows; reserved = unset flags list }) other
unfolding IsAway
other_list rows flags list other none reserved = record {
  below = reserved.below;
  reserved = λ i lt. set_unchanged (get_or other i 0) list flags (λ k lt'. none k i lt' lt) (reserved.reserved i lt);
  no_owner = reserved.no_owner;
  distinct = reserved.distinct;
}

-- ALL LISTS

-- the block is in the list of a patch but the draft d
record IsNeeded (patches : List (ℕ × Patch)) (lists : ℕ → List ℕ) (d b : ℕ) : Type 0 where
  list : ℕ
  patch : Patch
  there : find list patches ≡ Some patch
  other : list ≢ d
  at : ℕ
  below : at < length (lists list)
  here : get_or (lists list) at 0 ≡ b

-- the lists of these patches but the draft d are what is reserved
record Needs (x : IndexSet) (patches : List (ℕ × Patch)) (lists : ℕ → List ℕ) (d : ℕ) (rows : List Row)
    (flags : List Bool) : Type 0 where
  apart : IsApart patches
  reserved : (e : ℕ) (p : Patch) → e ≢ d → find e patches ≡ Some p → IsReserved (record {
    rows = rows;
    reserved = flags;
  }) (lists e)
  distinct : (e f : ℕ) → e ≢ f → NoneOf (lists e) (lists f)
  all : (b : ℕ) → get_or flags b false ≡ true → IsNeeded patches lists d b
  needs : (e : ℕ) (p : Patch) → e ≢ d → find e patches ≡ Some p → length (lists e) ≡ need x p false

module _ (x : IndexSet) (entry : ℕ × Patch) (patches : List (ℕ × Patch)) (lists : ℕ → List ℕ) (d : ℕ) (rows : List Row)
    (flags : List Bool) (all : Needs x (entry ∷ patches) lists d rows flags) where
  later : (e : ℕ) (p : Patch) → find e patches ≡ Some p → find e (entry ∷ patches) ≡ Some p
  later e p there = found_later e p entry patches all.apart.0 there

  after : (b : ℕ) (needed : IsNeeded (entry ∷ patches) lists d b) → entry.0 ≢ needed.list → IsNeeded patches lists d b
  after b needed ne = record {
    list = needed.list;
    patch = needed.patch;
    there = sym (found_after needed.list entry patches ne) ∙ needed.there;
    other = needed.other;
    at = needed.at;
    below = needed.below;
    here = needed.here;
  }

  -- the first entry is the draft's
  rest_at_draft : entry.0 ≡ d → Needs x patches lists d rows flags
  rest_at_draft same = record {
    apart = all.apart.1;
    reserved = λ e p ne there. all.reserved e p ne (later e p there);
    distinct = all.distinct;
    all = λ b flagged. let needed = all.all b flagged in after b needed (λ e. needed.other (sym e ∙ same));
    needs = λ e p ne there. all.needs e p ne (later e p there);
  }

  -- the first entry's blocks are reserved no more
  rest_without : entry.0 ≢ d → Needs x patches lists d rows (unset flags (lists entry.0))
  unfolding IsAway
  rest_without other = record {
    apart = all.apart.1;
    reserved = λ e p ne there. other_list rows flags (lists entry.0) (lists e)
        (all.distinct entry.0 e (is_other e p entry patches all.apart.0 there)) (all.reserved e p ne (later e p there));
    distinct = all.distinct;
    all = λ b flagged.
        let still = still_set b (lists entry.0) flags flagged in
        let needed = all.all b still.0 in
        after b needed (λ e. still.1 needed.at (subst (λ (k : ℕ). needed.at < length (lists k)) (sym e) needed.below)
        (ap (λ (k : ℕ). get_or (lists k) needed.at 0) e ∙ needed.here));
    needs = λ e p ne there. all.needs e p ne (later e p there);
  }

needs_total : (x : IndexSet) (patches : List (ℕ × Patch)) (lists : ℕ → List ℕ) (d : ℕ) (rows : List Row)
    (flags : List Bool) → Needs x patches lists d rows flags → reserved_count rows flags ≡ needs_but d x patches
needs_total x [] lists d rows flags all = none_reserved rows flags (λ b flagged. no_patch (all.all b flagged))
  where
    no_patch : {b : ℕ} → IsNeeded [] lists d b → ⊥
    no_patch needed = let there : None ≡ Some needed.patch = needed.there in cc
needs_total x (entry ∷ patches) lists d rows flags all = ⊎_elim
    (λ (same : entry.0 ≡ d). needs_total x patches lists d rows flags
    (rest_at_draft x entry patches lists d rows flags all same) ∙ sym (rw (eq-eqb entry.0 d same) (omega arith)))
    (λ (other : entry.0 ≢ d).
    let its = all.needs entry.0 entry.1 other (first_found entry patches) in
    let rest = needs_total x patches lists d rows (unset flags (lists entry.0))
    (rest_without x entry patches lists d rows flags all other) in
    let less = list_less rows (lists entry.0) flags (all.reserved entry.0 entry.1 other (first_found entry patches)) in
    sym (rw (ne_eqb entry.0 d other) (omega (arith, its, rest, less))))
    (cases_eq entry.0 d)

-- without the draft's own list
module _ (x : IndexSet) (patches : List (ℕ × Patch)) (lists : ℕ → List ℕ) (d : ℕ) (h : Held)
    (reserves : Reserves x patches lists d h) where
  -- a list with a block is the draft's or a patch's
  needed : (b : ℕ) (list at : ℕ) → list ≢ d → at < length (lists list) → get_or (lists list) at 0 ≡ b
      → IsNeeded patches lists d b
  needed b list at other lt here = by_patch (find list patches) refl
    where
      by_patch : (o : Option Patch) → find list patches ≡ o → IsNeeded patches lists d b
      by_patch (Some p) e = record {
        list = list;
        patch = p;
        there = e;
        other = other;
        at = at;
        below = lt;
        here = here;
      }
      by_patch None e = absurd (omega (arith, lt, ap length (reserves.none list other e)))

  others : Needs x patches lists d h.rows (unset h.reserved (lists d))
  unfolding IsAway
  others = record {
    apart = reserves.apart;
    reserved = λ e p ne there. other_list h.rows h.reserved (lists d) (lists e)
        (reserves.distinct d e (λ f. ne (sym f))) (reserves.reserved e);
    distinct = reserves.distinct;
    all = λ b flagged.
        let still = still_set b (lists d) h.reserved flagged in
        let some = reserves.all b still.0 in
        needed b some.list some.at
        (λ e. still.1 some.at (subst (λ (k : ℕ). some.at < length (lists k)) e some.below)
        (ap (λ (k : ℕ). get_or (lists k) some.at 0) (sym e) ∙ some.here)) some.below some.here;
    needs = reserves.needs;
  }

  pub reserved_needs : reserved_count h.rows h.reserved ≡ needs_but d x patches + length (lists d)
  reserved_needs =
      omega (
        arith,
        list_less h.rows (lists d) h.reserved (reserves.reserved d),
        needs_total x patches lists d h.rows
            (unset h.reserved (lists d)) others,
      )
