-- What the counts come to: a slot's own blocks, the owned and the reserved ones without some, and none at all.
use Rattle.std.proofs.Common.{◌≡◌, ℕ, zero, suc, ◌+◌, ◌<◌, List, [], ◌∷◌, Bool, true, false, None, Some, length, get_or}
use Rattle.std.proofs.Common.{slice_set, refl, arith, ◌==◌, if◌then◌else◌}
use Rattle.std.proofs.lemmas.Bool.Decides.{nat_tests}
use Rattle.spool_blocks.specs.Blocks.{Row, IsFree, free_count, reserved_count, owned_count, is_slots}
use Rattle.spool_blocks.specs.Blocks.{slot_count, IsWholeText}
use Rattle.spool_blocks.specs.Chains.{Owns, OwnsOneEach}
use Rattle.spool_blocks.proofs.Counts.{within}
use Rattle.spool_blocks.proofs.Links.{count_less, sets}

-- A SLOT

pub none_counted : (slot : ℕ) (rows : List Row) → ((b i : ℕ) → Owns rows b slot i → ⊥) → slot_count slot rows ≡ 0
unfolding slot_count is_slots
none_counted slot [] none = refl
none_counted slot (None ∷ rows) none = omega (arith, none_counted slot rows (λ b i own. none (suc b) i own))
none_counted slot (Some o ∷ rows) none =
    let other = none 0 o.1 in
    grind (arith, none_counted slot rows (λ b i own. none (suc b) i own), nat_tests)

-- without its highest block
one_less : (n slot t : ℕ) (rows : List Row) → OwnsOneEach rows slot (suc n) → Owns rows t slot n
    → OwnsOneEach (slice_set rows t None) slot n
one_less n slot t rows owns top = record {
  there = λ i lt. let at = owns.there i (omega (arith, lt)) in (at.0, grind sets);
  once = λ a b i own own'. owns.once a b i (back a i own).1 (back b i own').1;
  only = λ b i own. let was = back b i own in grind (arith, owns.only b i was.1, owns.once b t n);
}
  where
    back : (b i : ℕ) → Owns (slice_set rows t None) b slot i → (b ≡ t → ⊥) × Owns rows b slot i
    back b i own = let lt = within rows t (slot, n) top in grind sets

-- as many as there are ordinals
pub each_counted : (n slot : ℕ) (rows : List Row) → OwnsOneEach rows slot n → slot_count slot rows ≡ n
each_counted zero slot rows owns = none_counted slot rows (λ b i own. absurd (omega (arith, owns.only b i own)))
each_counted (suc n) slot rows owns =
    let top = owns.there n (omega arith) in
    let less : slot_count slot (slice_set rows top.0 None) + 1 ≡ slot_count slot rows =
    count_less slot n rows top.0 (within rows top.0 (slot, n) top.1) top.1 in
    omega (arith, less, each_counted n slot (slice_set rows top.0 None) (one_less n slot top.0 rows owns top.1))

pub whole : (n slot : ℕ) (rows : List Row) → OwnsOneEach rows slot n → IsWholeText slot rows
whole n slot rows owns = record {
  there = λ i lt. owns.there i (omega (arith, lt, each_counted n slot rows owns));
  once = owns.once;
}

-- ALL ROWS

pub none_owned : (rows : List Row) → ((b s k : ℕ) → Owns rows b s k → ⊥) → owned_count rows ≡ 0
unfolding owned_count
none_owned [] none = refl
none_owned (None ∷ rows) none = none_owned rows (λ b s k own. none (suc b) s k own)
none_owned (Some o ∷ rows) none = absurd (none 0 o.0 o.1 refl)

-- the slot owns nothing any more
row_without : ℕ → Row → Row
row_without slot None = None
row_without slot (Some o) = if o.0 == slot then None else Some o

pub rows_without : ℕ → List Row → List Row
rows_without slot [] = []
rows_without slot (row ∷ rows) = row_without slot row ∷ rows_without slot rows

pub owned_without : (slot : ℕ) (rows : List Row) → owned_count rows ≡ slot_count slot rows + owned_count
    (rows_without slot rows)
unfolding owned_count slot_count is_slots rows_without row_without
owned_without slot [] = refl
owned_without slot (None ∷ rows) = omega (arith, owned_without slot rows)
owned_without slot (Some o ∷ rows) = grind (arith, owned_without slot rows)

row_at : (slot : ℕ) (rows : List Row) (b : ℕ) → get_or (rows_without slot rows) b None ≡ row_without slot
    (get_or rows b None)
unfolding rows_without row_without
row_at slot [] b = refl
row_at slot (row ∷ rows) zero = refl
row_at slot (row ∷ rows) (suc b) = row_at slot rows b

-- what the others own
pub owns_without : (slot : ℕ) (rows : List Row) (b s k : ℕ) → (s ≡ slot → ⊥) → Owns rows b s k
    → Owns (rows_without slot rows) b s k
unfolding row_without
owns_without slot rows b s k ne own = grind (arith, row_at, nat_tests)

pub owned_with : (slot : ℕ) (rows : List Row) (b s k : ℕ) → Owns (rows_without slot rows) b s k
    → (s ≡ slot → ⊥) × Owns rows b s k
unfolding row_without
owned_with slot rows b s k own = grind (arith, row_at, nat_tests)

-- FLAGS

pub none_reserved : (rows : List Row) (flags : List Bool) → ((b : ℕ) → get_or flags b false ≡ true → ⊥)
    → reserved_count rows flags ≡ 0
unfolding reserved_count
none_reserved [] flags none = refl
none_reserved (row ∷ rows) [] none = grind arith
none_reserved (row ∷ rows) (f ∷ flags) none =
    let first = none 0 in
    let rest = none_reserved rows flags (λ b flagged. none (suc b) flagged) in
    grind arith

pub one_reserved : (rows : List Row) (flags : List Bool) (b : ℕ) → b < length rows → get_or rows b None ≡ None
    → get_or flags b false ≡ true → reserved_count rows (slice_set flags b false) + 1 ≡ reserved_count rows flags
unfolding reserved_count
one_reserved [] flags b lt free flagged = absurd (omega (arith, lt))
one_reserved (row ∷ rows) [] b lt free flagged = absurd cc
one_reserved (row ∷ rows) (f ∷ flags) zero lt free flagged = grind arith
one_reserved (row ∷ rows) (f ∷ flags) (suc b) lt free flagged = grind (arith, one_reserved rows flags b)

pub none_free : (rows : List Row) (flags : List Bool)
    → ((b : ℕ) → IsFree (record { rows = rows; reserved = flags }) b → ⊥) → free_count rows flags ≡ 0
unfolding free_count
none_free [] flags none = refl
none_free (row ∷ rows) [] none = grind arith
none_free (row ∷ rows) (f ∷ flags) none =
    let first = λ (no : row ≡ None) (not : f ≡ false).
    none 0 (record { below = omega arith; no_owner = no; not_reserved = not }) in
    let rest = none_free rows flags (λ b free. none (suc b)
    (record { below = omega (arith, free.below); no_owner = free.no_owner; not_reserved = free.not_reserved })) in
    grind arith
