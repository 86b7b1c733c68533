-- The bytes of words of units below 800 that a pack takes, and where they are written.
use Rattle.std.proofs.Common.{ℕ, zero, suc, ◌+◌, ◌-◌, ◌/◌, ◌%◌, ◌<◌, ◌≤◌, ◌≡◌, true, false, cond, ltb}
use Rattle.std.proofs.Common.{List, [], ◌∷◌, ◌++◌, All, map, length, replicate, take, drop, get_or, refl, ap, ap₂}
use Rattle.std.proofs.Common.{sym, ◌∙◌, subst, arith, w8}
use Rattle.std.proofs.lemmas.Bool.Decides.{nat_tests}
use Rattle.std.proofs.lemmas.List.{get_or-drop, drop-drop, map-append}
use Rattle.std.proofs.lemmas.List.FromFn.{get_or-map-range_with_len, get_or-range_with_len, length-range_with_len}
use Rattle.std.proofs.lemmas.Simd.{get_or-zip2, swz_l}
use Rattle.std.specs.List.{range_with_len}
use Rattle.std.specs.Prelude.{count_ones}
use lib.Lanes.{Each1, all_below, mask_l, put_chunk, zip2}
use lib.Utf8.{encode, encodes}
use Rattle.enc_unicode.specs.Packing.{narrow_word, narrow_word_bytes, narrow_places, narrow_row_of, utf8_size, sizes}
use Rattle.enc_unicode.specs.declared.narrow_packs.TheConstants.{NARROW_PACKS}
use Rattle.enc_unicode.proofs.Places.{all_small, at_row, bit, picks_written, short_unit}

-- how many bytes units below 800 take, by the bits of a mask
abbrev sizes_in : ℕ → ℕ → List ℕ
sizes_in zero a = []
sizes_in (suc n) a = (2 - a % 2) ∷ sizes_in n (a / 2)

abbrev selected_units : ℕ → List ℕ → List ℕ
selected_units i row = take (16 - count_ones i) row

abbrev wanted : ℕ → List ℕ
wanted i = narrow_places 0 (sizes_in 8 i)

rows : zip2 selected_units (range_with_len 0 256) NARROW_PACKS ≡ map wanted (range_with_len 0 256)
unfolding lib.Count.ones
rows = refl

smalls : map (all_below 16) NARROW_PACKS ≡ replicate 256 true
smalls = refl

wides : map length NARROW_PACKS ≡ replicate 256 16
wides = refl

many : length NARROW_PACKS ≡ 256
many = refl

row_at : (i : ℕ) → i < 256 → selected_units i (get_or NARROW_PACKS i []) ≡ wanted i
row_at i inside =
    let place : get_or (range_with_len 0 256) i 0 ≡ i = get_or-range_with_len 0 256 i 0 inside ∙ omega arith in
    ap (λ k. selected_units k (get_or NARROW_PACKS i [])) (sym place)
    ∙ sym (get_or-zip2 selected_units (range_with_len 0 256) NARROW_PACKS i 0 [] []
    (omega (arith, length-range_with_len 0 256, inside)) (omega (arith, many, inside)))
    ∙ ap (λ l. get_or l i []) rows
    ∙ get_or-map-range_with_len wanted 0 256 i i [] inside (omega arith)

pub small_at : (i : ℕ) → i < 256 → All (λ place. place < 16) (get_or NARROW_PACKS i [])
small_at i inside = all_small _ (at_row (all_below 16) NARROW_PACKS 256 i true false [] smalls many inside)

pub wide_at : (i : ℕ) → i < 256 → length (get_or NARROW_PACKS i []) ≡ 16
wide_at i inside = at_row length NARROW_PACKS 256 i 16 0 [] wides many inside

size_is : (u : ℕ) → u < 2048 → 2 - cond (ltb u 128) 1 0 ≡ utf8_size u
size_is u small = grind (arith, nat_tests, small)

sizes_masks : (units : List ℕ) → Each1 (λ u. u < 2048) units
    → sizes_in (length units) (mask_l (map (λ u. ltb u 128) units)) ≡ sizes units
sizes_masks [] small = refl
sizes_masks (u ∷ units) small =
    let a = bit (ltb u 128) (mask_l (map (λ u. ltb u 128) units)) in
    ap₂ (λ n ns. n ∷ ns) (ap (λ x. 2 - x) a.0 ∙ size_is u small.0)
    (ap (sizes_in (length units)) a.1 ∙ sizes_masks units small.1)

-- the pack of eight units
pub row_for : (units : List ℕ) (a : ℕ) → length units ≡ 8 → Each1 (λ u. u < 2048) units
    → a ≡ mask_l (map (λ u. ltb u 128) units) → a < 256 → selected_units a (get_or NARROW_PACKS a []) ≡ narrow_row_of
    units
row_for units a long small ea la =
    row_at a la ∙ ap (λ x. narrow_places 0 (sizes_in 8 x)) ea
    ∙ ap (narrow_places 0) (subst (λ n. sizes_in n (mask_l (map (λ u. ltb u 128) units)) ≡ sizes units) long
    (sizes_masks units small))

-- a unit's bytes at a place
one_unit : (bytes : List ℕ) (p u : ℕ) → u < 2048 → get_or bytes p 0 ≡ narrow_word u % 256
    → get_or bytes (p + 1) 0 ≡ narrow_word u / 256 % 256 →
    map (λ j. get_or bytes j 0) (range_with_len p (utf8_size u)) ≡ encode u
one_unit bytes p u small =
    short_unit bytes p u (narrow_word u) small (λ h. grind (arith, nat_tests, h)) (λ h. grind (arith, nat_tests, h))

-- the bytes from a place on
at_drop : (bytes : List ℕ) (p k : ℕ) (rest : List ℕ) → drop p bytes ≡ rest → get_or bytes (p + k) 0 ≡ get_or rest k 0
at_drop bytes p k rest is = sym (get_or-drop p bytes k 0) ∙ ap (λ l. get_or l k 0) is

pub picked : (bytes : List ℕ) (p : ℕ) (units : List ℕ) → Each1 (λ u. u < 2048) units
    → drop p bytes ≡ narrow_word_bytes (map narrow_word units) →
    map (λ j. get_or bytes j 0) (narrow_places p (sizes units)) ≡ encodes units
picked bytes p [] small is = refl
picked bytes p (u ∷ units) small is =
    let get : ℕ → ℕ = λ j. get_or bytes j 0 in
    let rest = narrow_word_bytes (map narrow_word (u ∷ units)) in
    let here : get_or bytes p 0 ≡ narrow_word u % 256 = subst (λ k. get_or bytes k 0 ≡ narrow_word u % 256)
    (omega arith) (at_drop bytes p 0 rest is) in
    let next : drop (p + 2) bytes ≡ narrow_word_bytes (map narrow_word units) =
    sym (drop-drop 2 p bytes) ∙ ap (drop 2) is in
    map-append get (range_with_len p (utf8_size u)) _
    ∙ ap₂ (λ x y. x ++ y) (one_unit bytes p u small.0 here (at_drop bytes p 1 rest is))
    (picked bytes (p + 2) units small.1 next)

-- eight units after the first so many bytes
pub eight_written : (units row bytes code : List ℕ) (from n : ℕ) → Each1 (λ u. u < 2048) units →
    length row ≡ 16 → Each1 (λ j. j < 16) row → bytes ≡ narrow_word_bytes (map narrow_word units)
    → take n row ≡ narrow_row_of units → n ≤ 16 → from + 16 ≤ length code →
    take (from + n) (put_chunk from code (swz_l w8 16 bytes 0 row)) ≡ take from code ++ encodes units
eight_written units row bytes code from n small wide below are is few room =
    picks_written (encodes units) row bytes code from n wide below few room
    (ap (map (λ j. get_or bytes j 0)) is ∙ picked bytes 0 units small are)
