-- The bytes of words that a pack takes, and where they are written.
use Rattle.std.proofs.Common.{ℕ, zero, suc, ◌+◌, ◌*◌, ◌-◌, ◌/◌, ◌%◌, ◌<◌, ◌≤◌, ◌≡◌, Bool, true, false, cond, ltb, leb}
use Rattle.std.proofs.Common.{List, [], ◌∷◌, ◌++◌, All, map, length, replicate, take, get_or, refl, ap, ap₂, sym}
use Rattle.std.proofs.Common.{◌∙◌, subst, arith, inl, inr, w8}
use Rattle.std.proofs.lemmas.Bool.{and_parts, cases_lt}
use Rattle.std.proofs.lemmas.Bool.Decides.{nat_tests}
use Rattle.std.proofs.lemmas.List.{get_or-map, take-map, map-append, length-take-le, take-take}
use Rattle.std.proofs.lemmas.List.Elements.{All-from_get_or}
use Rattle.std.proofs.lemmas.List.FromFn.{get_or-map-range_with_len}
use Rattle.std.proofs.lemmas.Simd.{Each1-get_or, get_or-replicate, swz_l, length-swz_l, take_more_put_chunk}
use Rattle.std.proofs.Math.Seq.{take-append-add}
use Rattle.std.specs.List.{range_with_len}
use lib.Lanes.{Each1, all_below, mask_l, put_chunk}
use lib.Utf8.{encode, encodes}
use Rattle.enc_model.proofs.Utf8Bytes.{one_byte, two_bytes, three_bytes}
use Rattle.enc_unicode.specs.Packing.{utf8_word, word_bytes, utf8_size, sizes, places, row_of}
use Rattle.enc_unicode.specs.declared.packs.TheConstants.{PACKS}

-- how many bytes units take, by the bits of two masks
abbrev sizes_in : ℕ → ℕ → ℕ → List ℕ
sizes_in zero a b = []
sizes_in (suc n) a b = (3 - a % 2 - b % 2) ∷ sizes_in n (a / 2) (b / 2)

abbrev selected_units : List ℕ → List ℕ
selected_units row = take (get_or row 15 0) row

abbrev wanted : ℕ → List ℕ
wanted i = places 0 (sizes_in 4 (i % 16) (i / 16))

rows : map selected_units PACKS ≡ map wanted (range_with_len 0 256)
rows = refl

smalls : map (all_below 16) PACKS ≡ replicate 256 true
smalls = refl

fews : map (λ row. leb (get_or row 15 0) 12) PACKS ≡ replicate 256 true
fews = refl

wides : map length PACKS ≡ replicate 256 16
wides = refl

many : length PACKS ≡ 256
many = refl

row_at : (i : ℕ) → i < 256 → selected_units (get_or PACKS i []) ≡ wanted i
row_at i inside =
    sym (get_or-map selected_units PACKS i [] [] (omega (arith, many, inside)))
    ∙ ap (λ l. get_or l i []) rows
    ∙ get_or-map-range_with_len wanted 0 256 i i [] inside (omega arith)

pub each_below : (n : ℕ) (ks : List ℕ) → all_below n ks ≡ true → Each1 (λ k. k < n) ks
each_below n [] e = tt
each_below n (k ∷ ks) e =
    let p = and_parts (ltb k n) (all_below n ks) e in
    let l : k < n = grind (arith, nat_tests, p.0) in
    (l, each_below n ks p.1)

-- what is the same at all rows
pub at_row : {A B : Type 0} (f : A → B) (table : List A) (n i : ℕ) (x d : B) (none : A) → map f table ≡ replicate n x
    → length table ≡ n → i < n → f (get_or table i none) ≡ x
at_row f table n i x d none are many inside =
    sym (get_or-map f table i none d (omega (arith, many, inside)))
    ∙ ap (λ l. get_or l i d) are ∙ get_or-replicate n i x d inside

pub all_small : (row : List ℕ) → all_below 16 row ≡ true → All (λ place. place < 16) row
all_small row e = All-from_get_or (λ place. place < 16) row 0 (λ k l. Each1-get_or (λ place. place < 16) row k 0 l
    (each_below 16 row e))

pub small_at : (i : ℕ) → i < 256 → All (λ place. place < 16) (get_or PACKS i [])
small_at i inside = all_small _ (at_row (all_below 16) PACKS 256 i true false [] smalls many inside)

pub few_at : (i : ℕ) → i < 256 → get_or (get_or PACKS i []) 15 0 ≤ 12
few_at i inside =
    let e = at_row (λ row. leb (get_or row 15 0) 12) PACKS 256 i true false [] fews many inside in
    grind (arith, nat_tests, e)

pub wide_at : (i : ℕ) → i < 256 → length (get_or PACKS i []) ≡ 16
wide_at i inside = at_row length PACKS 256 i 16 0 [] wides many inside

pub bit : (b : Bool) (m : ℕ) → ((cond b 1 0 + 2 * m) % 2 ≡ cond b 1 0) × ((cond b 1 0 + 2 * m) / 2 ≡ m)
bit true m = (omega arith, omega arith)
bit false m = (omega arith, omega arith)

size_is : (u : ℕ) → 3 - cond (ltb u 128) 1 0 - cond (ltb u 2048) 1 0 ≡ utf8_size u
size_is u = grind (arith, nat_tests)

sizes_masks : (units : List ℕ) → sizes_in (length units) (mask_l (map (λ u. ltb u 128) units))
    (mask_l (map (λ u. ltb u 2048) units)) ≡ sizes units
sizes_masks [] = refl
sizes_masks (u ∷ units) =
    let a = bit (ltb u 128) (mask_l (map (λ u. ltb u 128) units)) in
    let b = bit (ltb u 2048) (mask_l (map (λ u. ltb u 2048) units)) in
    ap₂ (λ n ns. n ∷ ns) (ap₂ (λ x y. 3 - x - y) a.0 b.0 ∙ size_is u)
    (ap₂ (sizes_in (length units)) a.1 b.1 ∙ sizes_masks units)

-- the pack of four units
pub row_for : (units : List ℕ) (a b : ℕ) → length units ≡ 4 → a ≡ mask_l (map (λ u. ltb u 128) units) → a < 16
    → b ≡ mask_l (map (λ u. ltb u 2048) units) → b < 16 → selected_units (get_or PACKS (a + b * 16) []) ≡ row_of units
row_for units a b long ea la eb lb =
    let low : (a + b * 16) % 16 ≡ a = omega (arith, la) in
    let high : (a + b * 16) / 16 ≡ b = omega (arith, la) in
    row_at (a + b * 16) (omega (arith, la, lb))
    ∙ ap₂ (λ x y. places 0 (sizes_in 4 x y)) (low ∙ ea) (high ∙ eb)
    ∙ ap (places 0) (subst (λ n. sizes_in n (mask_l (map (λ u. ltb u 128) units))
    (mask_l (map (λ u. ltb u 2048) units)) ≡ sizes units) long (sizes_masks units))

-- a unit's bytes at a place: of one below 800, whose word has one byte or two, and of any
pub short_unit : (bytes : List ℕ) (p u w : ℕ) → u < 2048 → (u < 128 → w ≡ u)
    → (128 ≤ u → w ≡ 0x80C0 + u / 64 + 256 * (u % 64)) → get_or bytes p 0 ≡ w % 256
    → get_or bytes (p + 1) 0 ≡ w / 256 % 256 →
    map (λ j. get_or bytes j 0) (range_with_len p (utf8_size u)) ≡ encode u
short_unit bytes p u w small one two first second =
    elim (cases_lt u 128) [
      | inl l ↦
          let n : utf8_size u ≡ 1 = grind (arith, nat_tests, l) in
          ap (λ n. map (λ j. get_or bytes j 0) (range_with_len p n)) n
          ∙ ap (λ x. x ∷ []) (first ∙ ap (λ w. w % 256) (one l) ∙ omega (arith, l)) ∙ sym (one_byte u l)
      | inr h ↦
          let n : utf8_size u ≡ 2 = grind (arith, nat_tests, small, h) in
          ap (λ n. map (λ j. get_or bytes j 0) (range_with_len p n)) n
          ∙ ap₂ (λ x y. x ∷ y ∷ []) (first ∙ ap (λ w. w % 256) (two h) ∙ omega (arith, small))
          (second ∙ ap (λ w. w / 256 % 256) (two h) ∙ omega (arith, small)) ∙ sym (two_bytes u h small)
    ]

one_unit : (bytes : List ℕ) (p u : ℕ) → u < 65536 → get_or bytes p 0 ≡ utf8_word u % 256
    → get_or bytes (p + 1) 0 ≡ utf8_word u / 256 % 256 → get_or bytes (p + 1 + 1) 0 ≡ utf8_word u / 65536 % 256 →
    map (λ j. get_or bytes j 0) (range_with_len p (utf8_size u)) ≡ encode u
one_unit bytes p u small first second third =
    elim (cases_lt u 2048) [
      | inl l ↦ short_unit bytes p u (utf8_word u) l (λ h. grind (arith, nat_tests, h))
          (λ h. grind (arith, nat_tests, h, l))
          first second
      | inr g ↦
          let n : utf8_size u ≡ 3 = grind (arith, nat_tests, g) in
          let w : utf8_word u ≡ 0x8080E0 + u / 4096 + 256 * (u / 64 % 64) + 65536 * (u % 64) =
          grind (arith, nat_tests, g) in
          let x : utf8_word u % 256 ≡ 224 + u / 4096 = ap (λ w. w % 256) w ∙ omega (arith, small) in
          let y : utf8_word u / 256 % 256 ≡ 128 + u / 64 % 64 = ap (λ w. w / 256 % 256) w ∙ omega (arith, small) in
          let z : utf8_word u / 65536 % 256 ≡ 128 + u % 64 = ap (λ w. w / 65536 % 256) w ∙ omega (arith, small) in
          ap (λ n. map (λ j. get_or bytes j 0) (range_with_len p n)) n
          ∙ ap₂ (λ x rest. x ∷ rest) (first ∙ x) (ap₂ (λ y z. y ∷ z ∷ []) (second ∙ y) (third ∙ z))
          ∙ sym (three_bytes u g small)
    ]

picked : (units : List ℕ) → length units ≡ 4 → Each1 (λ u. u < 65536) units →
    map (λ j. get_or (word_bytes (map utf8_word units)) j 0) (row_of units) ≡ encodes units
picked [] long small = absurd (omega (arith, long))
picked (a ∷ []) long small = absurd (omega (arith, long))
picked (a ∷ b ∷ []) long small = absurd (omega (arith, long))
picked (a ∷ b ∷ c ∷ []) long small = absurd (omega (arith, long))
picked (a ∷ b ∷ c ∷ d ∷ e ∷ more) long small = absurd (omega (arith, long))
picked (a ∷ b ∷ c ∷ d ∷ []) long small =
    let bytes = word_bytes (map utf8_word (a ∷ b ∷ c ∷ d ∷ [])) in
    let get : ℕ → ℕ = λ j. get_or bytes j 0 in
    map-append get (range_with_len 0 (utf8_size a)) _
    ∙ ap₂ (λ x y. x ++ y) (one_unit bytes 0 a small.0 refl refl refl)
    (map-append get (range_with_len 4 (utf8_size b)) _
    ∙ ap₂ (λ x y. x ++ y) (one_unit bytes 4 b small.1.0 refl refl refl)
    (map-append get (range_with_len 8 (utf8_size c)) _
    ∙ ap₂ (λ x y. x ++ y) (one_unit bytes 8 c small.1.1.0 refl refl refl)
    (map-append get (range_with_len 12 (utf8_size d)) _
    ∙ ap₂ (λ x y. x ++ y) (one_unit bytes 12 d small.1.1.1.0 refl refl refl) refl)))

not_high : (j : ℕ) → j < 16 → leb 128 j ≡ false
not_high j l = grind (arith, nat_tests)

swz_picks : (xs : List ℕ) (i : ℕ) (js : List ℕ) → i + length js ≤ 16 → Each1 (λ j. j < 16) js →
    swz_l w8 16 xs i js ≡ map (λ j. get_or xs j 0) js
swz_picks xs i [] room small = refl
swz_picks xs i (j ∷ js) room small =
    let place : 16 * (i / 16) + j ≡ j = omega (arith, room) in
    ap₂ (λ y ys. y ∷ ys)
    (ap₂ (λ high k. cond high zero (get_or xs k zero)) (not_high j small.0) place)
    (swz_picks xs (suc i) js (omega (arith, room)) small.1)

-- the picked bytes that count, after the first so many
pub picks_written : (text row bytes code : List ℕ) (from n : ℕ) → length row ≡ 16 → Each1 (λ j. j < 16) row → n ≤ 16
    → from + 16 ≤ length code → map (λ j. get_or bytes j 0) (take n row) ≡ text →
    take (from + n) (put_chunk from code (swz_l w8 16 bytes 0 row)) ≡ take from code ++ text
picks_written text row bytes code from n wide below few room is =
    let out = swz_l w8 16 bytes 0 row in
    let whole = put_chunk from code out in
    let prefix = take from code in
    let out_long : length out ≡ 16 = length-swz_l w8 16 bytes 0 row ∙ wide in
    let prefix_long : length prefix ≡ from = length-take-le from code (omega (arith, room)) in
    let picked : take n out ≡ text =
    ap (take n) (swz_picks bytes 0 row (omega (arith, wide)) below) ∙ take-map (λ j. get_or bytes j 0) n row ∙ is in
    sym (take-take (from + n) (from + 16) whole (omega (arith, few)))
    ∙ ap (take (from + n)) (take_more_put_chunk from code out (from + 16) (omega (arith, out_long)) room)
    ∙ subst (λ k. take (k + n) (prefix ++ out) ≡ prefix ++ take n out) prefix_long (take-append-add prefix out n)
    ∙ ap (λ z. prefix ++ z) picked

-- four units after the first so many bytes
pub four_written : (units row bytes code : List ℕ) (from : ℕ) → length units ≡ 4 → Each1 (λ u. u < 65536) units →
    length row ≡ 16 → Each1 (λ j. j < 16) row → bytes ≡ word_bytes (map utf8_word units)
    → selected_units row ≡ row_of units
    → get_or row 15 0 ≤ 12 → from + 16 ≤ length code →
    take (from + get_or row 15 0) (put_chunk from code (swz_l w8 16 bytes 0 row)) ≡ take from code ++ encodes units
four_written units row bytes code from long small wide below are is few room =
    picks_written (encodes units) row bytes code from (get_or row 15 0) wide below (omega (arith, few)) room
    (ap₂ (λ bs js. map (λ j. get_or bs j 0) js) are is ∙ picked units long small)
