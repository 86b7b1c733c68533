-- An area compared with the set that was written to it.
use Rattle.std.proofs.Common.{◌≡◌, ℕ, zero, suc, ◌+◌, ◌-◌, ◌*◌, ◌/◌, ◌%◌, ◌^◌, ◌<◌, ◌≤◌, Bool, true, false, cond, ◌&&◌}
use Rattle.std.proofs.Common.{List, [], ◌∷◌, ◌++◌, length, Option, Some, None, refl, sym, ◌∙◌, ap, arith, slice_index}
use Rattle.std.proofs.Common.{slice_index_or, IfSome, unwrap_or, SomeIff, MatchOption, nat_lt, nat_le, ◌==◌, inl, inr}
use Rattle.std.proofs.Common.{lit<, lit≤, subst}
use Rattle.std.proofs.lemmas.Bool.Decides.{nat_tests}
use Rattle.std.proofs.lemmas.Bool.{and_parts, cases_lt, leb-true, ltb-true}
use Rattle.std.proofs.lemmas.List.{get_or_past}
use Rattle.std.proofs.lemmas.Nat.{from_be_bytes-to_be_bytes_4, be_bytes_4}
use Rattle.std.specs.Char.{IsScalar, InScalarRange, OutOfScalarRange}
use Rattle.enc_model.specs.Index.{Index, code}
use Rattle.enc_model.specs.Indexes.{IndexSet}
use Rattle.enc_index.specs.Scalars.{is_scalar}
use Rattle.enc_index.specs.Entries.{pairs_from, AreScalarEntries, ascends}
use Rattle.enc_index.specs.Sets.{IsIndex, IsIndexSet}
use Rattle.enc_index.proofs.Lookups.{code_of_none}
use Rattle.enc_index.proofs.Reading.{none}
use Rattle.std.specs.Int.{to_be_bytes, w32}
use Rattle.enc_index.specs.Area.{nth_file, flag, spot_of, entry_of, entry_at, area_byte, IsAreaOf, word_of}
use Rattle.enc_index.specs.Area.{scalar_in_entry}
use Rattle.enc_index.specs.Area.{IsFileIn}
use Rattle.enc_index.specs.Compared.{HasFiles, HasMargins}

pub from_scalar : (word : ℕ) (r : Option ℕ) → SomeIff r (IsScalar word) word
    → MatchOption r (OutOfScalarRange word) (λ _. InScalarRange word) → r ≡ scalar_in_entry word
from_scalar word None v h = let none : is_scalar word ≡ false = grind (arith, nat_tests, h) in rw none refl
from_scalar word (Some c) v h = let one : is_scalar word ≡ true = grind (arith, nat_tests, h) in rw one (ap Some v.1)

-- CODE POINTS

scalar_of_scalar : (word : ℕ) (b : Bool) → is_scalar word ≡ b → IfSome (cond b (Some word) (none))
    (λ c. is_scalar c ≡ true)
scalar_of_scalar word true e = e
scalar_of_scalar word false e = tt

pub codes_scalar : (codes : List (Option ℕ)) (n : ℕ) (word : ℕ → ℕ) → length codes ≡ n
    → ((k : ℕ) → k < n → slice_index_or codes k None ≡ scalar_in_entry (word k)) → AreScalarEntries codes
codes_scalar codes n word e h k =
    elim (cases_lt k (length codes)) [
      | inl l ↦ rw (h k (omega arith)) (scalar_of_scalar (word k) (is_scalar (word k)) refl)
      | inr l ↦ rw (get_or_past codes k none l) (tt)
    ]

record Ascending (low bound : ℕ) (pair : ℕ × ℕ) (index : Index) : Type 0 where
  from : low ≤ pair.0
  below : pair.0 < bound
  scalar : is_scalar pair.1 ≡ true
  rest : ascends (suc pair.0) bound index ≡ true

ascending : (low bound : ℕ) (pair : ℕ × ℕ) (index : Index) → ascends low bound (pair ∷ index) ≡ true
    → Ascending low bound pair index
unfolding ascends
ascending low bound pair index a =
    let outer = and_parts ((nat_le low pair.0 && nat_lt pair.0 bound) && is_scalar pair.1)
    (ascends (suc pair.0) bound index) a in
    let middle = and_parts (nat_le low pair.0 && nat_lt pair.0 bound) (is_scalar pair.1) outer.0 in
    let inner = and_parts (nat_le low pair.0) (nat_lt pair.0 bound) middle.0 in
    record {
      from = leb-true low pair.0 inner.0;
      below = ltb-true pair.0 bound inner.1;
      scalar = middle.1;
      rest = outer.1;
    }

code_scalar : (low bound : ℕ) (index : Index) (p c : ℕ) → ascends low bound index ≡ true → code index p ≡ Some c
    → is_scalar c ≡ true
unfolding code
code_scalar low bound [] p c a e = absurd cc
code_scalar low bound (pair ∷ index) p c a e =
    let parts = ascending low bound pair index a in
    elim (pair.0 == p) as (λ b. cond b (Some pair.1) (code index p) ≡ Some c → is_scalar c ≡ true) [
      | true ↦ λ h. (let same : pair.1 ≡ c = cc in rw (← same) parts.scalar)
      | false ↦ λ h. code_scalar (suc pair.0) bound index p c parts.rest h
    ] e

some_of_none : (c p : ℕ) → Some c ≡ code [] p → ⊥
unfolding code
some_of_none c p e = cc

none_below : (low bound : ℕ) (index : Index) (p : ℕ) → ascends low bound index ≡ true → p < low → code index p ≡ None
unfolding code
none_below low bound [] p a l = refl
none_below low bound (pair ∷ index) p a l =
    let parts = ascending low bound pair index a in
    let from = parts.from in
    let rest = none_below (suc pair.0) bound index p parts.rest (omega arith) in
    grind (arith, nat_tests, rest, from)

entry_scalar : (index : Index) (pointers p : ℕ) (o : Option ℕ) → IsIndex pointers index → code index p ≡ o
    → scalar_in_entry (unwrap_or o 0xFFFFFFFF) ≡ o
entry_scalar index pointers p None v e = refl
entry_scalar index pointers p (Some c) v e = rw (code_scalar 0 pointers index p c v e) refl

skip_one : (q bound : ℕ) (index : Index) → ascends q bound index ≡ true → code index q ≡ None
    → ascends (suc q) bound index ≡ true
unfolding ascends code
skip_one q bound [] a e = refl
skip_one q bound (pair ∷ index) a e =
    let parts = ascending q bound pair index a in
    let from = parts.from in
    let below = parts.below in
    let scalar = parts.scalar in
    let rest = parts.rest in
    elim (cases_lt q pair.0) [
      | inl l ↦ grind (arith, nat_tests, l, below, scalar, rest)
      | inr g ↦
          (let same : q ≡ pair.0 = omega arith in absurd (grind (arith, nat_tests, same, e)))
    ]

pair_is : (pair : ℕ × ℕ) (q c : ℕ) → pair.0 ≡ q → pair.1 ≡ c → (q, c) ≡ pair
pair_is pair q c e d = ap (λ x. (x, c)) (sym e) ∙ ap (λ y. (pair.0, y)) (sym d)

-- the head of an index that has a code point at the least pointer
first_is : (q bound c : ℕ) (pair : ℕ × ℕ) (index : Index) → ascends q bound (pair ∷ index) ≡ true
    → Some c ≡ code (pair ∷ index) q → (pair.0 ≡ q) × (pair.1 ≡ c)
unfolding code
first_is q bound c pair index a e =
    let parts = ascending q bound pair index a in
    let from = parts.from in
    elim (cases_lt q pair.0) [
      | inl l ↦ (let none = none_below (suc pair.0) bound index q parts.rest (omega arith) in absurd
          (grind (arith, nat_tests, l, none, e)))
      | inr g ↦ (let same : pair.0 ≡ q = omega arith in (same, grind (arith, nat_tests, same, e)))
    ]

after_first : (q k : ℕ) (pair : ℕ × ℕ) (index : Index) → pair.0 ≡ q → code (pair ∷ index) (q + suc k) ≡ code index
    (suc q + k)
unfolding code
after_first q k pair index e = let same : q + suc k ≡ suc q + k = omega arith in rw same (grind (arith, nat_tests, e))

-- the pairs of a table that has an index's code points
dense : (q bound : ℕ) (entries : List (Option ℕ)) (index : Index) → bound ≡ q + length entries
    → ascends q bound index ≡ true →
    ((k : ℕ) → k < length entries → slice_index_or entries k None ≡ code index (q + k)) → pairs_from q entries ≡ index
unfolding pairs_from
dense q bound [] [] e a h = refl
dense q bound [] (pair ∷ index) e a h =
    let parts = ascending q bound pair index a in
    let from = parts.from in
    let below = parts.below in
    absurd (omega arith)
dense q bound (None ∷ entries) index e a h =
    let here : code index q ≡ None = ap (code index) (omega arith) ∙ sym (h zero (omega arith)) in
    dense (suc q) bound entries index (omega arith) (skip_one q bound index a here)
    (λ k l. h (suc k) (omega arith) ∙ ap (code index) (omega arith))
dense q bound (Some c ∷ entries) [] e a h = absurd (some_of_none c (q + 0) (h zero (omega arith)))
dense q bound (Some c ∷ entries) (pair ∷ index) e a h =
    let here : Some c ≡ code (pair ∷ index) q = h zero (omega arith) ∙ ap (code (pair ∷ index)) (omega arith) in
    let first = first_is q bound c pair index a here in
    let parts = ascending q bound pair index a in
    let tail : ascends (suc q) bound index ≡ true = rw (← first.0) parts.rest in
    let rest = dense (suc q) bound entries index (omega arith) tail
    (λ k l. h (suc k) (omega arith) ∙ after_first q k pair index first.0) in
    ap (λ ps. (q, c) ∷ ps) rest ∙ ap (λ p. p ∷ index) (pair_is pair q c first.0 first.1)

-- a file's table that was read from an area
pub file_given : (area : List ℕ) (file start pointers : ℕ) (index : Index) (codes : List (Option ℕ))
    → IsFileIn area file start pointers (Some index) → length codes ≡ pointers →
    ((k : ℕ) → k < pointers → slice_index_or codes k None ≡ scalar_in_entry (word_of area (start + k)))
    → pairs_from 0 codes ≡ index
file_given area file start pointers index codes f e h =
    dense 0 pointers codes index (omega arith) f.valid (λ k l.
    let inside : k < pointers = omega arith in
    h k inside ∙ ap scalar_in_entry (f.words k inside) ∙ entry_scalar index pointers k (code index k) f.valid refl
    ∙ ap (code index) (omega arith))

-- a file that was not set has another flag
pub not_flagged : (area : List ℕ) (file start pointers : ℕ) → IsFileIn area file start pointers None
    → slice_index area file ≡ 1 → ⊥
not_flagged area file start pointers f e = let zero_flag = f.flagged in omega arith

pub file_back : (area : List ℕ) (file start pointers : ℕ) (codes : List (Option ℕ)) (table : Index)
    (index : Option Index) → slice_index area file ≡ 1 → table ≡ pairs_from 0 codes → length codes ≡ pointers →
    ((k : ℕ) → k < pointers → slice_index_or codes k None ≡ scalar_in_entry (word_of area (start + k)))
    → IsFileIn area file start pointers index → Some table ≡ index
file_back area file start pointers codes table None e t n h f = absurd (not_flagged area file start pointers f e)
file_back area file start pointers codes table (Some index) e t n h f =
    ap Some (t ∙ file_given area file start pointers index codes f n h)

-- THE SINGLE-BYTE ENCODINGS

pub valid_more : (n : ℕ) (xs : List (Option Index)) (x : Option Index)
    → ((k : ℕ) → IfSome (slice_index_or xs k None) (IsIndex n)) → IfSome x (IsIndex n) →
    (k : ℕ) → IfSome (slice_index_or (xs ++ x ∷ []) k None) (IsIndex n)
valid_more n [] x h v zero = v
valid_more n [] x h v (suc k) = tt
valid_more n (y ∷ xs) x h v zero = h zero
valid_more n (y ∷ xs) x h v (suc k) = valid_more n xs x (λ j. h (suc j)) v k

-- WORDS

abbrev four : ℕ → ℕ → ℕ → ℕ → List ℕ
four a b c d = a ∷ b ∷ c ∷ d ∷ []

byte_at : (x : IndexSet) (entry k : ℕ) → entry < 22099 → k < 4 → area_byte x (32 + 4 * entry + k) ≡ slice_index
    (to_be_bytes w32 (entry_at x entry)) k
unfolding area_byte
byte_at x entry k h l =
    let place = 32 + 4 * entry + k in
    let past_flags : nat_lt place 18 ≡ false = grind (arith, nat_tests) in
    let past_zeros : nat_lt place 32 ≡ false = grind (arith, nat_tests) in
    let inside : nat_lt place 88428 ≡ true = grind (arith, nat_tests, h, l) in
    let which : (place - 32) / 4 ≡ entry = omega arith in
    let where_in : (place - 32) % 4 ≡ k = omega arith in
    rw (area_byte, past_flags, past_zeros, inside, which, where_in) refl

word_is : (x : IndexSet) (area : List ℕ) (entry value : ℕ) → IsAreaOf x area → entry < 22099 → entry_at x entry ≡ value
    → value < 2 ^ 32 → word_of area entry ≡ value
word_is x area entry value a h e v =
    let from = λ (k : ℕ) (place : ℕ) (l : k < 4) (p : place ≡ 32 + 4 * entry + k).
    a.bytes place (omega arith) ∙ ap (area_byte x) p ∙ byte_at x entry k h l
    ∙ ap (λ w. slice_index (to_be_bytes w32 w) k) e in
    rw (
      from 0 (32 + 4 * entry) (omega arith) (omega arith),
      from 1 (32 + 4 * entry + 1) (omega arith) refl,
      from 2
          (32 + 4 * entry + 2) (omega arith) refl,
      from 3 (32 + 4 * entry + 3) (omega arith) refl,
    )
    (from_be_bytes-to_be_bytes_4 value v)

-- THE FILES

small : (o : Option ℕ) → IfSome o (λ c. is_scalar c ≡ true) → unwrap_or o 0xFFFFFFFF < 2 ^ 32
small None h = lit< tt
small (Some c) h = grind (arith, nat_tests, h)

some_scalar : (index : Index) (pointers p : ℕ) (o : Option ℕ) → IsIndex pointers index → code index p ≡ o
    → IfSome o (λ c. is_scalar c ≡ true)
some_scalar index pointers p None v e = tt
some_scalar index pointers p (Some c) v e = code_scalar 0 pointers index p c v e

code_small : (index : Option Index) (pointers p : ℕ) → IfSome index (IsIndex pointers) → entry_of index p < 2 ^ 32
code_small None pointers p v = rw (code_of_none p) (lit< tt)
code_small (Some index) pointers p v = small (code index p) (some_scalar index pointers p (code index p) v refl)

-- the words of a file, whose entries are from one number on
words_is : (x : IndexSet) (area : List ℕ) (start pointers : ℕ) (index : Option Index) → IsAreaOf x area
    → start + pointers ≤ 22099 → IfSome index (IsIndex pointers) →
    ((k : ℕ) → k < pointers → entry_at x (start + k) ≡ entry_of index k) → (k : ℕ) → k < pointers
    → word_of area (start + k) ≡ entry_of index k
words_is x area start pointers index a l v h k i =
    word_is x area (start + k) (entry_of index k) a (omega arith) (h k i) (code_small index pointers k v)

spot_jis0208 : (k : ℕ) → k < 11280 → spot_of (0 + k) ≡ (0, k)
spot_jis0208 k h = grind (arith, nat_tests)

spot_jis0212 : (k : ℕ) → k < 8836 → spot_of (11280 + k) ≡ (1, k)
spot_jis0212 k h = grind (arith, nat_tests)

spot_katakana : (k : ℕ) → k < 63 → spot_of (20116 + k) ≡ (2, k)
spot_katakana k h = grind (arith, nat_tests)

spot_single : (n k : ℕ) → k < 128 → spot_of (20179 + 128 * n + k) ≡ (3 + n, k)
spot_single n k h = grind (arith, nat_tests)

entry_in : (x : IndexSet) (entry file p : ℕ) → spot_of entry ≡ (file, p)
    → entry_at x entry ≡ entry_of (nth_file x file) p
unfolding entry_at
entry_in x entry file p e = ap (λ spot. entry_of (nth_file x spot.0) spot.1) e

flag_at : (x : IndexSet) (file : ℕ) → file < 18 → area_byte x file ≡ flag (nth_file x file)
unfolding area_byte
flag_at x file h = let first : nat_lt file 18 ≡ true = grind (arith, nat_tests, h) in rw (area_byte, first) refl

file_in : (x : IndexSet) (area : List ℕ) (file start pointers : ℕ) → IsAreaOf x area → file < 18
    → start + pointers ≤ 22099 → IfSome (nth_file x file) (IsIndex pointers) →
    ((k : ℕ) → k < pointers → spot_of (start + k) ≡ (file, k)) → IsFileIn area file start pointers (nth_file x file)
file_in x area file start pointers a f l v spot = record {
  flagged = a.bytes file (omega arith) ∙ flag_at x file f;
  valid = v;
  words = words_is x area start pointers (nth_file x file) a l v (λ k h. entry_in x (start + k) file k (spot k h));
}

pub jis0208_in : (x : IndexSet) (area : List ℕ) → IsIndexSet x → IsAreaOf x area → IsFileIn area 0 0 11280 x.jis0208
jis0208_in x area v a = file_in x area 0 0 11280 a (lit< tt) (lit≤ tt) v.jis0208 spot_jis0208

pub jis0212_in : (x : IndexSet) (area : List ℕ) → IsIndexSet x → IsAreaOf x area → IsFileIn area 1 11280 8836 x.jis0212
jis0212_in x area v a = file_in x area 1 11280 8836 a (lit< tt) (lit≤ tt) v.jis0212 spot_jis0212

pub katakana_in : (x : IndexSet) (area : List ℕ) → IsIndexSet x → IsAreaOf x area → IsFileIn area 2 20116 63 x.katakana
katakana_in x area v a = file_in x area 2 20116 63 a (lit< tt) (lit≤ tt) v.katakana spot_katakana

nth_single : (x : IndexSet) (n : ℕ) → nth_file x (3 + n) ≡ slice_index_or x.single n None
nth_single x n = grind (arith, nat_tests)

pub single_in : (x : IndexSet) (area : List ℕ) → IsIndexSet x → IsAreaOf x area → (n : ℕ) → n < 15
    → IsFileIn area (3 + n) (20179 + 128 * n) 128 (slice_index_or x.single n None)
single_in x area v a n h =
    let same = nth_single x n in
    let InPlace : Option Index → Type 0 = λ index. IsFileIn area (3 + n) (20179 + 128 * n) 128 index in
    let Valid : Option Index → Type 0 = λ index. IfSome index (IsIndex 128) in
    subst InPlace same (file_in x area (3 + n) (20179 + 128 * n) 128 a (omega arith) (omega arith)
    (subst Valid (sym same) (v.single n)) (spot_single n))

abbrev pub made : Option Index → Option Index → Option Index → List (Option Index) → IndexSet
made a b c d = record { jis0208 = a; jis0212 = b; katakana = c; single = d }

pub set_is : (x : IndexSet) (jis0208 jis0212 katakana : Option Index) (single : List (Option Index))
    → jis0208 ≡ x.jis0208 → jis0212 ≡ x.jis0212 → katakana ≡ x.katakana → single ≡ x.single →
    made jis0208 jis0212 katakana single ≡ x
set_is x a b c d ea eb ec ed = rw (ea, eb, ec, ed) refl

-- COMPARED BY WORDS

four_small : (a b c d : ℕ) → a < 256 → b < 256 → c < 256 → d < 256 → (i : ℕ) → slice_index (four a b c d) i < 256
four_small a b c d ha hb hc hd zero = ha
four_small a b c d ha hb hc hd (suc zero) = hb
four_small a b c d ha hb hc hd (suc (suc zero)) = hc
four_small a b c d ha hb hc hd (suc (suc (suc zero))) = hd
four_small a b c d ha hb hc hd (suc (suc (suc (suc i)))) = lit< tt

-- the four bytes from a place on
abbrev bytes_from : List ℕ → ℕ → List ℕ
bytes_from area place =
    four (slice_index area place) (slice_index area (place + 1)) (slice_index area (place + 2))
    (slice_index area (place + 3))

four_at : (area : List ℕ) (place k : ℕ) → k < 4 → slice_index (bytes_from area place) k ≡ slice_index area (place + k)
four_at area place zero h = ap (slice_index area) (omega arith)
four_at area place (suc zero) h = refl
four_at area place (suc (suc zero)) h = refl
four_at area place (suc (suc (suc zero))) h = refl
four_at area place (suc (suc (suc (suc k)))) h = absurd (omega arith)

byte_back : (x : IndexSet) (area : List ℕ) (entry k : ℕ) → ((i : ℕ) → slice_index area i < 256) → entry < 22099
    → k < 4 → word_of area entry ≡ entry_at x entry →
    slice_index area (32 + 4 * entry + k) ≡ area_byte x (32 + 4 * entry + k)
byte_back x area entry k s h l e =
    let place = 32 + 4 * entry in
    let bs = bytes_from area place in
    let bytes : to_be_bytes w32 (word_of area entry) ≡ bs =
    be_bytes_4 bs (word_of area entry) refl
    (four_small (slice_index area place) (slice_index area (place + 1)) (slice_index area (place + 2))
    (slice_index area (place + 3)) (s place) (s (place + 1)) (s (place + 2)) (s (place + 3))) refl in
    sym (byte_at x entry k h l ∙ ap (λ w. slice_index (to_be_bytes w32 w) k) (sym e)
    ∙ ap (λ ys. slice_index ys k) bytes ∙ four_at area place k l)

in_file : (x : IndexSet) (area : List ℕ) (entry start k file : ℕ) → entry ≡ start + k
    → word_of area (start + k) ≡ entry_of (nth_file x file) k → spot_of (start + k) ≡ (file, k) →
    word_of area entry ≡ entry_at x entry
in_file x area entry start k file e w s =
    ap (word_of area) e ∙ w ∙ sym (entry_in x (start + k) file k s) ∙ ap (entry_at x) (sym e)

in_single : (x : IndexSet) (area : List ℕ) (entry : ℕ) → HasFiles x area → 20179 ≤ entry → entry < 22099
    → word_of area entry ≡ entry_at x entry
in_single x area entry f g h =
    let n = (entry - 20179) / 128 in
    let k = (entry - 20179) % 128 in
    let inside : k < 128 = omega arith in
    in_file x area entry (20179 + 128 * n) k (3 + n) (omega arith) (f.single n (omega arith) k inside)
    (spot_single n k inside)

entry_is : (x : IndexSet) (area : List ℕ) (entry : ℕ) → HasFiles x area → entry < 22099
    → word_of area entry ≡ entry_at x entry
entry_is x area entry f h =
    elim (cases_lt entry 11280) [
      | inl l ↦ in_file x area entry 0 entry 0 (omega arith) (f.jis0208 entry l) (spot_jis0208 entry l)
      | inr g ↦ elim (cases_lt entry 20116) [
        | inl l ↦ in_file x area entry 11280 (entry - 11280) 1 (omega arith) (f.jis0212 (entry - 11280) (omega arith))
            (spot_jis0212 (entry - 11280) (omega arith))
        | inr g ↦ elim (cases_lt entry 20179) [
          | inl l ↦ in_file x area entry 20116 (entry - 20116) 2 (omega arith)
              (f.katakana (entry - 20116) (omega arith)) (spot_katakana (entry - 20116) (omega arith))
          | inr g ↦ in_single x area entry f g h
        ]
      ]
    ]

zero_before : (x : IndexSet) (place : ℕ) → 18 ≤ place → place < 32 → area_byte x place ≡ 0
unfolding area_byte
zero_before x place g l = grind (arith, nat_tests)

zero_after : (x : IndexSet) (place : ℕ) → 88428 ≤ place → area_byte x place ≡ 0
unfolding area_byte
zero_after x place g = grind (arith, nat_tests)

entry_byte : (x : IndexSet) (area : List ℕ) (place : ℕ) → ((i : ℕ) → slice_index area i < 256) → HasFiles x area
    → 32 ≤ place → place < 88428 → slice_index area place ≡ area_byte x place
entry_byte x area place s f g h =
    let entry = (place - 32) / 4 in
    let k = (place - 32) % 4 in
    let e : place ≡ 32 + 4 * entry + k = omega arith in
    let inside : entry < 22099 = omega arith in
    ap (slice_index area) e
    ∙ byte_back x area entry k s inside (omega arith) (entry_is x area entry f inside)
    ∙ ap (area_byte x) (sym e)

byte_of : (x : IndexSet) (area : List ℕ) (place : ℕ) → ((i : ℕ) → slice_index area i < 256) → HasMargins x area
    → HasFiles x area → place < 90112 → slice_index area place ≡ area_byte x place
byte_of x area place s m f h =
    elim (cases_lt place 18) [
      | inl l ↦ m.flags place l ∙ sym (flag_at x place l)
      | inr g ↦ elim (cases_lt place 32) [
        | inl l ↦ m.before place g l ∙ sym (zero_before x place g l)
        | inr g ↦ elim (cases_lt place 88428) [
          | inl l ↦ entry_byte x area place s f g l
          | inr g ↦ m.after place g h ∙ sym (zero_after x place g)
        ]
      ]
    ]

pub is_area : (x : IndexSet) (area : List ℕ) → length area ≡ 90112 → ((i : ℕ) → slice_index area i < 256)
    → HasMargins x area → HasFiles x area → IsAreaOf x area
is_area x area e s m f = record { long = e; bytes = λ place h. byte_of x area place s m f h }

pub margins_of : (x : IndexSet) (area : List ℕ) → IsAreaOf x area → HasMargins x area
margins_of x area a = record {
  flags = λ file h. a.bytes file (omega arith) ∙ flag_at x file h;
  before = λ place g l. a.bytes place (omega arith) ∙ zero_before x place g l;
  after = λ place g l. a.bytes place l ∙ zero_after x place g;
}

pub files_of : (x : IndexSet) (area : List ℕ) → IsIndexSet x → IsAreaOf x area → HasFiles x area
files_of x area v a = record {
  jis0208 = (jis0208_in x area v a).words;
  jis0212 = (jis0212_in x area v a).words;
  katakana = (katakana_in x area v a).words;
  single = λ n h. rw (nth_single x n) ((single_in x area v a n h).words);
}
