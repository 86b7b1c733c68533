-- The length of the longest prefix that passes, piece by piece.
use Rattle.std.proofs.Common.{◌≡◌, ℕ, ◌+◌, ◌-◌, ◌<◌, ◌≤◌, Bool, cond, List, [], ◌∷◌, true, false, inl, inr, length}
use Rattle.std.proofs.Common.{get_or, drop, refl, ap, ap₂, sym, ◌∙◌, arith, leb, not, map, subst, take, All}
use Rattle.std.proofs.lemmas.Bool.Decides.{nat_tests}
use Rattle.std.proofs.lemmas.Bool.{cases_eq, cases_lt, true≢false, eq-eqb, ne_eqb, cond-true, cond-false}
use Rattle.std.proofs.lemmas.List.Folds.{prefix_len-append}
use Rattle.std.proofs.lemmas.Simd.{length-chunk, chunk-drop, get_or-chunk, leading_from_mask_l}
use Rattle.std.proofs.lemmas.List.Sums.{prefix_len-le-length, prefix_len_passes, prefix_len_stops}
use Rattle.std.proofs.lemmas.List.{drop-drop, length-take, take-take}
use Rattle.enc_feed.proofs.Prefixes.{prefix_all}
use Rattle.std.specs.List.{prefix_len}
use Rattle.std.proofs.Common.{◌%◌, ◌^◌, bit_or, replicate, w8}
use Rattle.std.proofs.lemmas.List.{length-map}
use lib.Lanes.{zip2, top}
use Rattle.lane_kernels.specs.Classes.{first_set}
use mir.Val.{hbits}
use Rattle.lane_kernels.proofs.Hits.{hit, first_hit, compared_with}
use Rattle.lane_kernels.proofs.Hits.{hits_of, joined, joined_hits, joined_long, none_joined, none_hit}
use Rattle.std.specs.Bool.{OnTrue}
use Rattle.std.specs.Char.{is_ascii}
use Rattle.std.specs.Simd.Lanes.{chunk, mask_l}

-- tests that agree have one prefix
pub same_prefix : (p q : ℕ → Bool) → ((x : ℕ) → p x ≡ q x) → (xs : List ℕ) → prefix_len p xs ≡ prefix_len q xs
same_prefix p q e [] = refl
same_prefix p q e (x ∷ xs) = ap₂ (λ b n. cond b (1 + n) 0) (e x) (same_prefix p q e xs)

-- a prefix that passes up to a place, from which the rest is looked at
abbrev pub PassedTo : (ℕ → Bool) → List ℕ → ℕ → Type 0
PassedTo p xs at = record {
  in_range : at ≤ length xs;
  passed : prefix_len p xs ≡ at + prefix_len p (drop at xs);
}

-- what passes up to there and after it is within the list
pub passes_within : (p : ℕ → Bool) (xs : List ℕ) (at n : ℕ) → prefix_len p xs ≡ at + prefix_len p (drop at xs)
    → n ≡ prefix_len p (drop at xs) → at + n ≤ length xs
passes_within p xs at n passed is = omega (arith, passed, is, prefix_len-le-length p xs)

-- a chunk that passes whole
pub chunk_passes : (p : ℕ → Bool) (i n : ℕ) (xs : List ℕ) → i + n ≤ length xs → prefix_len p (chunk i n xs) ≡ n →
    prefix_len p (drop i xs) ≡ n + prefix_len p (drop (i + n) xs)
chunk_passes p i n xs room whole =
    let long = length-chunk i n xs room in
    ap (prefix_len p) (chunk-drop i n xs) ∙ prefix_len-append p (chunk i n xs) (drop (i + n) xs)
    ∙ cond-true _ _ _ (eq-eqb _ _ (whole ∙ sym long)) ∙ ap (λ m. m + prefix_len p (drop (i + n) xs)) long

-- a chunk in which the prefix ends
pub chunk_stops : (p : ℕ → Bool) (i n : ℕ) (xs : List ℕ) → i + n ≤ length xs → prefix_len p (chunk i n xs) < n →
    prefix_len p (drop i xs) ≡ prefix_len p (chunk i n xs)
chunk_stops p i n xs room short =
    let long = length-chunk i n xs room in
    let other : prefix_len p (chunk i n xs) ≡ length (chunk i n xs) → ⊥ = λ e. omega (arith, e, long, short) in
    ap (prefix_len p) (chunk-drop i n xs) ∙ prefix_len-append p (chunk i n xs) (drop (i + n) xs)
    ∙ cond-false _ _ _ (ne_eqb _ _ other)

-- a prefix that goes on at the next element, and one that ends there
pub prefix_more : (p : ℕ → Bool) (xs : List ℕ) (at : ℕ) → at ≤ prefix_len p xs → at < length xs
    → p (get_or xs at 0) ≡ true → at + 1 ≤ prefix_len p xs
prefix_more p xs at prefix inside passes =
    elim (cases_eq (prefix_len p xs) at) [
      | inl here ↦ absurd (true≢false
          (sym passes ∙ ap (λ k. p (get_or xs k 0)) (sym here) ∙ prefix_len_stops p xs 0 (omega (arith, here, inside))))
      | inr other ↦ omega (arith, other, prefix)
    ]

pub prefix_ends : (p : ℕ → Bool) (xs : List ℕ) (at : ℕ) → at ≤ prefix_len p xs → p (get_or xs at 0) ≡ false
    → prefix_len p xs ≡ at
prefix_ends p xs at prefix fails =
    elim (cases_eq (prefix_len p xs) at) [
      | inl here ↦ here
      | inr other ↦ absurd (true≢false (sym (prefix_len_passes p xs at 0 (omega (arith, other, prefix))) ∙ fails))
    ]

-- a prefix that goes on over a chunk
pub chunk_goes_on : (p : ℕ → Bool) (at n : ℕ) (xs : List ℕ) → at + n ≤ length xs → at ≤ prefix_len p xs
    → prefix_len p (chunk at n xs) ≡ n → at + n ≤ prefix_len p xs
chunk_goes_on p at n xs room prefix whole =
    elim (cases_lt (prefix_len p xs) (at + n)) [
      | inl short ↦
          let k = prefix_len p xs - at in
          let there : at + k ≡ prefix_len p xs = omega (arith, prefix) in
          let inside : k < n = omega (arith, short, prefix) in
          let passes = prefix_len_passes p (chunk at n xs) k 0 (omega (arith, whole, inside)) in
          let same = get_or-chunk at n xs k 0 inside ∙ ap (λ j. get_or xs j 0) there in
          absurd (true≢false (sym passes ∙ ap p same ∙ prefix_len_stops p xs 0 (omega (arith, short, room))))
      | inr long ↦ long
    ]

-- four chunks after one another that pass whole
pub chunks_pass : (p : ℕ → Bool) (i : ℕ) (xs : List ℕ) → i + 256 ≤ length xs → prefix_len p (chunk i 64 xs) ≡ 64
    → prefix_len p (chunk (i + 64) 64 xs) ≡ 64 → prefix_len p (chunk (i + 128) 64 xs) ≡ 64
    → prefix_len p (chunk (i + 192) 64 xs) ≡ 64 →
    prefix_len p (drop i xs) ≡ 256 + prefix_len p (drop (i + 256) xs)
chunks_pass p i xs room a b c d =
    let on : (j k : ℕ) → j + 64 ≡ k → prefix_len p (drop (j + 64) xs) ≡ prefix_len p (drop k xs) =
    λ j k e. ap (λ at. prefix_len p (drop at xs)) e in
    let first = chunk_passes p i 64 xs (omega (arith, room)) a in
    let second = chunk_passes p (i + 64) 64 xs (omega (arith, room)) b in
    let third = chunk_passes p (i + 128) 64 xs (omega (arith, room)) c in
    let fourth = chunk_passes p (i + 192) 64 xs (omega (arith, room)) d in
    omega (
      arith,
      first,
      second,
      on (i + 64) (i + 128) (omega arith),
      third,
      on (i + 128) (i + 192) (omega arith),
      fourth,
      on (i + 192) (i + 256) (omega arith),
    )

pub none_high : (v : List ℕ) (n : ℕ) → length v ≡ n → mask_l (map (λ x. leb 128 x) v) ≡ 0 → prefix_len is_ascii v ≡ n
none_high v n long none =
    sym (same_prefix (λ x. not (leb 128 x)) is_ascii (λ x. grind (arith, nat_tests)) v)
    ∙ leading_from_mask_l (λ x. leb 128 x) v none ∙ long

pub on_true : (b : Bool) (P : Type 0) → (b ≡ true → P) → OnTrue b P
on_true true P f = f refl
on_true false P f = tt

abbrev at_least : ℕ → ℕ → ℕ
at_least x y = hit w8 (leb x y)

-- the first lane that is high
pub ascii_hit : (v : List ℕ) (n : ℕ) → length v ≡ n → n ≤ 64 →
    first_set (mask_l (map (top (hbits w8)) (zip2 at_least (replicate n 128) v)) % 2 ^ 64) n ≡ prefix_len is_ascii v
ascii_hit v n long few =
    first_hit w8 (λ x. leb 128 x) v n long few (compared_with w8 leb v n 128 long)
    ∙ same_prefix (λ x. not (leb 128 x)) is_ascii (λ x. grind (arith, nat_tests)) v

-- four loads of which no lane is high
pub four_low : (bytes : List ℕ) (at : ℕ) {a b c d : List ℕ} → at + 256 ≤ length bytes → a ≡ chunk at 64 bytes
    → b ≡ chunk (at + 64) 64 bytes → c ≡ chunk (at + 128) 64 bytes → d ≡ chunk (at + 192) 64 bytes →
    mask_l (map (top (hbits w8))
    (zip2 bit_or (zip2 bit_or (zip2 at_least (replicate 64 128) a) (zip2 at_least (replicate 64 128) b))
    (zip2 bit_or (zip2 at_least (replicate 64 128) c) (zip2 at_least (replicate 64 128) d)))) % 2 ^ 64 ≡ 0 →
    prefix_len is_ascii (drop at bytes) ≡ 256 + prefix_len is_ascii (drop (at + 256) bytes)
four_low bytes at {a = a} {b = b} {c = c} {d = d} room p q r s none =
    let t : ℕ → Bool = λ x. leb 128 x in
    let high : ℕ → List Bool = λ i. map t (chunk i 64 bytes) in
    let long : (i : ℕ) → i + 64 ≤ length bytes → length (high i) ≡ 64 =
    λ i inside. length-map (chunk i 64 bytes) t ∙ length-chunk i 64 bytes inside in
    let hits : (i : ℕ) (v : List ℕ) → i + 64 ≤ length bytes → v ≡ chunk i 64 bytes
    → zip2 at_least (replicate 64 128) v ≡ map (hit w8) (high i) =
    λ i v inside e. ap (zip2 at_least (replicate 64 128)) e
    ∙ compared_with w8 leb (chunk i 64 bytes) 64 128 (length-chunk i 64 bytes inside) ∙ hits_of t (chunk i 64 bytes) in
    let ia : at + 64 ≤ length bytes = omega (arith, room) in
    let ib : (at + 64) + 64 ≤ length bytes = omega (arith, room) in
    let ic : (at + 128) + 64 ≤ length bytes = omega (arith, room) in
    let id : (at + 192) + 64 ≤ length bytes = omega (arith, room) in
    let lab = joined_long (high at) (high (at + 64)) 64 (long at ia) (long (at + 64) ib) in
    let lcd = joined_long (high (at + 128)) (high (at + 192)) 64 (long (at + 128) ic) (long (at + 192) id) in
    let ab = joined_hits (high at) (high (at + 64)) (hits at a ia p) (hits (at + 64) b ib q) in
    let cd = joined_hits (high (at + 128)) (high (at + 192)) (hits (at + 128) c ic r) (hits (at + 192) d id s) in
    let one = joined (high at) (high (at + 64)) in
    let other = joined (high (at + 128)) (high (at + 192)) in
    let few : length (joined one other) ≤ 64 = omega (arith, joined_long one other 64 lab lcd) in
    let halves = none_joined one other (lab ∙ sym lcd)
    (none_hit (joined one other) few (joined_hits one other ab cd) none) in
    let first = none_joined (high at) (high (at + 64)) (long at ia ∙ sym (long (at + 64) ib)) halves.0 in
    let same = long (at + 128) ic ∙ sym (long (at + 192) id) in
    let second = none_joined (high (at + 128)) (high (at + 192)) same halves.1 in
    let low : (i : ℕ) → i + 64 ≤ length bytes → mask_l (high i) ≡ 0 → prefix_len is_ascii (chunk i 64 bytes) ≡ 64 =
    λ i inside e. none_high (chunk i 64 bytes) 64 (length-chunk i 64 bytes inside) e in
    chunks_pass is_ascii at bytes room (low at ia first.0) (low (at + 64) ib first.1) (low (at + 128) ic second.0)
    (low (at + 192) id second.1)

pub on_true_at : (b : Bool) (P : Type 0) → b ≡ true → OnTrue b P → P
on_true_at true P e p = p
on_true_at false P e p = absurd (true≢false (sym e))

-- the ASCII before the first lane that isn't
pub lanes_prefix : (bytes : List ℕ) (n : ℕ) → n ≡ prefix_len is_ascii (take 32 bytes)
    → (n ≤ 32) × All (λ b. b < 128) (take n bytes)
lanes_prefix bytes n e =
    let lanes = take 32 bytes in
    let short : n ≤ 32 = let w = prefix_len-le-length is_ascii lanes in let l = length-take 32 bytes in
    omega (arith, e, w, l) in (
      short,
      subst (λ z. All (λ b. b < 128) z) (take-take n 32 bytes short)
          (subst (λ k. All (λ b. b < 128) (take k lanes)) (sym e) (prefix_all lanes)),
    )

-- a prefix that goes on in the rest
pub prefix_goes_on : (p : ℕ → Bool) (xs rest : List ℕ) (i n : ℕ) → rest ≡ drop i xs
    → prefix_len p xs ≡ i + prefix_len p (drop i xs) → prefix_len p rest ≡ n + prefix_len p (drop n rest) →
    prefix_len p xs ≡ i + n + prefix_len p (drop (i + n) xs)
prefix_goes_on p xs rest i n is first next =
    let same : prefix_len p rest ≡ prefix_len p (drop i xs) = ap (prefix_len p) is in
    let far : prefix_len p (drop n rest) ≡ prefix_len p (drop (i + n) xs) =
    ap (λ l. prefix_len p (drop n l)) is ∙ ap (prefix_len p) (drop-drop n i xs) in
    omega (arith, first, next, same, far)
