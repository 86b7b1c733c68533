-- Bytes that were put after others, place by place.
use Rattle.std.proofs.Common.{ℕ, suc, ◌≡◌, ◌<◌, ◌≤◌, ◌+◌, ◌-◌, List, [], ◌∷◌, ◌++◌, sym, ◌∙◌, ap, ap₂, subst, arith}
use Rattle.std.proofs.Common.{All, append_assoc, length, take, drop, get_or, set}
use Rattle.std.proofs.lemmas.List.{length-take-le, take-append-le, take-take, take_more, take_more_set}
use Rattle.std.proofs.lemmas.List.Elements.{All-append, All-cons}
use Rattle.std.proofs.lemmas.Simd.{length-chunk, length-put_chunk, take_more_put_chunk}
use Rattle.std.proofs.Math.Seq.{take-add, take-append-add, drop-cons}
use lib.Lanes.{put_chunk}

-- how far bytes were put after the first so many
abbrev pub PutTo : List ℕ → List ℕ → List ℕ → ℕ → ℕ → Type 0
PutTo bytes old held from at = (at ≤ length bytes) × (from + at ≤ 2048) × (length held ≡ 2048)
    × All (λ b. b < 128) (take at bytes) × (take (from + at) held ≡ take from old ++ take at bytes)

-- the first of lanes that were stored after the first so many
pub stored : (held more lanes : List ℕ) (from n w : ℕ) → length held ≡ 2048 → length lanes ≡ w → n ≤ w
    → from + w ≤ 2048 →
    take (from + n) (take from held ++ (put_chunk 0 (take (2048 - from) (drop from held)) lanes ++ more))
    ≡ take from held ++ take n lanes
stored held more lanes from n w full long few room =
    let prefix = take from held in
    let part = take (2048 - from) (drop from held) in
    let part_long = length-chunk from (2048 - from) held (omega (arith, room, full)) in
    let new = put_chunk 0 part lanes in
    let prefix_long : length prefix ≡ from = length-take-le from held (omega (arith, room, full)) in
    let new_long : length new ≡ length part = length-put_chunk 0 part lanes in
    let whole : take w new ≡ lanes =
    take_more_put_chunk 0 part lanes w (omega (arith, long)) (omega (arith, part_long, room)) in
    subst (λ k. take (k + n) (prefix ++ (new ++ more)) ≡ prefix ++ take n (new ++ more)) prefix_long
    (take-append-add prefix (new ++ more) n)
    ∙ ap (λ z. prefix ++ z) (take-append-le n new more (omega (arith, new_long, part_long, room, few))
    ∙ sym (take-take n w new few) ∙ ap (take n) whole)

-- the first of the lanes at a place, or all
pub ascii_more : (bytes lanes : List ℕ) (at n : ℕ) → All (λ b. b < 128) (take at bytes)
    → lanes ≡ take 32 (drop at bytes) → n ≤ 32 → All (λ b. b < 128) (take n lanes)
    → All (λ b. b < 128) (take (at + n) bytes)
ascii_more bytes lanes at n a e few b =
    let P = λ (b : ℕ). b < 128 in
    let same : take n lanes ≡ take n (drop at bytes) = ap (take n) e ∙ take-take n 32 (drop at bytes) few in
    subst (All P) (sym (take-add at n bytes)) (All-append P (take at bytes) (take n (drop at bytes)) a
    (subst (All P) same b))

pub put_more : (old held new bytes lanes : List ℕ) (from at n : ℕ)
    → take (from + at) held ≡ take from old ++ take at bytes → lanes ≡ take 32 (drop at bytes) → n ≤ 32
    → take (from + at + n) new ≡ take (from + at) held ++ take n lanes
    → take (from + (at + n)) new ≡ take from old ++ take (at + n) bytes
put_more old held new bytes lanes from at n p e few put =
    let same : take n lanes ≡ take n (drop at bytes) = ap (take n) e ∙ take-take n 32 (drop at bytes) few in
    let places : from + (at + n) ≡ from + at + n = omega arith in
    ap (λ k. take k new) places ∙ put ∙ ap₂ (λ x y. x ++ y) p same
    ∙ append_assoc (take from old) (take at bytes) (take n (drop at bytes))
    ∙ ap (λ z. take from old ++ z) (sym (take-add at n bytes))

-- one byte more
one : (x : ℕ) → x < 128 → All (λ b. b < 128) (x ∷ [])
one x l = All-cons (λ b. b < 128) x [] l (λ k d m. absurd (omega (arith, m)))

pub ascii_byte : (bytes : List ℕ) (at : ℕ) → at < length bytes → All (λ b. b < 128) (take at bytes)
    → get_or bytes at 0 < 128 → All (λ b. b < 128) (take (at + 1) bytes)
ascii_byte bytes at l a b =
    let P = λ (b : ℕ). b < 128 in
    subst (All P) (sym (take_more bytes at 0 l)) (All-append P (take at bytes) (get_or bytes at 0 ∷ []) a
    (one (get_or bytes at 0) b))

pub put_byte : (old held bytes : List ℕ) (from at : ℕ) → at < length bytes → from + at < length held
    → take (from + at) held ≡ take from old ++ take at bytes
    → take (from + (at + 1)) (set held (from + at) (get_or bytes at 0)) ≡ take from old ++ take (at + 1) bytes
put_byte old held bytes from at l m p =
    let b = get_or bytes at 0 in
    let places : from + (at + 1) ≡ from + at + 1 = omega arith in
    ap (λ k. take k (set held (from + at) b)) places ∙ take_more_set held (from + at) b m ∙ ap (λ z. z ++ b ∷ []) p
    ∙ append_assoc (take from old) (take at bytes) (b ∷ []) ∙ ap (λ z. take from old ++ z) (sym (take_more bytes at 0
    l))

-- the two bytes at a place
pub two_at : (xs : List ℕ) (i : ℕ) → i + 1 < length xs
    → drop i xs ≡ get_or xs i 0 ∷ get_or xs (i + 1) 0 ∷ drop (i + 2) xs
two_at xs i l =
    let next : suc i ≡ i + 1 = omega arith in
    let last : suc (i + 1) ≡ i + 2 = omega arith in
    drop-cons xs i 0 (omega (arith, l)) ∙ ap (λ k. get_or xs i 0 ∷ drop k xs) next
    ∙ ap (λ z. get_or xs i 0 ∷ z) (drop-cons xs (i + 1) 0 l ∙ ap (λ k. get_or xs (i + 1) 0 ∷ drop k xs) last)

-- the three bytes at a place
pub three_at : (xs : List ℕ) (i : ℕ) → i + 2 < length xs
    → drop i xs ≡ get_or xs i 0 ∷ get_or xs (i + 1) 0 ∷ get_or xs (i + 2) 0 ∷ drop (i + 3) xs
three_at xs i l =
    let last : suc (i + 2) ≡ i + 3 = omega arith in
    two_at xs i (omega (arith, l))
    ∙ ap (λ z. get_or xs i 0 ∷ get_or xs (i + 1) 0 ∷ z) (drop-cons xs (i + 2) 0 l
    ∙ ap (λ k. get_or xs (i + 2) 0 ∷ drop k xs) last)
