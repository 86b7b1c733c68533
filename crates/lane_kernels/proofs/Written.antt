-- A list whose prefix was overwritten with that of another.
use Rattle.std.proofs.Common.{◌≡◌, ℕ, suc, ◌+◌, ◌<◌, ◌≤◌, List, [], ◌∷◌, ◌++◌, length, length-append, length-drop, take}
use Rattle.std.proofs.Common.{drop, get_or, set, ap, sym, ◌∙◌, arith, append_assoc, drop-cons}
use Rattle.std.proofs.lemmas.List.{length-take-le, take-append-drop, take-take, drop-take, drop-drop, take_at, drop_at}
use Rattle.std.proofs.lemmas.List.{set_at, take_more}
use Rattle.std.proofs.lemmas.Slice.{drop-append-drop}
use Rattle.std.proofs.lemmas.Simd.{put_chunk_is, length-chunk}
use lib.Lanes.{chunk, put_chunk}

-- one element more
pub written_more : (new old : List ℕ) (at : ℕ) → at < length new → at < length old →
    set (take at new ++ drop at old) at (get_or new at 0) ≡ take (at + 1) new ++ drop (at + 1) old
written_more new old at inside room =
    let x = get_or new at 0 in
    let long : length (take at new) ≡ at = length-take-le at new (omega (arith, inside)) in
    let next : suc at ≡ at + 1 = omega arith in
    let first : drop at old ≡ get_or old at 0 ∷ drop (at + 1) old =
    drop-cons old at 0 room ∙ ap (λ k. get_or old at 0 ∷ drop k old) next in
    ap (λ rest. set (take at new ++ rest) at x) first
    ∙ set_at (take at new) (get_or old at 0) (drop (at + 1) old) x at long
    ∙ sym (append_assoc (take at new) (x ∷ []) (drop (at + 1) old))
    ∙ ap (λ prefix. prefix ++ drop (at + 1) old) (sym (take_more new at 0 inside))

take_chunk : (xs : List ℕ) (at n : ℕ) → take at xs ++ chunk at n xs ≡ take (at + n) xs
take_chunk xs at n =
    let prefix = take (at + n) xs in
    ap (λ z. z ++ chunk at n xs) (sym (take-take at (at + n) xs (omega arith)))
    ∙ ap (λ z. take at prefix ++ z) (sym (drop-take at n xs))
    ∙ take-append-drop at prefix

-- a chunk more
pub written_chunk : (new old : List ℕ) (at n : ℕ) → at + n ≤ length new → at + n ≤ length old →
    put_chunk at (take at new ++ drop at old) (chunk at n new) ≡ take (at + n) new ++ drop (at + n) old
written_chunk new old at n inside room =
    let so_far = take at new ++ drop at old in
    let more = chunk at n new in
    let long : length (take at new) ≡ at = length-take-le at new (omega (arith, inside)) in
    let chunk_long : length more ≡ n = length-chunk at n new inside in
    let whole : length so_far ≡ length old =
    omega (arith, length-append (take at new) (drop at old), long, length-drop at old, room) in
    put_chunk_is at so_far more (omega (arith, chunk_long, whole, room))
    ∙ ap (λ z. z ++ (more ++ drop (length more) (drop at so_far))) (take_at (take at new) (drop at old) at long)
    ∙ ap (λ z. take at new ++ (more ++ drop (length more) z)) (drop_at (take at new) (drop at old) at long)
    ∙ ap (λ k. take at new ++ (more ++ drop k (drop at old))) chunk_long
    ∙ ap (λ z. take at new ++ (more ++ z)) (drop-drop n at old)
    ∙ sym (append_assoc (take at new) more (drop (at + n) old))
    ∙ ap (λ z. z ++ drop (at + n) old) (take_chunk new at n)

-- what lies after is the old list's
pub rest_unchanged : (new old : List ℕ) (at n : ℕ) → at ≤ length new → at ≤ n
    → drop n (take at new ++ drop at old) ≡ drop n old
rest_unchanged new old at n inside further = drop-append-drop at old (take at new) n further
    (length-take-le at new inside)
