-- Pieces of a text.
use Rattle.std.proofs.Common.{◌≡◌, ℕ, zero, suc, ◌+◌, ◌-◌, ◌*◌, ◌/◌, ◌%◌, ◌<◌, ◌≤◌, ◌++◌, List, [], ◌∷◌, length, get_or}
use Rattle.std.proofs.Common.{take, drop, sym, ◌∙◌, ap, subst, arith, ⊎_elim, length-append, length-drop, length-take}
use Rattle.std.proofs.Common.{min}
use Rattle.std.proofs.lemmas.Bool.{cases_lt}
use Rattle.std.proofs.lemmas.List.{get_or_append_left, get_or-append_right, get_or-drop, get_or-take, ext_get_or}
use Rattle.spool_journal.specs.declared.TheConstants.{PAGE}
use borrow.Rule.Slice.PartMut.{put_mid}
use Rattle.spool_disk.specs.Disk.{span, Preserves, IsImage}
use Rattle.spool_disk.proofs.Span.{length-span}
use Rattle.spool_texts.specs.Reading.{IsRead, IsPiece, Follow, byte_on}
use Rattle.spool_texts.specs.TextOn.{blocks_on, text_on, AllBelow}
use Rattle.spool_texts.proofs.Shown.{length-blocks_on}

-- a byte of a span
pub get_or-span : (f : ℕ → ℕ) (at n k : ℕ) → k < n → get_or (span f at n) k 0 ≡ f (at + k)
unfolding span
get_or-span f at zero k lt = omega (arith, lt)
get_or-span f at (suc n) zero lt = let e : at ≡ at + 0 = omega arith in ap f e
get_or-span f at (suc n) (suc k) lt = let e : at + 1 + k ≡ at + suc k =
    omega arith in get_or-span f (at + 1) n k (omega (arith, lt)) ∙ ap f e

-- blocks that follow one another end where the blocks end
pub run_below : (list : List ℕ) (blocks at count : ℕ) → AllBelow blocks list → Follow list at count → 1 ≤ count
    → at + count ≤ length list → get_or list at 0 + count ≤ blocks
run_below list blocks at count below follow some within =
    let last : get_or list (at + (count - 1)) 0 ≡ get_or list at 0 + (count - 1) =
    follow (count - 1) (omega (arith, some)) in
    omega (arith, last, below (at + (count - 1)) (omega (arith, some, within)), some)

-- a place after `at` on blocks that follow one another
pub place_on : (list : List ℕ) (at count k : ℕ) → Follow list (at / PAGE) count → at % PAGE + k < PAGE * count
    → PAGE * get_or list (at / PAGE) 0 + (at % PAGE + k) ≡ PAGE * get_or list ((at + k) / PAGE) 0 + (at + k) % PAGE
place_on list at count k follow lt =
    let e : at / PAGE + (at % PAGE + k) / PAGE ≡ (at + k) / PAGE = omega arith in
    let rest : (at + k) % PAGE ≡ (at % PAGE + k) % PAGE = omega arith in
    let there : get_or list ((at + k) / PAGE) 0 ≡ get_or list (at / PAGE) 0 + (at % PAGE + k) / PAGE =
    ap (λ (i : ℕ). get_or list i 0) (sym e) ∙ follow ((at % PAGE + k) / PAGE) (omega (arith, lt)) in
    omega (arith, rest, there)

-- what was read from blocks that follow one another
pub piece_is : (current : ℕ → ℕ) (first : ℕ) (list : List ℕ) (at count n : ℕ) (buf new : List ℕ) → n ≤ length buf
    → Follow list (at / PAGE) count → at % PAGE + n ≤ PAGE * count
    → new ≡ span current (PAGE * (first + get_or list (at / PAGE) 0) + at % PAGE) n
    → IsPiece current first list at n buf (new ++ drop n buf)
piece_is current first list at count n buf new fits follow within is = record {
  size = omega (arith, length-append new (drop n buf), length-drop n buf, size, fits);
  bytes = λ k lt. get_or_append_left new (drop n buf) 0 k (omega (arith, lt, size))
      ∙ ap (λ (xs : List ℕ). get_or xs k 0) is ∙ get_or-span current
      (PAGE * (first + get_or list (at / PAGE) 0) + at % PAGE) n k lt ∙ ap current (same k lt);
  rest = λ k le. let e : n + (k - n) ≡ k =
      omega (arith, le) in get_or-append_right new (drop n buf) n k 0 size le ∙ get_or-drop n buf (k - n) 0
      ∙ ap (λ (i : ℕ). get_or buf i 0) e;
}
  where
    size : length new ≡ n
    size = ap length is ∙ length-span current (PAGE * (first + get_or list (at / PAGE) 0) + at % PAGE) n

    same : (k : ℕ) → k < n → PAGE * (first + get_or list (at / PAGE) 0) + at % PAGE + k ≡ PAGE * (first + get_or list
        ((at + k) / PAGE) 0) + (at + k) % PAGE
    same k lt = let e = place_on list at count k follow (omega (arith, lt, within)) in omega (arith, e)

-- a write into a middle of a buffer
pub mid_before : (buf sub : List ℕ) (from size k : ℕ) → k < from → from ≤ length buf
    → get_or (put_mid from size buf sub) k 0 ≡ get_or buf k 0
mid_before buf sub from size k lt le =
    let prefix : length (take from buf) ≡ from = omega (arith, length-take from buf, le) in
    get_or_append_left (take from buf) (sub ++ drop size (drop from buf)) 0 k (omega (arith, prefix, lt))
    ∙ get_or-take from buf k 0 lt

pub mid_inside : (buf sub : List ℕ) (from size k : ℕ) → k < length sub → from ≤ length buf
    → get_or (put_mid from size buf sub) (from + k) 0 ≡ get_or sub k 0
mid_inside buf sub from size k lt le =
    let prefix : length (take from buf) ≡ from = omega (arith, length-take from buf, le) in
    let e : from + k - from ≡ k = omega arith in
    get_or-append_right (take from buf) (sub ++ drop size (drop from buf)) from (from + k) 0 prefix (omega arith)
    ∙ ap (λ (i : ℕ). get_or (sub ++ drop size (drop from buf)) i 0) e
    ∙ get_or_append_left sub (drop size (drop from buf)) 0 k lt

pub mid_after : (buf sub : List ℕ) (from size k : ℕ) → from + size ≤ k → length sub ≡ size → from ≤ length buf
    → get_or (put_mid from size buf sub) k 0 ≡ get_or buf k 0
mid_after buf sub from size k le same fits =
    let prefix : length (take from buf) ≡ from = omega (arith, length-take from buf, fits) in
    let e : from + (size + (k - from - size)) ≡ k = omega (arith, le) in
    get_or-append_right (take from buf) (sub ++ drop size (drop from buf)) from k 0 prefix (omega (arith, le))
    ∙ get_or-append_right sub (drop size (drop from buf)) size (k - from) 0 same (omega (arith, le))
    ∙ get_or-drop size (drop from buf) (k - from - size) 0
    ∙ get_or-drop from buf (size + (k - from - size)) 0
    ∙ ap (λ (i : ℕ). get_or buf i 0) e

-- one piece more of a text
module _ {current mid : ℕ → ℕ} {unsynced unsynced' : ℕ → Type 0} (first : ℕ) (list : List ℕ) (at from to n : ℕ)
    (old buf sub : List ℕ) (preserves : Preserves current mid unsynced unsynced') (upto : from ≤ to)
    (fits : to ≤ length buf)
    (few : n ≤ length (take (to - from) (drop from buf)))
    (piece : IsPiece mid first list (at + from) n (take (to - from) (drop from buf)) sub) where
  sub_size : length sub ≡ to - from
  sub_size = omega (arith, piece.size, length-take (to - from) (drop from buf), length-drop from buf, upto, fits)

  pub bytes_on : ((k : ℕ) → k < from → get_or buf k 0 ≡ byte_on current first list (at + k)) → (k : ℕ) → k < from + n
      → get_or (put_mid from (to - from) buf sub) k 0 ≡ byte_on current first list (at + k)
  bytes_on before k lt =
      ⊎_elim
      (λ (prefix : k < from). mid_before buf sub from (to - from) k prefix (omega (arith, upto, fits))
      ∙ before k prefix)
      (λ (after : from ≤ k).
      let e : from + (k - from) ≡ k = omega (arith, after) in
      let e' : at + from + (k - from) ≡ at + k = omega (arith, after) in
      subst (λ (i : ℕ). get_or (put_mid from (to - from) buf sub) i 0 ≡ byte_on current first list (at + k)) e
      (mid_inside buf sub from (to - from) (k - from) (omega (arith, lt, after, piece.size, few))
      (omega (arith, upto, fits))
      ∙ piece.bytes (k - from) (omega (arith, lt, after))
      ∙ preserves.same (PAGE * (first + get_or list ((at + from + (k - from)) / PAGE) 0) + (at + from + (k - from)) %
      PAGE)
      ∙ ap (byte_on current first list) e'))
      (cases_lt k from)

  pub rest_on : ((k : ℕ) → from ≤ k → get_or buf k 0 ≡ get_or old k 0) → (k : ℕ) → from + n ≤ k
      → get_or (put_mid from (to - from) buf sub) k 0 ≡ get_or old k 0
  rest_on before k le =
      ⊎_elim
      (λ (inside : k < to).
      let e : from + (k - from) ≡ k = omega (arith, le) in
      subst (λ (i : ℕ). get_or (put_mid from (to - from) buf sub) i 0 ≡ get_or old k 0) e
      (mid_inside buf sub from (to - from) (k - from) (omega (arith, inside, le, sub_size)) (omega (arith, upto, fits))
      ∙ piece.rest (k - from) (omega (arith, le))
      ∙ get_or-take (to - from) (drop from buf) (k - from) 0 (omega (arith, inside, le))
      ∙ get_or-drop from buf (k - from) 0
      ∙ ap (λ (i : ℕ). get_or buf i 0) e
      ∙ before k (omega (arith, le))))
      (λ (after : to ≤ k). mid_after buf sub from (to - from) k (omega (arith, after, upto)) sub_size
      (omega (arith, upto, fits)) ∙ before k (omega (arith, le)))
      (cases_lt k to)

pub byte_of_text : (current : ℕ → ℕ) (first : ℕ) (list : List ℕ) (at : ℕ) → at < PAGE * length list
    → get_or (blocks_on current first list) at 0 ≡ byte_on current first list at
unfolding blocks_on
byte_of_text current first [] at lt = absurd (omega (arith, lt))
byte_of_text current first (b ∷ list) at lt =
    ⊎_elim
    (λ (here : at < PAGE).
    let quotient : 0 ≡ at / PAGE = omega (arith, here) in
    let rest : at ≡ at % PAGE = omega (arith, here) in
    get_or_append_left (span current (PAGE * (first + b)) PAGE) (blocks_on current first list) 0 at
    (omega (arith, here, length-span current (PAGE * (first + b)) PAGE))
    ∙ get_or-span current (PAGE * (first + b)) PAGE at here
    ∙ ap (λ (i : ℕ). current (PAGE * (first + b) + i)) rest
    ∙ ap (λ (i : ℕ). current (PAGE * (first + get_or (b ∷ list) i 0) + at % PAGE)) quotient)
    (λ (after : PAGE ≤ at).
    let quotient : suc ((at - PAGE) / PAGE) ≡ at / PAGE = omega (arith, after) in
    let rest : (at - PAGE) % PAGE ≡ at % PAGE = omega (arith, after) in
    get_or-append_right (span current (PAGE * (first + b)) PAGE) (blocks_on current first list) PAGE at 0
    (length-span current (PAGE * (first + b)) PAGE) after
    ∙ byte_of_text current first list (at - PAGE) (omega (arith, lt, after))
    ∙ ap (λ (i : ℕ). current (PAGE * (first + get_or list ((at - PAGE) / PAGE) 0) + i)) rest
    ∙ ap (λ (i : ℕ). current (PAGE * (first + get_or (b ∷ list) i 0) + at % PAGE)) quotient)
    (cases_lt at PAGE)

-- all that there is and fits was read
pub all_read : (current : ℕ → ℕ) (first : ℕ) (list : List ℕ) (len at n : ℕ) (old buf : List ℕ)
    → len ≤ PAGE * length list
    → n ≡ min (len - at) (length old) → length buf ≡ length old
    → ((k : ℕ) → k < n → get_or buf k 0 ≡ byte_on current first list (at + k))
    → ((k : ℕ) → n ≤ k → get_or buf k 0 ≡ get_or old k 0) → IsRead (text_on current first list len) at n old buf
all_read current first list len at n old buf long is same bytes rest = record {
  count = omega (arith, is, size);
  bytes = ext_get_or 0 buf (take n (drop at (text_on current first list len)) ++ drop n old) sizes (λ k lt. ⊎_elim
      (λ (inside : k < n).
      bytes k inside
      ∙ sym (byte_of_text current first list (at + k) (omega (arith, inside, is, long)))
      ∙ sym (get_or-take len (blocks_on current first list) (at + k) 0 (omega (arith, inside, is)))
      ∙ sym (get_or-drop at (text_on current first list len) k 0)
      ∙ sym (get_or-take n (drop at (text_on current first list len)) k 0 inside)
      ∙ sym (get_or_append_left (take n (drop at (text_on current first list len))) (drop n old) 0 k
      (omega (arith, inside, prefix))))
      (λ (after : n ≤ k).
      let e : n + (k - n) ≡ k = omega (arith, after) in
      rest k after
      ∙ sym (get_or-append_right (take n (drop at (text_on current first list len))) (drop n old) n k 0 prefix after
      ∙ get_or-drop n old (k - n) 0 ∙ ap (λ (i : ℕ). get_or old i 0) e))
      (cases_lt k n));
}
  where
    size : length (text_on current first list len) ≡ len
    size = omega (arith, length-take len (blocks_on current first list), length-blocks_on current first list, long)

    prefix : length (take n (drop at (text_on current first list len))) ≡ n
    prefix = omega (
      arith,
      length-take n (drop at (text_on current first list len)),
      length-drop at
          (text_on current first list len),
      size,
      is,
    )

    sizes : length buf ≡ length (take n (drop at (text_on current first list len)) ++ drop n old)
    sizes = omega (
      arith,
      length-append (take n (drop at (text_on current first list len))) (drop n old),
      prefix,
      length-drop n old,
      same,
      is,
    )

-- a call that changes nothing, after another
pub preserves_on : {current mid current' : ℕ → ℕ} {unsynced between unsynced' : ℕ → Type 0}
    → Preserves current mid unsynced between
    → Preserves mid current' between unsynced' → Preserves current current' unsynced unsynced'
preserves_on a b = record { same = λ p. b.same p ∙ a.same p; unsyncs = λ p l. a.unsyncs p (b.unsyncs p l) }

-- its images are those from before
pub image_preserves : {current mid image : ℕ → ℕ} {unsynced between : ℕ → Type 0}
    → Preserves current mid unsynced between
    → IsImage mid between image → IsImage current unsynced image
image_preserves a is = record { same = λ p is_synced. is.same p (λ l. is_synced (a.unsyncs p l)) ∙ a.same p }
