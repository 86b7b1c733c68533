-- The text on a slot's list is the one that its rows show.
use Rattle.std.proofs.Common.{◌≡◌, ℕ, zero, suc, ◌+◌, ◌*◌, ◌/◌, ◌<◌, ◌≤◌, ◌==◌, ◌++◌, Bool, true, false, cond, List, []}
use Rattle.std.proofs.Common.{◌∷◌, Option, None, Some, length, get_or, take, drop, refl, sym, ◌∙◌, ap, subst, arith}
use Rattle.std.proofs.Common.{length-append, length-take}
use Rattle.std.proofs.lemmas.Bool.{eqb-true, eq-eqb, and_from, and_parts}
use Rattle.std.proofs.lemmas.List.{append_assoc, take-append-le, take_all, take-append-drop}
use Rattle.spool_journal.specs.declared.TheConstants.{PAGE}
use Rattle.spool_disk.specs.Disk.{span}
use Rattle.spool_disk.proofs.Span.{length-span}
use Rattle.spool_texts.specs.Texts.{owns, block_at, block_bytes, joined_blocks, text_shown}
use Rattle.spool_texts.specs.TextOn.{blocks_on, text_on, IsListed}

-- the slot's block at the ordinal is owned
owns_own : (slot ordinal : ℕ) → owns slot ordinal (Some (slot, ordinal)) ≡ true
unfolding owns
owns_own slot ordinal = and_from (slot == slot) (ordinal == ordinal) (eq-eqb slot slot refl)
    (eq-eqb ordinal ordinal refl)

-- and no other is
owns_is : (slot ordinal : ℕ) (row : Option (ℕ × ℕ)) → owns slot ordinal row ≡ true → row ≡ Some (slot, ordinal)
unfolding owns
owns_is slot ordinal None e = cc
owns_is slot ordinal (Some (s, o)) e =
    let parts = and_parts (s == slot) (o == ordinal) e in
    let same_slot : s ≡ slot = eqb-true s slot parts.0 in
    let same_ordinal : o ≡ ordinal = eqb-true o ordinal parts.1 in
    cc

-- the only row of a slot at an ordinal is found
pub found : (slot ordinal k : ℕ) (rows : List (Option (ℕ × ℕ))) (b : ℕ) → get_or rows k None ≡ Some (slot, ordinal)
    → ((i : ℕ) → get_or rows i None ≡ Some (slot, ordinal) → i ≡ k) → block_at slot ordinal rows b ≡ Some (b + k)
unfolding block_at
found slot ordinal k [] b here only = cc
found slot ordinal zero (row ∷ rows) b here only =
    let own : owns slot ordinal row ≡ true = ap (owns slot ordinal) here ∙ owns_own slot ordinal in
    let same : b ≡ b + 0 = omega arith in
    ap (λ (t : Bool). cond t (Some b) (block_at slot ordinal rows (b + 1))) own ∙ ap (λ (i : ℕ). Some i) same
found slot ordinal (suc k) (row ∷ rows) b here only =
    let same : b + 1 + k ≡ b + suc k = omega arith in
    not_first (owns slot ordinal row) refl
    (found slot ordinal k rows (b + 1) here (λ i e. omega (arith, only (suc i) e)) ∙ ap (λ (i : ℕ). Some i) same)
  where
    not_first : (t : Bool) → t ≡ owns slot ordinal row → block_at slot ordinal rows (b + 1) ≡ Some (b + suc k)
        → cond t (Some b) (block_at slot ordinal rows (b + 1)) ≡ Some (b + suc k)
    not_first true e rest = absurd (omega (arith, only 0 (owns_is slot ordinal row (sym e))))
    not_first false e rest = rest

pub length-blocks_on : (current : ℕ → ℕ) (first : ℕ) (list : List ℕ)
    → length (blocks_on current first list) ≡ PAGE * length
    list
unfolding blocks_on
length-blocks_on current first [] = refl
length-blocks_on current first (b ∷ list) =
    omega (
      arith,
      length-append (span current (PAGE * (first + b)) PAGE) (blocks_on current first list),
      length-span current
          (PAGE * (first + b)) PAGE,
      length-blocks_on current first list,
    )

pub blocks_on-append : (current : ℕ → ℕ) (first : ℕ) (list more : List ℕ)
    → blocks_on current first (list ++ more) ≡ blocks_on
    current first list ++ blocks_on current first more
unfolding blocks_on
blocks_on-append current first [] more = refl
blocks_on-append current first (b ∷ list) more =
    ap (λ (xs : List ℕ). span current (PAGE * (first + b)) PAGE ++ xs) (blocks_on-append current first list more)
    ∙ sym (append_assoc (span current (PAGE * (first + b)) PAGE) (blocks_on current first list)
    (blocks_on current first more))

-- the blocks that are found for the ordinals from one on are the listed ones
joined_on : (image : ℕ → ℕ) (first : ℕ) (rows : List (Option (ℕ × ℕ))) (slot ordinal : ℕ) (list : List ℕ)
    → ((i : ℕ) → i < length list → block_at slot (ordinal + i) rows 0 ≡ Some (get_or list i 0))
    → joined_blocks image first rows slot ordinal (length list) ≡ blocks_on image first list
unfolding joined_blocks blocks_on block_bytes
joined_on image first rows slot ordinal [] here = refl
joined_on image first rows slot ordinal (b ∷ list) here =
    both
    (let same : ordinal + 0 ≡ ordinal = omega arith in ap (block_bytes image first)
    (subst (λ (o : ℕ). block_at slot o rows 0 ≡ Some b) same (here 0 (omega arith))))
    (joined_on image first rows slot (ordinal + 1) list (λ i lt.
    let same : ordinal + suc i ≡ ordinal + 1 + i = omega arith in
    subst (λ (o : ℕ). block_at slot o rows 0 ≡ Some (get_or list i 0)) same (here (suc i) (omega (arith, lt)))))
  where
    both : {a b c d : List ℕ} → a ≡ b → c ≡ d → a ++ c ≡ b ++ d
    both e f = cc

pub shown : (image : ℕ → ℕ) (first : ℕ) (rows : List (Option (ℕ × ℕ))) (slot len : ℕ) (list : List ℕ)
    → IsListed rows slot list → length list ≡ (len + 4095) / PAGE → text_on image first list len ≡ text_shown image
    first rows slot len
shown image first rows slot len list listed size =
    ap (λ (xs : List ℕ). take len xs)
    (sym (subst (λ (n : ℕ). joined_blocks image first rows slot 0 n ≡ blocks_on image first list) size all))
  where
    all : joined_blocks image first rows slot 0 (length list) ≡ blocks_on image first list
    all = joined_on image first rows slot 0 list (λ i lt.
        let same : i ≡ 0 + i = omega arith in
        subst (λ (o : ℕ). block_at slot o rows 0 ≡ Some (get_or list i 0)) same
        (let zero_more : 0 + get_or list i 0 ≡ get_or list i 0 = omega arith in found slot i (get_or list i 0) rows 0
        (listed.owned i lt) (λ a e. listed.once a (get_or list i 0) i e (listed.owned i lt))
        ∙ ap (λ (b : ℕ). Some b) zero_more))

-- a text after whole blocks
pub take_after : (n len : ℕ) (xs ys : List ℕ) → n ≡ length xs + len → take n (xs ++ ys) ≡ xs ++ take len ys
take_after n len [] ys size = let same : n ≡ len = omega (arith, size) in ap (λ (k : ℕ). take k ys) same
take_after zero len (x ∷ xs) ys size = absurd (omega (arith, size))
take_after (suc n) len (x ∷ xs) ys size = ap (λ (zs : List ℕ). x ∷ zs) (take_after n len xs ys (omega (arith, size)))

-- the text on the first n blocks
pub text_prefix : (image : ℕ → ℕ) (first n : ℕ) (list : List ℕ) → n ≤ length list
    → text_on image first list (PAGE * n) ≡ blocks_on image first (take n list)
text_prefix image first n list le =
    ap (λ (xs : List ℕ). take (PAGE * n) xs) whole ∙ take-append-le (PAGE * n) (blocks_on image first (take n list))
    (blocks_on image first (drop n list)) (omega (arith, size)) ∙ take_all (PAGE * n)
    (blocks_on image first (take n list)) (omega (arith, size))
  where
    size : length (blocks_on image first (take n list)) ≡ PAGE * n
    size = omega (arith, length-blocks_on image first (take n list), length-take n list, le)

    whole : blocks_on image first list ≡ blocks_on image first (take n list) ++ blocks_on image first (drop n list)
    whole = ap (blocks_on image first) (sym (take-append-drop n list)) ∙ blocks_on-append image first (take n list)
        (drop n list)

pub text_joined : (image : ℕ → ℕ) (first n len : ℕ) (list more : List ℕ) → n ≤ length list
    → text_on image first (take n list ++ more) (PAGE * n + len) ≡ text_on image first list (PAGE * n) ++ text_on image
    first more len
text_joined image first n len list more le =
    ap (λ (xs : List ℕ). take (PAGE * n + len) xs) (blocks_on-append image first (take n list) more)
    ∙ take_after (PAGE * n + len) len (blocks_on image first (take n list)) (blocks_on image first more)
    (omega (arith, size))
    ∙ ap (λ (xs : List ℕ). xs ++ take len (blocks_on image first more)) (sym (text_prefix image first n list le))
  where
    size : length (blocks_on image first (take n list)) ≡ PAGE * n
    size = omega (arith, length-blocks_on image first (take n list), length-take n list, le)
