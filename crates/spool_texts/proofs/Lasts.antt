-- The last bytes of a text come onto its last blocks.
use Rattle.std.proofs.Common.{◌≡◌, ℕ, ◌+◌, ◌-◌, ◌*◌, ◌<◌, ◌≤◌, ◌++◌, List, [], length, take, drop, min, sym, ◌∙◌, ap}
use Rattle.std.proofs.Common.{arith, ⊎_elim, length-take, length-drop}
use Rattle.std.proofs.lemmas.Bool.{cases_lt}
use Rattle.std.proofs.lemmas.List.{take_all, append-nil, append_assoc, take-take, take-append-drop}
use Rattle.std.proofs.Math.Seq.{take-add}
use Rattle.spool_journal.specs.declared.TheConstants.{PAGE}
use Rattle.spool_texts.specs.TextOn.{blocks_on, text_on}
use Rattle.spool_texts.specs.Written.{WritesIn, IsImageBut}
use Rattle.spool_texts.proofs.Prefixes.{writes_none, writes_on, but_more, but_on}
use Rattle.spool_texts.proofs.Shown.{text_prefix}

-- a text is on the first blocks that have room for it
text_take : (current : ℕ → ℕ) (first n k : ℕ) (list : List ℕ) → n ≤ length list → k ≤ PAGE * n
    → text_on current first (take n list) k ≡ text_on current first list k
text_take current first n k list le fits =
    ap (λ (xs : List ℕ). take k xs) (sym (text_prefix current first n list le))
    ∙ take-take k (PAGE * n) (blocks_on current first list) fits

take_few : (n : ℕ) (xs : List ℕ) → take (min (length xs) n) xs ≡ take n xs
take_few n xs = ⊎_elim
    (λ (lt : length xs < n). take_all (min (length xs) n) xs (omega (arith, lt))
    ∙ sym (take_all n xs (omega (arith, lt))))
    (λ (le : n ≤ length xs). let e : min (length xs) n ≡ n = omega (arith, le) in ap (λ (k : ℕ). take k xs) e)
    (cases_lt (length xs) n)

-- nothing is written yet
pub none_yet : (current : ℕ → ℕ) (first full : ℕ) (list last : List ℕ) → full ≤ length list
    → text_on current first list (PAGE * full + min (length last) (PAGE * (full - full))) ≡ blocks_on current first
    (take full list) ++ take (PAGE * (full - full)) last
none_yet current first full list last le =
    let none : full - full ≡ 0 = omega arith in
    ap (λ (n : ℕ). text_on current first list (PAGE * full + min (length last) (PAGE * n))) none
    ∙ (let at : PAGE * full + min (length last) (PAGE * 0) ≡ PAGE * full = omega arith in ap
    (λ (n : ℕ). text_on current first list n) at)
    ∙ text_prefix current first full list le
    ∙ sym (append-nil (blocks_on current first (take full list)))
    ∙ ap (λ (n : ℕ). blocks_on current first (take full list) ++ take (PAGE * n) last) (sym none)

-- the bytes of one block more are written
pub one_more : (was current current' : ℕ → ℕ) (first full at to : ℕ) (list last bytes : List ℕ) → full ≤ at
    → at < length list
    → PAGE * (at - full) < length last
    → to ≡ min (length last) (PAGE * (at - full) + PAGE) → bytes ≡ take (to - PAGE * (at - full))
    (drop (PAGE * (at - full)) last)
    → text_on current first list (PAGE * full + min (length last) (PAGE * (at - full))) ≡ blocks_on was first
    (take full list) ++ take (PAGE * (at - full)) last
    → text_on current' first (take (at + 1) list) (PAGE * (length (take
    (at + 1) list) - 1) + length bytes) ≡ text_on current
    first (take (at + 1) list) (PAGE * (length (take (at + 1) list) - 1)) ++ bytes
    → text_on current' first list (PAGE * full + min (length last) (PAGE * (at + 1 - full))) ≡ blocks_on was first
    (take full list) ++ take (PAGE * (at + 1 - full)) last
one_more was current current' first full at to list last bytes le lt some to_is bytes_is before written =
    ap (λ (n : ℕ). text_on current' first list n) total
    ∙ sym (text_take current' first (at + 1) (PAGE * at + length bytes) list (omega (arith, lt)) (omega (arith, size)))
    ∙ ap (λ (n : ℕ). text_on current' first (take (at + 1) list) (PAGE * n + length bytes)) (sym after)
    ∙ written
    ∙ ap (λ (n : ℕ). text_on current first (take (at + 1) list) (PAGE * n) ++ bytes) after
    ∙ ap (λ (xs : List ℕ). xs ++ bytes)
    (text_take current first (at + 1) (PAGE * at) list (omega (arith, lt)) (omega arith))
    ∙ ap (λ (n : ℕ). text_on current first list n ++ bytes) done
    ∙ ap (λ (xs : List ℕ). xs ++ bytes) before
    ∙ append_assoc (blocks_on was first (take full list)) (take (PAGE * (at - full)) last) bytes
    ∙ ap (λ (xs : List ℕ). blocks_on was first (take full list) ++ (take (PAGE * (at - full)) last ++ xs)) all
    ∙ ap (λ (xs : List ℕ). blocks_on was first (take full list) ++ xs) (sym (take-add (PAGE * (at - full)) PAGE last))
    ∙ ap (λ (n : ℕ). blocks_on was first (take full list) ++ take n last) next
  where
    rest : List ℕ
    rest = drop (PAGE * (at - full)) last

    rest_len : length (drop (PAGE * (at - full)) last) ≡ length last - PAGE * (at - full)
    rest_len = length-drop (PAGE * (at - full)) last

    count : to - PAGE * (at - full) ≡ min (length (drop (PAGE * (at - full)) last)) PAGE
    count = omega (arith, to_is, rest_len, some)

    all : bytes ≡ take PAGE (drop (PAGE * (at - full)) last)
    all = bytes_is ∙ ap (λ (n : ℕ). take n (drop (PAGE * (at - full)) last)) count
        ∙ take_few PAGE (drop (PAGE * (at - full)) last)

    size : length bytes ≡ min PAGE (length last - PAGE * (at - full))
    size = omega (arith, ap length all, length-take PAGE (drop (PAGE * (at - full)) last), rest_len)

    after : length (take (at + 1) list) - 1 ≡ at
    after = omega (arith, length-take (at + 1) list, lt)

    total : PAGE * full + min (length last) (PAGE * (at + 1 - full)) ≡ PAGE * at + length bytes
    total = omega (arith, size, le, some)

    done : PAGE * at ≡ PAGE * full + min (length last) (PAGE * (at - full))
    done = omega (arith, le, some)

    next : PAGE * (at - full) + PAGE ≡ PAGE * (at + 1 - full)
    next = omega (arith, le)

-- a write to the first blocks is one to all
pub writes_prefix : {first : ℕ} (n : ℕ) {list : List ℕ} {current mid current' : ℕ → ℕ} {unsynced between unsynced' : ℕ
    → Type 0}
    → WritesIn first list current mid unsynced between → WritesIn first (take n list) mid current' between unsynced'
    → WritesIn first list current current' unsynced unsynced'
writes_prefix n {list = list} a b =
    writes_on [] (sym (append-nil list)) a (writes_on (drop n list) (sym (take-append-drop n list)) b (writes_none _ _))

pub but_prefix : {first : ℕ} (n : ℕ) {list : List ℕ} {current mid image : ℕ → ℕ} {unsynced between : ℕ → Type 0}
    → WritesIn first list current mid unsynced between → IsImageBut first (take n list) mid between image
    → IsImageBut first list current unsynced image
but_prefix n {list = list} a is =
    but_on [] (sym (append-nil list)) a (but_more (drop n list) (sym (take-append-drop n list)) is)
