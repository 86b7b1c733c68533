-- The text that a draft's new text follows.
use Rattle.std.proofs.Common.{◌≡◌, ◌<◌, ◌≤◌, ◌+◌, ◌*◌, ◌/◌, ◌%◌, ◌++◌, ℕ, List, [], ◌∷◌, Option, None, Some}
use Rattle.std.proofs.Common.{length, take, drop, get_or, replicate, sym, ◌∙◌, ap, arith, add-one, drop-cons}
use Rattle.std.proofs.Common.{append-nil}
use Rattle.std.proofs.lemmas.List.{nil_from_length, take-append-le, take-append-drop}
use Rattle.spool_journal.specs.declared.TheConstants.{PAGE}
use Rattle.spool_disk.specs.Disk.{span}
use Rattle.spool_disk.proofs.Span.{length-span}
use Rattle.spool_texts.proofs.Shown.{text_joined}
use Rattle.spool_texts.specs.Drafts.{Draft, draft_bytes, content_on, full_count}
use Rattle.spool_texts.specs.Drafts.{len_of, prefix_on, unread_count, unread_on}
use Rattle.spool_texts.specs.declared.block_text.Unread.{Unread}
use Rattle.spool_texts.specs.TextOn.{blocks_on, text_on}

-- a draft that reserved no block holds what is unfinished
pub content_empty : (current : ℕ → ℕ) (first : ℕ) (d : Draft) (text : List ℕ) → d.blocks ≡ [] → d.unfinished ≡ text
    → content_on current first d ≡ text
unfolding blocks_on
content_empty current first d text none is =
    let count : full_count d ≡ 0 = omega (arith, ap length none) in
    ap (λ (n : ℕ). blocks_on current first (take n d.blocks) ++ d.unfinished) count ∙ is

-- a text that begins has the bytes in memory that weren't read
pub begun_bytes : (current current' : ℕ → ℕ) (first : ℕ) (u : Unread) (old new : Draft) → old.unread ≡ Some u
    → length old.blocks ≡ 0 → old.unfinished ≡ [] → new.blocks ≡ old.blocks
    → new.unfinished ≡ prefix_on current first u.block u.len
    → content_on current' first new ≡ draft_bytes current first old
begun_bytes current current' first u old new some empty none same is =
    let prefix = prefix_on current first u.block u.len in
    let nil = nil_from_length old.blocks empty in
    content_empty current' first new prefix (same ∙ nil) is
    ∙ sym (append-nil prefix)
    ∙ ap (λ (xs : List ℕ). prefix ++ xs) (sym (content_empty current first old [] nil none))
    ∙ ap (λ (o : Option Unread). unread_on current first o ++ content_on current first old) (sym some)

-- and as many as they were
pub begun_len : (u : Unread) (old new : Draft) → old.unread ≡ Some u → length old.blocks ≡ 0
    → length old.unfinished ≡ 0 → new.unread ≡ None → new.blocks ≡ old.blocks → length new.unfinished ≡ u.len
    → len_of new ≡ len_of old
begun_len u old new some empty none begun same is =
    omega (arith, ap unread_count some, empty, none, ap unread_count begun, ap length same, is)

-- the first bytes of a block, whatever is after it
prefix_of : (current : ℕ → ℕ) (first b n : ℕ) (rest : List ℕ) → n ≤ PAGE
    → text_on current first (b ∷ rest) n ≡ text_on current
    first (b ∷ []) n
unfolding blocks_on
prefix_of current first b n rest le =
    let fits : n ≤ length (span current (PAGE * (first + b)) PAGE) =
    omega (arith, le, length-span current (PAGE * (first + b)) PAGE) in
    take-append-le n (span current (PAGE * (first + b)) PAGE) (blocks_on current first rest) fits
    ∙ sym (take-append-le n (span current (PAGE * (first + b)) PAGE) (blocks_on current first []) fits)

-- a text is on its full blocks and on the next one
pub tail_text : (current : ℕ → ℕ) (first len : ℕ) (list : List ℕ) → len ≤ PAGE * length list → 0 < len % PAGE
    → text_on current first list (PAGE * (len / PAGE)) ++ text_on current first (get_or list (len / PAGE) 0 ∷ [])
    (len % PAGE) ≡ text_on current first list len
tail_text current first len list fits some =
    let n = len / PAGE in
    let lt : n < length list = omega (arith, fits, some) in
    let cut : drop n list ≡ get_or list n 0 ∷ drop (n + 1) list = rw (add-one, drop-cons list n 0) in
    ap (λ (xs : List ℕ). text_on current first list (PAGE * n) ++ xs)
    (sym (ap (λ (xs : List ℕ). text_on current first xs (len % PAGE)) cut
    ∙ prefix_of current first (get_or list n 0) (len % PAGE) (drop (n + 1) list) (omega arith)))
    ∙ sym (text_joined current first n (len % PAGE) list (drop n list) (omega (arith, lt)))
    ∙ ap (λ (xs : List ℕ). text_on current first xs (PAGE * n + len % PAGE)) (take-append-drop n list)
    ∙ ap (λ (k : ℕ). text_on current first list k) (omega arith)

pub no_tail_text : (current : ℕ → ℕ) (first len : ℕ) (list : List ℕ) → len % PAGE ≡ 0
    → text_on current first list (PAGE * (len / PAGE)) ++ replicate (len % PAGE) 0 ≡ text_on current first list len
no_tail_text current first len list whole =
    let full : PAGE * (len / PAGE) ≡ len = omega (arith, whole) in
    ap (λ (k : ℕ). text_on current first list (PAGE * (len / PAGE)) ++ replicate k 0) whole
    ∙ append-nil (text_on current first list (PAGE * (len / PAGE)))
    ∙ ap (λ (k : ℕ). text_on current first list k) full
