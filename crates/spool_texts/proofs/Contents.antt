-- What a draft holds.
use Rattle.std.proofs.Common.{◌≡◌, ℕ, ◌+◌, ◌-◌, ◌*◌, ◌≤◌, ◌++◌, List, [], Option, None, length, take, drop, sym, ◌∙◌}
use Rattle.std.proofs.Common.{ap, arith}
use Rattle.std.proofs.lemmas.List.{take_all, append-nil, append_assoc, nil_from_length, take-append-le, take_at}
use Rattle.std.proofs.lemmas.List.{take-take}
use Rattle.std.proofs.Math.Seq.{take-add}
use Rattle.spool_journal.specs.declared.TheConstants.{PAGE}
use Rattle.spool_texts.specs.TextOn.{blocks_on, text_on}
use Rattle.spool_texts.specs.Drafts.{Draft, draft_bytes, content_on, full_count, held_count, len_of, unread_count}
use Rattle.spool_texts.specs.Drafts.{unread_on}
use Rattle.spool_texts.specs.declared.block_text.Unread.{Unread}
use Rattle.spool_texts.proofs.Shown.{text_prefix}

-- nothing is unfinished
pub all_written : (current : ℕ → ℕ) (first : ℕ) (d : Draft) → length d.unfinished ≡ 0
    → text_on current first d.blocks (held_count d) ≡ content_on current first d
all_written current first d none =
    let held : held_count d ≡ PAGE * length d.blocks = omega (arith, none) in
    let full : length d.blocks ≡ full_count d = omega (arith, none) in
    ap (λ (n : ℕ). text_on current first d.blocks n) held
    ∙ text_prefix current first (length d.blocks) d.blocks (omega arith)
    ∙ ap (λ (n : ℕ). blocks_on current first (take n d.blocks)) full
    ∙ sym (append-nil (blocks_on current first (take (full_count d) d.blocks)))
    ∙ ap (λ (xs : List ℕ). blocks_on current first (take (full_count d) d.blocks) ++ xs)
    (sym (nil_from_length d.unfinished none))

-- the last block is full, and written
pub full_written : (current current' : ℕ → ℕ) (first : ℕ) (old new : Draft) (more page bytes : List ℕ)
    → new.unfinished ≡ []
    → new.blocks ≡ old.blocks ++ more → length new.blocks ≡ full_count old + 1 → length page ≡ PAGE
    → page ≡ old.unfinished ++ bytes
    → text_on current' first new.blocks (PAGE *
    (length new.blocks - 1) + length page) ≡ text_on current first new.blocks
    (PAGE * (length new.blocks - 1)) ++ page → content_on current' first new ≡ content_on current first old ++ bytes
full_written current current' first old new more page bytes none grown ready size is text =
    sym (all_written current' first new (ap length none))
    ∙ ap (λ (n : ℕ). text_on current' first new.blocks n) held
    ∙ text
    ∙ ap (λ (n : ℕ). text_on current first new.blocks (PAGE * n) ++ page) full
    ∙ ap (λ (xs : List ℕ). xs ++ page) (text_prefix current first (full_count old) new.blocks (omega (arith, ready)))
    ∙ ap (λ (xs : List ℕ). blocks_on current first xs ++ page) prefix
    ∙ ap (λ (xs : List ℕ). blocks_on current first (take (full_count old) old.blocks) ++ xs) is
    ∙ sym (append_assoc (blocks_on current first (take (full_count old) old.blocks)) old.unfinished bytes)
  where
    held : held_count new ≡ PAGE * (length new.blocks - 1) + length page
    held = omega (arith, ap length none, size, ready)

    full : length new.blocks - 1 ≡ full_count old
    full = omega (arith, ready)

    prefix : take (full_count old) new.blocks ≡ take (full_count old) old.blocks
    prefix = ap (λ (xs : List ℕ). take (full_count old) xs) grown ∙ take-append-le (full_count old) old.blocks more
        (omega arith)

-- the bytes of a page that is full
pub page_filled : (cap filled n : ℕ) (page rest old bytes result unfinished : List ℕ) → result ≡ take cap (page ++ rest)
    → cap ≡ PAGE → length page ≡ PAGE → filled + n ≡ PAGE → take (filled + n) page ≡ take filled old ++ bytes
    → take filled old ≡ unfinished → result ≡ unfinished ++ bytes
page_filled cap filled n page rest old bytes result unfinished is cap_is size full filled_is prefix =
    is
    ∙ take_at page rest cap (omega (arith, size, cap_is))
    ∙ sym (take_all (filled + n) page (omega (arith, size, full)))
    ∙ filled_is
    ∙ ap (λ (xs : List ℕ). xs ++ bytes) prefix

-- some bytes more
pub content_more : (new mid old bytes : List ℕ) (done n rest : ℕ) → n ≤ rest
    → new ≡ mid ++ take n (take rest (drop done bytes)) → mid ≡ old ++ take done bytes
    → new ≡ old ++ take (done + n) bytes
content_more new mid old bytes done n rest le is before =
    is
    ∙ ap (λ (xs : List ℕ). mid ++ xs) (take-take n rest (drop done bytes) le)
    ∙ ap (λ (xs : List ℕ). xs ++ take n (drop done bytes)) before
    ∙ append_assoc old (take done bytes) (take n (drop done bytes))
    ∙ ap (λ (xs : List ℕ). old ++ xs) (sym (take-add done n bytes))

-- once a text has begun, all its bytes are on blocks or in memory
pub begun_held : (d : Draft) → d.unread ≡ None → len_of d ≡ held_count d
begun_held d begun = omega (arith, ap unread_count begun)

pub begun_content : (current : ℕ → ℕ) (first : ℕ) (d : Draft) → d.unread ≡ None
    → draft_bytes current first d ≡ content_on current first d
begun_content current first d begun =
    ap (λ (o : Option Unread). unread_on current first o ++ content_on current first d) begun
