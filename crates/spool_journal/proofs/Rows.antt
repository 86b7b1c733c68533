-- Worked examples of the definitions.
use Rattle.std.proofs.Common.{◌≡◌, ℕ, ◌==◌, ◌*◌, ◌+◌, if◌then◌else◌, [], ◌∷◌, refl}
use Rattle.spool_journal.specs.declared.TheConstants.{PAGE}
use Rattle.common.specs.declared.limits.TheConstants.{MOST_BLOCKS}
use Rattle.spool_journal.specs.Image.{journal_pages, all_pages, word, byte_of, over, overlaid, laid}

-- 16 blocks have a journal of 257 + 1 pages, and 65,536 one of 257 + 128
pub few_journal : journal_pages 16 ≡ 258
unfolding journal_pages
few_journal = refl

pub many_journal : journal_pages MOST_BLOCKS ≡ 385
unfolding journal_pages
many_journal = refl

-- 3 + 258 + 22 + 258 + 16, and 3 + 385 + 22 + 385 + 65,536
pub few_pages : all_pages 16 ≡ 557
unfolding all_pages journal_pages
few_pages = refl

pub many_pages : all_pages MOST_BLOCKS ≡ 66331
unfolding all_pages journal_pages
many_pages = refl

first_byte_highest : word (byte_of (1 ∷ 2 ∷ 3 ∷ 4 ∷ [])) 0 ≡ 0x0102_0304
unfolding word
first_byte_highest = refl

-- a journal of one page, which is to be page 0x011B, with 9 at its place 5; the gate's byte is given
one_page : ℕ → ℕ → ℕ
one_page gate p = if p == PAGE then gate else if p == 8195 then 1 else if p == 8198 then 0x01 else if p == 8199
    then 0x1B else if p == 12293 then 9 else 0

open_gate_shows_journal : overlaid (one_page 165) (PAGE * 0x011B + 5) ≡ 9
unfolding one_page word over
open_gate_shows_journal = refl

open_gate_shows_other_pages : overlaid (one_page 165) (PAGE * 0x011C + 5) ≡ 0
unfolding one_page word over
open_gate_shows_other_pages = refl

-- 0xA4 is no open gate
other_gate_shows_places : overlaid (one_page 164) (PAGE * 0x011B + 5) ≡ 0
unfolding one_page word over
other_gate_shows_places = refl

pages_lie_over_base : laid ((7, 1 ∷ 2 ∷ []) ∷ (9, 3 ∷ []) ∷ []) (λ p. 8) (PAGE * 7 + 1) ≡ 2
unfolding over
pages_lie_over_base = refl
