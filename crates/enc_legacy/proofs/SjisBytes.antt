-- The pointer of a pair of Shift_JIS, by what its bytes add to it.
use Rattle.std.proofs.Common.{ℕ, ◌+◌, ◌*◌, ◌-◌, ◌^◌, ◌<◌, ◌≡◌, ◌||◌, if◌then◌else◌, List, Option, Some, None}
use Rattle.std.proofs.Common.{get_or, slice_index_or, refl, sym, ◌∙◌, arith}
use Rattle.std.proofs.lemmas.Bool.Decides.{nat_tests}
use Rattle.enc_model.specs.Index.{Index, code, within}
use Rattle.enc_model.specs.Japanese.{shift_jis_pair}
use Rattle.enc_legacy.specs.ShiftJis.{IsShiftJisLead, IsShiftJisPair}
use Rattle.enc_legacy.specs.declared.pairs.TheConstants.{NO_PAIR, TRAILS}
use Rattle.enc_legacy.specs.declared.sjis_bytes.TheConstants.{PAIRS}
use Rattle.enc_legacy.proofs.PairPointers.{rows_of, lead_at, pair_at, pointer_within}

abbrev of_lead : ℕ → ℕ
of_lead b =
    if within 0x81 0x9F b then (b - 0x81) * 188
    else if within 0xE0 0xEF b || within 0xFA 0xFC b then (b - 0xC1) * 188
    else NO_PAIR

abbrev of_trail : ℕ → ℕ
of_trail b = if within 0x40 0x7E b then b - 0x40 else if within 0x80 0xFC b then b - 0x41 else NO_PAIR

rows : PAIRS ≡ rows_of of_lead of_trail
rows = refl

pub sum_fits : (a b : ℕ) → a < 256 → b < 256 → get_or PAIRS a 0 + get_or PAIRS (TRAILS + b) 0 < 2 ^ 32
sum_fits a b small below = let e = pair_at PAIRS of_lead of_trail rows a b small below in grind (arith, nat_tests, e)

pub lead_of : (a b : ℕ) → a < 256 → get_or PAIRS a 0 + get_or PAIRS (TRAILS + b) 0 < NO_PAIR → IsShiftJisLead a
lead_of a b small few =
    let e = lead_at PAIRS of_lead of_trail rows a small in
    grind (arith, nat_tests, e, few)

pub pair_of : (a b : ℕ) → a < 256 → b < 256 → get_or PAIRS a 0 + get_or PAIRS (TRAILS + b) 0 < NO_PAIR →
    (i : Index) → shift_jis_pair i a b ≡ code i (get_or PAIRS a 0 + get_or PAIRS (TRAILS + b) 0)
pair_of a b small below few i =
    let e = pair_at PAIRS of_lead of_trail rows a b small below in grind (arith, nat_tests, e, few)

-- a character at a pair's pointer is what the pair decodes to
pub sjis_read : (codes : List (Option ℕ)) (a b p c : ℕ) → (p < NO_PAIR → IsShiftJisLead a)
    → (p < NO_PAIR → (i : Index) → shift_jis_pair i a b ≡ code i p) → slice_index_or codes p None ≡ Some c
    → IsShiftJisPair codes a b c
sjis_read codes a b p c lead pair is few =
    let l = pointer_within codes p c is in
    let small : p < NO_PAIR = omega (arith, l, few) in
    (lead small, λ i same. pair small i ∙ sym (same p) ∙ is)
