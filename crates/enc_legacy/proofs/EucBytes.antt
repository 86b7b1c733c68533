-- The pointer of a pair of EUC-JP, by what its bytes add to it, and of one of ISO-2022-JP by the same.
use Rattle.std.proofs.Common.{ℕ, ◌+◌, ◌*◌, ◌-◌, ◌^◌, ◌%◌, ◌<◌, ◌≡◌, if◌then◌else◌, List, Option, Some, None}
use Rattle.std.proofs.Common.{get_or, slice_index_or, refl, ap, ◌∙◌, subst, arith}
use Rattle.std.proofs.lemmas.Bool.Decides.{nat_tests}
use Rattle.enc_model.specs.Index.{within}
use Rattle.enc_legacy.specs.EucJpState.{IsRow, IsEucJpPair}
use Rattle.enc_legacy.specs.Iso2022State.{IsIso2022Row, IsIso2022Pair}
use Rattle.enc_legacy.specs.declared.pairs.TheConstants.{NO_PAIR, TRAILS}
use Rattle.enc_legacy.specs.declared.euc_bytes.TheConstants.{PAIRS}
use Rattle.enc_legacy.proofs.PairPointers.{rows_of, pair_at, pointer_within}

abbrev of_lead : ℕ → ℕ
of_lead b = if within 0xA1 0xFE b then (b - 0xA1) * 94 else NO_PAIR

abbrev of_trail : ℕ → ℕ
of_trail b = if within 0xA1 0xFE b then b - 0xA1 else NO_PAIR

rows : PAIRS ≡ rows_of of_lead of_trail
rows = refl

pub sum_fits : (a b : ℕ) → a < 256 → b < 256 → get_or PAIRS a 0 + get_or PAIRS (TRAILS + b) 0 < 2 ^ 32
sum_fits a b small below = let e = pair_at PAIRS of_lead of_trail rows a b small below in grind (arith, nat_tests, e)

pub are_rows : (a b : ℕ) → a < 256 → b < 256 → get_or PAIRS a 0 + get_or PAIRS (TRAILS + b) 0 < NO_PAIR
    → IsRow a × IsRow b
are_rows a b small below few =
    let e = pair_at PAIRS of_lead of_trail rows a b small below in grind (arith, nat_tests, e, few)

pub pointer_of : (a b : ℕ) → a < 256 → b < 256 → get_or PAIRS a 0 + get_or PAIRS (TRAILS + b) 0 < NO_PAIR
    → get_or PAIRS a 0 + get_or PAIRS (TRAILS + b) 0 ≡ (a - 0xA1) * 94 + (b - 0xA1)
pointer_of a b small below few =
    let e = pair_at PAIRS of_lead of_trail rows a b small below in grind (arith, nat_tests, e, few)

-- a character at a pair's pointer is what the pair decodes to
pub euc_read : (codes : List (Option ℕ)) (a b p c : ℕ) → (p < NO_PAIR → IsRow a × IsRow b)
    → (p < NO_PAIR → p ≡ (a - 0xA1) * 94 + (b - 0xA1)) → slice_index_or codes p None ≡ Some c
    → IsEucJpPair codes a b c
euc_read codes a b p c are at is few =
    let l = pointer_within codes p c is in
    let small : p < NO_PAIR = omega (arith, l, few) in
    let both = are small in
    (both.0, both.1, subst (λ q. slice_index_or codes q None ≡ Some c) (at small) is)

-- a byte of a row with the top bit set is one of a row without it, at the same place
low_row : (a : ℕ) → a < 256 → IsRow ((a + 0x80) % 256) → IsIso2022Row a × ((a + 0x80) % 256 - 0xA1 ≡ a - 0x21)
low_row a small row = grind (arith, nat_tests, row)

pub iso_read : (codes : List (Option ℕ)) (a b p c : ℕ) → a < 256 → b < 256
    → (p < NO_PAIR → IsRow ((a + 0x80) % 256) × IsRow ((b + 0x80) % 256))
    → (p < NO_PAIR → p ≡ ((a + 0x80) % 256 - 0xA1) * 94 + ((b + 0x80) % 256 - 0xA1))
    → slice_index_or codes p None ≡ Some c → IsIso2022Pair codes a b c
iso_read codes a b p c small below are at is few =
    let l = pointer_within codes p c is in
    let found : p < NO_PAIR = omega (arith, l, few) in
    let both = are found in
    let lead = low_row a small both.0 in
    let trail = low_row b below both.1 in (
      lead.0,
      trail.0,
      subst (λ q. slice_index_or codes q None ≡ Some c)
          (at found ∙ ap (λ x. x * 94 + ((b + 0x80) % 256 - 0xA1)) lead.1 ∙ ap (λ x. (a - 0x21) * 94 + x) trail.1) is,
    )
