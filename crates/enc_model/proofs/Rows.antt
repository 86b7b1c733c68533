-- Worked examples, by computation: the review of the definitions.
use Rattle.std.proofs.Common.{ℕ, ◌≡◌, Bool, true, false, List, [], ◌∷◌, refl, Some}
use Rattle.enc_model.specs.declared.Encoding.{Encoding}
use Rattle.enc_model.specs.declared.Encoding.TheVariants.{Utf8, Utf16Be, Utf16Le, ShiftJis, EucJp, Iso2022Jp}
use Rattle.enc_model.specs.declared.Encoding.TheVariants.{Windows1252}
use Rattle.enc_model.specs.declared.Mode.TheVariants.{Html, Fatal}
use Rattle.enc_model.specs.Stream.{steps, steps_within}
use Rattle.enc_model.specs.Index.{Index, code, pointer_where}
use Rattle.enc_model.specs.Utf8.{utf8}
use Rattle.enc_model.specs.Utf16.{utf16}
use Rattle.enc_model.specs.Japanese.{single, shift_jis, euc_jp, iso2022}
use Rattle.enc_model.specs.Encode.{Tables, coded, coded_within, single_encoder, encode, shift_jis_encoder}
use Rattle.enc_model.specs.Encode.{euc_jp_encoder, iso2022_encoder}
use Rattle.std.specs.Fmt.{digits}
use Rattle.enc_model.specs.Decode.{decoding, decoded, decode, text}

abbrev jis0208 : Index
jis0208 = (0, 0x3000) ∷ (2, 0x3002) ∷ (60, 0xFF0D) ∷ (283, 0x3042) ∷ (1410, 0x4E9C) ∷ (3569, 0x65E5) ∷ (
  4007,
  0x672C,
) ∷ (8272, 0x7E8A) ∷ (10744, 0x7E8A) ∷ []

abbrev singles : Encoding → Index
singles Windows1252 = (0, 0x20AC) ∷ (105, 0xE9) ∷ []
singles _ = []

abbrev rows : Tables
rows = record { jis0208 = jis0208; jis0212 = (1410, 0x4E02) ∷ []; katakana = (0, 0x3002) ∷ []; single = singles }

-- what some bytes give as HTML, with the end or without it
abbrev Gives : Encoding → Encoding → List ℕ → Bool → List ℕ → Type 0
Gives from to bytes ended given = (text rows from to Html bytes ended).bytes ≡ given

-- A byte order mark is held until it is whole, by any cut, and decides before the label does.
marks : Gives Utf8 Utf8 (0xEF ∷ []) false []
    × Gives Utf8 Utf8 (0xEF ∷ 0xBB ∷ []) false []
    × Gives Utf8 Utf8 (0xEF ∷ 0xBB ∷ 0xBF ∷ 0x41 ∷ []) true (0x41 ∷ [])
    × Gives ShiftJis Utf8 (0xFE ∷ 0xFF ∷ 0x00 ∷ 0x41 ∷ []) true (0x41 ∷ [])
unfolding steps steps_within code pointer_where utf8 utf16 single shift_jis euc_jp iso2022 coded coded_within
    single_encoder encode shift_jis_encoder euc_jp_encoder iso2022_encoder decoding decoded decode text
marks = (refl, refl, refl, refl)

-- UTF-8: a character that is begun, one that is cut off, and an overlong form by its maximal subparts.
utf8_cuts : Gives Utf8 Utf8 (0xF0 ∷ 0x90 ∷ []) false []
    × Gives Utf8 Utf8 (0xF0 ∷ 0x90 ∷ 0x80 ∷ []) true (0xEF ∷ 0xBF ∷ 0xBD ∷ [])
    × Gives Utf8 Utf8 (0xE0 ∷ 0x80 ∷ 0x41 ∷ []) true (0xEF ∷ 0xBF ∷ 0xBD ∷ 0xEF ∷ 0xBF ∷ 0xBD ∷ 0x41 ∷ [])
unfolding steps steps_within code pointer_where utf8 utf16 single shift_jis euc_jp iso2022 coded coded_within
    single_encoder encode shift_jis_encoder euc_jp_encoder iso2022_encoder decoding decoded decode text
utf8_cuts = (refl, refl, refl)

-- UTF-16: a lead unit is held, and in the middle of a pair; a whole pair; a lead unit at the end, and one alone.
utf16_cuts : Gives Utf16Le Utf8 (0x3D ∷ 0xD8 ∷ []) false []
    × Gives Utf16Le Utf8 (0x3D ∷ 0xD8 ∷ 0x00 ∷ []) false []
    × Gives Utf16Le Utf8 (0x3D ∷ 0xD8 ∷ 0x00 ∷ 0xDE ∷ []) true (0xF0 ∷ 0x9F ∷ 0x98 ∷ 0x80 ∷ [])
    × Gives Utf16Be Utf8 (0xD8 ∷ 0x00 ∷ 0x41 ∷ []) true (0xEF ∷ 0xBF ∷ 0xBD ∷ [])
    × Gives Utf16Le Utf8 (0x3D ∷ 0xD8 ∷ 0x41 ∷ 0x00 ∷ []) true (0xEF ∷ 0xBF ∷ 0xBD ∷ 0x41 ∷ [])
unfolding steps steps_within code pointer_where utf8 utf16 single shift_jis euc_jp iso2022 coded coded_within
    single_encoder encode shift_jis_encoder euc_jp_encoder iso2022_encoder decoding decoded decode text
utf16_cuts = (refl, refl, refl, refl, refl)

-- Shift_JIS: a lead is held, two bytes, ASCII after a bad lead, and a user-defined character.
shift_jis_bytes : Gives ShiftJis Utf8 (0x82 ∷ []) false []
    × Gives ShiftJis Utf8 (0x82 ∷ 0xA0 ∷ []) false (0xE3 ∷ 0x81 ∷ 0x82 ∷ [])
    × Gives ShiftJis Utf8 (0x82 ∷ 0xA0 ∷ 0x82 ∷ 0x20 ∷ []) true (0xE3 ∷ 0x81 ∷ 0x82 ∷ 0xEF ∷ 0xBF ∷ 0xBD ∷ 0x20 ∷ [])
    × Gives ShiftJis Utf8 (0xF0 ∷ 0x40 ∷ []) true (0xEE ∷ 0x80 ∷ 0x80 ∷ [])
unfolding steps steps_within code pointer_where utf8 utf16 single shift_jis euc_jp iso2022 coded coded_within
    single_encoder encode shift_jis_encoder euc_jp_encoder iso2022_encoder decoding decoded decode text
shift_jis_bytes = (refl, refl, refl, refl)

-- EUC-JP: three bytes that are begun, three, two, and half-width katakana.
euc_jp_bytes : Gives EucJp Utf8 (0x8F ∷ 0xB0 ∷ []) false []
    × Gives EucJp Utf8 (0x8F ∷ 0xB0 ∷ 0xA1 ∷ []) true (0xE4 ∷ 0xB8 ∷ 0x82 ∷ [])
    × Gives EucJp Utf8 (0xB0 ∷ 0xA1 ∷ []) true (0xE4 ∷ 0xBA ∷ 0x9C ∷ [])
    × Gives EucJp Utf8 (0x8E ∷ 0xB1 ∷ []) true (0xEF ∷ 0xBD ∷ 0xB1 ∷ [])
unfolding steps steps_within code pointer_where utf8 utf16 single shift_jis euc_jp iso2022 coded coded_within
    single_encoder encode shift_jis_encoder euc_jp_encoder iso2022_encoder decoding decoded decode text
euc_jp_bytes = (refl, refl, refl, refl)

-- ISO-2022-JP: an escape that is cut, one to jis0208, two in a row, and one that is cut off.
escapes : Gives Iso2022Jp Utf8 (0x1B ∷ 0x24 ∷ []) false []
    × Gives Iso2022Jp Utf8 (0x1B ∷ 0x24 ∷ 0x42 ∷ 0x24 ∷ 0x22 ∷ []) false (0xE3 ∷ 0x81 ∷ 0x82 ∷ [])
    × Gives Iso2022Jp Utf8 (0x1B ∷ 0x24 ∷ 0x42 ∷ 0x24 ∷ 0x22 ∷ 0x1B ∷ 0x28 ∷ 0x42 ∷ 0x1B ∷ 0x28 ∷ 0x42 ∷ 0x41 ∷ [])
    true (0xE3 ∷ 0x81 ∷ 0x82 ∷ 0xEF ∷ 0xBF ∷ 0xBD ∷ 0x41 ∷ [])
    × Gives Iso2022Jp Utf8 (0x1B ∷ 0x24 ∷ []) true (0xEF ∷ 0xBF ∷ 0xBD ∷ 0x24 ∷ [])
unfolding steps steps_within code pointer_where utf8 utf16 single shift_jis euc_jp iso2022 coded coded_within
    single_encoder encode shift_jis_encoder euc_jp_encoder iso2022_encoder decoding decoded decode text
escapes = (refl, refl, refl, refl)

-- To ISO-2022-JP: jis0208 that stays open, that a reference leaves, and that the end closes.
to_iso2022 : Gives Utf8 Iso2022Jp (0xE3 ∷ 0x81 ∷ 0x82 ∷ []) false (0x1B ∷ 0x24 ∷ 0x42 ∷ 0x24 ∷ 0x22 ∷ [])
    × Gives Utf8 Iso2022Jp (0xE3 ∷ 0x81 ∷ 0x82 ∷ 0xF0 ∷ 0x9F ∷ 0x98 ∷ 0x80 ∷ []) true
    (0x1B ∷ 0x24 ∷ 0x42 ∷ 0x24 ∷ 0x22 ∷ 0x1B ∷ 0x28 ∷ 0x42 ∷ 0x26 ∷ 0x23 ∷ 0x31 ∷ 0x32 ∷ 0x38 ∷ 0x35 ∷ 0x31 ∷ 0x32 ∷
    0x3B ∷ [])
    × Gives Utf8 Iso2022Jp (0xE3 ∷ 0x81 ∷ 0x82 ∷ []) true (0x1B ∷ 0x24 ∷ 0x42 ∷ 0x24 ∷ 0x22 ∷ 0x1B ∷ 0x28 ∷ 0x42 ∷ [])
unfolding steps steps_within code pointer_where utf8 utf16 single shift_jis euc_jp iso2022 coded coded_within
    single_encoder encode shift_jis_encoder euc_jp_encoder iso2022_encoder decoding decoded decode text digits
to_iso2022 = (refl, refl, refl)

-- The minus sign, a character with a pointer in the range that Shift_JIS leaves out, and half-width katakana, as each
-- of the three Japanese encoders takes them.
to_japanese : Gives Utf8 ShiftJis (0xE2 ∷ 0x88 ∷ 0x92 ∷ []) true (0x81 ∷ 0x7C ∷ [])
    × Gives Utf8 ShiftJis (0xE7 ∷ 0xBA ∷ 0x8A ∷ []) true (0xFA ∷ 0x5C ∷ [])
    × Gives Utf8 ShiftJis (0xEF ∷ 0xBD ∷ 0xA1 ∷ []) true (0xA1 ∷ [])
    × Gives Utf8 EucJp (0xE2 ∷ 0x88 ∷ 0x92 ∷ []) true (0xA1 ∷ 0xDD ∷ [])
    × Gives Utf8 EucJp (0xE7 ∷ 0xBA ∷ 0x8A ∷ []) true (0xF9 ∷ 0xA1 ∷ [])
    × Gives Utf8 EucJp (0xEF ∷ 0xBD ∷ 0xA1 ∷ []) true (0x8E ∷ 0xA1 ∷ [])
    × Gives Utf8 Iso2022Jp (0xE2 ∷ 0x88 ∷ 0x92 ∷ []) true (0x1B ∷ 0x24 ∷ 0x42 ∷ 0x21 ∷ 0x5D ∷ 0x1B ∷ 0x28 ∷ 0x42 ∷ [])
    × Gives Utf8 Iso2022Jp (0xE7 ∷ 0xBA ∷ 0x8A ∷ []) true (0x1B ∷ 0x24 ∷ 0x42 ∷ 0x79 ∷ 0x21 ∷ 0x1B ∷ 0x28 ∷ 0x42 ∷ [])
    × Gives Utf8 Iso2022Jp (0xEF ∷ 0xBD ∷ 0xA1 ∷ []) true (0x1B ∷ 0x24 ∷ 0x42 ∷ 0x21 ∷ 0x23 ∷ 0x1B ∷ 0x28 ∷ 0x42 ∷ [])
unfolding steps steps_within code pointer_where utf8 utf16 single shift_jis euc_jp iso2022 coded coded_within
    single_encoder encode shift_jis_encoder euc_jp_encoder iso2022_encoder decoding decoded decode text
to_japanese = (refl, refl, refl, refl, refl, refl, refl, refl, refl)

-- A character without a code in an encoding that refuses it.
fatal_refusal : (text rows Utf8 Windows1252 Fatal (0xE3 ∷ 0x81 ∷ 0x82 ∷ []) false).fault ≡ Some 0x3042
unfolding steps steps_within code pointer_where utf8 utf16 single shift_jis euc_jp iso2022 coded coded_within
    single_encoder encode shift_jis_encoder euc_jp_encoder iso2022_encoder decoding decoded decode text
fatal_refusal = refl
