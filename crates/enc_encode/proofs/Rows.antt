-- Worked examples of the encoders, by computation.
use Rattle.std.proofs.Common.{◌≡◌, [], ◌∷◌, refl, Some}
use Rattle.std.specs.Fmt.{digits}
use Rattle.enc_model.specs.declared.Mode.TheVariants.{Html, Fatal}
use Rattle.enc_model.specs.Index.{Index, code, pointer_where}
use Rattle.enc_model.specs.Encode.{InAscii, coded, coded_within, ended_coded, iso2022_encoder, shift_jis_encoder}
use Rattle.enc_model.specs.Encode.{single_encoder}

-- U+FF62 and U+FF61 where the katakana index has them the other way round and jis0208 has U+FF61 alone: the first is
-- looked up in full width, the second is an error for the character in its place
abbrev turned : Index
turned = (0, 0xFF62) ∷ (1, 0xFF61) ∷ []

abbrev alone : Index
alone = (0, 0xFF61) ∷ []

katakana_in_full_width : (ended_coded (coded (iso2022_encoder alone turned) Html InAscii (0xFF62 ∷ 0xFF61 ∷ []))).bytes
    ≡ 0x1B ∷ 0x24 ∷ 0x42 ∷ 0x21 ∷ 0x21 ∷ 0x1B ∷ 0x28 ∷ 0x42 ∷ 0x26 ∷ 0x23 ∷ 0x36 ∷ 0x35 ∷ 0x33 ∷ 0x37 ∷ 0x38 ∷ 0x3B ∷ []
unfolding iso2022_encoder coded coded_within code pointer_where digits
katakana_in_full_width = refl

-- of two pointers of U+7E8A Shift_JIS uses the one outside 8272..8835
twice : Index
twice = (8272, 0x7E8A) ∷ (10744, 0x7E8A) ∷ []

excluded_range : (coded (shift_jis_encoder twice) Html InAscii (0x7E8A ∷ [])).bytes ≡ 0xFA ∷ 0x5C ∷ []
unfolding twice shift_jis_encoder coded coded_within pointer_where
excluded_range = refl

-- windows-1252 has é at pointer 105, and in fatal mode refuses U+3042 after it
latin : Index
latin = (0, 0x20AC) ∷ (105, 0xE9) ∷ []

refused_in_fatal_mode : coded (single_encoder latin) Fatal InAscii (0xE9 ∷ 0x3042 ∷ 0x41 ∷ []) ≡ record {
  bytes = 0xE9 ∷ [];
  state = InAscii;
  fault = Some 0x3042;
}
unfolding latin single_encoder coded coded_within pointer_where
refused_in_fatal_mode = refl
