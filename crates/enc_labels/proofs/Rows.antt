-- The definitions at worked examples.
use Rattle.std.proofs.Common.{◌≡◌, [], ◌∷◌, length, Some, None, refl, codes}
use Rattle.enc_model.specs.declared.Encoding.TheVariants as e
use Rattle.enc_labels.specs.Labels.{labels, found_label, stripped, encoding_of, output_encoding_of}

how_many : length labels ≡ 114
unfolding labels
how_many = refl

-- TAB, SPACE, `Latin1`, LF
around : encoding_of (0x09 ∷ 0x20 ∷ 0x4C ∷ 0x61 ∷ 0x74 ∷ 0x69 ∷ 0x6E ∷ 0x31 ∷ 0x0A ∷ []) ≡ Some e.Windows1252
unfolding encoding_of found_label labels stripped
around = refl

inside : encoding_of (codes "lat in1") ≡ None
unfolding encoding_of found_label labels stripped
inside = refl

-- a vertical tab is no whitespace here
vertical_tab : encoding_of (0x0B ∷ codes "latin1") ≡ None
unfolding encoding_of found_label labels stripped
vertical_tab = refl

of_utf16 : encoding_of (codes "utf-16") ≡ Some e.Utf16Le
unfolding encoding_of found_label labels stripped
of_utf16 = refl

written_as : output_encoding_of e.Utf16Le ≡ e.Utf8
written_as = refl

of_utf7 : encoding_of (codes "utf-7") ≡ None
unfolding encoding_of found_label labels stripped
of_utf7 = refl

empty : encoding_of [] ≡ None
unfolding encoding_of found_label labels stripped
empty = refl
