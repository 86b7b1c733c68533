-- Each encoder is steady.
use Rattle.std.proofs.Common.{ℕ, ◌≤◌, ◌<◌, arith}
use Rattle.std.proofs.lemmas.Bool.Decides.{nat_tests}
use Rattle.enc_model.specs.declared.Encoding.{Encoding}
use Rattle.enc_model.specs.declared.Encoding.TheVariants as encodings
use Rattle.enc_model.specs.Index.{Index}
use Rattle.enc_model.specs.Encode.{Shift, InAscii, InRoman, InJis, settled, IsWrote, IsNoRestore, IsSteadyEncoder}
use Rattle.enc_model.specs.Encode.{shift_jis_encoder, euc_jp_encoder, iso2022_encoder, single_encoder, utf8_encoder}
use Rattle.enc_model.specs.Encode.{encoder, Tables}

sjis_steady : (i : Index) → IsSteadyEncoder (shift_jis_encoder i)
unfolding shift_jis_encoder
sjis_steady i = record { once = λ s c. grind (arith, nat_tests); ascii = λ s c l h. grind (arith, nat_tests) }

euc_steady : (i : Index) → IsSteadyEncoder (euc_jp_encoder i)
unfolding euc_jp_encoder
euc_steady i = record { once = λ s c. grind (arith, nat_tests); ascii = λ s c l h. grind (arith, nat_tests) }

single_steady : (i : Index) → IsSteadyEncoder (single_encoder i)
unfolding single_encoder
single_steady i = record { once = λ s c. grind (arith, nat_tests); ascii = λ s c l h. grind (arith, nat_tests) }

iso_ascii : (i k : Index) (s : Shift) (c : ℕ) → 0x20 ≤ c → c < 0x5C → IsWrote
    (settled (iso2022_encoder i k) c (iso2022_encoder i k s c))
unfolding iso2022_encoder
iso_ascii i k InAscii c l h = grind (arith, nat_tests)
iso_ascii i k InRoman c l h = grind (arith, nat_tests)
iso_ascii i k InJis c l h = grind (arith, nat_tests)

iso_once : (i k : Index) (s : Shift) (c : ℕ) → IsNoRestore (settled (iso2022_encoder i k) c (iso2022_encoder i k s c))
unfolding iso2022_encoder
iso_once i k InAscii c = grind (arith, nat_tests)
iso_once i k InRoman c = grind (arith, nat_tests)
iso_once i k InJis c = grind (arith, nat_tests)

utf8_steady : IsSteadyEncoder utf8_encoder
utf8_steady = record { once = λ s c. tt; ascii = λ s c l h. tt }

pub encoder_steady : (t : Tables) (e : Encoding) → IsSteadyEncoder (encoder t e)
encoder_steady t encodings.Utf8 = utf8_steady
encoder_steady t encodings.Utf16Be = utf8_steady
encoder_steady t encodings.Utf16Le = utf8_steady
encoder_steady t encodings.ShiftJis = sjis_steady t.jis0208
encoder_steady t encodings.EucJp = euc_steady t.jis0208
encoder_steady t encodings.Iso2022Jp = record {
  once = iso_once t.jis0208 t.katakana;
  ascii = iso_ascii t.jis0208 t.katakana;
}
encoder_steady t e = single_steady (t.single e)
