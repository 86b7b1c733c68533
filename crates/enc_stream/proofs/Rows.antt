-- The state bytes of worked examples, by computation.
use Rattle.std.proofs.Common.{ℕ, ◌≡◌, false, List, [], ◌∷◌, refl, replicate}
use Rattle.enc_model.specs.declared.Encoding.{Encoding}
use Rattle.enc_model.specs.declared.Encoding.TheVariants.{Utf8, ShiftJis, Iso2022Jp}
use Rattle.enc_model.specs.declared.Mode.TheVariants.{Html}
use Rattle.enc_model.specs.Stream.{steps, steps_within}
use Rattle.enc_model.specs.Utf8.{utf8}
use Rattle.enc_model.specs.Japanese.{shift_jis, iso2022}
use Rattle.enc_model.specs.Encode.{Tables, InAscii}
use Rattle.enc_model.specs.Decode.{decoding, decoded}
use Rattle.enc_model.specs.Transcode.{Transcoder, phase_of}
use Rattle.enc_stream.specs.StateBytes.{state_bytes}

-- without index files, after these bytes, to UTF-8
abbrev none : Tables
none = record { jis0208 = []; jis0212 = []; katakana = []; single = λ e. [] }

abbrev after : Encoding → List ℕ → Transcoder
after from b = record {
  from = from;
  to = Utf8;
  mode = Html;
  phase = phase_of (decoded none from b false);
  shift = InAscii;
}

-- a BOM but for its last byte
held : state_bytes (after Utf8 (0xEF ∷ 0xBB ∷ [])) ≡ 0 ∷ 0 ∷ 0 ∷ 0 ∷ 2 ∷ 0xEF ∷ 0xBB ∷ replicate 25 0
unfolding decoded
held = refl

-- a lead
lead : state_bytes (after ShiftJis (0x82 ∷ [])) ≡ 3 ∷ 0 ∷ 0 ∷ 1 ∷ 3 ∷ 0x82 ∷ replicate 26 0
unfolding steps steps_within shift_jis decoding decoded
lead = refl

-- an escape to jis0208, which sets the flag
escaped : state_bytes (after Iso2022Jp (0x1B ∷ 0x24 ∷ 0x42 ∷ [])) ≡ 5 ∷ 0 ∷ 0 ∷ 1 ∷ 5 ∷ 3 ∷ 3 ∷ 0 ∷ 1 ∷ replicate 23 0
unfolding steps steps_within iso2022 decoding decoded
escaped = refl

-- nothing was read, and all was
first : state_bytes (after Utf8 []) ≡ replicate 32 0
unfolding decoded
first = refl

-- two bytes of four
two_of_four : state_bytes (after Utf8 (0xF0 ∷ 0x90 ∷ [])) ≡ 0 ∷ 0 ∷ 0 ∷ 1 ∷ 0 ∷ 2 ∷ 0xF0 ∷ 0x90 ∷ replicate 24 0
unfolding steps steps_within utf8 decoding decoded
two_of_four = refl
