-- Decoding with BOM sniffing (Encoding Standard, section 6), and the text of an upload.
use Rattle.std.specs.Prelude.{ℕ, Bool, true, false, not, ◌&&◌, ◌||◌, List, [], ◌∷◌, ◌++◌, drop, ◌==◌, if◌then◌else◌}
use Rattle.enc_model.specs.declared.Encoding.{Encoding}
use Rattle.enc_model.specs.declared.Encoding.TheVariants as encodings
use Rattle.enc_model.specs.declared.Mode.{Mode}
use Rattle.enc_model.specs.Stream.{DecoderRun, steps}
use Rattle.enc_model.specs.Utf8.{Utf8, utf8, utf8_start}
use Rattle.enc_model.specs.Utf16.{Utf16, utf16, utf16_start}
use Rattle.enc_model.specs.Japanese.{Single, SingleState, single, shift_jis, EucJp, euc_jp, euc_jp_start, Iso2022}
use Rattle.enc_model.specs.Japanese.{iso2022, iso2022_start}
use Rattle.enc_model.specs.Encode.{Tables, Coded, encode}

-- A decoder's state, with its encoding.
pub data Decoding : Type 0 where
  OfUtf8 : Utf8 → Decoding
  OfUtf16 : Bool → Utf16 → Decoding
  OfShiftJis : ℕ → Decoding
  OfEucJp : EucJp → Decoding
  OfIso2022 : Iso2022 → Decoding
  OfSingle : Encoding → Single → Decoding

-- The first state of an encoding's decoder.
abbrev pub decoding_start : Encoding → Decoding
decoding_start encodings.Utf8 = OfUtf8 utf8_start
decoding_start encodings.Utf16Be = OfUtf16 true utf16_start
decoding_start encodings.Utf16Le = OfUtf16 false utf16_start
decoding_start encodings.ShiftJis = OfShiftJis 0
decoding_start encodings.EucJp = OfEucJp euc_jp_start
decoding_start encodings.Iso2022Jp = OfIso2022 iso2022_start
decoding_start e = OfSingle e SingleState

-- A run with its state mapped.
abbrev pub run_as : {A B : Type 0} → (A → B) → DecoderRun A → DecoderRun B
run_as f r = record { text = r.text; state = f r.state }

-- A run after some text.
abbrev pub after_run : {S : Type 0} → List ℕ → DecoderRun S → DecoderRun S
after_run text r = record { text = text ++ r.text; state = r.state }

-- The run of the decoder over these bytes, and over the end if `ended`.
unfoldable pub decoding : Tables → Bool → Decoding → List ℕ → DecoderRun Decoding
decoding t ended (OfUtf8 s) b = run_as OfUtf8 (steps utf8 ended s b)
decoding t ended (OfUtf16 big s) b = run_as (OfUtf16 big) (steps (utf16 big) ended s b)
decoding t ended (OfShiftJis s) b = run_as OfShiftJis (steps (shift_jis t.jis0208) ended s b)
decoding t ended (OfEucJp s) b = run_as OfEucJp (steps (euc_jp t.jis0208 t.jis0212) ended s b)
decoding t ended (OfIso2022 s) b = run_as OfIso2022 (steps (iso2022 t.jis0208) ended s b)
decoding t ended (OfSingle e s) b = run_as (OfSingle e) (steps (single (t.single e)) ended s b)

-- The list begins with these bytes.
abbrev pub begins : List ℕ → List ℕ → Bool
begins [] bytes = true
begins (m ∷ mark) [] = false
begins (m ∷ mark) (b ∷ bytes) = (m == b) && begins mark bytes

-- The BOM of UTF-8.
abbrev pub bom8 : List ℕ
bom8 = 0xEF ∷ 0xBB ∷ 0xBF ∷ []

-- The BOM of UTF-16BE.
abbrev pub bom_be : List ℕ
bom_be = 0xFE ∷ 0xFF ∷ []

-- The BOM of UTF-16LE.
abbrev pub bom_le : List ℕ
bom_le = 0xFF ∷ 0xFE ∷ []

-- BOM sniff: the encoding in effect, and the bytes after the BOM.
abbrev pub sniffed : Encoding → List ℕ → Encoding × List ℕ
sniffed e b =
    if begins bom8 b then (encodings.Utf8, drop 3 b)
    else if begins bom_be b then (encodings.Utf16Be, drop 2 b)
    else if begins bom_le b then (encodings.Utf16Le, drop 2 b)
    else (e, b)

-- The bytes aren't a BOM but may become one: none, EF, EF BB, FE or FF.
abbrev pub undecided : List ℕ → Bool
undecided [] = true
undecided (x ∷ []) = (x == 0xEF) || (x == 0xFE) || (x == 0xFF)
undecided (x ∷ y ∷ []) = (x == 0xEF) && (y == 0xBB)
undecided (x ∷ y ∷ z ∷ bytes) = false

-- The result of the bytes so far: they are held, or they were decoded.
pub data Decoded : Type 0 where
  Held : List ℕ → Decoded
  Reading : DecoderRun Decoding → Decoded

-- The result of these bytes. At the end nothing is held.
unfoldable pub decoded : Tables → Encoding → List ℕ → Bool → Decoded
decoded t e b ended =
    if not ended && undecided b then Held b
    else let s = sniffed e b in Reading (decoding t ended (decoding_start s.0) s.1)

-- The result after one more piece.
unfoldable pub advance : Tables → Encoding → Decoded → List ℕ → Decoded
advance t e (Held b) piece = decoded t e (b ++ piece) false
advance t e (Reading r) piece = Reading (after_run r.text (decoding t false r.state piece))

-- The result after the end.
unfoldable pub conclude : Tables → Encoding → Decoded → Decoded
conclude t e (Held b) = Reading (decoding t true (decoding_start e) b)
conclude t e (Reading r) = Reading (after_run r.text (decoding t true r.state []))

-- The decoded code points.
abbrev pub decoded_text : Decoded → List ℕ
decoded_text (Held b) = []
decoded_text (Reading r) = r.text

-- The code points of these bytes by their label.
unfoldable pub decode : Tables → Encoding → List ℕ → Bool → List ℕ
decode t e b ended = decoded_text (decoded t e b ended)

-- The text of these bytes in the target encoding.
unfoldable pub text : Tables → Encoding → Encoding → Mode → List ℕ → Bool → Coded
text t from to mode b done = encode t to mode (decode t from b done) done
