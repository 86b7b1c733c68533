-- What is decoded, and what is written of it in UTF-8.
use Rattle.std.proofs.Common.{ℕ, ◌<◌, ◌≡◌, Bool, true, false, not, ◌&&◌, List, [], ◌∷◌, None, refl, sym, ◌∙◌, ap, subst}
use Rattle.std.proofs.Common.{drop, if◌then◌else◌, All, append-nil}
use Rattle.std.specs.List.{concat}
use Rattle.std.specs.Str.{IsUtf8}
use Rattle.std.proofs.Common.{◌++◌, arith}
use lib.Utf8.{encode as spelled, encodes, scalar, scalars}
use Rattle.std.proofs.lemmas.List.Elements.{All-nil, All-cons, All-head, All-tail, All-drop}
use Rattle.enc_model.specs.declared.Encoding.{Encoding}
use Rattle.enc_model.specs.declared.Encoding.TheVariants as encodings
use Rattle.enc_model.specs.declared.Mode.{Mode}
use Rattle.enc_model.specs.Indexes.{IndexSet, tables, single_byte_place}
use Rattle.enc_model.specs.Utf16.{utf16, utf16_start}
use Rattle.enc_model.specs.Japanese.{single, SingleState, shift_jis, euc_jp, euc_jp_start, iso2022, iso2022_start}
use Rattle.enc_model.specs.Encode.{Tables, Shift, InAscii, Coded, encode, ended_coded, utf8_encoder, utf8_bytes}
use Rattle.enc_model.specs.Encode.{all_codes, code_of}
use Rattle.enc_model.specs.Decode.{decoding, decoding_start, begins, bom8, bom_be, bom_le, sniffed, undecided, Held}
use Rattle.enc_model.specs.Decode.{Reading, decoded, decoded_text, decode, text}
use Rattle.enc_model.proofs.Coding.{coded_is}
use Rattle.enc_model.proofs.Steady.{encoder_steady}
use Rattle.enc_index.specs.Scalars.{is_scalar}
use Rattle.enc_index.specs.Sets.{IsIndexSet}
use Rattle.enc_laws.specs.Subparts.{is_sequence, is_open, scalar_of, segment_scalar, segments_text, segments}
use Rattle.enc_laws.specs.WellFormed.{AreBytes, AreScalars, IsWellFormed}
use Rattle.enc_laws.proofs.Cutting.{text_is}
use Rattle.enc_laws.proofs.Scalars.{set_scalars, place_scalars, valid_steps}
use Rattle.enc_laws.proofs.Handlers.{branch, Always, IsUtf16State, single_reads, single_ends, utf16_reads, utf16_ends}
use Rattle.enc_laws.proofs.Handlers.{shift_jis_reads, shift_jis_ends, euc_jp_reads, euc_jp_ends, iso2022_reads}
use Rattle.enc_laws.proofs.Handlers.{iso2022_ends}
use Rattle.enc_laws.proofs.Sequences.{sequence_scalar, written_sequence}

no_scalars : AreScalars []
no_scalars = All-nil (λ z. is_scalar z ≡ true)

more_scalars : (c : ℕ) (cs : List ℕ) → is_scalar c ≡ true → AreScalars cs → AreScalars (c ∷ cs)
more_scalars c cs s all = All-cons (λ z. is_scalar z ≡ true) c cs s all

-- SEGMENTS

segment_is : (here : List ℕ) → is_scalar (segment_scalar here) ≡ true
segment_is here = go (is_sequence here) refl
  where
    go : (x : Bool) → is_sequence here ≡ x → is_scalar (segment_scalar here) ≡ true
    go true e = ap (λ x. is_scalar (if x then scalar_of here else 0xFFFD)) e ∙ sequence_scalar here e
    go false e = ap (λ x. is_scalar (if x then scalar_of here else 0xFFFD)) e

segments_are : (ended : Bool) (all : List (List ℕ)) → AreScalars (segments_text ended all)
segments_are ended [] = no_scalars
segments_are ended (here ∷ []) =
    elim (not ended && is_open here) as (λ x. AreScalars (if x then [] else segment_scalar here ∷ []))
    [ true ↦ no_scalars | false ↦ more_scalars (segment_scalar here) [] (segment_is here) no_scalars ]
segments_are ended (here ∷ next ∷ rest) =
    more_scalars (segment_scalar here) (segments_text ended (next ∷ rest)) (segment_is here)
    (segments_are ended (next ∷ rest))

-- DECODING

module _ (x : IndexSet) (valid : IsIndexSet x) (ended : Bool) (bytes : List ℕ) (all : AreBytes bytes) where
  decoding_scalars : (e : Encoding) → AreScalars (decoding (tables x) ended (decoding_start e) bytes).text
  unfolding decoding
  decoding_scalars encodings.Utf8 = subst AreScalars (sym (text_is ended bytes)) (segments_are ended (segments bytes))
  decoding_scalars encodings.Utf16Be =
      valid_steps (utf16 true) IsUtf16State (utf16_reads true) (utf16_ends true) ended utf16_start bytes (record {
        byte = tt;
        lead = tt;
      }) all
  decoding_scalars encodings.Utf16Le =
      valid_steps (utf16 false) IsUtf16State (utf16_reads false) (utf16_ends false) ended utf16_start bytes (record {
        byte = tt;
        lead = tt;
      }) all
  decoding_scalars encodings.ShiftJis =
      let i = (tables x).jis0208 in
      valid_steps (shift_jis i) Always (shift_jis_reads i (set_scalars x.jis0208 11280 valid.jis0208))
      (shift_jis_ends i) ended 0 bytes tt all
  decoding_scalars encodings.EucJp =
      let i = (tables x).jis0208 in
      let j = (tables x).jis0212 in
      valid_steps (euc_jp i j) Always
      (euc_jp_reads i j (set_scalars x.jis0208 11280 valid.jis0208) (set_scalars x.jis0212 8836 valid.jis0212))
      (euc_jp_ends i j)
      ended euc_jp_start bytes tt all
  decoding_scalars encodings.Iso2022Jp =
      let i = (tables x).jis0208 in
      valid_steps (iso2022 i) Always (iso2022_reads i (set_scalars x.jis0208 11280 valid.jis0208)) (iso2022_ends i)
      ended iso2022_start bytes tt all
  decoding_scalars e =
      let i = (tables x).single e in
      valid_steps (single i) Always (single_reads i (place_scalars x (single_byte_place e) valid)) (single_ends i) ended
      SingleState bytes tt all

-- what is after a BOM is bytes too
abbrev AreRead : Encoding × List ℕ → Type 0
AreRead s = AreBytes s.1

sniffed_bytes : (e : Encoding) (bytes : List ℕ) → AreBytes bytes → AreRead (sniffed e bytes)
sniffed_bytes e bytes all =
    let after : (n : ℕ) → AreBytes (drop n bytes) = λ n. All-drop (λ b. b < 0x100) n bytes all in
    branch AreRead (begins bom8 bytes) _ _ (λ h. after 3)
    (λ h. branch AreRead (begins bom_be bytes) _ _ (λ k. after 2)
    (λ k. branch AreRead (begins bom_le bytes) _ _ (λ m. after 2) (λ m. all)))

pub decode_scalars : (x : IndexSet) (e : Encoding) (bytes : List ℕ) (ended : Bool) → IsIndexSet x → AreBytes bytes
    → AreScalars (decode (tables x) e bytes ended)
unfolding decode decoded
decode_scalars x e bytes ended valid all =
    elim (not ended && undecided bytes) as
    (λ v. AreScalars (decoded_text
    (if v then Held bytes else Reading
    (decoding (tables x) ended (decoding_start (sniffed e bytes).0) (sniffed e bytes).1)))) [
      | true ↦ no_scalars
      | false ↦ decoding_scalars x valid ended (sniffed e bytes).1 (sniffed_bytes e bytes all)
          (sniffed e bytes).0
    ]

-- ENCODING

abbrev pub written : List ℕ → List (List ℕ)
written [] = []
written (c ∷ cs) = utf8_bytes c ∷ written cs

abbrev done : Shift → List ℕ → Coded
done s cs = record { bytes = concat (written cs); state = s; fault = None }

codes_are : (mode : Mode) (s : Shift) (cs : List ℕ) → all_codes (code_of utf8_encoder mode) s cs ≡ done s cs
codes_are mode s [] = refl
codes_are mode s (c ∷ cs) = rw (codes_are mode s cs) refl

pub encoded_is : (t : Tables) (mode : Mode) (cs : List ℕ) (ended : Bool)
    → encode t encodings.Utf8 mode cs ended ≡ done InAscii cs
unfolding encode
encoded_is t mode cs false =
    coded_is utf8_encoder (encoder_steady t encodings.Utf8) mode InAscii cs ∙ codes_are mode InAscii cs
encoded_is t mode cs true =
    ap ended_coded (coded_is utf8_encoder (encoder_steady t encodings.Utf8) mode InAscii cs ∙ codes_are mode InAscii cs)
    ∙ ap (λ b. record { bytes = b; state = InAscii; fault = None }) (append-nil (concat (written cs)))

written_sequences : (cs : List ℕ) → AreScalars cs → All (λ s. is_sequence s ≡ true) (written cs)
written_sequences [] all = All-nil (λ s. is_sequence s ≡ true)
written_sequences (c ∷ cs) all =
    All-cons (λ s. is_sequence s ≡ true) (utf8_bytes c) (written cs)
    (written_sequence c (All-head (λ z. is_scalar z ≡ true) c cs all))
    (written_sequences cs (All-tail (λ z. is_scalar z ≡ true) c cs all))

pub encoded_well : (t : Tables) (mode : Mode) (cs : List ℕ) (ended : Bool) → AreScalars cs
    → IsWellFormed (encode t encodings.Utf8 mode cs ended).bytes
encoded_well t mode cs ended all = record {
  sequences = written cs;
  each = written_sequences cs all;
  parts = sym (ap (λ r. r.bytes) (encoded_is t mode cs ended));
}

pub encoded_fault : (t : Tables) (mode : Mode) (cs : List ℕ) (ended : Bool)
    → (encode t encodings.Utf8 mode cs ended).fault ≡ None
encoded_fault t mode cs ended = ap (λ r. r.fault) (encoded_is t mode cs ended)

-- THE TEXT OF AN UPLOAD

pub text_well : (x : IndexSet) (from : Encoding) (mode : Mode) (bytes : List ℕ) (ended : Bool) → IsIndexSet x
    → AreBytes bytes →
    IsWellFormed (text (tables x) from encodings.Utf8 mode bytes ended).bytes
unfolding text
text_well x from mode bytes ended valid all =
    encoded_well (tables x) mode (decode (tables x) from bytes ended) ended
    (decode_scalars x from bytes ended valid all)

-- the same as a text
code_is : (c : ℕ) → utf8_bytes c ≡ spelled c
unfolding spelled
code_is c = refl

codes_of : (cs : List ℕ) → concat (written cs) ≡ encodes cs
codes_of [] = refl
codes_of (c ∷ cs) = ap (λ b. b ++ concat (written cs)) (code_is c) ∙ ap (λ b. spelled c ++ b) (codes_of cs)

scalar_is : (c : ℕ) → is_scalar c ≡ true → scalar c ≡ true
scalar_is c is = grind arith

scalars_of : (cs : List ℕ) → AreScalars cs → scalars cs ≡ true
scalars_of [] all = refl
scalars_of (c ∷ cs) all =
    let one = scalar_is c (All-head (λ z. is_scalar z ≡ true) c cs all) in
    rw one (scalars_of cs (All-tail (λ z. is_scalar z ≡ true) c cs all))

pub text_utf8 : (x : IndexSet) (from : Encoding) (mode : Mode) (bytes : List ℕ) (ended : Bool) → IsIndexSet x
    → AreBytes bytes → IsUtf8 (text (tables x) from encodings.Utf8 mode bytes ended).bytes
unfolding text
text_utf8 x from mode bytes ended valid all =
    let cs = decode (tables x) from bytes ended in (
      cs,
      (
        scalars_of cs (decode_scalars x from bytes ended valid all),
        sym (ap (λ (r : Coded). r.bytes) (encoded_is (tables x) mode cs ended) ∙ codes_of cs),
      ),
    )

pub text_fault : (t : Tables) (from : Encoding) (mode : Mode) (bytes : List ℕ) (ended : Bool)
    → (text t from encodings.Utf8 mode bytes ended).fault ≡ None
unfolding text
text_fault t from mode bytes ended = encoded_fault t mode (decode t from bytes ended) ended
