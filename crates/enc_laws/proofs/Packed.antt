-- State bytes lead back to the one state whose they are.
use Rattle.std.proofs.Common.{ℕ, zero, suc, ◌+◌, ◌*◌, ◌/◌, ◌%◌, ◌≡◌, ◌≤◌, Bool, true, false, List, [], ◌∷◌, ◌++◌}
use Rattle.std.proofs.Common.{Option, Some, None, length, get_or, drop, take, refl, sym, ◌∙◌, ap, arith, ◌==◌}
use Rattle.std.proofs.Common.{if◌then◌else◌}
use Rattle.enc_model.specs.declared.Encoding.{Encoding}
use Rattle.enc_model.specs.declared.Encoding.TheVariants.{Utf8, Utf16Be, Utf16Le, ShiftJis, EucJp, Iso2022Jp, Ibm866}
use Rattle.enc_model.specs.declared.Encoding.TheVariants.{Iso8859X2, Iso8859X5, Iso8859X15, Koi8R, Macintosh}
use Rattle.enc_model.specs.declared.Encoding.TheVariants.{Windows1250, Windows1251, Windows1252, Windows1253}
use Rattle.enc_model.specs.declared.Encoding.TheVariants.{Windows1254, Windows1255, Windows1256, Windows1257}
use Rattle.enc_model.specs.declared.Encoding.TheVariants.{Windows1258}
use Rattle.enc_model.specs.declared.Mode.{Mode}
use Rattle.enc_model.specs.declared.Mode.TheVariants.{Html, Fatal}
use Rattle.enc_model.specs.declared.Charset.{Charset}
use Rattle.enc_model.specs.declared.Charset.TheVariants.{Ascii, Roman, Katakana, Lead}
use Rattle.enc_model.specs.declared.Introducer.TheVariants.{Dollar, Paren}
use Rattle.enc_model.specs.declared.Place.{Place}
use Rattle.enc_model.specs.declared.Place.TheVariants.{In, Trail, EscapeStart, Escape}
use Rattle.enc_model.specs.Utf16.{Utf16, utf16_start}
use Rattle.enc_model.specs.Japanese.{SingleState, introducer_byte}
use Rattle.enc_model.specs.Encode.{Shift, InAscii, InRoman, InJis}
use Rattle.enc_model.specs.Decode.{Decoding, OfUtf8, OfUtf16, OfShiftJis, OfEucJp, OfIso2022, OfSingle, undecided}
use Rattle.enc_model.specs.Transcode.{Transcoder, Phase, Before, During, Over}
use Rattle.enc_unicode.specs.Utf8State.{utf8_after}
use Rattle.enc_stream.specs.StateBytes.{IsOwn, IsSingleByteEncoding, IsPhaseOf, IsReached, IsReachedIn, IsValidState}
use Rattle.enc_stream.specs.StateBytes.{decoded_encoding}
use Rattle.enc_stream.specs.StateBytes.{encoding_number, mode_number, phase_number, shift_number, charset_number}
use Rattle.enc_stream.specs.StateBytes.{flag_number, place_number, place_lead, utf16_bytes, counted, decoder_bytes}
use Rattle.enc_stream.specs.StateBytes.{phase_bytes, padded, state_bytes}

-- WHICH VALUE EACH NUMBER IS OF

encodings : List Encoding
encodings =
    Utf8 ∷ Utf16Be ∷ Utf16Le ∷ ShiftJis ∷ EucJp ∷ Iso2022Jp ∷ Ibm866 ∷
    Iso8859X2 ∷ Iso8859X5 ∷ Iso8859X15 ∷ Koi8R ∷ Macintosh
    ∷ Windows1250 ∷ Windows1251 ∷ Windows1252 ∷ Windows1253 ∷
    Windows1254 ∷ Windows1255 ∷ Windows1256 ∷ Windows1257 ∷ Windows1258 ∷ []

abbrev encoding_at : ℕ → Encoding
encoding_at n = get_or encodings n Utf8

encoding_back : (e : Encoding) → encoding_at (encoding_number e) ≡ e
unfolding encodings
encoding_back Utf8 = refl
encoding_back _ = refl

abbrev mode_at : ℕ → Mode
mode_at n = if n == 0 then Html else Fatal

mode_back : (m : Mode) → mode_at (mode_number m) ≡ m
mode_back Html = refl
mode_back Fatal = refl

abbrev shift_at : ℕ → Shift
shift_at n = if n == 0 then InAscii else if n == 1 then InRoman else InJis

shift_back : (s : Shift) → shift_at (shift_number s) ≡ s
shift_back InAscii = refl
shift_back InRoman = refl
shift_back InJis = refl

abbrev charset_at : ℕ → Charset
charset_at n = if n == 0 then Ascii else if n == 1 then Roman else if n == 2 then Katakana else Lead

charset_back : (c : Charset) → charset_at (charset_number c) ≡ c
charset_back Ascii = refl
charset_back Roman = refl
charset_back Katakana = refl
charset_back Lead = refl

abbrev flag_at : ℕ → Bool
flag_at n = n == 1

flag_back : (f : Bool) → flag_at (flag_number f) ≡ f
flag_back false = refl
flag_back true = refl

abbrev place_at : ℕ → ℕ → Place
place_at n lead =
    if n == 4 then Trail lead
    else if n == 5 then EscapeStart
    else if n == 6 then Escape (if lead == introducer_byte Dollar then Dollar else Paren)
    else In (charset_at n)

place_back : (p : Place) → place_at (place_number p) (place_lead p) ≡ p
place_back (In Ascii) = refl
place_back (In Roman) = refl
place_back (In Katakana) = refl
place_back (In Lead) = refl
place_back (Trail lead) = refl
place_back EscapeStart = refl
place_back (Escape Dollar) = refl
place_back (Escape Paren) = refl

-- A DECODER'S STATE, from the encoding in effect and the bytes

-- the bytes of an unfinished character, after their count
abbrev bytes_at : List ℕ → List ℕ
bytes_at bytes = take (get_or bytes 0 0) (drop 1 bytes)

bytes_back : (partial rest : List ℕ) → length partial ≤ 3 → bytes_at (padded 11 (counted partial) ++ rest) ≡ partial
bytes_back [] rest l = refl
bytes_back (a ∷ []) rest l = refl
bytes_back (a ∷ b ∷ []) rest l = refl
bytes_back (a ∷ b ∷ c ∷ []) rest l = refl
bytes_back (a ∷ b ∷ c ∷ d ∷ partial) rest l = absurd (omega (arith, l))

abbrev utf16_at : List ℕ → Utf16
utf16_at bytes =
    let lead = get_or bytes 2 0 * 256 + get_or bytes 3 0 in
    let n = get_or bytes 0 0 in
    if n == 0 then utf16_start
    else if n == 1 then record { byte = Some (get_or bytes 1 0); lead = None }
    else if n == 2 then record { byte = None; lead = Some lead }
    else record { byte = Some (get_or bytes 1 0); lead = Some lead }

lead_back : (lead : ℕ) → lead / 256 * 256 + lead % 256 ≡ lead
lead_back lead = omega arith

utf16_back : (byte lead : Option ℕ) (rest : List ℕ) → utf16_at (padded 11 (utf16_bytes byte lead) ++ rest) ≡ record {
  byte = byte;
  lead = lead;
}
utf16_back None None rest = refl
utf16_back (Some b) None rest = refl
utf16_back None (Some lead) rest = ap (λ z. record { byte = None; lead = Some z }) (lead_back lead)
utf16_back (Some b) (Some lead) rest = ap (λ z. record { byte = Some b; lead = Some z }) (lead_back lead)

abbrev decoding_at : Encoding → List ℕ → Decoding
decoding_at Utf8 bytes = OfUtf8 (utf8_after (bytes_at bytes))
decoding_at Utf16Be bytes = OfUtf16 true (utf16_at bytes)
decoding_at Utf16Le bytes = OfUtf16 false (utf16_at bytes)
decoding_at ShiftJis bytes = OfShiftJis (get_or bytes 0 0)
decoding_at EucJp bytes = OfEucJp (record { lead = get_or bytes 0 0; flag = flag_at (get_or bytes 1 0) })
decoding_at Iso2022Jp bytes = OfIso2022 (record {
  place = place_at (get_or bytes 0 0) (get_or bytes 2 0);
  output = charset_at (get_or bytes 1 0);
  flag = flag_at (get_or bytes 3 0);
})
decoding_at e bytes = OfSingle e SingleState

single_back : (e : Encoding) (bytes : List ℕ) → IsSingleByteEncoding e → decoding_at e bytes ≡ OfSingle e SingleState
single_back Utf8 bytes i = absurd i
single_back Utf16Be bytes i = absurd i
single_back Utf16Le bytes i = absurd i
single_back ShiftJis bytes i = absurd i
single_back EucJp bytes i = absurd i
single_back Iso2022Jp bytes i = absurd i
single_back _ bytes i = refl

decoding_back : (d : Decoding) (rest : List ℕ) → IsOwn d → IsReached d → decoding_at (decoded_encoding d)
    (padded 11 (decoder_bytes d) ++ rest) ≡ d
decoding_back (OfUtf8 s) rest o r = ap (λ z. OfUtf8 (utf8_after z)) (bytes_back s.partial rest r.1)
    ∙ ap OfUtf8 (sym r.0)
decoding_back (OfUtf16 true s) rest o r = ap (OfUtf16 true) (utf16_back s.byte s.lead rest)
decoding_back (OfUtf16 false s) rest o r = ap (OfUtf16 false) (utf16_back s.byte s.lead rest)
decoding_back (OfShiftJis lead) rest o r = refl
decoding_back (OfEucJp s) rest o r = ap (λ z. OfEucJp (record { lead = s.lead; flag = z })) (flag_back s.flag)
decoding_back (OfIso2022 s) rest o r = rw (place_back s.place, charset_back s.output, flag_back s.flag) refl
decoding_back (OfSingle e SingleState) rest o r = single_back e (padded 11 [] ++ rest) o

-- A PHASE, from its number and the bytes

abbrev phase_at : ℕ → List ℕ → Phase
phase_at n bytes =
    if n == 0 then Before (bytes_at bytes)
    else if n == 1 then During (decoding_at (encoding_at (get_or bytes 0 0)) (drop 1 bytes))
    else Over

held_back : (held rest : List ℕ) → undecided held ≡ true → bytes_at (padded 12 (counted held) ++ rest) ≡ held
held_back [] rest u = refl
held_back (a ∷ []) rest u = refl
held_back (a ∷ b ∷ []) rest u = refl
held_back (a ∷ b ∷ c ∷ held) rest u = absurd cc

phase_back : (from : Encoding) (p : Phase) (rest : List ℕ) → IsPhaseOf from p → IsReachedIn p →
    phase_at (phase_number p) (padded 12 (phase_bytes p) ++ rest) ≡ p
phase_back from (Before held) rest i r = ap Before (held_back held rest i)
phase_back from (During d) rest i r =
    let bytes = padded 11 (decoder_bytes d) ++ rest in
    ap (λ e. During (decoding_at e bytes)) (encoding_back (decoded_encoding d)) ∙ ap During (decoding_back d rest i.0 r)
phase_back from Over rest i r = refl

-- THE STATE, from all its bytes

after_padded : (n : ℕ) (xs rest : List ℕ) → drop n (padded n xs ++ rest) ≡ rest
after_padded zero xs rest = refl
after_padded (suc n) [] rest = after_padded n [] rest
after_padded (suc n) (x ∷ xs) rest = after_padded n xs rest

abbrev state_at : List ℕ → Transcoder
state_at bytes = record {
  from = encoding_at (get_or bytes 0 0);
  to = encoding_at (get_or bytes 1 0);
  mode = mode_at (get_or bytes 2 0);
  phase = phase_at (get_or bytes 3 0) (drop 4 bytes);
  shift = shift_at (get_or (drop 12 (drop 4 bytes)) 0 0);
}

state_back : (s : Transcoder) → IsValidState s → state_at (state_bytes s) ≡ s
state_back s valid =
    let rest = padded 16 (shift_number s.shift ∷ []) in
    rw (
      encoding_back s.from,
      encoding_back s.to,
      mode_back s.mode,
      phase_back s.from s.phase rest valid.fitting.phase valid.reached,
      after_padded 12 (phase_bytes s.phase) rest,
      shift_back s.shift,
    ) refl

-- Valid states with the same bytes are the same.
pub same_state : (s later : Transcoder) → IsValidState s → IsValidState later → state_bytes later ≡ state_bytes s
    → later ≡ s
same_state s later here there same = sym (state_back later there) ∙ ap state_at same ∙ state_back s here
