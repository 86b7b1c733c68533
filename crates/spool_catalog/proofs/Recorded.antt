-- How a record represents an upload, and its state.
use Rattle.std.proofs.Common.{◌≡◌, ℕ, ◌==◌, Bool, true, false, if◌then◌else◌, List, [], ◌∷◌, Option, length, refl, sym}
use Rattle.std.proofs.Common.{◌∙◌, ap, subst, arith, ◌+◌, ◌≤◌, ◌++◌, Some, None, length-append}
use Rattle.std.proofs.lemmas.List.{append-nil}
use Rattle.std.proofs.lemmas.Bool.{both_ways}
use Rattle.std.proofs.lemmas.Bool.Decides.{nat_tests}
use Rattle.enc_model.specs.declared.Encoding.{Encoding}
use Rattle.enc_model.specs.declared.Encoding.TheVariants.{Utf8, Utf16Be, Utf16Le, ShiftJis, EucJp, Iso2022Jp, Ibm866}
use Rattle.enc_model.specs.declared.Encoding.TheVariants.{Iso8859X2, Iso8859X5, Iso8859X15, Koi8R, Macintosh}
use Rattle.enc_model.specs.declared.Encoding.TheVariants.{Windows1250, Windows1251, Windows1252, Windows1253}
use Rattle.enc_model.specs.declared.Encoding.TheVariants.{Windows1254, Windows1255, Windows1256, Windows1257}
use Rattle.enc_model.specs.declared.Encoding.TheVariants.{Windows1258}
use Rattle.enc_model.specs.declared.Mode.{Mode}
use Rattle.enc_model.specs.declared.Mode.TheVariants.{Html, Fatal}
use Rattle.enc_model.specs.Encode.{Tables}
use Rattle.enc_model.specs.Indexes.{IndexSet, tables}
use Rattle.enc_model.specs.Decode.{Decoded, Held, Reading, decoded, decoding, decoding_start, sniffed, undecided}
use Rattle.enc_model.specs.Transcode.{Phase, Before, During, Over, phase_of, fed_text}
use Rattle.enc_stream.specs.StateBytes.{state_bytes, encoding_number, mode_number}
use Rattle.enc_stream.specs.TranscoderState.{is_phase_over}
use Rattle.enc_stream.proofs.Bytes.{from_there, to_there, mode_there}
use Rattle.upload_rules.specs.Lengths.{is_length, known_or, longest}
use Rattle.upload_rules.specs.Store.{Origin, Upload, accepted_count, is_complete, origin_count, patched}
use Rattle.upload_rules.specs.States.{phase_from, transcoder_from, transcoder_with, state_with}
use Rattle.upload_rules.specs.Records.{RepresentsValid}
use Rattle.upload_rules.specs.declared.records.Record.{Record}
use Rattle.upload_rules.proofs.TextGrows.{phase_more}
use Rattle.spool_pages.specs.View.{SlotRecord}
use Rattle.spool_catalog.specs.Records.{slot_record_of, IsUnpacked}
use Rattle.spool_catalog.specs.Shows.{FitsAfter, FitsPhase, HasState, IsRecordOf}

-- THE PHASE FITS THE COUNTS

-- before the end the phase fits any bytes
phase_fits : (t : Tables) (e : Encoding) (bytes : List ℕ) (declared : Option ℕ)
    → is_length declared (length bytes) ≡ false → FitsPhase (phase_of (decoded t e bytes false)) (length bytes) declared
unfolding decoded
phase_fits t e [] declared more = (refl, more)
phase_fits t e (b ∷ bytes) declared more = go (undecided (b ∷ bytes))
  where
    go : (u : Bool) → FitsPhase (phase_of (if u then Held (b ∷ bytes) else let s = sniffed e (b ∷ bytes) in Reading
        (decoding t false (decoding_start s.0) s.1))) (length (b ∷ bytes)) declared
    go true = (refl, more)
    go false = (omega arith, more)

-- past the end only where all bytes came
phase_open : (d : Decoded) → is_phase_over (phase_of d) ≡ false
phase_open (Held b) = refl
phase_open (Reading r) = refl

not_over : (p : Phase) (n : ℕ) (declared : Option ℕ) → FitsPhase p n declared → is_length declared n ≡ false
    → is_phase_over p ≡ false
not_over (Before held) n declared fits still = refl
not_over (During s) n declared fits still = refl
not_over Over n declared fits still = absurd cc

open_still : (x : IndexSet) (u : Upload) (o : Option Origin) → u.origin ≡ o → FitsAfter x u o → is_complete u ≡ false
    → is_phase_over (transcoder_with x u [] (is_complete u)).phase ≡ false
open_still x u None e fits still =
    subst (λ (b : Bool). is_phase_over (transcoder_with x u [] b).phase ≡ false) (sym still)
    (subst (λ (o : Option Origin). is_phase_over (phase_from (tables x) o u.from (u.accepted ++ [])) ≡ false) (sym e)
    (phase_open (decoded (tables x) u.from (u.accepted ++ []) false)))
open_still x u (Some o) e fits still = not_over _ _ _ fits still

-- and it fits on with more bytes
fed_fits : (t : Tables) (e : Encoding) (p : Phase) (n : ℕ) (known declared : Option ℕ) (bytes : List ℕ)
    → FitsPhase p n known → is_length known n ≡ false → is_length declared (n + length bytes) ≡ false
    → FitsPhase (fed_text t e p bytes).phase (n + length bytes) declared
unfolding fed_text
fed_fits t e (Before held) n known declared bytes fits still more =
    let long : length (held ++ bytes) ≡ n + length bytes = omega (arith, fits.0, length-append held bytes) in
    subst (λ (k : ℕ). FitsPhase (phase_of (decoded t e (held ++ bytes) false)) k declared) long
    (phase_fits t e (held ++ bytes) declared (ap (is_length declared) long ∙ more))
fed_fits t e (During s) n known declared bytes fits still more = (omega (arith, fits.0), more)
fed_fits t e Over n known declared bytes fits still more = absurd cc

-- a complete upload takes no more bytes
complete_on : (known declare : Option ℕ) (n more : ℕ) → is_length known n ≡ true → n + more ≤ longest (known_or known
    declare) → is_length (known_or known declare) (n + more) ≡ true
complete_on None declare n more done few = absurd cc
complete_on (Some k) declare n more done few = grind (arith, nat_tests)

module _ (x : IndexSet) (u : Upload) (declare : Option ℕ) (bytes : List ℕ)
    (fits : FitsPhase (transcoder_with x u [] (is_complete u)).phase (accepted_count u) u.declared)
    (few : accepted_count u + length bytes ≤ longest (known_or u.declared declare)) where
  abbrev more : Upload
  more = patched u declare bytes

  long : accepted_count more ≡ accepted_count u + length bytes
  long = omega (arith, length-append u.accepted bytes)

  by_both : (old new : Bool) → is_complete u ≡ old → is_complete more ≡ new
      → FitsPhase (transcoder_with x more [] new).phase (accepted_count more) (known_or u.declared declare)
  by_both old true e f = f
  by_both true false e f = absurd (both_ways _ f
      (ap (is_length (known_or u.declared declare)) long ∙ complete_on u.declared declare (accepted_count u)
      (length bytes) e few))
  by_both false false e f =
      let from = phase_from (tables x) u.origin u.from in
      let here : FitsPhase (from u.accepted) (accepted_count u) u.declared =
      subst (λ (b : List ℕ). FitsPhase (from b) (accepted_count u) u.declared) (append-nil u.accepted)
      (subst (λ (b : Bool). FitsPhase (transcoder_with x u [] b).phase (accepted_count u) u.declared) e fits) in
      let all : (fed_text (tables x) u.from (from u.accepted) bytes).phase ≡ from ((u.accepted ++ bytes) ++ []) =
      sym (phase_more (tables x) u.from u.to u.mode u.origin u.accepted bytes)
      ∙ ap from (sym (append-nil (u.accepted ++ bytes))) in
      let declared = known_or u.declared declare in
      let still = ap (is_length declared) (sym long) ∙ f in
      subst (λ (p : Phase). FitsPhase p (accepted_count more) declared) all
      (subst (λ (k : ℕ). FitsPhase (fed_text (tables x) u.from (from u.accepted) bytes).phase k declared) (sym long)
      (fed_fits (tables x) u.from (from u.accepted) (accepted_count u) u.declared declared bytes here e still))

  patched_fits : FitsPhase (transcoder_with x more [] (is_complete more)).phase (accepted_count more) more.declared
  patched_fits = by_both (is_complete u) (is_complete more) refl refl

-- the phase of an upload fits its counts
module _ (x : IndexSet) (u : Upload) where
  abbrev Fits : Option Origin → Bool → Type 0
  Fits o done = FitsPhase (transcoder_from (tables x) o u.from u.to u.mode (u.accepted ++ []) done).phase
      (origin_count o + length u.accepted) u.declared

  no_origin : (done : Bool) → is_length u.declared (length u.accepted) ≡ done
      → FitsPhase (transcoder_from (tables x) None u.from u.to u.mode (u.accepted ++ []) done).phase (length u.accepted)
      u.declared
  no_origin true e = e
  no_origin false e =
      subst (λ (bytes : List ℕ). FitsPhase (phase_of (decoded (tables x) u.from bytes false)) (length u.accepted)
      u.declared) (sym (append-nil u.accepted)) (phase_fits (tables x) u.from u.accepted u.declared e)

  by_origin : (o : Option Origin) → u.origin ≡ o → FitsAfter x u o → Fits u.origin (is_complete u)
  by_origin None is fits =
      let none : length u.accepted ≡ origin_count None + length u.accepted = omega arith in
      subst (λ (o : Option Origin). Fits o (is_length u.declared (origin_count o + length u.accepted))) (sym is)
      (subst (λ (n : ℕ). FitsPhase (transcoder_from (tables x) None u.from u.to u.mode (u.accepted ++ [])
      (is_length u.declared n)).phase n u.declared) none (no_origin (is_length u.declared (length u.accepted)) refl))
  by_origin (Some o) is fits = fits

  all_fit : FitsAfter x u u.origin → Fits u.origin (is_complete u)
  all_fit = by_origin u.origin refl

-- and so does that of an upload with more bytes
pub patched_after : (x : IndexSet) (u : Upload) (declare : Option ℕ) (bytes : List ℕ)
    → accepted_count u + length bytes ≤ longest (known_or u.declared declare) → FitsAfter x u u.origin
    → FitsAfter x (patched u declare bytes) u.origin
patched_after x u declare bytes few fits = with_origin u.origin
  where
    with_origin : (o : Option Origin) → FitsAfter x (patched u declare bytes) o
    with_origin None = tt
    with_origin (Some o) = patched_fits x u declare bytes (all_fit x u fits) few

module _ (x : IndexSet) (r : SlotRecord) (shown : List ℕ) (u : Upload) (is : IsRecordOf x r shown u) where
  -- a record that represents an upload has a state
  pub recorded_state : HasState r
  unfolding state_with
  recorded_state = record {
    transcoder = transcoder_with x u [] (is_complete u);
    valid = is.valid;
    is = is.state;
    phase = rw (is.accepted, is.declared) (all_fit x u is.phase);
  }

-- THE ENCODINGS IN STATE BYTES

-- the encoding of a number
pub encoding_at : ℕ → Encoding
encoding_at n =
    if n == 0 then Utf8 else if n == 1 then Utf16Be else if n == 2 then Utf16Le else if n == 3 then ShiftJis else if n
    == 4 then EucJp
    else if n == 5 then Iso2022Jp else if n == 6 then Ibm866 else if n == 7 then Iso8859X2 else if n == 8 then Iso8859X5
    else if n == 9 then Iso8859X15 else if n == 10 then Koi8R else if n == 11 then Macintosh else if n == 12
    then Windows1250
    else if n == 13 then Windows1251 else if n == 14 then Windows1252 else if n == 15 then Windows1253 else if n == 16
    then Windows1254
    else if n == 17 then Windows1255 else if n == 18 then Windows1256 else if n == 19 then Windows1257 else Windows1258

pub back : (e : Encoding) → encoding_at (encoding_number e) ≡ e
unfolding encoding_at
back Utf8 = refl
back e = refl

pub same_encoding : (e f : Encoding) → encoding_number e ≡ encoding_number f → e ≡ f
same_encoding e f same = sym (back e) ∙ ap encoding_at same ∙ back f

pub same_mode : (a b : Mode) → mode_number a ≡ mode_number b → a ≡ b
same_mode Html Html same = refl
same_mode Fatal Fatal same = refl
same_mode a b same = absurd (omega (arith, same))

-- THE RECORD IN MEMORY

pub with_from : (x : IndexSet) (u : Upload) (done : Bool) → (transcoder_with x u [] done).from ≡ u.from
with_from x u true = refl
with_from x u false = refl

pub with_to : (x : IndexSet) (u : Upload) (done : Bool) → (transcoder_with x u [] done).to ≡ u.to
with_to x u true = refl
with_to x u false = refl

pub with_mode : (x : IndexSet) (u : Upload) (done : Bool) → (transcoder_with x u [] done).mode ≡ u.mode
with_mode x u true = refl
with_mode x u false = refl

-- where the slot's record represents the upload, this one does
module _ (x : IndexSet) (q : SlotRecord) (shown : List ℕ) (u : Upload) (is : IsRecordOf x q shown u) (r : Record)
    (slot_record : slot_record_of r ≡ q) (unpacked : IsUnpacked r) where
  states : state_bytes unpacked.transcoder ≡ state_bytes (transcoder_with x u [] (is_complete u))
  unfolding state_with
  states = sym unpacked.is ∙ ap (λ (p : SlotRecord). p.state) slot_record ∙ is.state

  pub valid_record : (n : ℕ) → q.number ≡ n → RepresentsValid x n r u
  valid_record n number =
      let t = transcoder_with x u [] (is_complete u) in
      let s = unpacked.transcoder in
      record {
        represents = record {
          number_is = ap (λ (p : SlotRecord). p.number) slot_record ∙ number;
          declared = ap (λ (p : SlotRecord). p.declared) slot_record ∙ is.declared;
          accepted = ap (λ (p : SlotRecord). p.accepted) slot_record ∙ is.accepted;
          text_len = ap (λ (p : SlotRecord). p.text_len) slot_record ∙ is.text_len;
          from = cc (same_encoding s.from t.from (from_there s (state_bytes t) states), with_from x u (is_complete u));
          to = unpacked.to ∙ same_encoding s.to t.to (to_there s (state_bytes t) states) ∙ with_to x u (is_complete u);
          mode = cc (same_mode s.mode t.mode (mode_there s (state_bytes t) states), with_mode x u (is_complete u));
          state = ap (λ (p : SlotRecord). p.state) slot_record ∙ is.state;
          metadata = ap (λ (p : SlotRecord). p.metadata) slot_record ∙ is.metadata;
        };
        encodable = is.encodable;
        valid = record { valid = is.valid; takes_more = open_still x u u.origin refl is.phase };
      }
