-- The text of more bytes: what a prefix of them comes to, and more after it.
use Rattle.std.proofs.Common.{◌≡◌, ℕ, Bool, true, false, List, [], ◌++◌, Option, Some, None, refl, sym, ◌∙◌, ap}
use Rattle.std.proofs.Common.{append_assoc, append-nil, inl, inr, arith}
use Rattle.std.proofs.lemmas.Bool.{cases_Bool}
use Rattle.enc_model.specs.declared.Encoding.{Encoding}
use Rattle.enc_model.specs.declared.Mode.{Mode}
use Rattle.enc_model.specs.Encode.{Tables, Shift, InAscii, Encoder, Coded, led_by, coded, encoder, encode}
use Rattle.enc_model.specs.Encode.{ended_coded}
use Rattle.enc_model.specs.Stream.{DecoderRun}
use Rattle.enc_model.specs.Decode.{Decoded, Held, Reading, Decoding, decoded, decoding, decoded_text, decode, advance}
use Rattle.enc_model.specs.Decode.{conclude, undecided, text}
use Rattle.enc_model.specs.Transcode.{Phase, Before, During, Over, FedText, fed_of, phase_of, fed_text, fed_end}
use Rattle.enc_model.proofs.Pieces.{advance_more, conclude_all, decoded_held, decoded_reading, decoding_append}
use Rattle.enc_model.proofs.Steady.{encoder_steady}
use Rattle.enc_model.proofs.Transcoding.{coded_both, coded_fault}
use Rattle.upload_rules.specs.States.{phase_from}
use Rattle.upload_rules.specs.Store.{Origin, decoded_since, text_from}

-- DECODING

-- the code points of a piece, and the phase after it, in one
abbrev FedMore : Tables → Encoding → Decoded → List ℕ → Type 0
FedMore t e d c = fed_of (advance t e d c) ≡ (let r = fed_text t e (phase_of d) c in record {
  text = decoded_text d ++ r.text;
  phase = r.phase;
})

fed_more : (t : Tables) (e : Encoding) (d : Decoded) (c : List ℕ) → FedMore t e d c
unfolding advance fed_text
fed_more t e (Held b) c = refl
fed_more t e (Reading r) c = refl

decode_more : (t : Tables) (e : Encoding) (b c : List ℕ) → fed_of (decoded t e (b ++ c) false) ≡ (let r = fed_text t e
    (phase_of (decoded t e b false)) c in record {
      text = decoded_text (decoded t e b false) ++ r.text;
      phase = r.phase;
    })
decode_more t e b c = ap fed_of (sym (advance_more t e b c)) ∙ fed_more t e (decoded t e b false) c

-- from any phase, more bytes are fed after these
fed_both : (t : Tables) (e : Encoding) (p : Phase) (b c : List ℕ)
    → fed_text t e p (b ++ c) ≡ (let r = fed_text t e p b in
    let q = fed_text t e r.phase c in record { text = r.text ++ q.text; phase = q.phase })
unfolding fed_text
fed_both t e (Before h) b c =
    ap (λ z. fed_of (decoded t e z false)) (sym (append_assoc h b c)) ∙ decode_more t e (h ++ b) c
fed_both t e (During s) b c = rw (decoding_append t false s b c) refl
fed_both t e Over b c = refl

-- what the end adds to what was decoded
abbrev EndsAs : Tables → Encoding → List ℕ → Decoded → Type 0
EndsAs t e b d = decoded_text (decoded t e b true) ≡ decoded_text d ++ fed_end t e (phase_of d)

end_held : (t : Tables) (e : Encoding) (b : List ℕ) → EndsAs t e b (Held b)
unfolding fed_end
end_held t e b = refl

end_reading : (t : Tables) (e : Encoding) (b : List ℕ) (r : DecoderRun Decoding)
    → conclude t e (Reading r) ≡ decoded t e b true → EndsAs t e b (Reading r)
unfolding conclude fed_end
end_reading t e b r all = ap decoded_text (sym all)

decode_end : (t : Tables) (e : Encoding) (b : List ℕ) →
    decoded_text (decoded t e b true) ≡ decoded_text (decoded t e b false) ++ fed_end t e
    (phase_of (decoded t e b false))
decode_end t e b =
    elim (cases_Bool (undecided b)) [
      | inl held ↦ rw (decoded_held t e b held) (end_held t e b)
      | inr reading ↦
          let is = decoded_reading t e b reading in
          rw is (end_reading t e b _ (ap (conclude t e) (sym is) ∙ conclude_all t e b))
    ]

-- ENCODING

pub ended_after : (prefix : List ℕ) (r : Coded) → ended_coded (led_by prefix r) ≡ led_by prefix (ended_coded r)
ended_after prefix r = grind (arith, append_assoc)

-- the end makes no fault
pub ended_fault : (r : Coded) → (ended_coded r).fault ≡ r.fault
ended_fault r = grind arith

led_twice : (a b : List ℕ) (r : Coded) → led_by a (led_by b r) ≡ led_by (a ++ b) r
led_twice a b r = ap (λ z. record { bytes = z; state = r.state; fault = r.fault }) (sym (append_assoc a b r.bytes))

-- TEXTS, after an origin or none

module _ (t : Tables) (from to : Encoding) (mode : Mode) where
  abbrev f : Encoder
  f = encoder t to

  -- what is before the bytes
  abbrev first : Option Origin → List ℕ
  first None = []
  first (Some p) = p.text

  abbrev shift : Option Origin → Shift
  shift None = InAscii
  shift (Some p) = p.shift

  -- the code points of the bytes
  abbrev points : Option Origin → List ℕ → Bool → List ℕ
  points None b done = decode t from b done
  points (Some p) b done = decoded_since t from p b done

  text_open : (o : Option Origin) (b : List ℕ) → text_from t o from to mode b false ≡ led_by (first o) (coded f mode
      (shift o) (points o b false))
  unfolding text encode
  text_open None b = refl
  text_open (Some p) b = refl

  text_done : (o : Option Origin) (b : List ℕ) → text_from t o from to mode b true ≡ led_by (first o)
      (ended_coded (coded f mode (shift o) (points o b true)))
  unfolding text encode
  text_done None b = refl
  text_done (Some p) b = refl

  pub phase_more : (o : Option Origin) (b c : List ℕ) → phase_from t o from (b ++ c) ≡ (fed_text t from
      (phase_from t o from b) c).phase
  phase_more None b c = ap (λ (z : FedText). z.phase) (decode_more t from b c)
  phase_more (Some p) b c = ap (λ (z : FedText). z.phase) (fed_both t from p.phase b c)

  points_more : (o : Option Origin) (b c : List ℕ) → points o (b ++ c) false ≡ points o b false ++ (fed_text t from
      (phase_from t o from b) c).text
  unfolding decode
  points_more None b c = ap (λ (z : FedText). z.text) (decode_more t from b c)
  points_more (Some p) b c = ap (λ (z : FedText). z.text) (fed_both t from p.phase b c)

  points_end : (o : Option Origin) (b : List ℕ) → points o b true ≡ points o b false ++ fed_end t from
      (phase_from t o from b)
  unfolding decode
  points_end None b = decode_end t from b
  points_end (Some p) b = refl

  -- what is decoded of more bytes has what is decoded of these at the start
  points_after : (o : Option Origin) (b c : List ℕ) (done : Bool)
      → (more : List ℕ) × (points o (b ++ c) done ≡ points o b false ++ more)
  points_after o b c false = ((fed_text t from (phase_from t o from b) c).text, points_more o b c)
  points_after o b c true =
      let y = (fed_text t from (phase_from t o from b) c).text in
      let z = fed_end t from (phase_from t o from (b ++ c)) in (
        y ++ z,
        points_end o (b ++ c) ∙ ap (λ d. d ++ z) (points_more o b c) ∙ append_assoc (points o b false) y z,
      )

  fault_of : (o : Option Origin) (b : List ℕ) (done : Bool)
      → (text_from t o from to mode b done).fault ≡ (coded f mode (shift o) (points o b done)).fault
  fault_of o b false = ap (λ r. r.fault) (text_open o b)
  fault_of o b true = ap (λ r. r.fault) (text_done o b) ∙ ended_fault (coded f mode (shift o) (points o b true))

  -- a character without a code stays one
  pub fault_stays : (o : Option Origin) (b c : List ℕ) (done : Bool) (d : ℕ)
      → (text_from t o from to mode b false).fault ≡ Some d → (text_from t o from to mode (b ++ c) done).fault ≡ Some d
  fault_stays o b c done d h =
      let both = points_after o b c done in
      let one : (coded f mode (shift o) (points o b false)).fault ≡ Some d = sym (fault_of o b false) ∙ h in
      fault_of o (b ++ c) done
      ∙ ap (λ z. (coded f mode (shift o) z).fault) both.1
      ∙ ap (λ r. r.fault) (coded_fault f (encoder_steady t to) mode (shift o) (points o b false) both.0 d one)
      ∙ one

  module _ (o : Option Origin) (b : List ℕ) (fine : (text_from t o from to mode b false).fault ≡ None) where
    -- what is coded of more code points has the code of these at the start
    more_coded : (more : List ℕ) → led_by (first o) (coded f mode (shift o) (points o b false ++ more)) ≡ (let r =
        text_from t o from to mode b false in led_by r.bytes (coded f mode r.state more))
    more_coded more =
        let r = coded f mode (shift o) (points o b false) in
        ap (led_by (first o)) (coded_both f (encoder_steady t to) mode (shift o) (points o b false) more
        (sym (fault_of o b false) ∙ fine))
        ∙ led_twice (first o) r.bytes (coded f mode r.state more)
        ∙ ap (λ (z : Coded). led_by z.bytes (coded f mode z.state more)) (sym (text_open o b))

    -- the text grows by the code of a piece
    pub text_more : (c : List ℕ) → text_from t o from to mode (b ++ c) false ≡ (let r = text_from t o from to mode b
        false in led_by r.bytes (coded f mode r.state (fed_text t from (phase_from t o from b) c).text))
    text_more c =
        text_open o (b ++ c) ∙ ap (λ z. led_by (first o) (coded f mode (shift o) z)) (points_more o b c)
        ∙ more_coded (fed_text t from (phase_from t o from b) c).text

    more_ended : (c more : List ℕ) → points o (b ++ c) true ≡ points o b false ++ more
        → text_from t o from to mode (b ++ c) true ≡ (let r = text_from t o from to mode b false in led_by r.bytes
        (ended_coded (coded f mode r.state more)))
    more_ended c more is =
        text_done o (b ++ c)
        ∙ sym (ended_after (first o) (coded f mode (shift o) (points o (b ++ c) true)))
        ∙ ap (λ z. ended_coded (led_by (first o) (coded f mode (shift o) z))) is
        ∙ ap ended_coded (more_coded more)
        ∙ ended_after (text_from t o from to mode b false).bytes
        (coded f mode (text_from t o from to mode b false).state more)

    -- and by that of the end
    pub text_end : text_from t o from to mode b true ≡ (let r = text_from t o from to mode b false in led_by r.bytes
        (ended_coded (coded f mode r.state (fed_end t from (phase_from t o from b)))))
    text_end =
        ap (λ z. text_from t o from to mode z true) (sym (append-nil b))
        ∙ more_ended [] (fed_end t from (phase_from t o from b))
        (ap (λ z. points o z true) (append-nil b) ∙ points_end o b)

    -- the text of more bytes has the text of these at the start
    pub text_after : (c : List ℕ) (done : Bool)
        → (more : List ℕ) × ((text_from t o from to mode (b ++ c) done).bytes ≡ (text_from t o from to mode b
        false).bytes ++ more)
    text_after c false = (_, ap (λ r. r.bytes) (text_more c))
    text_after c true =
        let both = points_after o b c true in
        (_, ap (λ r. r.bytes) (more_ended c both.0 both.1))
