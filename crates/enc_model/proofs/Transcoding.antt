-- What an encoder takes in parts, and a transcoder in any cut.
use Rattle.std.proofs.Common.{ℕ, ◌≡◌, false, List, [], ◌++◌, Option, Some, None, refl, sym, ◌∙◌, ap, append_assoc}
use Rattle.std.proofs.Common.{append-nil, subst}
use Rattle.enc_model.specs.declared.Encoding.{Encoding}
use Rattle.enc_model.specs.declared.Mode.{Mode}
use Rattle.enc_model.specs.Encode.{Tables, Shift, InAscii, Encoder, Coded, led_by, coded, coded_within, encoder}
use Rattle.enc_model.specs.Encode.{IsSteadyEncoder}
use Rattle.enc_model.specs.Decode.{Decoded, Held, Reading, decoded, decoded_text, advance}
use Rattle.enc_model.specs.Transcode.{Coder, Took, Refused, IsReason, phase_of, Transcoder, fed_text, added, so_far}
use Rattle.enc_model.specs.Transcode.{IsStateAt}
use Rattle.enc_model.specs.Transcode.{stepped}
use Rattle.enc_model.proofs.Coding.{coded_append}
use Rattle.enc_model.proofs.Steady.{encoder_steady}
use Rattle.enc_model.proofs.Pieces.{advance_more}

pub coded_none : (f : Encoder) (mode : Mode) (s : Shift) → coded f mode s [] ≡ record {
  bytes = [];
  state = s;
  fault = None;
}
unfolding coded coded_within
coded_none f mode s = refl

module _ (f : Encoder) (steady : IsSteadyEncoder f) (mode : Mode) where
  -- without a fault in x, the code of x ++ y is that of x and then that of y
  pub coded_both : (s : Shift) (x y : List ℕ) → (coded f mode s x).fault ≡ None →
      coded f mode s (x ++ y) ≡ (let r = coded f mode s x in led_by r.bytes (coded f mode r.state y))
  coded_both s x y e = coded_append f steady mode s x y ∙ rw e refl

  -- with one, it is that of x
  pub coded_fault : (s : Shift) (x y : List ℕ) (c : ℕ) → (coded f mode s x).fault ≡ Some c
      → coded f mode s (x ++ y) ≡ coded f mode s x
  coded_fault s x y c e = coded_append f steady mode s x y ∙ rw e refl

-- A TRANSCODER

fed_advance : (t : Tables) (e : Encoding) (d : Decoded) (c : List ℕ) →
    (phase_of (advance t e d c) ≡ (fed_text t e (phase_of d) c).phase) × (decoded_text (advance t e d c) ≡ decoded_text
    d ++ (fed_text t e (phase_of d) c).text)
unfolding advance fed_text
fed_advance t e (Held b) c = (refl, refl)
fed_advance t e (Reading r) c = (refl, refl)

module _ (t : Tables) (s : Transcoder) (b c : List ℕ) (here : IsStateAt t s b) where
  text_more : decoded_text (decoded t s.from (b ++ c) false) ≡ decoded_text
      (decoded t s.from b false) ++ (fed_text t s.from s.phase c).text
  text_more =
      ap decoded_text (sym (advance_more t s.from b c))
      ∙ (fed_advance t s.from (decoded t s.from b false) c).1
      ∙ ap (λ p. decoded_text (decoded t s.from b false) ++ (fed_text t s.from p c).text) (sym here.phase)

  whole : so_far t s (b ++ c) ≡ led_by (so_far t s b).bytes (added t s c)
  whole =
      let f = encoder t s.to in
      ap (coded f s.mode InAscii) text_more
      ∙ coded_both f (encoder_steady t s.to) s.mode InAscii (decoded_text (decoded t s.from b false))
      (fed_text t s.from s.phase c).text here.fault
      ∙ ap (λ z. led_by (so_far t s b).bytes (coded f s.mode z (fed_text t s.from s.phase c).text)) (sym here.shift)

  -- THE TEXT GROWS by what is added, with a fault or without.
  pub text_added : (so_far t s (b ++ c)).bytes ≡ (so_far t s b).bytes ++ (added t s c).bytes
  text_added = ap (λ z. z.bytes) whole

  pub fault_added : (so_far t s (b ++ c)).fault ≡ (added t s c).fault
  fault_added = ap (λ z. z.fault) whole

  -- Without a fault the next state is where the bytes and the piece end.
  pub at_next : (added t s c).fault ≡ None → IsStateAt t (stepped t s c) (b ++ c)
  at_next ok = record {
    phase = ap (λ p. (fed_text t s.from p c).phase) here.phase
        ∙ sym (fed_advance t s.from (decoded t s.from b false) c).0
        ∙ ap phase_of (advance_more t s.from b c);
    fault = fault_added ∙ ok;
    shift = sym (ap (λ z. z.state) whole);
  }
