-- What is written after an unpacked state goes on from what was written before it was packed.
use Rattle.std.proofs.Common.{ℕ, ◌≡◌, true, false, List, ◌++◌, Some, None, refl, sym, ◌∙◌, ap, append_assoc, subst}
use Rattle.enc_model.specs.Encode.{Tables, InAscii, Coded, led_by, coded, encoder, ended_coded, encode}
use Rattle.enc_model.specs.Decode.{decoded, decoded_text, text}
use Rattle.enc_model.specs.Transcode.{Transcoder, phase_of, fed_end, so_far, IsStateAt, added, added_end, stepped}
use Rattle.enc_model.proofs.Steady.{encoder_steady}
use Rattle.enc_model.proofs.Transcoding.{coded_fault, text_added, fault_added, at_next}
use Rattle.enc_stream.proofs.Ends.{decode_end, text_ended}
use Rattle.enc_laws.specs.Resumed.{IsUnpackedFrom}
use Rattle.enc_laws.proofs.Packed.{same_state}

pub same : (s later : Transcoder) → IsUnpackedFrom s later → later ≡ s
same s later is = same_state s later is.packed is.valid is.bytes

-- THE TEXT OF A FAULT: what comes after it doesn't matter.

ended_fault : (r : Coded) (c : ℕ) → r.fault ≡ Some c → ended_coded r ≡ r
ended_fault r c e = rw e refl

text_refused : (t : Tables) (s : Transcoder) (b : List ℕ) (c : ℕ) → (so_far t s b).fault ≡ Some c
    → text t s.from s.to s.mode b true ≡ so_far t s b
unfolding text encode
text_refused t s b c e =
    let f = encoder t s.to in
    let so = decoded_text (decoded t s.from b false) in
    let more = fed_end t s.from (phase_of (decoded t s.from b false)) in
    ap (λ z. ended_coded (coded f s.mode InAscii z)) (decode_end t s.from b)
    ∙ ap ended_coded (coded_fault f (encoder_steady t s.to) s.mode InAscii so more c e)
    ∙ ended_fault (so_far t s b) c e

-- FED ON

module _ (t : Tables) (s later : Transcoder) (a b : List ℕ) (here : IsStateAt t s a) (is : IsUnpackedFrom s later) where
  at_later : IsStateAt t later a
  at_later = subst (λ z. IsStateAt t z a) (sym (same s later is)) here

  text_later : text t s.from s.to s.mode (a ++ b) true ≡ text t later.from later.to later.mode (a ++ b) true
  text_later = ap (λ z. text t z.from z.to z.mode (a ++ b) true) (sym (same s later is))

  bytes_later : (so_far t later (a ++ b)).bytes ≡ (so_far t s a).bytes ++ (added t later b).bytes
  bytes_later = text_added t later a b at_later ∙ ap (λ z. (so_far t z a).bytes ++ (added t later b).bytes)
      (same s later is)

  pub next : (added t later b).fault ≡ None → IsStateAt t (stepped t later b) (a ++ b)
  next ok = at_next t later a b at_later ok

  whole : (added t later b).fault ≡ None →
      text t s.from s.to s.mode (a ++ b) true ≡ led_by (so_far t later (a ++ b)).bytes (added_end t (stepped t later b))
  whole ok = text_later ∙ text_ended t (stepped t later b) (a ++ b) (next ok)

  pub bytes : (added t later b).fault ≡ None →
      (text t s.from s.to s.mode (a ++ b) true).bytes
      ≡ (so_far t s a).bytes ++ ((added t later b).bytes ++ (added_end t (stepped t later b)).bytes)
  bytes ok =
      let end = (added_end t (stepped t later b)).bytes in
      ap (λ z. z.bytes) (whole ok) ∙ ap (λ z. z ++ end) bytes_later ∙ append_assoc (so_far t s a).bytes
      (added t later b).bytes end

  pub fault : (added t later b).fault ≡ None →
      (text t s.from s.to s.mode (a ++ b) true).fault ≡ (added_end t (stepped t later b)).fault
  fault ok = ap (λ z. z.fault) (whole ok)

  pub refused : (c : ℕ) → (added t later b).fault ≡ Some c →
      ((text t s.from s.to s.mode (a ++ b) true).fault ≡ Some c)
      × ((text t s.from s.to s.mode (a ++ b) true).bytes ≡ (so_far t s a).bytes ++ (added t later b).bytes)
  refused c e =
      let first = fault_added t later a b at_later ∙ e in
      let all = text_later ∙ text_refused t later (a ++ b) c first in
      (ap (λ z. z.fault) all ∙ first, ap (λ z. z.bytes) all ∙ bytes_later)
