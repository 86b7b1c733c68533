-- What a transcoder's end adds to the text.
use Rattle.std.proofs.Common.{ℕ, ◌≡◌, ◌≤◌, ◌<◌, ◌+◌, Bool, true, false, List, ◌++◌, Option, Some, None, length}
use Rattle.std.proofs.Common.{length-append, arith, refl, sym, ◌∙◌, ap, append_assoc, subst, Vec, vec_capacity}
use Rattle.enc_model.specs.declared.Encoding.{Encoding}
use Rattle.enc_model.specs.Encode.{Tables, InAscii, Coded, led_by, coded, encoder, ended_coded, encoder_end, encode}
use Rattle.enc_model.specs.Decode.{undecided, decoded, decoded_text, conclude, decode, text}
use Rattle.enc_model.specs.Transcode.{Transcoder, phase_of, fed_end, so_far, IsStateAt, added_end}
use Rattle.enc_model.proofs.Steady.{encoder_steady}
use Rattle.enc_model.proofs.Pieces.{conclude_all, decoded_held, decoded_reading}
use Rattle.enc_model.proofs.Transcoding.{coded_both}
use Rattle.enc_stream.specs.declared.error.TranscodeError.{TranscodeError}
use Rattle.enc_stream.specs.declared.error.TranscodeError.TheVariants.{NoMemory, Unencodable, Spent}
use Rattle.enc_stream.specs.TranscoderState.{StopsFor, IsPartWritten, IsAllWritten}

-- what is at the start stays at the start
ended_after : (x : List ℕ) (r : Coded) → ended_coded (led_by x r) ≡ led_by x (ended_coded r)
ended_after x r = go r.fault refl
  where
    go : (f : Option ℕ) → r.fault ≡ f → ended_coded (led_by x r) ≡ led_by x (ended_coded r)
    go None e = rw e (ap (λ z. record { bytes = z; state = InAscii; fault = None })
        (append_assoc x r.bytes (encoder_end r.state)))
    go (Some c) e = rw e refl

-- all that is decoded with the end is what was decoded and what the end gives
pub decode_end : (t : Tables) (e : Encoding) (b : List ℕ) →
    decode t e b true ≡ decoded_text (decoded t e b false) ++ fed_end t e (phase_of (decoded t e b false))
unfolding decode fed_end conclude
decode_end t e b = go (undecided b) refl
  where
    go : (u : Bool) → undecided b ≡ u → decode t e b true ≡ decoded_text (decoded t e b false) ++ fed_end t e
        (phase_of (decoded t e b false))
    go true h = sym (ap (λ d. decoded_text d ++ fed_end t e (phase_of d)) (decoded_held t e b h))
    go false h =
        let d = decoded_reading t e b h in
        ap decoded_text (sym (conclude_all t e b) ∙ ap (conclude t e) d)
        ∙ sym (ap (λ z. decoded_text z ++ fed_end t e (phase_of z)) d)

-- The text with the end is the text so far and what the end adds, by a transcoder's state.
pub text_ended : (t : Tables) (s : Transcoder) (b : List ℕ) → IsStateAt t s b
    → text t s.from s.to s.mode b true ≡ led_by (so_far t s b).bytes (added_end t s)
unfolding text encode
text_ended t s b here =
    let f = encoder t s.to in
    let so = decoded_text (decoded t s.from b false) in
    let more = fed_end t s.from (phase_of (decoded t s.from b false)) in
    ap (λ z. ended_coded (coded f s.mode InAscii z)) (decode_end t s.from b)
    ∙ ap ended_coded (coded_both f (encoder_steady t s.to) s.mode InAscii so more here.fault)
    ∙ ended_after (so_far t s b).bytes (coded f s.mode (so_far t s b).state more)
    ∙ ap (λ z. led_by (so_far t s b).bytes (ended_coded (coded f s.mode z more))) (sym here.shift)
    ∙ ap (λ z. led_by (so_far t s b).bytes (ended_coded (coded f s.mode s.shift (fed_end t s.from z)))) (sym here.phase)

-- THE END'S BYTES, after what was coded

ended_none : (r : Coded) → r.fault ≡ None → ended_coded r ≡ record {
  bytes = r.bytes ++ encoder_end r.state;
  state = InAscii;
  fault = None;
}
ended_none r e = rw e refl

ended_fault : (r : Coded) (c : ℕ) → r.fault ≡ Some c → ended_coded r ≡ r
ended_fault r c e = rw e refl

module _ {Z : Type 0} (r : Coded) (old mid new : Vec ℕ Z) where
  -- after the code the bytes of the end were appended
  pub end_written : IsAllWritten r old mid → new.items ≡ mid.items ++ encoder_end r.state
      → IsAllWritten (ended_coded r) old new
  end_written p e =
      let n = ended_none r p.fault in
      record {
        fault = ap (λ z. z.fault) n;
        items = e ∙ ap (λ z. z ++ encoder_end r.state) p.items ∙ append_assoc old.items r.bytes (encoder_end r.state)
            ∙ ap (λ z. old.items ++ z.bytes) (sym n);
      }

  -- there was no room for these
  pub end_stopped : IsAllWritten r old mid → vec_capacity old ≤ vec_capacity mid → new.items ≡ mid.items
      → vec_capacity mid < length mid.items + length (encoder_end r.state) →
      IsPartWritten NoMemory (ended_coded r) old new
  end_stopped p grown same full =
      let n = ended_none r p.fault in
      let l : length mid.items ≡ length (old.items ++ r.bytes) = ap length p.items in
      let m = length-append old.items r.bytes in
      let k = length-append r.bytes (encoder_end r.state) in
      let room : vec_capacity old < length old.items + length (r.bytes ++ encoder_end r.state) =
      omega (arith, l, m, k, grown, full) in
      record {
        reason = subst (λ (z : Coded). vec_capacity old < length old.items + length z.bytes) (sym n) room;
        items = record {
          prefix = r.bytes;
          rest = encoder_end r.state;
          parts = ap (λ z. z.bytes) n;
          out = same ∙ p.items;
        };
      }

  -- or there was a stop before the end
  pub stopped_before : (e : TranscodeError) → IsPartWritten e r old new → IsPartWritten e (ended_coded r) old new
  stopped_before e p = go r.fault refl
    where
      reason : (e : TranscodeError) → r.fault ≡ None → StopsFor e r old → StopsFor e (record {
        bytes = r.bytes ++ encoder_end r.state;
        state = InAscii;
        fault = None;
      }) old
      reason NoMemory n s = let k = length-append r.bytes (encoder_end r.state) in omega (arith, k, s)
      reason (Unencodable c) n s = absurd cc
      reason Spent n s = s

      go : (z : Option ℕ) → r.fault ≡ z → IsPartWritten e (ended_coded r) old new
      go None h = rw (ended_none r h) (record {
        reason = reason e h p.reason;
        items = record {
          prefix = p.items.prefix;
          rest = p.items.rest ++ encoder_end r.state;
          parts = ap (λ z. z ++ encoder_end r.state) p.items.parts ∙ append_assoc p.items.prefix p.items.rest
              (encoder_end r.state);
          out = p.items.out;
        };
      })
      go (Some c) h = rw (ended_fault r c h) p
