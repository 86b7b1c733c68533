-- An encoder of the standard is a sink: text after text, and a refusal for longer texts too.
use Rattle.std.proofs.Common.{ℕ, ◌≡◌, List, [], ◌++◌, Option, Some, None, refl, sym, ◌∙◌, ap, append_assoc, append-nil}
use Rattle.std.proofs.Common.{subst}
use Rattle.enc_model.specs.Sink.{IsSink}
use Rattle.enc_model.specs.declared.Mode.{Mode}
use Rattle.enc_model.specs.Encode.{Encoder, Coded, led_by, coded, IsSteadyEncoder}
use Rattle.enc_model.specs.Transcode.{Coder, Took, Refused, IsReason}
use Rattle.enc_model.proofs.Transcoding.{coded_none, coded_both, coded_fault}

module _ (f : Encoder) (steady : IsSteadyEncoder f) (mode : Mode) where
  took_both : (a b c : Coder) (x y : List ℕ) → Took f mode a x b → Took f mode b y c → Took f mode a (x ++ y) c
  took_both a b c x y p q =
      let r = coded f mode a.state x in
      let e = coded_both f steady mode a.state x y p.fault in
      let same : coded f mode b.state y ≡ coded f mode r.state y = ap (λ s. coded f mode s y) p.state in
      record {
        fault = ap (λ z. z.fault) (e ∙ ap (led_by r.bytes) (sym same)) ∙ q.fault;
        state = q.state ∙ ap (λ z. z.state) (ap (led_by r.bytes) same ∙ sym e);
        out = q.out ∙ ap (λ z. z ++ (coded f mode b.state y).bytes) p.out
            ∙ append_assoc a.out r.bytes (coded f mode b.state y).bytes
            ∙ ap (λ z. a.out ++ z.bytes) (ap (led_by r.bytes) same ∙ sym e);
      }

  reason_after : (w : Option ℕ) (x : List ℕ) (r : Coded) → IsReason w r → IsReason w (led_by x r)
  reason_after None x r i = tt
  reason_after (Some c) x r i = i

  refused_later : (a b c : Coder) (x y : List ℕ) (w : Option ℕ) → Took f mode a x b → Refused f mode b y w c
      → Refused f mode a (x ++ y) w c
  refused_later a b c x y w p q =
      let r = coded f mode a.state x in
      let e = coded_both f steady mode a.state x y p.fault
      ∙ ap (λ s. led_by r.bytes (coded f mode s y)) (sym p.state) in
      record {
        prefix = r.bytes ++ q.prefix;
        rest = q.rest;
        parts = ap (λ z. z.bytes) e ∙ ap (λ z. r.bytes ++ z) q.parts ∙ sym (append_assoc r.bytes q.prefix q.rest);
        out = q.out ∙ ap (λ z. z ++ q.prefix) p.out ∙ append_assoc a.out r.bytes q.prefix;
        reason = subst (λ z. IsReason w z) (sym e) (reason_after w r.bytes (coded f mode b.state y) q.reason);
      }

  none_reason : (w : Option ℕ) (r z : Coded) → r.fault ≡ None → IsReason w r → IsReason w z
  none_reason None r z e i = tt
  none_reason (Some c) r z e i = absurd cc

  refused_more : (a b : Coder) (x y : List ℕ) (w : Option ℕ) → Refused f mode a x w b → Refused f mode a (x ++ y) w b
  refused_more a b x y w q = go (coded f mode a.state x).fault refl
    where
      r : Coded
      r = coded f mode a.state x

      go : (z : Option ℕ) → r.fault ≡ z → Refused f mode a (x ++ y) w b
      go None e =
          let both = coded_both f steady mode a.state x y e in
          let more = coded f mode r.state y in
          record {
            prefix = q.prefix;
            rest = q.rest ++ more.bytes;
            parts = ap (λ z. z.bytes) both ∙ ap (λ z. z ++ more.bytes) q.parts
                ∙ append_assoc q.prefix q.rest more.bytes;
            out = q.out;
            reason = none_reason w r (coded f mode a.state (x ++ y)) e q.reason;
          }
      go (Some c) e =
          let same = coded_fault f steady mode a.state x y c e in
          record {
            prefix = q.prefix;
            rest = q.rest;
            parts = ap (λ z. z.bytes) same ∙ q.parts;
            out = q.out;
            reason = subst (λ z. IsReason w z) (sym same) q.reason;
          }

  pub coder_sink : IsSink (Took f mode) (Refused f mode)
  coder_sink = record {
    none = λ a. record {
      fault = ap (λ z. z.fault) (coded_none f mode a.state);
      state = sym (ap (λ z. z.state) (coded_none f mode a.state));
      out = sym (ap (λ z. a.out ++ z.bytes) (coded_none f mode a.state) ∙ append-nil a.out);
    };
    both = took_both;
    later = refused_later;
    more = refused_more;
  }
