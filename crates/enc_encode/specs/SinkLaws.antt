-- An encoder that writes to a vector is a sink.
use Rattle.std.proofs.Common.{ℕ, ◌≡◌, ◌≤◌, List, ◌++◌, Option, Some, None, refl, ◌∙◌, ap, subst, arith, length}
use Rattle.std.proofs.Common.{length-append, Vec, vec_capacity}
use Rattle.std.specs.declared.alloc.Global.{Global}
use Rattle.enc_model.specs.Sink.{IsSink}
use Rattle.enc_model.specs.Encode.{Shift, Coded, encoder, joined_code}
use Rattle.enc_model.specs.Transcode.{Took, Refused}
use Rattle.enc_model.specs.Indexes.{tables}
use Rattle.enc_model.proofs.Coding.{coded_append}
use Rattle.enc_model.proofs.Steady.{encoder_steady}
use Rattle.enc_model.proofs.Transcoding.{coded_both}
use Rattle.enc_encode.specs.CoderSink.{coder_sink}
use Rattle.enc_encode.specs.declared.error.EncodeError.{EncodeError}
use Rattle.enc_encode.specs.declared.error.EncodeError.TheVariants.{NoMemory}
use Rattle.enc_encode.specs.Growth.{NoRoom}
use Rattle.enc_encode.specs.Reasons.{reason_of}
use Rattle.enc_encode.specs.Sinks.{SinkState, Setting, setting_of, coder_of, code_in, SinkTook, SinkRefused}

room_prefix : (old : Vec ℕ Global) (x y : List ℕ) → NoRoom old x → NoRoom old (x ++ y)
room_prefix old x y h = let l = length-append x y in omega (arith, l, h)

room_after : (old mid : Vec ℕ Global) (x y : List ℕ) → mid.items ≡ old.items ++ x → vec_capacity old ≤ vec_capacity mid
    → NoRoom mid y → NoRoom old (x ++ y)
room_after old mid x y e c h =
    let l = length-append x y in let m =
    length-append old.items x in let i : length mid.items ≡ length (old.items ++ x) = ap length e in
    omega (arith, l, m, i, c, h)

room_joined : (old : Vec ℕ Global) (r : Coded) (m : Shift → Coded) → NoRoom old r.bytes
    → NoRoom old (joined_code r m).bytes
room_joined old r m p = go r.fault refl
  where
    go : (z : Option ℕ) → r.fault ≡ z → NoRoom old (joined_code r m).bytes
    go None h = rw h (room_prefix old r.bytes (m r.state).bytes p)
    go (Some d) h = rw h p

abbrev TookBy : Setting → SinkState → List ℕ → SinkState → Type 0
TookBy g a text b = Took (encoder (tables g.set) g.to) g.mode (coder_of a) text (coder_of b)

abbrev RefusedBy : Setting → SinkState → List ℕ → EncodeError → SinkState → Type 0
RefusedBy g a text e b = Refused (encoder (tables g.set) g.to) g.mode (coder_of a) text (reason_of e) (coder_of b)

abbrev laws : (g : Setting) → IsSink (Took (encoder (tables g.set) g.to) g.mode)
    (Refused (encoder (tables g.set) g.to) g.mode)
laws g = coder_sink (encoder (tables g.set) g.to) (encoder_steady (tables g.set) g.to) g.mode

later_memory : (a b : SinkState) (x y : List ℕ) (e : EncodeError) → SinkTook a x b
    → (e ≡ NoMemory → NoRoom b.out (code_in (setting_of a) b.encoder.shift y).bytes) →
    e ≡ NoMemory → NoRoom a.out (code_in (setting_of a) a.encoder.shift (x ++ y)).bytes
later_memory a b x y e p q h =
    let g = setting_of a in
    let r = code_in g a.encoder.shift x in
    rw (
      coded_both (encoder (tables g.set) g.to) (encoder_steady (tables g.set) g.to) g.mode a.encoder.shift x y
          p.took.fault,
      ← p.took.state,
    )
    (room_after a.out b.out r.bytes (code_in g b.encoder.shift y).bytes p.took.out p.capacity (q h))

pub encoder_sink : IsSink SinkTook SinkRefused
encoder_sink = record {
  none = λ a. record { setting = refl; took = (laws (setting_of a)).none (coder_of a); capacity = omega arith };
  both = λ a b c x y p q. record {
    setting = q.setting ∙ p.setting;
    took = (laws (setting_of a)).both (coder_of a) (coder_of b) (coder_of c) x y p.took
        (subst (λ g. TookBy g b y c) p.setting q.took);
    capacity = let h = p.capacity in let i = q.capacity in omega (arith, h, i);
  };
  later = λ a b c x y e p q. record {
    setting = q.setting ∙ p.setting;
    refused = (laws (setting_of a)).later (coder_of a) (coder_of b) (coder_of c) x y (reason_of e) p.took
        (subst (λ g. RefusedBy g b y e c) p.setting q.refused);
    memory = later_memory a b x y e p
        (subst (λ g. e ≡ NoMemory → NoRoom b.out (code_in g b.encoder.shift y).bytes) p.setting q.memory);
  };
  more = λ a b x y e p. record {
    setting = p.setting;
    refused = (laws (setting_of a)).more (coder_of a) (coder_of b) x y (reason_of e) p.refused;
    memory = λ h. let g = setting_of a in rw
        (coded_append (encoder (tables g.set) g.to) (encoder_steady (tables g.set) g.to) g.mode a.encoder.shift x y)
        (room_joined a.out (code_in g a.encoder.shift x) (λ next. code_in g next y) (p.memory h));
  };
}
