-- What a sink wrote, and why a transcoder stopped.
use Rattle.std.proofs.Common.{ℕ, ◌≡◌, List, refl, ◌∙◌, ap, Vec}
use Rattle.enc_encode.specs.declared.error.EncodeError.{EncodeError}
use Rattle.enc_encode.specs.declared.error.EncodeError.TheVariants as encode
use Rattle.enc_encode.specs.Sinks.{SinkState, Setting, SinkTook, SinkRefused}
use Rattle.enc_encode.specs.State.{shifted, code_from}
use Rattle.enc_model.specs.Encode.{Shift, Coded}
use Rattle.enc_model.specs.Indexes.{tables}
use Rattle.enc_stream.specs.declared.error.TranscodeError.{TranscodeError}
use Rattle.enc_stream.specs.declared.error.TranscodeError.TheVariants.{NoMemory, Unencodable, Spent}
use Rattle.enc_stream.specs.Errors.{error_of}
use Rattle.enc_stream.specs.TranscoderState.{TranscoderState, spent_by, StopsFor, IsPartWritten, IsAllWritten}
use Rattle.enc_stream.specs.TranscoderState.{RefusedAs}

-- what a sink took
pub sink_wrote : (a b : SinkState) (x : List ℕ) → SinkTook a x b →
    IsAllWritten (code_from (tables a.set) a.encoder x) a.out
    b.out × (b.encoder ≡ shifted a.encoder (code_from (tables a.set) a.encoder x).state)
sink_wrote a b x p = (
  record { fault = p.took.fault; items = p.took.out },
  ap (λ (g : Setting). record {
    to = g.to;
    mode = g.mode;
    shift = b.encoder.shift;
  }) p.setting ∙ ap (λ (s : Shift). shifted a.encoder s) p.took.state,
)

stops : (a b : SinkState) (x : List ℕ) (e : EncodeError) → SinkRefused a x e b
    → StopsFor (error_of e) (code_from (tables a.set) a.encoder x) a.out
stops a b x encode.NoMemory p = p.memory refl
stops a b x (encode.Unencodable c) p = p.refused.reason

-- what it refused
pub sink_stopped : (a b : SinkState) (x : List ℕ) (e : EncodeError) → SinkRefused a x e b
    → IsPartWritten (error_of e) (code_from (tables a.set) a.encoder x) a.out b.out
sink_stopped a b x e p = record {
  reason = stops a b x e p;
  items = record { prefix = p.refused.prefix; rest = p.refused.rest; parts = p.refused.parts; out = p.refused.out };
}

pub stopped_answers : {Z : Type 0} (e : TranscodeError) (code : Coded) (old new : Vec ℕ Z)
    (before after : TranscoderState)
    → IsPartWritten e code old new → after ≡ spent_by before →
    RefusedAs e code old new before after
stopped_answers NoMemory code old new before after p s = (p, s)
stopped_answers (Unencodable c) code old new before after p s = (p, s)
stopped_answers Spent code old new before after p s = absurd p.reason
