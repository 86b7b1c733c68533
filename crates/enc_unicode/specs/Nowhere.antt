-- A sink that takes everything and claims nothing.
use Rattle.enc_model.specs.Sink.{IsSink}

-- The laws of a sink hold of it.
pub nowhere_sink : {A E : Type 0} → IsSink {A = A} {E = E} (λ old text new. Unit {0}) (λ old text why new. ⊥)
nowhere_sink = record {
  none = λ a. tt;
  both = λ a b c x y t u. tt;
  later = λ a b c x y e t r. r;
  more = λ a b x y e r. r;
}
