-- Runs of bytes that decode to themselves.
use Rattle.std.proofs.Common.{ℕ, ◌<◌, ◌≡◌, List, [], Some, false, All, arith}
use Rattle.std.proofs.lemmas.Bool.Decides.{nat_tests}
use Rattle.enc_model.specs.declared.Answer.TheVariants.{Point}
use Rattle.enc_model.specs.Stream.{steps}
use Rattle.enc_model.specs.Utf8.{utf8, utf8_start}
use Rattle.enc_model.proofs.Steps.{steps_run}
use Rattle.enc_model.proofs.Calm.{utf8_calm}

own : (b : ℕ) → b < 0x80 → utf8 utf8_start (Some b) ≡ record { state = utf8_start; answer = Point b; restored = [] }
unfolding utf8
own b l = grind (arith, nat_tests)

pub utf8_ascii : (run : List ℕ) → All (λ b. b < 0x80) run → steps utf8 false utf8_start run ≡ record {
  text = run;
  state = utf8_start;
}
utf8_ascii = steps_run utf8 utf8_calm (λ b. b < 0x80) utf8_start own
