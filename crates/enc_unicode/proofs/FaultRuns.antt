-- Faults and ASCII at a character's start.
use Rattle.std.proofs.Common.{ℕ, ◌+◌, ◌-◌, ◌<◌, ◌≡◌, true, false, List, [], ◌∷◌, Some, All, refl, sym, ◌∙◌, ap}
use Rattle.std.proofs.Common.{subst, take, drop, get_or, length, arith}
use Rattle.std.proofs.lemmas.Bool.Decides.{nat_tests}
use Rattle.std.proofs.lemmas.List.{take_rest}
use Rattle.std.proofs.Math.Seq.{drop-cons}
use Rattle.enc_feed.specs.Batches.{BatchTook, BatchRefused}
use Rattle.enc_feed.specs.BatchLaws.{batch_sink}
use Rattle.enc_model.specs.Stream.{DecoderRun, steps}
use Rattle.enc_model.specs.Utf8.{Utf8, utf8, utf8_start}
use Rattle.enc_model.specs.declared.Answer.TheVariants.{Error}
use Rattle.enc_feed.specs.declared.batch.Full.{Full}
use Rattle.enc_model.proofs.Calm.{utf8_calm}
use Rattle.enc_feed.proofs.Feeding.{feed_begins}
use Rattle.enc_model.proofs.Utf8Bytes.{ascii_chars, ascii_utf8}
use Rattle.enc_feed.proofs.Parts.{part_taken, part_state}
use Rattle.enc_model.proofs.Steps.{steps_none, steps_one}
use Rattle.enc_model.proofs.Texts.{utf8_text}
use Rattle.enc_unicode.specs.Looks.{begins_none}

fault : (b : ℕ) → begins_none b ≡ true → utf8 utf8_start (Some b) ≡ record {
  state = utf8_start;
  answer = Error;
  restored = [];
}
unfolding utf8
fault b e = grind (arith, nat_tests, e)

fault_steps : (b : ℕ) → begins_none b ≡ true → steps utf8 false utf8_start (b ∷ []) ≡ record {
  text = 0xFFFD ∷ [];
  state = utf8_start;
}
fault_steps b e = steps_one utf8 utf8_calm utf8_start b ∙ rw (fault b e) refl

-- nothing is read yet
pub none_read : (bytes batch : List ℕ) → BatchTook batch (steps utf8 false utf8_start (take 0 bytes)).text batch
none_read bytes batch = feed_begins {E = Full} BatchTook BatchRefused batch_sink utf8 utf8_calm utf8_start batch

pub none_state : (bytes : List ℕ) → utf8_start ≡ (steps utf8 false utf8_start (take 0 bytes)).state
none_state bytes = ap (λ (run : DecoderRun Utf8). run.state) (sym (steps_none utf8 utf8_start))

pub fault_more : (bytes : List ℕ) (at : ℕ) (old now new : List ℕ) → at < length bytes
    → begins_none (get_or bytes at 0) ≡ true → utf8_start ≡ (steps utf8 false utf8_start (take at bytes)).state
    → BatchTook old (steps utf8 false utf8_start (take at bytes)).text now → BatchTook now (0xFFFD ∷ []) new →
    BatchTook old (steps utf8 false utf8_start (take (at + 1) bytes)).text new
    × (utf8_start ≡ (steps utf8 false utf8_start (take (at + 1) bytes)).state)
fault_more bytes at old now new inside e state took more =
    let rest = take (length bytes - at) (drop at bytes) in
    let one : take 1 rest ≡ get_or bytes at 0 ∷ [] = ap (take 1) (take_rest bytes at ∙ drop-cons bytes at 0 inside) in
    let run = ap (steps utf8 false utf8_start) one ∙ fault_steps (get_or bytes at 0) e in (
      part_taken utf8 utf8_calm {E = Full} BatchTook BatchRefused batch_sink utf8_start utf8_start bytes rest at 1 old
          now new refl state took (subst (λ r. BatchTook now r.text new) (sym run) more),
      part_state utf8 utf8_calm utf8_start utf8_start utf8_start bytes rest at 1 refl state
          (sym (ap (λ (r : DecoderRun Utf8). r.state) run)),
    )

-- ASCII at the start
pub ascii_steps : (bytes : List ℕ) (n : ℕ) → All (λ b. b < 128) (take n bytes) →
    steps utf8 false utf8_start (take n bytes) ≡ record { text = take n bytes; state = utf8_start }
ascii_steps bytes n a =
    utf8_text (take n bytes) (ascii_utf8 (take n bytes) a)
    ∙ ap (λ text. record { text = text; state = utf8_start }) (ascii_chars (take n bytes) a)

pub ascii_taken : (bytes old new : List ℕ) (n : ℕ) → All (λ b. b < 128) (take n bytes) → BatchTook old (take n bytes)
    new
    → BatchTook old (steps utf8 false utf8_start (take n bytes)).text new
ascii_taken bytes old new n a took = subst (λ run. BatchTook old run.text new) (sym (ascii_steps bytes n a)) took

pub ascii_state : (bytes : List ℕ) (n : ℕ) → All (λ b. b < 128) (take n bytes)
    → utf8_start ≡ (steps utf8 false utf8_start (take n bytes)).state
ascii_state bytes n a = sym (ap (λ (run : DecoderRun Utf8). run.state) (ascii_steps bytes n a))
