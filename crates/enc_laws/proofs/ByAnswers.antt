-- Every calm handler is read by its answers.
use Rattle.std.proofs.Common.{ℕ, zero, suc, ◌≤◌, ◌≡◌, true, List, [], ◌∷◌, ◌++◌, Some, None, length, refl, sym, ◌∙◌, ap}
use Rattle.std.proofs.Common.{append-nil}
use Rattle.enc_model.specs.declared.Answer.{Answer}
use Rattle.enc_model.specs.declared.Answer.TheVariants.{Finished}
use Rattle.enc_model.specs.Stream.{HandlerStep, Handler, DecoderRun, points_of, text_then, steps, all_bytes}
use Rattle.enc_model.specs.Stream.{byte_run, quick, end_to, run_to_end}
use Rattle.enc_model.specs.Stream.{IsQuiet, EndsWithin, IsCalm}
use Rattle.enc_model.proofs.Steps.{after_after, steps_are, steps_none, steps_cons, steps_end}
use Rattle.enc_laws.specs.Equations.{IsByAnswers}

module _ {S : Type 0} (h : Handler S) where
  -- the end's first answer, and on from after what it restores
  abbrev first_of : (S → DecoderRun S) → HandlerStep S → Answer → DecoderRun S
  first_of go t a = elim a as (λ _. DecoderRun S) [
    | Finished ↦ record { text = []; state = t.state }
    | _ ↦ let r = all_bytes (quick h) t.state t.restored in text_then (points_of t.answer ++ r.text) (go r.state)
  ]

  -- the case of `EndsWithin` for this answer
  abbrev EndsFrom : ℕ → HandlerStep S → Answer → Type 0
  EndsFrom d t a = elim a as (λ _. Type 0) [
    | Finished ↦ Unit {0}
    | _ ↦ (length t.restored ≤ 1) × IsQuiet h t.state t.restored × EndsWithin d h
        (all_bytes (quick h) t.state t.restored).state
  ]

  deeper_case : (d : ℕ) (t : HandlerStep S) (a : Answer) → ((s : S) → EndsWithin d h s
      → end_to d h s ≡ end_to (suc d) h s) →
      EndsFrom d t a → first_of (end_to d h) t a ≡ first_of (end_to (suc d) h) t a
  deeper_case d t Finished ih e = refl
  deeper_case d t _ ih e = let r =
      all_bytes (quick h) t.state t.restored in ap (text_then (points_of t.answer ++ r.text)) (ih r.state e.2)

  -- where the end is finished within so many answers, one more changes nothing
  deeper : (d : ℕ) (s : S) → EndsWithin d h s → end_to d h s ≡ end_to (suc d) h s
  deeper zero s e = absurd e
  deeper (suc d) s e = deeper_case d (h s None) (h s None).answer (deeper d) e

  quiet_bytes : (r : List ℕ) (s : S) → IsQuiet h s r → all_bytes (byte_run h) s r ≡ all_bytes (quick h) s r
  quiet_bytes [] s q = refl
  quiet_bytes (b ∷ r) s q = let t =
      h s (Some b) in rw (q.0, append-nil) (ap (text_then (points_of t.answer)) (quiet_bytes r t.state q.1))

  after_quiet : IsCalm h → (s : S) (r : List ℕ) → IsQuiet h s r →
      steps h true s r ≡ text_then (all_bytes (quick h) s r).text (run_to_end h (all_bytes (quick h) s r).state)
  after_quiet calm s r q = steps_are h calm true s r ∙ ap (λ z. text_then z.text (run_to_end h z.state))
      (quiet_bytes r s q)

  end_case : IsCalm h → (t : HandlerStep S) (a : Answer) → EndsFrom 3 t a →
      ◌≡◌ {A = DecoderRun S} (first_of (end_to 3 h) t a) (elim a as (λ _. DecoderRun S) [
        | Finished ↦ record { text = []; state = t.state }
        | _ ↦ text_then (points_of t.answer) (steps h true t.state t.restored)
      ])
  end_case calm t Finished e = refl
  end_case calm t _ e =
      let r = all_bytes (quick h) t.state t.restored in
      ap (text_then (points_of t.answer ++ r.text)) (deeper 3 r.state e.2)
      ∙ sym (after_after (points_of t.answer) r.text (run_to_end h r.state))
      ∙ ap (text_then (points_of t.answer)) (sym (after_quiet calm t.state t.restored e.1))

  pub by_answers : IsCalm h → IsByAnswers h
  by_answers calm = record {
    byte = steps_cons h calm;
    paused = steps_none h;
    end = λ s. steps_end h calm s ∙ end_case calm (h s None) (h s None).answer (calm.ends s);
  }
