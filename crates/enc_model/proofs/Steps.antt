-- What holds of every calm handler: its steps go byte by byte, and so in any cut.
use Rattle.std.proofs.Common.{ℕ, zero, suc, ◌+◌, ◌*◌, ◌≤◌, ◌≡◌, Bool, true, false, List, [], ◌∷◌, ◌++◌, Some, None}
use Rattle.std.proofs.Common.{length, refl, sym, ◌∙◌, ap, arith, append_assoc, append-nil, ◌-◌, All}
use Rattle.std.proofs.lemmas.List.Elements.{All-head, All-tail}
use Rattle.enc_model.specs.declared.Answer.{Answer}
use Rattle.enc_model.specs.declared.Answer.TheVariants.{Point, Finished}
use Rattle.enc_model.specs.Stream.{HandlerStep, Handler, DecoderRun, points_of, text_then, steps_within, steps}
use Rattle.enc_model.specs.Stream.{all_bytes, byte_run, quick}
use Rattle.enc_model.specs.Stream.{end_to, run_to_end, ending, IsQuiet, EndsWithin, IsCalm}

pub after_after : {S : Type 0} (x y : List ℕ) (r : DecoderRun S) → text_then x (text_then y r) ≡ text_then (x ++ y) r
after_after x y r = simp append_assoc

pub bytes_append : {S : Type 0} (f : S → ℕ → DecoderRun S) (s : S) (a b : List ℕ) →
    all_bytes f s (a ++ b) ≡ text_then (all_bytes f s a).text (all_bytes f (all_bytes f s a).state b)
bytes_append f s [] b = refl
bytes_append f s (x ∷ a) b =
    let t = f s x in
    let r = all_bytes f t.state a in
    ap (text_then t.text) (bytes_append f t.state a b) ∙ after_after t.text r.text (all_bytes f r.state b)

pub steps_none : {S : Type 0} (h : Handler S) (s : S) → steps h false s [] ≡ record { text = []; state = s }
unfolding steps steps_within
steps_none h s = refl

module _ {S : Type 0} (h : Handler S) where
  quiet_run : (r : List ℕ) (s : S) (ended : Bool) (bytes : List ℕ) (n m : ℕ) → IsQuiet h s r → n ≡ length r + m →
      steps_within n h ended s (r ++ bytes)
      ≡ text_then (all_bytes (quick h) s r).text (steps_within m h ended (all_bytes (quick h) s r).state bytes)
  unfolding steps_within
  quiet_run [] s ended bytes n m q e = let f : n ≡ m = omega arith in ap (λ k. steps_within k h ended s bytes) f
  quiet_run (b ∷ r) s ended bytes zero m q e = absurd (omega arith)
  quiet_run (b ∷ r) s ended bytes (suc k) m q e =
      let t = h s (Some b) in
      let rest = all_bytes (quick h) t.state r in
      let go = steps_within m h ended rest.state bytes in
      rw q.0 (ap (text_then (points_of t.answer)) (quiet_run r t.state ended bytes k m q.1 (omega arith))
      ∙ after_after (points_of t.answer) rest.text go)

  -- the end, by its answer
  end_case : (d k : ℕ) (t : HandlerStep S) (a : Answer) →
      ((n : ℕ) (s : S) → EndsWithin d h s → 2 * d ≤ n → steps_within n h true s [] ≡ end_to d h s) →
      (elim a as (λ _. Type 0) [
        | Finished ↦ Unit {0}
        | _ ↦ (length t.restored ≤ 1) × IsQuiet h t.state t.restored × EndsWithin d h
            (all_bytes (quick h) t.state t.restored).state
      ]) →
      2 * d + 1 ≤ k →
      ◌≡◌ {A = DecoderRun S} (elim a as (λ _. DecoderRun S) [
        | Finished ↦ record { text = []; state = t.state }
        | _ ↦ text_then (points_of t.answer) (steps_within k h true t.state t.restored)
      ])
      (elim a as (λ _. DecoderRun S) [
        | Finished ↦ record { text = []; state = t.state }
        | _ ↦ let r = all_bytes (quick h) t.state t.restored in text_then (points_of t.answer ++ r.text)
            (end_to d h r.state)
      ])
  end_case d k t Finished ih e l = refl
  end_case d k t _ ih e l =
      let r = all_bytes (quick h) t.state t.restored in
      let few : length t.restored ≤ 1 = e.0 in
      let flat : t.restored ++ [] ≡ t.restored = append-nil t.restored in
      let run = quiet_run t.restored t.state true [] k (k - length t.restored) e.1 (omega arith) in
      ap (text_then (points_of t.answer))
      (ap (steps_within k h true t.state) (sym flat) ∙ run ∙ ap (text_then r.text)
      (ih (k - length t.restored) r.state e.2 (omega arith)))
      ∙ after_after (points_of t.answer) r.text (end_to d h r.state)

  end_run : (d n : ℕ) (s : S) → EndsWithin d h s → 2 * d ≤ n → steps_within n h true s [] ≡ end_to d h s
  unfolding steps_within
  end_run zero n s e l = absurd e
  end_run (suc d) zero s e l = absurd (omega arith)
  end_run (suc d) (suc k) s e l = end_case d k (h s None) (h s None).answer (end_run d) e (omega arith)

  bytes_run : IsCalm h → (bytes : List ℕ) (s : S) (ended : Bool) (n : ℕ) → 3 * length bytes + 8 ≤ n →
      steps_within n h ended s bytes
      ≡ text_then (all_bytes (byte_run h) s bytes).text (ending h ended (all_bytes (byte_run h) s bytes).state)
  unfolding steps_within
  bytes_run calm [] s true n l = end_run 4 n s (calm.ends s) (omega arith)
  bytes_run calm [] s false zero l = refl
  bytes_run calm [] s false (suc k) l = refl
  bytes_run calm (b ∷ bytes) s ended zero l = absurd (omega arith)
  bytes_run calm (b ∷ bytes) s ended (suc k) l =
      let t = h s (Some b) in
      let again = all_bytes (quick h) t.state t.restored in
      let rest = all_bytes (byte_run h) again.state bytes in
      let few = calm.few s b in
      let run = quiet_run t.restored t.state ended bytes k (k - length t.restored) (calm.quiet s b) (omega arith) in
      let ih = bytes_run calm bytes again.state ended (k - length t.restored) (omega arith) in
      ap (text_then (points_of t.answer)) (run ∙ ap (text_then again.text) ih)
      ∙ after_after (points_of t.answer) again.text (text_then rest.text (ending h ended rest.state))
      ∙ after_after (points_of t.answer ++ again.text) rest.text (ending h ended rest.state)

  -- The steps go byte by byte, and then to the end.
  pub steps_are : IsCalm h → (ended : Bool) (s : S) (bytes : List ℕ) →
      steps h ended s bytes ≡ text_then (all_bytes (byte_run h) s bytes).text
      (ending h ended (all_bytes (byte_run h) s bytes).state)
  unfolding steps
  steps_are calm ended s bytes = bytes_run calm bytes s ended (3 * length bytes + 8) (omega arith)

  -- Without the end they are the bytes one by one.
  pub steps_bytes : IsCalm h → (s : S) (bytes : List ℕ) → steps h false s bytes ≡ all_bytes (byte_run h) s bytes
  steps_bytes calm s bytes =
      let r = all_bytes (byte_run h) s bytes in
      steps_are calm false s bytes ∙ ap (λ text. record { text = text; state = r.state }) (append-nil r.text)

  quiet_depth : (r : List ℕ) (s : S) → IsQuiet h s r → all_bytes (byte_run h) s r ≡ all_bytes (quick h) s r
  quiet_depth [] s q = refl
  quiet_depth (b ∷ r) s q = let t =
      h s (Some b) in rw (q.0, append-nil) (ap (text_then (points_of t.answer)) (quiet_depth r t.state q.1))

  -- One byte: its answer, and the answers to what it restores.
  pub steps_one : IsCalm h → (s : S) (b : ℕ) → steps h false s (b ∷ []) ≡ byte_run h s b
  steps_one calm s b =
      let r = byte_run h s b in
      steps_bytes calm s (b ∷ []) ∙ ap (λ text. record { text = text; state = r.state }) (append-nil r.text)

  whole : Bool → DecoderRun S → DecoderRun S
  whole ended r = text_then r.text (ending h ended r.state)

  -- A byte's answer, and then what it restores, put back at the start.
  pub steps_cons : IsCalm h → (ended : Bool) (s : S) (b : ℕ) (bytes : List ℕ) →
      steps h ended s (b ∷ bytes)
      ≡ (let t = h s (Some b) in text_then (points_of t.answer) (steps h ended t.state (t.restored ++ bytes)))
  unfolding whole
  steps_cons calm ended s b bytes =
      let t = h s (Some b) in
      let again = all_bytes (quick h) t.state t.restored in
      let rest = all_bytes (byte_run h) again.state bytes in
      let tail : all_bytes (byte_run h) t.state (t.restored ++ bytes) ≡ text_then again.text rest =
      bytes_append (byte_run h) t.state t.restored bytes
      ∙ ap (λ r. text_then r.text (all_bytes (byte_run h) r.state bytes))
      (quiet_depth t.restored t.state (calm.quiet s b)) in
      steps_are calm ended s (b ∷ bytes)
      ∙ sym (after_after (points_of t.answer ++ again.text) rest.text (ending h ended rest.state))
      ∙ sym (after_after (points_of t.answer) again.text (text_then rest.text (ending h ended rest.state)))
      ∙ ap (text_then (points_of t.answer))
      (after_after again.text rest.text (ending h ended rest.state)
      ∙ sym (steps_are calm ended t.state (t.restored ++ bytes) ∙ ap (whole ended) tail))

  -- THE LAW: steps over b ++ c are steps over b, and then over c from the end state.
  pub steps_append : IsCalm h → (ended : Bool) (s : S) (b c : List ℕ) →
      steps h ended s (b ++ c)
      ≡ (let first = steps h false s b in text_then first.text (steps h ended first.state c))
  unfolding whole
  steps_append calm ended s b c =
      let first = all_bytes (byte_run h) s b in
      let rest = all_bytes (byte_run h) first.state c in
      steps_are calm ended s (b ++ c)
      ∙ ap (whole ended) (bytes_append (byte_run h) s b c)
      ∙ sym (after_after first.text rest.text (ending h ended rest.state))
      ∙ ap (text_then first.text) (sym (steps_are calm ended first.state c))
      ∙ ap (λ r. text_then r.text (steps h ended r.state c)) (sym (steps_bytes calm s b))

  -- The end alone.
  pub steps_end : IsCalm h → (s : S) → steps h true s [] ≡ run_to_end h s
  steps_end calm s = steps_are calm true s []

  -- A RUN THAT DECODES TO ITSELF, as a kernel finds it: from a state that such bytes leave.
  pub steps_run : IsCalm h → (P : ℕ → Type 0) (s : S) →
      ((b : ℕ) → P b → h s (Some b) ≡ record { state = s; answer = Point b; restored = [] }) →
      (run : List ℕ) → All P run → steps h false s run ≡ record { text = run; state = s }
  steps_run calm P s plain run all = steps_bytes calm s run ∙ go run all
    where
      go : (run : List ℕ) → All P run → all_bytes (byte_run h) s run ≡ record { text = run; state = s }
      go [] all = refl
      go (b ∷ run) all = rw (plain b (All-head P b run all)) (ap (text_then (b ∷ [])) (go run (All-tail P b run all)))
