-- Running a decoder's handler over a list of bytes (Encoding Standard, section 4.1).
use Rattle.std.specs.Prelude.{ℕ, zero, suc, ◌+◌, ◌*◌, ◌≤◌, ◌≡◌, Bool, true, false, List, [], ◌∷◌, ◌++◌, Option, Some}
use Rattle.std.specs.Prelude.{None, length}
use Rattle.enc_model.specs.declared.Answer.{Answer}
use Rattle.enc_model.specs.declared.Answer.TheVariants.{Point, Error, Nothing, Finished}
use Rattle.enc_model.specs.declared.Restored.{Restored}
use Rattle.enc_model.specs.declared.Restored.TheVariants.{Zero, One, Two}

abbrev pub restored_bytes : Restored → List ℕ
restored_bytes Zero = []
restored_bytes (One a) = a ∷ []
restored_bytes (Two a b) = a ∷ b ∷ []

-- What a handler returns: the new state, its answer, and the bytes that it restores.
pub record HandlerStep (S : Type 0) : Type 0 where
  pub state : S
  pub answer : Answer
  pub restored : List ℕ

-- A handler reads a byte, or None at the end.
abbrev pub Handler : Type 0 → Type 0
Handler S = S → Option ℕ → HandlerStep S

-- The decoded code points, and the state after them.
pub record DecoderRun (S : Type 0) : Type 0 where
  pub text : List ℕ
  pub state : S

-- The code points of an answer. An error gives one U+FFFD.
abbrev pub points_of : Answer → List ℕ
points_of (Point c) = c ∷ []
points_of Error = 0xFFFD ∷ []
points_of Nothing = []
points_of Finished = []

-- A run after some text.
abbrev pub text_then : {S : Type 0} → List ℕ → DecoderRun S → DecoderRun S
text_then text run = record { text = text ++ run.text; state = run.state }

-- The run over a whole list, in at most n calls. Restored bytes are put first.
unfoldable pub steps_within : {S : Type 0} → ℕ → Handler S → Bool → S → List ℕ → DecoderRun S
steps_within zero h ended s bytes = record { text = []; state = s }
steps_within (suc n) h ended s (b ∷ bytes) =
    let t = h s (Some b) in text_then (points_of t.answer) (steps_within n h ended t.state (t.restored ++ bytes))
steps_within (suc n) h false s [] = record { text = []; state = s }
steps_within (suc n) h true s [] =
    let t = h s None in
    elim t.answer [
      | Finished ↦ record { text = []; state = t.state }
      | _ ↦ text_then (points_of t.answer) (steps_within n h true t.state t.restored)
    ]

-- The run over a whole list. A byte is read at most three times, and the end takes at most eight calls.
unfoldable pub steps : {S : Type 0} → Handler S → Bool → S → List ℕ → DecoderRun S
steps h ended s bytes = steps_within (3 * length bytes + 8) h ended s bytes

-- The same, byte by byte: restored bytes are read at once.

-- The run of f over all bytes, one after the other.
abbrev pub all_bytes : {S : Type 0} → (S → ℕ → DecoderRun S) → S → List ℕ → DecoderRun S
all_bytes f s [] = record { text = []; state = s }
all_bytes f s (b ∷ bytes) = text_then (f s b).text (all_bytes f (f s b).state bytes)

-- The run over a byte that restores nothing.
abbrev pub quick : {S : Type 0} → Handler S → S → ℕ → DecoderRun S
quick h s b = let t = h s (Some b) in record { text = points_of t.answer; state = t.state }

-- The run over a byte and the bytes that it restores.
abbrev pub byte_run : {S : Type 0} → Handler S → S → ℕ → DecoderRun S
byte_run h s b = let t = h s (Some b) in text_then (points_of t.answer) (all_bytes (quick h) t.state t.restored)

-- The run over the end, with at most d answers before it is finished.
abbrev pub end_to : {S : Type 0} → ℕ → Handler S → S → DecoderRun S
end_to zero h s = record { text = []; state = s }
end_to (suc d) h s =
    let t = h s None in
    elim t.answer [
      | Finished ↦ record { text = []; state = t.state }
      | _ ↦ let r = all_bytes (quick h) t.state t.restored in text_then (points_of t.answer ++ r.text)
          (end_to d h r.state)
    ]

-- The run over the end.
abbrev pub run_to_end : {S : Type 0} → Handler S → S → DecoderRun S
run_to_end h s = end_to 4 h s

-- The run over the end, or nothing.
abbrev pub ending : {S : Type 0} → Handler S → Bool → S → DecoderRun S
ending h true s = run_to_end h s
ending h false s = record { text = []; state = s }

-- Calm handlers.

-- These bytes restore nothing when they are read from here.
abbrev pub IsQuiet : {S : Type 0} → Handler S → S → List ℕ → Type 0
IsQuiet h s [] = Unit {0}
IsQuiet h s (b ∷ bytes) = ((h s (Some b)).restored ≡ []) × IsQuiet h (h s (Some b)).state bytes

-- The end is finished, or it leads to a state of which `rest` holds.
abbrev pub EndsStep : {S : Type 0} → (S → Type 0) → Handler S → HandlerStep S → Type 0
EndsStep rest h t =
    elim t.answer [
      | Finished ↦ Unit {0}
      | _ ↦ (length t.restored ≤ 1) × IsQuiet h t.state t.restored × rest (all_bytes (quick h) t.state t.restored).state
    ]

-- The end is finished within d answers.
abbrev pub EndsWithin : {S : Type 0} → ℕ → Handler S → S → Type 0
EndsWithin zero h s = ⊥
EndsWithin (suc d) h s = EndsStep (EndsWithin d h) h (h s None)

-- A byte restores at most two others, which restore nothing, and the end is finished within four answers.
pub record IsCalm {S : Type 0} (h : Handler S) : Type 0 where
  pub few : (s : S) (b : ℕ) → length (h s (Some b)).restored ≤ 2
  pub quiet : (s : S) (b : ℕ) → IsQuiet h (h s (Some b)).state (h s (Some b)).restored
  pub ends : (s : S) → EndsWithin 4 h s

-- The standard's own form: a byte's answer, and then the run with the restored bytes put first.
abbrev pub PutsBack : {S : Type 0} → Handler S → Type 0
PutsBack {S} h = (ended : Bool) (s : S) (b : ℕ) (bytes : List ℕ) →
    steps h ended s (b ∷ bytes) ≡ (let t = h s (Some b) in text_then (points_of t.answer)
    (steps h ended t.state (t.restored ++ bytes)))
