-- The equations of decoding, without the bound on calls in its definition.
use Rattle.std.specs.Prelude.{◌≡◌, true, false, [], None}
use Rattle.enc_model.specs.declared.Answer.TheVariants.{Finished}
use Rattle.enc_model.specs.Stream.{Handler, PutsBack, text_then, points_of, steps}

-- The run of a handler is given by its answers.
pub record IsByAnswers {S : Type 0} (h : Handler S) : Type 0 where
  -- A byte's answer, and then the run with the restored bytes put first.
  pub byte : PutsBack h
  -- No more bytes, and not ended.
  pub paused : (s : S) → steps h false s [] ≡ record { text = []; state = s }
  -- The end's answer, and then the run with the restored bytes, after which the end is read again.
  pub end : (s : S) → steps h true s [] ≡ (let t = h s None in elim t.answer [
    | Finished ↦ record { text = []; state = t.state }
    | _ ↦ text_then (points_of t.answer) (steps h true t.state t.restored)
  ])
