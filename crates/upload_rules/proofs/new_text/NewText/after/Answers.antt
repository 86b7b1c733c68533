use Rattle.std.proofs.Common.{◌≡◌, ◌++◌, [], true, false, None, inl, inr, ap, subst, sym, ◌∙◌, append-nil}
use Rattle.std.proofs.lemmas.Bool.{cases_Bool}
use Rattle.enc_stream.specs.TranscoderState.{TranscoderState, is_done, is_phase_over}
use Rattle.enc_stream.specs.StateBytes.{transcoder_state}
use Rattle.upload_rules.specs.Store.{text_with, is_complete}
use Rattle.upload_rules.specs.States.{transcoder_with, state_with}
use Rattle.upload_rules.proofs.Transcoders.{reads}
use Rattle.upload_rules.proofs.new_text.NewText.after.Goals as goal

pub returns-in-Some-of-clause-holds : goal.returns-in-Some-of-clause-holds
unfolding state_with
returns-in-Some-of-clause-holds c x n u represents ok valid =
    let still : is_complete u ≡ false =
    rw (sym represents.declared, sym represents.accepted, sym c.is_length.ensures) c.if-is_length.false in
    let k = c.in-Some.ensures.only (transcoder_with x u [] (is_complete u)) valid.valid (sym represents.state) in
    let is : c.in-Some.transcoder ≡ transcoder_state (transcoder_with x u [] (is_complete u)) = cc in
    let encodable : (text_with x u [] false).fault ≡ None =
    ap (λ b. (text_with x u [] b).fault) (sym still) ∙ ok in (
      reads x u [] c.in-Some-of.transcoder encodable (c.in-Some-of.ensures ∙ is
          ∙ ap (λ b. transcoder_state (transcoder_with x u [] b)) still),
      ap (λ l. (text_with x u [] false).bytes ++ l) c.new.ensures.items ∙ append-nil (text_with x u [] false).bytes,
    )

-- what is past its end is complete
pub returns-in-None-clause-holds : goal.returns-in-None-clause-holds
unfolding state_with
returns-in-None-clause-holds c x n u represents ok valid =
    let k = c.in-Some.ensures.only (transcoder_with x u [] (is_complete u)) valid.valid (sym represents.state) in
    let is : c.in-Some.transcoder ≡ transcoder_state (transcoder_with x u [] (is_complete u)) = cc in
    let over : is_phase_over (transcoder_with x u [] (is_complete u)).phase ≡ true =
    subst (λ (s : TranscoderState). is_done s ≡ true) is c.in-None.ensures in
    elim (cases_Bool (is_complete u)) [
      | inl whole ↦ whole
      | inr still ↦ let more = valid.takes_more still in absurd cc
    ]
