use Rattle.std.proofs.Common.{◌∙◌, ◌++◌, Err, List, ℕ, ap, subst, sym, true}
use Rattle.std.proofs.lemmas.Result.{err_from_is_err_and}
use Rattle.std.specs.Str.{IsUtf8}
use Rattle.enc_model.specs.Indexes.{tables}
use Rattle.enc_model.specs.Transcode.{added_end, so_far}
use Rattle.gateway_labels.proofs.Told.{end_text, for_memory, no_end_fault, not_done}
use Rattle.gateway_labels.proofs.Trying.{measured_open, measured_whole}
use Rattle.gateway_labels.proofs.trial.Trial.into_measure.Goals as goal

pub returns-then-not-is_whole-clause-known : goal.returns-then-not-is_whole-clause-known
returns-then-not-is_whole-clause-known c input is =
    measured_open (tables c.args.set.now) c.args.self input c.args.is_whole c.if-not-is_whole.true is

pub returns-clause-known : goal.returns-clause-known
returns-clause-known c input is =
    let t = tables c.args.set.now in
    let s = c.args.self.transcoder.transcoder in
    let end = c.in_ok-finish.ensures in
    measured_whole t c.args.self input c.deref.result.now c.add.new.self c.args.is_whole c.if-not-is_whole.false is
    end.no_fault
    (c.deref.ensures.value ∙ end.added ∙ ap (λ (x : List ℕ). x ++ (added_end t s).bytes) c.clear.ensures.items)
    (c.in_ok-add.ensures.known (so_far t s input).bytes is.measured)

pub returns-in_err-finish-clause-told : goal.returns-in_err-finish-clause-told
returns-in_err-finish-clause-told c input valid bytes is =
    let t = tables c.args.set.now in
    let s = c.args.self.transcoder in
    let e = c.in_err-finish.field-0.0 in
    let err = err_from_is_err_and c.from_residual.result c.from_residual.ensures.1 in
    let on = not_done t s input is.going is.at in
    rw err.1 (err.2 ∙ for_memory e (added_end t s.transcoder) _ _ s _ c.in_err-finish.ensures.refused
    (no_end_fault t s.transcoder input is.to (c.text_ends.ensures.fault t s.transcoder input is.at)
    c.utf8_at_every_moment.ensures.fault)
    (λ spent. let over = c.in_err-finish.ensures.spent.0 (ap (λ f. Err f) spent) in absurd (cc)))

pub returns-in_err-add-clause-told : goal.returns-in_err-add-clause-told
returns-in_err-add-clause-told c input valid bytes is =
    let t = tables c.args.set.now in
    let s = c.args.self.transcoder.transcoder in
    let err = err_from_is_err_and c.from_residual-in_err-add.result c.from_residual-in_err-add.ensures.1 in
    let code : IsUtf8 (added_end t s).bytes =
    end_text t s input is.to is.measured.utf8 (c.text_ends.ensures.text t s input is.at)
    (λ from mode. c.utf8_at_every_moment.ensures.utf8 c.args.set.now from mode input true valid bytes) in
    rw err.1 (err.2 ∙ c.in_err-add.ensures.told
    (subst (λ (x : List ℕ). IsUtf8 x)
    (sym (c.deref.ensures.value ∙ c.in_ok-finish.ensures.added
    ∙ ap (λ (x : List ℕ). x ++ (added_end t s).bytes) c.clear.ensures.items)) code))
