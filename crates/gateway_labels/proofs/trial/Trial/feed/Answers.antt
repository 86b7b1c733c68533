use Rattle.std.proofs.Common.{◌∙◌, ◌++◌, Err, List, ℕ, ap, false, subst, sym}
use Rattle.std.proofs.lemmas.Result.{err_from_is_err_and}
use Rattle.std.specs.Str.{IsUtf8}
use Rattle.enc_model.specs.Indexes.{tables}
use Rattle.enc_model.specs.Transcode.{added, so_far}
use Rattle.enc_stream.specs.TranscoderState.{TranscoderState}
use Rattle.gateway_labels.proofs.Told.{added_text, bytes_more, for_memory, no_fault, not_done}
use Rattle.gateway_labels.proofs.Trying.{measured_more}
use Rattle.gateway_labels.proofs.trial.Trial.feed.Goals as goal

pub returns-clause-read : goal.returns-clause-read
returns-clause-read c input is =
    let t = tables c.args.set.now in
    let s = c.args.self.now.transcoder in
    let fed = c.in_ok-feed.ensures in
    record {
      going = ap (λ (x : TranscoderState). x.spent) fed.next;
      to = ap (λ (x : TranscoderState). x.transcoder.to) fed.next ∙ is.to;
      mode = ap (λ (x : TranscoderState). x.transcoder.mode) fed.next ∙ is.mode;
      at = (fed.text input is.at).0;
      measured =
          measured_more t s c.feed.new.self c.add.new.self input c.args.piece.now c.deref.result.now is.at fed.next
          (c.deref.ensures.value ∙ fed.added
          ∙ ap (λ (x : List ℕ). x ++ (added t s.transcoder c.args.piece.now).bytes) c.clear.ensures.items)
          (c.in_ok-add.ensures.known (so_far t s.transcoder input).bytes is.measured);
    }

pub returns-in_err-feed-clause-told : goal.returns-in_err-feed-clause-told
returns-in_err-feed-clause-told c input valid bytes is =
    let t = tables c.args.set.now in
    let s = c.args.self.now.transcoder in
    let e = c.in_err-feed.field-0.0 in
    let err = err_from_is_err_and c.from_residual.result c.from_residual.ensures.1 in
    let on = not_done t s input is.going is.at in
    rw err.1 (err.2 ∙ for_memory e (added t s.transcoder c.args.piece.now) _ _ s c.feed.new.self
    c.in_err-feed.ensures.refused
    (no_fault t s.transcoder input c.args.piece.now is.to is.at c.utf8_at_every_moment.ensures.fault)
    (λ spent. let over = c.in_err-feed.ensures.spent.0 (ap (λ f. Err f) spent) in absurd (cc)))

pub returns-in_err-add-clause-told : goal.returns-in_err-add-clause-told
returns-in_err-add-clause-told c input valid bytes is =
    let t = tables c.args.set.now in
    let s = c.args.self.now.transcoder in
    let piece = c.args.piece.now in
    let err = err_from_is_err_and c.from_residual-in_err-add.result c.from_residual-in_err-add.ensures.1 in
    let code : IsUtf8 (added t s.transcoder piece).bytes =
    added_text t s.transcoder input piece is.to is.at is.measured.utf8
    (λ from mode. c.utf8_at_every_moment.ensures.utf8 c.args.set.now from mode (input ++ piece) false valid
    (bytes_more input piece bytes c.type_inv.piece)) in
    rw err.1 (err.2 ∙ c.in_err-add.ensures.told
    (subst (λ (x : List ℕ). IsUtf8 x)
    (sym (c.deref.ensures.value ∙ c.in_ok-feed.ensures.added
    ∙ ap (λ (x : List ℕ). x ++ (added t s.transcoder piece).bytes) c.clear.ensures.items)) code))
