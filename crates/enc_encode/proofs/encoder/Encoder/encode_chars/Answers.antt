use Rattle.std.proofs.Common.{◌≡◌, ◌∙◌, ap, [], Ok, Err}
use Rattle.std.proofs.lemmas.Result.{err_from_is_err_and}
use Rattle.std.specs.Str.{chars}
use Rattle.enc_model.specs.Indexes.{tables}
use Rattle.enc_encode.specs.State.{EncoderState, shift_of, code_from}
use Rattle.enc_encode.proofs.Prefixes.{prefix_none, prefix_then, prefix_error, prefix_all, left_text, coded_held}
use Rattle.enc_encode.proofs.Helds.{flushed, unflushed}
use Rattle.enc_encode.proofs.RunPrefixes.{stays_run}
use Rattle.enc_encode.proofs.encoder.Encoder.encode_chars.Goals as goal

pub loop-rest-init : goal.loop-rest-init
loop-rest-init g c = (
  c.utf8.run,
  prefix_none (tables c.args.set.now) c.args.self.now c.args.run.now c.self.inside.shift c.args.out.now
      c.new-held.result
      (ap (λ (e : EncoderState). e.shift) c.self.view_is) c.new-held.ensures,
)

pub returns-in_err-next : goal.returns-in_err-next
returns-in_err-next g c =
    let p = err_from_is_err_and c.from_residual.result c.from_residual.ensures.1 in
    let t = tables c.args.set.now in
    let e = c.args.self.now in
    let run = c.args.run.now in
    let d = c.in_err-next.field-0.0 in
    let stop = c.in_err-next.ensures.err in
    let new = c.hold_prefix.new in
    rw (p.1, p.2) (prefix_error t e run stop.0 c.args.out.now new.out new.held d
    (prefix_then t e run c.loop-rest.rest.now stop.0 c.args.out.now [] c.loop-rest.out c.loop-rest.held new.out new.held
    c.loop-rest.shift (Err d) c.loop-rest.invariant.1 stop.1))

pub hold_prefix-requires-clause-singles : goal.hold_prefix-requires-clause-singles
hold_prefix-requires-clause-singles g c =
    rw (c.encoding_of-to.ensures ∙ ap (λ (e : EncoderState). e.to) c.self.view_is) c.requires.singles

pub push_run-rest-requires-clause-singles : goal.push_run-rest-requires-clause-singles
push_run-rest-requires-clause-singles g c =
    rw (c.encoding_of-to.ensures ∙ ap (λ (e : EncoderState). e.to) c.self.view_is) c.requires.singles

pub loop-rest-preserved : goal.loop-rest-preserved
loop-rest-preserved g c =
    let t = tables c.args.set.now in
    let e = c.args.self.now in
    let run = c.args.run.now in
    let old = c.args.out.now in
    let rest = c.loop-rest.rest.now in
    let after = c.in_ok-next.after.now in
    let next = c.in_ok-next.next in
    let more = c.in_ok-next.ensures.ok in
    let new = c.hold_prefix.new in
    let left = c.push_run-rest.result.now in
    let still_held = c.push_run-rest.new.self in
    let runs = c.push_run-rest.ensures in
    let text = left_text rest more.prefix after c.loop-rest.invariant.0 more.own more.parts in
    let by_prefix = prefix_then t e run rest after old [] c.loop-rest.out c.loop-rest.held new.out new.held
    c.loop-rest.shift (Ok next) c.loop-rest.invariant.1 more in
    let same : c.encoding_of-to.result ≡ e.to =
    c.encoding_of-to.ensures ∙ ap (λ (z : EncoderState). z.to) c.self.view_is in
    let coded = stays_run t e.to e.mode (shift_of next) after left new.held still_held (rw same at runs) in
    let by_run = coded_held t e after left next new.out new.held still_held coded in (
      left_text after runs.prefix left text runs.own runs.parts,
      prefix_then t e run after left old [] new.out new.held new.out still_held next (Ok next) by_prefix by_run,
    )

pub returns-in_err-flush : goal.returns-in_err-flush
returns-in_err-flush g c =
    let t = tables c.args.set.now in
    let e = c.args.self.now in
    let run = c.args.run.now in
    let still_held = prefix_all t e run c.loop-rest.rest.now c.args.out.now c.loop-rest.out c.loop-rest.held
    c.loop-rest.shift
    c.loop-rest.invariant.1 c.loop-rest-test.ensures in
    let p = err_from_is_err_and c.from_residual-in_err-flush.result c.from_residual-in_err-flush.ensures.1 in
    rw (p.1, p.2) (unflushed (code_from t e (chars run)) c.args.out.now c.loop-rest.out c.flush.new.out c.loop-rest.held
    c.loop-rest.shift still_held c.in_err-flush.ensures.err)

pub returns : goal.returns
returns g c =
    let t = tables c.args.set.now in
    let e = c.args.self.now in
    let run = c.args.run.now in
    let still_held = prefix_all t e run c.loop-rest.rest.now c.args.out.now c.loop-rest.out c.loop-rest.held
    c.loop-rest.shift
    c.loop-rest.invariant.1 c.loop-rest-test.ensures in
    flushed (code_from t e (chars run)) c.args.out.now c.loop-rest.out c.flush.new.out c.loop-rest.held
    c.loop-rest.shift still_held c.in_ok-flush.ensures.ok.0
