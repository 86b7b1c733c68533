use Rattle.std.proofs.Common.{ℕ, ◌∷◌, [], ◌∙◌, ap, sym, subst}
use Rattle.enc_feed.specs.Batches.{BatchTook}
use Rattle.enc_feed.specs.BatchLaws.{batch_sink}
use Rattle.enc_model.specs.Stream.{DecoderRun, steps}
use Rattle.enc_model.specs.Utf8.{Utf8, utf8, utf8_start}
use Rattle.std.proofs.Common.{false, take}
use Rattle.enc_unicode.proofs.CutChars.{unfinished_cut}
use Rattle.enc_unicode.proofs.utf8.Utf8State.decode_unfinished.Goals as goal

pub returns-clause-text : goal.returns-clause-text
returns-clause-text c =
    let rest = c.args.rest.now in
    let n = c.decode_cuts.result in
    let cut = unfinished_cut c.args.self.now rest n c.requires.needed c.decode_cuts.ensures.some.0 c.requires.some
    (sym c.goes_on.ensures ∙ c.if-goes_on.false) in
    subst (λ (r : DecoderRun Utf8). BatchTook c.args.batch.now r.text c.decode_cuts.new.batch) (sym cut)
    ((batch_sink {E = ℕ}).both c.args.batch.now c.push.new.self c.decode_cuts.new.batch (0xFFFD ∷ [])
    (steps utf8 false utf8_start (take n rest)).text c.push.ensures c.decode_cuts.ensures.text)

pub returns-clause-state : goal.returns-clause-state
returns-clause-state c =
    let cut = unfinished_cut c.args.self.now c.args.rest.now c.decode_cuts.result c.requires.needed
    c.decode_cuts.ensures.some.0 c.requires.some (sym c.goes_on.ensures ∙ c.if-goes_on.false) in
    c.decode_cuts.ensures.state ∙ sym (ap (λ (r : DecoderRun Utf8). r.state) cut)
