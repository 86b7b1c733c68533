use Rattle.std.proofs.Common.{arith, ap, ◌∙◌, subst, take, false}
use Rattle.std.proofs.lemmas.List.{length-take}
use Rattle.enc_feed.specs.Batches.{BatchTook}
use Rattle.enc_model.specs.Indexes.{tables}
use Rattle.enc_model.specs.Japanese.{iso2022}
use Rattle.enc_model.specs.Stream.{steps}
use Rattle.enc_legacy.proofs.Strides.{after_nothing, state_none}
use Rattle.enc_legacy.proofs.iso2022.Iso2022StateStrider.stride.Goals as goal

pub decode_each-requires : goal.decode_each-requires
decode_each-requires c =
    let none = c.if-run-gt0.false in
    let h = iso2022 (tables c.args.indexes.now).jis0208 in
    let few = (after_nothing h c.args.self.now c.args.rest.now c.read_run-run.result c.args.batch.now
    c.read_run-run.new.batch (omega (arith, none)) c.read_run-run.ensures.text).0 in
    let one = length-take 1 c.args.rest.now in
    let room = c.requires.room in
    let some = c.requires.some in
    omega (arith, few, one, room, some)

pub returns-clause-text : goal.returns-clause-text
returns-clause-text c =
    let none = c.if-run-gt0.false in
    let h = iso2022 (tables c.args.indexes.now).jis0208 in
    let same = state_none h c.args.self.now c.read_run-run.new.self c.args.rest.now c.read_run-run.result
    (omega (arith, none)) c.read_run-run.ensures.state in
    (after_nothing h c.args.self.now c.args.rest.now c.read_run-run.result c.args.batch.now
    c.read_run-run.new.batch (omega (arith, none)) c.read_run-run.ensures.text).1 _ _
    (subst (λ s. BatchTook c.read_run-run.new.batch (steps h false s (take 1 c.args.rest.now)).text
    c.decode_each.new.batch) same c.decode_each.ensures.text)

pub returns-clause-state : goal.returns-clause-state
returns-clause-state c =
    let none = c.if-run-gt0.false in
    c.decode_each.ensures.state
    ∙ ap (λ s. (steps (iso2022 (tables c.args.indexes.now).jis0208) false s (take 1 c.args.rest.now)).state)
    (state_none _ _ _ c.args.rest.now _ (omega (arith, none)) c.read_run-run.ensures.state)
