use Rattle.std.proofs.Common.{◌<◌, arith, rules, take, length}
use Rattle.std.proofs.lemmas.List.{length-take}
use Rattle.enc_model.specs.Indexes.{tables}
use Rattle.enc_model.specs.Japanese.{iso2022}
use Rattle.enc_legacy.specs.Iso2022State.{IsIso2022Pair}
use Rattle.enc_legacy.proofs.Strides.{iso_pairs, pairs_none, run_cleared}
use Rattle.enc_legacy.proofs.iso2022.Iso2022State.read_pairs.Goals as goal

pub returns-then-run-eq0-clause-text : goal.returns-then-run-eq0-clause-text
returns-then-run-eq0-clause-text c =
    pairs_none (iso2022 (tables c.args.indexes.now).jis0208) c.args.self.now (IsIso2022Pair c.in-Some.ready.now)
    c.args.rest.now c.args.batch.now c.push_pairs-run.new.self c.push_pairs-run.result c.if-run-eq0.true
    c.push_pairs-run.ensures.took

pub returns : goal.returns
returns c =
    let i = c.self.inside in
    let none = c.if-run-eq0.false in
    let e = c.push_pairs-run.ensures in
    let some : 0 < length (take c.push_pairs-run.result c.args.rest.now) =
    let w = e.within in omega (arith, none, w, length-take c.push_pairs-run.result c.args.rest.now) in
    let rows = c.in-Some.ensures in
    let is = iso_pairs (tables c.args.indexes.now).jis0208 i.output i.flag c.in-Some.ready.now _ e.took.0 rows.few
    rows.codes some e.took.1 in
    let read = run_cleared (tables c.args.indexes.now).jis0208 _ i.place i.output i.flag c.args.self.now _ _
    c.args.batch.now c.push_pairs-run.new.self c.self.view_is c.requires.place is e.took.2 in
    record { within = search rules; text = read.0; state = read.1 }
