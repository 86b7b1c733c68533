use Rattle.std.proofs.Common.{◌≡◌, ◌∙◌, sym, true}
use Rattle.gateway_export.proofs.Exported.{as_found, found_tells, of_some, some_length}
use Rattle.gateway_export.proofs.Told.{no_length, told_found}
use Rattle.gateway_export.proofs.outcomes.export_as.Goals as goal

pub returns-in-Some-clause-files : goal.returns-in-Some-clause-files
returns-in-Some-clause-files g c sure w represents files held =
    let there = some_length (files c.args.name.now) c.in-Some.len
    (sym c.in-Some.is ∙ c.in_ok-len.ensures.len files held) in
    let held' = c.in_ok-len.ensures.preserves files held in
    as_found sure (g.F.Folder.holds c.found.new.folder) w.store files c.in_ok-outcome.outcome c.args.number
    c.args.name.now there.0 there.1 (c.in_ok-outcome.ensures.preserves files held')
    (c.in_ok-outcome.ensures.same sure w represents files there.0 held' there.1 there.2)

pub returns-in-Some-clause-taken : goal.returns-in-Some-clause-taken
returns-in-Some-clause-taken g c files held =
    of_some (λ _. g.F.Folder.takes c.args.folder.now c.args.name.now ≡ true) c.in_ok-len.field-0 c.in-Some.len
    c.in-Some.is (c.in_ok-len.ensures.taken files held)

pub returns-in-Some-clause-differs : goal.returns-in-Some-clause-differs
returns-in-Some-clause-differs g c w represents files held =
    let there = some_length (files c.args.name.now) c.in-Some.len
    (sym c.in-Some.is ∙ c.in_ok-len.ensures.len files held) in
    found_tells c.in_ok-outcome.outcome w.store files c.args.number c.args.name.now there.0 there.1
    (c.in_ok-outcome.ensures.same true w represents files there.0 (c.in_ok-len.ensures.preserves files held) there.1
    there.2)

pub returns-in-Some-clause-told : goal.returns-in-Some-clause-told
returns-in-Some-clause-told g c w represents files held =
    let there = some_length (files c.args.name.now) c.in-Some.len
    (sym c.in-Some.is ∙ c.in_ok-len.ensures.len files held) in
    told_found c.in_ok-outcome.outcome w.store files c.args.number c.args.name.now there.0 there.1
    c.in_ok-outcome.ensures.kind
    (c.in_ok-outcome.ensures.same true w represents files there.0 (c.in_ok-len.ensures.preserves files held) there.1
    there.2)
