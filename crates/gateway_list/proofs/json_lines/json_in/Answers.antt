use Rattle.std.proofs.Common.{◌≡◌, ◌⊎◌, inl, inr, refl}
use Rattle.std.specs.Prelude.{IsErrAnd}
use Rattle.gateway_outside.specs.Counted.{counts_none}
use Rattle.gateway_outside.specs.Held.{leaves_as, leaves_more, leaves_same}
use Rattle.gateway_outside.specs.Openings.{StaysShut}
use Rattle.gateway_list.specs.Json.{WritesJson}
use Rattle.gateway_list.specs.Listed.{ReadsTextsIn}
use Rattle.gateway_list.proofs.json_lines.json_in.Goals as goal

pub returns-in-Err-clause-reads : goal.returns-in-Err-clause-reads
returns-in-Err-clause-reads g c disks d held is =
    leaves_same (g.F.SpoolFiles.holds c.open_in.new.files) disks c.args.path.now d _ is
    (c.in-Err.ensures.failed disks held) (inl (record { same = refl; why = c.in-Err.ensures.noted }, refl))

pub returns-in-Err-clause-io : goal.returns-in-Err-clause-io
returns-in-Err-clause-io g c = counts_none _ _ c.in-Err.ensures.never_io

pub returns-clause-reads : goal.returns-clause-reads
returns-clause-reads g c disks d held is =
    let opened = c.in-Ok.ensures.opened disks held in
    let files = g.F.SpoolFiles in
    let path = c.args.path.now in
    let before = g.W.Output.contents c.args.output.now in
    let after = g.W.Output.contents c.json_at.new.output in
    let shut = files.unopened c.args.files.now in
    let shut' = files.unopened c.json_at.new.files in
    let result = c.json_at.result in
    leaves_as (files.holds c.json_at.new.files) disks path c.in-Ok.disk d
    (λ x d'. IsErrAnd result (λ failure. StaysShut shut shut' path x failure d' × (after ≡ before))
    ⊎ ReadsTextsIn g.F.File.Disk x (WritesJson before after) result d') opened.0 is
    (leaves_more (files.holds c.json_at.new.files) disks path _ _ (c.json_at.ensures.reads disks opened.1)
    (λ d' so. inr so))
