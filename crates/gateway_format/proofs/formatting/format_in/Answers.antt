use Rattle.std.proofs.Common.{refl}
use Rattle.gateway_outside.specs.Held.{leaves_again, others_again, others_same}
use Rattle.gateway_format.specs.Formatting.{size}
use Rattle.gateway_format.proofs.Reasons.{in_range, reason_again}
use Rattle.gateway_format.proofs.formatting.format_in.Goals as goal

pub returns-in_default-clause-others : goal.returns-in_default-clause-others
returns-in_default-clause-others g c disks held =
    others_same (g.F.SpoolFiles.holds c.args.files.now) disks c.args.path.now held

pub returns-in-Err-make_spool-clause-untouched : goal.returns-in-Err-make_spool-clause-untouched
returns-in-Err-make_spool-clause-untouched g c disks d held is honest magic =
    let bad = (c.in-Ok.ensures.spool disks d held is honest magic).0 in absurd (cc)

pub returns-in-Err-make_spool-clause-foreign : goal.returns-in-Err-make_spool-clause-foreign
returns-in-Err-make_spool-clause-foreign g c disks d held is honest bytes keeps =
    let bad = (c.in-Ok.ensures.foreign disks d held is honest bytes keeps).0 in absurd (cc)

pub returns-in-Err-make_spool-clause-others : goal.returns-in-Err-make_spool-clause-others
returns-in-Err-make_spool-clause-others g c disks held =
    let before = c.in-Ok.ensures.others disks held in
    others_again (g.F.SpoolFiles.holds c.make_spool.new.files) disks c.args.path.now before.there
    (c.in-Err-make_spool.ensures.others _ before.held)

pub returns-in-Ok-make_spool-clause-foreign : goal.returns-in-Ok-make_spool-clause-foreign
returns-in-Ok-make_spool-clause-foreign g c disks d held is honest bytes keeps =
    let bad = (c.in-Ok.ensures.foreign disks d held is honest bytes keeps).0 in absurd (cc)

pub returns-in-Ok-make_spool-clause-made : goal.returns-in-Ok-make_spool-clause-made
returns-in-Ok-make_spool-clause-made g c disks held =
    let before = c.in-Ok.ensures.others disks held in
    leaves_again (g.F.SpoolFiles.holds c.make_spool.new.files) disks c.args.path.now before.there _ _
    (c.in-Ok-make_spool.ensures.made _ before.held) (λ d shows. shows)

pub returns-in-Ok-make_spool-clause-others : goal.returns-in-Ok-make_spool-clause-others
returns-in-Ok-make_spool-clause-others g c disks held =
    let before = c.in-Ok.ensures.others disks held in
    others_again (g.F.SpoolFiles.holds c.make_spool.new.files) disks c.args.path.now before.there
    (c.in-Ok-make_spool.ensures.others _ before.held)

pub returns-in-Err-make_spool-clause-reasons : goal.returns-in-Err-make_spool-clause-reasons
returns-in-Err-make_spool-clause-reasons g c disks held honest =
    let before = c.in-Ok.ensures.others disks held in
    reason_again g.F.File.Disk (g.F.SpoolFiles.holds c.make_spool.new.files) disks c.args.path.now c.args.blocks
    c.args.overwrite before.there _ (c.in-Err-make_spool.ensures.reasons _ c.args.overwrite before.held)

pub returns-in_default-clause-reasons : goal.returns-in_default-clause-reasons
returns-in_default-clause-reasons g c disks held honest =
    rw c.advised.ensures (size (c.pages_of.ensures.none.0 (rw c.in_default.is refl)))

pub returns-in-Err-clause-reasons : goal.returns-in-Err-clause-reasons
returns-in-Err-clause-reasons g c disks held honest = c.in-Err.ensures.reasons disks c.args.blocks held honest

pub make_spool-requires-clause-least : goal.make_spool-requires-clause-least
make_spool-requires-clause-least g c =
    (in_range c.args.blocks c.in-Some.pages _ c.in-Some.is c.pages_of.ensures.none).0

pub make_spool-requires-clause-most : goal.make_spool-requires-clause-most
make_spool-requires-clause-most g c =
    (in_range c.args.blocks c.in-Some.pages _ c.in-Some.is c.pages_of.ensures.none).1
