use Rattle.std.proofs.Common.{Some, rules}
use Rattle.upload_rules.specs.Store.{no_uploads}
use Rattle.gateway_outside.specs.Held.{leaves_again, leaves_same, others_put, others_same, there, unread}
use Rattle.gateway_format.proofs.Raised.{show_raised}
use Rattle.gateway_format.proofs.formatting.format_raised_in.Goals as goal

pub returns-then-first-gt-LATEST-clause-others : goal.returns-then-first-gt-LATEST-clause-others
returns-then-first-gt-LATEST-clause-others g c disks held =
    others_same (g.F.SpoolFiles.holds c.args.files.now) disks c.args.path.now held

pub returns-in-Ok-raise_to-clause-made : goal.returns-in-Ok-raise_to-clause-made
returns-in-Ok-raise_to-clause-made g c disks held =
    let path = c.args.path.now in
    let made = c.in-Ok.ensures.made disks held in
    let left = c.in-Ok-raise_to.ensures.raises _ made.disk made.held (there disks path (Some made.disk)) in
    leaves_again (g.F.SpoolFiles.holds c.raise_to.new.files) disks path (Some made.disk) _ _ left (λ d so.
    show_raised g.F.File.Disk made.disk d c.args.blocks c.args.first c.in-Ok-raise_to._next
    (no_uploads c.args.indexes.now) made.is so)

pub returns-in-Ok-raise_to-clause-others : goal.returns-in-Ok-raise_to-clause-others
returns-in-Ok-raise_to-clause-others g c disks held =
    let path = c.args.path.now in
    let made = c.in-Ok.ensures.made disks held in
    let left = c.in-Ok-raise_to.ensures.raises _ made.disk made.held (there disks path (Some made.disk)) in
    others_put (g.F.SpoolFiles.holds c.raise_to.new.files) disks path (Some made.disk) (Some left.disk) left.held

pub returns-in-Err-raise_to-clause-others : goal.returns-in-Err-raise_to-clause-others
returns-in-Err-raise_to-clause-others g c disks held =
    let path = c.args.path.now in
    let made = c.in-Ok.ensures.made disks held in
    let left = c.in-Err-raise_to.ensures.raises _ made.disk made.held (there disks path (Some made.disk)) in
    others_put (g.F.SpoolFiles.holds c.raise_to.new.files) disks path (Some made.disk) (Some left.disk) left.held

pub returns-then-first-gt-LATEST-clause-untouched : goal.returns-then-first-gt-LATEST-clause-untouched
returns-then-first-gt-LATEST-clause-untouched g c disks d held is honest magic = (
  search rules,
  leaves_same (g.F.SpoolFiles.holds c.args.files.now) disks c.args.path.now d _ is held (unread g.F.File.Disk d),
)

pub returns-then-first-gt-LATEST-clause-foreign : goal.returns-then-first-gt-LATEST-clause-foreign
returns-then-first-gt-LATEST-clause-foreign g c disks d held is honest bytes keeps = (
  search rules,
  leaves_same (g.F.SpoolFiles.holds c.args.files.now) disks c.args.path.now d _ is held (unread g.F.File.Disk d),
)

pub returns-in-Ok-raise_to-clause-untouched : goal.returns-in-Ok-raise_to-clause-untouched
returns-in-Ok-raise_to-clause-untouched g c disks d held is honest magic =
    let bad = (c.in-Ok.ensures.untouched disks d held is honest magic).0 in absurd (cc)

pub returns-in-Err-raise_to-clause-untouched : goal.returns-in-Err-raise_to-clause-untouched
returns-in-Err-raise_to-clause-untouched g c disks d held is honest magic =
    let bad = (c.in-Ok.ensures.untouched disks d held is honest magic).0 in absurd (cc)

pub returns-in-Ok-raise_to-clause-foreign : goal.returns-in-Ok-raise_to-clause-foreign
returns-in-Ok-raise_to-clause-foreign g c disks d held is honest bytes keeps =
    let bad = (c.in-Ok.ensures.foreign disks d held is honest bytes keeps).0 in absurd (cc)

pub returns-in-Err-raise_to-clause-foreign : goal.returns-in-Err-raise_to-clause-foreign
returns-in-Err-raise_to-clause-foreign g c disks d held is honest bytes keeps =
    let bad = (c.in-Ok.ensures.foreign disks d held is honest bytes keeps).0 in absurd (cc)
