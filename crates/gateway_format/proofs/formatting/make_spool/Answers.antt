use Rattle.std.proofs.Common.{◌∙◌, ◌*◌, None, Some, ap, inl, inr}
use Rattle.spool_journal.specs.declared.TheConstants.{PAGE}
use Rattle.gateway_outside.specs.SpoolFiles.{with_disk}
use Rattle.gateway_outside.specs.Held.{leaves_put, others_again, others_put}
use Rattle.gateway_format.specs.Formatting.{full}
use Rattle.gateway_format.proofs.Reasons.{of_creating, of_formatting}
use Rattle.gateway_format.proofs.formatting.make_spool.Goals as goal

pub returns-in-Err-clause-others : goal.returns-in-Err-clause-others
returns-in-Err-clause-others g c disks held =
    let before = c.in-Err.ensures.failed disks held in
    others_again (g.F.SpoolFiles.holds c.not_made.new.files) disks c.args.path.now before.there
    (c.not_made.ensures.others _ before.held)

pub returns-in-Ok-made-clause-others : goal.returns-in-Ok-made-clause-others
returns-in-Ok-made-clause-others g c disks held =
    others_put (g.F.SpoolFiles.holds c.close.new.self) disks c.args.path.now None (Some c.format_on-made.new.disk)
    (c.close.ensures.closed _ (c.in-Ok.ensures.made disks held).2)

pub returns-in-Err-made-clause-others : goal.returns-in-Err-made-clause-others
returns-in-Err-made-clause-others g c disks held =
    let after = g.F.SpoolFiles.holds c.not_made-in-Err-made.new.files in
    let closed = c.close.ensures.closed _ (c.in-Ok.ensures.made disks held).2 in
    others_again after disks c.args.path.now None
    (others_again after (with_disk disks c.args.path.now None) c.args.path.now (Some c.format_on-made.new.disk)
    (c.not_made-in-Err-made.ensures.others _ closed))

pub returns-in-Err-clause-reasons : goal.returns-in-Err-clause-reasons
returns-in-Err-clause-reasons g c disks overwrite held =
    let holds = g.F.SpoolFiles.holds c.not_made.new.files in elim c.not_made.ensures.told [
      | inl same ↦ rw (same.0, c.not_created.ensures) (of_creating g.F.File.Disk holds disks c.args.path.now
          c.args.blocks overwrite c.in-Err.error)
      | inr no_room ↦ rw no_room full
    ]

pub returns-in-Err-made-clause-reasons : goal.returns-in-Err-made-clause-reasons
returns-in-Err-made-clause-reasons g c disks overwrite held =
    let holds = g.F.SpoolFiles.holds c.not_made-in-Err-made.new.files in
    let made = c.in-Ok.ensures.made disks held in
    let now = c.format_on-made.new.disk in
    let path = c.args.path.now in elim c.not_made-in-Err-made.ensures.told [
      | inl same ↦ rw (same.0, c.on_disk-failure.ensures, c.from.ensures) (of_formatting g.F.File.Disk holds disks path
          c.args.blocks overwrite c.in-Ok.disk now c.in-Err-made.fault c.format_on-made.result c.in-Err-made.is made.1
          c.format_on-made.ensures.size (made.0 ∙ ap (λ k. PAGE * k) c.requires.pages) c.requires.least c.requires.most
          (c.format_on-made.ensures.already made.1) (λ is. c.format_on-made.ensures.same made.1 (rw is tt))
          c.format_on-made.ensures.too_long
          (λ P so. leaves_put holds disks path None P now (rw same.1 (c.close.ensures.closed _ made.2)) so))
      | inr no_room ↦ rw no_room full
    ]
