use Rattle.std.proofs.Common.{ap, refl, sym}
use Rattle.spool_kept.specs.Drafting.{list_in, lists_at}
use Rattle.spool_kept.proofs.drafts.Drafted.{dropped_out, drops, gives_nothing, reserves_only}
use Rattle.spool_kept.proofs.drafts.OfUploads.{fits_out}
use Rattle.spool_kept.proofs.drafting.drop_open.Goals as goal

pub returns-in-Some-clause-fits : goal.returns-in-Some-clause-fits
returns-in-Some-clause-fits g c = fits_out c.args.number c.catalog.view_is c.in-Some.ensures.taken c.taken.ensures.after
    c.give_back.ensures c.requires.fits

pub returns-in-Some-clause-represents : goal.returns-in-Some-clause-represents
returns-in-Some-clause-represents g c sure disk w =
    dropped_out c.args.number c.catalog.view_is c.in-Some.ensures.taken c.taken.ensures.after c.give_back.ensures

pub returns-in_default-clause-represents : goal.returns-in_default-clause-represents
returns-in_default-clause-represents g c sure disk w represents =
    let h = c.args.catalog.now in
    let before = c.args.drafts.now.items in
    drops c.args.number (reserves_only h h h refl refl refl) c.taken.ensures.after
    (gives_nothing h.blocks (lists_at before c.args.number) (ap list_in (sym c.in_default.ensures.taken))) represents
