use Rattle.std.proofs.Common.{true, false, Some, ap, refl, sym, subst, ◌∙◌}
use Rattle.std.proofs.lemmas.Result.{err_from_is_err_and}
use Rattle.common.specs.declared.stop.Stop.TheVariants.{NoMemory}
use Rattle.spool_disk.specs.Views.{Lasts}
use Rattle.spool_catalog.specs.declared.error.OpenFault.TheVariants.{Stop}
use Rattle.spool_load.proofs.ReadBys.{by_same}
use Rattle.spool_image.specs.Spool.{SpoolHasView, disk_of}
use Rattle.spool_image.specs.LeftOnly.{AllShow, LeftOrShows}
use Rattle.spool_image.specs.Opening.{ReadsSame, Unwritten}
use Rattle.spool_image.proofs.Opening.{opened_exactly, opened_reads, refused_exactly, view_more}
use Rattle.gateway_engine.proofs.OnDisk.{refused_as, view_room}
use Rattle.gateway_engine.proofs.spools.Gateway+Spool+D.open.Goals as goal

pub returns-in-Ok-clause-opened : goal.returns-in-Ok-clause-opened
returns-in-Ok-clause-opened g c n m is = c.in-Ok.ensures.ok true m (Some n) (c.in_ok-spool.ensures.represents n m is)

pub returns-in-Ok-clause-represents_view : goal.returns-in-Ok-clause-represents_view
returns-in-Ok-clause-represents_view g c v m shows has_view =
    c.in-Ok.ensures.ok false m (Some v.blocks) (c.in_ok-spool.ensures.represents_view v m shows
    (subst (λ s. SpoolHasView s v) c.in-Ok.ensures.same has_view))

pub returns-in-Ok-clause-view : goal.returns-in-Ok-clause-view
returns-in-Ok-clause-view g c =
    let at = c.in_ok-spool.ensures.view in
    (at.0, at.1, subst (λ s. SpoolHasView s at.0) (sym c.in-Ok.ensures.same) at.2, at.3)

pub returns-in-Ok-clause-shows : goal.returns-in-Ok-clause-shows
returns-in-Ok-clause-shows g c n m is =
    subst (λ s. AllShow g.D.Disk (disk_of s) n m) (sym c.in-Ok.ensures.same) (c.in_ok-spool.ensures.shows n m is)

pub returns-in-Ok-clause-lasts : goal.returns-in-Ok-clause-lasts
returns-in-Ok-clause-lasts g c n m is =
    subst (λ s. Lasts g.D.Disk c.args.disk (disk_of s) (LeftOrShows g.D.Disk c.args.disk n m))
    (sym c.in-Ok.ensures.same)
    (c.in_ok-spool.ensures.lasts n m is)

pub returns-in-Err-clause-lasts : goal.returns-in-Err-clause-lasts
returns-in-Err-clause-lasts g c n m is =
    subst (λ d. Lasts g.D.Disk c.args.disk d (LeftOrShows g.D.Disk c.args.disk n m)) (sym c.into_disk.ensures.same)
    (subst (λ s. Lasts g.D.Disk c.args.disk (disk_of s) (LeftOrShows g.D.Disk c.args.disk n m))
    (sym c.in-Err.ensures.back)
    (c.in_ok-spool.ensures.lasts n m is))

pub returns-in_err-spool-clause-opened : goal.returns-in_err-spool-clause-opened
returns-in_err-spool-clause-opened g c n m is =
    let p = err_from_is_err_and c.from_residual.result c.from_residual.ensures.1 in
    let answer_is = c.in_err-spool.ensures.opened is.honest is.shows.view is.shows.shows.valid is.shows.is
    (view_room g.D.Disk c.args.disk n m is) in
    rw (p.1, p.2) (refused_as _ _ _ answer_is)

pub returns-in_err-spool-clause-lasts : goal.returns-in_err-spool-clause-lasts
returns-in_err-spool-clause-lasts g c n m is =
    let p = err_from_is_err_and c.from_residual.result c.from_residual.ensures.1 in
    rw (p.1, p.2) (c.in_err-spool.ensures.lasts n m is)

pub returns-in-Ok-clause-exact : goal.returns-in-Ok-clause-exact
returns-in-Ok-clause-exact g c honest =
    opened_exactly _ (g.D.Disk.current c.args.disk) _ (opened_reads _ (c.in_ok-spool.ensures.valid honest))

pub returns-in-Err-clause-exact : goal.returns-in-Err-clause-exact
returns-in-Err-clause-exact g c honest = refused_exactly _ (g.D.Disk.current c.args.disk) _ (Stop NoMemory) tt

pub returns-in_err-spool-clause-exact : goal.returns-in_err-spool-clause-exact
returns-in_err-spool-clause-exact g c honest =
    let p = err_from_is_err_and c.from_residual.result c.from_residual.ensures.1 in
    rw (p.1, p.2) (refused_exactly _ (g.D.Disk.current c.args.disk) _ _ (c.in_err-spool.ensures.refused honest))

pub returns-in-Ok-clause-given : goal.returns-in-Ok-clause-given
returns-in-Ok-clause-given g c =
    let same = c.in-Ok.ensures.same in
    by_same c.in_ok-spool.ensures.given (ap (λ s. g.D.Disk.reads (disk_of s)) same)
    (λ before after is. record {
      exact = opened_exactly _ before after is.memory;
      memory = view_more (λ v has_view. subst (λ s. SpoolHasView s v) (sym same) has_view) is.memory;
      opened = λ v valid encodes. subst (λ s. SpoolHasView s v) (sym same) (is.opened v valid encodes);
    })

pub returns-in-Err-clause-given : goal.returns-in-Err-clause-given
returns-in-Err-clause-given g c =
    by_same c.in_ok-spool.ensures.given
    (ap g.D.Disk.reads (c.into_disk.ensures.same ∙ ap disk_of c.in-Err.ensures.back))
    (λ before after is. record {
      exact = refused_exactly _ before after (Stop NoMemory) tt;
      memory = tt;
      opened = λ v valid encodes. tt;
    })

pub returns-in_err-spool-clause-given : goal.returns-in_err-spool-clause-given
returns-in_err-spool-clause-given g c =
    let p = err_from_is_err_and c.from_residual.result c.from_residual.ensures.1 in
    rw (p.1, p.2) (by_same c.in_err-spool.ensures.given refl (λ before after is. record {
      exact = is.exact;
      memory = tt;
      opened = λ v valid encodes. refused_as _ _ _ (is.opened v valid encodes);
    }))

pub returns-in-Ok-clause-unwritten : goal.returns-in-Ok-clause-unwritten
returns-in-Ok-clause-unwritten g c honest =
    subst (λ s. Unwritten g.D.Disk c.args.disk (disk_of s)) (sym c.in-Ok.ensures.same)
    (c.in_ok-spool.ensures.unwritten honest)

pub returns-in-Ok-clause-same : goal.returns-in-Ok-clause-same
returns-in-Ok-clause-same g c honest =
    subst (λ s. ReadsSame g.D.Disk c.args.disk (disk_of s) ⊥) (sym c.in-Ok.ensures.same)
    (c.in_ok-spool.ensures.same honest)

pub returns-in_err-spool-clause-same : goal.returns-in_err-spool-clause-same
returns-in_err-spool-clause-same g c honest =
    let p = err_from_is_err_and c.from_residual.result c.from_residual.ensures.1 in
    rw (p.1, p.2) (c.in_err-spool.ensures.same honest)
