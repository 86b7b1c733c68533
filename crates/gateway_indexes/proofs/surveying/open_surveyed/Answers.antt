use Rattle.std.proofs.Common.{refl}
use Rattle.std.proofs.lemmas.Result.{err_from_is_err_and}
use Rattle.spool_load.proofs.ReadBys.{by_same}
use Rattle.spool_image.proofs.Opening.{opened_exactly}
use Rattle.gateway_outside.specs.Refusals.{loads_err}
use Rattle.gateway_indexes.proofs.surveying.open_surveyed.Goals as goal

pub returns-clause-given : goal.returns-clause-given
returns-clause-given g c =
    by_same c.in_ok-spool.ensures.given refl (λ before after is. record {
      exact = opened_exactly _ before after is.memory;
      memory = is.memory;
      opened = is.opened;
    })

pub returns-in_err-spool-clause-given : goal.returns-in_err-spool-clause-given
returns-in_err-spool-clause-given g c =
    let p = err_from_is_err_and c.from_residual.result c.from_residual.ensures.1 in
    rw (p.1, p.2) (by_same c.in_err-spool.ensures.given refl (λ before after is. record {
      exact = is.exact;
      memory = tt;
      opened = λ v valid encodes. loads_err _ _ _ (is.opened v valid encodes);
    }))

pub returns-in_err-spool-clause-lasts : goal.returns-in_err-spool-clause-lasts
returns-in_err-spool-clause-lasts g c n m is =
    let p = err_from_is_err_and c.from_residual.result c.from_residual.ensures.1 in
    rw (p.1, p.2) (c.in_err-spool.ensures.lasts n m is)

pub returns-in_err-spool-clause-same : goal.returns-in_err-spool-clause-same
returns-in_err-spool-clause-same g c honest =
    let p = err_from_is_err_and c.from_residual.result c.from_residual.ensures.1 in
    rw (p.1, p.2) (c.in_err-spool.ensures.same honest)

pub returns-in_err-spool-clause-version : goal.returns-in_err-spool-clause-version
returns-in_err-spool-clause-version g c honest other =
    let p = err_from_is_err_and c.from_residual.result c.from_residual.ensures.1 in
    rw (p.1, p.2) (c.in_err-spool.ensures.version honest other)

pub returns-in_err-spool-clause-damaged : goal.returns-in_err-spool-clause-damaged
returns-in_err-spool-clause-damaged g c honest damaged =
    let p = err_from_is_err_and c.from_residual.result c.from_residual.ensures.1 in
    rw (p.1, p.2) (c.in_err-spool.ensures.damaged honest damaged)
