use Rattle.std.proofs.Common.{◌≡◌, ◌∙◌, inl, inr, refl, subst, Some, None}
use Rattle.gateway_outside.specs.Held.{leaves_put}
use Rattle.gateway_outside.specs.SpoolFiles.{with_disk}
use Rattle.gateway_export.proofs.command.export_in.Goals as goal

pub returns-in-Ok : goal.returns-in-Ok
returns-in-Ok g c =
    let path = c.args.folder.now in
    let left = c.export_into-exported.new.found in
    let have = g.P.Places.holds c.leave.new.self in
    record {
      exports = inl (record {
        found = c.in-Ok.found;
        left = left;
        search = c.leave.ensures.unnoted ∙ c.in-Ok.ensures.noted;
        kept = λ there had.
            let found = c.in-Ok.ensures.found there had in
            let put = leaves_put have there path None (λ x. x ≡ left) left (c.leave.ensures.left _ found.1) refl in
            (found.0, subst (λ x. have (with_disk there path (Some x))) put.is put.held);
        exports = c.export_into-exported.ensures.exports;
        tells = c.export_into-exported.ensures.tells;
      });
    }

pub returns-in-Err : goal.returns-in-Err
returns-in-Err g c = record {
  exports = inr (record {
    kind = _;
    search = c.in-Err.ensures.missed;
    answer = c.not_found.ensures;
    untouched = (refl, refl);
    kept = λ there had. c.in-Err.ensures.failed there had;
  });
}
