use Rattle.std.proofs.Common.{◌≡◌, [], Some, Err, refl, subst, ap, sym, ◌∙◌}
use Rattle.upload_rules.specs.Store.{find}
use Rattle.upload_rules.specs.Calls.{dropped}
use Rattle.tus_action.specs.Acts.{fed, fed_patch}
use Rattle.tus_action.specs.Serves.{Feeds}
use Rattle.tus_action.proofs.Answered.{fed_some, fed_patch_some, find_appended, some_items, fed_gone}
use Rattle.tus_action.proofs.bodies.feed.Goals as goal

pub returns-in-Ok-clause-answer : goal.returns-in-Ok-clause-answer
returns-in-Ok-clause-answer g c = λ sure w p represents found holds fits.
    let a = c.in-Ok.ensures.answer sure w p represents found holds fits in
    let d = g.U.Uploads.number_of c.args.patch.draft in
    let piece = c.args.piece.now in
    let some : piece ≡ [] → ⊥ = some_items _ piece c.is_empty.ensures c.if-is_empty.false in
    let patch = fed_patch_some w d p piece some in
    let world = fed_some w d piece some in record {
      number = c.append.ensures.same;
      holds = subst (λ x. g.U.Uploads.holds c.append.new.draft x) patch a.0;
      found = ap (λ x. find d x.patches) (sym world) ∙ (find_appended w d p piece found ∙ ap Some patch);
      shown = subst (λ x. g.U.Uploads.represents c.append.new.self sure x) world a.1;
      reached = refl;
      bare = refl;
      closes = refl;
    }

pub returns-in-Err-clause-answer : goal.returns-in-Err-clause-answer
returns-in-Err-clause-answer g c = λ sure w p represents found holds fits.
    let d = g.U.Uploads.number_of c.args.patch.draft in
    fed_gone g.U.Uploads c.append.new.self c.drop_open.new.self w c.in-Err.stop d _ _ _ _ _
    (c.in-Err.ensures.answer sure w p represents found holds fits) (c.drop_open.ensures.represents sure w)
    c.append.ensures.same
