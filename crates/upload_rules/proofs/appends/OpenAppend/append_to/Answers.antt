use Rattle.std.proofs.Common.{◌≡◌, ◌++◌, ◌∙◌, ap, refl, sym, arith}
use Rattle.std.proofs.lemmas.Result.{err_from_is_err_and}
use Rattle.upload_rules.specs.Lengths.{is_length}
use Rattle.upload_rules.specs.World.{reached}
use Rattle.upload_rules.specs.Store.{with_length}
use Rattle.upload_rules.proofs.Commits.{not_put, put_there, reaches, holds_with_length, complete_patched}
use Rattle.upload_rules.proofs.appends.OpenAppend.append_to.Goals as goal

pub returns-in_err-state-clause-put : goal.returns-in_err-state-clause-put
returns-in_err-state-clause-put c = λ next p u represents since open_still length_is slot_is.
    let x = c.args.indexes.now in
    let count : c.saturating_add-accepted.result ≡ reached p =
    omega (
      arith,
      c.saturating_add-accepted.ensures,
      represents.came,
      represents.offset,
      reaches x next p c.args.self
          represents,
    ) in
    let e = err_from_is_err_and c.from_residual.result c.from_residual.ensures.1 in
    rw (sym count, sym c.is_length.ensures, since.1, e.1, e.2)
    (not_put x next p c.args.self represents since.0 c.args.slot.now (rw since.1 at slot_is) c.in_err-state.field-0.0
    c.is_length.result
    (c.in_err-state.ensures.ended (with_length p.began since.0) p.body
    (holds_with_length x p.began since.0 p.body c.args.self.text represents.text) (rw since.1 at open_still)))

pub returns-in-Ok-clause-put : goal.returns-in-Ok-clause-put
returns-in-Ok-clause-put c = λ next p u represents since open_still length_is slot_is.
    let x = c.args.indexes.now in
    let count : c.saturating_add-accepted.result ≡ reached p =
    omega (
      arith,
      c.saturating_add-accepted.ensures,
      represents.came,
      represents.offset,
      reaches x next p c.args.self
          represents,
    ) in
    let v = with_length p.began since.0 in
    let known = rw since.1 at length_is in
    let still = rw since.1 at open_still in
    let done : c.is_length.result ≡ is_length c.args.declared (reached p) = rw count at c.is_length.ensures in
    rw (sym done, since.1) (put_there x next p c.args.self represents since.0 c.args.slot.now (rw since.1 at slot_is)
    c.saturating_add-accepted.result c.args.declared c.is_length.result c.in_ok-state.state c.in_ok-state.text.items
    c.grow.new.self still count known (rw (done, known, complete_patched v) refl)
    (c.in_ok-state.ensures.ended v p.body (holds_with_length x p.began since.0 p.body c.args.self.text represents.text)
    still)
    (c.in-Ok.ensures.text ∙ ap (λ t. c.args.slot.now.text.items ++ t) c.deref.ensures.value) c.in-Ok.ensures.record)
