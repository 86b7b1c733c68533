use Rattle.std.proofs.Common.{◌≡◌, ◌∙◌, sym, true, subst}
use Rattle.enc_model.specs.Indexes.{offers}
use Rattle.spool_tests.proofs.resumes.Row.make.Goals as goal

pub create-requires-clause-offered : goal.create-requires-clause-offered
create-requires-clause-offered g c = λ sure w represents.
    let same = c.indexes-indexes.ensures sure w represents in
    record {
      from = subst (λ x. offers x c.args.self.now.from ≡ true) same (sym c.offers.ensures ∙ c.if-assert.false);
      to = subst (λ x. offers x c.args.self.now.to ≡ true) same (sym c.offers-2.ensures ∙ c.if-assert-2.false);
    }
