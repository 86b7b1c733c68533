use Rattle.std.proofs.Common.{ap, sym, ◌∙◌}
use Rattle.enc_model.specs.declared.Place.TheVariants.{In}
use Rattle.enc_legacy.proofs.iso2022.Iso2022State.read_run.Goals as goal

pub read_ascii-requires-clause-place : goal.read_ascii-requires-clause-place
read_ascii-requires-clause-place c =
    let set = rw c.in-In-Ascii.is at c.in-In-Ascii.field-0-is in
    ap (λ s. s.place) (sym c.self.view_is) ∙ c.in-In-Ascii.is ∙ ap In set

pub read_pairs-requires-clause-place : goal.read_pairs-requires-clause-place
read_pairs-requires-clause-place c =
    let set = rw c.in-In-Lead.is at c.in-In-Lead.field-0-is in
    ap (λ s. s.place) (sym c.self.view_is) ∙ c.in-In-Lead.is ∙ ap In set
