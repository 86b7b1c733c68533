use Rattle.std.proofs.Common.{◌∙◌, sym}
use Rattle.std.proofs.lemmas.Bool.{eqb-true}
use Rattle.std.proofs.lemmas.Simd.{leading_from_mask_l}
use Rattle.enc_model.specs.Index.{within}
use Rattle.enc_unicode.proofs.Scalars.{on_true_from}
use Rattle.enc_unicode.proofs.runs.has_none.Goals as goal

pub returns : goal.returns
returns c = on_true_from _ _ (λ yes.
    leading_from_mask_l (within c.args.lowest c.args.highest) c.args.units
    (sym c.mask_within.ensures ∙ eqb-true _ _ yes) ∙ c.fits-units.0)
