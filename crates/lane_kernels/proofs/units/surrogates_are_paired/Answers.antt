use Rattle.std.proofs.Common.{◌%◌, ◌*◌, ◌^◌, map, ap, ap₂, sym, ◌∙◌, bit_or}
use Rattle.std.proofs.lemmas.Bool.{eqb-true, eq-eqb}
use Rattle.std.proofs.lemmas.List.{length-map}
use mir.Val.{bool_byte}
use lib.Lanes.{mask_l}
use Rattle.lane_kernels.specs.Units.{is_trail}
use Rattle.lane_kernels.proofs.Pairs.{same_masks, mask_after, after_leads, after_long, paired_from_lanes}
use Rattle.lane_kernels.proofs.Pairs.{lanes_from_paired}
use Rattle.lane_kernels.proofs.units.surrogates_are_paired.Goals as goal

pub returns : goal.returns
returns c =
    let carried = c.args.carried in
    let units = c.args.units in
    let long = c.fits-units.0 in
    let after =
    ap (λ m. m % 2 ^ 32) (ap₂ (λ m b. bit_or (m * 2 % 2 ^ 64) (bool_byte b)) c.mask_within-leads.ensures
    c.is_some.ensures)
    ∙ mask_after carried units long in (
      λ yes. paired_from_lanes carried units long (same_masks (map is_trail units) (after_leads carried units)
          (length-map units is_trail ∙ long ∙ sym (after_long carried units long))
          (sym c.mask_within-trails.ensures ∙ eqb-true _ _ yes ∙ after)),
      λ paired. eq-eqb _ _ (c.mask_within-trails.ensures ∙ ap mask_l (lanes_from_paired carried units long paired)
          ∙ sym after),
    )
