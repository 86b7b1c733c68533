use Rattle.std.proofs.Common.{◌<◌, ◌+◌, ◌*◌, ◌/◌, ◌%◌, map, sym, ap, ◌∙◌}
use Rattle.std.proofs.lemmas.Simd.{Each1-from_get_or}
use Rattle.lane_kernels.specs.Orders.{is_big}
use Rattle.lane_kernels.specs.Units.{units_of}
use Rattle.lane_kernels.proofs.Made.{high_units}
use Rattle.enc_unicode.proofs.runs.units_in.Goals as goal
use Rattle.enc_unicode.proofs.runs.units_in.Goals.{in-Big, in-Little}

pub returns : goal.returns
returns c =
    let bytes = c.args.bytes.now in
    elim c.match-order.branch [
      | in-Big w ↦
          w.result-is ∙ w.turned_round.ensures
          ∙ ap (map (λ unit. unit % 256 * 256 + unit / 256)) c.low_first-units.ensures
          ∙ high_units bytes (Each1-from_get_or (λ x. x < 256) bytes 0 (λ i inside. c.fits-bytes i))
          ∙ ap (λ order. units_of (is_big order) bytes) (sym w.in-Big.is)
      | in-Little w ↦ w.result-is ∙ c.low_first-units.ensures ∙ ap (λ order. units_of (is_big order) bytes)
          (sym w.in-Little.is)
    ]
