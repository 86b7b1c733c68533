use Rattle.std.proofs.Common.{take, ap, sym, ◌∙◌, arith}
use Rattle.std.proofs.lemmas.List.{take_all}
use Rattle.lane_kernels.specs.Orders.{is_big}
use Rattle.lane_kernels.specs.Units.{units_of, with_carried}
use Rattle.lane_kernels.proofs.units.units_after.Goals as goal
use Rattle.lane_kernels.proofs.units.units_after.Goals.{in-None, in-Some}

pub returns : goal.returns
returns c =
    let big = is_big c.args.order in
    let bytes = c.args.bytes.now in
    elim c.match-odd.branch [
      | in-None w ↦
          w.result-is ∙ w.units_in.ensures ∙ ap (units_of big) (sym (take_all 64 bytes (omega (arith, c.told-bytes))))
          ∙ ap (λ odd. units_of big (take 64 (with_carried odd bytes))) (sym w.in-None.is)
      | in-Some w ↦
          w.result-is ∙ w.units_in-in-Some.ensures ∙ ap (units_of big) w.joined.ensures
          ∙ ap (λ odd. units_of big (take 64 (with_carried odd bytes))) (sym w.in-Some.is)
    ]
