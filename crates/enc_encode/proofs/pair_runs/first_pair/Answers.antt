use Rattle.std.proofs.Common.{◌≡◌, ◌+◌, ◌*◌, arith}
use Rattle.enc_model.specs.Encode.{encoder}
use Rattle.enc_encode.specs.Runs.{Stays}
use Rattle.enc_encode.specs.State.{shift_of}
use Rattle.enc_encode.proofs.Threes.{first_given}
use Rattle.enc_encode.proofs.pair_runs.first_pair.Goals as goal

pub returns-in_ok-from_u32-in-12288-to-55295 : goal.returns-in_ok-from_u32-in-12288-to-55295
returns-in_ok-from_u32-in-12288-to-55295 c t own =
    let within = c.in-12288-to-55295 in
    let lead = c.ranges.lead.fits in
    let second = c.ranges.second.fits in
    let third = c.ranges.third.fits in
    let value = c.in_ok-from_u32-in-12288-to-55295.ensures.value in
    let x = c.in_ok-from_u32-in-12288-to-55295.field-0 in
    let code : c.args.lead * 4096 + c.args.second * 64 + c.args.third ≡ x + 925824 =
    omega (arith, value, within, lead, second, third) in
    first_given (Stays (encoder t c.args.to) (shift_of c.args.shift)) c.args.lead c.args.second
    c.args.third x c.pair.result (omega (arith, second)) (omega (arith, third)) code (omega (arith, value, within))
    (omega (arith, value, within)) (c.pair.ensures t own)

pub returns-in_ok-from_u32-in-57344-to-65376 : goal.returns-in_ok-from_u32-in-57344-to-65376
returns-in_ok-from_u32-in-57344-to-65376 c t own =
    let within = c.in-57344-to-65376 in
    let lead = c.ranges.lead.fits in
    let second = c.ranges.second.fits in
    let third = c.ranges.third.fits in
    let value = c.in_ok-from_u32-in-57344-to-65376.ensures.value in
    let x = c.in_ok-from_u32-in-57344-to-65376.field-0 in
    let code : c.args.lead * 4096 + c.args.second * 64 + c.args.third ≡ x + 925824 =
    omega (arith, value, within, lead, second, third) in
    first_given (Stays (encoder t c.args.to) (shift_of c.args.shift)) c.args.lead c.args.second
    c.args.third x c.pair-in-57344-to-65376.result (omega (arith, second)) (omega (arith, third)) code
    (omega (arith, value, within)) (omega (arith, value, within)) (c.pair-in-57344-to-65376.ensures t own)
