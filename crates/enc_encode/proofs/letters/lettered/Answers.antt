use Rattle.std.proofs.Common.{◌≤◌, ◌<◌, refl, subst, sym}
use Rattle.std.proofs.lemmas.Simd.{Each1-from_get_or}
use Rattle.enc_encode.proofs.Lanes.{bytes_long, few_below, letter_at}
use Rattle.enc_encode.proofs.letters.lettered.Goals as goal

pub returns-clause-few : goal.returns-clause-few
returns-clause-few c =
    subst (λ n. n ≤ 16) (sym c.count_below.ensures) (few_below c.args.lanes.now _ c.args.letters.low
    c.args.letters.count c.told-lanes (rw c.codes.ensures refl))

pub returns-clause-long : goal.returns-clause-long
returns-clause-long c =
    bytes_long c.args.lanes.now _ c.args.letters.low c.args.letters.count c.told-lanes (rw c.codes.ensures refl)
    c.bytes_at.result c.args.letters.byte c.bytes_at.ensures

pub returns-clause-letters : goal.returns-clause-letters
returns-clause-letters c k before =
    letter_at c.args.lanes.now _ c.args.letters.low c.args.letters.count c.told-lanes (rw c.codes.ensures refl)
    c.bytes_at.result c.args.letters.byte k
    (Each1-from_get_or (λ x. x < 256) c.args.lanes.now 0 (λ i inside. c.fits-lanes i)) c.requires
    (subst (λ n. k < n) c.count_below.ensures before) c.bytes_at.ensures
