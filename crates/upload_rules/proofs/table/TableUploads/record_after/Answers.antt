use Rattle.std.proofs.Common.{ap, option_copied}
use Rattle.upload_rules.proofs.Lookups.{following, none_following}
use Rattle.upload_rules.proofs.table.TableUploads.record_after.Goals as goal

pub returns-in_err-get : goal.returns-in_err-get
returns-in_err-get c = λ sure w represents.
    let place = c.places_to-place.result in
    none_following c.args.self.now w represents c.args.number place (option_copied c.from_residual.result)
    ((rw c.deref.ensures.value at c.places_to-place.ensures.divided) represents.rising)
    (rw c.deref-2.ensures.value at c.in_err-get.ensures.lookup.3)
    (ap option_copied c.from_residual.ensures)

pub returns : goal.returns
returns c = λ sure w represents.
    let place = c.places_to-place.result in
    let s = c.in_ok-get.field-0.now in
    following c.args.self.now w represents c.args.number place s
    ((rw c.deref.ensures.value at c.places_to-place.ensures.divided) represents.rising)
    (rw c.deref-2.ensures.value at c.in_ok-get.ensures.lookup.3.0)
    (rw c.deref-2.ensures.value at c.in_ok-get.ensures.lookup.1)
