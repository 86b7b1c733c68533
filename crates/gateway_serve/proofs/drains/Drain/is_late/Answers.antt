use Rattle.std.proofs.Common.{◌≤◌, rules}
use Rattle.gateway_serve.specs.Parted.{calls_of}
use Rattle.gateway_serve.specs.Stays.{seconds_from}
use Rattle.gateway_serve.specs.declared.drains.TheConstants.{LONGEST_DRAIN}
use Rattle.gateway_serve.proofs.Drainings.{drains_late}
use Rattle.gateway_serve.proofs.drains.Drain.is_late.Goals as goal

pub returns-in-Some : goal.returns-in-Some
returns-in-Some g c = λ long shut.
    let over : LONGEST_DRAIN ≤ seconds_from c.in-Some.shut c.args.now = search rules in
    drains_late c.args.self.now.shut c.args.self.now.moved c.args.now c.args.self.now.dropped
    (calls_of c.args.self.now.stream) (calls_of c.args.self.now.stream) c.in-Some.shut
    c.in-Some.is over shut
