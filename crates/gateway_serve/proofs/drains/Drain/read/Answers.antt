use Rattle.std.proofs.Common.{◌≡◌, ◌<◌, ◌≤◌, inl, inr, arith, rules}
use Rattle.std.specs.IoError.{error_kind}
use Rattle.std.specs.declared.io.ErrorKind.TheVariants.{WouldBlock, Interrupted}
use Rattle.gateway_serve.specs.Gone.{IsFailure}
use Rattle.gateway_serve.specs.Parted.{calls_of}
use Rattle.gateway_serve.specs.declared.drains.TheConstants.{MOST_DROPPED}
use Rattle.gateway_serve.proofs.Drainings.{drains_much, read_fails, read_flows, read_nothing, read_silent, read_waits}
use Rattle.gateway_serve.proofs.drains.Drain.read.Goals as goal

pub returns-in-Ok-eq0 : goal.returns-in-Ok-eq0
returns-in-Ok-eq0 g c = λ is.
    read_nothing c.args.self.now.shut c.args.self.now.moved c.args.now c.args.self.now.dropped _ _ _
    (rw c.in-Ok-eq0.field-0-test at c.in-Ok-eq0.ensures.calls) c.requires is

pub returns-then-self-lt-MOST_DROPPED : goal.returns-then-self-lt-MOST_DROPPED
returns-then-self-lt-MOST_DROPPED g c = λ is.
    let some : 0 < c.in-Ok.count = omega arith in
    rw c.saturating_add-self.ensures (read_flows c.args.self.now.shut c.args.self.now.moved c.args.now
    c.args.self.now.dropped _ _ c.in-Ok.count _ c.in-Ok.ensures.calls some is)

pub returns-else-self-lt-MOST_DROPPED : goal.returns-else-self-lt-MOST_DROPPED
returns-else-self-lt-MOST_DROPPED g c = λ is.
    let some : 0 < c.in-Ok.count = omega arith in
    let much : MOST_DROPPED ≤ c.saturating_add-self.result = omega arith in
    let now = read_flows c.args.self.now.shut c.args.self.now.moved c.args.now
    c.args.self.now.dropped _ _ c.in-Ok.count _ c.in-Ok.ensures.calls some is in
    drains_much (calls_of c.read.new.self) now.0 c.args.now c.args.now _ (rw c.saturating_add-self.ensures at much)
    now.2

pub returns-in-Interrupted : goal.returns-in-Interrupted
returns-in-Interrupted g c = λ is.
    let kind : error_kind c.in-Err.error ≡ Interrupted = search rules in
    read_waits c.args.self.now.shut c.args.self.now.moved c.args.now c.args.self.now.dropped _ _
    (error_kind c.in-Err.error) c.in-Err.ensures.calls (inr kind) is

pub returns-then-is_silent : goal.returns-then-is_silent
returns-then-is_silent g c = λ is.
    let kind : error_kind c.in-Err.error ≡ WouldBlock = search rules in
    read_silent c.args.self.now.shut c.args.self.now.moved c.args.now c.args.self.now.dropped _ _
    (error_kind c.in-Err.error) c.in-Err.ensures.calls kind (c.is_silent.ensures.0 c.if-is_silent.true) is

pub returns-else-is_silent : goal.returns-else-is_silent
returns-else-is_silent g c = λ is.
    let kind : error_kind c.in-Err.error ≡ WouldBlock = search rules in
    read_waits c.args.self.now.shut c.args.self.now.moved c.args.now c.args.self.now.dropped _ _
    (error_kind c.in-Err.error) c.in-Err.ensures.calls (inl kind) is

pub returns-in_default : goal.returns-in_default
returns-in_default g c = λ is.
    let fails : IsFailure (error_kind c.in-Err.error) = search rules in
    read_fails c.args.self.now.shut c.args.self.now.moved c.args.now c.args.self.now.dropped _ _
    (error_kind c.in-Err.error) c.in-Err.ensures.calls fails is
