-- What serving measures of a request.
use Rattle.std.specs.Prelude.{◌+◌, ◌/◌, ◌&&◌, ℕ, min, nat_le, Bool, true, false, if◌then◌else◌, Option, Some, None}
use Rattle.std.specs.declared.time.Duration.{Duration}
use Rattle.tus_session.specs.declared.at.At as session
use Rattle.tus_session.specs.declared.at.At.TheVariants as at
use Rattle.gateway_serve.specs.Stays.{seconds_from}
use Rattle.gateway_serve.specs.declared.requests.Part.{Part}
use Rattle.gateway_serve.specs.declared.requests.Part.TheVariants.{Head, Body}
use Rattle.gateway_serve.specs.declared.requests.Request.{Request}
use Rattle.gateway_serve.specs.declared.stays.At.{At}
use Rattle.gateway_serve.specs.declared.stays.TheConstants.{LEAST_SPEED}
use Rattle.gateway_serve.specs.declared.stays.At.TheVariants as stays

-- what a connection is at in this part of a request
abbrev pub at_in : Part → At
at_in Head = stays.Head
at_in Body = stays.Body

-- the part that comes where the session is at this
abbrev pub part_at : session.At → Option Part
part_at at.Between = None
part_at at.Head = Some Head
part_at at.Body = Some Body
part_at at.Text = None

-- A REQUEST AT ITS TIME: the part that comes begins
abbrev pub request_from : Part → Duration → Request
request_from part now = record { part = part; begun = now; since = now; brought = 0; turns = 0 }

-- so many bytes more of it came
abbrev pub with_more : Request → ℕ → Request
with_more r n = record {
  part = r.part;
  begun = r.begun;
  since = r.since;
  brought = min (r.brought + n) 18_446_744_073_709_551_615;
  turns = r.turns;
}

-- its socket was asked in one more turn
abbrev pub with_turn : Request → Request
with_turn r = record {
  part = r.part;
  begun = r.begun;
  since = r.since;
  brought = r.brought;
  turns = min (r.turns + 1) 18_446_744_073_709_551_615;
}

-- its speed is measured anew after two seconds in which it was fast enough
abbrev pub measured_anew : Request → Duration → Request
measured_anew r now =
    if nat_le 2 (seconds_from r.since now) && nat_le (min (seconds_from r.since now) r.turns) (r.brought / LEAST_SPEED)
    then record { part = r.part; begun = r.begun; since = now; brought = 0; turns = 0 }
    else r

abbrev pub measured_by : Option Request → Duration → Option Request
measured_by None now = None
measured_by (Some request) now = Some (measured_anew (with_turn request) now)

-- THE REQUEST that a connection is in, after so many bytes were taken and the session said what it is at: the one that
-- it was in, if that part of it still comes, or another one that begins now
abbrev pub is_same : Part → Part → Bool
is_same Head Head = true
is_same Head Body = false
is_same Body Head = false
is_same Body Body = true

abbrev pub request_or : Option Request → Part → Duration → Request
request_or None part now = request_from part now
request_or (Some request) part now = if is_same request.part part then request else request_from part now

abbrev pub request_in : Option Request → Option Part → ℕ → Duration → Option Request
request_in request None n now = None
request_in request (Some part) n now = Some (with_more (request_or request part now) n)

abbrev pub part_of : Option session.At → Option Part
part_of None = None
part_of (Some at) = part_at at

abbrev pub request_by : Option Request → Option session.At → ℕ → Duration → Option Request
request_by request at n now = request_in request (part_of at) n now
