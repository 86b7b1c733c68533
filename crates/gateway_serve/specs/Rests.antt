-- How long a server rests that has nothing to do.
use Rattle.std.specs.Prelude.{◌≤◌, ◌-◌, ◌/◌, ℕ, min, Bool, if◌then◌else◌, Option, Some, None}
use Rattle.std.specs.Duration.{as_nanos}
use Rattle.std.specs.declared.time.Duration.{Duration}
use Rattle.gateway_serve.specs.declared.idle.Watch.{Watch}

-- the time that was read, or else the one before
abbrev pub read_or : Option Duration → Duration → Duration
read_or None now = now
read_or (Some time) now = time

-- AFTER A TURN in which something was done or not, at this time
abbrev pub watch_after : Watch → Option Duration → Bool → Watch
watch_after w time busy = record { now = read_or time w.now; busy = if busy then read_or time w.now else w.busy }

-- for how many nanoseconds nothing was done
abbrev pub idle : Watch → ℕ
idle w = as_nanos w.now - as_nanos w.busy

-- IT RESTS once that is 200 microseconds: a 32nd of it, at most 10 milliseconds
abbrev pub IsIdle : Watch → Type 0
IsIdle w = 200_000 ≤ idle w

abbrev pub rest_at : Watch → ℕ
rest_at w = min (idle w / 32) 10_000_000
