-- Why connections ended.
use Rattle.std.proofs.Common.{◌≡◌, ◌⊎◌, ◌≤◌, inl, inr, refl, ℕ, ◌+◌, List, [], ◌∷◌}
use Rattle.std.proofs.Common.{Bool, length, arith}
use Rattle.std.specs.declared.io.ErrorKind.{ErrorKind}
use Rattle.gateway_serve.specs.declared.sockets.Seen.{Seen}
use Rattle.gateway_serve.specs.Bytes.{latest_of, current}
use Rattle.std.specs.declared.time.Duration.{Duration}
use Rattle.gateway_serve.specs.Counted.{count_closed, one_before}
use Rattle.gateway_serve.specs.Acceptors.{waits_in}
use Rattle.gateway_serve.specs.Gone.{EndsBy, IfLost, IsFailure, IsTurn}
use Rattle.gateway_serve.specs.declared.doors.AtDoor.{AtDoor}
use Rattle.gateway_serve.specs.Joined.{with_place}
use Rattle.gateway_serve.specs.Reasons.{EndedOnce, none, free, one_more, AtMostOnce, AllReasoned, HasReason, IsLostBy}
use Rattle.gateway_serve.specs.Reasons.{EndsInTime, moved_of}
use Rattle.gateway_serve.specs.Times.{IsLinkTimed}
use Rattle.gateway_serve.specs.declared.sockets.Latest.{Latest}
use Rattle.gateway_serve.specs.declared.sockets.Latest.TheVariants as Was
use Rattle.gateway_serve.specs.declared.sockets.Socket.{Socket}
use Rattle.gateway_serve.specs.declared.reasons.Gone.{Gone}
use Rattle.gateway_serve.specs.declared.reasons.Gone.TheVariants.{Ended, Failed, Stuck, Late}
use Rattle.gateway_serve.specs.declared.reasons.Reason.{Reason}
use Rattle.gateway_serve.specs.declared.reasons.Reason.TheVariants as Why
use Rattle.gateway_serve.specs.declared.reasons.Reason.TheVariants.{Over}
use Rattle.gateway_serve.specs.declared.idle.Tick.{Tick}
use Rattle.gateway_serve.specs.declared.links.Link.{Link}
use Rattle.gateway_serve.specs.declared.sockets.Spell.{Spell}
use Rattle.gateway_serve.specs.declared.stages.Left.{Left}
use Rattle.gateway_serve.specs.declared.stages.Left.TheVariants as Is
use Rattle.gateway_serve.specs.declared.places.Place.{Place}
use Rattle.gateway_serve.specs.declared.places.Place.TheVariants.{Free, Open}
use Rattle.gateway_serve.proofs.Times.{began_among}

-- a read or write failed, and that is the latest call
pub failed_lost : (left : Left) (latest : Latest) (kind : ErrorKind) → latest ≡ Was.Failed kind
    → IfLost left (λ gone. (gone ≡ Failed kind) × IsFailure kind) → IfLost left (λ gone. EndsBy gone latest)
failed_lost Is.Open latest kind was is = tt
failed_lost Is.Idle latest kind was is = tt
failed_lost Is.Closed latest kind was is = tt
failed_lost (Is.Lost gone) latest kind was is = rw is.0 (was, is.1)

-- a turn lost it, or else the time
pub still_lost : (left : Left) (I : Gone → Type 0) → IfLost left (λ gone. (left ≡ Is.Lost gone) ⊎ I gone)
still_lost Is.Open I = tt
still_lost Is.Idle I = tt
still_lost Is.Closed I = tt
still_lost (Is.Lost gone) I = inl refl

pub lost_by : {S : Type 0} (mid new : Socket S) (left now : Left) (I : Gone → Type 0) → new ≡ mid
    → IfLost left (λ gone. EndsBy gone (latest_of mid)) → IfLost now (λ gone. (left ≡ Is.Lost gone) ⊎ I gone)
    → IfLost now (λ gone. EndsBy gone (latest_of new) ⊎ I gone)
lost_by mid new left Is.Open I same ends is = tt
lost_by mid new left Is.Idle I same ends is = tt
lost_by mid new left Is.Closed I same ends is = tt
lost_by {S} mid new left (Is.Lost gone) I same ends is = elim is [
  | inl e ↦ inl (rw same (rw e at ends))
  | inr late ↦ inr late
]

-- so its socket ended for that reason, in that turn
pub lost_reason : {S : Type 0} (times : List Duration) (done : List AtDoor) (n : ℕ) (l : Link S) (tick : Tick)
    (gone : Gone) → IsTurn tick.now tick.wanted times (waits_in done) → IsLinkTimed times l → IsLostBy l tick gone
    → HasReason times done (current n l.socket (Why.Lost gone)) (Why.Lost gone)
lost_reason times done n l tick gone turn timed (inl ends) = inl ends
lost_reason times done n l tick gone turn timed (inr late) =
    let began = began_among times l.request (moved_of l) timed.0.1 timed.1 in
    inr (rw late.0 (late.1, refl, refl, began.0, began.1, turn))

-- and all that ended before did so in these turns, and one more
module _ (now : Duration) (waits : Bool) (times : List Duration) (done done' : List AtDoor)
    (turn : waits_in done' ≡ waits ∷ waits_in done) where
  in_time : (spell : Spell) (gone : Gone) → EndsInTime times done spell gone
      → EndsInTime (now ∷ times) done' spell gone
  in_time spell Ended is = is
  in_time spell (Failed kind) is = is
  in_time spell Stuck is = is
  in_time spell (Late stay) is = (is.0, is.1, is.2, inr is.3, inr is.4, rw turn (inr is.5))

  reason_in_time : (s : Seen) (reason : Reason) → HasReason times done s reason → HasReason (now ∷ times) done' s reason
  reason_in_time s Why.Closed is = is
  reason_in_time s (Why.Lost gone) (inl ends) = inl ends
  reason_in_time s (Why.Lost gone) (inr late) = inr (in_time s.spell gone late)
  reason_in_time s Over is = is

  pub all_in_time : (ended : List Seen) → AllReasoned times done ended → AllReasoned (now ∷ times) done' ended
  all_in_time [] all = all
  all_in_time (s ∷ ended) all = (reason_in_time s s.reason all.0, all_in_time ended all.1)

-- WHILE SERVING GOES ON all that ended were closed
one_reasoned : (times : List Duration) (done : List AtDoor) (s : Seen) (reason : Reason)
    → HasReason times done s reason → one_before reason ≡ 1
one_reasoned times done s Why.Closed is = refl
one_reasoned times done s (Why.Lost gone) is = refl
one_reasoned times done s Over is = absurd is

pub all_closed : (times : List Duration) (done : List AtDoor) (ended : List Seen) → AllReasoned times done ended
    → count_closed ended ≡ length ended
unfolding count_closed
all_closed times done [] all = refl
all_closed times done (s ∷ ended) all =
    omega (arith, one_reasoned times done s s.reason all.0, all_closed times done ended all.1)

-- WHEN SERVING IS OVER
one_ended : {S : Type 0} (before : List Seen) (n : ℕ) (p : Place S) (ended : List Seen) → EndedOnce before n ended
    → EndedOnce before (n + 1) (with_place n Over p ended)
one_ended before n Free ended is = free n ended is
one_ended before n (Open l) ended is = one_more (current n l.socket Over) ended refl is

pub ended_once : {S : Type 0} (before : List Seen) (n : ℕ) (p : Place S) (ended ended' : List Seen)
    → ended' ≡ with_place n Over p ended → EndedOnce before n ended → EndedOnce before (n + 1) ended'
ended_once before n p ended ended' with is =
    rw with (one_ended before n p ended is)

pub none_more : (ended : List Seen) → AtMostOnce ended ended
none_more ended = (0, none)

-- HOW MANY ENDED: a place adds one or none
more_there : {S : Type 0} (n : ℕ) (reason : Reason) (p : Place S) (ended : List Seen)
    → length ended ≤ length (with_place n reason p ended)
more_there n reason p ended = grind arith

pub more_ended : {S : Type 0} (n : ℕ) (reason : Reason) (p : Place S) (ended ended' : List Seen)
    → ended' ≡ with_place n reason p ended → length ended ≤ length ended'
more_ended n reason p ended ended' with = rw with (more_there n reason p ended)
