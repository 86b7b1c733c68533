-- Times stay among those of a server's turns.
use Rattle.std.proofs.Common.{◌≡◌, ℕ, Bool, true, false, List, [], ◌∷◌, length, Option, Some, None, get_or, inl, inr}
use Rattle.std.proofs.Common.{if◌then◌else◌, sym, ap, ◌∙◌, subst, arith, rules}
use Rattle.std.specs.Prelude.{IfSome, IsNone}
use Rattle.std.specs.Duration.{as_nanos}
use Rattle.std.specs.declared.time.Duration.{Duration}
use Rattle.gateway_serve.specs.Acceptors.{count_turns}
use Rattle.gateway_serve.specs.declared.doors.AtDoor.{AtDoor}
use Rattle.gateway_serve.specs.Gone.{IsAmong, IsTimed, IsTurn, opened_at, moved_at}
use Rattle.tus_session.specs.declared.at.At as session
use Rattle.gateway_serve.specs.Reasons.{begun_by, since_by}
use Rattle.gateway_serve.specs.Requests.{is_same, part_of, request_by, request_from, request_in}
use Rattle.gateway_serve.specs.Streams.{PlaceHas, AllHad, AllHave}
use Rattle.gateway_serve.specs.Rests.{read_or}
use Rattle.gateway_serve.specs.Times.{HasShown, IsRequestTimed, IsTime, Shows}
use Rattle.gateway_serve.specs.declared.requests.Part.{Part}
use Rattle.gateway_serve.specs.declared.requests.Request.{Request}
use Rattle.gateway_serve.specs.declared.places.Place.{Place}
use Rattle.gateway_serve.specs.declared.places.Place.TheVariants.{Free, Open}
use Rattle.gateway_serve.specs.declared.sockets.Seen.{Seen}
use Rattle.gateway_serve.specs.declared.sockets.Spell.{Spell}

module _ (now : Duration) (times : List Duration) (among : IsAmong now times) where
  pub opened_timed : (spell : Spell) → spell ≡ opened_at now → IsTimed times spell
  opened_timed spell is = rw is (among, among)

  pub moved_timed : (spell spell' : Spell) → spell' ≡ moved_at now spell → IsTimed times spell → IsTimed times spell'
  moved_timed spell spell' is timed = rw is (timed.0, among)

  -- A REQUEST's, which goes on or begins
  with_or : (same : Bool) (request : Request) (part : Part) → IsRequestTimed times (Some request)
      → IsRequestTimed times (Some (if same then request else request_from part now))
  with_or true request part timed = timed
  with_or false request part timed = (among, among)

  request_in_timed : (request : Option Request) (part : Option Part) (n : ℕ) → IsRequestTimed times request
      → IsRequestTimed times (request_in request part n now)
  request_in_timed request None n timed = tt
  request_in_timed None (Some part) n timed = (among, among)
  request_in_timed (Some request) (Some part) n timed = with_or (is_same request.part part) request part timed

  pub request_timed : (request result : Option Request) (at : Option session.At) (n : ℕ)
      → result ≡ request_by request at n now → IsRequestTimed times request → IsRequestTimed times result
  request_timed request result at n is timed = rw is (request_in_timed request (part_of at) n timed)

-- what a link was at began at a time of these
pub began_among : (times : List Duration) (request : Option Request) (moved : Duration) → IsAmong moved times
    → IsRequestTimed times request
    → IsAmong (begun_by request moved) times × IsAmong (since_by request moved) times
began_among times None moved among timed = (among, among)
began_among times (Some request) moved among timed = timed

-- A TURN is at one of the times, and is still one where fewer clients are to have waited
pub turn_among : (now : Duration) (wanted : Bool) (times : List Duration) (waits : List Bool)
    → IsTurn now wanted times waits → IsAmong now times
turn_among now wanted [] waits is = absurd is
turn_among now wanted (time ∷ times) [] is = absurd is
turn_among now wanted (time ∷ times) (waits ∷ others) (inl is) = inl is.0
turn_among now wanted (time ∷ times) (waits ∷ others) (inr is) = inr (turn_among now wanted times others is)

pub still_turn : (now : Duration) (wanted wanted' : Bool) (times : List Duration) (waits : List Bool)
    → (wanted' ≡ true → wanted ≡ true) → IsTurn now wanted times waits → IsTurn now wanted' times waits
still_turn now wanted wanted' [] waits fewer is = absurd is
still_turn now wanted wanted' (time ∷ times) [] fewer is = absurd is
still_turn now wanted wanted' (time ∷ times) (waits ∷ others) fewer (inl is) = inl (is.0, λ w. is.1 (fewer w))
still_turn now wanted wanted' (time ∷ times) (waits ∷ others) fewer (inr is) =
    inr (still_turn now wanted wanted' times others fewer is)

-- ONE TURN LATER
timed_later : (now : Duration) (times : List Duration) (spell : Spell) → IsTimed times spell
    → IsTimed (now ∷ times) spell
timed_later now times spell timed = (inr timed.0, inr timed.1)

request_later : (now : Duration) (times : List Duration) (request : Option Request) → IsRequestTimed times request
    → IsRequestTimed (now ∷ times) request
request_later now times None timed = tt
request_later now times (Some request) timed = (inr timed.0, inr timed.1)

module _ {S : Type 0} (remaining contents : S → Option (List ℕ)) (now : Duration) (times : List Duration) where
  place_later : (p : Place S) → PlaceHas remaining contents times p → PlaceHas remaining contents (now ∷ times) p
  place_later Free has = tt
  place_later (Open l) has = (
    has.0,
    has.1,
    (timed_later now times l.socket.spell has.2.0, request_later now times l.request has.2.1),
  )

  had_later : (ended : List Seen) → AllHad remaining contents times ended
      → AllHad remaining contents (now ∷ times) ended
  had_later [] had = tt
  had_later (s ∷ ended) had =
      ((had.0.0, had.0.1, had.0.2, timed_later now times s.spell had.0.3), had_later ended had.1)

  pub streams_later : (places : List (Place S)) (ended : List Seen)
      → AllHave remaining contents times places × AllHad remaining contents times ended
      → AllHave remaining contents (now ∷ times) places × AllHad remaining contents (now ∷ times) ended
  streams_later places ended has = (λ n. place_later (get_or places n Free) (has.0 n), had_later ended has.1)

-- THE BEGINNING: no place, and no socket
pub none_streamed : {S : Type 0} (remaining contents : S → Option (List ℕ)) (times : List Duration)
    (places : List (Place S)) (ended : List Seen) → places ≡ [] → ended ≡ []
    → AllHave remaining contents times places × AllHad remaining contents times ended
none_streamed remaining contents times places ended free none = (λ n. rw free tt, rw none tt)

-- WHAT THE CLOCK SHOWED, at first
first_time : (answer : Option Duration) (now : Duration) → IfSome answer (λ time. now ≡ time)
    → (IsNone answer → as_nanos now ≡ 0) → IsTime now (answer ∷ [])
first_time None now read unread = unread (search rules)
first_time (Some time) now read unread = read

pub shows_first : (before shown : List (Option Duration)) (answer : Option Duration) (now : Duration)
    (times : List Duration) → shown ≡ answer ∷ before → IfSome answer (λ time. now ≡ time)
    → (IsNone answer → as_nanos now ≡ 0) → times ≡ [] → Shows before shown now times
shows_first before shown answer now times asked read unread none = record {
  latest = answer;
  answers = [];
  asked = asked;
  next = first_time answer now read unread;
  began = rw none tt;
}

-- after a turn more
time_read : (answer : Option Duration) (now now' : Duration) (answers : List (Option Duration))
    → now' ≡ read_or answer now → IsTime now answers → IsTime now' (answer ∷ answers)
time_read None now now' answers read is = subst (λ (time : Duration). IsTime time answers) (sym read) is
time_read (Some time) now now' answers read is = read

module _ (before shown : List (Option Duration)) (now : Duration) (times times' : List Duration)
    (s : Shows before shown now times) (turn : times' ≡ now ∷ times) where
  pub shows_on : (shown' : List (Option Duration)) (answer : Option Duration) (now' : Duration)
      → shown' ≡ answer ∷ shown → now' ≡ read_or answer now → Shows before shown' now' times'
  shows_on shown' answer now' asked is = record {
    latest = answer;
    answers = s.latest ∷ s.answers;
    asked = asked ∙ ap (λ l. answer ∷ l) s.asked;
    next = time_read answer now now' (s.latest ∷ s.answers) is s.next;
    began = rw turn (s.next, s.began);
  }

  -- or after a fault in it
  pub shows_last : (done : List AtDoor) → length times' ≡ count_turns done → HasShown before shown done times'
  shows_last done each = record {
    each = each;
    more = [];
    answers = s.latest ∷ s.answers;
    asked = s.asked;
    once = omega arith;
    began = rw turn (s.next, s.began);
  }

-- and when serving is over
pub shown_all : (before shown : List (Option Duration)) (now : Duration) (times : List Duration) (done : List AtDoor)
    → Shows before shown now times → length times ≡ count_turns done → HasShown before shown done times
shown_all before shown now times done s each = record {
  each = each;
  more = s.latest ∷ [];
  answers = s.answers;
  asked = s.asked;
  once = omega arith;
  began = s.began;
}
