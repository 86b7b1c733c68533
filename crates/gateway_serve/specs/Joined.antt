-- How sockets are joined to the conversations of their connections.
use Rattle.std.specs.Prelude.{◌≡◌, ◌⊎◌, ◌<◌, ◌≤◌, ℕ, length, Bool, true, false, List, [], ◌∷◌, ◌++◌, take, drop}
use Rattle.std.specs.Prelude.{Option, Some, None, get_or, if◌then◌else◌, Result, Ok, Err}
use Rattle.common.specs.declared.stop.DiskFault.{DiskFault}
use Rattle.tus_session.specs.History.{State, Marked, history}
use Rattle.tus_session.specs.declared.answers.Answer.{Answer}
use Rattle.tus_session.specs.declared.errors.SessionError.{SessionError}
use Rattle.tus_session.specs.declared.connections.Connections.{Ghosts}
use Rattle.gateway_serve.specs.Conversations.{Conversation, AreTalks, AreRefused, count_refused}
use Rattle.gateway_serve.specs.Sockets.{current_of, IsAt, Served, Pairs}
use Rattle.gateway_serve.specs.declared.buffers.TheConstants.{PIECE}
use Rattle.gateway_serve.specs.declared.sockets.Seen.{Seen}
use Rattle.gateway_serve.specs.Bytes.{bytes_come, went_of, current}
use Rattle.gateway_serve.specs.Waiting.{FewWait}
use Rattle.gateway_serve.specs.Served.{IsBack, WentOn, ServesPart, AllServed, AllLeft}
use Rattle.gateway_serve.specs.declared.stages.Stage.{Stage}
use Rattle.gateway_serve.specs.declared.stages.Stage.TheVariants.{Taking, Giving, Closed}
use Rattle.gateway_serve.specs.declared.links.Link.{Link}
use Rattle.gateway_serve.specs.Requests.{at_in}
use Rattle.gateway_serve.specs.declared.requests.Request.{Request}
use Rattle.gateway_serve.specs.declared.stays.At.{At}
use Rattle.gateway_serve.specs.declared.stays.At.TheVariants.{Between, Reply}
use Rattle.gateway_serve.specs.declared.reasons.Reason.{Reason}
use Rattle.gateway_serve.specs.declared.reasons.Reason.TheVariants as Why
use Rattle.gateway_serve.specs.declared.reasons.Gone.{Gone}
use Rattle.gateway_serve.specs.declared.reasons.Gone.TheVariants as lost
use Rattle.gateway_serve.specs.declared.places.Place.{Place}
use Rattle.gateway_serve.specs.declared.places.Place.TheVariants.{Free, Open}
use Rattle.gateway_serve.specs.declared.server.Server.{Server}

-- a socket and its connection: all bytes that came and went, those that wait for the session and for the socket, what
-- it is at once all is written, and whether the session closed it
pub record Joint : Type 0 where
  pub came : List ℕ
  pub went : List ℕ
  pub input : List ℕ
  pub output : List ℕ
  pub at : At
  pub closed : Bool

abbrev pub is_last : Stage → Bool
is_last Taking = false
is_last Giving = false
is_last Closed = true

-- WHAT IT IS AT: in a reply while bytes wait for the socket or a text is still to be given, else in the request of
-- which something came, or between requests
abbrev pub at_next : Stage → Option Request → At
at_next Taking None = Between
at_next Taking (Some request) = at_in request.part
at_next Giving request = Reply
at_next Closed request = Reply

abbrev pub at_while : List ℕ → At → At
at_while [] at = at
at_while (b ∷ output) at = Reply

abbrev pub at_of : {S : Type 0} → Link S → At
at_of l = at_while l.output (at_next l.stage l.request)

abbrev pub joint_of : {S : Type 0} → Link S → Joint
joint_of l = record {
  came = bytes_come l.socket;
  went = went_of l.socket;
  input = l.input;
  output = l.output;
  at = at_next l.stage l.request;
  closed = is_last l.stage;
}

-- THE INVARIANT. Of the connection's latest conversation, what came is what the session took and what waits for it, and
-- what went, with what waits for the socket, is what it gave. It is at what the session says. Of the conversations
-- before, each had a socket of its own
pub record Joins (sure : Bool) (j : Joint) (ended : List Seen) (st : State) (past : List Marked) (n : ℕ) : Type 0 where
  pub latest : Conversation
  pub others : List Conversation
  pub talks : AreTalks sure st past n (latest ∷ others)
  pub disconnected : latest.disconnected ≡ false
  pub taken : j.came ≡ latest.took ++ j.input
  pub few : length j.input ≤ PIECE
  pub given : j.went ++ j.output ≡ latest.gave
  pub at : IsAt j.at latest.at
  pub pairs : Pairs Served ended others
  pub shut : j.closed ≡ true → (history st past).conns n ≡ None
  pub apart : st.conns n ≡ None

-- the session closed it, and all is written
abbrev pub IsOver : Joint → Type 0
IsOver j = (j.closed ≡ true) × (j.output ≡ [])

-- WHAT A TURN DOES: so many bytes are written
abbrev pub wrote : ℕ → Joint → Joint
wrote n j = record {
  came = j.came;
  went = j.went ++ take n j.output;
  input = j.input;
  output = drop n j.output;
  at = j.at;
  closed = j.closed;
}

abbrev pub WritesPiece : Joint → Joint → Type 0
WritesPiece old new = (n : ℕ) × (new ≡ wrote n old)

-- if any
abbrev pub MayWrite : Joint → Joint → Type 0
MayWrite old new = (new ≡ old) ⊎ WritesPiece old new

-- where none wait for the session, these are read, at most 4,096
abbrev pub read : List ℕ → Joint → Joint
read bytes j = record {
  came = j.came ++ bytes;
  went = j.went;
  input = bytes;
  output = j.output;
  at = j.at;
  closed = j.closed;
}

abbrev pub ReadsPiece : Joint → Joint → Type 0
ReadsPiece old new =
    (new ≡ old) ⊎ ((old.input ≡ []) × ((bytes : List ℕ) × (new ≡ read bytes old) × (length bytes ≤ PIECE)))

-- what follows an answer, once all is written. After a refusal the connection is closed, and nothing was taken
abbrev pub stage_by : Answer → Stage
stage_by a = if a.closes then Closed else if a.more then Giving else Taking

abbrev pub stage_after : Result Answer SessionError → Stage
stage_after (Ok a) = stage_by a
stage_after (Err f) = Closed

abbrev pub taken_after : Result Answer SessionError → ℕ
taken_after (Ok a) = a.taken
taken_after (Err f) = 0

-- after the events of one connection the others are as they were, and no client was refused one
pub record Alone (sure : Bool) (st : State) (n : ℕ) (past now : List Marked) : Type 0 where
  pub talks : (k : ℕ) → (k ≡ n → ⊥) → (cs : List Conversation) → AreTalks sure st past k cs
      → AreTalks sure st now k cs
  pub conns : (k : ℕ) → (k ≡ n → ⊥) → (history st now).conns k ≡ (history st past).conns k
  pub refused : count_refused st now ≡ count_refused st past

-- a joined link stays joined by events of its connection alone
abbrev pub Goes : {C S T : Type 0} → Ghosts C → C → C → Result T DiskFault → Link S → Link S → ℕ → Type 0
Goes {C} c old new result l l' n =
    (sure : Bool) (before : C) (st : State) (past : List Marked) (ended : List Seen) → WentOn c sure before old st past
    → Joins sure (joint_of l) ended st past n
    → ServesPart c sure before new st result (λ now. Alone sure st n past now × Joins sure (joint_of l') ended st now n)
    (λ now. Alone sure st n past now × Joins sure (joint_of l') ended st now n)

-- PLACES. One is free only once its connection is closed again
abbrev pub PlaceJoins : {S : Type 0} → Bool → Place S → List Seen → State → List Marked → ℕ → Type 0
PlaceJoins sure Free ended st past n =
    (cs : List Conversation) × AreTalks sure st past n cs × Pairs Served ended cs × IsBack st past n
PlaceJoins sure (Open l) ended st past n = Joins sure (joint_of l) ended st past n

-- unless the disk failed
abbrev pub PlaceFell : {S : Type 0} → Bool → Place S → List Seen → State → List Marked → ℕ → Type 0
PlaceFell sure Free ended st past n =
    (cs : List Conversation) × AreTalks sure st past n cs × Pairs Served ended cs
PlaceFell sure (Open l) ended st past n = Joins sure (joint_of l) ended st past n

-- the bytes that wait at a place are few
abbrev pub PlaceWaits : {S : Type 0} → Place S → Type 0
PlaceWaits Free = Unit {0}
PlaceWaits (Open l) = FewWait l.output

-- nothing came, and nothing was given
abbrev pub nothing_yet : Joint
nothing_yet = record { came = []; went = []; input = []; output = []; at = Between; closed = false }

abbrev pub IsNew : {S : Type 0} → Place S → Type 0
IsNew {S} p = (l : Link S) × (p ≡ Open l) × (joint_of l ≡ nothing_yet)

-- the sockets, with that of a link that ends for this reason
abbrev pub with_link : {S : Type 0} → ℕ → Reason → Link S → List Seen → List Seen
with_link n reason l ended = current n l.socket reason ∷ ended

abbrev pub with_place : {S : Type 0} → ℕ → Reason → Place S → List Seen → List Seen
with_place n reason Free ended = ended
with_place n reason (Open l) ended = with_link n reason l ended

-- a connection may be ended for this reason, which is reported to the session: it is lost, or serving is over
abbrev pub IsLateIn : Gone → Joint → Type 0
IsLateIn lost.Ended j = Unit {0}
IsLateIn (lost.Failed kind) j = Unit {0}
IsLateIn lost.Stuck j = Unit {0}
IsLateIn (lost.Late stay) j = stay.at ≡ at_while j.output j.at

abbrev pub MayEnd : {S : Type 0} → Reason → Place S → Type 0
MayEnd Why.Closed p = ⊥
MayEnd (Why.Lost gone) Free = Unit {0}
MayEnd (Why.Lost gone) (Open l) = IsLateIn gone (joint_of l)
MayEnd Why.Over p = Unit {0}

-- a place stays joined by events of its connection alone, with the sockets of that connection
abbrev pub GoesAt : {C S T : Type 0} → Ghosts C → C → C → Result T DiskFault → Place S → Place S → List Seen → List Seen
    → ℕ → Type 0
GoesAt {C} c old new result p p' ended ended' n =
    (sure : Bool) (before : C) (st : State) (past : List Marked) → WentOn c sure before old st past
    → PlaceJoins sure p (current_of n ended) st past n
    → ServesPart c sure before new st result (λ now. Alone sure st n past now × PlaceJoins sure p'
    (current_of n ended') st now n)
    (λ now. Alone sure st n past now × PlaceFell sure p' (current_of n ended') st now n)

-- the sockets of other connections are those that they were
abbrev pub OthersStay : ℕ → List Seen → List Seen → Type 0
OthersStay n old new = (k : ℕ) → (k ≡ n → ⊥) → current_of k new ≡ current_of k old

-- EACH PLACE is joined; beyond the last one all are free. So many clients were refused a connection
abbrev pub AllJoin : {S : Type 0} → Bool → List (Place S) → List Seen → ℕ → State → List Marked → Type 0
AllJoin sure places ended refused st past =
    ((n : ℕ) → PlaceJoins sure (get_or places n Free) (current_of n ended) st past n) × AreRefused refused st past

abbrev pub AllFell : {S : Type 0} → Bool → List (Place S) → List Seen → ℕ → State → List Marked → Type 0
AllFell sure places ended refused st past =
    ((n : ℕ) → PlaceFell sure (get_or places n Free) (current_of n ended) st past n) × AreRefused refused st past

abbrev pub places_of : {S : Type 0} → Server S → List (Place S)
places_of s = s.places.items

abbrev pub ended_of : {S : Type 0} → Server S → List Seen
ended_of s = s.ended.items

abbrev pub IsFreeAt : {S : Type 0} → List (Place S) → ℕ → Type 0
IsFreeAt places n = (n < length places) × (get_or places n Free ≡ Free)

-- the same, but for places that are free
abbrev pub SamePlaces : {S : Type 0} → List (Place S) → List (Place S) → Type 0
SamePlaces old new = (n : ℕ) → get_or new n Free ≡ get_or old n Free

-- joined places stay joined
abbrev pub StaysJoined : {C S T : Type 0} → Ghosts C → C → C → Result T DiskFault → List (Place S) → List (Place S)
    → List Seen → List Seen → ℕ → ℕ → Type 0
StaysJoined {C} c old new result places places' ended ended' refused refused' =
    (sure : Bool) (before : C) (st : State) (past : List Marked) → WentOn c sure before old st past
    → AllJoin sure places ended refused st past
    → ServesPart c sure before new st result (AllJoin sure places' ended' refused' st)
    (AllFell sure places' ended' refused' st)

-- after it all connections are ended, unless the disk failed
abbrev pub AllEnded : {C S T : Type 0} → Ghosts C → C → C → Result T DiskFault → List (Place S) → List (Place S)
    → List Seen → List Seen → ℕ → ℕ → Type 0
AllEnded {C} c old new result places places' ended ended' refused refused' =
    (sure : Bool) (before : C) (st : State) (past : List Marked) → WentOn c sure before old st past
    → AllJoin sure places ended refused st past
    → ServesPart c sure before new st result (AllServed sure ended' refused' st)
    (AllFell sure places' ended' refused' st)

-- and then their sockets were let go
abbrev pub LetsGo : {C S T : Type 0} → Ghosts C → C → C → Result T DiskFault → List (Place S) → List Seen → List Seen
    → ℕ → ℕ → Type 0
LetsGo {C} c old new result places ended ended' refused refused' =
    (sure : Bool) (before : C) (st : State) (past : List Marked) → WentOn c sure before old st past
    → AllJoin sure places ended refused st past
    → ServesPart c sure before new st result (AllServed sure ended' refused' st) (AllLeft sure ended' refused' st)
