-- From a turn to the session's answer.
use Rattle.std.proofs.Common.{◌≡◌, ℕ, List, Option, Some, None, Ok, Err, refl, ap, [], Bool, Result, IsErrOf, ◌∙◌}
use Rattle.upload_rules.specs.declared.uploads.Uploads.{Ghosts}
use Rattle.tus_session.specs.Turns.{Conn, Turn, left_world, more_turn, came_turn, ended_world}
use Rattle.tus_session.specs.History.{State, Event, Opened, Came, More, Ended, Served, OutOfMemory, Failed, Gave, Done}
use Rattle.tus_session.specs.History.{Refused, step, put, turned, conn_in, lost_at, failed_at, came_at, more_at}
use Rattle.tus_session.specs.History.{ended_at, is_closed, has_text}
use Rattle.tus_session.specs.Represents.{SessionRepresents}
use Rattle.tus_session.specs.Turned.{Turned, TurnedAs, EndedAs}
use Rattle.tus_session.specs.Turned as turns
use Rattle.common.specs.declared.stop.Stop.{Stop}
use Rattle.common.specs.declared.stop.Stop.TheVariants as stops
use Rattle.tus_session.specs.Results.{Follows, RepliesAs, EndsEvent}
use Rattle.tus_session.specs.declared.answers.Answer.{Answer}
use Rattle.tus_session.specs.declared.conns.Link.{Link}
use Rattle.tus_session.specs.declared.errors.SessionError.TheVariants as errors
use Rattle.tus_session.proofs.Moved.{left_moves}
use Rattle.tus_session.specs.Places.{IsLinkPut}
use Rattle.tus_session.proofs.InPlace.{in_place}
use Rattle.std.specs.Result.{IsErrAnd}
use Rattle.std.proofs.lemmas.Result.{err_from_is_err_and}
use Rattle.tus_session.specs.declared.errors.SessionError.{SessionError}

-- the event's turn on an open connection
pub record IsTurn (st : State) (e : Event) (conn : Conn) (t : Turn) : Type 0 where
  pub conn_is : st.conns (conn_in e) ≡ Some conn
  pub step_is : step st e Served ≡ turned st (conn_in e) t

pub came_is : (st : State) (c : ℕ) (bytes : List ℕ) (conn : Conn) → st.conns c ≡ Some conn
    → IsTurn st (Came c bytes) conn (came_turn st.world conn bytes)
unfolding step
came_is st c bytes conn e = record { conn_is = e; step_is = ap (came_at st c bytes) e }

pub more_is : (st : State) (c : ℕ) (conn : Conn) → st.conns c ≡ Some conn
    → IsTurn st (More c) conn (more_turn st.world conn)
unfolding step
more_is st c conn e = record { conn_is = e; step_is = ap (more_at st c) e }

-- an event on a connection that is open already: out of memory it is closed
abbrev pub IsOnOpen : Event → Type 0
IsOnOpen (Opened c) = ⊥
IsOnOpen (Came c piece) = Unit {0}
IsOnOpen (More c) = Unit {0}
IsOnOpen (Ended c) = Unit {0}

memory_is : (st : State) (e : Event) (conn : Conn) → IsOnOpen e → st.conns (conn_in e) ≡ Some conn
    → step st e OutOfMemory ≡ record {
      state = put st (left_world st.world conn.draft) (conn_in e) None;
      outcome = Refused (errors.Stop stops.NoMemory);
      text = [];
    }
unfolding step
memory_is st (Opened c) conn on is = absurd on
memory_is st (Came c piece) conn on is = ap (lost_at st c) is
memory_is st (More c) conn on is = ap (lost_at st c) is
memory_is st (Ended c) conn on is = ap (lost_at st c) is

failed_is : (st : State) (e : Event) (conn : Conn) → IsOnOpen e → st.conns (conn_in e) ≡ Some conn
    → (step st e Failed).outcome ≡ Refused (errors.Stop stops.DiskFault)
unfolding step
failed_is st (Opened c) conn on is = absurd on
failed_is st (Came c piece) conn on is = ap (λ o. (failed_at st c o).outcome) is
failed_is st (More c) conn on is = ap (λ o. (failed_at st c o).outcome) is
failed_is st (Ended c) conn on is = ap (λ o. (failed_at st c o).outcome) is

module _ {U B : Type 0} (u : Ghosts U B) (sure : Bool) where
  module _ (places all : List (Option (Link B))) (store store' : U) (st : State) (e : Event) (conn : Conn)
      (represents : SessionRepresents u sure places store st) (on : IsOnOpen e)
      (is : st.conns (conn_in e) ≡ Some conn) where
    -- the connection is gone, with its draft
    lost : IsLinkPut places all (conn_in e) None → u.represents store' sure (left_world st.world conn.draft)
        → Follows u sure all store' (step st e OutOfMemory).state (step st e OutOfMemory).outcome
        (Refused (errors.Stop stops.NoMemory))
    lost is_put shown =
        let s = in_place u sure places all store store' st (left_world st.world conn.draft) (conn_in e) None None
        represents
        is_put (rw is (left_moves st.world conn.draft)) shown tt in
        rw (memory_is st e conn on is) (record { represents = s; outcome = refl })

    pub given : (next : Option (Link B)) (t : Turn) (a : Answer) (old new : List ℕ)
        → IsLinkPut places all (conn_in e) next
        → IsTurn st e conn t → TurnedAs u sure store' next a old new st.world conn.draft t
        → RepliesAs u sure all store' (Ok a) old new st e
    given next t a old new is_put is_turn turn =
        let s = in_place u sure places all store store' st t.world (conn_in e) next t.conn represents is_put
        (rw is turn.moves) turn.shown turn.here in
        let same : Gave t.bytes t.taken (is_closed t.conn) (has_text t.conn) ≡ Gave t.bytes a.taken a.closes a.more =
        rw (turn.taken, turn.closes, turn.more) in
        (t.bytes, rw is_turn.step_is (record { represents = s; outcome = same }), rw is_turn.step_is turn.bytes)

    -- an error closes the connection
    pub stopped : (t : Turn) (stop : Stop) (old new : List ℕ) → IsLinkPut places all (conn_in e) None
        → Turned u sure store' (Err stop) old new st.world conn.draft t
        → RepliesAs u sure all store' (Err (errors.Stop stop)) old new st e
    stopped t stops.NoMemory old new is_put (shown, same) = (lost is_put shown, same)
    stopped t stops.DiskFault old new is_put same = (failed_is st e conn on is, same)

    pub ends : IsLinkPut places all (conn_in e) None → step st e Served ≡ record
        { state = put st (ended_world st.world conn) (conn_in e) None; outcome = Done; text = [] }
        → EndedAs u sure store' st.world conn.draft (ended_world st.world conn)
        → EndsEvent u sure all store' (Ok tt) st e
    ends is_put done turn =
        let s = in_place u sure places all store store' st (ended_world st.world conn) (conn_in e) None None represents
        is_put (rw is turn.moves) turn.shown tt in
        rw done (record { represents = s; outcome = refl })

    pub ends_stopped : (stop : Stop) → IsLinkPut places all (conn_in e) None
        → turns.Ended u sure store' (Err stop) st.world conn.draft (ended_world st.world conn)
        → EndsEvent u sure all store' (Err (errors.Stop stop)) st e
    ends_stopped stops.NoMemory is_put shown = lost is_put shown
    ends_stopped stops.DiskFault is_put turn = failed_is st e conn on is

  -- no connection is open there
  pub none_open : (places : List (Option (Link B))) (store : U) (st : State) (e : Event)
      → SessionRepresents u sure places store st → IsOnOpen e → st.conns (conn_in e) ≡ None
      → Follows u sure places store st (step st e Served).outcome (Refused errors.Closed)
  unfolding step
  none_open places store st (Opened c) represents on none = absurd on
  none_open places store st (Came c bytes) represents on none = rw none
      (record { represents = represents; outcome = refl })
  none_open places store st (More c) represents on none = rw none (record { represents = represents; outcome = refl })
  none_open places store st (Ended c) represents on none = rw none (record { represents = represents; outcome = refl })

pub ended_step : (st : State) (c : ℕ) (conn : Conn) → st.conns c ≡ Some conn
    → step st (Ended c) Served ≡ record { state = put st (ended_world st.world conn) c None; outcome = Done; text = [] }
unfolding step
ended_step st c conn e = ap (ended_at st c) e

-- AN ERROR of a call on the uploads, as the session's own

module _ {A : Type 0} where
  -- what a `?` makes of it
  pub stop_is : (result : Result A SessionError) (stop : Stop) → IsErrAnd result (λ e. e ≡ errors.Stop stop)
      → result ≡ Err (errors.Stop stop)
  stop_is result stop is = let s = err_from_is_err_and result is in s.1 ∙ ap Err s.2

module _ {A B : Type 0} where
  pub no_memory : (stop : Stop) → IsErrOf {T = A} (Err (errors.Stop stop)) (errors.Stop stops.NoMemory)
      → IsErrOf {T = B} (Err stop) stops.NoMemory
  no_memory stop f = cc

  -- a call that stopped out of memory, where its caller does
  pub same_stop : (r : Result A Stop) (e stop : Stop) → r ≡ Err e → e ≡ stop → IsErrOf r stops.NoMemory
      → IsErrOf {T = B} (Err stop) stops.NoMemory
  same_stop r stops.NoMemory stops.NoMemory is same f = refl
  same_stop r stops.NoMemory stops.DiskFault is same f = absurd (cc)
  same_stop r stops.DiskFault stops.NoMemory is same f = absurd (cc)
  same_stop r stops.DiskFault stops.DiskFault is same f = absurd (cc)
