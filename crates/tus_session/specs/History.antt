-- The history: what a list of events makes of the uploads and the connections.
use Rattle.std.specs.Prelude.{ℕ, Bool, true, false, List, [], ◌∷◌, nat_lt, ◌==◌, if◌then◌else◌, Option, Some, None}
use Rattle.tus_session.specs.declared.session.TheConstants.{MOST_OPEN}
use Rattle.tus_session.specs.declared.errors.SessionError.{SessionError}
use Rattle.tus_session.specs.declared.errors.SessionError.TheVariants.{Stop, TooMany, Closed}
use Rattle.common.specs.declared.stop.Stop.TheVariants.{NoMemory, DiskFault}
use Rattle.upload_rules.specs.Store.{Store}
use Rattle.upload_rules.specs.World.{World, at_rest}
use Rattle.tus_action.specs.Acts.{is_pending}
use Rattle.tus_session.specs.Turns.{Conn, Turn, fresh, came_turn, more_turn, ended_world, left_world}

-- An event of a connection: it opened, bytes came, more of a text was asked for, or it ended.
pub data Event : Type 0 where
  Opened : ℕ → Event
  Came : ℕ → List ℕ → Event
  More : ℕ → Event
  Ended : ℕ → Event

-- How an event went: it was served, it was out of memory, or a disk fault stopped it.
pub data Mark : Type 0 where
  Served OutOfMemory Failed : Mark

-- An event with its mark.
abbrev pub Marked : Type 0
Marked = Event × Mark

-- What a call answers. Gave: the bytes given, how many were taken, whether the connection closed, whether a text is
-- pending.
pub data Outcome : Type 0 where
  Gave : List ℕ → ℕ → Bool → Bool → Outcome
  Done : Outcome
  Refused : SessionError → Outcome

-- The world and the open connections.
pub record State : Type 0 where
  pub world : World
  pub conns : ℕ → Option Conn

-- The state after an event, the call's outcome, and the bytes of a text at the end of those given.
pub record Step : Type 0 where
  pub state : State
  pub outcome : Outcome
  pub text : List ℕ

-- The connections with another one at number c.
abbrev pub with_conn : (ℕ → Option Conn) → ℕ → Option Conn → ℕ → Option Conn
with_conn conns c conn k = if k == c then conn else conns k

-- The state with another world and another connection at number c.
abbrev pub put : State → World → ℕ → Option Conn → State
put st w c conn = record { world = w; conns = with_conn st.conns c conn }

-- A refusal that changes nothing.
abbrev pub refused_same : State → SessionError → Step
refused_same st f = record { state = st; outcome = Refused f; text = [] }

-- Whether a text is pending.
abbrev pub has_text : Option Conn → Bool
has_text None = false
has_text (Some k) = is_pending k.pending

-- Whether the connection is closed.
abbrev pub is_closed : Option Conn → Bool
is_closed None = true
is_closed (Some k) = false

-- The step of a turn on connection c.
abbrev pub turned : State → ℕ → Turn → Step
turned st c t = record {
  state = put st t.world c t.conn;
  outcome = Gave t.bytes t.taken (is_closed t.conn) (has_text t.conn);
  text = t.text;
}

-- Opens connection c if its number is below the most.
abbrev pub opened_if : State → ℕ → Bool → Step
opened_if st c true = record { state = put st st.world c (Some fresh); outcome = Done; text = [] }
opened_if st c false = refused_same st TooMany

-- Opens connection c unless it is open.
abbrev pub opened_at : State → ℕ → Option Conn → Step
opened_at st c (Some k) = refused_same st TooMany
opened_at st c None = opened_if st c (nat_lt c MOST_OPEN)

-- Bytes came on connection c.
abbrev pub came_at : State → ℕ → List ℕ → Option Conn → Step
came_at st c piece None = refused_same st Closed
came_at st c piece (Some k) = turned st c (came_turn st.world k piece)

-- The next piece of a text is asked for on connection c.
abbrev pub more_at : State → ℕ → Option Conn → Step
more_at st c None = refused_same st Closed
more_at st c (Some k) = turned st c (more_turn st.world k)

-- Connection c ended.
abbrev pub ended_at : State → ℕ → Option Conn → Step
ended_at st c None = refused_same st Closed
ended_at st c (Some k) = record { state = put st (ended_world st.world k) c None; outcome = Done; text = [] }

-- The step of an event that is served.
abbrev pub served : State → Event → Step
served st (Opened c) = opened_at st c (st.conns c)
served st (Came c piece) = came_at st c piece (st.conns c)
served st (More c) = more_at st c (st.conns c)
served st (Ended c) = ended_at st c (st.conns c)

-- Out of memory, the connection closes and its draft is dropped. `Closed` goes before.
abbrev pub lost_at : State → ℕ → Option Conn → Step
lost_at st c None = refused_same st Closed
lost_at st c (Some k) = record {
  state = put st (left_world st.world k.draft) c None;
  outcome = Refused (Stop NoMemory);
  text = [];
}

-- A disk fault changes nothing here. `Closed` goes before.
abbrev pub failed_at : State → ℕ → Option Conn → Step
failed_at st c None = refused_same st Closed
failed_at st c (Some k) = refused_same st (Stop DiskFault)

-- The step of an event that is out of memory: no upload changes, the event's connection closes, the others stay.
-- Opening needs no memory.
abbrev pub lost : State → Event → Step
lost st (Opened c) = opened_at st c (st.conns c)
lost st (Came c piece) = lost_at st c (st.conns c)
lost st (More c) = lost_at st c (st.conns c)
lost st (Ended c) = lost_at st c (st.conns c)

-- The step of an event that met a disk fault. Opening doesn't ask the disk.
abbrev pub failed : State → Event → Step
failed st (Opened c) = opened_at st c (st.conns c)
failed st (Came c piece) = failed_at st c (st.conns c)
failed st (More c) = failed_at st c (st.conns c)
failed st (Ended c) = failed_at st c (st.conns c)

-- The connection of an event.
abbrev pub conn_in : Event → ℕ
conn_in (Opened c) = c
conn_in (Came c piece) = c
conn_in (More c) = c
conn_in (Ended c) = c

-- The step of an event, by its mark.
unfoldable pub step : State → Event → Mark → Step
step st e Served = served st e
step st e OutOfMemory = lost st e
step st e Failed = failed st e

-- The state of a store without connections.
abbrev pub beginning : Store → Option ℕ → State
beginning m blocks = record { world = at_rest m blocks; conns = λ c. None }

-- The state after these events, of which the first is the latest.
abbrev pub history : State → List Marked → State
history st [] = st
history st (e ∷ past) = (step (history st past) e.0 e.1).state

-- The outcomes of these events, in their order.
abbrev pub outcomes : State → List Marked → List Outcome
outcomes st [] = []
outcomes st (e ∷ events) = let t = step st e.0 e.1 in t.outcome ∷ outcomes t.state events
