-- Histories that differ in how streams are cut: their moments, and the bytes that each connection gets.
--
-- An example. Connection 0 sends a PATCH with the body `hello`, and connection 1 asks by HEAD for the upload's offset.
-- In one history the calls bring 0's head with `he`, 1's whole request, `llo`; in another 0's head byte by byte, 1's
-- whole request, `hello`. The moments are the same, in the same order: 0's head, 1's head, 0's body. So 0 gets the same
-- reply in both, and so does 1: the upload has no bytes yet.
use Rattle.std.specs.Prelude.{◌≡◌, ◌==◌, ℕ, List, [], ◌∷◌, ◌++◌, if◌then◌else◌, Option, Some, None}
use Rattle.upload_rules.specs.declared.errors.UploadRefusal.TheVariants.{Full}
use Rattle.upload_rules.specs.Store.{Upload, upload_of}
use Rattle.upload_rules.specs.World.{World}
use Rattle.tus_request.specs.Requests.{Verdict}
use Rattle.tus_action.specs.Acts.{Giving}
use Rattle.tus_session.specs.Streams.{Asked, cut, rest_body}
use Rattle.tus_session.specs.Turns.{Conn, reader}
use Rattle.tus_session.specs.History.{State, Event, Opened, Came, More, Ended, Marked, Served}
use Rattle.tus_session.specs.History.{Outcome, Gave, Done, Refused, conn_in, step, history}
use Rattle.tus_laws.specs.Patches.{moments_in, at_its_head, DonePatch, IsRefused}

-- A moment of a connection: the last byte of a head came, with this verdict; the last byte of an open PATCH's body
-- came; or the connection of an open PATCH ended, with these bytes of its body.
pub data Moment : Type 0 where
  HeadWhole : ℕ → Verdict → Moment
  BodyWhole : ℕ → Asked → Moment
  BodyCut : ℕ → List ℕ → Moment

-- The head moment of a call, if there is one.
abbrev pub head_moment : ℕ → Option Asked → List Moment
head_moment c None = []
head_moment c (Some r) = HeadWhole c r.verdict ∷ []

-- The body moment of a call, which needs an open PATCH.
abbrev pub body_moment : ℕ → Option ℕ → Option Asked → List Moment
body_moment c None o = []
body_moment c (Some d) None = []
body_moment c (Some d) (Some r) = BodyWhole c r ∷ []

-- The moments of a call. It takes nothing while a text is pending.
abbrev pub came_moments : World → ℕ → List ℕ → Conn → Option Giving → List Moment
came_moments w c piece k (Some g) = []
came_moments w c piece k None =
    head_moment c (moments_in w k piece).head
    ++ body_moment c (at_its_head w k piece).draft (moments_in w k piece).body

-- The moment of a connection's end, if a PATCH is open.
abbrev pub cut_moment : World → ℕ → Conn → Option ℕ → List Moment
cut_moment w c k None = []
cut_moment w c k (Some d) = BodyCut c (rest_body (cut (reader w) k.stream).rest) ∷ []

-- The moments of a call, if the connection is open.
abbrev pub came_moments_on : World → ℕ → List ℕ → Option Conn → List Moment
came_moments_on w c piece None = []
came_moments_on w c piece (Some k) = came_moments w c piece k k.pending

-- The moments of a connection's end, if it is open.
abbrev pub ended_moments_on : World → ℕ → Option Conn → List Moment
ended_moments_on w c None = []
ended_moments_on w c (Some k) = cut_moment w c k k.draft

abbrev pub event_moments : State → Event → List Moment
event_moments st (Opened c) = []
event_moments st (Came c piece) = came_moments_on st.world c piece (st.conns c)
event_moments st (More c) = []
event_moments st (Ended c) = ended_moments_on st.world c (st.conns c)

-- The moments of a history, in their order.
abbrev pub all_moments : State → List Marked → List Moment
all_moments start [] = []
all_moments start (e ∷ past) = all_moments start past ++ event_moments (history start past) e.0

abbrev pub outcome_bytes : Outcome → List ℕ
outcome_bytes (Gave bytes taken closes more) = bytes
outcome_bytes Done = []
outcome_bytes (Refused f) = []

-- The bytes that a connection gets in a history.
abbrev pub bytes_given : State → ℕ → List Marked → List ℕ
bytes_given start c [] = []
bytes_given start c (e ∷ past) =
    bytes_given start c past ++ (if conn_in e.0 == c then outcome_bytes (step (history start past) e.0 e.1).outcome
    else [])

-- What is left of a text, if there is one.
abbrev pub text_left : Option Giving → List ℕ
text_left None = []
text_left (Some g) = g.left

-- The text that is pending for a connection.
abbrev pub still_to_give : Option Conn → List ℕ
still_to_give None = []
still_to_give (Some k) = text_left k.pending

-- No text is cut off: its upload exists when more of it is given, and no connection ends before its text is taken.
abbrev pub CutsNoText : State → Event → Type 0
CutsNoText st (Opened c) = Unit {0}
CutsNoText st (Came c piece) = Unit {0}
CutsNoText st (More c) =
    (k : Conn) (g : Giving) → st.conns c ≡ Some k → k.pending ≡ Some g
    → (u : Upload) × (upload_of st.world.store g.number ≡ Some u)
CutsNoText st (Ended c) = still_to_give (st.conns c) ≡ []

-- The event is served, no PATCH that is done at it is refused for room, and no text is cut off.
pub record IsSmooth (st : State) (e : Marked) : Type 0 where
  pub served : e.1 ≡ Served
  pub roomy : (x : DonePatch st e.0) → IsRefused x Full → ⊥
  pub text : CutsNoText st e.0

-- The same of every event.
abbrev pub AllSmooth : State → List Marked → Type 0
AllSmooth start [] = Unit {0}
AllSmooth start (e ∷ past) = AllSmooth start past × IsSmooth (history start past) e
