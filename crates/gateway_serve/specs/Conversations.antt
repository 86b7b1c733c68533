-- What a history makes of each connection: its conversations.
use Rattle.std.specs.Prelude.{◌≡◌, ◌==◌, ◌+◌, ℕ, Bool, true, false, List, [], ◌∷◌, ◌++◌, take, if◌then◌else◌}
use Rattle.std.specs.Prelude.{Option, Some, None}
use Rattle.common.specs.declared.stop.Stop.TheVariants.{NoMemory, DiskFault}
use Rattle.tus_action.specs.Serves.{Appends}
use Rattle.tus_session.specs.At.{at_in}
use Rattle.tus_session.specs.declared.at.At.{At}
use Rattle.tus_session.specs.declared.at.At.TheVariants.{Between}
use Rattle.tus_session.specs.declared.errors.SessionError.{SessionError}
use Rattle.tus_session.specs.declared.errors.SessionError.TheVariants.{Stop, TooMany, Closed, Down}
use Rattle.tus_session.specs.History.{State, Event, Opened, Came, More, Ended, Marked, Outcome, Gave, Done, step}
use Rattle.tus_session.specs.History.{history, conn_in, Refused}

-- all bytes that the calls for a connection took and gave since it was opened, what it was at after the latest of them,
-- and whether it was reported to the session that its client is gone
pub record Conversation : Type 0 where
  pub took : List ℕ
  pub gave : List ℕ
  pub at : Option At
  pub disconnected : Bool

abbrev pub new_conversation : Conversation
new_conversation = record { took = []; gave = []; at = Some Between; disconnected = false }

abbrev pub longer_conversation : Conversation → List ℕ → List ℕ → Option At → Conversation
longer_conversation c took gave at =
    record { took = c.took ++ took; gave = c.gave ++ gave; at = at; disconnected = c.disconnected }

abbrev pub hung_up : Conversation → Conversation
hung_up c = record { took = c.took; gave = c.gave; at = c.at; disconnected = true }

-- a refusal closes it, but for a disk fault, which leaves all as it is
abbrev pub closed_now : Conversation → Conversation
closed_now c = record { took = c.took; gave = c.gave; at = None; disconnected = c.disconnected }

abbrev pub refused_on : SessionError → Conversation → Conversation
refused_on (Stop NoMemory) c = closed_now c
refused_on (Stop DiskFault) c = c
refused_on TooMany c = closed_now c
refused_on Closed c = closed_now c
refused_on Down c = closed_now c

abbrev pub latest : (Conversation → Conversation) → List Conversation → List Conversation
latest f [] = []
latest f (c ∷ cs) = f c ∷ cs

-- what an event and its outcome make of the conversations of its connection, which is at this after it
abbrev pub goes_on : Event → Outcome → Option At → List Conversation → List Conversation
goes_on (Opened n) Done at cs = new_conversation ∷ cs
goes_on (Came n piece) (Gave bytes taken closes more) at cs =
    latest (λ c. longer_conversation c (take taken piece) bytes at) cs
goes_on (Came n piece) (Refused f) at cs = latest (refused_on f) cs
goes_on (More n) (Gave bytes taken closes more) at cs = latest (λ c. longer_conversation c [] bytes at) cs
goes_on (More n) (Refused f) at cs = latest (refused_on f) cs
goes_on (Ended n) outcome at cs = latest hung_up cs
goes_on e outcome at cs = cs

-- THE CONVERSATIONS of the connection with this number, one for each time that it was opened, the latest first
unfoldable pub conversations : State → List Marked → ℕ → List Conversation
conversations st [] n = []
conversations st (e ∷ past) n =
    let t = step (history st past) e.0 e.1 in
    if n == conn_in e.0 then goes_on e.0 t.outcome (at_in t.state n) (conversations st past n)
    else conversations st past n

-- WHATEVER THE DISK. An outcome as it may be: where that isn't sure, the bytes of a text that it ends in may be others,
-- as many
abbrev pub GaveAs : Bool → Outcome → List ℕ → Outcome → Type 0
GaveAs sure (Gave bytes taken closes more) text o =
    (given : List ℕ) × Appends sure [] given bytes text × (o ≡ Gave given taken closes more)
GaveAs sure outcome text o = o ≡ outcome

abbrev pub Either : Bool → Type 0 → Type 0 → Type 0
Either true X Y = X
Either false X Y = Y

-- conversations as they may be, of what the calls gave
abbrev pub AreTalks : Bool → State → List Marked → ℕ → List Conversation → Type 0
AreTalks sure st [] n cs = cs ≡ []
AreTalks sure st (e ∷ past) n cs =
    let t = step (history st past) e.0 e.1 in
    Either (n == conn_in e.0)
    ((before : List Conversation) × (o : Outcome) × AreTalks sure st past n before × GaveAs sure t.outcome t.text o
    × (cs ≡ goes_on e.0 o (at_in t.state n) before)) (AreTalks sure st past n cs)

-- HOW MANY CLIENTS the session refused a connection in these events
abbrev pub one_if_refusal : Outcome → ℕ
one_if_refusal (Gave bytes taken closes more) = 0
one_if_refusal Done = 0
one_if_refusal (Refused f) = 1

abbrev pub one_if_refused : Event → Outcome → ℕ
one_if_refused (Opened n) outcome = one_if_refusal outcome
one_if_refused (Came n piece) outcome = 0
one_if_refused (More n) outcome = 0
one_if_refused (Ended n) outcome = 0

abbrev pub count_refused : State → List Marked → ℕ
count_refused st [] = 0
count_refused st (e ∷ past) =
    one_if_refused e.0 (step (history st past) e.0 e.1).outcome + count_refused st past

abbrev pub AreRefused : ℕ → State → List Marked → Type 0
AreRefused refused st past = refused ≡ count_refused st past
