-- What serving makes of connections.
use Rattle.std.specs.Prelude.{◌≡◌, ℕ, Bool, true, List, ◌∷◌, Result, Ok, Err}
use Rattle.common.specs.declared.stop.DiskFault.{DiskFault}
use Rattle.tus_session.specs.History.{State, Event, Marked, Failed, history}
use Rattle.tus_session.specs.Images.{stores_of, ShowsLast, LimitsTo}
use Rattle.tus_session.specs.declared.connections.Connections.{Ghosts}
use Rattle.gateway_serve.specs.Conversations.{Conversation, AreTalks, AreRefused}
use Rattle.gateway_serve.specs.Sockets.{current_of, Fits, Served, Pairs}
use Rattle.gateway_serve.specs.declared.sockets.Seen.{Seen}

-- from the connections before these events to those now, images are limited to the uploads after all of the events,
-- all but the latest, and so on
abbrev pub ImagesShow : {C : Type 0} → Ghosts C → C → C → State → List Marked → Type 0
ImagesShow c before now st past = LimitsTo (c.moment before) (c.moment now) (c.left_only before) (c.left_only now)
    (stores_of st past)

-- these events came, and the connections are where their history is. What images show is claimed only where the disk is
-- known to be honest
pub record WentOn {C : Type 0} (c : Ghosts C) (sure : Bool) (before now : C) (st : State) (past : List Marked) :
    Type 0 where
  pub represents : c.represents now sure (history st past)
  pub images : sure ≡ true → ImagesShow c before now st past

-- these events came, and at the latest of them the disk failed. The connections are down, and only their images are
-- known: now they show the uploads after all events, or after all but the latest one
pub record WentDown {C : Type 0} (c : Ghosts C) (sure : Bool) (before now : C) (st : State) (past : List Marked) :
    Type 0 where
  pub images : sure ≡ true → ImagesShow c before now st past
  pub last : sure ≡ true → ShowsLast (c.moment now) (c.left_only now) st past
  pub down : c.down now ≡ true

-- What a part of serving did: some events came, of which the one fact holds, or the other where the disk failed at
-- the latest
abbrev pub ServesPart : {C T : Type 0} → Ghosts C → Bool → C → C → State → Result T DiskFault → (List Marked → Type 0)
    → (List Marked → Type 0) → Type 0
ServesPart c sure before now st (Ok x) On Down = (past : List Marked) × WentOn c sure before now st past × On past
ServesPart c sure before now st (Err fault) On Down = (past : List Marked) × (e : Event)
    × WentDown c sure before now st ((e, Failed) ∷ past) × Down ((e, Failed) ∷ past)

-- the connection is as it was before these events: closed, if it was
abbrev pub IsBack : State → List Marked → ℕ → Type 0
IsBack st past n = (history st past).conns n ≡ st.conns n

-- ALL ARE SERVED: the sockets of each connection are one for each of its conversations, and it is closed again. So many
-- clients were refused a connection
abbrev pub AllServed : Bool → List Seen → ℕ → State → List Marked → Type 0
AllServed sure current refused st past =
    ((n : ℕ) → (cs : List Conversation) × AreTalks sure st past n cs × Pairs Served (current_of n current) cs
    × IsBack st past n)
    × AreRefused refused st past

-- the same of sockets that serving left when the disk failed
abbrev pub AllLeft : Bool → List Seen → ℕ → State → List Marked → Type 0
AllLeft sure current refused st past =
    ((n : ℕ) → (cs : List Conversation) × AreTalks sure st past n cs × Pairs Fits (current_of n current) cs)
    × AreRefused refused st past
