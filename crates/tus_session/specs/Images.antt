-- Which uploads crash images may show. The latest event of each list is its first.
use Rattle.std.specs.Prelude.{◌≤◌, ℕ, List, [], ◌∷◌, Option}
use Rattle.upload_rules.specs.Store.{Store}
use Rattle.upload_rules.specs.Answers.{Among}
use Rattle.tus_session.specs.History.{State, Event, Mark, Marked, Served, OutOfMemory, Failed, step, history}

-- The uploads after an event. After a disk fault they are those that the event, served, would have made.
abbrev pub shown_by : State → Event → Mark → Store
shown_by st e Served = (step st e Served).state.world.store
shown_by st e OutOfMemory = (step st e OutOfMemory).state.world.store
shown_by st e Failed = (step st e Served).state.world.store

-- The uploads after all events, after all but the latest, and so on, down to those before the first.
abbrev pub stores_of : State → List Marked → List Store
stores_of st [] = st.world.store ∷ []
stores_of st (e ∷ past) = shown_by (history st past) e.0 e.1 ∷ stores_of st past

-- The uploads after all events, and after all but the latest.
abbrev pub last_stores : State → List Marked → List Store
last_stores st [] = st.world.store ∷ []
last_stores st (e ∷ past) = shown_by (history st past) e.0 e.1 ∷ (history st past).world.store ∷ []

-- The block count before the latest event.
abbrev pub last_blocks : State → List Marked → Option ℕ
last_blocks st [] = st.world.blocks
last_blocks st (e ∷ past) = (history st past).world.blocks

-- Since some moment up to now, crash images show the uploads after all events or after all but the latest.
pub record ShowsLast (moment : ℕ) (left_only : Option ℕ → ℕ → List Store → Type 0) (st : State) (past : List Marked) :
    Type 0 where
  pub since : ℕ
  pub reached : since ≤ moment
  pub left : left_only (last_blocks st past) since (last_stores st past)

-- Each of these stores is in that list.
abbrev pub AllAmong : List Store → List Store → Type 0
AllAmong [] ms = Unit {0}
AllAmong (m ∷ stores) ms = Among m ms × AllAmong stores ms

-- Every limit on crash images that includes these stores still holds.
pub record LimitsTo (moment moment' : ℕ) (left_only left_only' : Option ℕ → ℕ → List Store → Type 0)
    (stores : List Store) : Type 0 where
  pub later : moment ≤ moment'
  pub limits : (blocks : Option ℕ) (t : ℕ) (ms : List Store) → t ≤ moment → left_only blocks t ms → AllAmong stores ms
      → left_only' blocks t ms
