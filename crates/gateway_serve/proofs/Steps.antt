-- What an event makes of the open connections.
use Rattle.std.proofs.Common.{◌≡◌, ℕ, true, false, List, Option, None, arith}
use Rattle.std.proofs.Common.{◌==◌}
use Rattle.std.proofs.lemmas.Bool.Decides.{nat_tests}
use Rattle.tus_session.specs.Turns.{Conn}
use Rattle.tus_session.specs.History.{State, Event, Opened, Came, More, Ended, Mark, Served, OutOfMemory, Failed}
use Rattle.tus_session.specs.History.{Outcome, Gave, Done, Refused, is_closed}
use Rattle.tus_session.specs.History.{conn_in, step}
use Rattle.tus_session.proofs.InPlace.{conns_here, conns_else}

pub same_number : (n : ℕ) → (n == n) ≡ true
same_number n = grind (arith, nat_tests)

pub other_number : (k n : ℕ) → (k ≡ n → ⊥) → (k == n) ≡ false
other_number k n ne = grind (arith, nat_tests)

-- THE OTHER CONNECTIONS are as they were
pub step_else : (st : State) (k : ℕ) (e : Event) (m : Mark) → (k ≡ conn_in e → ⊥)
    → (step st e m).state.conns k ≡ st.conns k
unfolding step
step_else st k e m ne = grind (arith, conns_else)

-- ITS OWN CONNECTION. An answer that closes it, or none
abbrev pub Shuts : Outcome → Type 0
Shuts (Gave bytes taken closes more) = closes ≡ true
Shuts Done = Unit {0}
Shuts (Refused f) = Unit {0}

none_from : (o : Option Conn) → is_closed o ≡ true → o ≡ None
none_from o e = grind arith

module _ (st : State) (c : ℕ) where
  pub came_shuts : (piece : List ℕ) → Shuts (step st (Came c piece) Served).outcome
      → (step st (Came c piece) Served).state.conns c ≡ None
  unfolding step
  came_shuts piece s = grind (arith, conns_here, none_from)

  pub came_lost : (piece : List ℕ) → (step st (Came c piece) OutOfMemory).state.conns c ≡ None
  unfolding step
  came_lost piece = grind (arith, conns_here)

  pub came_failed : (piece : List ℕ) → (step st (Came c piece) Failed).state.conns c ≡ st.conns c
  unfolding step
  came_failed piece = grind arith

  pub more_shuts : Shuts (step st (More c) Served).outcome → (step st (More c) Served).state.conns c ≡ None
  unfolding step
  more_shuts s = grind (arith, conns_here, none_from)

  pub more_lost : (step st (More c) OutOfMemory).state.conns c ≡ None
  unfolding step
  more_lost = grind (arith, conns_here)

  pub more_failed : (step st (More c) Failed).state.conns c ≡ st.conns c
  unfolding step
  more_failed = grind arith

  pub ended_shuts : (step st (Ended c) Served).state.conns c ≡ None
  unfolding step
  ended_shuts = grind (arith, conns_here)

  pub ended_lost : (step st (Ended c) OutOfMemory).state.conns c ≡ None
  unfolding step
  ended_lost = grind (arith, conns_here)

  -- one that is opened wasn't open
  pub opens_closed : (m : Mark) → (step st (Opened c) m).outcome ≡ Done → st.conns c ≡ None
  unfolding step
  opens_closed m done = grind arith

  pub unopened : (m : Mark) → ((step st (Opened c) m).outcome ≡ Done → ⊥)
      → (step st (Opened c) m).state.conns c ≡ st.conns c
  unfolding step
  unopened m undone = grind arith
