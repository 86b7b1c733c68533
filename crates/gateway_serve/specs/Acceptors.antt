-- What listeners were asked, and what became of the clients that they gave.
use Rattle.std.specs.Prelude.{◌≡◌, ◌⊎◌, ◌≤◌, ℕ, ◌+◌, ◌*◌, List, [], ◌∷◌, ◌++◌, length, Bool, true, false, is_some}
use Rattle.std.specs.Prelude.{Option, Some, None, if◌then◌else◌}
use Rattle.gateway_serve.specs.Counted.{count_closed}
use Rattle.gateway_serve.specs.declared.sockets.Seen.{Seen}
use Rattle.gateway_serve.specs.declared.acceptors.Listening.{Listening}
use Rattle.gateway_serve.specs.declared.doors.AtDoor.{AtDoor}
use Rattle.gateway_serve.specs.declared.doors.AtDoor.TheVariants.{Asked, Passed, Waited, LetIn}
use Rattle.gateway_serve.specs.declared.doors.Clients.{Clients}
use Rattle.gateway_serve.specs.declared.doors.Door.{Door}
use Rattle.gateway_serve.specs.declared.idle.Pace.{Pace}
use Rattle.std.specs.declared.time.Duration.{Duration}

-- the record of a listener of the operating system
abbrev pub answers_of : {L : Type 0} → Listening L → List Bool
answers_of l = l.answers.items

-- how many turns are still to pass it over
abbrev pub passes_of : Pace → ℕ
passes_of p = p.left

-- and when it was asked last
abbrev pub asked_of : Pace → Duration
asked_of p = p.asked

-- how many of these answers gave a client
abbrev pub one_when : Bool → ℕ
one_when b = if b then 1 else 0

unfoldable pub count_given : List Bool → ℕ
count_given [] = 0
count_given (gave ∷ answers) = one_when gave + count_given answers

-- WHAT WAS DONE at the door, the latest first: whether a client waits after it. The listener is asked, or passed over,
-- only while none waits; a turn is one in which a client waited only while one does; and one who waits is let in
pub data Waits : List AtDoor → Bool → Type 0 where
  nobody : Waits [] false
  asked : (gave : Bool) (done : List AtDoor) → Waits done false → Waits (Asked gave ∷ done) gave
  passed : (done : List AtDoor) → Waits done false → Waits (Passed ∷ done) false
  waited : (done : List AtDoor) → Waits done true → Waits (Waited ∷ done) true
  let_in : (done : List AtDoor) → Waits done true → Waits (LetIn ∷ done) false

-- the answers of the listener in it, the turns that it took, and those in which a client waited
abbrev pub answers_in : List AtDoor → List Bool
answers_in [] = []
answers_in (Asked gave ∷ done) = gave ∷ answers_in done
answers_in (Passed ∷ done) = answers_in done
answers_in (Waited ∷ done) = answers_in done
answers_in (LetIn ∷ done) = answers_in done

abbrev pub count_turns : List AtDoor → ℕ
count_turns [] = 0
count_turns (Asked gave ∷ done) = 1 + count_turns done
count_turns (Passed ∷ done) = 1 + count_turns done
count_turns (Waited ∷ done) = 1 + count_turns done
count_turns (LetIn ∷ done) = count_turns done

abbrev pub count_waits : List AtDoor → ℕ
count_waits [] = 0
count_waits (Asked gave ∷ done) = count_waits done
count_waits (Passed ∷ done) = count_waits done
count_waits (Waited ∷ done) = 1 + count_waits done
count_waits (LetIn ∷ done) = count_waits done

-- and whether a client waits for a place in each of its turns, once the door has had its part
abbrev pub none_waits : List Bool → List Bool
none_waits [] = []
none_waits (waits ∷ before) = false ∷ before

abbrev pub waits_in : List AtDoor → List Bool
waits_in [] = []
waits_in (Asked gave ∷ done) = gave ∷ waits_in done
waits_in (Passed ∷ done) = false ∷ waits_in done
waits_in (Waited ∷ done) = true ∷ waits_in done
waits_in (LetIn ∷ done) = none_waits (waits_in done)

-- WHAT BECOMES OF CLIENTS in so many turns, in which this was done, of a listener that had answered this before: each
-- that it gave has a connection, or was refused one, or waits for a place. It is asked in at least every 32nd turn, but
-- for those in which one waits; so many turns may pass it over before the next one
pub record LetsIn (before answers : List Bool) (turns : ℕ) (done : List AtDoor) (clients : Clients) (waits : Bool)
    (passes : ℕ) : Type 0 where
  pub waiting : Waits done waits
  pub taken : count_turns done ≡ turns
  pub asked : answers ≡ answers_in done ++ before
  pub each : count_given (answers_in done) ≡ clients.opened + clients.refused + one_when waits
  pub waited : clients.waits ≡ count_waits done
  pub most : length (answers_in done) + clients.waits ≤ turns
  pub often : turns + passes ≤ 32 * length (answers_in done) + clients.waits

abbrev pub done_of : {S : Type 0} → Door S → List AtDoor
done_of d = d.done.items

-- a client is let in, if one waits
abbrev pub done_with : {T : Type 0} → Option T → List AtDoor → List AtDoor
done_with None done = done
done_with (Some client) done = LetIn ∷ done

abbrev pub LetsInBy : {S : Type 0} → List Bool → List Bool → ℕ → Door S → Type 0
LetsInBy before answers turns d =
    LetsIn before answers turns (done_of d) d.clients (is_some d.waiting) (passes_of d.pace)

-- its turn, after those: whether a client waits
abbrev pub TakesTurn : {S : Type 0} → List Bool → Door S → Type 0
TakesTurn before d = waits_in (done_of d) ≡ is_some d.waiting ∷ before

-- WHILE IT SERVES, for all of its turns unless it ended before: the disk failed, or so many connections were closed,
-- without those that its own end closes
pub record TakesTurns (before answers : List Bool) (turns connections : ℕ) (done : List AtDoor) (clients : Clients)
    (ended : List Seen) (failed : Type 0) : Type 0 where
  pub taken : ℕ
  pub waits : Bool
  pub lets : LetsIn before answers taken done clients waits 0
  pub all : failed ⊎ (connections ≤ count_closed ended) ⊎ (taken ≡ turns)

-- WHEN IT HAS SERVED: each client that got a connection has a socket that ended, and it served no more once so many
-- connections were closed
pub record HasServed (before answers : List Bool) (turns connections : ℕ) (done : List AtDoor) (clients : Clients)
    (ended : List Seen) (failed : Type 0) : Type 0 where
  pub served : TakesTurns before answers turns connections done clients ended failed
  pub opened : clients.opened ≡ length ended
  pub stops : count_closed ended ≤ connections
