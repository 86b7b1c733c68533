-- What an event that isn't served makes of the uploads: nothing.
use Rattle.std.proofs.Common.{◌≡◌, ℕ, Bool, true, false, Option, Some, None, refl, nat_lt}
use Rattle.upload_rules.specs.World.{World}
use Rattle.tus_session.specs.Turns.{Conn, left_world}
use Rattle.tus_session.specs.History.{State, Event, Opened, Came, More, Ended, OutOfMemory, Failed}
use Rattle.tus_session.specs.declared.session.TheConstants.{MOST_OPEN}
use Rattle.tus_session.specs.History.{opened_if, opened_at, lost_at, failed_at, step}

put_uploads : (st : State) (c : ℕ) (b : Bool)
    → (opened_if st c b).state.world.store ≡ st.world.store
put_uploads st c true = refl
put_uploads st c false = refl

pub opened_uploads : (st : State) (c : ℕ) (o : Option Conn) → (opened_at st c o).state.world.store ≡ st.world.store
opened_uploads st c None = put_uploads st c (nat_lt c MOST_OPEN)
opened_uploads st c (Some k) = refl

left_uploads : (w : World) (own : Option ℕ) → (left_world w own).store ≡ w.store
left_uploads w None = refl
left_uploads w (Some d) = refl

lost_uploads : (st : State) (c : ℕ) (o : Option Conn) → (lost_at st c o).state.world.store ≡ st.world.store
lost_uploads st c None = refl
lost_uploads st c (Some k) = left_uploads st.world k.draft

failed_uploads : (st : State) (c : ℕ) (o : Option Conn) → (failed_at st c o).state.world.store ≡ st.world.store
failed_uploads st c None = refl
failed_uploads st c (Some k) = refl

-- an event that is out of memory, or at which the disk fails, makes nothing
pub memory_same : (st : State) (e : Event) → (step st e OutOfMemory).state.world.store ≡ st.world.store
unfolding step
memory_same st (Opened c) = opened_uploads st c (st.conns c)
memory_same st (Came c piece) = lost_uploads st c (st.conns c)
memory_same st (More c) = lost_uploads st c (st.conns c)
memory_same st (Ended c) = lost_uploads st c (st.conns c)

pub fault_same : (st : State) (e : Event) → (step st e Failed).state.world.store ≡ st.world.store
unfolding step
fault_same st (Opened c) = opened_uploads st c (st.conns c)
fault_same st (Came c piece) = failed_uploads st c (st.conns c)
fault_same st (More c) = failed_uploads st c (st.conns c)
fault_same st (Ended c) = failed_uploads st c (st.conns c)
