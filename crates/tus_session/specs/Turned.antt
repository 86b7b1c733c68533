-- The results of a turn on one connection.
use Rattle.std.specs.Prelude.{◌≡◌, ℕ, List, Option, None, Result, Ok, Err, Bool}
use Rattle.upload_rules.specs.World.{World}
use Rattle.upload_rules.specs.declared.uploads.Uploads.{Ghosts}
use Rattle.tus_session.specs.Turns.{Turn, left_world}
use Rattle.tus_session.specs.History.{is_closed, has_text}
use Rattle.tus_session.specs.Represents.{PlaceIs, draft_of_conn}
use Rattle.tus_session.specs.Moves.{Moves}
use Rattle.tus_session.specs.declared.answers.Answer.{Answer}
use Rattle.tus_session.specs.declared.conns.Link.{Link}
use Rattle.tus_action.specs.Serves.{Appends}
use Rattle.common.specs.declared.stop.Stop.{Stop}
use Rattle.common.specs.declared.stop.Stop.TheVariants.{NoMemory, DiskFault}

-- The store represents the turn's world and the link its connection, and the answer has its numbers and bytes.
pub record TurnedAs {U B : Type 0} (u : Ghosts U B) (sure : Bool) (store : U) (link : Option (Link B)) (a : Answer)
    (old new : List ℕ) (w : World) (own : Option ℕ) (t : Turn) : Type 0 where
  pub shown : u.represents store sure t.world
  pub here : PlaceIs u t.world link t.conn
  pub moves : Moves w t.world own (draft_of_conn t.conn)
  pub taken : a.taken ≡ t.taken
  pub closes : a.closes ≡ is_closed t.conn
  pub more : a.more ≡ has_text t.conn
  pub bytes : Appends sure old new t.bytes t.text

-- The turn is done; or it was out of memory and the draft is gone; or a disk fault stopped it. Every error closes the
-- connection.
abbrev pub Turned : {U B : Type 0} → Ghosts U B → Bool → U → Result (Option (Link B) × Answer) Stop → List ℕ → List ℕ
    → World → Option ℕ → Turn → Type 0
Turned u sure store (Ok (link, a)) old new w own t = TurnedAs u sure store link a old new w own t
Turned u sure store (Err NoMemory) old new w own t = u.represents store sure (left_world w own) × (new ≡ old)
Turned u sure store (Err DiskFault) old new w own t = new ≡ old

-- The connection ended, and its draft is spent.
pub record EndedAs {U B : Type 0} (u : Ghosts U B) (sure : Bool) (store : U) (w : World) (own : Option ℕ)
    (done : World) : Type 0 where
  pub shown : u.represents store sure done
  pub moves : Moves w done own None

-- The result of a connection's end.
abbrev pub Ended : {U B : Type 0} → Ghosts U B → Bool → U → Result (Unit {0}) Stop → World → Option ℕ → World → Type 0
Ended u sure store (Ok x) w own done = EndedAs u sure store w own done
Ended u sure store (Err NoMemory) w own done = u.represents store sure (left_world w own)
Ended u sure store (Err DiskFault) w own done = Unit {0}
