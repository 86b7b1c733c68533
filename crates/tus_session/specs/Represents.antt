-- The abstraction relation of a session: the state that it represents.
use Rattle.std.specs.Prelude.{◌≡◌, ◌+◌, ◌≤◌, ◌<◌, ◌-◌, ℕ, List, [], length, get_or, Option, Some, None, Bool}
use Rattle.tus_request.specs.Requests.{Request, Asks, body_length}
use Rattle.tus_request.specs.Buffers.{head_bytes}
use Rattle.upload_rules.specs.Lengths.{known_or, longest}
use Rattle.upload_rules.specs.Store.{upload_of, find, accepted_count}
use Rattle.upload_rules.specs.Grown.{GrewFrom}
use Rattle.upload_rules.specs.World.{Patch, World}
use Rattle.upload_rules.specs.Apart.{IsApart}
use Rattle.upload_rules.specs.Calls.{dropped}
use Rattle.upload_rules.specs.declared.uploads.Uploads.{Ghosts}
use Rattle.tus_action.specs.Acts.{Giving}
use Rattle.tus_action.specs.Serves.{IsGiving}
use Rattle.tus_action.specs.declared.acts.Giving as given
use Rattle.tus_session.specs.Streams.{Asked, Rest, InHead, InBody, cut}
use Rattle.tus_session.specs.Turns.{Conn, reader}
use Rattle.tus_session.specs.Heads.{InsideHead}
use Rattle.tus_session.specs.History.{State}
use Rattle.tus_session.specs.declared.session.TheConstants.{MOST_OPEN}
use Rattle.tus_action.specs.declared.bodies.OpenPatch.{OpenPatch}
use Rattle.tus_session.specs.declared.conns.Awaiting.{Awaiting}
use Rattle.tus_session.specs.declared.conns.Awaiting.TheVariants as awaits
use Rattle.tus_session.specs.declared.conns.Link.{Link}

-- The open patch belongs to request r: its draft, body and offset are those of the history.
pub record PatchesAs {U B : Type 0} (u : Ghosts U B) (w : World) (b : OpenPatch B) (asked : Asked) (r : Request)
    (p : Patch) : Type 0 where
  pub found : find (u.number_of b.draft) w.patches ≡ Some p
  pub holds : u.holds b.draft p
  pub asks : asked.verdict ≡ Asks r
  pub count : p.count ≡ r.length
  pub body : p.body ≡ asked.body
  pub reached : b.reached ≡ accepted_count p.began + p.count
  pub fits : accepted_count p.began + p.count ≤ longest (known_or p.began.declared p.declare)
  pub below : p.number < w.store.next
  pub grown : GrewFrom p (upload_of w.store p.number)
  pub bare : b.bare ≡ r.bare
  pub closes : b.closes ≡ r.closes

-- The stream ends in a body that misses `left` bytes, at least one. The head buffer is empty.
pub record InsideBody (w : World) (conn : Conn) (head : List ℕ) (left : ℕ) (asked : Asked) : Type 0 where
  pub rest : (cut (reader w) conn.stream).rest ≡ InBody asked
  pub cleared : head ≡ []
  pub some : 0 < left
  pub wanted : left ≡ body_length asked.verdict - length asked.body

-- The body is fed to an open patch.
pub record IsPatching {U B : Type 0} (u : Ghosts U B) (w : World) (conn : Conn) (head : List ℕ) (b : OpenPatch B)
    (left : ℕ) : Type 0 where
  pub asked : Asked
  pub r : Request
  pub p : Patch
  pub inside : InsideBody w conn head left asked
  pub draft : conn.draft ≡ Some (u.number_of b.draft)
  pub pending : conn.pending ≡ None
  pub patches : PatchesAs u w b asked r p

-- The body is dropped.
pub record IsSkipping (w : World) (conn : Conn) (head : List ℕ) (left : ℕ) : Type 0 where
  pub asked : Asked
  pub inside : InsideBody w conn head left asked
  pub draft : conn.draft ≡ None
  pub pending : conn.pending ≡ None

-- The head buffer holds an unfinished head, or `left` counts the missing bytes of a body.
abbrev pub RestIs : List ℕ → ℕ → Rest → Type 0
RestIs head left (InHead h) = (head ≡ h) × (left ≡ 0)
RestIs head left (InBody r) = (head ≡ []) × (left ≡ body_length r.verdict - length r.body)

-- A text is pending.
pub record IsGivingText (w : World) (conn : Conn) (head : List ℕ) (g : given.Giving) (left : ℕ) : Type 0 where
  pub h : Giving
  pub rest : RestIs head left (cut (reader w) conn.stream).rest
  pub draft : conn.draft ≡ None
  pub pending : conn.pending ≡ Some h
  pub gives : IsGiving w.store g h

-- What a connection awaits represents the connection of the history.
abbrev pub LinkIs : {U B : Type 0} → Ghosts U B → World → List ℕ → Awaiting B → Conn → Type 0
LinkIs u w head awaits.Head conn = InsideHead w conn head
LinkIs u w head (awaits.Patch b left) conn = IsPatching u w conn head b left
LinkIs u w head (awaits.Skip left) conn = IsSkipping w conn head left
LinkIs u w head (awaits.Text g left) conn = IsGivingText w conn head g left

-- A place represents an open connection or none.
abbrev pub PlaceIs : {U B : Type 0} → Ghosts U B → World → Option (Link B) → Option Conn → Type 0
PlaceIs u w None None = Unit {0}
PlaceIs u w (Some k) (Some conn) = LinkIs u w (head_bytes k.head) k.awaiting conn
PlaceIs u w _ _ = ⊥

-- The draft of a connection.
abbrev pub draft_of_conn : Option Conn → Option ℕ
draft_of_conn None = None
draft_of_conn (Some conn) = conn.draft

-- The store represents the history's world and each place its connection. No two connections share a draft.
pub record SessionRepresents {U B : Type 0} (u : Ghosts U B) (sure : Bool) (places : List (Option (Link B))) (store : U)
    (st : State) : Type 0 where
  pub count : length places ≡ MOST_OPEN
  pub shown : u.represents store sure st.world
  pub each : (c : ℕ) → PlaceIs u st.world (get_or places c None) (st.conns c)
  pub apart : (c e d : ℕ) → draft_of_conn (st.conns c) ≡ Some d → draft_of_conn (st.conns e) ≡ Some d → c ≡ e
  pub unique : IsApart st.world.patches
  -- Each open patch belongs to a connection. Over a spool, the reserved blocks are therefore exactly what they need.
  pub owned : (d : ℕ) (p : Patch) → find d st.world.patches ≡ Some p → (c : ℕ) × (draft_of_conn (st.conns c) ≡ Some d)

-- The world without the draft that is open.
abbrev pub dropped_by : {U B : Type 0} → Ghosts U B → World → Awaiting B → World
dropped_by u w awaits.Head = w
dropped_by u w (awaits.Patch b left) = dropped w (u.number_of b.draft)
dropped_by u w (awaits.Skip left) = w
dropped_by u w (awaits.Text g left) = w
