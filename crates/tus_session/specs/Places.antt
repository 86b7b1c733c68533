-- The places of a session.
use Rattle.std.specs.Prelude.{◌≡◌, ◌≢◌, ℕ, List, length, get_or, Option, Some, None}
use Rattle.upload_rules.specs.declared.uploads.Uploads.{Ghosts}
use Rattle.tus_request.specs.Buffers.{head_bytes}
use Rattle.tus_session.specs.History.{State}
use Rattle.tus_session.specs.Represents.{LinkIs}
use Rattle.tus_session.specs.Turns.{Conn}
use Rattle.tus_session.specs.declared.conns.Link.{Link}
use Rattle.tus_session.specs.declared.session.Session.{Session}

-- The places of the connections, by their numbers.
abbrev pub links_of : {U B : Type 0} → Session U B → List (Option (Link B))
links_of s = s.links.items

-- The same places with another connection at k.
pub record IsLinkPut {B : Type 0} (places all : List (Option (Link B))) (k : ℕ) (next : Option (Link B)) : Type 0 where
  pub count : length all ≡ length places
  pub here : get_or all k None ≡ next
  pub others : (j : ℕ) → j ≢ k → get_or all j None ≡ get_or places j None

-- Connection c is open in the history, and this link represents it.
abbrev pub IsOpen : {U B : Type 0} → Ghosts U B → State → ℕ → Link B → Type 0
IsOpen u st c k =
    (conn : Conn) × (st.conns c ≡ Some conn) × LinkIs u st.world (head_bytes k.head) k.awaiting conn
