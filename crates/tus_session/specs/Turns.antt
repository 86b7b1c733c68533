-- What an event makes of the world and of its connection.
use Rattle.std.specs.Prelude.{ℕ, ◌+◌, ◌-◌, ◌*◌, Bool, true, false, List, [], ◌++◌, length, take, if◌then◌else◌}
use Rattle.std.specs.Prelude.{Option, Some, None}
use Rattle.tus_request.specs.Answers.{answer_of}
use Rattle.tus_request.specs.Replies.{longest_reply, GrowsBy}
use Rattle.enc_model.specs.Indexes.{offers}
use Rattle.upload_rules.specs.Store.{Upload, find, upload_of}
use Rattle.upload_rules.specs.World.{Patch, World}
use Rattle.upload_rules.specs.Calls.{commit_refusal, spent, dropped}
use Rattle.tus_action.specs.Acts.{Giving, Acted, acted, is_pending, pending_after, piece_of, fed}
use Rattle.tus_action.specs.declared.reads.TheConstants.{PIECE}
use Rattle.tus_action.specs.Acts.{commit_with}
use Rattle.tus_session.specs.Streams.{Asked, Reader, Moments, moments, taken}

-- An open connection: its stream, the number of its open draft, and its pending text.
pub record Conn : Type 0 where
  pub stream : List ℕ
  pub draft : Option ℕ
  pub pending : Option Giving

-- A connection that was just opened.
abbrev pub fresh : Conn
fresh = record { stream = []; draft = None; pending = None }

-- At a head moment the request is acted on. Without one, an open patch stays open.
abbrev pub at_head : World → Option ℕ → Option Asked → Acted
at_head w draft None = record { world = w; draft = draft; bytes = []; text = []; pending = None; closes = false }
at_head w draft (Some r) = acted w r.verdict

-- The patch stays open.
abbrev pub still_open : World → ℕ → Acted
still_open w d = record { world = w; draft = Some d; bytes = []; text = []; pending = None; closes = false }

-- At a body moment the patch is committed. Without one it stays open.
abbrev pub at_body : World → ℕ → Option Asked → Acted
at_body w d None = still_open w d
at_body w d (Some r) = commit_with w d r.verdict (find d w.patches)

-- The body's bytes are fed to the open patch, and its moment follows.
abbrev pub body_step : Acted → List ℕ → Option Asked → Option ℕ → Acted
body_step a piece moment None = a
body_step a piece moment (Some d) = let b =
    at_body (fed a.world d piece) d moment in record b { bytes = a.bytes ++ b.bytes }

-- A turn: the world, the connection unless it closed, the bytes given, those of a text at their end, and how many bytes
-- were taken.
pub record Turn : Type 0 where
  pub world : World
  pub conn : Option Conn
  pub bytes : List ℕ
  pub text : List ℕ
  pub taken : ℕ

-- The connection after an act.
abbrev pub conn_of : List ℕ → Acted → Option Conn
conn_of stream a = if a.closes then None else Some (record { stream = stream; draft = a.draft; pending = a.pending })

-- The turn that took n bytes of the piece.
abbrev pub turn_of : Conn → List ℕ → ℕ → Acted → Turn
turn_of k piece n a = record {
  world = a.world;
  conn = conn_of (k.stream ++ take n piece) a;
  bytes = a.bytes;
  text = a.text;
  taken = n;
}

-- The head moment goes first. If it makes a text pending, the call takes the bytes up to the head's end only.
abbrev pub came_with : Conn → List ℕ → ℕ → Moments → Acted → Turn
came_with k piece n m a =
    elim (is_pending a.pending) [
      | true ↦ turn_of k piece (n - length m.came) a
      | false ↦ turn_of k piece n (body_step a m.came m.body a.draft)
    ]

-- The turn of these moments.
abbrev pub came_at : World → Conn → List ℕ → ℕ → Moments → Turn
came_at w k piece n m = came_with k piece n m (at_head w k.draft m.head)

-- The turn that takes n bytes of the piece.
abbrev pub came_to : Reader → World → Conn → List ℕ → ℕ → Turn
came_to answer w k piece n = came_at w k piece n (moments answer k.stream (take n piece))

-- The reader of a world: it judges heads by the encodings that are offered.
abbrev pub reader : World → Reader
reader w = answer_of (offers w.store.indexes)

-- `came` takes nothing while a text is pending.
abbrev pub came_on : World → Conn → List ℕ → Option Giving → Turn
came_on w k piece (Some g) = record { world = w; conn = Some k; bytes = []; text = []; taken = 0 }
came_on w k piece None = came_to (reader w) w k piece (taken (reader w) k.stream piece)

-- The turn of `came`.
unfoldable pub came_turn : World → Conn → List ℕ → Turn
came_turn w k piece = came_on w k piece k.pending

-- The connection after a piece of a text.
abbrev pub given_up : Conn → Bool → Option Giving → Option Conn
given_up k closes None = if closes then None else Some (record k { pending = None })
given_up k closes (Some g) = Some (record k { pending = Some g })

-- The turn that gives a piece. If the upload was deleted, nothing is given and the connection closes.
abbrev pub give_on : World → Conn → Giving → Option Upload → Turn
give_on w k g None = record { world = w; conn = None; bytes = []; text = []; taken = 0 }
give_on w k g (Some u) = record {
  world = w;
  conn = given_up k g.closes (pending_after g);
  bytes = piece_of g;
  text = piece_of g;
  taken = 0;
}

-- The turn that gives the pending text's next piece, if there is one.
abbrev pub more_on : World → Conn → Option Giving → Turn
more_on w k None = record { world = w; conn = Some k; bytes = []; text = []; taken = 0 }
more_on w k (Some g) = give_on w k g (upload_of w.store g.number)

-- The turn of `more`.
unfoldable pub more_turn : World → Conn → Turn
more_turn w k = more_on w k k.pending

-- The world after `ended`: what was fed to the open patch is committed.
abbrev pub ended_with : World → ℕ → Option Patch → World
ended_with w d None = w
ended_with w d (Some p) = spent w d p (commit_refusal w d p)

-- The same for a connection that may have a draft.
abbrev pub ended_on : World → Option ℕ → World
ended_on w None = w
ended_on w (Some d) = ended_with w d (find d w.patches)

-- The world after `ended`.
unfoldable pub ended_world : World → Conn → World
ended_world w k = ended_on w k.draft

-- The world without the connection: its draft is dropped.
abbrev pub left_world : World → Option ℕ → World
left_world w None = w
left_world w (Some d) = dropped w d

-- The most bytes that a call gives: a reply, a piece of a text, and the reply to the body's end right after it.
abbrev pub most_given : ℕ
most_given = 2 * longest_reply + PIECE

-- The output grew by at most that.
abbrev pub GivesFew : List ℕ → List ℕ → Type 0
GivesFew old new = GrowsBy most_given old new
