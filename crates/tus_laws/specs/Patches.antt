-- The PATCHes of a history: the event at which one is done, and its result.
--
-- An example. Upload 1 has length five and no bytes yet. Two connections PATCH it at offset 0, with five bytes each:
--   The first sends its head and `he`: its PATCH is open, and began at an upload without accepted bytes.
--   The second sends its head and `hello`: its PATCH is done, and accepted, and the upload has the five bytes.
--   The first sends `LLO`: its PATCH is done with the body `heLLO`. It began at offset 0, and the upload has five bytes
--   by now: it is refused with `Offset`, which is answered 409, and the upload has the same five bytes as before.
-- Had a third connection sent a DELETE of upload 1 before that, the PATCH would be refused with `NoSuch`, answered 404.
use Rattle.std.specs.Prelude.{◌≡◌, ◌<◌, ◌≤◌, ◌+◌, ◌++◌, ℕ, false, List, length, take, Option, Some, None}
use Rattle.upload_rules.specs.declared.errors.UploadRefusal.{UploadRefusal}
use Rattle.upload_rules.specs.Store.{New, Upload, Store, find, replaced, upload_of, created_store, deleted_store}
use Rattle.upload_rules.specs.Store.{accepted_count}
use Rattle.upload_rules.specs.World.{Patch, World}
use Rattle.upload_rules.specs.Calls.{is_empty, commit_refusal}
use Rattle.tus_request.specs.Requests.{Request, Asks}
use Rattle.tus_action.specs.Acts.{Acted, fed}
use Rattle.tus_session.specs.Streams.{Asked, Moments, moments, taken}
use Rattle.tus_session.specs.Turns.{Conn, reader, at_head}
use Rattle.tus_session.specs.History.{State, Event, Opened, Came, More, Ended}

-- The moments of the bytes that a call takes.
abbrev pub moments_in : World → Conn → List ℕ → Moments
moments_in w k piece = moments (reader w) k.stream (take (taken (reader w) k.stream piece) piece)

-- The effect of the head moment among them, if there is one.
abbrev pub at_its_head : World → Conn → List ℕ → Acted
at_its_head w k piece = at_head w k.draft (moments_in w k piece).head

-- The last byte of a PATCH's body comes on a connection. The PATCH was open, or its head is in the same call. The body
-- bytes of this call are fed to it, and in the resulting world v it is committed or refused.
pub record BodyCame (w : World) (k : Conn) (piece : List ℕ) (v : World) (d : ℕ) (p : Patch) : Type 0 where
  pub nothing_to_give : k.pending ≡ None
  pub asked : Asked
  pub request : Request
  pub body_moment : (moments_in w k piece).body ≡ Some asked
  pub asks : asked.verdict ≡ Asks request
  pub draft_open : (at_its_head w k piece).draft ≡ Some d
  pub world : v ≡ fed (at_its_head w k piece).world d (moments_in w k piece).came
  pub found : find d v.patches ≡ Some p

-- The connection of an open PATCH ended, which cuts its body.
pub record BodyCut (w : World) (k : Conn) (v : World) (d : ℕ) (p : Patch) : Type 0 where
  pub draft_open : k.draft ≡ Some d
  pub world : v ≡ w
  pub found : find d v.patches ≡ Some p

-- The PATCH is done at this event of its connection.
abbrev pub IsDoneOn : State → Event → Conn → World → ℕ → Patch → Type 0
IsDoneOn st (Opened c) k v d p = ⊥
IsDoneOn st (Came c piece) k v d p = (st.conns c ≡ Some k) × BodyCame st.world k piece v d p
IsDoneOn st (More c) k v d p = ⊥
IsDoneOn st (Ended c) k v d p = (st.conns c ≡ Some k) × BodyCut st.world k v d p

-- A PATCH that is done at a served event: its connection, the world, its draft number, and the patch with its whole
-- body.
pub record DonePatch (st : State) (e : Event) : Type 0 where
  pub conn : Conn
  pub world : World
  pub draft : ℕ
  pub patch : Patch
  pub done : IsDoneOn st e conn world draft patch

abbrev pub IsAccepted : {st : State} {e : Event} → DonePatch st e → Type 0
IsAccepted x = commit_refusal x.world x.draft x.patch ≡ None

-- It is refused for this reason.
abbrev pub IsRefused : {st : State} {e : Event} → DonePatch st e → UploadRefusal → Type 0
IsRefused x why = commit_refusal x.world x.draft x.patch ≡ Some why

-- Its body isn't empty.
abbrev pub HasBody : {st : State} {e : Event} → DonePatch st e → Type 0
HasBody x = is_empty x.patch.body ≡ false

-- Both began at one offset of one upload.
pub record SamePlace {st st' : State} {e e' : Event} (x : DonePatch st e) (y : DonePatch st' e') : Type 0 where
  pub number : x.patch.number ≡ y.patch.number
  pub offset : accepted_count x.patch.began ≡ accepted_count y.patch.began

-- `declare`: an upload gets its length.
abbrev pub declared_at : Store → ℕ → ℕ → Option Upload → Store
declared_at m n total None = m
declared_at m n total (Some u) = record m { uploads = replaced n (record u { declared = Some total }) m.uploads }

-- The store after `declare`.
abbrev pub declared_store : Store → ℕ → ℕ → Store
declared_store m n total = declared_at m n total (upload_of m n)

-- `append`: an upload gets bytes at its end.
abbrev pub store_with_bytes : Store → ℕ → List ℕ → Option Upload → Store
store_with_bytes m n bytes None = m
store_with_bytes m n bytes (Some u) = record m {
  uploads = replaced n (record u { accepted = u.accepted ++ bytes })
      m.uploads;
}

-- The store after `append`.
abbrev pub appended_store : Store → ℕ → List ℕ → Store
appended_store m n bytes = store_with_bytes m n bytes (upload_of m n)

-- A PATCH declares this length. Its upload's length was unknown, and this one is enough for the bytes of the upload and
-- the body.
pub record Declares {st : State} {e : Event} (x : DonePatch st e) (total : ℕ) : Type 0 where
  pub upload : Upload
  pub there : upload_of st.world.store x.patch.number ≡ Some upload
  pub unknown : upload.declared ≡ None
  pub declared : x.patch.declare ≡ Some total
  pub enough : accepted_count upload + length x.patch.body ≤ total

-- The effect of a served event on the uploads: none; a new upload; an accepted PATCH gives its upload a length, bytes,
-- or both together; or one existing upload is deleted.
pub data Changed (st : State) (e : Event) (after : Store) : Type 0 where
  Nothing : after ≡ st.world.store → Changed st e after
  Made : (new : New) → after ≡ created_store st.world.store new → Changed st e after
  Declared : (x : DonePatch st e) (total : ℕ) → Declares x total → IsAccepted x
      → after ≡ declared_store st.world.store x.patch.number total → Changed st e after
  Put : (x : DonePatch st e) → HasBody x → IsAccepted x
      → after ≡ appended_store st.world.store x.patch.number x.patch.body → Changed st e after
  DeclaredAndPut : (x : DonePatch st e) (total : ℕ) → Declares x total → HasBody x → IsAccepted x
      → after
      ≡ appended_store (declared_store st.world.store x.patch.number total) x.patch.number x.patch.body
      → Changed st e after
  Deleted : (n : ℕ) (u : Upload) → upload_of st.world.store n ≡ Some u → after ≡ deleted_store st.world.store n
      → Changed st e after

-- The next number is above those of all uploads.
abbrev pub IsAbove : Store → Type 0
IsAbove m = (n : ℕ) (u : Upload) → upload_of m n ≡ Some u → n < m.next
