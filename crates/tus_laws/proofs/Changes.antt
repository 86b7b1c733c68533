-- What an event makes of the uploads.
use Rattle.std.proofs.Common.{◌≡◌, ◌-◌, ℕ, List, length, Option, Some, None, refl, sym, ◌∙◌, ap}
use Rattle.std.proofs.Common.{subst, arith}
use Rattle.std.proofs.lemmas.Option.{none-some}
use Rattle.upload_rules.specs.declared.errors.UploadRefusal.{UploadRefusal}
use Rattle.upload_rules.specs.Store.{New, Upload, find, upload_of}
use Rattle.upload_rules.specs.World.{Patch, World}
use Rattle.upload_rules.specs.Calls.{create_refusal, commit_refusal, spent}
use Rattle.tus_request.specs.Requests.{Request, Action, Options, Create, Head, Get, Delete}
use Rattle.tus_request.specs.Requests as requests
use Rattle.tus_request.specs.Requests.{Asks, Refuses, Verdict}
use Rattle.tus_action.specs.Acts.{Acted, Giving, acted, acted_on, post, delete, new_of}
use Rattle.tus_action.specs.Acts.{fed, commit_with}
use Rattle.upload_rules.specs.Reading.{no_such}
use Rattle.tus_session.specs.Streams.{Asked, Moments, taken}
use Rattle.tus_session.specs.Turns.{Conn, reader, at_head, at_body, body_step, turn_of, came_with, came_on}
use Rattle.tus_session.specs.Turns.{came_turn, more_turn, ended_with, ended_on, ended_world}
use Rattle.tus_session.specs.History.{State, Event, Opened, Came, More, Ended, Served}
use Rattle.tus_session.specs.History.{came_at, more_at, ended_at, step}
use Rattle.tus_session.proofs.Feeding.{fed_store}
use Rattle.tus_session.proofs.Unmade.{opened_uploads}
use Rattle.tus_session.proofs.RequestLeaves.{leaves}
use Rattle.tus_laws.specs.Patches.{moments_in, at_its_head, BodyCame, BodyCut, DonePatch}
use Rattle.tus_laws.specs.Patches.{IsRefused, Changed, Nothing, Made, Deleted}
use Rattle.tus_laws.proofs.Commits.{committed_changed}

-- A HEAD

-- a head that opens a patch leaves the uploads
verdict_uploads : (w : World) (v : Verdict) (d : ℕ) → (acted w v).draft ≡ Some d
    → ((acted w v).world.store ≡ w.store) × ((acted w v).pending ≡ None)
verdict_uploads w (Asks r) d e = let left = leaves w r in grind arith
verdict_uploads w (Refuses x) d e = absurd (none-some d e)

pub head_uploads : (w : World) (draft : Option ℕ) (o : Option Asked) (d : ℕ) → (at_head w draft o).draft ≡ Some d
    → ((at_head w draft o).world.store ≡ w.store) × ((at_head w draft o).pending ≡ None)
head_uploads w draft None d e = (refl, refl)
head_uploads w draft (Some r) d e = verdict_uploads w r.verdict d e

module _ (st : State) (e : Event) where
  -- what a request makes of the uploads at its head
  posted : (r : Request) (new : New) (o : Option UploadRefusal) → Changed st e (post st.world r new o).world.store
  posted r new None = Made new refl
  posted r new (Some f) = Nothing refl

  deleted : (r : Request) (number : ℕ) (o : Option Upload) → upload_of st.world.store number ≡ o
      → Changed st e (delete st.world r number (no_such o)).world.store
  deleted r number None none = Nothing refl
  deleted r number (Some u) there = Deleted number u there refl

  by_action : (r : Request) (action : Action) → Changed st e (acted_on st.world r action).world.store
  by_action r Options = Nothing refl
  by_action r (Create c) = posted r (new_of c) (create_refusal st.world (new_of c))
  by_action r (Head n) = Nothing (grind arith)
  by_action r (Get n) = Nothing (grind arith)
  by_action r (requests.Patch n offset declare) = Nothing (grind arith)
  by_action r (Delete n) = deleted r n (upload_of st.world.store n) refl

  by_verdict : (v : Verdict) → Changed st e (acted st.world v).world.store
  by_verdict (Asks r) = by_action r r.action
  by_verdict (Refuses x) = Nothing refl

  head_changed : (draft : Option ℕ) (o : Option Asked) → Changed st e (at_head st.world draft o).world.store
  head_changed draft None = Nothing refl
  head_changed draft (Some r) = by_verdict r.verdict

  -- A PATCH THAT IS DONE

  spent_changed : (x : DonePatch st e) → x.world.store ≡ st.world.store → (o : Option UploadRefusal)
      → commit_refusal x.world x.draft x.patch ≡ o
      → Changed st e (spent x.world x.draft x.patch o).store
  spent_changed x same None is = rw same (committed_changed st e x same is)
  spent_changed x same (Some f) is = Nothing same

-- the uploads are those from before the event
pub done_uploads : (st : State) (e : Event) (x : DonePatch st e) → x.world.store ≡ st.world.store
done_uploads st (Opened c) x = absurd x.done
done_uploads st (Came c piece) x =
    let m = moments_in st.world x.conn piece in
    let a = at_its_head st.world x.conn piece in
    ap (λ y. y.store) x.done.1.world ∙ fed_store a.world x.draft m.came
    ∙ (head_uploads st.world x.conn.draft m.head x.draft x.done.1.draft_open).0
done_uploads st (More c) x = absurd x.done
done_uploads st (Ended c) x = ap (λ y. y.store) x.done.1.world

-- BYTES THAT CAME

pub with_idle : (k : Conn) (piece : List ℕ) (n : ℕ) (m : Moments) (a : Acted) → a.pending ≡ None
    → came_with k piece n m a ≡ turn_of k piece n (body_step a m.came m.body a.draft)
with_idle k piece n m a idle = grind arith

pub with_text : (k : Conn) (piece : List ℕ) (n : ℕ) (m : Moments) (a : Acted) (g : Giving) → a.pending ≡ Some g
    → came_with k piece n m a ≡ turn_of k piece (n - length m.came) a
with_text k piece n m a g text = grind arith

came_world : (w : World) (k : Conn) (piece : List ℕ) → k.pending ≡ None
    → (came_turn w k piece).world
    ≡ (came_with k piece (taken (reader w) k.stream piece) (moments_in w k piece) (at_its_head w k piece)).world
unfolding came_turn
came_world w k piece idle = ap (λ g. (came_on w k piece g).world) idle

came_none : (w : World) (k : Conn) (piece : List ℕ) (g : Giving) → k.pending ≡ Some g → (came_turn w k piece).world ≡ w
unfolding came_turn
came_none w k piece g e = ap (λ g. (came_on w k piece g).world) e

-- the world after the last byte of a body
pub came_spent : (w : World) (k : Conn) (piece : List ℕ) (v : World) (d : ℕ) (p : Patch) → BodyCame w k piece v d p
    → (came_turn w k piece).world ≡ spent v d p (commit_refusal v d p)
unfolding came_turn
came_spent w k piece v d p x =
    let idle = (head_uploads w k.draft (moments_in w k piece).head d x.draft_open).1 in grind arith

module _ (st : State) (c : ℕ) (piece : List ℕ) (k : Conn) (here : st.conns c ≡ Some k) (idle : k.pending ≡ None) where
  abbrev w : World
  w = st.world

  abbrev m : Moments
  m = moments_in st.world k piece

  abbrev a : Acted
  a = at_its_head st.world k piece

  abbrev IsChanged : World → Type 0
  IsChanged v = Changed st (Came c piece) v.store

  module _ (d : ℕ) (open_is : (at_its_head st.world k piece).draft ≡ Some d) where
    abbrev v : World
    v = fed (at_its_head st.world k piece).world d (moments_in st.world k piece).came

    same : v.store ≡ st.world.store
    same = fed_store a.world d m.came ∙ (head_uploads st.world k.draft m.head d open_is).0

    -- the patch that is done by the bytes that came
    abbrev pub done_came : (r : Asked) (q : Request) (p : Patch) → m.body ≡ Some r → r.verdict ≡ Asks q
        → find d v.patches ≡ Some p → DonePatch st (Came c piece)
    done_came r q p ends asks found =
        let came : BodyCame st.world k piece v d p = record {
          nothing_to_give = idle;
          asked = r;
          request = q;
          body_moment = ends;
          asks = asks;
          draft_open = open_is;
          world = refl;
          found = found;
        } in
        record { conn = k; world = v; draft = d; patch = p; done = (here, came) }

    by_asked : (r : Asked) → m.body ≡ Some r → (t : Verdict) → r.verdict ≡ t → (o : Option Patch)
        → find d v.patches ≡ o → IsChanged (commit_with v d t o).world
    by_asked r ends (Asks q) asks None found = Nothing same
    by_asked r ends (Asks q) asks (Some p) found =
        spent_changed st (Came c piece) (done_came r q p ends asks found) same (commit_refusal v d p) refl
    by_asked r ends (Refuses x) asks o found = Nothing (grind arith)

    by_moment : (o : Option Asked) → m.body ≡ o → IsChanged (at_body v d o).world
    by_moment None ends = Nothing same
    by_moment (Some r) ends = by_asked r ends r.verdict refl (find d v.patches) refl

  by_draft : (o : Option ℕ) → a.draft ≡ o → IsChanged (body_step a m.came m.body o).world
  by_draft None none = head_changed st (Came c piece) k.draft m.head
  by_draft (Some d) is = by_moment d is m.body refl

  by_text : (o : Option Giving) → a.pending ≡ o
      → IsChanged (came_with k piece (taken (reader w) k.stream piece) m a).world
  by_text None e = rw (with_idle k piece (taken (reader w) k.stream piece) m a e) (by_draft a.draft refl)
  by_text (Some g) e =
      rw (with_text k piece (taken (reader w) k.stream piece) m a g e) (head_changed st (Came c piece) k.draft m.head)

  idle_changed : IsChanged (came_turn st.world k piece).world
  idle_changed = subst IsChanged (sym (came_world st.world k piece idle)) (by_text a.pending refl)

came_changed : (st : State) (c : ℕ) (piece : List ℕ) (k : Conn) → st.conns c ≡ Some k → (o : Option Giving)
    → k.pending ≡ o → Changed st (Came c piece) (came_turn st.world k piece).world.store
came_changed st c piece k here None idle = idle_changed st c piece k here idle
came_changed st c piece k here (Some g) text = Nothing (ap (λ x. x.store) (came_none st.world k piece g text))

-- THE OTHER EVENTS

more_world : (w : World) (k : Conn) → (more_turn w k).world ≡ w
unfolding more_turn
more_world w k = grind arith

pub ended_spent : (w : World) (k : Conn) (d : ℕ) (p : Patch) → k.draft ≡ Some d → find d w.patches ≡ Some p
    → ended_world w k ≡ spent w d p (commit_refusal w d p)
unfolding ended_world
ended_spent w k d p open_is found = ap (ended_on w) open_is ∙ ap (ended_with w d) found

module _ (st : State) (c : ℕ) (k : Conn) (here : st.conns c ≡ Some k) where
  cut_case : (d : ℕ) → k.draft ≡ Some d → (o : Option Patch) → find d st.world.patches ≡ o
      → Changed st (Ended c) (ended_with st.world d o).store
  cut_case d open_is None found = Nothing refl
  cut_case d open_is (Some p) found =
      let cut : BodyCut st.world k st.world d p = record { draft_open = open_is; world = refl; found = found } in
      let x : DonePatch st (Ended c) =
      record { conn = k; world = st.world; draft = d; patch = p; done = (here, cut) } in
      spent_changed st (Ended c) x refl (commit_refusal st.world d p) refl

  draft_case : (o : Option ℕ) → k.draft ≡ o → Changed st (Ended c) (ended_on st.world o).store
  draft_case None none = Nothing refl
  draft_case (Some d) open_is = cut_case d open_is (find d st.world.patches) refl

  ended_changed : Changed st (Ended c) (ended_world st.world k).store
  unfolding ended_world
  ended_changed = draft_case k.draft refl

came_at_changed : (st : State) (c : ℕ) (piece : List ℕ) (o : Option Conn) → st.conns c ≡ o
    → Changed st (Came c piece) (came_at st c piece o).state.world.store
came_at_changed st c piece None here = Nothing refl
came_at_changed st c piece (Some k) here = came_changed st c piece k here k.pending refl

more_at_changed : (st : State) (c : ℕ) (o : Option Conn) → Changed st (More c) (more_at st c o).state.world.store
more_at_changed st c None = Nothing refl
more_at_changed st c (Some k) = Nothing (ap (λ x. x.store) (more_world st.world k))

ended_at_changed : (st : State) (c : ℕ) (o : Option Conn) → st.conns c ≡ o
    → Changed st (Ended c) (ended_at st c o).state.world.store
ended_at_changed st c None here = Nothing refl
ended_at_changed st c (Some k) here = ended_changed st c k here

-- WHAT AN EVENT MAKES of the uploads
pub served_changed : (st : State) (e : Event) → Changed st e (step st e Served).state.world.store
unfolding step
served_changed st (Opened c) = Nothing (opened_uploads st c (st.conns c))
served_changed st (Came c piece) = came_at_changed st c piece (st.conns c) refl
served_changed st (More c) = more_at_changed st c (st.conns c)
served_changed st (Ended c) = ended_at_changed st c (st.conns c) refl

-- the world after a patch that is done
pub done_world : (st : State) (e : Event) (x : DonePatch st e)
    → (step st e Served).state.world ≡ spent x.world x.draft x.patch (commit_refusal x.world x.draft x.patch)
unfolding step
done_world st (Opened c) x = absurd x.done
done_world st (Came c piece) x =
    rw x.done.0 (came_spent st.world x.conn piece x.world x.draft x.patch x.done.1)
done_world st (More c) x = absurd x.done
done_world st (Ended c) x =
    let cut = x.done.1 in
    rw (x.done.0, cut.world) (ended_spent st.world x.conn x.draft x.patch cut.draft_open (rw cut.world at cut.found))

-- one that is refused makes nothing
pub refused_same : (st : State) (e : Event) (x : DonePatch st e) (why : UploadRefusal) → IsRefused x why
    → (step st e Served).state.world.store ≡ st.world.store
refused_same st e x why is =
    ap (λ y. y.store) (done_world st e x) ∙ ap (λ o. (spent x.world x.draft x.patch o).store) is ∙ done_uploads st e x
