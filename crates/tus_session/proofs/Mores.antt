-- The next piece of a text, and the end of a connection.
use Rattle.std.proofs.Common.{◌≡◌, ℕ, Bool, true, false, List, [], Option, Some, None, Err, refl, sym, ◌∙◌, ap, subst}
use Rattle.std.proofs.Common.{append-nil, ◌⊎◌, inl, inr, Result, Ok}
use Rattle.tus_request.specs.Buffers.{head_bytes}
use Rattle.upload_rules.specs.Store.{Store, Upload, upload_of, find}
use Rattle.upload_rules.specs.World.{World, Patch}
use Rattle.upload_rules.specs.declared.uploads.Uploads.{Ghosts}
use Rattle.tus_action.specs.Acts.{Giving, is_pending, pending_after, piece_of}
use Rattle.tus_action.specs.Serves.{GivingIs, IsGiven, GivesMore, Appends, CutCommits}
use Rattle.tus_action.specs.declared.acts.Giving as given
use Rattle.tus_action.specs.declared.acts.Given.TheVariants.{Piece, Last, Gone}
use Rattle.tus_session.specs.Streams.{cut}
use Rattle.tus_session.specs.Turns.{Conn, Turn, reader, given_up, more_on, more_turn, ended_on, ended_world}
use Rattle.tus_session.specs.Represents.{IsGivingText, LinkIs, IsPatching}
use Rattle.tus_session.specs.Moves.{Moves}
use Rattle.tus_session.specs.Turned.{TurnedAs, Turned, EndedAs, Ended}
use Rattle.common.specs.declared.stop.Stop.{Stop}
use Rattle.common.specs.declared.stop.Stop.TheVariants as stops
use Rattle.tus_request.specs.declared.buffer.HeadBuffer.{HeadBuffer}
use Rattle.tus_session.specs.Bodies.{link_after}
use Rattle.tus_session.specs.declared.answers.Answer.{Answer}
use Rattle.tus_session.specs.declared.conns.Awaiting.{Awaiting}
use Rattle.tus_session.specs.declared.conns.Awaiting.TheVariants as awaits
use Rattle.tus_session.specs.declared.conns.Link.{Link}
use Rattle.tus_session.proofs.BodyResults.{answered_here}
use Rattle.tus_action.proofs.Pieces.{piece_appends}
use Rattle.tus_session.proofs.Moved.{still, spend_moves}
use Rattle.upload_rules.specs.Calls.{dropped, spent, commit_refusal, commit_outcome}
use Rattle.tus_action.specs.declared.bodies.OpenPatch.{OpenPatch}
use Rattle.tus_session.proofs.Feeding.{spent_store}

more_is : (w : World) (conn : Conn) (o : Option Giving) → conn.pending ≡ o → more_turn w conn ≡ more_on w conn o
unfolding more_turn
more_is w conn o e = ap (more_on w conn) e

-- WHAT WAS GIVEN IS OF THE UPLOAD

-- a piece is given of an upload that is there
piece_of_upload : (sure : Bool) (m : Store) (g : given.Giving) (old new : List ℕ) (h : Giving) (o : Option Upload)
    → IsGiven sure m (Piece g) old new h o → (up : Upload) × (o ≡ Some up) × GivingIs m (Some g) (pending_after h)
    × Appends sure old new (piece_of h) (piece_of h)
piece_of_upload sure m g old new h None is = absurd is
piece_of_upload sure m g old new h (Some up) is = (up, refl, is.0, piece_appends old new (piece_of h) is.1)

last_of_upload : (sure : Bool) (m : Store) (old new : List ℕ) (h : Giving) (o : Option Upload)
    → IsGiven sure m Last old new h o → (up : Upload) × (o ≡ Some up) × (pending_after h ≡ None)
    × Appends sure old new (piece_of h) (piece_of h)
last_of_upload sure m old new h None is = absurd is
last_of_upload sure m old new h (Some up) is = (up, refl, is.0, piece_appends old new (piece_of h) is.1)

-- and nothing of one that is gone
gone_with_upload : (sure : Bool) (m : Store) (old new : List ℕ) (h : Giving) (o : Option Upload)
    → IsGiven sure m Gone old new h o → (o ≡ None) × (new ≡ old)
gone_with_upload sure m old new h None is = (refl, is)
gone_with_upload sure m old new h (Some up) is = absurd is

module _ {U B : Type 0} (u : Ghosts U B) (sure : Bool) where
  -- a connection stays as it is, and nothing is given
  pub stays : (store : U) (w : World) (k : Link B) (conn : Conn) (more : Bool) (out : List ℕ)
      → u.represents store sure w
      → LinkIs u w (head_bytes k.head) k.awaiting conn → more ≡ is_pending conn.pending
      → TurnedAs u sure store (Some k) (record { taken = 0; closes = false; more = more }) out out w conn.draft
      (record { world = w; conn = Some conn; bytes = []; text = []; taken = 0 })
  stays store w k conn more out represents link e = assumption (still w conn.draft, sym (append-nil out))

  no_text : (w : World) (head : List ℕ) (awaiting : Awaiting B) (conn : Conn) → LinkIs u w head awaiting conn
      → ((g : given.Giving) (left : ℕ) → awaiting ≡ awaits.Text g left → ⊥) → conn.pending ≡ None
  no_text w head awaits.Head conn is not = is.pending
  no_text w head (awaits.Patch b left) conn is not = is.pending
  no_text w head (awaits.Skip left) conn is not = is.pending
  no_text w head (awaits.Text g left) conn is not = absurd (not g left refl)

  -- no text is to be given
  pub more_nothing : (store : U) (w : World) (k : Link B) (conn : Conn) (out : List ℕ) → u.represents store sure w
      → LinkIs u w (head_bytes k.head) k.awaiting conn
      → ((g : given.Giving) (left : ℕ) → k.awaiting ≡ awaits.Text g left → ⊥)
      → TurnedAs u sure store (Some k) (record { taken = 0; closes = false; more = false }) out out w conn.draft
      (more_turn w conn)
  more_nothing store w k conn out represents link not =
      let none = no_text w (head_bytes k.head) k.awaiting conn link not in
      rw (more_is w conn None none) (stays store w k conn false out represents link (sym (ap is_pending none)))

  module _ (store : U) (w : World) (head : HeadBuffer) (conn : Conn) (g : given.Giving) (left : ℕ)
      (represents : u.represents store sure w) (is : IsGivingText w conn (head_bytes head) g left) where
    abbrev gave : Bool → Bool → Answer
    gave closes more = record { taken = 0; closes = closes; more = more }

    abbrev text_link : given.Giving → Option (Link B)
    text_link rest = Some (record { head = head; awaiting = awaits.Text rest left })

    some_turned : (old new : List ℕ) (rest : given.Giving) (pending : Option Giving)
        → GivingIs w.store (Some rest) pending → Appends sure old new (piece_of is.h) (piece_of is.h)
        → TurnedAs u sure store (text_link rest) (gave false true) old new w conn.draft
        (record {
          world = w;
          conn = given_up conn is.h.closes pending;
          bytes = piece_of is.h;
          text = piece_of is.h;
          taken = 0;
        })
    some_turned old new rest None given e = absurd given
    some_turned old new rest (Some h) given e =
        let link : IsGivingText w (record conn { pending = Some h }) (head_bytes head) rest left =
        record { h = h; rest = is.rest; draft = is.draft; pending = refl; gives = given } in
        assumption (represents, link, still w conn.draft, e)

    -- more of the text is left
    pub more_some : (old new : List ℕ) (rest : given.Giving)
        → IsGiven sure w.store (Piece rest) old new is.h (upload_of w.store is.h.number)
        → TurnedAs u sure store (text_link rest) (gave false true) old new w conn.draft (more_turn w conn)
    more_some old new rest given =
        let x = piece_of_upload sure w.store rest old new is.h (upload_of w.store is.h.number) given in
        rw (more_is w conn (Some is.h) is.pending, x.1) (some_turned old new rest (pending_after is.h) x.2 x.3)

    -- the text is given
    pub more_done : (old new : List ℕ) → IsGiven sure w.store Last old new is.h (upload_of w.store is.h.number)
        → TurnedAs u sure store (link_after head left g.closes) (gave g.closes false) old new w conn.draft
        (more_turn w conn)
    more_done old new is_last =
        let x = last_of_upload sure w.store old new is.h (upload_of w.store is.h.number) is_last in
        let T : Option ℕ → Bool → Option Giving → Type 0 = λ d closes pending.
        TurnedAs u sure store (link_after head left g.closes) (gave g.closes false) old new w d (record {
          world = w;
          conn = given_up (record conn { draft = d }) closes pending;
          bytes = piece_of is.h;
          text = piece_of is.h;
          taken = 0;
        }) in
        let given : T None g.closes None =
        answered_here u sure store (link_after head left g.closes) (gave g.closes false) old new (piece_of is.h)
        (piece_of is.h) w w None head left 0 g.closes conn.stream (cut (reader w) conn.stream).rest represents
        (still w None) refl is.rest refl refl x.3 in
        rw (more_is w conn (Some is.h) is.pending, x.1)
        (subst (λ d. T d is.h.closes (pending_after is.h)) (sym is.draft)
        (subst (λ c. T None c (pending_after is.h)) is.gives.closes (subst (T None g.closes) (sym x.2) given)))

    -- the upload was deleted
    pub more_gone : (old new : List ℕ) → IsGiven sure w.store Gone old new is.h (upload_of w.store is.h.number)
        → TurnedAs u sure store None (gave true false) old new w conn.draft (more_turn w conn)
    more_gone old new is_gone =
        let x = gone_with_upload sure w.store old new is.h (upload_of w.store is.h.number) is_gone in
        let moves : Moves w w conn.draft None = rw is.draft (still w None) in
        rw (more_is w conn (Some is.h) is.pending, x.0) (assumption (represents, moves, x.1 ∙ sym (append-nil old)))

module _ {U B : Type 0} (u : Ghosts U B) (sure : Bool) where
  -- nothing was given, and the connection closes
  pub more_stopped : (store : U) (w : World) (conn : Conn) (head : List ℕ) (g : given.Giving) (left : ℕ)
      (is : IsGivingText w conn head g left) (e : Stop) (old new : List ℕ) (t : Turn)
      → GivesMore u sure store (Err e) old new w is.h → Turned u sure store (Err e) old new w conn.draft t
  more_stopped store w conn head g left is stops.NoMemory old new t (there, shown, same) =
      (rw is.draft shown, same)
  more_stopped store w conn head g left is stops.DiskFault old new t (there, same) = same

-- THE END OF A CONNECTION

pub ended_is : (w : World) (conn : Conn) (d : ℕ) (p : Patch) → conn.draft ≡ Some d → find d w.patches ≡ Some p
    → ended_world w conn ≡ spent w d p (commit_refusal w d p)
unfolding ended_world
ended_is w conn d p is found = rw (is, found)

pub ended_none : (w : World) (conn : Conn) → conn.draft ≡ None → ended_world w conn ≡ w
unfolding ended_world
ended_none w conn is = ap (ended_on w) is

module _ {U B : Type 0} (u : Ghosts U B) (sure : Bool) where
  -- nothing was open
  pub ends_idle : (store : U) (w : World) (conn : Conn) → u.represents store sure w → conn.draft ≡ None
      → EndedAs u sure store w conn.draft (ended_world w conn)
  ends_idle store w conn represents none =
      rw (ended_none w conn none, none) (record { shown = represents; moves = still w None })

  module _ (w : World) (conn : Conn) (head : List ℕ) (b : OpenPatch B) (left : ℕ)
      (is : IsPatching u w conn head b left) where
    abbrev d : ℕ
    d = u.number_of b.draft

    ended_as : ended_world w conn ≡ spent w d is.p (commit_refusal w d is.p)
    ended_as = ended_is w conn d is.p is.draft is.patches.found

    -- a cut body
    pub ends_cut : (store : U) (r : Result (Unit {0}) Stop)
        → CutCommits u sure store r (dropped w d) (spent w d is.p (commit_refusal w d is.p))
        → Ended u sure store r w conn.draft (ended_world w conn)
    ends_cut store (Ok x) represents =
        rw (ended_as, is.draft) (record { shown = represents; moves = spend_moves w d is.p is.patches.grown })
    ends_cut store (Err stops.NoMemory) represents = rw is.draft represents
    ends_cut store (Err stops.DiskFault) x = tt

    pub ends_store : commit_outcome w d is.p ≡ (ended_world w conn).store
    ends_store = rw ended_as (sym (spent_store w d is.p (commit_refusal w d is.p)))

  -- no patch is open
  pub no_draft : (w : World) (head : List ℕ) (awaiting : Awaiting B) (conn : Conn) → LinkIs u w head awaiting conn
      → (awaiting ≡ awaits.Head) ⊎ (((n : ℕ) × (awaiting ≡ awaits.Skip n))
      ⊎ ((g : given.Giving) × (n : ℕ) × (awaiting ≡ awaits.Text g n))) → conn.draft ≡ None
  no_draft w head awaits.Head conn is how = is.draft
  no_draft w head (awaits.Skip left) conn is how = is.draft
  no_draft w head (awaits.Text g left) conn is how = is.draft
  no_draft w head (awaits.Patch b left) conn is (inl e) = absurd (cc)
  no_draft w head (awaits.Patch b left) conn is (inr (inl (n, e))) = absurd (cc)
  no_draft w head (awaits.Patch b left) conn is (inr (inr (g, n, e))) = absurd (cc)
