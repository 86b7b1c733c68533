-- A history gives what the replay of its moments gives.
use Rattle.std.proofs.Common.{◌≡◌, ◌-◌, inl, inr, ℕ, Bool, true, false, List, [], ◌∷◌, ◌++◌, length, take, drop}
use Rattle.std.proofs.Common.{nat_lt, Option, Some, None, refl, sym, ◌∙◌, ap, subst, append-nil}
use Rattle.std.proofs.Common.{append_assoc, arith}
use Rattle.std.proofs.lemmas.Bool.{cases_Bool}
use Rattle.std.proofs.lemmas.Option.{none-some, same_Some}
use Rattle.std.proofs.lemmas.List.{take-append-drop}
use Rattle.upload_rules.specs.Store.{Upload, Store, find, upload_of}
use Rattle.upload_rules.specs.World.{Patch, World, at_rest}
use Rattle.upload_rules.specs.Calls.{commit_refusal, spent}
use Rattle.upload_rules.specs.declared.errors.UploadRefusal.TheVariants.{Full}
use Rattle.tus_request.specs.Requests.{Request, Asks}
use Rattle.tus_action.specs.Acts.{Acted, Giving, pending_of, fed, fed_patch}
use Rattle.tus_action.specs.declared.reads.TheConstants.{PIECE}
use Rattle.tus_session.specs.Streams.{Asked, Moments, cut, rest_body, taken}
use Rattle.tus_session.specs.Turns.{Conn, fresh, reader, body_step, turn_of, came_with, came_turn, given_up}
use Rattle.tus_session.specs.Turns.{give_on, more_on, more_turn, ended_with, ended_world}
use Rattle.tus_session.specs.Turns.{came_on}
use Rattle.tus_session.specs.Turns.{ended_on}
use Rattle.tus_session.specs.History.{State, Step, Event, Opened, Came, More, Ended, Marked, Served, Done, put}
use Rattle.tus_session.specs.History.{refused_same}
use Rattle.tus_session.specs.declared.session.TheConstants.{MOST_OPEN}
use Rattle.tus_session.specs.History.{turned, opened_at, came_at, more_at, ended_at, conn_in, step, history, beginning}
use Rattle.tus_session.specs.declared.errors.SessionError.{SessionError}
use Rattle.tus_session.specs.declared.errors.SessionError.TheVariants.{TooMany, Closed}
use Rattle.tus_session.specs.Represents.{draft_of_conn}
use Rattle.tus_session.proofs.EventResults.{came_is, ended_step}
use Rattle.tus_session.proofs.BodyResults.{rest_same}
use Rattle.tus_session.proofs.Feeding.{fed_body}
use Rattle.tus_laws.specs.Patches.{moments_in, at_its_head, BodyCut, DonePatch, IsRefused, Changed}
use Rattle.tus_laws.specs.Cuts.{head_moment, body_moment, came_moments, cut_moment, came_moments_on}
use Rattle.tus_laws.specs.Cuts.{ended_moments_on, event_moments}
use Rattle.tus_laws.specs.Cuts.{all_moments, outcome_bytes, bytes_given, text_left, still_to_give, CutsNoText}
use Rattle.tus_laws.specs.Cuts.{AllSmooth}
use Rattle.tus_laws.proofs.Changes.{served_changed, with_idle, with_text, done_came, ended_spent}
use Rattle.tus_laws.proofs.Bare.{bared, fed_there, ended_calm}
use Rattle.tus_laws.proofs.Bodies.{none_if, Holds, DraftHolds, Brings, BringsAll, brings_all}
use Rattle.tus_laws.proofs.Turning.{Opens, head_opens, body_opens, commit_idle, spent_else, Rep, replay, replay_both}
use Rattle.tus_laws.proofs.Turning.{act_cut, here_set, else_set, Did, did_head, part_did, whole_did, found_u, store_u}
use Rattle.tus_laws.proofs.Turning.{blocks_u, patches_u}
use Rattle.tus_laws.proofs.Replays.{Valid, Sim, IsTurnOf, Replays, valid_put, sim_put, sim_same, more_given, came_after}

-- THE INDEXES stay
changed_indexes : (st : State) (e : Event) (after : Store) → Changed st e after → after.indexes ≡ st.world.store.indexes
changed_indexes st e after changed = grind arith

same_indexes : (st : State) (e : Event) → (step st e Served).state.world.store.indexes ≡ st.world.store.indexes
same_indexes st e = changed_indexes st e (step st e Served).state.world.store (served_changed st e)

-- after an event
abbrev pub After : (ℕ → List ℕ) → ℕ → Rep → Step → Type 0
After g c r x = Valid x.state × Sim x.state (more_given g c (outcome_bytes x.outcome)) r

module _ (st : State) (valid : Valid st) (g : ℕ → List ℕ) (r : Rep) (sim : Sim st g r) (c : ℕ) where
  refused_after : (why : SessionError) → After g c r (refused_same st why)
  refused_after why = (valid, sim_same st g r c sim)

  -- the world and the patches stay
  still_after : (o : Option Conn) (bytes : List ℕ) → draft_of_conn o ≡ draft_of_conn (st.conns c)
      → ((k : Conn) → o ≡ Some k → DraftHolds st.world k)
      → ((k : Conn) → o ≡ Some k → (d : ℕ) → k.draft ≡ Some d → k.pending ≡ None)
      → still_to_give (st.conns c) ≡ bytes ++ still_to_give o
      → Valid (put st st.world c o) × Sim (put st st.world c o) (more_given g c bytes) r
  still_after o bytes own holds idle text =
      let text_there : IsTurnOf st valid st.world c o = record {
        indexes = refl;
        others = λ e p there ne. there;
        fresh = λ d is. inl (sym own ∙ is);
        holds = holds;
        idle = idle;
      } in
      let replays : Replays st g r r st.world c o bytes = record {
        world = sim.world;
        draft = sim.drafts c ∙ sym own;
        bytes_are = sim.given c ∙ (ap (λ t. g c ++ t) text ∙ sym (append_assoc (g c) bytes (still_to_give o)));
        drafts = λ e ne. refl;
        given = λ e ne. refl;
      } in
      (valid_put st valid st.world c o text_there, sim_put st g r r st.world c o bytes sim replays)

  -- the connection is closed, and no patch was open on it
  closed_after : (bytes : List ℕ) → draft_of_conn (st.conns c) ≡ None → still_to_give (st.conns c) ≡ bytes ++ []
      → Valid (put st st.world c None) × Sim (put st st.world c None) (more_given g c bytes) r
  closed_after bytes own text =
      still_after None bytes (sym own) (λ j is. absurd (none-some j is)) (λ j is. absurd (none-some j is)) text

  -- the connection stays, and no patch is open on it before or after
  patchless_after : (j : Conn) (bytes : List ℕ) → j.draft ≡ None → draft_of_conn (st.conns c) ≡ None
      → still_to_give (st.conns c) ≡ bytes ++ text_left j.pending
      → Valid (put st st.world c (Some j)) × Sim (put st st.world c (Some j)) (more_given g c bytes) r
  patchless_after j bytes none own text =
      still_after (Some j) bytes (none ∙ sym own) (λ i is d e. absurd (cc)) (λ i is d e. absurd (cc)) text

  -- OPENED
  opened_after : (o : Option Conn) → st.conns c ≡ o → After g c r (opened_at st c o)
  opened_after None none = elim (cases_Bool (nat_lt c MOST_OPEN)) [
    | inl t ↦ rw t (patchless_after fresh [] refl (ap draft_of_conn none) (ap still_to_give none))
    | inr f ↦ rw f (refused_after TooMany)
  ]
  opened_after (Some k) is = refused_after TooMany

  module _ (k : Conn) (here : st.conns c ≡ Some k) where
    same_conn : Valid (put st st.world c (Some k)) × Sim (put st st.world c (Some k)) (more_given g c []) r
    same_conn =
        still_after (Some k) [] (ap draft_of_conn (sym here)) (λ j is. valid.holds c j (here ∙ is))
        (λ j is. valid.idle c j (here ∙ is)) (ap still_to_give here)

    text_no_draft : (h : Giving) → k.pending ≡ Some h → k.draft ≡ None
    text_no_draft h text = none_if k.draft (λ d is. none-some h (sym (valid.idle c k here d is) ∙ text))

    -- MORE of a text
    given_conn : (number : ℕ) (closes : Bool) (left bytes : List ℕ) → k.draft ≡ None
        → still_to_give (st.conns c) ≡ bytes ++ left
        → let o = given_up k closes (pending_of number left closes) in
        Valid (put st st.world c o) × Sim (put st st.world c o) (more_given g c bytes) r
    given_conn number true [] bytes none text = closed_after bytes (ap draft_of_conn here ∙ none) text
    given_conn number false [] bytes none text =
        patchless_after (record k { pending = None }) bytes none (ap draft_of_conn here ∙ none) text
    given_conn number closes (b ∷ left) bytes none text =
        let j : Conn = record k { pending = Some (record { number = number; left = b ∷ left; closes = closes }) } in
        patchless_after j bytes none (ap draft_of_conn here ∙ none) text

    -- a piece is given, since the upload is there
    there_case : (h : Giving) → k.pending ≡ Some h → (u : Upload) → upload_of st.world.store h.number ≡ Some u
        → After g c r (turned st c (give_on st.world k h (upload_of st.world.store h.number)))
    there_case h text u there =
        rw there (given_conn h.number h.closes (drop PIECE h.left) (take PIECE h.left) (text_no_draft h text)
        (ap still_to_give here ∙ (ap text_left text ∙ sym (take-append-drop PIECE h.left))))

    more_case : CutsNoText st (More c) → (o : Option Giving) → k.pending ≡ o
        → After g c r (turned st c (more_on st.world k o))
    more_case text_there None idle = same_conn
    more_case text_there (Some h) text = let there = text_there k h here text in there_case h text there.0 there.1

    more_after : CutsNoText st (More c) → After g c r (turned st c (more_turn st.world k))
    unfolding more_turn
    more_after text_there = more_case text_there k.pending refl

    -- THE END of a connection
    module _ (d : ℕ) (is : k.draft ≡ Some d) (roomy : (x : DonePatch st (Ended c)) → IsRefused x Full → ⊥)
        (text : still_to_give (st.conns c) ≡ []) where
      abbrev h : Holds st.world k d
      h = valid.holds c k here d is

      abbrev body : List ℕ
      body = rest_body (cut (reader st.world) k.stream).rest

      abbrev w' : World
      w' = spent st.world d h.patch (commit_refusal st.world d h.patch)

      cut_here : BodyCut st.world k st.world d h.patch
      cut_here = record { draft_open = is; world = refl; found = h.found }

      not_full : commit_refusal st.world d h.patch ≡ Some Full → ⊥
      not_full full =
          let x : DonePatch st (Ended c) =
          record { conn = k; world = st.world; draft = d; patch = h.patch; done = (here, cut_here) } in
          roomy x full

      ends : ended_world st.world k ≡ w'
      ends = ended_spent st.world k d h.patch is h.found

      cut_later : IsTurnOf st valid w' c None
      cut_later = record {
        indexes =
            ap (λ w. w.store.indexes) (sym ends)
            ∙ (ap (λ x. x.state.world.store.indexes) (sym (ended_step st c k here)) ∙ same_indexes st (Ended c));
        others =
            λ e p there ne. spent_else st.world d e h.patch (commit_refusal st.world d h.patch)
            (λ same. ne (ap draft_of_conn here ∙ (is ∙ ap Some same))) ∙ there;
        fresh = λ e f. absurd (none-some e f);
        holds = λ j f. absurd (none-some j f);
        idle = λ j f. absurd (none-some j f);
      }

      whole : body ≡ h.patch.body ++ []
      whole = ap rest_body h.rest ∙ (sym h.body ∙ sym (append-nil h.patch.body))

      cut_world : bared (ended_with (fed r.world d body) d (find d (fed r.world d body).patches)) ≡ bared w'
      cut_world =
          let u = fed (bared st.world) d body in
          rw (sim.world, found_u st.world d h.patch [] body h.found whole)
          (ended_calm st.world u d h.patch (store_u st.world d h.patch [] body h.found whole)
          (blocks_u st.world d h.patch [] body h.found whole) (patches_u st.world d h.patch [] body h.found whole)
          not_full)

      cut_replays : Replays st g r (act_cut r c body (Some d)) w' c None []
      cut_replays = record {
        world = cut_world;
        draft = here_set c None r.drafts;
        bytes_are = sim.given c ∙ (ap (λ t. g c ++ t) text ∙ sym (append-nil (g c ++ [])));
        drafts = λ e ne. else_set c e None r.drafts ne;
        given = λ e ne. refl;
      }

      cut_after : After g c (act_cut r c body (r.drafts c))
          (record { state = put st (ended_world st.world k) c None; outcome = Done; text = [] })
      cut_after =
          let own : r.drafts c ≡ Some d = sim.drafts c ∙ (ap draft_of_conn here ∙ is) in
          rw (own, ends) (
            valid_put st valid w' c None cut_later,
            sim_put st g r (act_cut r c body (Some d)) w' c None [] sim cut_replays,
          )

    none_ended : k.draft ≡ None → ended_world st.world k ≡ st.world
    unfolding ended_world
    none_ended none = ap (ended_on st.world) none

    end_case : ((x : DonePatch st (Ended c)) → IsRefused x Full → ⊥) → still_to_give (st.conns c) ≡ []
        → (o : Option ℕ) → k.draft ≡ o → After g c (replay r (cut_moment st.world c k o))
        (record { state = put st (ended_world st.world k) c None; outcome = Done; text = [] })
    end_case roomy text None none =
        rw (none_ended none) (closed_after [] (ap draft_of_conn here ∙ none) text)
    end_case roomy text (Some d) is = cut_after d is roomy text

    -- BYTES that came
    module _ (piece : List ℕ) (idle : k.pending ≡ None)
        (roomy : (x : DonePatch st (Came c piece)) → IsRefused x Full → ⊥) where
      abbrev w : World
      w = st.world

      abbrev m : Moments
      m = moments_in st.world k piece

      abbrev a : Acted
      a = at_its_head st.world k piece

      abbrev n : ℕ
      n = taken (reader st.world) k.stream piece

      brings : BringsAll st.world k piece n m
      brings = brings_all st.world k (valid.holds c k here) piece idle

      first_opens : Opens st.world k.draft a
      first_opens = head_opens st.world k.draft m.head brings.first

      abbrev r1 : Rep
      r1 = replay r (head_moment c m.head)

      first_did : Did r r1 c a
      first_did = did_head st.world k.draft r c m.head sim.world (sim.drafts c ∙ ap draft_of_conn here)

      turn_is : came_turn st.world k piece ≡ came_with k piece n m a
      unfolding came_turn
      turn_is = ap (came_on st.world k piece) idle

      turn_text : (h : Giving) → a.pending ≡ Some h → came_turn st.world k piece ≡ turn_of k piece (n - length m.came) a
      turn_text h e = turn_is ∙ with_text k piece n m a h e

      turn_body : a.pending ≡ None → came_turn st.world k piece ≡ turn_of k piece n (body_step a m.came m.body a.draft)
      turn_body e = turn_is ∙ with_idle k piece n m a e

      abbrev Goal : Type 0
      Goal =
          After g c (replay r (head_moment c m.head ++ body_moment c a.draft m.body))
          (turned st c (came_turn st.world k piece))

      turn_indexes : (i : ℕ) (z : Acted) → came_turn st.world k piece ≡ turn_of k piece i z
          → z.world.store.indexes ≡ st.world.store.indexes
      turn_indexes i z turn =
          ap (λ t. t.world.store.indexes) (sym turn)
          ∙ (ap (λ x. x.state.world.store.indexes) (sym (came_is st c piece k here).step_is)
          ∙ same_indexes st (Came c piece))

      conclude : (i : ℕ) (z : Acted) (o : Option ℕ) (x : Option Asked)
          → came_turn st.world k piece ≡ turn_of k piece i z → a.draft ≡ o → m.body ≡ x
          → Opens st.world k.draft z → Did r (replay r1 (body_moment c o x)) c z
          → ((d : ℕ) → z.draft ≡ Some d
          → Holds z.world (record { stream = k.stream ++ take i piece; draft = z.draft; pending = z.pending }) d)
          → Goal
      conclude i z o x turn own ends opens did holds =
          rw (replay_both r (head_moment c m.head) (body_moment c a.draft m.body), own, ends, turn)
          (came_after st valid g r (replay r1 (body_moment c o x)) sim c k here idle (k.stream ++ take i piece) z opens
          did (turn_indexes i z turn) holds)

      module _ (no_text : a.pending ≡ None) (d : ℕ) (is : a.draft ≡ Some d) where
        abbrev b : Brings st.world k piece n m d
        b = brings.each d is

        abbrev q : Patch
        q = fed_patch a.world d b.patch m.came

        part_goal : m.body ≡ None → Goal
        part_goal none =
            let z = body_step a m.came None (Some d) in
            let turn : came_turn st.world k piece ≡ turn_of k piece n z =
            rw (is, none) at (turn_body no_text) in
            let part = b.part none in
            let s = k.stream ++ take n piece in
            let holds : Holds z.world (record { stream = s; draft = z.draft; pending = z.pending }) d = record {
              asked = part.0;
              patch = q;
              rest = rest_same st.world z.world s (turn_indexes n z turn) ∙ part.1;
              found = fed_there a.world d b.patch m.came b.found;
              body = fed_body a.world d b.patch m.came ∙ sym part.2;
            } in
            conclude n z (Some d) None turn is none (body_opens st.world k.draft a first_opens m.came None (Some d) is)
            (part_did st.world r r1 c a first_did d b.patch m.came is no_text b.found)
            (λ e f. subst (Holds z.world (record { stream = s; draft = z.draft; pending = z.pending }))
            (same_Some d e f) holds)

        whole_goal : (x : Asked) → m.body ≡ Some x → Goal
        whole_goal x ends =
            let z = body_step a m.came (Some x) (Some d) in
            let v = fed a.world d m.came in
            let turn : came_turn st.world k piece ≡ turn_of k piece n z =
            rw (is, ends) at (turn_body no_text) in
            let found : find d v.patches ≡ Some q = fed_there a.world d b.patch m.came b.found in
            let enough : (y : Request) → x.verdict ≡ Asks y → commit_refusal v d q ≡ Some Full → ⊥ =
            λ y asks full. roomy (done_came st c piece k here idle d is x y q ends asks found) full in
            let none = (commit_idle v d x.verdict (find d v.patches)).0 in
            conclude n z (Some d) (Some x) turn is ends
            (body_opens st.world k.draft a first_opens m.came (Some x) (Some d) is)
            (whole_did st.world r r1 c a first_did d b.patch m.came x is no_text b.found (b.whole x ends) enough)
            (λ e f. absurd (none-some e (sym none ∙ f)))

        by_moment : (x : Option Asked) → m.body ≡ x → Goal
        by_moment None ends = part_goal ends
        by_moment (Some x) ends = whole_goal x ends

      by_draft : a.pending ≡ None → (o : Option ℕ) → a.draft ≡ o → Goal
      by_draft no_text None none =
          conclude n a None m.body (rw none at (turn_body no_text)) none refl first_opens first_did
          (λ d is. absurd (none-some d (sym none ∙ is)))
      by_draft no_text (Some d) is = by_moment no_text d is m.body refl

      by_text : (o : Option Giving) → a.pending ≡ o → Goal
      by_text None e = by_draft e a.draft refl
      by_text (Some h) e =
          let none = none_if a.draft (λ d is. none-some h (sym (first_opens.idle d is) ∙ e)) in
          conclude (n - length m.came) a None m.body (turn_text h e) none refl first_opens first_did
          (λ d is. absurd (none-some d (sym none ∙ is)))

      came_goal : Goal
      came_goal = by_text a.pending refl

    nothing_taken : (piece : List ℕ) (h : Giving) → k.pending ≡ Some h
        → came_turn st.world k piece ≡ record { world = st.world; conn = Some k; bytes = []; text = []; taken = 0 }
    unfolding came_turn
    nothing_taken piece h e = ap (came_on st.world k piece) e

    came_case : (piece : List ℕ) → ((x : DonePatch st (Came c piece)) → IsRefused x Full → ⊥) → (o : Option Giving)
        → k.pending ≡ o
        → After g c (replay r (came_moments st.world c piece k o)) (turned st c (came_turn st.world k piece))
    came_case piece roomy None idle = came_goal piece idle roomy
    came_case piece roomy (Some h) text =
        rw (nothing_taken piece h text) same_conn

-- EACH EVENT

module _ (st : State) (valid : Valid st) (g : ℕ → List ℕ) (r : Rep) (sim : Sim st g r) where
  came_at_after : (c : ℕ) (piece : List ℕ) → ((x : DonePatch st (Came c piece)) → IsRefused x Full → ⊥)
      → (o : Option Conn) → st.conns c ≡ o
      → After g c (replay r (came_moments_on st.world c piece o)) (came_at st c piece o)
  came_at_after c piece roomy None is = refused_after st valid g r sim c Closed
  came_at_after c piece roomy (Some k) is = came_case st valid g r sim c k is piece roomy k.pending refl

  more_at_after : (c : ℕ) → CutsNoText st (More c) → (o : Option Conn) → st.conns c ≡ o → After g c r (more_at st c o)
  more_at_after c text_there None is = refused_after st valid g r sim c Closed
  more_at_after c text_there (Some k) is = more_after st valid g r sim c k is text_there

  ended_at_after : (c : ℕ) → ((x : DonePatch st (Ended c)) → IsRefused x Full → ⊥) → still_to_give (st.conns c) ≡ []
      → (o : Option Conn) → st.conns c ≡ o
      → After g c (replay r (ended_moments_on st.world c o)) (ended_at st c o)
  ended_at_after c roomy text None is = refused_after st valid g r sim c Closed
  ended_at_after c roomy text (Some k) is = end_case st valid g r sim c k is roomy text k.draft refl

  event_after : (e : Event) → ((x : DonePatch st e) → IsRefused x Full → ⊥) → CutsNoText st e
      → After g (conn_in e) (replay r (event_moments st e)) (step st e Served)
  unfolding step
  event_after (Opened c) roomy text = opened_after st valid g r sim c (st.conns c) refl
  event_after (Came c piece) roomy text = came_at_after c piece roomy (st.conns c) refl
  event_after (More c) roomy text = more_at_after c text (st.conns c) refl
  event_after (Ended c) roomy text = ended_at_after c roomy text (st.conns c) refl

-- THE HISTORY

abbrev pub first_rep : Store → Option ℕ → Rep
first_rep m blocks = record { world = bared (at_rest m blocks); drafts = λ c. None; given = λ c. [] }

record IsThere (start : State) (r : Rep) (past : List Marked) : Type 0 where
  valid : Valid (history start past)
  sim : Sim (history start past) (λ c. bytes_given start c past) (replay r (all_moments start past))

begins : (m : Store) (blocks : Option ℕ) → IsThere (beginning m blocks) (first_rep m blocks) []
begins m blocks = record {
  valid = record {
    holds = λ c k is. absurd (none-some k is);
    idle = λ c k is. absurd (none-some k is);
    apart = λ c e d is. absurd (none-some d is);
  };
  sim = record { world = refl; drafts = λ c. refl; given = λ c. refl };
}

all_there : (m : Store) (blocks : Option ℕ) (past : List Marked) → AllSmooth (beginning m blocks) past
    → IsThere (beginning m blocks) (first_rep m blocks) past
all_there m blocks [] smooth = begins m blocks
all_there m blocks (e ∷ past) (before, now) =
    let start = beginning m blocks in
    let st = history start past in
    let r0 = first_rep m blocks in
    let there = all_there m blocks past before in
    let g : ℕ → List ℕ = λ c. bytes_given start c past in
    let r = replay r0 (all_moments start past) in
    let after = event_after st there.valid g r there.sim e.0 now.roomy now.text in
    let joined : After g (conn_in e.0) (replay r0 (all_moments start past ++ event_moments st e.0)) (step st e.0 e.1) =
    rw (replay_both r0 (all_moments start past) (event_moments st e.0), now.served) after in
    record { valid = joined.0; sim = joined.1 }

pub same_bytes : (m : Store) (blocks : Option ℕ) (past other : List Marked) (c : ℕ)
    → AllSmooth (beginning m blocks) past → AllSmooth (beginning m blocks) other
    → all_moments (beginning m blocks) past ≡ all_moments (beginning m blocks) other
    → bytes_given (beginning m blocks) c past ++ still_to_give ((history (beginning m blocks) past).conns c)
    ≡ bytes_given (beginning m blocks) c other ++ still_to_give ((history (beginning m blocks) other).conns c)
same_bytes m blocks past other c smooth smooth' same =
    sym ((all_there m blocks past smooth).sim.given c)
    ∙ (ap (λ ms. (replay (first_rep m blocks) ms).given c) same ∙ (all_there m blocks other smooth').sim.given c)

pub same_uploads : (m : Store) (blocks : Option ℕ) (past other : List Marked) → AllSmooth (beginning m blocks) past
    → AllSmooth (beginning m blocks) other
    → all_moments (beginning m blocks) past ≡ all_moments (beginning m blocks) other
    → (history (beginning m blocks) past).world.store ≡ (history (beginning m blocks) other).world.store
same_uploads m blocks past other smooth smooth' same =
    ap (λ w. w.store) (sym (all_there m blocks past smooth).sim.world)
    ∙ (ap (λ ms. (replay (first_rep m blocks) ms).world.store) same
    ∙ ap (λ w. w.store) (all_there m blocks other smooth').sim.world)
