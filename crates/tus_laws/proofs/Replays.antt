-- The replay of a history's moments gives what the history gives.
use Rattle.std.proofs.Common.{◌≡◌, ◌≢◌, ◌⊎◌, inl, inr, ◌==◌, ℕ, Bool, List, [], ◌++◌, if◌then◌else◌}
use Rattle.std.proofs.Common.{Option, Some, None, refl, sym, ◌∙◌, ap, subst, arith, append-nil, append_assoc}
use Rattle.std.proofs.lemmas.Option.{none-some}
use Rattle.std.proofs.lemmas.Bool.{cases_eq}
use Rattle.std.proofs.lemmas.Bool.Decides.{nat_tests}
use Rattle.upload_rules.specs.Store.{find}
use Rattle.upload_rules.specs.World.{Patch, World}
use Rattle.tus_session.specs.Turns.{Conn, conn_of}
use Rattle.tus_session.specs.History.{State, with_conn, put}
use Rattle.tus_session.specs.Represents.{draft_of_conn}
use Rattle.tus_session.proofs.InPlace.{conns_here, conns_else}
use Rattle.tus_session.proofs.BodyResults.{rest_same}
use Rattle.tus_action.specs.Acts.{Acted}
use Rattle.tus_laws.specs.Cuts.{still_to_give}
use Rattle.tus_laws.proofs.Bare.{bared}
use Rattle.tus_laws.proofs.Bodies.{Holds, DraftHolds}
use Rattle.tus_laws.proofs.Turning.{Opens, Rep, Did}

-- each connection's patch holds what came of its body, none has a patch and a text, and no two have one patch
pub record Valid (st : State) : Type 0 where
  pub holds : (c : ℕ) (k : Conn) → st.conns c ≡ Some k → DraftHolds st.world k
  pub idle : (c : ℕ) (k : Conn) → st.conns c ≡ Some k → (d : ℕ) → k.draft ≡ Some d → k.pending ≡ None
  pub apart : (c e d : ℕ) → draft_of_conn (st.conns c) ≡ Some d → draft_of_conn (st.conns e) ≡ Some d → c ≡ e

-- the replay is where the history is
pub record Sim (st : State) (g : ℕ → List ℕ) (r : Rep) : Type 0 where
  pub world : r.world ≡ bared st.world
  pub drafts : (c : ℕ) → r.drafts c ≡ draft_of_conn (st.conns c)
  pub given : (c : ℕ) → r.given c ≡ g c ++ still_to_give (st.conns c)

some_conn : (o : Option Conn) (d : ℕ) → draft_of_conn o ≡ Some d → (k : Conn) × (o ≡ Some k) × (k.draft ≡ Some d)
some_conn None d e = absurd (none-some d e)
some_conn (Some k) d e = (k, refl, e)

module _ (st : State) (valid : Valid st) (w' : World) (c : ℕ) (o' : Option Conn) where
  -- what a turn of one connection preserves
  pub record IsTurnOf : Type 0 where
    pub indexes : w'.store.indexes ≡ st.world.store.indexes
    pub others : (e : ℕ) (p : Patch) → find e st.world.patches ≡ Some p → (draft_of_conn (st.conns c) ≡ Some e → ⊥)
        → find e w'.patches ≡ Some p
    pub fresh : (d : ℕ) → draft_of_conn o' ≡ Some d → (draft_of_conn (st.conns c) ≡ Some d)
        ⊎ (find d st.world.patches ≡ None)
    pub holds : (k : Conn) → o' ≡ Some k → DraftHolds w' k
    pub idle : (k : Conn) → o' ≡ Some k → (d : ℕ) → k.draft ≡ Some d → k.pending ≡ None

  module _ (text_there : IsTurnOf) where
    abbrev conns : ℕ → Option Conn
    conns = with_conn st.conns c o'

    old_holds : (e : ℕ) → e ≢ c → (k : Conn) → st.conns e ≡ Some k → DraftHolds w' k
    old_holds e ne k is d f =
        let x = valid.holds e k is d f in
        record {
          asked = x.asked;
          patch = x.patch;
          rest = rest_same st.world w' k.stream text_there.indexes ∙ x.rest;
          found = text_there.others d x.patch x.found (λ own. ne (valid.apart e c d (ap draft_of_conn is ∙ f) own));
          body = x.body;
        }

    not_both : (e d : ℕ) → e ≢ c → draft_of_conn o' ≡ Some d → draft_of_conn (st.conns e) ≡ Some d → ⊥
    not_both e d ne f h = elim (text_there.fresh d f) [
      | inl own ↦ ne (valid.apart e c d h own)
      | inr none ↦
          let k = some_conn (st.conns e) d h in
          let x = valid.holds e k.0 k.1 d k.2 in
          none-some x.patch (sym none ∙ x.found)
    ]

    pub valid_put : Valid (put st w' c o')
    valid_put = record {
      holds = λ e k is. elim (cases_eq e c) [
        | inl same ↦ text_there.holds k (sym (conns_here st.conns c o') ∙ (ap conns (sym same) ∙ is))
        | inr ne ↦ old_holds e ne k (sym (conns_else st.conns c e o' ne) ∙ is)
      ];
      idle = λ e k is. elim (cases_eq e c) [
        | inl same ↦ text_there.idle k (sym (conns_here st.conns c o') ∙ (ap conns (sym same) ∙ is))
        | inr ne ↦ valid.idle e k (sym (conns_else st.conns c e o' ne) ∙ is)
      ];
      apart = λ a b d f h. grind (arith, nat_tests, valid.apart, not_both);
    }

-- what the replay makes of a turn
pub record Replays (st : State) (g : ℕ → List ℕ) (r r' : Rep) (w' : World) (c : ℕ) (o' : Option Conn)
    (bytes : List ℕ) : Type 0 where
  pub world : r'.world ≡ bared w'
  pub draft : r'.drafts c ≡ draft_of_conn o'
  pub bytes_are : r'.given c ≡ (g c ++ bytes) ++ still_to_give o'
  pub drafts : (e : ℕ) → (e ≡ c → ⊥) → r'.drafts e ≡ r.drafts e
  pub given : (e : ℕ) → (e ≡ c → ⊥) → r'.given e ≡ r.given e

abbrev pub more_given : (ℕ → List ℕ) → ℕ → List ℕ → ℕ → List ℕ
more_given g c bytes k = g k ++ (if c == k then bytes else [])

pub sim_put : (st : State) (g : ℕ → List ℕ) (r r' : Rep) (w' : World) (c : ℕ) (o' : Option Conn) (bytes : List ℕ)
    → Sim st g r → Replays st g r r' w' c o' bytes
    → Sim (put st w' c o') (more_given g c bytes) r'
sim_put st g r r' w' c o' bytes sim x = record {
  world = x.world;
  drafts = λ e. grind (arith, nat_tests, sim.drafts, x.drafts);
  given = λ e. grind (arith, nat_tests, sim.given, x.given, append-nil {A = ℕ});
}

pub sim_same : (st : State) (g : ℕ → List ℕ) (r : Rep) (c : ℕ) → Sim st g r → Sim st (more_given g c []) r
sim_same st g r c sim = record {
  world = sim.world;
  drafts = sim.drafts;
  given = λ e. grind (arith, sim.given, append-nil {A = ℕ});
}

-- a connection after what was done
conn_left : (s : List ℕ) (z : Acted) (k : Conn) (b : Bool)
    → (if b then None else Some (record { stream = s; draft = z.draft; pending = z.pending })) ≡ Some k
    → record { stream = s; draft = z.draft; pending = z.pending } ≡ k
conn_left s z k b e = grind arith

abbrev conn_as : List ℕ → Acted → Conn
conn_as s z = record { stream = s; draft = z.draft; pending = z.pending }

-- A CALL THAT BROUGHT BYTES, on an open connection without a text
module _ (st : State) (valid : Valid st) (g : ℕ → List ℕ) (r r' : Rep) (sim : Sim st g r) (c : ℕ) (k : Conn)
    (here : st.conns c ≡ Some k) (no_text : k.pending ≡ None)
    (s : List ℕ) (z : Acted) (opens : Opens st.world k.draft z) (did : Did r r' c z)
    (indexes : z.world.store.indexes ≡ st.world.store.indexes)
    (holds : (d : ℕ) → z.draft ≡ Some d → Holds z.world (conn_as s z) d) where
  own_is : draft_of_conn (st.conns c) ≡ k.draft
  own_is = ap draft_of_conn here

  came_later : IsTurnOf st valid z.world c (conn_of s z)
  came_later = record {
    indexes = indexes;
    others = λ e p there ne. opens.others e p there (λ own. ne (own_is ∙ own));
    fresh = λ d is. let left = opens.closed in let old = opens.fresh d in grind arith;
    holds = λ j is. subst (DraftHolds z.world) (conn_left s z j z.closes is) holds;
    idle = λ j is. subst (λ x. (d : ℕ) → x.draft ≡ Some d → x.pending ≡ None) (conn_left s z j z.closes is) opens.idle;
  }

  came_replays : Replays st g r r' z.world c (conn_of s z) z.bytes
  came_replays =
      let left = opens.closed in
      let before = sim.given c in
      record {
        world = did.world;
        draft = grind arith;
        bytes_are = grind (arith, append_assoc {A = ℕ}, append-nil {A = ℕ});
        drafts = did.drafts;
        given = did.given;
      }

  pub came_after : Valid (put st z.world c (conn_of s z))
      × Sim (put st z.world c (conn_of s z)) (more_given g c z.bytes) r'
  came_after = (
    valid_put st valid z.world c (conn_of s z) came_later,
    sim_put st g r r' z.world c (conn_of s z) z.bytes sim came_replays,
  )
