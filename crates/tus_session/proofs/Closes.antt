-- The end of a session: its drafts are dropped, one place after another.
use Rattle.std.proofs.Common.{◌≡◌, ◌≢◌, inl, inr, ℕ, suc, ◌<◌, List, [], ◌∷◌, ◌++◌, length, take, drop, get_or}
use Rattle.std.proofs.Common.{append_assoc, Option, Some, None, refl, sym, ◌∙◌, ap, arith, Bool}
use Rattle.std.proofs.lemmas.Bool.{cases_eq, cases_lt}
use Rattle.std.proofs.lemmas.Bool.Decides.{nat_tests}
use Rattle.std.proofs.lemmas.List.{length_push, take-append-drop}
use Rattle.std.proofs.lemmas.Option.{same_Some}
use Rattle.std.proofs.Math.Seq.{get_or-append_seam, take-append_seam}
use Rattle.upload_rules.specs.Store.{Store, find}
use Rattle.upload_rules.specs.World.{Patch, World, at_rest}
use Rattle.upload_rules.specs.Apart.{IsApart}
use Rattle.upload_rules.specs.declared.uploads.Uploads.{Ghosts}
use Rattle.upload_rules.proofs.Finds.{find_without_same, find_without_other}
use Rattle.tus_request.specs.Buffers.{head_bytes}
use Rattle.tus_session.specs.Turns.{Conn, left_world}
use Rattle.tus_session.specs.History.{State}
use Rattle.tus_session.specs.Represents.{LinkIs, PlaceIs, draft_of_conn, SessionRepresents, dropped_by}
use Rattle.tus_session.specs.declared.conns.Link.{Link}
use Rattle.tus_session.specs.declared.conns.Awaiting.{Awaiting}
use Rattle.tus_session.specs.declared.conns.Awaiting.TheVariants as awaits
use Rattle.tus_session.proofs.InPlace.{beyond, closed_none}
use Rattle.upload_rules.proofs.Patches.{apart_without}

-- a world with the uploads of the history, in which only the drafts of the first places are open
pub record IsClosing {U B : Type 0} (u : Ghosts U B) (sure : Bool) (st : State) (left : ℕ) (store : U)
    (v : World) : Type 0 where
  pub shown : u.represents store sure v
  pub uploads : v.store ≡ st.world.store
  pub blocks : v.blocks ≡ st.world.blocks
  pub unique : IsApart v.patches
  pub owned : (d : ℕ) (p : Patch) → find d v.patches ≡ Some p → (c : ℕ) × (c < left)
      × (draft_of_conn (st.conns c) ≡ Some d)

module _ {U B : Type 0} (u : Ghosts U B) (sure : Bool) where
  conn_below : (places : List (Option (Link B))) (store : U) (st : State) (c d : ℕ)
      → SessionRepresents u sure places store st → draft_of_conn (st.conns c) ≡ Some d → c < length places
  conn_below places store st c d represents e = elim (cases_lt c (length places)) [
    | inl lt ↦ lt
    | inr le ↦ let x : Some d ≡ None = sym e ∙ ap draft_of_conn (beyond u sure places store st represents c le) in
        absurd (cc)
  ]

  pub begins_closing : (places : List (Option (Link B))) (store : U) (st : State)
      → SessionRepresents u sure places store st
      → IsClosing u sure st (length places) store st.world
  begins_closing places store st represents = record {
    shown = represents.shown;
    uploads = refl;
    blocks = refl;
    unique = represents.unique;
    owned = λ d p found. let c = represents.owned d p found in
        (c.0, conn_below places store st c.0 d represents c.1, c.1);
  }

  -- the draft of the last place is dropped, if it has one
  pub closing : (st : State) (left : ℕ) (store store' : U) (v : World) (own : Option ℕ)
      → IsClosing u sure st (suc left) store v → draft_of_conn (st.conns left) ≡ own
      → u.represents store' sure (left_world v own) → IsClosing u sure st left store' (left_world v own)
  closing st left store store' v None is none shown = record {
    shown = shown;
    uploads = is.uploads;
    blocks = is.blocks;
    unique = is.unique;
    owned = λ d p found.
        let c = is.owned d p found in
        let ne : c.0 ≢ left = λ e. let x : None ≡ Some d = rw (e, none) at c.2 in absurd (cc) in
        (c.0, omega (arith, c.1, ne), c.2);
  }
  closing st left store store' v (Some d) is own shown = record {
    shown = shown;
    uploads = is.uploads;
    blocks = is.blocks;
    unique = apart_without d v.patches is.unique;
    owned = λ e p found. elim (cases_eq d e) [
      | inl same ↦
          let x : Some p ≡ None = sym found ∙ rw (← same) (find_without_same d v.patches is.unique) in absurd (cc)
      | inr ne ↦
          let c = is.owned e p (sym (find_without_other d e v.patches ne) ∙ found) in
          let other : c.0 ≢ left = λ same. ne (same_Some d e (sym own ∙ rw same at c.2)) in
          (c.0, omega (arith, c.1, other), c.2)
    ];
  }

  left_by : (w v : World) (head : List ℕ) (awaiting : Awaiting B) (conn : Conn) → LinkIs u w head awaiting conn
      → dropped_by u v awaiting ≡ left_world v conn.draft
  left_by w v head awaits.Head conn is = rw is.draft
  left_by w v head (awaits.Patch b left) conn is = rw is.draft
  left_by w v head (awaits.Skip left) conn is = rw is.draft
  left_by w v head (awaits.Text g left) conn is = rw is.draft

  place_left : (w v : World) (k : Link B) (o : Option Conn) → PlaceIs u w (Some k) o
      → dropped_by u v k.awaiting ≡ left_world v (draft_of_conn o)
  place_left w v k None is = absurd is
  place_left w v k (Some conn) is = left_by w v (head_bytes k.head) k.awaiting conn is

  no_patches : (patches : List (ℕ × Patch)) → ((d : ℕ) (p : Patch) → find d patches ≡ Some p → ⊥) → patches ≡ []
  no_patches [] none = refl
  no_patches (x ∷ patches) none = absurd (none x.0 x.1 (grind (arith, nat_tests)))

  -- no place is left
  pub all_closed : (st : State) (store : U) (v : World) → IsClosing u sure st 0 store v
      → u.represents store sure (at_rest st.world.store st.world.blocks)
  all_closed st store v is =
      let none : v.patches ≡ [] =
      no_patches v.patches (λ d p found. let c = is.owned d p found in let l : c.0 < 0 = c.1 in absurd
      (omega arith)) in
      let at : Store → List (ℕ × Patch) → Option ℕ → World = λ m ps n. record { store = m; patches = ps; blocks = n } in
      let e : at v.store v.patches v.blocks ≡ at st.world.store [] st.world.blocks =
      rw (none, is.uploads, is.blocks) in
      rw e at is.shown

-- the last of the first places is taken off
pub record Popped {B : Type 0} (all old new : List (Option (Link B))) (x : Option (Link B)) : Type 0 where
  pub prefix : new ≡ take (length new) all
  pub here : get_or all (length new) None ≡ x
  pub count : length old ≡ suc (length new)

pub popped : {B : Type 0} (all old new : List (Option (Link B))) (x : Option (Link B)) → old ≡ take (length old) all
    → old ≡ new ++ x ∷ [] → Popped all old new x
popped all old new x prefix items =
    let rest = drop (length old) all in
    let whole : all ≡ new ++ x ∷ rest =
    sym (take-append-drop (length old) all)
    ∙ (ap (λ ys. ys ++ rest) (sym prefix ∙ items) ∙ append_assoc new (x ∷ []) rest) in
    record {
      prefix = rw whole (sym (take-append_seam new (x ∷ rest)));
      here = ap (λ ys. get_or ys (length new) None) whole ∙ get_or-append_seam new x rest None;
      count = omega (arith, ap length items, length_push new x);
    }

module _ {U B : Type 0} (u : Ghosts U B) (sure : Bool) (all old new : List (Option (Link B))) (first : U) (st : State)
    (represents : SessionRepresents u sure all first st) where
  place_there : (x : Option (Link B)) → Popped all old new x → PlaceIs u st.world x (st.conns (length new))
  place_there x is = rw is.here at (represents.each (length new))

  pub after_closed : (store : U) (v : World) (x : Option (Link B)) → x ≡ None → Popped all old new x
      → IsClosing u sure st (length old) store v → (v' : World) × IsClosing u sure st (length new) store v'
  after_closed store v x e is closes =
      let none = closed_none u sure st.world (st.conns (length new)) (rw e at (place_there x is)) in (
        v,
        closing u sure st (length new) store store v None (rw is.count at closes) (ap draft_of_conn none)
            closes.shown,
      )

  pub after_open : (store store' : U) (v : World) (x : Option (Link B)) (k : Link B) → x ≡ Some k → Popped all old new x
      → IsClosing u sure st (length old) store v → u.represents store' sure (dropped_by u v k.awaiting) → (v' : World)
      × IsClosing u sure st (length new) store' v'
  after_open store store' v x k e is closes shown =
      let conn = st.conns (length new) in
      let left = place_left u sure st.world v k conn (rw e at (place_there x is)) in (
        left_world v (draft_of_conn conn),
        closing u sure st (length new) store store' v (draft_of_conn conn)
            (rw is.count at closes) refl (rw left at shown),
      )
