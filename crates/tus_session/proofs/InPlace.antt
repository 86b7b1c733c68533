-- A connection in its place: after an event, and when it opens.
use Rattle.std.proofs.Common.{◌≡◌, ◌≢◌, ◌⊎◌, inl, inr, ℕ, ◌<◌, ◌≤◌, List, length, get_or, slice_set, Bool, Option, Some}
use Rattle.std.proofs.Common.{None, refl, sym, ◌∙◌, ap, subst, arith, get_or-set_same, get_or-set_other, length-set}
use Rattle.std.proofs.Common.{zero, suc, true, false, [], ◌∷◌, ◌++◌, is_some}
use Rattle.std.proofs.lemmas.Bool.Decides.{nat_tests}
use Rattle.std.proofs.lemmas.Bool.{cases_eq, lt-ltb, le-ltb}
use Rattle.std.proofs.lemmas.List.{get_or_default, get_or_past}
use Rattle.upload_rules.specs.Store.{find}
use Rattle.upload_rules.specs.World.{Patch, World}
use Rattle.upload_rules.specs.declared.uploads.Uploads.{Ghosts}
use Rattle.tus_session.specs.Turns.{Conn, fresh, reader}
use Rattle.tus_session.specs.History.{State, with_conn, put, Opened, Served, Done, Refused, step}
use Rattle.tus_session.specs.declared.session.TheConstants.{MOST_OPEN}
use Rattle.tus_session.specs.Represents.{PlaceIs, draft_of_conn, SessionRepresents}
use Rattle.tus_session.specs.Moves.{Moves}
use Rattle.tus_session.specs.Places.{IsLinkPut}
use Rattle.tus_session.specs.declared.conns.Link.{Link}
use Rattle.tus_session.proofs.Frames.{place_moved, draft_found}
use Rattle.tus_request.specs.Buffers.{head_bytes}
use Rattle.enc_model.specs.Indexes.{offers}
use Rattle.tus_request.proofs.Prefixes.{steady}
use Rattle.tus_session.specs.Streams.{InHead}
use Rattle.tus_session.specs.Results.{Follows}
use Rattle.tus_request.specs.declared.buffer.HeadBuffer.{HeadBuffer}
use Rattle.tus_session.specs.declared.conns.Awaiting.TheVariants as awaits
use Rattle.tus_session.specs.declared.errors.SessionError.TheVariants.{TooMany}
use Rattle.tus_session.proofs.Unfinished.{empty_cut}
use Rattle.tus_session.proofs.Moved.{still}

pub conns_here : (conns : ℕ → Option Conn) (k : ℕ) (conn : Option Conn) → with_conn conns k conn k ≡ conn
conns_here conns k conn = grind (arith, nat_tests)

pub conns_else : (conns : ℕ → Option Conn) (k j : ℕ) (conn : Option Conn) → j ≢ k → with_conn conns k conn j ≡ conns j
conns_else conns k j conn ne = grind (arith, nat_tests)

module _ {U B : Type 0} (u : Ghosts U B) (sure : Bool) where
  module _ (places all : List (Option (Link B))) (store store' : U) (st : State) (w' : World) (k : ℕ)
      (next : Option (Link B)) (conn' : Option Conn) (represents : SessionRepresents u sure places store st)
      (is_put : IsLinkPut places all k next) (moves : Moves st.world w' (draft_of_conn (st.conns k))
      (draft_of_conn conn'))
      (shown : u.represents store' sure w') (here : PlaceIs u w' next conn') where
    each_there : (c : ℕ) → PlaceIs u w' (get_or all c None) (with_conn st.conns k conn' c)
    each_there c = elim (cases_eq c k) [
      | inl is ↦ rw (is, is_put.here, conns_here st.conns k conn') here
      | inr ne ↦
          let ours = λ (e : ℕ) (f : draft_of_conn (st.conns c) ≡ Some e) (g : draft_of_conn (st.conns k) ≡ Some e).
          ne (represents.apart c k e f g) in
          rw (is_put.others c ne, conns_else st.conns k c conn' ne)
          (place_moved u sure st.world w' (draft_of_conn (st.conns k)) (draft_of_conn conn') (get_or places c None)
          (st.conns c)
          moves ours (represents.each c))
    ]

    -- another connection's draft isn't the one that is here now
    not_both : (e d : ℕ) → e ≢ k → draft_of_conn conn' ≡ Some d → draft_of_conn (st.conns e) ≡ Some d → ⊥
    not_both e d ne f g = elim (moves.fresh d f) [
      | inl own ↦ ne (represents.apart e k d g own)
      | inr none ↦ let p = draft_found u sure st.world (get_or places e None) (st.conns e) d (represents.each e)
          g in let x : Some p.0 ≡ None = sym p.1 ∙ none in absurd (cc)
    ]

    draft_there : (c : ℕ) → ((c ≡ k) × (draft_of_conn (with_conn st.conns k conn' c) ≡ draft_of_conn conn'))
        ⊎ ((c ≢ k) × (draft_of_conn (with_conn st.conns k conn' c) ≡ draft_of_conn (st.conns c)))
    draft_there c = elim (cases_eq c k) [
      | inl is ↦ inl (is, rw (is, conns_here st.conns k conn'))
      | inr ne ↦ inr (ne, ap draft_of_conn (conns_else st.conns k c conn' ne))
    ]

    apart_there : (c e d : ℕ) → draft_of_conn (with_conn st.conns k conn' c) ≡ Some d
        → draft_of_conn (with_conn st.conns k conn' e) ≡ Some d → c ≡ e
    apart_there c e d f g = elim (draft_there c) [
      | inl x ↦ elim (draft_there e) [
        | inl y ↦ x.0 ∙ sym y.0
        | inr y ↦ absurd (not_both e d y.0 (sym x.1 ∙ f) (sym y.1 ∙ g))
      ]
      | inr x ↦ elim (draft_there e) [
        | inl y ↦ absurd (not_both c d x.0 (sym y.1 ∙ g) (sym x.1 ∙ f))
        | inr y ↦ represents.apart c e d (sym x.1 ∙ f) (sym y.1 ∙ g)
      ]
    ]

    owned_there : (d : ℕ) (p : Patch) → find d w'.patches ≡ Some p
        → (c : ℕ) × (draft_of_conn (with_conn st.conns k conn' c) ≡ Some d)
    owned_there d p found = elim (moves.back d p represents.unique found) [
      | inl own ↦ (k, ap draft_of_conn (conns_here st.conns k conn') ∙ own)
      | inr other ↦
          let c = represents.owned d other.1.0 other.1.1 in
          let ne : c.0 ≢ k = λ is. other.0 (ap (λ i. draft_of_conn (st.conns i)) (sym is) ∙ c.1) in
          (c.0, ap draft_of_conn (conns_else st.conns k c.0 conn' ne) ∙ c.1)
    ]

    pub in_place : SessionRepresents u sure all store' (put st w' k conn')
    in_place = record {
      count = is_put.count ∙ represents.count;
      shown = shown;
      each = each_there;
      apart = apart_there;
      unique = moves.unique represents.unique;
      owned = owned_there;
    }

  -- a place is taken, and gets this
  pub is_put_back : (places taken : List (Option (Link B))) (k : ℕ) (next : Option (Link B))
      → IsLinkPut places taken k None
      → k < length taken → IsLinkPut places (slice_set taken k next) k next
  is_put_back places taken k next is lt = record {
    count = length-set taken k next ∙ is.count;
    here = get_or-set_same taken k next None lt;
    others = λ j ne. get_or-set_other taken k j next None ne ∙ is.others j ne;
  }

  pub closed_none : (w : World) (conn : Option Conn) → PlaceIs u w None conn → conn ≡ None
  closed_none w None is = refl
  closed_none w (Some k) is = absurd is

  some_conn : (w : World) (k : Link B) (conn : Option Conn) → PlaceIs u w (Some k) conn → (c : Conn) × (conn ≡ Some c)
  some_conn w k None is = absurd is
  some_conn w k (Some c) is = (c, refl)

  new_place : (w : World) (head : HeadBuffer) → (head_bytes head) ≡ []
      → PlaceIs u w (Some (record { head = head; awaiting = awaits.Head })) (Some fresh)
  new_place w head e = assumption (ap (λ x. x.rest) (empty_cut (reader w) (steady (offers w.store.indexes)))
      ∙ ap InHead (sym e))

  module _ (places : List (Option (Link B))) (store : U) (st : State)
      (represents : SessionRepresents u sure places store st)
    where
      -- what follows from a connection's place
      place_at : (k : ℕ) (x : Option (Link B)) → k < length places → x ≡ get_or places k x
          → PlaceIs u st.world x (st.conns k)
      place_at k x lt e =
          subst (λ y. PlaceIs u st.world y (st.conns k)) (sym (e ∙ get_or_default places k x None lt))
          (represents.each k)

      -- no connection is open beyond the places
      pub beyond : (k : ℕ) → length places ≤ k → st.conns k ≡ None
      beyond k le = closed_none st.world (st.conns k) (rw (get_or_past places k None le) at (represents.each k))

      -- A CONNECTION OPENS
      pub opened : (c : ℕ) (head : HeadBuffer) → c < length places → st.conns c ≡ None → (head_bytes head) ≡ []
          → Follows u sure (slice_set places c (Some (record { head = head; awaiting = awaits.Head }))) store
          (step st (Opened c) Served).state (step st (Opened c) Served).outcome Done
      unfolding step
      opened c head lt none e =
          let k : Option (Link B) = Some (record { head = head; awaiting = awaits.Head }) in
          let moves : Moves st.world st.world (draft_of_conn (st.conns c)) None = rw none (still st.world None) in
          let put : IsLinkPut places (slice_set places c k) c k = record {
            count = length-set places c k;
            here = get_or-set_same places c k None lt;
            others = λ j ne. get_or-set_other places c j k None ne;
          } in
          let s = in_place places (slice_set places c k) store store st st.world c k (Some fresh) represents put moves
          represents.shown (new_place st.world head e) in
          rw (none, lt-ltb c MOST_OPEN (omega (arith, represents.count))) (record { represents = s; outcome = refl })

      pub not_below : (c : ℕ) → length places ≤ c
          → Follows u sure places store st (step st (Opened c) Served).outcome (Refused TooMany)
      unfolding step
      not_below c le =
          rw (beyond c le, le-ltb c MOST_OPEN (omega (arith, represents.count)))
          (record { represents = represents; outcome = refl })

      pub is_open : (c : ℕ) (x : Option (Link B)) → c < length places → x ≡ get_or places c x → is_some x ≡ true
          → Follows u sure places store st (step st (Opened c) Served).outcome (Refused TooMany)
      unfolding step
      is_open c None lt e is = absurd (cc)
      is_open c (Some k) lt e is =
          rw (some_conn st.world k (st.conns c) (place_at c (Some k) lt e)).1
          (record { represents = represents; outcome = refl })

      pub not_open : (c : ℕ) (x : Option (Link B)) → c < length places → x ≡ get_or places c x → is_some x ≡ false
          → st.conns c ≡ None
      not_open c None lt e is = closed_none st.world (st.conns c) (place_at c None lt e)
      not_open c (Some k) lt e is = absurd (cc)

-- one closed place more
pub closed_push : {B : Type 0} (xs : List (Option (Link B))) → ((c : ℕ) → get_or xs c None ≡ None) → (c : ℕ)
    → get_or (xs ++ None ∷ []) c None ≡ None
closed_push [] h zero = refl
closed_push [] h (suc c) = refl
closed_push (x ∷ xs) h zero = h zero
closed_push (x ∷ xs) h (suc c) = closed_push xs (λ c. h (suc c)) c
