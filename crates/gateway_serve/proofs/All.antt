-- All places, after events of one connection.
use Rattle.std.proofs.Common.{◌≡◌, ◌<◌, ◌≤◌, inl, inr, ℕ, ◌+◌, Bool, List, [], ◌∷◌, length, set, get_or, Result, Ok}
use Rattle.std.proofs.Common.{Err}
use Rattle.std.proofs.Common.{refl, sym, ◌∙◌, ap, arith, get_or-set_same, get_or-set_other}
use Rattle.std.proofs.lemmas.Bool.{cases_eq, cases_lt}
use Rattle.std.proofs.lemmas.List.{get_or_default, get_or_past}
use Rattle.common.specs.declared.stop.DiskFault.{DiskFault}
use Rattle.tus_session.specs.History.{State, Opened, Done, Refused, Marked, history, step}
use Rattle.tus_session.specs.declared.errors.SessionError.{SessionError}
use Rattle.tus_session.specs.Connections.{mark_of, outcome_of_done}
use Rattle.tus_session.specs.declared.connections.Connections.{Ghosts}
use Rattle.gateway_serve.specs.Conversations.{Conversation, AreTalks, AreRefused, new_conversation, one_if_refused}
use Rattle.gateway_serve.specs.Sockets as sockets
use Rattle.gateway_serve.specs.Sockets.{Pairs, current_of}
use Rattle.gateway_serve.specs.declared.sockets.Seen.{Seen}
use Rattle.gateway_serve.specs.Served.{AllServed}
use Rattle.gateway_serve.specs.Joined.{Joins, Alone, PlaceJoins, PlaceFell, GoesAt, StaysJoined, OthersStay, AllJoin}
use Rattle.gateway_serve.specs.Joined.{AllFell, PlaceWaits, SamePlaces, IsNew, joint_of, nothing_yet, with_place}
use Rattle.gateway_serve.specs.declared.places.Place.{Place}
use Rattle.gateway_serve.specs.declared.places.Place.TheVariants.{Free, Open}
use Rattle.gateway_serve.specs.declared.links.Link.{Link}
use Rattle.gateway_serve.specs.declared.reasons.Reason.TheVariants.{Over}
use Rattle.gateway_serve.proofs.After.{followed}
use Rattle.gateway_serve.proofs.Steps.{opens_closed, step_else, unopened}
use Rattle.gateway_serve.proofs.Joints.{moved}
use Rattle.gateway_serve.proofs.Talks.{talks_here, talks_else, alone_step, gave_done, gave_refused}
use Rattle.gateway_serve.proofs.Freed.{loosely, others_stay, unreported_place}

-- by events of another connection a place stays as it was
module _ {S : Type 0} (sure : Bool) (st : State) (past now : List Marked) (k : ℕ)
    (talks : (cs : List Conversation) → AreTalks sure st past k cs → AreTalks sure st now k cs)
    (conns : (history st now).conns k ≡ (history st past).conns k) where
  place_unchanged : (p : Place S) (ended : List Seen) → PlaceJoins sure p ended st past k
      → PlaceJoins sure p ended st now k
  place_unchanged Free ended is = (is.0, talks is.0 is.1, is.2, conns ∙ is.3)
  place_unchanged (Open l) ended is =
      moved sure ended st past k (joint_of l) (joint_of l) now is.latest is (talks (is.latest ∷ is.others) is.talks)
      is.disconnected is.taken is.few is.given is.at (λ e. conns ∙ is.shut e)

-- of one place that is set, and of the others
pub set_all : {S : Type 0} (P : Place S → ℕ → Type 0) (places : List (Place S)) (n : ℕ) (p' : Place S)
    → n < length places → P p' n → ((k : ℕ) → (k ≡ n → ⊥) → P (get_or places k Free) k)
    → (k : ℕ) → P (get_or (set places n p') k Free) k
set_all P places n p' inside here others k = elim (cases_eq k n) [
  | inl e ↦ rw (e, get_or-set_same places n p' Free inside) here
  | inr ne ↦ rw (get_or-set_other places n k p' Free ne) (others k ne)
]

pub falls : {S : Type 0} (sure : Bool) (p : Place S) (ended : List Seen) (st : State) (past : List Marked) (n : ℕ)
    → PlaceJoins sure p ended st past n → PlaceFell sure p ended st past n
falls sure Free ended st past n is = (is.0, is.1, is.2)
falls sure (Open l) ended st past n is = is

module _ {S : Type 0} (sure : Bool) (places : List (Place S)) (n : ℕ) (p' : Place S) (ended ended' : List Seen)
    (refused : ℕ) (st : State) (past now : List Marked) (inside : n < length places)
    (alone : Alone sure st n past now) (others : OthersStay n ended ended')
    (all : AllJoin sure places ended refused st past) where
  other_place : (k : ℕ) → (k ≡ n → ⊥) → PlaceJoins sure (get_or places k Free) (current_of k ended') st now k
  other_place k ne = rw (others k ne) (place_unchanged sure st past now k (alone.talks k ne) (alone.conns k ne)
      (get_or places k Free) (current_of k ended) (all.0 k))

  still_refused : AreRefused refused st now
  still_refused = all.1 ∙ sym alone.refused

  pub all_joined : PlaceJoins sure p' (current_of n ended') st now n
      → AllJoin sure (set places n p') ended' refused st now
  all_joined here = (
    set_all (λ p k. PlaceJoins sure p (current_of k ended') st now k) places n p' inside here other_place,
    still_refused,
  )

  pub all_fallen : PlaceFell sure p' (current_of n ended') st now n
      → AllFell sure (set places n p') ended' refused st now
  all_fallen here = (
    set_all (λ p k. PlaceFell sure p (current_of k ended') st now k) places n p' inside here
        (λ k ne. falls sure (get_or places k Free) (current_of k ended') st now k (other_place k ne)),
    still_refused,
  )

-- what was done at one place, among all
pub among_all : {C S T : Type 0} (c : Ghosts C) (old mid new : C) (reported : Result T DiskFault)
    (first places : List (Place S)) (n : ℕ) (d p' : Place S) (was ended ended' : List Seen) (refused now_refused : ℕ)
    → StaysJoined c old mid (Ok (tt {0})) first places was ended refused now_refused
    → GoesAt c mid new reported (get_or places n d) p' ended ended' n → OthersStay n ended ended' → n < length places
    → StaysJoined c old new reported first (set places n p') was ended' refused now_refused
among_all c old mid new reported first places n d p' was ended ended' refused now_refused on goes others inside =
    λ sure before st past went joins.
    let s = on sure before st past went joins in
    followed c sure before new st (λ now. Alone sure st n s.0 now × PlaceJoins sure p' (current_of n ended') st now n)
    (λ now. Alone sure st n s.0 now × PlaceFell sure p' (current_of n ended') st now n)
    (AllJoin sure (set places n p') ended' now_refused st) (AllFell sure (set places n p') ended' now_refused st)
    reported (goes sure before st s.0 s.1 (rw (get_or_default places n Free d inside) at (s.2.0 n)))
    (λ now x. all_joined sure places n p' ended ended' now_refused st s.0 now inside x.0 others s.2 x.1)
    (λ now x. all_fallen sure places n p' ended ended' now_refused st s.0 now inside x.0 others s.2 x.1)

-- ALL ARE ENDED
pub all_served : {S : Type 0} (sure : Bool) (places : List (Place S)) (ended : List Seen) (refused : ℕ) (st : State)
    (past : List Marked)
    → ((k : ℕ) → k < length places → get_or places k Free ≡ Free)
    → AllJoin sure places ended refused st past → AllServed sure ended refused st past
all_served {S} sure places ended refused st past free all = (
  λ k.
      let is_free : get_or places k Free ≡ Free =
      elim (cases_lt k (length places)) [ inl lt ↦ free k lt | inr le ↦ get_or_past places k Free le ] in
      rw is_free at (all.0 k),
  all.1,
)

-- ALL ARE LET GO
abbrev pub LeftAt : Bool → List Seen → State → List Marked → ℕ → Type 0
LeftAt sure ended st past k =
    (cs : List Conversation) × AreTalks sure st past k cs × Pairs sockets.Fits (current_of k ended) cs

abbrev pub HalfLeft : {S : Type 0} → Bool → ℕ → List (Place S) → List Seen → State → List Marked → Type 0
HalfLeft sure i places ended st past =
    (k : ℕ) → (k < i → LeftAt sure ended st past k)
    × (i ≤ k → PlaceFell sure (get_or places k Free) (current_of k ended) st past k)

pub none_left : {S : Type 0} (sure : Bool) (places : List (Place S)) (ended : List Seen) (refused : ℕ) (st : State)
    (past : List Marked) → AllFell sure places ended refused st past → HalfLeft sure 0 places ended st past
none_left sure places ended refused st past all = λ k. (λ lt. absurd (omega (arith, lt)), λ le. all.0 k)

pub all_left : {S : Type 0} (sure : Bool) (i : ℕ) (places : List (Place S)) (ended : List Seen) (st : State)
    (past : List Marked) → length places ≤ i → HalfLeft sure i places ended st past
    → (k : ℕ) → LeftAt sure ended st past k
all_left {S} sure i places ended st past most all = λ k. elim (cases_lt k i) [
  | inl lt ↦ (all k).0 lt
  | inr le ↦
      let is = rw (get_or_past places k Free (omega (arith, most, le))) at ((all k).1 le) in
      (is.0, is.1, loosely _ _ is.2)
]

pub one_more_left : {S : Type 0} (sure : Bool) (i : ℕ) (places : List (Place S)) (d p' : Place S)
    (ended ended' : List Seen) (st : State) (past : List Marked) → i < length places
    → ended' ≡ with_place i Over (get_or places i d) ended → PlaceWaits (get_or places i d)
    → HalfLeft sure i places ended st past → HalfLeft sure (i + 1) (set places i p') ended' st past
one_more_left {S} sure i places d p' ended ended' st past inside with few all = λ k. elim (cases_eq k i) [
  | inl e ↦ (
    λ lt. rw (e, with) (unreported_place sure ended st past i (get_or places i d) few
        (rw (get_or_default places i Free d inside) at ((all i).1 (omega arith)))),
    λ le. absurd (omega (arith, le, e)),
  )
  | inr ne ↦
      let others : current_of k ended' ≡ current_of k ended =
      rw with (others_stay i Over (get_or places i d) ended k ne) in (
        λ lt. rw others ((all k).0 (omega (arith, lt, ne))),
        λ le. rw (get_or-set_other places i k p' Free ne, others) ((all k).1 (omega (arith, le))),
      )
]

-- those before the next place are free
pub free_before : {S : Type 0} (i : ℕ) (places : List (Place S)) (p' : Place S) → i < length places → p' ≡ Free
    → ((k : ℕ) → k < i → get_or places k Free ≡ Free)
    → (k : ℕ) → k < i + 1 → get_or (set places i p') k Free ≡ Free
free_before i places p' inside free before =
    set_all (λ p k. k < i + 1 → p ≡ Free) places i p' inside (λ lt. free) (λ k ne lt. before k (omega (arith, lt, ne)))

-- THE BEGINNING: no place, and no socket
none_join : (S : Type 0) (sure : Bool) (st : State) (n : ℕ) → PlaceJoins {S = S} sure (get_or [] n Free) [] st [] n
none_join S sure st n = ([], refl, tt {0}, refl)

pub new_joins : {S : Type 0} (sure : Bool) (places : List (Place S)) (ended : List Seen) (st : State) → places ≡ []
    → ended ≡ [] → AllJoin sure places ended 0 st []
new_joins {S} sure places ended st free none = (λ n. rw (free, none) (none_join S sure st n), refl)

-- places that differ only by free ones
pub same_join : {S : Type 0} (sure : Bool) (old new : List (Place S)) (ended ended' : List Seen) (st : State)
    (past : List Marked) (refused refused' : ℕ)
    → SamePlaces old new → ended' ≡ ended → refused' ≡ refused → AllJoin sure old ended refused st past
    → AllJoin sure new ended' refused' st past
same_join {S} sure old new ended ended' st past refused refused' same is kept all =
    (λ n. rw (is, same n) (all.0 n), kept ∙ all.1)

-- A CONNECTION IS OPENED, in a place that is free
module _ {S : Type 0} (sure : Bool) (places : List (Place S)) (n : ℕ) (ended : List Seen) (refused : ℕ) (st : State)
    (past : List Marked) (answer : Result (Unit {0}) SessionError)
    (outcome : (step (history st past) (Opened n) (mark_of answer)).outcome ≡ outcome_of_done answer)
    (all : AllJoin sure places ended refused st past) (free : get_or places n Free ≡ Free) where
  at_free : PlaceJoins {S = S} sure Free (current_of n ended) st past n
  at_free = rw free at (all.0 n)

  begins : (l : Link S) → joint_of l ≡ nothing_yet → (step (history st past) (Opened n) (mark_of answer)).outcome ≡ Done
      → Joins sure (joint_of l) (current_of n ended) st ((Opened n, mark_of answer) ∷ past) n
  begins l new done =
      rw new (record {
        latest = new_conversation;
        others = at_free.0;
        talks = talks_here sure st past (Opened n) (mark_of answer) at_free.0 Done at_free.1
            (gave_done sure _ _ done);
        disconnected = refl;
        taken = refl;
        few = omega arith;
        given = refl;
        at = refl;
        pairs = at_free.2;
        shut = λ e. absurd (cc);
        apart = sym at_free.3 ∙ opens_closed (history st past) n (mark_of answer) done;
      })

  pub all_opened : (p' : Place S) → n < length places → IsNew p' → (x : Unit {0}) → answer ≡ Ok x
      → AllJoin sure (set places n p') ended refused st ((Opened n, mark_of answer) ∷ past)
  all_opened p' inside new x ok =
      all_joined sure places n p' ended ended refused st past ((Opened n, mark_of answer) ∷ past) inside
      (alone_step sure st past (Opened n) (mark_of answer)
      (ap (one_if_refused (Opened n)) (outcome ∙ ap outcome_of_done ok))) (λ k ne. refl) all
      (rw new.1 (begins new.0 new.2 (outcome ∙ ap outcome_of_done ok)))

  -- or it is refused
  pub all_unopened : (f : SessionError) → answer ≡ Err f
      → AllJoin sure places ended (refused + 1) st ((Opened n, mark_of answer) ∷ past)
  all_unopened f is =
      let now : List Marked = (Opened n, mark_of answer) ∷ past in
      let reported : (step (history st past) (Opened n) (mark_of answer)).outcome ≡ Refused f =
      outcome ∙ ap outcome_of_done is in
      let here : PlaceJoins {S = S} sure Free (current_of n ended) st now n = (
        at_free.0,
        talks_here sure st past (Opened n) (mark_of answer) at_free.0 (Refused f) at_free.1
            (gave_refused sure _ _ f reported),
        at_free.2,
        unopened (history st past) n (mark_of answer)
            (λ done. let x : Refused f ≡ Done = sym reported ∙ done in absurd (cc)) ∙ at_free.3,
      ) in
      let one : one_if_refused (Opened n) (step (history st past) (Opened n) (mark_of answer)).outcome ≡ 1 =
      ap (one_if_refused (Opened n)) reported in (
        λ k. elim (cases_eq k n) [
          | inl e ↦ rw (e, free) here
          | inr ne ↦ place_unchanged sure st past now k (talks_else sure st past (Opened n) (mark_of answer) k ne)
              (step_else (history st past) k (Opened n) (mark_of answer) ne) (get_or places k Free)
              (current_of k ended) (all.0 k)
        ],
        omega (arith, one, all.1),
      )

pub all_fall : {S : Type 0} (sure : Bool) (places : List (Place S)) (ended : List Seen) (refused : ℕ) (st : State)
    (past : List Marked)
    → AllJoin sure places ended refused st past → AllFell sure places ended refused st past
all_fall sure places ended refused st past all =
    (λ n. falls sure (get_or places n Free) (current_of n ended) st past n (all.0 n), all.1)
