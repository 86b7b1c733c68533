-- A session's calls as those of connections.
use Rattle.std.proofs.Common.{◌≡◌, Bool, true, false, ℕ, List, [], Option, Some, None, Result, Ok, Err, refl, sym}
use Rattle.std.proofs.Common.{subst, ap, nat_lt}
use Rattle.std.specs.Prelude.{◌↔◌, IsErrOf}
use Rattle.std.proofs.lemmas.Bool.{false_from_ne_true}
use Rattle.upload_rules.specs.declared.uploads.Uploads.{Ghosts}
use Rattle.upload_rules.specs.Store.{Store}
use Rattle.upload_rules.specs.Answers.{Limits}
use Rattle.tus_session.specs.Turns.{Conn}
use Rattle.tus_session.specs.History.{State, Event, Opened, Came, More, Ended, Served, Refused, Step, step}
use Rattle.tus_session.specs.History.{opened_if}
use Rattle.tus_session.specs.declared.session.TheConstants.{MOST_OPEN}
use Rattle.tus_session.specs.History.{opened_at, came_at, more_at, ended_at}
use Rattle.tus_session.specs.Places.{links_of}
use Rattle.tus_session.specs.Represents.{SessionRepresents}
use Rattle.tus_session.specs.Results as results
use Rattle.tus_session.specs.Results.{RepliesAs, Opens}
use Rattle.tus_session.specs.declared.answers.Answer.{Answer}
use Rattle.tus_session.specs.declared.conns.Link.{Link}
use Rattle.tus_session.specs.declared.errors.SessionError.{SessionError}
use Rattle.tus_session.specs.declared.errors.SessionError.TheVariants.{Stop, TooMany, Closed, Down}
use Rattle.common.specs.declared.stop.Stop.TheVariants.{NoMemory, DiskFault}
use Rattle.tus_session.proofs.Limiting.{still_limits}
use Rattle.tus_session.specs.Connections.{GivesFor, Does, mark_of}
use Rattle.tus_session.specs.Images.{shown_by}
use Rattle.gateway_engine.specs.Gateways.{GatewayRepresents, is_down}
use Rattle.gateway_engine.specs.declared.gateway.Gateway.{Gateway}

-- A REFUSED EVENT LEAVES THE STATE AS IT WAS
abbrev RefusedStays : State → Step → Type 0
RefusedStays st t = (f : SessionError) → t.outcome ≡ Refused f → t.state ≡ st

came_stays : (st : State) (c : ℕ) (piece : List ℕ) (o : Option Conn) → RefusedStays st (came_at st c piece o)
came_stays st c piece None f e = refl
came_stays st c piece (Some k) f e = absurd (cc)

pub came_refused : (st : State) (c : ℕ) (piece : List ℕ) → RefusedStays st (step st (Came c piece) Served)
unfolding step
came_refused st c piece = came_stays st c piece (st.conns c)

more_stays : (st : State) (c : ℕ) (o : Option Conn) → RefusedStays st (more_at st c o)
more_stays st c None f e = refl
more_stays st c (Some k) f e = absurd (cc)

pub more_refused : (st : State) (c : ℕ) → RefusedStays st (step st (More c) Served)
unfolding step
more_refused st c = more_stays st c (st.conns c)

ended_stays : (st : State) (c : ℕ) (o : Option Conn) → RefusedStays st (ended_at st c o)
ended_stays st c None f e = refl
ended_stays st c (Some k) f e = absurd (cc)

pub ended_refused : (st : State) (c : ℕ) → RefusedStays st (step st (Ended c) Served)
unfolding step
ended_refused st c = ended_stays st c (st.conns c)

-- opening is refused for one reason
abbrev ManyStays : State → Step → Type 0
ManyStays st t = (f : SessionError) → t.outcome ≡ Refused f → (f ≡ TooMany) × (t.state ≡ st)

refusal_is : (f g : SessionError) → Refused f ≡ Refused g → g ≡ f
refusal_is f g e = sym (ap (λ o. elim o as (λ _. SessionError) [ Refused x ↦ x | _ ↦ f ]) e)

many_case : (st : State) (c : ℕ) (b : Bool)
    → ManyStays st (opened_if st c b)
many_case st c true f e = absurd (cc)
many_case st c false f e = (refusal_is TooMany f e, refl)

opened_stays : (st : State) (c : ℕ) (o : Option Conn) → ManyStays st (opened_at st c o)
opened_stays st c (Some k) f e = (refusal_is TooMany f e, refl)
opened_stays st c None f e = many_case st c (nat_lt c MOST_OPEN) f e

pub opened_refused : (st : State) (c : ℕ) → ManyStays st (step st (Opened c) Served)
unfolding step
opened_refused st c = opened_stays st c (st.conns c)

-- the gateway is down where the disk failed at the call, and nowhere else
abbrev pub FallsBy : {T : Type 0} → Bool → Result T SessionError → Type 0
FallsBy down result = (down ≡ true) ↔ IsErrOf result (Stop DiskFault)

-- HOW A CALL OF THE SESSION LEAVES THE GATEWAY
module _ {U B : Type 0} (u : Ghosts U B) (g : Gateway U B) (sure : Bool) (st : State) (e : Event) where
  abbrev places : List (Option (Link B))
  places = links_of g.session

  abbrev represents : State → Type 0
  represents s = GatewayRepresents u g sure s

  still_up : {T : Type 0} (result : Result T SessionError) → FallsBy (is_down g) result
      → (IsErrOf result (Stop DiskFault) → ⊥) → is_down g ≡ false
  still_up result falls valid = false_from_ne_true (is_down g) (λ down. valid (falls.0 down))

  at : (s : State) → SessionRepresents u sure places g.store s → is_down g ≡ false → GatewayRepresents u g sure s
  at s session up = record { session = session; up = up }

  at_same : (s : State) → s ≡ st → SessionRepresents u sure places g.store st → is_down g ≡ false
      → GatewayRepresents u g sure s
  at_same s same session up = at s (subst (λ x. SessionRepresents u sure places g.store x) (sym same) session) up

  pub result_gives : (result : Result Answer SessionError) (old new : List ℕ) → FallsBy (is_down g) result
      → RefusedStays st (step st e Served) → RepliesAs u sure places g.store result old new st e
      → GivesFor sure represents result old new st e
  result_gives (Ok a) old new falls stays t =
      let up = still_up (Ok a) falls (λ f. absurd (cc)) in
      (t.0, record { answer = t.1.outcome; now_represents = at _ t.1.represents up }, t.2)
  result_gives (Err (Stop NoMemory)) old new falls stays t =
      let up = still_up {T = Answer} (Err (Stop NoMemory)) falls (λ f. absurd (cc)) in
      ([], record { answer = t.0.outcome; now_represents = at _ t.0.represents up }, t.1)
  result_gives (Err (Stop DiskFault)) old new falls stays t =
      ([], record { answer = t.0; now_represents = tt {0} }, t.1)
  result_gives (Err TooMany) old new falls stays t =
      let up = still_up {T = Answer} (Err TooMany) falls (λ f. absurd (cc)) in (
        [],
        record { answer = t.0.outcome; now_represents = at_same _ (stays TooMany t.0.outcome) t.0.represents up },
        t.1,
      )
  result_gives (Err Closed) old new falls stays t =
      let up = still_up {T = Answer} (Err Closed) falls (λ f. absurd (cc)) in (
        [],
        record { answer = t.0.outcome; now_represents = at_same _ (stays Closed t.0.outcome) t.0.represents up },
        t.1,
      )
  result_gives (Err Down) old new falls stays t =
      let up = still_up {T = Answer} (Err Down) falls (λ f. absurd (cc)) in
      ([], record { answer = t.0.outcome; now_represents = at_same _ (stays Down t.0.outcome) t.0.represents up }, t.1)

  pub ends_does : (result : Result (Unit {0}) SessionError) → FallsBy (is_down g) result
      → RefusedStays st (step st e Served) → results.EndsEvent u sure places g.store result st e
      → Does represents result st e
  ends_does (Ok x) falls stays t =
      record { answer = t.outcome; now_represents = at _ t.represents (still_up (Ok x) falls (λ f. absurd (cc))) }
  ends_does (Err (Stop NoMemory)) falls stays t =
      let up = still_up {T = Unit {0}} (Err (Stop NoMemory)) falls (λ f. absurd (cc)) in
      record { answer = t.outcome; now_represents = at _ t.represents up }
  ends_does (Err (Stop DiskFault)) falls stays t = record { answer = t; now_represents = tt {0} }
  ends_does (Err TooMany) falls stays t =
      let up = still_up {T = Unit {0}} (Err TooMany) falls (λ f. absurd (cc)) in
      record { answer = t.outcome; now_represents = at_same _ (stays TooMany t.outcome) t.represents up }
  ends_does (Err Closed) falls stays t =
      let up = still_up {T = Unit {0}} (Err Closed) falls (λ f. absurd (cc)) in
      record { answer = t.outcome; now_represents = at_same _ (stays Closed t.outcome) t.represents up }
  ends_does (Err Down) falls stays t =
      let up = still_up {T = Unit {0}} (Err Down) falls (λ f. absurd (cc)) in
      record { answer = t.outcome; now_represents = at_same _ (stays Down t.outcome) t.represents up }

  pub opens_does : (result : Result (Unit {0}) SessionError) → is_down g ≡ false
      → ManyStays st (step st e Served) → Opens u sure places g.store result st e → Does represents result st e
  opens_does (Ok x) up stays t = record { answer = t.outcome; now_represents = at _ t.represents up }
  opens_does (Err (Stop stop)) up stays t = let f : Stop stop ≡ TooMany = (stays (Stop stop) t.outcome).0 in absurd (cc)
  opens_does (Err TooMany) up stays t =
      record { answer = t.outcome; now_represents = at_same _ ((stays TooMany t.outcome).1) t.represents up }
  opens_does (Err Closed) up stays t = let f : Closed ≡ TooMany = (stays Closed t.outcome).0 in absurd (cc)
  opens_does (Err Down) up stays t = let f : Down ≡ TooMany = (stays Down t.outcome).0 in absurd (cc)

-- what images may show after a call
module _ {before now : ℕ} {left_only left_only' : Option ℕ → ℕ → List Store → Type 0} {T : Type 0} (st : State)
    (e : Event) where
  pub shown_after : (result : Result T SessionError) → Limits before now left_only left_only' st.world.store
      (step st e Served).state.world.store
      → (IsErrOf result (Stop NoMemory) → Limits before now left_only left_only' st.world.store st.world.store)
      → Limits before now left_only left_only' st.world.store (shown_by st e (mark_of result))
  shown_after (Ok x) made unmade = made
  shown_after (Err (Stop NoMemory)) made unmade = still_limits _ (unmade refl)
  shown_after (Err (Stop DiskFault)) made unmade = made
  shown_after (Err TooMany) made unmade = made
  shown_after (Err Closed) made unmade = made
  shown_after (Err Down) made unmade = made
