-- Runs that lead on from one another.
use Rattle.std.proofs.Common.{◌≡◌, Bool, true, false, ℕ, zero, suc, List, [], ◌∷◌, ◌++◌, Option, Some, None}
use Rattle.std.proofs.Common.{Result, Ok, Err, refl, sym, ap, ◌∙◌, append_assoc, arith, drop, if◌then◌else◌}
use Rattle.gateway_script.proofs.Passing.{passes_by, passes_after, passes_on, after_adds, mores_adds, onward_adds}
use Rattle.gateway_script.proofs.Passing.{give_adds, given_adds}
use Rattle.tus_session.specs.History.{Event, Marked, Came, More, Outcome, Gave, Refused}
use Rattle.tus_session.specs.declared.answers.Answer.{Answer}
use Rattle.tus_session.specs.declared.errors.SessionError.TheVariants as errors
use Rattle.common.specs.declared.stop.Stop.TheVariants as stops
use Rattle.gateway_script.specs.Script as script
use Rattle.gateway_script.specs.Script.{Run, Flow, flow, call, mores, mores_after, most_calls, onward, after_given}
use Rattle.gateway_script.specs.Script.{give_within}
use Rattle.gateway_script.specs.declared.faults.CallFault.{CallFault}
use Rattle.gateway_script.specs.declared.faults.CallFault.TheVariants as faults
use Rattle.gateway_script.specs.Runs.{RunView, with_marks, Calls, Called, IsRunAt, IsBrokenOff, Reaches, Leads}
use Rattle.gateway_script.specs.Runs.{LeadsOn, StopsAt}
use Rattle.gateway_script.specs.Runs.{run_past, flow_past, Flowed, Went, GivenOnce, settles}

pub reach_both : {X : Type 0} (f g h : Run → X) (r s t : Run) → Reaches f r g s → Reaches g s h t → Reaches f r h t
reach_both f g h r s t p q =
    (p.0 ++ q.0, λ rest. ap (λ x. f (with_marks r x)) (append_assoc p.0 q.0 rest) ∙ (p.1 (q.0 ++ rest) ∙ q.1 rest))

reach_with : {X Y : Type 0} (k : X → Y) (f g : Run → X) (r s : Run) → Reaches f r g s
    → Reaches (λ x. k (f x)) r (λ x. k (g x)) s
reach_with k f g r s p = (p.0, λ rest. ap k (p.1 rest))

pub reach_none : {X : Type 0} (f : Run → X) (r : Run) → Reaches f r f r
reach_none f r = ([], λ rest. refl)

-- through a call
reach_call : {X : Type 0} (k : script.Called → X) (r s : Run) (n : ℕ) (e : Event) (o : Outcome) → Calls r n e s o
    → Reaches (λ x. k (call x n e)) r (λ x. k (record { run = x; outcome = o })) s
reach_call k r s n e o c = (c.0 ∷ [], λ rest. ap k (c.1 rest))

-- broken off after some calls
pub stops_after : {C X : Type 0} (v : RunView C) (fault : CallFault) (past_of : X → List Marked) (f g : Run → X)
    (r s : Run) → Reaches f r g s → StopsAt v fault past_of g s → StopsAt v fault past_of f r
stops_after v fault past_of f g r s p q = (q.0, passes_after past_of f g r s q.0 p q.1, q.2)

-- THE PIECES OF A TEXT

-- whether the line goes on, where that is settled; otherwise the text goes on
abbrev pub on_as : (Run → Flow) → Option Bool → Run → Flow
on_as go (Some b) x = flow x b
on_as go None x = go x

settled : (go : Run → Flow) (given : List ℕ) (taken : ℕ) (closes more : Bool) (x : Run)
    → mores_after go (record { run = x; outcome = Gave given taken closes more })
    ≡ on_as go (if closes then Some false else if more then None else Some true) x
settled go given taken closes more x = grind arith

-- the answer to a call for more leaves that many calls to go, or settles whether the line goes on
abbrev pub MoreAnswers : {C : Type 0} → RunView C → Option Bool → ℕ → ℕ → Run → Type 0
MoreAnswers v o k n r = (s : Run) × Reaches (mores (suc k) n) r (on_as (mores k n) o) s × IsRunAt v s

-- through a call for more
reach_more : (k n : ℕ) (r s : Run) (o : Outcome) → Calls r n (More n) s o
    → Reaches (mores (suc k) n) r (λ x. mores_after (mores k n) (record { run = x; outcome = o })) s
unfolding mores
reach_more k n r s o c = reach_call (mores_after (mores k n)) r s n (More n) o c

pub no_mores : (n : ℕ) (r : Run) → Reaches (mores 0 n) r (λ x. flow x true) r
unfolding mores
no_mores n r = ([], λ rest. refl)

pub most_is : most_calls ≡ 18446744073709551615
unfolding most_calls
most_is = refl

pub more_answers : {C : Type 0} (v : RunView C) (a : Option Answer) (n k : ℕ) (r : Run) → Called v (Ok a) n (More n) r
    → MoreAnswers v (settles a) k n r
more_answers v None n k r c = (c.0, reach_more k n r c.0 (Refused c.1) c.2, c.3)
more_answers v (Some a) n k r c =
    let p = reach_more k n r c.0 (Gave c.1 a.taken a.closes a.more) c.2 in
    (c.0, (p.0, λ rest. p.1 rest ∙ settled (mores k n) c.1 a.taken a.closes a.more (with_marks c.0 rest)), c.3)

more_stops : {C : Type 0} (v : RunView C) (fault : CallFault) (n k : ℕ) (r s : Run) (o : Outcome)
    → Calls r n (More n) s o
    → IsBrokenOff v fault s → StopsAt v fault flow_past (mores (suc k) n) r
more_stops v fault n k r s o c at = (
  s,
  passes_by flow_past (mores (suc k) n) (λ x. mores_after (mores k n) (record { run = x; outcome = o })) r s
      (reach_more k n r s o c) (λ x. after_adds (mores k n) (mores_adds k n) x o),
  at,
)

-- after some calls
flow_after : {C : Type 0} (v : RunView C) (result : Result Bool CallFault) (f g : Run → Flow) (r s : Run)
    → Reaches f r g s → Flowed v result g s → Flowed v result f r
flow_after v (Ok b) f g r s p q = (q.0, reach_both f g (λ x. flow x b) r s q.0 p q.1, q.2)
flow_after v (Err (faults.Stop stops.DiskFault)) f g r s p q =
    (q.0, reach_both f g (λ x. flow x false) r s q.0 p q.1, q.2)
flow_after v (Err (faults.Stop stops.NoMemory)) f g r s p q = stops_after v _ flow_past f g r s p q
flow_after v (Err faults.Io) f g r s p q = stops_after v faults.Io flow_past f g r s p q

-- one call more for a text
module _ {C : Type 0} (v : RunView C) (f : Run → Flow) (n k : ℕ) (r s : Run) (p : Reaches f r (mores (suc k) n) s) where
  pub more_on : (a : Option Answer) (o : Option Bool) → o ≡ settles a → Called v (Ok a) n (More n) s
      → (t : Run) × Reaches f r (on_as (mores k n) o) t × IsRunAt v t
  more_on a o is c =
      let q : MoreAnswers v o k n s = rw is (more_answers v a n k s c) in
      (q.0, reach_both f (mores (suc k) n) (on_as (mores k n) o) r s q.0 p q.1, q.2)

  more_broken : (fault : CallFault) → StopsAt v fault flow_past (mores (suc k) n) s → StopsAt v fault flow_past f r
  more_broken fault q = stops_after v fault flow_past f (mores (suc k) n) r s p q

  pub more_fails : (fault : CallFault) → Called v (Err fault) n (More n) s → Flowed v (Err fault) f r
  more_fails (faults.Stop stops.DiskFault) c = (
    c.0,
    reach_both f (mores (suc k) n) (λ x. flow x false) r s c.0 p
        (reach_more k n s c.0 (Refused (errors.Stop stops.DiskFault)) c.1),
    c.2,
  )
  more_fails (faults.Stop stops.NoMemory) c = more_broken _ (more_stops v _ n k s c.0 c.1 c.2 c.3)
  more_fails faults.Io c = more_broken faults.Io (more_stops v faults.Io n k s c.0 c.1 c.2 c.3)

-- THE BYTES OF A LINE

pub flow_open : {C : Type 0} (v : RunView C) (r : Run) (a : Answer) (given : List ℕ) (n : ℕ)
    (result : Result Bool CallFault) → None ≡ settles (Some a) → Flowed v result (mores most_calls n) r
    → Flowed v result (λ x. mores_after (mores most_calls n)
    (record { run = x; outcome = Gave given a.taken a.closes a.more })) r
flow_open v r a given n result e f =
    flow_after v result (λ x. mores_after (mores most_calls n)
    (record { run = x; outcome = Gave given a.taken a.closes a.more })) (mores most_calls n) r r (
      [],
      λ rest. settled (mores most_calls n) given a.taken a.closes a.more (with_marks r rest)
          ∙ ap (λ o. on_as (mores most_calls n) o (with_marks r rest)) (sym e),
    ) f

-- a call with bytes
came_reaches : (k n : ℕ) (bytes : List ℕ) (r s : Run) (o : Outcome) → (bytes ≡ [] → ⊥) → Calls r n (Came n bytes) s o
    → Reaches (give_within (suc k) n bytes) r
    (λ x. after_given (give_within k n) n bytes (record { run = x; outcome = o })) s
unfolding give_within
came_reaches k n [] r s o some c = absurd (some refl)
came_reaches k n (b ∷ bytes) r s o some c =
    reach_call (after_given (give_within k n) n (b ∷ bytes)) r s n (Came n (b ∷ bytes)) o c

-- what a call with bytes and the text after it did
module _ {C : Type 0} (v : RunView C) (k n : ℕ) (bytes : List ℕ) (r s : Run) (given : List ℕ) (a : Answer)
    (some : bytes ≡ [] → ⊥) (c : Calls r n (Came n bytes) s (Gave given a.taken a.closes a.more)) where
  abbrev rest_flow : Run → Flow
  rest_flow x = mores_after (mores most_calls n) (record { run = x; outcome = Gave given a.taken a.closes a.more })

  abbrev rest_given : Flow → Run
  rest_given = onward (give_within k n (drop a.taken bytes))

  reaches : (t : Run) (b : Bool) → LeadsOn rest_flow s t b
      → Reaches (give_within (suc k) n bytes) r (λ x. rest_given (flow x b)) t
  reaches t b p =
      reach_both (give_within (suc k) n bytes) (λ x. rest_given (rest_flow x)) (λ x. rest_given (flow x b)) r s t
      (came_reaches k n bytes r s (Gave given a.taken a.closes a.more) some c)
      (reach_with rest_given rest_flow (λ x. flow x b) s t p)

  pub once_on : Flowed v (Ok true) rest_flow s → GivenOnce v (Ok (Some a.taken)) k n bytes r
  once_on f = (f.0, reaches f.0 true f.1, f.2)

  pub once_off : Flowed v (Ok false) rest_flow s → GivenOnce v (Ok None) k n bytes r
  once_off f = (f.0, reaches f.0 false f.1, f.2)

  -- broken off while a text was given
  text_stops : (fault : CallFault) → StopsAt v fault flow_past rest_flow s
      → StopsAt v fault run_past (give_within (suc k) n bytes) r
  text_stops fault f =
      stops_after v fault run_past (give_within (suc k) n bytes) (λ x. rest_given (rest_flow x)) r s
      (came_reaches k n bytes r s (Gave given a.taken a.closes a.more) some c) (
        f.0,
        passes_on flow_past run_past rest_given rest_flow s f.0
            (λ x. onward_adds (give_within k n (drop a.taken bytes)) (give_adds k n (drop a.taken bytes)) x.run
            x.goes_on) f.1,
        f.2,
      )

  pub text_fails : (fault : CallFault) → Flowed v (Err fault) rest_flow s → GivenOnce v (Err fault) k n bytes r
  text_fails (faults.Stop stops.DiskFault) f = (f.0, reaches f.0 false f.1, f.2)
  text_fails (faults.Stop stops.NoMemory) f = text_stops _ f
  text_fails faults.Io f = text_stops faults.Io f

came_stops : {C : Type 0} (v : RunView C) (fault : CallFault) (k n : ℕ) (bytes : List ℕ) (r s : Run) (o : Outcome)
    → (bytes ≡ [] → ⊥) → Calls r n (Came n bytes) s o → IsBrokenOff v fault s
    → StopsAt v fault run_past (give_within (suc k) n bytes) r
came_stops v fault k n bytes r s o some c at = (
  s,
  passes_by run_past (give_within (suc k) n bytes)
      (λ x. after_given (give_within k n) n bytes (record { run = x; outcome = o })) r s
      (came_reaches k n bytes r s o some c) (λ x. given_adds (give_within k n) (give_adds k n) n bytes x o),
  at,
)

pub came_fails : {C : Type 0} (v : RunView C) (fault : CallFault) (k n : ℕ) (bytes : List ℕ) (r : Run)
    → (bytes ≡ [] → ⊥)
    → Called v (Err fault) n (Came n bytes) r → GivenOnce v (Err fault) k n bytes r
came_fails v (faults.Stop stops.DiskFault) k n bytes r some c =
    (c.0, came_reaches k n bytes r c.0 (Refused (errors.Stop stops.DiskFault)) some c.1, c.2)
came_fails v (faults.Stop stops.NoMemory) k n bytes r some c = came_stops v _ k n bytes r c.0 c.1 some c.2 c.3
came_fails v faults.Io k n bytes r some c = came_stops v faults.Io k n bytes r c.0 c.1 some c.2 c.3

pub came_refused : {C : Type 0} (v : RunView C) (k n : ℕ) (bytes : List ℕ) (r : Run) → (bytes ≡ [] → ⊥)
    → Called v (Ok None) n (Came n bytes) r → GivenOnce v (Ok None) k n bytes r
came_refused v k n bytes r some c = (c.0, came_reaches k n bytes r c.0 (Refused c.1) some c.2, c.3)

-- what went after some calls
pub went_after : {C : Type 0} (v : RunView C) (result : Result (Unit {0}) CallFault) (f g : Run → Run) (r s : Run)
    → Reaches f r g s → Went v result g s → Went v result f r
went_after v (Ok x) f g r s p q = (q.0, reach_both f g (λ x. x) r s q.0 p q.1, q.2)
went_after v (Err (faults.Stop stops.DiskFault)) f g r s p q = (q.0, reach_both f g (λ x. x) r s q.0 p q.1, q.2)
went_after v (Err (faults.Stop stops.NoMemory)) f g r s p q = stops_after v _ run_past f g r s p q
went_after v (Err faults.Io) f g r s p q = stops_after v faults.Io run_past f g r s p q

pub once_fails : {C : Type 0} (v : RunView C) (fault : CallFault) (k n : ℕ) (bytes : List ℕ) (r : Run)
    → GivenOnce v (Err fault) k n bytes r → Went v (Err fault) (give_within (suc k) n bytes) r
once_fails v (faults.Stop stops.DiskFault) k n bytes r p = p
once_fails v (faults.Stop stops.NoMemory) k n bytes r p = p
once_fails v faults.Io k n bytes r p = p

-- nothing is left to be given, or no call is
pub give_none : (k n : ℕ) (r : Run) → Leads (give_within k n []) r r
unfolding give_within
give_none zero n r = ([], λ rest. refl)
give_none (suc k) n r = ([], λ rest. refl)

pub give_stop : (n : ℕ) (bytes : List ℕ) (r : Run) → Leads (give_within 0 n bytes) r r
unfolding give_within
give_stop n bytes r = ([], λ rest. refl)
