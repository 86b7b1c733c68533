-- The events of a run's beginning are the first of all its events.
use Rattle.std.proofs.Common.{◌≡◌, Bool, true, false, ℕ, zero, suc, List, [], ◌∷◌, ◌++◌, ◌||◌, ◌+◌, length, drop, refl}
use Rattle.std.proofs.Common.{sym, ap, subst, ◌∙◌, append_assoc}
use Rattle.tus_session.specs.History.{Event, Mark, Marked, Came, More, Ended, Opened, Outcome, Gave, Done, Refused}
use Rattle.tus_session.specs.declared.session.TheConstants.{MOST_OPEN}
use Rattle.tus_session.specs.History.{is_closed}
use Rattle.gateway_script.specs.Script as script
use Rattle.gateway_script.specs.Script.{Run, Flow, flow, call, next_mark, mores, mores_after, most_calls, onward}
use Rattle.gateway_script.specs.Script.{after_given, give_within, Order, Skip, Open, Give, Hang, Bad, obeyed, order_in}
use Rattle.gateway_script.specs.Script.{is_long, is_bad, cut_next, cut_from, run_lines, ended_as, Faulted, AtLine}
use Rattle.gateway_script.specs.Outputs.{IsFirst}
use Rattle.gateway_script.specs.Runs.{with_marks, Reaches, PassesTo}

pub first_same : (a : List Marked) → IsFirst a a
first_same a = ([], refl)

pub first_both : (a b c : List Marked) → IsFirst a b → IsFirst b c → IsFirst a c
first_both a b c p q = (q.0 ++ p.0, q.1 ∙ (ap (λ x. q.0 ++ x) p.1 ∙ sym (append_assoc q.0 p.0 a)))

-- EACH PART OF A SCRIPT ADDS EVENTS
abbrev pub Adds : (Run → Run) → Type 0
Adds f = (r : Run) → IsFirst r.past (f r).past

abbrev pub AddsOn : (Run → Flow) → Type 0
AddsOn f = (r : Run) → IsFirst r.past (f r).run.past

call_adds : (r : Run) (n : ℕ) (e : Event) → IsFirst r.past (call r n e).run.past
unfolding call
call_adds r n e = ((e, next_mark r.marks) ∷ [], refl)

pub after_adds : (go : Run → Flow) → AddsOn go → (r : Run) (o : Outcome)
    → IsFirst r.past (mores_after go (record { run = r; outcome = o })).run.past
after_adds go adds r (Gave bytes taken true more) = first_same r.past
after_adds go adds r (Gave bytes taken false true) = adds r
after_adds go adds r (Gave bytes taken false false) = first_same r.past
after_adds go adds r Done = first_same r.past
after_adds go adds r (Refused f) = first_same r.past

pub mores_adds : (k n : ℕ) (r : Run) → IsFirst r.past (mores k n r).run.past
unfolding mores
mores_adds zero n r = first_same r.past
mores_adds (suc k) n r =
    let c = call r n (More n) in
    first_both r.past c.run.past (mores_after (mores k n) c).run.past (call_adds r n (More n))
    (after_adds (mores k n) (mores_adds k n) c.run c.outcome)

pub onward_adds : (go : Run → Run) → Adds go → (r : Run) (b : Bool) → IsFirst r.past (onward go (flow r b)).past
onward_adds go adds r true = adds r
onward_adds go adds r false = first_same r.past

pub given_adds : (go : List ℕ → Run → Run) → ((bytes : List ℕ) → Adds (go bytes))
    → (n : ℕ) (bytes : List ℕ) (r : Run) (o : Outcome)
    → IsFirst r.past (after_given go n bytes (record { run = r; outcome = o })).past
given_adds go adds n bytes r (Gave given taken closes more) =
    let f : Flow = mores_after (mores most_calls n) (record { run = r; outcome = Gave given taken closes more }) in
    first_both r.past f.run.past (onward (go (drop taken bytes)) f).past
    (after_adds (mores most_calls n) (mores_adds most_calls n) r (Gave given taken closes more))
    (onward_adds (go (drop taken bytes)) (adds (drop taken bytes)) f.run f.goes_on)
given_adds go adds n bytes r Done = first_same r.past
given_adds go adds n bytes r (Refused f) = first_same r.past

pub give_adds : (k n : ℕ) (bytes : List ℕ) → Adds (give_within k n bytes)
unfolding give_within
give_adds zero n bytes r = first_same r.past
give_adds (suc k) n [] r = first_same r.past
give_adds (suc k) n (b ∷ bytes) r =
    let c = call r n (Came n (b ∷ bytes)) in
    first_both r.past c.run.past (after_given (give_within k n) n (b ∷ bytes) c).past
    (call_adds r n (Came n (b ∷ bytes)))
    (given_adds (give_within k n) (give_adds k n) n (b ∷ bytes) c.run c.outcome)

pub obeyed_adds : (o : Order) → Adds (obeyed o)
obeyed_adds Skip r = first_same r.past
obeyed_adds (Open n) r = call_adds r n (Opened n)
obeyed_adds (Give n bytes) r = give_adds (length bytes) n bytes r
obeyed_adds (Hang n) r = call_adds r n (Ended n)
obeyed_adds Bad r = first_same r.past

next_adds : (go : Run → Run) → Adds go → (r : Run) (n : ℕ) (b : Bool) → IsFirst r.past (cut_next go r n b).past
next_adds go adds r n true = adds r
next_adds go adds r n false =
    first_both r.past (call r n (Ended n)).run.past (go (call r n (Ended n)).run).past (call_adds r n (Ended n))
    (adds (call r n (Ended n)).run)

pub cut_adds : (k n : ℕ) → Adds (cut_from k n)
unfolding cut_from
cut_adds zero n r = first_same r.past
cut_adds (suc k) n r = next_adds (cut_from k (n + 1)) (cut_adds k (n + 1)) r n (is_closed (r.state.conns n) || r.down)

line_adds : (number : ℕ) (r : Run) (f : Run → Run) (go : Run → script.Result) → Adds f
    → ((x : Run) → IsFirst x.past (go x).run.past) → (down bad : Bool)
    → IsFirst r.past (elim down as (λ _. script.Result) [
      | true ↦ ended_as r Faulted
      | false ↦ elim bad as (λ _. script.Result) [ true ↦ ended_as r (AtLine number) | false ↦ go (f r) ]
    ]).run.past
line_adds number r f go adds more true bad = first_same r.past
line_adds number r f go adds more false true = first_same r.past
line_adds number r f go adds more false false = first_both r.past (f r).past (go (f r)).run.past (adds r) (more (f r))

pub lines_add : (number start : ℕ) (lines : List (List ℕ)) (r : Run) → IsFirst r.past
    (run_lines number start lines r).run.past
unfolding run_lines
lines_add number start [] r = cut_adds MOST_OPEN 0 r
lines_add number start (line ∷ lines) r =
    line_adds number r (obeyed (order_in line)) (run_lines (number + 1) (start + length line) lines)
    (obeyed_adds (order_in line))
    (lines_add (number + 1) (start + length line) lines) r.down (is_long start line || is_bad (order_in line))

-- RUNS THAT ARE BROKEN OFF
pub passes_by : {X : Type 0} (past_of : X → List Marked) (f g : Run → X) (r s : Run) → Reaches f r g s
    → ((x : Run) → IsFirst x.past (past_of (g x))) → PassesTo past_of f r s
passes_by past_of f g r s p adds =
    (p.0, λ rest. subst (λ x. IsFirst s.past (past_of x)) (sym (p.1 rest)) (adds (with_marks s rest)))

pub passes_after : {X : Type 0} (past_of : X → List Marked) (f g : Run → X) (r s t : Run) → Reaches f r g s
    → PassesTo past_of g s t → PassesTo past_of f r t
passes_after past_of f g r s t p q = (
  p.0 ++ q.0,
  λ rest. subst (λ x. IsFirst t.past (past_of x))
      (sym (ap (λ x. f (with_marks r x)) (append_assoc p.0 q.0 rest) ∙ p.1 (q.0 ++ rest))) (q.1 rest),
)

pub passes_on : {X Y : Type 0} (past_of : X → List Marked) (past_of' : Y → List Marked) (k : X → Y) (f : Run → X)
    (r s : Run) → ((x : X) → IsFirst (past_of x) (past_of' (k x)))
    → PassesTo past_of f r s → PassesTo past_of' (λ x. k (f x)) r s
passes_on past_of past_of' k f r s adds p = (
  p.0,
  λ rest. let x = f (with_marks r (p.0 ++ rest)) in first_both s.past (past_of x) (past_of' (k x)) (p.1 rest) (adds x),
)

pub passes_as : {X : Type 0} (past_of : X → List Marked) (f g : Run → X) (r s : Run)
    → ((marks : List Mark) → f (with_marks r marks) ≡ g (with_marks r marks)) → PassesTo past_of g r s
    → PassesTo past_of f r s
passes_as past_of f g r s same p =
    (p.0, λ rest. subst (λ x. IsFirst s.past (past_of x)) (sym (same (p.0 ++ rest))) (p.1 rest))
