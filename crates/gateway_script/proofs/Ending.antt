-- The lines of a script, and its end.
use Rattle.std.specs.Io.BufRead.{take_through}
use Rattle.std.proofs.Math.Seq.{drop-append_seam}
use Rattle.std.proofs.Common.{◌≡◌, ◌==◌, ◌<◌, inl, arith, ◌+◌, Bool, true, false, ◌||◌, ℕ, zero}
use Rattle.std.proofs.Common.{suc, List, [], ◌∷◌, ◌++◌, length, drop, Option, Result}
use Rattle.std.proofs.Common.{Ok, Err, refl, sym, subst, ap, ◌∙◌, if◌then◌else◌}
use Rattle.common.specs.declared.stop.Stop.TheVariants as stops
use Rattle.tus_session.specs.History.{State, Ended, Mark, Served, Outcome, Done, Refused, step}
use Rattle.tus_session.specs.History.{is_closed}
use Rattle.tus_session.specs.declared.session.TheConstants.{MOST_OPEN}
use Rattle.tus_session.specs.declared.errors.SessionError.{SessionError}
use Rattle.tus_session.specs.declared.errors.SessionError.TheVariants as errors
use Rattle.tus_session.specs.Connections.{Does, mark_of}
use Rattle.tus_session.specs.Images.{shown_by}
use Rattle.gateway_script.specs.Script as script
use Rattle.gateway_script.specs.Script.{Run, call, Order, obeyed, order_in, is_long, is_bad, cut_next, cut_from}
use Rattle.gateway_script.specs.Script.{run_lines, script_lines, onto_line, ended_as, finished_run, Ran, Faulted}
use Rattle.gateway_script.specs.Script.{AtLine}
use Rattle.gateway_script.specs.declared.faults.CallFault.{CallFault}
use Rattle.gateway_script.specs.declared.faults.CallFault.TheVariants as faults
use Rattle.gateway_script.specs.declared.faults.ScriptFault.{ScriptFault}
use Rattle.gateway_script.specs.declared.faults.ScriptFault.TheVariants as runs
use Rattle.common.specs.Splits.{rest_after}
use Rattle.gateway_script.specs.Faults.{script_fault}
use Rattle.gateway_script.specs.Runs.{RunView, with_marks, IsRunAt, Reaches, Leads, run_past, script_past, StopsAt}
use Rattle.gateway_script.specs.Runs.{Went}
use Rattle.gateway_script.specs.Runs.{Refuses, CutOne, LinesEnd, LineRan}
use Rattle.gateway_script.proofs.Turns.{Falling, done_went, refused_went}
use Rattle.gateway_script.proofs.Reaching.{reach_both, reach_none, stops_after}
use Rattle.gateway_script.proofs.Passing.{passes_by, passes_on, passes_as, cut_adds, lines_add, first_same}
use Rattle.gateway_script.proofs.Seen.{current_after, Leaves, AreOnDisk, history_same}

-- WHETHER A CONNECTION IS OPEN, BY WHAT ITS END IS ANSWERED
ended_closed : (st : State) (c : ℕ) → (step st (Ended c) Served).outcome ≡ Refused errors.Closed
    → (is_closed (st.conns c) ≡ true) × ((step st (Ended c) Served).state ≡ st)
unfolding step
ended_closed st c e = (grind arith, grind arith)

ended_open : (st : State) (c : ℕ) (m : Mark) (outcome : Outcome) → (step st (Ended c) m).outcome ≡ outcome
    → (outcome ≡ Refused errors.Closed → ⊥) → is_closed (st.conns c) ≡ false
unfolding step
ended_open st c m outcome e other = grind arith

-- THE CONNECTIONS THAT ARE CUT
next_by : (k n : ℕ) (r : Run) (a b : Bool) → is_closed (r.state.conns n) ≡ a → r.down ≡ b
    → cut_from (suc k) n r ≡ cut_next (cut_from k (n + 1)) r n (a || b)
unfolding cut_from
next_by k n r a b e f = rw (e, f) refl

cut_goes : (k n : ℕ) (r s : Run) → is_closed (r.state.conns n) ≡ false → r.down ≡ false
    → Leads (λ x. (call x n (Ended n)).run) r s → Reaches (cut_from (suc k) n) r (cut_from k (n + 1)) s
cut_goes k n r s is_open up p =
    (p.0, λ rest. next_by k n (with_marks r (p.0 ++ rest)) false false is_open up ∙ ap (cut_from k (n + 1)) (p.1 rest))

-- once the disk failed nothing is cut
cut_down : (k n : ℕ) (r : Run) → r.down ≡ true → cut_from k n r ≡ r
unfolding cut_from
cut_down zero n r down = refl
cut_down (suc k) n r down = grind (arith, cut_down k (n + 1) r down)

cut_stops : {C : Type 0} (v : RunView C) (fault : CallFault) (k n : ℕ) (r : Run) → is_closed (r.state.conns n) ≡ false
    → r.down ≡ false
    → StopsAt v fault run_past (λ x. (call x n (Ended n)).run) r → StopsAt v fault run_past (cut_from (suc k) n) r
cut_stops v fault k n r is_open up p =
    let ended : Run → Run = λ x. (call x n (Ended n)).run in (
      p.0,
      passes_as run_past (cut_from (suc k) n) (λ x. cut_from k (n + 1) (ended x)) r p.0
          (λ marks. next_by k n (with_marks r marks) false false is_open up)
          (passes_on run_past run_past (cut_from k (n + 1)) ended r p.0 (cut_adds k (n + 1)) p.1),
      p.2,
    )

went_cut : {C : Type 0} (v : RunView C) (result : Result (Unit {0}) CallFault) (k n : ℕ) (r : Run)
    → is_closed (r.state.conns n) ≡ false → r.down ≡ false
    → Went v result (λ x. (call x n (Ended n)).run) r → CutOne v result k n r
went_cut v (Ok x) k n r is_open up p = (p.0, cut_goes k n r p.0 is_open up p.1, p.2)
went_cut v (Err (faults.Stop stops.DiskFault)) k n r is_open up p =
    let g = cut_goes k n r p.0 is_open up p.1 in
    (p.0, (g.0, λ rest. g.1 rest ∙ cut_down k (n + 1) (with_marks p.0 rest) p.2.down), p.2)
went_cut v (Err (faults.Stop stops.NoMemory)) k n r is_open up p = cut_stops v _ k n r is_open up p
went_cut v (Err faults.Io) k n r is_open up p = cut_stops v faults.Io k n r is_open up p

pub cut_done : {C : Type 0} (v : RunView C) (now : C) (k n : ℕ) (r : Run) → IsRunAt v r
    → Leaves v now r.state.world.store (shown_by r.state (Ended n) Served)
    → Does (v.u.represents now v.sure) (Ok (tt {0})) r.state (Ended n)
    → CutOne (current_after v now v.held) (Ok (tt {0})) k n r
cut_done v now k n r at leaves does =
    went_cut (current_after v now v.held) (Ok (tt {0})) k n r (ended_open r.state n Served Done does.answer (λ e. cc))
    at.up (done_went v now r (Ended n) at leaves does)

pub cut_skipped : {C : Type 0} (v : RunView C) (now : C) (k n : ℕ) (r : Run) → IsRunAt v r
    → Leaves v now r.state.world.store (shown_by r.state (Ended n) Served)
    → Does (v.u.represents now v.sure) (Err errors.Closed) r.state (Ended n)
    → CutOne (current_after v now v.held) (Ok (tt {0})) k n r
cut_skipped v now k n r at leaves does =
    let c = ended_closed r.state n does.answer in (
      r,
      ([], λ rest. next_by k n (with_marks r rest) true false c.0 at.up),
      record {
        represents = subst (v.u.represents now v.sure) c.1 does.now_represents;
        wrote = at.wrote;
        up = at.up;
        history = history_same v now v.held r at.history
            (subst (λ s. Leaves v now r.state.world.store s.world.store) c.1 leaves);
      },
    )

pub cut_refused : {C : Type 0} (v : RunView C) (now : C) (held : Option (List ℕ)) (k n : ℕ) (r : Run) (f : SessionError)
    (result : Result (Unit {0}) CallFault)
    → IsRunAt v r → AreOnDisk v r
    → Leaves v now r.state.world.store (shown_by r.state (Ended n) (mark_of {T = Unit {0}} (Err f)))
    → Does (v.u.represents now v.sure) (Err f) r.state (Ended n) → Falling v now f
    → (f ≡ errors.Closed → ⊥) → Refuses v.held held result n f → CutOne (current_after v now held) result k n r
cut_refused v now held k n r f result at durable leaves does fell other refuses =
    went_cut (current_after v now held) result k n r (ended_open r.state n (mark_of {T = Unit {0}} (Err f)) (Refused f)
    does.answer (λ e. other (cc))) at.up
    (refused_went v now held r (Ended n) f result at durable leaves does fell refuses)

-- A LINE
line_goes : (number start : ℕ) (line : List ℕ) (lines : List (List ℕ)) (r : Run) → r.down ≡ false
    → (is_long start line || is_bad (order_in line)) ≡ false
    → run_lines number start (line ∷ lines) r
    ≡ run_lines (number + 1) (start + length line) lines (obeyed (order_in line) r)
unfolding run_lines
line_goes number start line lines r up good = rw up (rw (good, run_lines) refl)

-- a line that is none ends the run
pub line_bad : {C : Type 0} (v : RunView C) (number start : ℕ) (line : List ℕ) (lines : List (List ℕ)) (r : Run)
    → IsRunAt v r
    → (is_long start line || is_bad (order_in line)) ≡ true
    → LinesEnd v (Err (runs.Script number)) (run_lines number start (line ∷ lines)) r
unfolding run_lines
line_bad v number start line lines r at bad = (r, ([], λ rest. rw at.up (rw (bad, run_lines) refl)), at)

-- once the disk failed no line is run
lines_down : (number start : ℕ) (lines : List (List ℕ)) (r : Run) → r.down ≡ true
    → run_lines number start lines r ≡ ended_as r Faulted
unfolding run_lines
lines_down number start [] r down = rw (cut_down MOST_OPEN 0 r down, down) refl
lines_down number start (line ∷ lines) r down = rw down refl

-- what is answered of a line, or of the lines
abbrev pub result_of : Result (Unit {0}) CallFault → Result (Unit {0}) ScriptFault
result_of (Ok x) = Ok x
result_of (Err fault) = Err (script_fault fault)

-- a line that is obeyed
module _ {C : Type 0} (v : RunView C) (number start : ℕ) (line : List ℕ) (lines : List (List ℕ)) (r : Run)
    (up : r.down ≡ false) (good : (is_long start line || is_bad (order_in line)) ≡ false) where
  abbrev others : Run → script.Result
  others = run_lines (number + 1) (start + length line) lines

  line_leads : (s : Run) → Leads (obeyed (order_in line)) r s
      → Reaches (run_lines number start (line ∷ lines)) r others s
  line_leads s p =
      (p.0, λ rest. line_goes number start line lines (with_marks r (p.0 ++ rest)) up good ∙ ap others (p.1 rest))

  line_breaks : (fault : CallFault) → StopsAt v fault run_past (obeyed (order_in line)) r
      → StopsAt v fault script_past (run_lines number start (line ∷ lines)) r
  line_breaks fault p = (
    p.0,
    passes_as script_past (run_lines number start (line ∷ lines)) (λ x. others (obeyed (order_in line) x)) r p.0
        (λ marks. line_goes number start line lines (with_marks r marks) up good)
        (passes_on run_past script_past others (obeyed (order_in line)) r p.0
        (lines_add (number + 1) (start + length line) lines) p.1),
    p.2,
  )

  pub line_ran : (result : Result (Unit {0}) CallFault) → Went v result (obeyed (order_in line)) r
      → LineRan v (result_of result) number start line lines r
  line_ran (Ok x) p = (p.0, line_leads p.0 p.1, p.2)
  line_ran (Err (faults.Stop stops.DiskFault)) p =
      let q = line_leads p.0 p.1 in
      (p.0, (q.0, λ rest. q.1 rest ∙ lines_down _ _ lines (with_marks p.0 rest) p.2.down), p.2)
  line_ran (Err (faults.Stop stops.NoMemory)) p = line_breaks _ p
  line_ran (Err faults.Io) p = line_breaks faults.Io p

-- it was out of memory before the line did anything
pub line_wants : {C : Type 0} (v : RunView C) (number start : ℕ) (line : List ℕ) (lines : List (List ℕ)) (r : Run)
    → IsRunAt v r
    → LineRan v (Err (runs.Stop stops.NoMemory)) number start line lines r
line_wants v number start line lines r at = (
  r,
  passes_by script_past (run_lines number start (line ∷ lines)) (run_lines number start (line ∷ lines)) r r
      (reach_none (run_lines number start (line ∷ lines)) r) (lines_add number start (line ∷ lines)),
  record {
    represents = at.represents;
    out = at.wrote.out;
    wrote = at.wrote.wrote;
    replies = inl at.wrote.output;
    history = at.history;
  },
)

-- THE LINES OF A SCRIPT, ONE AFTER ANOTHER
split_case : (b : ℕ) (bytes : List ℕ) (t : Bool)
    → onto_line b (script_lines bytes) ≡ (b ∷ take_through 10 bytes) ∷ script_lines (rest_after 10 bytes)
    → (if t then (b ∷ []) ∷ script_lines bytes else onto_line b (script_lines bytes)) ≡
    (if t then b ∷ [] else b ∷ take_through 10 bytes) ∷ script_lines (if t then bytes else rest_after 10 bytes)
split_case b bytes true more = refl
split_case b bytes false more = more

onto_split : (b : ℕ) (bytes : List ℕ)
    → onto_line b (script_lines bytes) ≡ (b ∷ take_through 10 bytes) ∷ script_lines (rest_after 10 bytes)
onto_split b [] = refl
onto_split b (c ∷ bytes) = ap (onto_line b) (split_case c bytes (c == 10) (onto_split c bytes))

-- the first line, and the others
lines_split : (bytes : List ℕ) → (bytes ≡ [] → ⊥)
    → script_lines bytes ≡ take_through 10 bytes ∷ script_lines (rest_after 10 bytes)
lines_split [] some = absurd (some refl)
lines_split (b ∷ bytes) some = split_case b bytes (b == 10) (onto_split b bytes)

-- a line and what is after it are all that there was
line_both : (bytes : List ℕ) → take_through 10 bytes ++ rest_after 10 bytes ≡ bytes
line_both [] = refl
line_both (b ∷ bytes) = grind (arith, line_both bytes)

line_after : (bytes : List ℕ) → drop (length (take_through 10 bytes)) bytes ≡ rest_after 10 bytes
line_after bytes = ap (drop (length (take_through 10 bytes))) (sym (line_both bytes))
    ∙ drop-append_seam (take_through 10 bytes) (rest_after 10 bytes)

-- a line has a byte
pub line_some : (bytes : List ℕ) → (bytes ≡ [] → ⊥) → 0 < length (take_through 10 bytes)
line_some [] some = absurd (some refl)
line_some (b ∷ bytes) some = grind arith

pub cut_none : (n : ℕ) (r : Run) → Leads (cut_from 0 n) r r
unfolding cut_from
cut_none n r = ([], λ rest. refl)

end_breaks : {C : Type 0} (v : RunView C) (fault : CallFault) (number start : ℕ) (r : Run)
    → StopsAt v fault run_past (cut_from MOST_OPEN 0) r → StopsAt v fault script_past (run_lines number start []) r
unfolding run_lines
end_breaks v fault number start r p =
    (p.0, passes_on run_past script_past finished_run (cut_from MOST_OPEN 0) r p.0 (λ x. first_same x.past) p.1, p.2)

-- the fault of the connections' cutting is the run's
pub lines_end : {C : Type 0} (v : RunView C) (number start : ℕ) (r : Run) (result : Result (Unit {0}) CallFault)
    → Went v result (cut_from MOST_OPEN 0) r → LinesEnd v (result_of result) (run_lines number start []) r
unfolding run_lines
lines_end v number start r (Ok x) p = (p.0, (p.1.0, λ rest. rw (p.1.1 rest, p.2.up) refl), p.2)
lines_end v number start r (Err (faults.Stop stops.DiskFault)) p =
    (p.0, (p.1.0, λ rest. rw (p.1.1 rest, p.2.down) refl), p.2)
lines_end v number start r (Err (faults.Stop stops.NoMemory)) p = end_breaks v _ number start r p
lines_end v number start r (Err faults.Io) p = end_breaks v faults.Io number start r p

-- after some lines
pub ends_after : {C : Type 0} (v : RunView C) (result : Result (Unit {0}) ScriptFault) (f g : Run
    → script.Result) (r s : Run)
    → Reaches f r g s → LinesEnd v result g s → LinesEnd v result f r
ends_after v (Ok x) f g r s p q = (q.0, reach_both f g (λ x. ended_as x Ran) r s q.0 p q.1, q.2)
ends_after v (Err (runs.Stop stops.DiskFault)) f g r s p q =
    (q.0, reach_both f g (λ x. ended_as x Faulted) r s q.0 p q.1, q.2)
ends_after v (Err (runs.Script n)) f g r s p q = (q.0, reach_both f g (λ x. ended_as x (AtLine n)) r s q.0 p q.1, q.2)
ends_after v (Err (runs.Stop stops.NoMemory)) f g r s p q = stops_after v _ script_past f g r s p q
ends_after v (Err runs.Io) f g r s p q = stops_after v faults.Io script_past f g r s p q

pub cut_fails : {C : Type 0} (v : RunView C) (fault : CallFault) (k n : ℕ) (r : Run) → CutOne v (Err fault) k n r
    → Went v (Err fault) (cut_from (suc k) n) r
cut_fails v (faults.Stop stops.DiskFault) k n r p = p
cut_fails v (faults.Stop stops.NoMemory) k n r p = p
cut_fails v faults.Io k n r p = p

-- the fault of a line is that of its run
pub line_fails : {C : Type 0} (v : RunView C) (fault : ScriptFault) (number start : ℕ) (bytes : List ℕ) (r : Run)
    → (bytes ≡ [] → ⊥)
    → LineRan v (Err fault) number start (take_through 10 bytes) (script_lines (rest_after 10 bytes)) r
    → LinesEnd v (Err fault) (run_lines number start (script_lines bytes)) r
line_fails v fault number start bytes r some p =
    subst (λ l. LinesEnd v (Err fault) (run_lines number start l) r) (sym (lines_split bytes some)) p

-- on to the lines after one that ran
pub lines_on : {C : Type 0} (v : RunView C) (number start : ℕ) (rest line : List ℕ) (f : Run
    → script.Result) (r s : Run)
    → (rest ≡ [] → ⊥) → line ≡ take_through 10 rest → Reaches f r (run_lines number start (script_lines rest)) s
    → LineRan v (Ok (tt {0})) number start line (script_lines (rest_after 10 rest)) s
    → (t : Run) × Reaches f r (run_lines (number + 1) (start + length line) (script_lines (drop (length line) rest))) t
    × IsRunAt v t
lines_on v number start rest line f r s some is p q = (
  q.0,
  reach_both f (run_lines number start (script_lines rest))
      (run_lines (number + 1) (start + length line) (script_lines (drop (length line) rest))) r s q.0 p
      (rw (lines_split rest some, ← is, ap (λ l. drop (length l) rest) is ∙ line_after rest) q.1),
  q.2,
)
