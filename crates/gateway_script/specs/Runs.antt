-- How the code's calls relate to a run of the definitions.
use Rattle.std.specs.Prelude.{◌≡◌, ℕ, suc, Bool, true, false, List, [], ◌∷◌, ◌++◌, ◌+◌, length, drop, if◌then◌else◌}
use Rattle.std.specs.Prelude.{Option, Some, None, Result, Ok, Err}
use Rattle.tus_session.specs.History.{State, Event, Mark, Marked, Outcome, Gave, Refused, step, history}
use Rattle.tus_session.specs.declared.answers.Answer.{Answer}
use Rattle.std.specs.Io.KnownBytes.{Appends}
use Rattle.tus_session.specs.declared.errors.SessionError.{SessionError}
use Rattle.tus_session.specs.declared.errors.SessionError.TheVariants as errors
use Rattle.common.specs.declared.stop.Stop.TheVariants as stops
use Rattle.tus_session.specs.Images.{stores_of, ShowsLast, LimitsTo}
use Rattle.tus_session.specs.declared.connections.Connections.{Ghosts}
use Rattle.gateway_script.specs.Script as script
use Rattle.gateway_script.specs.Script.{Run, Flow, flow, call, give_within, cut_from, run_lines, ended_as, Ran, Faulted}
use Rattle.gateway_script.specs.Script.{AtLine, is_fault, written, written_bytes, written_close, written_refusal}
use Rattle.gateway_script.specs.Outputs.{IsFirst, output_of, Outputs, BreaksOff, AppendsPart}
use Rattle.gateway_script.specs.declared.faults.CallFault.{CallFault}
use Rattle.gateway_script.specs.declared.faults.CallFault.TheVariants.{Stop, Io}
use Rattle.gateway_script.specs.declared.faults.ScriptFault.{ScriptFault}
use Rattle.gateway_script.specs.declared.faults.ScriptFault.TheVariants as runs

-- the run with these marks to come
abbrev pub with_marks : Run → List Mark → Run
with_marks r marks = record r { marks = marks }

-- A run as it is seen: whether the disk is known to be honest, the connections before it and now, where the history was
-- before it, and what the writer holds now, and held before it
pub record RunView (C : Type 0) : Type 1 where
  pub u : Ghosts C
  pub sure : Bool
  pub before : C
  pub now : C
  pub st : State
  pub held : Option (List ℕ)
  pub prefix : Option (List ℕ)

abbrev pub view : {C : Type 0} → Ghosts C → Bool → C → C → State → Option (List ℕ) → Option (List ℕ) → RunView C
view u sure before now st held prefix =
    record { u = u; sure = sure; before = before; now = now; st = st; held = held; prefix = prefix }

-- The run is at the history of its events, and its output is theirs. Since its beginning images are limited to its
-- uploads, where the disk is known to be honest
pub record IsHistory {C : Type 0} (v : RunView C) (r : Run) : Type 0 where
  pub state : r.state ≡ history v.st r.past
  pub output : r.out ≡ output_of v.st r.past
  pub images : v.sure ≡ true → LimitsTo (v.u.moment v.before) (v.u.moment v.now) (v.u.left_only v.before)
      (v.u.left_only v.now) (stores_of v.st r.past)

-- the writer holds the output of these events after what was there before, but for the bytes of texts where the disk
-- isn't known
pub record HasWritten (sure : Bool) (prefix held : Option (List ℕ)) (st : State) (past : List Marked) : Type 0 where
  pub out : List ℕ
  pub wrote : Appends prefix held out
  pub output : Outputs sure st past out

-- the connections are where the run is, the writer holds what it wrote after what was there before, and the disk
-- hasn't failed
pub record IsRunAt {C : Type 0} (v : RunView C) (r : Run) : Type 0 where
  pub represents : v.u.represents v.now v.sure r.state
  pub wrote : HasWritten v.sure v.prefix v.held v.st r.past
  pub up : r.down ≡ false
  pub history : IsHistory v r

-- the disk failed at the latest event, after what the run wrote, and so the connections are down
pub record IsDown {C : Type 0} (v : RunView C) (r : Run) : Type 0 where
  pub wrote : HasWritten v.sure v.prefix v.held v.st r.past
  pub down : r.down ≡ true
  pub fell : v.u.down v.now ≡ true
  pub history : IsHistory v r
  pub last : v.sure ≡ true → ShowsLast (v.u.moment v.now) (v.u.left_only v.now) v.st r.past

-- the writer failed or it was out of memory, and the connections are where the run is; what it gave last may not be
-- written
pub record IsBrokenOff {C : Type 0} (v : RunView C) (fault : CallFault) (r : Run) : Type 0 where
  pub represents : v.u.represents v.now v.sure r.state
  pub out : List ℕ
  pub wrote : Appends v.prefix v.held out
  pub replies : BreaksOff v.sure fault v.st r.past out
  pub history : IsHistory v r

-- what is to be made of one run is what is to be made of another, by some marks of the calls between
abbrev pub Reaches : {X : Type 0} → (Run → X) → Run → (Run → X) → Run → Type 0
Reaches f r g s = (ms : List Mark) × ((rest : List Mark) → f (with_marks r (ms ++ rest)) ≡ g (with_marks s rest))

abbrev pub Leads : (Run → Run) → Run → Run → Type 0
Leads f r s = Reaches f r (λ x. x) s

abbrev pub LeadsOn : (Run → Flow) → Run → Run → Bool → Type 0
LeadsOn f r s b = Reaches f r (λ x. flow x b) s

-- whatever is made of the rest, the events of this run are the first, by some marks of the calls up to it
abbrev pub PassesTo : {X : Type 0} → (X → List Marked) → (Run → X) → Run → Run → Type 0
PassesTo past_of f r s = (ms : List Mark) × ((rest : List Mark)
    → IsFirst s.past (past_of (f (with_marks r (ms ++ rest)))))

abbrev pub run_past : Run → List Marked
run_past r = r.past

abbrev pub flow_past : Flow → List Marked
flow_past f = f.run.past

abbrev pub script_past : script.Result → List Marked
script_past r = r.run.past

-- a part of a script was broken off
abbrev pub StopsAt : {C X : Type 0} → RunView C → CallFault → (X → List Marked) → (Run → X) → Run → Type 0
StopsAt v fault past_of f r = (s : Run) × PassesTo past_of f r s × IsBrokenOff v fault s

-- What a part of a script did to a run.
abbrev pub Went : {C : Type 0} → RunView C → Result (Unit {0}) CallFault → (Run → Run) → Run → Type 0
Went v (Ok x) f r = (s : Run) × Leads f r s × IsRunAt v s
Went v (Err (Stop stops.DiskFault)) f r = (s : Run) × Leads f r s × IsDown v s
Went v (Err e) f r = StopsAt v e run_past f r

-- the same of a part after which the line goes on or doesn't
abbrev pub Flowed : {C : Type 0} → RunView C → Result Bool CallFault → (Run → Flow) → Run → Type 0
Flowed v (Ok b) f r = (s : Run) × LeadsOn f r s b × IsRunAt v s
Flowed v (Err (Stop stops.DiskFault)) f r = (s : Run) × LeadsOn f r s false × IsDown v s
Flowed v (Err e) f r = StopsAt v e flow_past f r

-- a refusal is written; of the disk fault nothing
abbrev pub Refuses : Option (List ℕ) → Option (List ℕ) → Result (Unit {0}) CallFault → ℕ → SessionError → Type 0
Refuses old new (Ok x) n error = Appends old new (written_refusal n error) × (error ≡ errors.Stop stops.DiskFault → ⊥)
Refuses old new (Err (Stop stops.DiskFault)) n error = (error ≡ errors.Stop stops.DiskFault) × (new ≡ old)
Refuses old new (Err (Stop stops.NoMemory)) n error = (new ≡ old) × (error ≡ errors.Stop stops.DiskFault → ⊥)
Refuses old new (Err Io) n error =
    AppendsPart old new (written_refusal n error) × (error ≡ errors.Stop stops.DiskFault → ⊥)

-- the run after a call with this mark, whatever marks are to come
abbrev pub after_call : Run → ℕ → Event → Mark → Run
after_call r n e m =
    let t = step r.state e m in
    record {
      state = t.state;
      past = (e, m) ∷ r.past;
      marks = [];
      out = r.out ++ written n t.outcome;
      down = is_fault t.outcome;
    }

-- a call leads there and answers so, by some mark
abbrev pub Calls : Run → ℕ → Event → Run → Outcome → Type 0
Calls r n e s outcome = (m : Mark) × ((rest : List Mark)
    → call (with_marks r (m ∷ rest)) n e ≡ record { run = with_marks s rest; outcome = outcome })

-- what a call that may give bytes did to a run: it was served, or refused, or the disk failed, or what it gave wasn't
-- written
abbrev pub Called : {C : Type 0} → RunView C → Result (Option Answer) CallFault → ℕ → Event → Run → Type 0
Called v (Ok (Some a)) n e r = (s : Run) × (bytes : List ℕ) × Calls r n e s (Gave bytes a.taken a.closes a.more)
    × IsRunAt v s
Called v (Ok None) n e r = (s : Run) × (f : SessionError) × Calls r n e s (Refused f) × IsRunAt v s
Called v (Err (Stop stops.DiskFault)) n e r =
    (s : Run) × Calls r n e s (Refused (errors.Stop stops.DiskFault)) × IsDown v s
Called v (Err f) n e r = (s : Run) × (o : Outcome) × Calls r n e s o × IsBrokenOff v f s

-- what was given is written
abbrev pub WritesGiven : Option (List ℕ) → Option (List ℕ) → Result (Unit {0}) CallFault → ℕ → List ℕ → Bool → Type 0
WritesGiven old new (Ok x) n bytes closes = Appends old new (written_bytes n bytes ++ written_close n closes)
WritesGiven old new (Err (Stop stops.DiskFault)) n bytes closes = ⊥
WritesGiven old new (Err (Stop stops.NoMemory)) n bytes closes = new ≡ old
WritesGiven old new (Err Io) n bytes closes = AppendsPart old new (written_bytes n bytes ++ written_close n closes)

-- One call with bytes of a line, and what follows it: the rest goes on after what was taken, or is dropped
abbrev pub GivenOnce : {C : Type 0} → RunView C → Result (Option ℕ) CallFault → ℕ → ℕ → List ℕ → Run → Type 0
GivenOnce v (Ok (Some taken)) k n bytes r =
    (s : Run) × Reaches (give_within (suc k) n bytes) r (give_within k n (drop taken bytes)) s × IsRunAt v s
GivenOnce v (Ok None) k n bytes r = (s : Run) × Leads (give_within (suc k) n bytes) r s × IsRunAt v s
GivenOnce v (Err (Stop stops.DiskFault)) k n bytes r = (s : Run) × Leads (give_within (suc k) n bytes) r s × IsDown v s
GivenOnce v (Err e) k n bytes r = StopsAt v e run_past (give_within (suc k) n bytes) r

-- whether the line goes on after an answer: not known while a text is still to be given
abbrev pub settles : Option Answer → Option Bool
settles None = Some false
settles (Some a) = if a.closes then Some false else if a.more then None else Some true

-- one of the open connections that are cut at the script's end, with so many after it
abbrev pub CutOne : {C : Type 0} → RunView C → Result (Unit {0}) CallFault → ℕ → ℕ → Run → Type 0
CutOne v (Ok x) k n r = (s : Run) × Reaches (cut_from (suc k) n) r (cut_from k (n + 1)) s × IsRunAt v s
CutOne v (Err (Stop stops.DiskFault)) k n r = (s : Run) × Leads (cut_from (suc k) n) r s × IsDown v s
CutOne v (Err e) k n r = StopsAt v e run_past (cut_from (suc k) n) r

-- how the lines end: all of them ran, or the disk failed, or a line is none, or the run was broken off
abbrev pub LinesEnd : {C : Type 0} → RunView C → Result (Unit {0}) ScriptFault → (Run → script.Result) → Run → Type 0
LinesEnd v (Ok x) f r = (s : Run) × Reaches f r (λ x. ended_as x Ran) s × IsRunAt v s
LinesEnd v (Err (runs.Stop stops.DiskFault)) f r = (s : Run) × Reaches f r (λ x. ended_as x Faulted) s × IsDown v s
LinesEnd v (Err (runs.Script n)) f r = (s : Run) × Reaches f r (λ x. ended_as x (AtLine n)) s × IsRunAt v s
LinesEnd v (Err (runs.Stop stops.NoMemory)) f r = StopsAt v (Stop stops.NoMemory) script_past f r
LinesEnd v (Err runs.Io) f r = StopsAt v Io script_past f r

-- one line, with these after it
abbrev pub LineRan : {C : Type 0} → RunView C → Result (Unit {0}) ScriptFault → ℕ → ℕ → List ℕ → List (List ℕ) → Run
    → Type 0
LineRan v (Ok x) number start line lines r =
    (s : Run) × Reaches (run_lines number start (line ∷ lines)) r (run_lines (number + 1) (start + length line) lines) s
    × IsRunAt v s
LineRan v (Err e) number start line lines r = LinesEnd v (Err e) (run_lines number start (line ∷ lines)) r
