-- A run that failed, told by another failure of the same fault.
use Rattle.std.proofs.Common.{◌≡◌, ◌∙◌, arith, refl, sym, ℕ, List, Option, Result, Ok, Err, inl, inr}
use Rattle.spool_catalog.specs.declared.error.OpenFault.{OpenFault}
use Rattle.spool_catalog.specs.declared.error.OpenFault.TheVariants as opens
use Rattle.spool_disk.specs.declared.disk.Disk.{Ghosts}
use Rattle.gateway_script.specs.declared.faults.ScriptFault.TheVariants as scripts
use Rattle.gateway_engine.specs.Ran.{CountsEither}
use Rattle.gateway_engine.specs.RanFrom.{HasRefusedOn}
use Rattle.gateway_engine.specs.declared.faults.RunFault.{RunFault}
use Rattle.gateway_engine.specs.declared.faults.RunFault.TheVariants as runs
use Rattle.gateway_outside.specs.Failures.{fault_in}
use Rattle.gateway_outside.specs.Faults.{open_fault}
use Rattle.gateway_outside.specs.Held.{leaves_more}
use Rattle.gateway_outside.specs.Openings.{StaysShut}
use Rattle.gateway_outside.specs.SpoolFiles.{Disks}
use Rattle.gateway_outside.specs.declared.failures.Failure.{Failure}
use Rattle.gateway_outside.specs.declared.faults.Fault.TheVariants.{Io}
use Rattle.gateway_outside.specs.declared.openings.Unopened.{Unopened}
use Rattle.gateway_run.specs.Scripts.{AnswersRun, IsIo, RanIn, RunsAt, RunsFresh, run_fault}

module _ {D : Type 0} (failure told : Failure) (same : fault_in told ≡ fault_in failure) where
  answers_told : (run : Result D (D × RunFault)) → AnswersRun {T = Unit {0}} run (Err failure)
      → AnswersRun {T = Unit {0}} run (Err told)
  answers_told (Ok d) answers = answers
  answers_told (Err e) answers = same ∙ answers

  ran_told : (disk : Ghosts D) (d : D) (input before after : Option (List ℕ)) (none : Type 0) (d' : D)
      → RanIn {T = Unit {0}} disk d (Err failure) input before after none d'
      → RanIn {T = Unit {0}} disk d (Err told) input before after none d'
  ran_told disk d input before after none d' ran = record {
    run = ran.run;
    runs = ran.runs;
    answers = answers_told ran.run ran.answers;
    reads = ran.reads;
  }

  shut_told : (shut shut' : List Unopened) (path : List ℕ) (d d' : D) → StaysShut shut shut' path d failure d'
      → StaysShut shut shut' path d told d'
  shut_told shut shut' path d d' stays = record {
    same = stays.same;
    why = (stays.why.0, stays.why.1, same ∙ stays.why.2);
  }

  pub runs_told : (disk : Ghosts D) (holds holds' : Disks D → Type 0) (shut shut' : List Unopened) (path : List ℕ)
      (input before after : Option (List ℕ)) (none : Type 0)
      → RunsAt {T = Unit {0}} disk holds holds' shut shut' path (Err failure) input before after none
      → RunsAt {T = Unit {0}} disk holds holds' shut shut' path (Err told) input before after none
  runs_told disk holds holds' shut shut' path input before after none runs disks d held is =
      leaves_more holds' disks path _ _ (runs disks d held is) (λ d' so.
      elim so [
        | inl stays ↦ inl (shut_told shut shut' path d d' stays.0, stays.1)
        | inr ran ↦ inr (ran_told disk d input before after none d' ran)
      ])

  pub fresh_told : (disk : Ghosts D) (input before after : Option (List ℕ)) (none : Type 0)
      → RunsFresh {T = Unit {0}} disk (Err failure) input before after none
      → RunsFresh {T = Unit {0}} disk (Err told) input before after none
  fresh_told disk input before after none so = elim so [
    | inl stopped ↦ inl (same ∙ stopped.0, stopped.1)
    | inr ran ↦ inr (record {
      d = ran.d;
      fresh = ran.fresh;
      run = ran.run;
      runs = ran.runs;
      answers = answers_told ran.run ran.answers;
    })
  ]

-- what either counts by another name
either_as : (P Q : Type 0) (a b c e : ℕ) → (P → Q) → (Q → P) → CountsEither P a b c e → CountsEither Q a b c e
either_as P Q a b c e into back counts = record {
  reader_later = counts.reader_later;
  writer_later = counts.writer_later;
  counted = λ q. counts.counted (back q);
  nothing_else = λ less. into (counts.nothing_else less);
}

-- and nothing at all
pub either_none : (P : Type 0) (a c : ℕ) → (P → ⊥) → CountsEither P a a c c
either_none P a c never = record {
  reader_later = omega arith;
  writer_later = omega arith;
  counted = λ p. absurd (never p);
  nothing_else = λ less. absurd (elim less [ inl l ↦ omega (arith, l) | inr l ↦ omega (arith, l) ]);
}

-- a disk that isn't opened is no stream that refuses
unopened : (fault : OpenFault) → open_fault fault ≡ Io → ⊥
unopened opens.NotASpool same = absurd (cc)
unopened opens.Damaged same = absurd (cc)
unopened opens.Version same = absurd (cc)
unopened (opens.Stop stop) same = absurd (cc)

module _ {D : Type 0} (d : D) where
  into_run : (fault : RunFault) → HasRefusedOn (Err (d, fault)) → run_fault fault ≡ Io
  into_run (runs.Open fault) refused = absurd refused
  into_run (runs.Script (scripts.Stop stop)) refused = absurd refused
  into_run (runs.Script (scripts.Script line)) refused = absurd refused
  into_run (runs.Script scripts.Io) refused = refl

  of_run : (fault : RunFault) → run_fault fault ≡ Io → HasRefusedOn (Err (d, fault))
  of_run (runs.Open fault) same = absurd (unopened fault same)
  of_run (runs.Script (scripts.Stop stop)) same = absurd (cc)
  of_run (runs.Script (scripts.Script line)) same = absurd (cc)
  of_run (runs.Script scripts.Io) same = tt

  -- a run's refusal, told as a failure's
  pub refused_told : (fault : RunFault) (failure : Failure) (a b c e : ℕ) → fault_in failure ≡ run_fault fault
      → CountsEither (HasRefusedOn (Err (d, fault))) a b c e → CountsEither (IsIo {T = Unit {0}} (Err failure)) a b c e
  refused_told fault failure a b c e same =
      either_as _ _ a b c e (λ refused. same ∙ into_run fault refused) (λ io. of_run fault (sym same ∙ io))

-- and by another failure of the same fault
pub io_told : (failure told : Failure) (same : fault_in told ≡ fault_in failure) (a b c e : ℕ)
    → CountsEither (IsIo {T = Unit {0}} (Err failure)) a b c e → CountsEither (IsIo {T = Unit {0}} (Err told)) a b c e
io_told failure told same a b c e = either_as _ _ a b c e (λ io. same ∙ io) (λ io. sym same ∙ io)
