-- From the lines' end to the script's.
use Rattle.std.proofs.Common.{◌≡◌, ◌⊎◌, inl, inr, ℕ, Bool, List, [], ◌++◌, take, Option, Some, None, Ok, Err, refl, sym}
use Rattle.std.proofs.Common.{subst, ◌∙◌, append-nil, arith}
use Rattle.std.proofs.Common.{⊎_elim, true}
use Rattle.std.specs.Prelude.{IsErrOf}
use Rattle.std.specs.Io.KnownBytes.{Appends}
use Rattle.common.specs.declared.stop.Stop.TheVariants.{NoMemory, DiskFault}
use Rattle.upload_rules.specs.Store.{Store}
use Rattle.upload_rules.specs.Answers.{Among, Quiet, Counts}
use Rattle.upload_rules.specs.declared.uploads.Uploads.{Ghosts}
use Rattle.tus_session.proofs.Images.{first_store, all_themselves}
use Rattle.tus_session.specs.History.{State, Mark, Marked}
use Rattle.tus_session.specs.Images.{stores_of, last_stores, last_blocks, ShowsLast, LimitsTo}
use Rattle.gateway_script.proofs.Outputs.{appends_nothing}
use Rattle.gateway_script.specs.Script as script
use Rattle.gateway_script.specs.Script.{script_result, Run, run_lines, script_lines, run_from, ended_as, Exit}
use Rattle.gateway_script.specs.Script.{Ran, AtLine, Faulted}
use Rattle.gateway_script.specs.Outputs.{IsFirst, BreaksOff}
use Rattle.gateway_script.specs.Runs.{RunView, with_marks, HasWritten, IsHistory, IsRunAt, IsDown, Reaches, StopsAt}
use Rattle.gateway_script.specs.Runs.{script_past, LinesEnd}
use Rattle.gateway_script.specs.Script.{IsScript}
use Rattle.gateway_engine.specs.Ran.{ShowsSince, IsAtRest, EndedSo, RestsSo, FailedSo, StoppedSo, HasRun, HasFailed}
use Rattle.gateway_engine.specs.Ran.{HasRefused, CountsEither}
use Rattle.gateway_script.specs.declared.faults.CallFault.{CallFault}
use Rattle.gateway_script.specs.declared.faults.CallFault.TheVariants as faults
use Rattle.gateway_script.specs.declared.faults.ScriptFault.{ScriptFault}
use Rattle.gateway_script.specs.declared.faults.ScriptFault.TheVariants as runs

-- nothing happened so far
limits_none : (moment : ℕ) (left_only : Option ℕ → ℕ → List Store → Type 0) (stores : List Store)
    → LimitsTo moment moment left_only left_only stores
limits_none moment left_only stores = record { later = omega arith; limits = λ n t ms le left among. left }

pub begins : {C : Type 0} (v : RunView C) → v.before ≡ v.now → v.u.represents v.now v.sure v.st → v.held ≡ v.prefix
    → IsRunAt v (run_from v.st [])
begins v same represents is = record {
  represents = represents;
  wrote = record { out = []; wrote = subst (λ h. Appends h v.held []) is (appends_nothing v.held); output = refl };
  up = refl;
  history = record {
    state = refl;
    output = refl;
    images = λ known. subst (λ c. LimitsTo (v.u.moment c) (v.u.moment v.now) (v.u.left_only c) (v.u.left_only v.now)
        (stores_of v.st [])) (sym same) (limits_none (v.u.moment v.now) (v.u.left_only v.now) (stores_of v.st []));
  };
}

-- the script, by its marks
script_is : (st : State) (marks : List Mark) (bytes : List ℕ) → script_result st marks bytes ≡ run_lines 1 0
    (script_lines bytes) (with_marks (run_from st []) marks)
unfolding script_result
script_is st marks bytes = refl

-- the uploads are on the disk
abbrev pub IsDurable : {U B : Type 0} → Ghosts U B → U → State → Type 0
IsDurable u store st = (ms : List Store) → Among st.world.store ms → u.left_only store st.world.blocks (u.moment store)
    ms

-- what images may show since the run began
pub shows_since : {U B : Type 0} (u : Ghosts U B) (before now : U) (st : State) (past : List Marked)
    → IsDurable u before st
    → LimitsTo (u.moment before) (u.moment now) (u.left_only before) (u.left_only now) (stores_of st past)
    → ShowsSince u before now st past
shows_since u before now st past durable limits = record {
  since = limits.limits st.world.blocks (u.moment before) (stores_of st past) (omega arith)
      (durable (stores_of st past) (first_store st past)) (all_themselves (stores_of st past));
  limits = limits;
}

-- what images may show of the run of the connections
abbrev pub ShowsIn : {C : Type 0} → RunView C → List Marked → Type 0
ShowsIn v past = LimitsTo (v.u.moment v.before) (v.u.moment v.now) (v.u.left_only v.before) (v.u.left_only v.now)
    (stores_of v.st past)

abbrev pub LastIn : {C : Type 0} → RunView C → List Marked → Type 0
LastIn v past = ShowsLast (v.u.moment v.now) (v.u.left_only v.now) v.st past

module _ {U B C : Type 0} (u : Ghosts U B) (v : RunView C) (before store : U) (bytes : List ℕ)
    (closes : (now : State) → v.u.represents v.now v.sure now → IsAtRest u v.sure store now)
    (shows : v.sure ≡ true → (past : List Marked) → ShowsIn v past → ShowsSince u before store v.st past)
    (last : (past : List Marked) → LastIn v past → ShowsLast (u.moment store) (u.left_only store) v.st past) where
  abbrev lines : Run → script.Result
  lines = run_lines 1 0 (script_lines bytes)

  abbrev begun : Run
  begun = run_from v.st []

  ends_as : (s : Run) (exit : Exit) → (p : Reaches lines begun (λ x. ended_as x exit) s)
      → script_result v.st (p.0 ++ []) bytes ≡ ended_as (with_marks s []) exit
  ends_as s exit p = script_is v.st (p.0 ++ []) bytes ∙ p.1 []

  ended_so : (s : Run) (exit : Exit) → (p : Reaches lines begun (λ x. ended_as x exit) s)
      → HasWritten v.sure v.prefix v.held v.st s.past → IsHistory v s
      → EndedSo u v.sure before store v.st (script_result v.st (p.0 ++ []) bytes) v.held v.prefix exit
  ended_so s exit p wrote is =
      let now : EndedSo u v.sure before store v.st (ended_as (with_marks s []) exit) v.held v.prefix exit = record {
        writes = record { exits = refl; all = wrote };
        output = is.output;
        state = is.state;
        shows = λ known. shows known s.past (is.images known);
      } in
      subst (λ r. EndedSo u v.sure before store v.st r v.held v.prefix exit) (sym (ends_as s exit p)) now

  rests_so : (s : Run) (exit : Exit) → (p : Reaches lines begun (λ x. ended_as x exit) s) → IsRunAt v s
      → (marks : List Mark) × RestsSo u v.sure before store v.st (script_result v.st marks bytes) v.held v.prefix exit
  rests_so s exit p at = (
    p.0 ++ [],
    record {
      ended = ended_so s exit p at.wrote at.history;
      rests = subst (λ r. IsAtRest u v.sure store r.run.state) (sym (ends_as s exit p)) (closes s.state at.represents);
    },
  )

  failed_so : (s : Run) → (p : Reaches lines begun (λ x. ended_as x Faulted) s) → IsDown v s
      → (marks : List Mark) × FailedSo u v.sure before store v.st (script_result v.st marks bytes) v.held v.prefix
  failed_so s p down = (
    p.0 ++ [],
    record {
      ended = ended_so s Faulted p down.wrote down.history;
      last = λ known. subst (λ r. ShowsLast (u.moment store) (u.left_only store) v.st r.run.past)
          (sym (ends_as s Faulted p)) (last s.past (down.last known));
    },
  )

  stopped_so : (fault : CallFault) → StopsAt v fault script_past lines begun
      → (marks : List Mark)
      × StoppedSo u v.sure before store v.st (script_result v.st marks bytes) v.held v.prefix fault
  stopped_so fault p = (
    p.1.0 ++ [],
    record {
      writes = record {
        past = p.0.past;
        first = subst (λ r. IsFirst p.0.past r.run.past) (sym (script_is v.st (p.1.0 ++ []) bytes)) (p.1.1 []);
        out = p.2.out;
        wrote = p.2.wrote;
        most = p.2.replies;
      };
      rests = subst (IsAtRest u v.sure store) p.2.history.state (closes p.0.state p.2.represents);
      shows = λ known. shows known p.0.past (p.2.history.images known);
    },
  )

  pub ran : LinesEnd v (Ok (tt {0})) lines begun → HasRun u v.sure before (Ok store) v.held v.prefix v.st bytes
  ran p = rests_so p.0 Ran p.1 p.2

  pub stopped : (fault : ScriptFault) → LinesEnd v (Err fault) lines begun → HasRun u v.sure before (Err (store, fault))
      v.held v.prefix v.st bytes
  stopped (runs.Stop NoMemory) p = stopped_so (faults.Stop NoMemory) p
  stopped (runs.Stop DiskFault) p = failed_so p.0 p.1 p.2
  stopped (runs.Script n) p = rests_so p.0 (AtLine n) p.1 p.2
  stopped runs.Io p = stopped_so faults.Io p

-- THE RUN NEVER BEGAN: the script wasn't read, or it was out of memory
module _ {U B : Type 0} (u : Ghosts U B) (sure : Bool) (store : U) (held : Option (List ℕ)) (st : State)
    (bytes : List ℕ) (represents : IsAtRest u sure store st) (durable : sure ≡ true → IsDurable u store st) where
  none_so : (fault : CallFault) → BreaksOff sure fault st [] []
      → (marks : List Mark) × StoppedSo u sure store store st (script_result st marks bytes) held held fault
  none_so fault most = (
    [],
    record {
      writes = record {
        past = [];
        first = ((script_result st [] bytes).run.past, sym (append-nil (script_result st [] bytes).run.past));
        out = [];
        wrote = appends_nothing held;
        most = most;
      };
      rests = represents;
      shows = λ known. shows_since u store store st [] (durable known)
          (limits_none (u.moment store) (u.left_only store) (stores_of st []));
    },
  )

  pub unbegun : (fault : ScriptFault) → (fault ≡ runs.Stop NoMemory) ⊎ (fault ≡ runs.Io)
      → HasRun u sure store (Err (store, fault)) held held st bytes
  unbegun fault (inl e) = subst (λ f. HasRun u sure store (Err (store, f)) held held st bytes) (sym e)
      (none_so (faults.Stop NoMemory) (inl refl))
  unbegun fault (inr e) = subst (λ f. HasRun u sure store (Err (store, f)) held held st bytes) (sym e)
      (none_so faults.Io ([], [], [], refl, refl, refl))

-- THE COUNT OF FAULTS
pub counts_as : {U : Type 0} {a b : ℕ} (store : U) (fault : ScriptFault)
    → Counts (IsErrOf {T = Unit {0}} (Err fault) (runs.Stop DiskFault)) a b
    → Counts (HasFailed (Err (store, fault))) a b
counts_as store (runs.Stop NoMemory) c = record {
  later = c.later;
  counted = λ f. absurd f;
  nothing_else = λ less.
      let e : Err (runs.Stop NoMemory) ≡ Err (runs.Stop DiskFault) = c.nothing_else less in absurd (cc);
}
counts_as store (runs.Stop DiskFault) c = record {
  later = c.later;
  counted = λ f. c.counted refl;
  nothing_else = λ less. tt {0};
}
counts_as store (runs.Script n) c = record {
  later = c.later;
  counted = λ f. absurd f;
  nothing_else = λ less. let e : Err (runs.Script n) ≡ Err (runs.Stop DiskFault) = c.nothing_else less in absurd (cc);
}
counts_as store runs.Io c = record {
  later = c.later;
  counted = λ f. absurd f;
  nothing_else = λ less. let e : Err runs.Io ≡ Err (runs.Stop DiskFault) = c.nothing_else less in absurd (cc);
}

pub counts_nothing : {U : Type 0} (a : ℕ) (store : U) (fault : ScriptFault)
    → (fault ≡ runs.Stop NoMemory) ⊎ (fault ≡ runs.Io) → Counts (HasFailed (Err (store, fault))) a a
counts_nothing a store fault (inl e) = subst (λ f. Counts (HasFailed (Err (store, f))) a a) (sym e) (record {
  later = omega arith;
  counted = λ f. absurd f;
  nothing_else = λ less. absurd (omega arith);
})
counts_nothing a store fault (inr e) = subst (λ f. Counts (HasFailed (Err (store, f))) a a) (sym e) (record {
  later = omega arith;
  counted = λ f. absurd f;
  nothing_else = λ less. absurd (omega arith);
})

-- THE COUNTS OF REFUSALS
refused_as : {T U : Type 0} {a b : ℕ} (store : U) (fault : ScriptFault)
    → Counts (IsErrOf {T = T} (Err fault) runs.Io) a b → Counts (HasRefused (Err (store, fault))) a b
refused_as store (runs.Stop stop) c = record {
  later = c.later;
  counted = λ f. absurd f;
  nothing_else = λ less. let e : Err (runs.Stop stop) ≡ Err runs.Io = c.nothing_else less in absurd (cc);
}
refused_as store (runs.Script n) c = record {
  later = c.later;
  counted = λ f. absurd f;
  nothing_else = λ less. let e : Err (runs.Script n) ≡ Err runs.Io = c.nothing_else less in absurd (cc);
}
refused_as store runs.Io c = record { later = c.later; counted = λ f. c.counted refl; nothing_else = λ less. tt {0} }

-- the reader alone was asked
pub reader_counts : {T U : Type 0} {a b w : ℕ} (store : U) (fault : ScriptFault)
    → Counts (IsErrOf {T = T} (Err fault) runs.Io) a b → CountsEither (HasRefused (Err (store, fault))) a b w w
reader_counts store fault c =
    let is = refused_as store fault c in
    record {
      reader_later = is.later;
      writer_later = omega arith;
      counted = λ f. inl (is.counted f);
      nothing_else = λ less. ⊎_elim (λ r. is.nothing_else r) (λ w. absurd (omega (arith, w))) less;
    }

-- neither refused
pub none_counts : {a b v w : ℕ} → b ≡ a → w ≡ v → CountsEither ⊥ a b v w
none_counts same same' = record {
  reader_later = omega (arith, same);
  writer_later = omega (arith, same');
  counted = λ f. absurd f;
  nothing_else = λ less. ⊎_elim (λ r. omega (arith, r, same)) (λ w. omega (arith, w, same')) less;
}

-- the reader didn't refuse, and then the writer was asked
pub writer_counts : {T U : Type 0} {a b v w : ℕ} (store : U) (fault : ScriptFault) → b ≡ a
    → Counts (IsErrOf {T = T} (Err fault) runs.Io) v w → CountsEither (HasRefused (Err (store, fault))) a b v w
writer_counts store fault same c =
    let is = refused_as store fault c in
    record {
      reader_later = omega (arith, same);
      writer_later = is.later;
      counted = λ f. inr (is.counted f);
      nothing_else = λ less. ⊎_elim (λ r. absurd (omega (arith, r, same))) (λ w. is.nothing_else w) less;
    }

-- from the uploads that a gateway was made of to those that it gave back
pub counts_through : {F : Type 0} {a b c d : ℕ} → b ≡ a → d ≡ c → Counts F b c → Counts F a d
counts_through {F} {a} {b} {c} {d} first last counts =
    subst (λ n. Counts F n d) first (subst (λ n. Counts F b n) (sym last) counts)

pub shows_through : {U B : Type 0} (u : Ghosts U B) (before first last now : U) (stores : List Store) → first ≡ before
    → Quiet (u.moment last) (u.moment now) (u.left_only last) (u.left_only now)
    → LimitsTo (u.moment first) (u.moment last) (u.left_only first) (u.left_only last) stores
    → LimitsTo (u.moment before) (u.moment now) (u.left_only before) (u.left_only now) stores
shows_through u before first last now stores same quiet shows =
    subst (λ b. LimitsTo (u.moment b) (u.moment now) (u.left_only b) (u.left_only now) stores) same (record {
      later = omega (arith, shows.later, quiet.later);
      limits = λ n t ms le left among.
          quiet.limits n t ms (omega (arith, shows.later)) (shows.limits n t ms le left among);
    })

pub last_through : {U B : Type 0} (u : Ghosts U B) (last now : U) (st : State) (past : List Marked)
    → Quiet (u.moment last) (u.moment now) (u.left_only last) (u.left_only now)
    → ShowsLast (u.moment last) (u.left_only last) st past → ShowsLast (u.moment now) (u.left_only now) st past
last_through u last now st past quiet shows = record {
  since = shows.since;
  reached = omega (arith, shows.reached, quiet.later);
  left = quiet.limits (last_blocks st past) shows.since (last_stores st past) shows.reached shows.left;
}

-- where the bytes aren't known, any are a script
pub some_script : (known : Option (List ℕ)) → (bytes : List ℕ) × IsScript known bytes
some_script None = ([], tt {0})
some_script (Some bytes) = (take 1073741825 bytes, refl)
