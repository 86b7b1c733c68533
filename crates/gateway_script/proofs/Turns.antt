-- A call, and the run after it.
use Rattle.std.specs.Io.KnownBytes.{Appends}
use Rattle.std.proofs.Common.{◌≡◌, Bool, true, false, ℕ, List, [], ◌∷◌, ◌++◌, Option, Some, None, Result, Ok, Err, inr}
use Rattle.std.proofs.Common.{refl, subst, ap, ◌∙◌}
use Rattle.tus_session.specs.History.{Event, Mark, Served, Outcome, Gave, Done, Refused, step, conn_in}
use Rattle.tus_session.specs.declared.answers.Answer.{Answer}
use Rattle.tus_session.specs.declared.errors.SessionError.{SessionError}
use Rattle.tus_session.specs.declared.errors.SessionError.TheVariants as errors
use Rattle.common.specs.declared.stop.Stop.TheVariants as stops
use Rattle.tus_session.specs.Connections.{Falls, mark_of, GivesFor, Does, UnlessFailed}
use Rattle.tus_session.specs.Images.{shown_by}
use Rattle.gateway_script.specs.declared.faults.CallFault.{CallFault}
use Rattle.gateway_script.specs.declared.faults.CallFault.TheVariants as faults
use Rattle.gateway_script.specs.Outputs.{AppendsPart, LastOutput, WritesAs}
use Rattle.gateway_script.specs.Script.{Run, call, is_fault, written}
use Rattle.gateway_script.specs.Runs.{RunView, with_marks, after_call, Calls, Called, IsRunAt, IsDown, IsBrokenOff}
use Rattle.gateway_script.specs.Runs.{Leads}
use Rattle.gateway_script.specs.Runs.{run_past, Went, Refuses, WritesGiven}
use Rattle.gateway_script.proofs.Outputs.{appends_both, appends_nothing}
use Rattle.gateway_script.proofs.Passing.{passes_by, first_same}
use Rattle.gateway_script.proofs.Seen.{current_after, Leaves, AreOnDisk, history_on, last_of, shows_last, written_on}

-- a call is the step with its mark
calls : (r : Run) (n : ℕ) (e : Event) (m : Mark) (outcome : Outcome) → (step r.state e m).outcome ≡ outcome
    → Calls r n e (after_call r n e m) outcome
unfolding call
calls r n e m outcome is = (m, λ rest. ap (λ o. record { run = with_marks (after_call r n e m) rest; outcome = o }) is)

leads : (r : Run) (n : ℕ) (e : Event) (m : Mark) → Leads (λ x. (call x n e).run) r (after_call r n e m)
unfolding call
leads r n e m = (m ∷ [], λ rest. refl)

-- without a disk fault the connections still represent a state
unfailed : (T : Type 0) (f : SessionError) (X : Type 0) → (f ≡ errors.Stop stops.DiskFault → ⊥)
    → UnlessFailed {T = T} (Err f) X → X × (is_fault (Refused f) ≡ false)
unfailed T (errors.Stop stops.NoMemory) X other x = (x, refl)
unfailed T (errors.Stop stops.DiskFault) X other x = absurd (other refl)
unfailed T errors.TooMany X other x = (x, refl)
unfailed T errors.Closed X other x = (x, refl)
unfailed T errors.Down X other x = (x, refl)

-- the connections are down after a disk fault
abbrev pub Falling : {C : Type 0} → RunView C → C → SessionError → Type 0
Falling v now f = f ≡ errors.Stop stops.DiskFault → v.u.down now ≡ true

pub falling : {T : Type 0} (was now : Bool) (f : SessionError) → Falls {T = T} was now (Err f)
    → f ≡ errors.Stop stops.DiskFault → now ≡ true
falling was now f falls is = falls.falls.1 (inr (ap Err is))

-- of a call that is known to be sure
pub surely : {C : Type 0} {v : RunView C} {r : Run} → IsRunAt v r → v.sure ≡ true → v.u.represents v.now true r.state
surely {v = v} {r = r} at known = subst (λ b. v.u.represents v.now b r.state) known at.represents

-- what a call has to write is written, or nothing when out of memory, or a prefix
abbrev Writes : Option (List ℕ) → Option (List ℕ) → Result (Unit {0}) CallFault → List ℕ → Type 0
Writes old new (Ok x) last = Appends old new last
Writes old new (Err (faults.Stop stops.DiskFault)) last = ⊥
Writes old new (Err (faults.Stop stops.NoMemory)) last = new ≡ old
Writes old new (Err faults.Io) last = AppendsPart old new last

-- where the run is after it
abbrev Lands : {C : Type 0} → RunView C → Result (Unit {0}) CallFault → Run → Type 0
Lands v (Ok x) s = IsRunAt v s
Lands v (Err (faults.Stop stops.DiskFault)) s = IsDown v s
Lands v (Err fault) s = IsBrokenOff v fault s

went_lands : {C : Type 0} (v : RunView C) (r : Run) (n : ℕ) (e : Event) (m : Mark)
    (result : Result (Unit {0}) CallFault)
    → Lands v result (after_call r n e m) → Went v result (λ x. (call x n e).run) r
went_lands v r n e m result lands =
    let passes = passes_by run_past (λ x. (call x n e).run) (λ x. x) r (after_call r n e m) (leads r n e m)
    (λ x. first_same x.past) in
    elim result as (λ result. Lands v result (after_call r n e m) → Went v result (λ x. (call x n e).run) r) [
      | Ok x ↦ λ lands. (after_call r n e m, leads r n e m, lands)
      | Err (faults.Stop stops.DiskFault) ↦ λ lands. (after_call r n e m, leads r n e m, lands)
      | Err (faults.Stop stops.NoMemory) ↦ λ lands. (after_call r n e m, passes, lands)
      | Err faults.Io ↦ λ lands. (after_call r n e m, passes, lands)
    ] lands

module _ {C : Type 0} (v : RunView C) (now : C) (held : Option (List ℕ)) (r : Run) (e : Event) (m : Mark)
    (at : IsRunAt v r)
    (leaves : Leaves v now r.state.world.store (shown_by r.state e m)) where
  landed : (o : Outcome) (last : List ℕ) (result : Result (Unit {0}) CallFault)
      → v.u.represents now v.sure (step r.state e m).state → (step r.state e m).outcome ≡ o → is_fault o ≡ false
      → WritesAs v.sure (conn_in e) o (step r.state e m).text last → Writes v.held held result last
      → Lands (current_after v now held) result (after_call r (conn_in e) e m)
  landed o last (Ok x) represents is up whole wrote = record {
    represents = represents;
    wrote = written_on v held r e m at.history at.wrote (last, rw is whole, wrote);
    up = ap is_fault is ∙ up;
    history = history_on v now held r e m at.history leaves;
  }
  landed o last (Err (faults.Stop stops.DiskFault)) represents is up whole wrote = absurd wrote
  landed o last (Err (faults.Stop stops.NoMemory)) represents is up whole wrote = record {
    represents = represents;
    out = at.wrote.out;
    wrote = rw wrote at.wrote.wrote;
    replies = inr at.wrote.output;
    history = history_on v now held r e m at.history leaves;
  }
  landed o last (Err faults.Io) represents is up whole wrote = record {
    represents = represents;
    out = at.wrote.out ++ wrote.0;
    wrote = appends_both v.prefix v.held held at.wrote.out wrote.0 at.wrote.wrote wrote.3;
    replies = (
      at.wrote.out,
      wrote.0,
      wrote.1,
      at.wrote.output,
      subst (LastOutput v.sure v.st ((e, m) ∷ r.past)) wrote.2 (last_of v r e m last at.history (rw is whole)),
      refl,
    );
    history = history_on v now held r e m at.history leaves;
  }

  -- a refusal is written as the history has it, and a disk fault puts the connections down
  module _ (T : Type 0) (f : SessionError) (is : (step r.state e m).outcome ≡ Refused f)
      (after_is : UnlessFailed {T = T} (Err f) (v.u.represents now v.sure (step r.state e m).state)) where
    refused_so : (result : Result (Unit {0}) CallFault) → (f ≡ errors.Stop stops.DiskFault → ⊥)
        → Writes v.held held result (written (conn_in e) (Refused f))
        → Lands (current_after v now held) result (after_call r (conn_in e) e m)
    refused_so result other wrote =
        let k = unfailed T f (v.u.represents now v.sure (step r.state e m).state) other after_is in
        landed (Refused f) (written (conn_in e) (Refused f)) result k.0 is k.1 refl wrote

    refused_at : (result : Result (Unit {0}) CallFault) → AreOnDisk v r → Falling v now f
        → Refuses v.held held result (conn_in e) f
        → Lands (current_after v now held) result (after_call r (conn_in e) e m)
    refused_at (Ok x) durable fell refuses = refused_so (Ok x) refuses.1 refuses.0
    refused_at (Err (faults.Stop stops.DiskFault)) durable fell refuses =
        let down : (step r.state e m).outcome ≡ Refused (errors.Stop stops.DiskFault) = is ∙ ap Refused refuses.0 in
        record {
          wrote = written_on v held r e m at.history at.wrote ([], rw down refl, rw refuses.1 (appends_nothing v.held));
          down = ap is_fault down;
          fell = fell refuses.0;
          history = history_on v now held r e m at.history leaves;
          last = shows_last v now held r e m at.history durable leaves;
        }
    refused_at (Err (faults.Stop stops.NoMemory)) durable fell refuses =
        refused_so (Err (faults.Stop stops.NoMemory)) refuses.1 refuses.0
    refused_at (Err faults.Io) durable fell refuses = refused_so (Err faults.Io) refuses.1 refuses.0

-- A CALL THAT GIVES NOTHING
pub done_went : {C : Type 0} (v : RunView C) (now : C) (r : Run) (e : Event) → IsRunAt v r
    → Leaves v now r.state.world.store (shown_by r.state e Served)
    → Does (v.u.represents now v.sure) (Ok (tt {0})) r.state e
    → Went (current_after v now v.held) (Ok (tt {0})) (λ x. (call x (conn_in e) e).run) r
done_went v now r e at leaves does =
    went_lands (current_after v now v.held) r (conn_in e) e Served (Ok (tt {0})) (landed v now v.held r e Served at
    leaves Done [] (Ok (tt {0})) does.now_represents does.answer refl refl (appends_nothing v.held))

pub refused_went : {C : Type 0} (v : RunView C) (now : C) (held : Option (List ℕ)) (r : Run) (e : Event)
    (f : SessionError)
    (result : Result (Unit {0}) CallFault)
    → IsRunAt v r → AreOnDisk v r → Leaves v now r.state.world.store
    (shown_by r.state e (mark_of {T = Unit {0}} (Err f)))
    → Does (v.u.represents now v.sure) (Err f) r.state e → Falling v now f
    → Refuses v.held held result (conn_in e) f
    → Went (current_after v now held) result (λ x. (call x (conn_in e) e).run) r
refused_went v now held r e f result at durable leaves does fell refuses =
    let m : Mark = mark_of {T = Unit {0}} (Err f) in
    went_lands (current_after v now held) r (conn_in e) e m result (refused_at v now held r e m at leaves (Unit {0}) f
    does.answer does.now_represents result durable fell refuses)

-- A CALL THAT GIVES BYTES
-- what is answered where its reply was written
abbrev pub answered_as : Option Answer → Result (Unit {0}) CallFault → Result (Option Answer) CallFault
answered_as o (Ok x) = Ok o
answered_as o (Err fault) = Err fault

module _ {C : Type 0} (v : RunView C) (now : C) (held : Option (List ℕ)) (r : Run) (e : Event) (at : IsRunAt v r) where
  pub written_called : (a : Answer) (given : List ℕ) → Leaves v now r.state.world.store (shown_by r.state e Served)
      → GivesFor v.sure (v.u.represents now v.sure) (Ok a) [] given r.state e → (result : Result (Unit {0}) CallFault)
      → WritesGiven v.held held result (conn_in e) given a.closes
      → Called (current_after v now held) (answered_as (Some a) result) (conn_in e) e r
  written_called a given leaves gives result wrote_given =
      let s = after_call r (conn_in e) e Served in
      let o : Outcome = Gave gives.0 a.taken a.closes a.more in
      let c = calls r (conn_in e) e Served o gives.1.answer in
      let lands = λ (result : Result (Unit {0}) CallFault)
      (wrote : Writes v.held held result (written (conn_in e) (Gave given a.taken a.closes a.more))).
      landed v now held r e Served at leaves o (written (conn_in e) (Gave given a.taken a.closes a.more)) result
      gives.1.now_represents gives.1.answer refl (given, gives.2, refl) wrote in
      elim result as (λ result. WritesGiven v.held held result (conn_in e) given a.closes
      → Called (current_after v now held) (answered_as (Some a) result) (conn_in e) e r) [
        | Ok x ↦ λ wrote_given. (s, gives.0, c, lands (Ok x) wrote_given)
        | Err (faults.Stop stops.DiskFault) ↦ λ wrote_given. absurd wrote_given
        | Err (faults.Stop stops.NoMemory) ↦ λ wrote_given. (
          s,
          o,
          c,
          lands (Err (faults.Stop stops.NoMemory))
              wrote_given,
        )
        | Err faults.Io ↦ λ wrote_given. (s, o, c, lands (Err faults.Io) wrote_given)
      ] wrote_given

  pub refused_called : (f : SessionError) (given : List ℕ)
      → Leaves v now r.state.world.store (shown_by r.state e (mark_of {T = Answer} (Err f)))
      → GivesFor v.sure (v.u.represents now v.sure) (Err f) [] given r.state e → AreOnDisk v r → Falling v now f
      → (result : Result (Unit {0}) CallFault) → Refuses v.held held result (conn_in e) f
      → Called (current_after v now held) (answered_as None result) (conn_in e) e r
  refused_called f given leaves gives durable fell result refuses =
      let m : Mark = mark_of {T = Answer} (Err f) in
      let s = after_call r (conn_in e) e m in
      let c = calls r (conn_in e) e m (Refused f) gives.1.answer in
      let lands = λ (result : Result (Unit {0}) CallFault) (refuses : Refuses v.held held result (conn_in e) f).
      refused_at v now held r e m at leaves Answer f gives.1.answer gives.1.now_represents result durable fell
      refuses in
      elim result as (λ result. Refuses v.held held result (conn_in e) f
      → Called (current_after v now held) (answered_as None result) (conn_in e) e r) [
        | Ok x ↦ λ refuses. (s, f, c, lands (Ok x) refuses)
        | Err (faults.Stop stops.DiskFault) ↦ λ refuses.
            (s, rw (← refuses.0) c, lands (Err (faults.Stop stops.DiskFault)) refuses)
        | Err (faults.Stop stops.NoMemory) ↦ λ refuses.
            (s, Refused f, c, lands (Err (faults.Stop stops.NoMemory)) refuses)
        | Err faults.Io ↦ λ refuses. (s, Refused f, c, lands (Err faults.Io) refuses)
      ] refuses
