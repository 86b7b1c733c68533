-- The uploads of the stores that a round leaves have all their bytes, if those of the stores before had.
use Rattle.std.proofs.Common.{◌≡◌, ℕ, List, [], ◌∷◌, Option, Some, None, inl, inr, subst, sym}
use Rattle.common.specs.declared.stop.Stop.TheVariants.{NoMemory, DiskFault}
use Rattle.spool_disk.specs.declared.disk.Disk.{Ghosts}
use Rattle.spool_catalog.specs.declared.error.OpenFault.TheVariants as opens
use Rattle.spool_image.specs.declared.error.RaiseError.{RaiseError}
use Rattle.spool_image.specs.declared.error.RaiseError.TheVariants as raises
use Rattle.spool_image.specs.declared.error.UpgradeError.{UpgradeError}
use Rattle.spool_image.specs.declared.error.UpgradeError.TheVariants as upgrades
use Rattle.upload_rules.specs.Answers.{Among}
use Rattle.upload_rules.specs.Store.{HasAllBytes, Store}
use Rattle.tus_session.specs.History.{Event, Failed, Mark, Marked, OutOfMemory, Served, State, beginning, history, step}
use Rattle.tus_session.specs.Images.{last_stores, shown_by}
use Rattle.tus_laws.proofs.Growing.{always_known}
use Rattle.gateway_script.specs.declared.faults.ScriptFault.TheVariants as scripts
use Rattle.gateway_engine.specs.declared.faults.RunFault.{RunFault}
use Rattle.gateway_engine.specs.declared.faults.RunFault.TheVariants.{Open, Script}
use Rattle.gateway_rounds.specs.declared.round.End.{End}
use Rattle.gateway_rounds.specs.declared.round.End.TheVariants.{Crash, Nothing}
use Rattle.gateway_rounds.specs.declared.round.Work.{Work}
use Rattle.gateway_rounds.specs.declared.round.Work.TheVariants.{Raise, Run, Upgrade}
use Rattle.gateway_rounds.specs.Rounds.{HaveAllBytes, IsEnd, IsWork, left_by_raise, left_by_run, left_by_upgrade}
use Rattle.gateway_rounds.specs.Rounds.{raised_to}

one_has : (m : Store) → HasAllBytes m → HaveAllBytes (m ∷ [])
one_has m has s (inl is) = subst HasAllBytes (sym is) has
one_has m has s (inr none) = absurd none

two_have : (m q : Store) → HasAllBytes m → HasAllBytes q → HaveAllBytes (m ∷ q ∷ [])
two_have m q has has' s (inl is) = subst HasAllBytes (sym is) has
two_have m q has has' s (inr rest) = one_has q has' s rest

module _ (st : State) (has : HasAllBytes st.world.store) where
  after_event : (past : List Marked) (e : Event) (mark : Mark) → HasAllBytes (shown_by (history st past) e mark)
  after_event past e Served = always_known st ((e, Served) ∷ past) has
  after_event past e OutOfMemory = always_known st ((e, OutOfMemory) ∷ past) has
  after_event past e Failed = always_known st ((e, Served) ∷ past) has

  last_have : (past : List Marked) → HaveAllBytes (last_stores st past)
  last_have [] = one_has st.world.store has
  last_have (e ∷ past) = two_have (shown_by (history st past) e.0 e.1) (history st past).world.store
      (after_event past e.0 e.1) (always_known st past has)

  module _ (past : List Marked) (before : List Store) (have : HaveAllBytes before) where
    all_events : HaveAllBytes ((history st past).world.store ∷ [])
    all_events = one_has (history st past).world.store (always_known st past has)

    left_by : (fault : Option RunFault) → HaveAllBytes (left_by_run fault st past before)
    left_by None = all_events
    left_by (Some (Script (scripts.Stop DiskFault))) = last_have past
    left_by (Some (Script (scripts.Stop NoMemory))) = all_events
    left_by (Some (Script (scripts.Script line))) = all_events
    left_by (Some (Script scripts.Io)) = all_events
    left_by (Some (Open fault)) = have

upgrade_left : (reported : Option UpgradeError) (m : Store) (before : List Store) → HasAllBytes m → HaveAllBytes before
    → HaveAllBytes (left_by_upgrade reported m before)
upgrade_left None m before has have = one_has m has
upgrade_left (Some (upgrades.Open (opens.Stop DiskFault))) m before has have = have
upgrade_left (Some (upgrades.Open (opens.Stop NoMemory))) m before has have = one_has m has
upgrade_left (Some (upgrades.Open opens.NotASpool)) m before has have = one_has m has
upgrade_left (Some (upgrades.Open opens.Version)) m before has have = one_has m has
upgrade_left (Some (upgrades.Open opens.Damaged)) m before has have = one_has m has
upgrade_left (Some upgrades.AlreadyNew) m before has have = one_has m has

raised_has : (m : Store) (number : ℕ) → HasAllBytes m → HasAllBytes (raised_to m number)
raised_has m number has = has

raised_or : (m : Store) (number : ℕ) (before : List Store) → HasAllBytes m → HaveAllBytes before
    → HaveAllBytes (raised_to m number ∷ before)
raised_or m number before has have s (inl is) = subst HasAllBytes (sym is) (raised_has m number has)
raised_or m number before has have s (inr among) = have s among

raise_left : (reported : Option RaiseError) (number : ℕ) (m : Store) (before : List Store) → HasAllBytes m
    → HaveAllBytes before → HaveAllBytes (left_by_raise reported number m before)
raise_left None number m before has have = one_has (raised_to m number) (raised_has m number has)
raise_left (Some (raises.Open (opens.Stop DiskFault))) number m before has have = raised_or m number before has have
raise_left (Some (raises.Open (opens.Stop NoMemory))) number m before has have = have
raise_left (Some (raises.Open opens.NotASpool)) number m before has have = have
raise_left (Some (raises.Open opens.Version)) number m before has have = have
raise_left (Some (raises.Open opens.Damaged)) number m before has have = have
raise_left (Some raises.TooLarge) number m before has have = have

work_left : {D : Type 0} (disk : Ghosts D) (n : ℕ) (given back : D) (before left : List Store) (work reported : Work)
    → IsWork disk n given back before left work reported → HaveAllBytes before → HaveAllBytes left
work_left disk n given back before left (Run run) (Run reported) is have =
    let has = have is.store is.opened.among in
    subst HaveAllBytes (sym is.passes.leaves)
    (left_by (beginning is.store (Some n)) has is.passes.past before have reported.fault)
work_left disk n given back before left (Upgrade error) (Upgrade reported) is have =
    subst HaveAllBytes (sym is.same) (upgrade_left reported is.store before (have is.store is.opened.among) have)
work_left disk n given back before left (Raise round) (Raise reported) is have =
    subst HaveAllBytes (sym is.leaves)
    (raise_left reported.fault round.number is.store before (have is.store is.opened.among) have)
work_left disk n given back before left (Run run) (Upgrade reported) is have = absurd is
work_left disk n given back before left (Run run) (Raise reported) is have = absurd is
work_left disk n given back before left (Upgrade error) (Run reported) is have = absurd is
work_left disk n given back before left (Upgrade error) (Raise reported) is have = absurd is
work_left disk n given back before left (Raise round) (Run reported) is have = absurd is
work_left disk n given back before left (Raise round) (Upgrade reported) is have = absurd is

pub round_left : {D C : Type 0} (disk : Ghosts D) (chosen : C → D → D → Type 0) (n : ℕ) (given back after : D)
    (before left next : List Store) (work reported : Work) (end : End C)
    → IsWork disk n given back before left work reported
    → IsEnd disk chosen end back after left next → HaveAllBytes before → HaveAllBytes next
round_left disk chosen n given back after before left next work reported (Crash how) is crash have =
    subst HaveAllBytes (sym crash.alone)
    (one_has crash.store (work_left disk n given back before left work reported is have crash.store crash.among))
round_left disk chosen n given back after before left next work reported Nothing is same have =
    subst HaveAllBytes (sym same.1) (work_left disk n given back before left work reported is have)
