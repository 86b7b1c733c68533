use Rattle.std.proofs.Common.{◌≡◌, ◌∙◌, ◌+◌, ◌*◌, ℕ, Result, Err, IfErr, IfOk, refl, sym, subst, rules, arith}
use Rattle.std.proofs.lemmas.Result.{err_from_is_err_and}
use Rattle.spool_journal.specs.declared.TheConstants.{PAGE}
use Rattle.spool_journal.specs.Image.{journal_pages, overlaid, InForm, count, journal_number}
use Rattle.spool_journal.specs.Phases.{Settled}
use Rattle.spool_journal.specs.declared.error.RecoverError.{RecoverError}
use Rattle.spool_journal.specs.declared.error.RecoverError.TheVariants as recover
use Rattle.spool_catalog.specs.Faults.{open_fault_of}
use Rattle.spool_catalog.specs.Loads.{LoadsAs}
use Rattle.spool_catalog.specs.declared.error.OpenFault.{OpenFault}
use Rattle.spool_load.proofs.Opens.{if_ok, read_lasts, read_same, read_settled, read_unwritten, settled_still}
use Rattle.spool_load.proofs.Opens.{settled_encodes}
use Rattle.spool_load.proofs.Opens.{still_as}
use Rattle.spool_load.specs.Refusals.{RefusedAt, RefusedHere}
use Rattle.spool_disk.specs.Given.{Between, ReadsGave}
use Rattle.spool_disk.proofs.Gave.{once_more}
use Rattle.spool_load.specs.ReadBy.{IsOfFound, PartsBy}
use Rattle.spool_load.specs.Loaded.{FoundOn, IsFoundOf, RestoresBy}
use Rattle.spool_load.specs.declared.finding.Found.{Found}
use Rattle.spool_pages.specs.View.{AreAt, state_page, state_place}
use Rattle.spool_load.proofs.Refused.{restored, restored_layout, restored_view, unrestored}
use Rattle.spool_load.proofs.ReadBys.{by_both, by_first, of_found, restored_by}
use Rattle.spool_load.proofs.finding.restore.Goals as goal

recover_handed : {T : Type 0} (P : T → Type 0) (e : RecoverError) → (e ≡ recover.Damaged → ⊥)
    → LoadsAs {T = T} (Err (open_fault_of e)) P
recover_handed P recover.DiskFault not = tt
recover_handed P recover.Damaged not = absurd (not refl)

recover_reason : (n : ℕ) (before after : ℕ → ℕ) (e : RecoverError)
    → (e ≡ recover.Damaged
    → (before PAGE ≡ 165) × (InForm (journal_pages n) (count before) (journal_number before) → ⊥))
    → RefusedHere n before after (open_fault_of e)
recover_reason n before after recover.DiskFault bad = tt
recover_reason n before after recover.Damaged bad =
    let why = bad refl in
    λ journal. why.1 (journal why.0)

err_of : (e d : RecoverError) → e ≡ d → ◌≡◌ {A = Result (Unit {0}) RecoverError} (Err e) (Err d)
err_of e d same = cc

pub returns-in_err-recover-clause-decoded : goal.returns-in_err-recover-clause-decoded
returns-in_err-recover-clause-decoded g c honest v valid blocks is =
    let J : ℕ → Type 0 =
    λ n. g.D.Disk.current c.args.disk.now PAGE ≡ 165
    → InForm (journal_pages n) (count (g.D.Disk.current c.args.disk.now))
    (journal_number (g.D.Disk.current c.args.disk.now)) in
    let form = subst J blocks is.form in
    let valid_head : c.in_err-recover.field-0.0 ≡ recover.Damaged → ⊥ =
    λ e. (let bad = c.recover.ensures.damaged honest (c.in_err-recover.was ∙ err_of _ _ e) in bad.1 (form bad.0)) in
    let handed = recover_handed (IsFoundOf v) c.in_err-recover.field-0.0 valid_head in
    search rules

pub returns-in_err-recover-clause-refused : goal.returns-in_err-recover-clause-refused
returns-in_err-recover-clause-refused g c honest =
    let shown =
    recover_reason c.args.layout (g.D.Disk.current c.args.disk.now) (overlaid (g.D.Disk.current c.args.disk.now))
    c.in_err-recover.field-0.0
    (λ e. c.recover.ensures.damaged honest (c.in_err-recover.was ∙ err_of _ _ e)) in
    search rules

pub returns-clause-layout : goal.returns-clause-layout
returns-clause-layout g c =
    subst (λ (r : Result Found OpenFault). IfOk r (λ found. found.layout ≡ c.args.layout)) (sym c.ok_or.ensures.value)
    (restored_layout c.args.layout c.in_ok-load_state.field-0 c.in_ok-load_state.ensures.layout)

pub returns-clause-decoded : goal.returns-clause-decoded
returns-clause-decoded g c honest v valid blocks is =
    let settled = c.in_ok-recover.ensures.settled honest in
    let J : ℕ → Type 0 =
    λ n. Settled (journal_pages n) (overlaid (g.D.Disk.current c.args.disk.now)) (g.D.Disk.current c.recover.new.disk)
    (g.D.Disk.unsynced c.recover.new.disk) in
    let there = (settled_encodes v (subst J (sym blocks) settled) is.encodes).state in
    let state : AreAt (g.D.Disk.current c.recover.new.disk) (state_place c.args.layout) PAGE
    (state_page v.version v.next) =
    subst (λ (n : ℕ). AreAt (g.D.Disk.current c.recover.new.disk) (state_place n) PAGE (state_page v.version v.next))
    blocks there in
    subst (λ (r : Result Found OpenFault). LoadsAs r (IsFoundOf v)) (sym c.ok_or.ensures.value)
    (restored_view v c.args.layout c.in_ok-load_state.field-0 (sym blocks)
    (c.in_ok-load_state.ensures.decoded _
    (c.load_state.ensures.reads.gave (c.recover.ensures.honest.0 honest) _ (settled_still settled)) v.version v.next
    (omega (arith, valid.next_most)) state)
    c.in_ok-load_state.ensures.layout)

pub returns-clause-found : goal.returns-clause-found
returns-clause-found g c honest encodes =
    let settled = c.in_ok-recover.ensures.settled honest in
    let was = g.D.Disk.current c.args.disk.now in
    let now = g.D.Disk.current c.recover.new.disk in
    let size = g.D.Disk.size c.args.disk.now in
    subst (λ (r : Result Found OpenFault). IfOk r (FoundOn size was)) (sym c.ok_or.ensures.value)
    (restored c.args.layout was now (g.D.Disk.unsynced c.recover.new.disk) settled (c.in_ok-recover.ensures.form honest)
    size
    c.in_ok-load_state.field-0 c.in_ok-load_state.ensures.layout encodes
    (c.in_ok-load_state.ensures.found now
    (c.load_state.ensures.reads.gave (c.recover.ensures.honest.0 honest) now (settled_still settled))))

pub returns-clause-refused : goal.returns-clause-refused
returns-clause-refused g c honest =
    let settled = c.in_ok-recover.ensures.settled honest in
    let was = g.D.Disk.current c.args.disk.now in
    let now = g.D.Disk.current c.recover.new.disk in
    subst (λ (r : Result Found OpenFault). IfErr r (RefusedAt c.args.layout was)) (sym c.ok_or.ensures.value)
    (unrestored c.args.layout was now (g.D.Disk.unsynced c.recover.new.disk) settled
    (c.in_ok-recover.ensures.form honest)
    c.in_ok-load_state.field-0
    (c.in_ok-load_state.ensures.found now
    (c.load_state.ensures.reads.gave (c.recover.ensures.honest.0 honest) now (settled_still settled))))

pub returns-clause-settled : goal.returns-clause-settled
returns-clause-settled g c honest =
    if_ok c.ok_or.result
    (read_settled g.D.Disk c.args.disk.now c.recover.new.disk c.load_state.new.disk c.args.layout
    (c.recover.ensures.honest.0 honest) (c.in_ok-recover.ensures.settled honest) c.load_state.ensures.reads)

pub returns-clause-lasts : goal.returns-clause-lasts
returns-clause-lasts g c honest =
    read_lasts g.D.Disk c.args.disk.now c.recover.new.disk c.load_state.new.disk c.args.layout
    (c.recover.ensures.honest.0 honest) (c.in_ok-recover.ensures.settled honest) c.load_state.ensures.reads
    c.args.layout refl (c.recover.ensures.lasts honest)

pub returns-clause-unwritten : goal.returns-clause-unwritten
returns-clause-unwritten g c honest shut =
    let still = c.recover.ensures.same honest shut (λ e. absurd (let was = c.in_ok-recover.was in cc)) in
    read_unwritten g.D.Disk c.args.disk.now c.recover.new.disk c.load_state.new.disk c.args.layout
    (c.recover.ensures.honest.0 honest) (c.in_ok-recover.ensures.settled honest) c.load_state.ensures.reads
    (still_as still) (c.recover.ensures.unwritten honest shut)

pub returns-clause-same : goal.returns-clause-same
returns-clause-same g c honest shut fine =
    let still = c.recover.ensures.same honest shut (λ e. absurd (let was = c.in_ok-recover.was in cc)) in
    read_same g.D.Disk c.args.disk.now c.recover.new.disk c.load_state.new.disk c.args.layout
    (c.recover.ensures.honest.0 honest) (c.in_ok-recover.ensures.settled honest) c.load_state.ensures.reads
    (still_as still)

pub returns-in_err-load_state-clause-lasts : goal.returns-in_err-load_state-clause-lasts
returns-in_err-load_state-clause-lasts g c honest =
    read_lasts g.D.Disk c.args.disk.now c.recover.new.disk c.load_state.new.disk c.args.layout
    (c.recover.ensures.honest.0 honest) (c.in_ok-recover.ensures.settled honest) c.load_state.ensures.reads
    c.args.layout refl (c.recover.ensures.lasts honest)

pub returns-in_err-load_state-clause-unwritten : goal.returns-in_err-load_state-clause-unwritten
returns-in_err-load_state-clause-unwritten g c honest shut =
    let still = c.recover.ensures.same honest shut (λ e. absurd (let was = c.in_ok-recover.was in cc)) in
    read_unwritten g.D.Disk c.args.disk.now c.recover.new.disk c.load_state.new.disk c.args.layout
    (c.recover.ensures.honest.0 honest) (c.in_ok-recover.ensures.settled honest) c.load_state.ensures.reads
    (still_as still) (c.recover.ensures.unwritten honest shut)

-- On any disk.

pub returns-in_err-recover-clause-given : goal.returns-in_err-recover-clause-given
returns-in_err-recover-clause-given g c =
    let bad =
    λ (before : ℕ → ℕ) (early : ReadsGave before (g.D.Disk.reads c.args.disk.now) (g.D.Disk.reads c.recover.new.disk))
    (e : c.in_err-recover.field-0.0 ≡ recover.Damaged).
    c.recover.ensures.gave_damaged before early (c.in_err-recover.was ∙ err_of _ _ e) in
    let p = err_from_is_err_and c.from_residual.result c.from_residual.ensures.1 in
    by_first c.recover.ensures.reads (λ before after early. rw (p.1, p.2) (record {
      answer = recover_reason c.args.layout before after c.in_err-recover.field-0.0 (bad before early);
      restores =
          λ v valid blocks journal encodes. recover_handed (IsFoundOf v) c.in_err-recover.field-0.0
          (λ e. let why = bad before early e in why.1 (journal why.0));
    }))

pub returns-in_err-load_state-clause-given : goal.returns-in_err-load_state-clause-given
returns-in_err-load_state-clause-given g c =
    let p =
    err_from_is_err_and c.from_residual-in_err-load_state.result c.from_residual-in_err-load_state.ensures.1 in
    rw (p.1, p.2) (by_both c.recover.ensures.reads (once_more (λ p of. tt) c.load_state.ensures.once)
    (λ before after early late. record { answer = tt; restores = λ v valid blocks journal encodes. tt }))

pub returns-clause-given : goal.returns-clause-given
returns-clause-given g c =
    let n = c.args.layout in
    let decoded = c.in_ok-load_state.field-0 in
    subst (λ (r : Result Found OpenFault). PartsBy (Between PAGE (PAGE * (3 + journal_pages n))) (IsOfFound r)
    (g.D.Disk.reads c.args.disk.now) (g.D.Disk.reads c.load_state.new.disk) (RestoresBy n r))
    (sym c.ok_or.ensures.value)
    (by_both c.recover.ensures.reads
    (once_more (of_found n decoded c.in_ok-load_state.ensures.layout) c.load_state.ensures.once)
    (λ before after early late. record {
      answer =
          restored_by 0 before after n decoded (c.in_ok-recover.ensures.gave_form before early)
          (c.in_ok-load_state.ensures.found after late);
      restores =
          λ v valid blocks journal encodes. restored_view v n decoded (sym blocks)
          (c.in_ok-load_state.ensures.decoded after late v.version v.next (omega (arith, valid.next_most))
          (subst (λ (k : ℕ). AreAt after (state_place k) PAGE (state_page v.version v.next)) blocks encodes.state))
          c.in_ok-load_state.ensures.layout;
    }))
