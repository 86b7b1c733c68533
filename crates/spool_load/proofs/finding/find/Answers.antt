use Rattle.std.proofs.Common.{◌≡◌, inl, inr, ℕ, Result, Ok, Err, IfOk, IfErr, MatchOption, None, Option, Some, sym}
use Rattle.std.proofs.Common.{arith, subst, ⊎_elim}
use Rattle.spool_disk.proofs.Gave.{once_more}
use Rattle.std.proofs.lemmas.Result.{err_from_is_err_and}
use Rattle.spool_disk.proofs.Firm.{lasts_on, lasts_more}
use Rattle.spool_journal.specs.Image.{journal_pages, overlaid}
use Rattle.spool_journal.specs.Phases.{ReadsAs, Settled}
use Rattle.spool_pages.specs.View.{IsViewOf}
use Rattle.spool_load.proofs.Looks.{if_ok_both}
use Rattle.spool_load.proofs.Refused.{found_reason, encodes_one}
use Rattle.spool_load.specs.Loaded.{FoundOn}
use Rattle.spool_load.specs.Reads.{EncodesBlocks}
use Rattle.spool_catalog.specs.declared.error.OpenFault.{OpenFault}
use Rattle.spool_load.specs.Refusals.{IsNoSpool, NotFoundFor, RefusedAt}
use Rattle.spool_load.proofs.Opens.{gate_shut, same_function, view_encodes_blocks, preserves_image, preserves_on}
use Rattle.spool_load.proofs.ReadBys.{by_before, by_first, finds_by}
use Rattle.spool_load.proofs.finding.find.Goals as goal

encodes_there : (size : ℕ) (current : ℕ → ℕ) (decoded : Option ℕ) (n : ℕ) → decoded ≡ Some n
    → MatchOption decoded (IsNoSpool size current) (EncodesBlocks size current) → EncodesBlocks size current n
encodes_there size current decoded n is shown = subst (λ o. MatchOption o (IsNoSpool size current)
    (EncodesBlocks size current)) is shown

none_there : (size : ℕ) (current : ℕ → ℕ) (decoded : Option ℕ) → decoded ≡ None
    → MatchOption decoded (IsNoSpool size current) (EncodesBlocks size current) → IsNoSpool size current
none_there size current decoded is shown = subst (λ o. MatchOption o (IsNoSpool size current)
    (EncodesBlocks size current)) is shown

found_refused : {T : Type 0} (size : ℕ) (current : ℕ → ℕ) (n : ℕ) (r : Result T OpenFault)
    → EncodesBlocks size current n
    → IfErr r (RefusedAt n current) → IfErr r (NotFoundFor size current)
found_refused size current n (Ok t) encodes refused = tt
found_refused size current n (Err e) encodes refused = found_reason size current (overlaid current) n e encodes refused

pub returns-in-None-clause-decoded : goal.returns-in-None-clause-decoded
returns-in-None-clause-decoded g c honest v valid is room =
    none_there _ _ _ c.in-None.is (c.in_ok-layout.ensures.found _ (c.find_layout.ensures.gave honest)) v.blocks
    (view_encodes_blocks _ _ v valid is room)

pub returns-in-None-clause-refused : goal.returns-in-None-clause-refused
returns-in-None-clause-refused g c honest =
    none_there _ _ _ c.in-None.is (c.in_ok-layout.ensures.found _ (c.find_layout.ensures.gave honest))

pub returns-in-Some-clause-decoded : goal.returns-in-Some-clause-decoded
returns-in-Some-clause-decoded g c honest v valid is room =
    let preserves = c.find_layout.ensures.preserves honest in
    let current : g.D.Disk.current c.find_layout.new.disk ≡ g.D.Disk.current c.args.disk.now = same_function _ _
    preserves.same in
    let layout : c.in-Some.layout ≡ v.blocks =
    encodes_one _ _ _ _
    (encodes_there _ _ _ _ c.in-Some.is (c.in_ok-layout.ensures.found _ (c.find_layout.ensures.gave honest)))
    (view_encodes_blocks _ _ v valid is room) in
    c.restore.ensures.decoded (c.find_layout.ensures.honest.0 honest) v valid (sym layout)
    (subst (λ (image : ℕ → ℕ). IsViewOf image v) (sym current) is)

pub returns-in-Some-clause-lasts : goal.returns-in-Some-clause-lasts
returns-in-Some-clause-lasts g c honest v valid is room =
    let preserves = c.find_layout.ensures.preserves honest in
    let was = g.D.Disk.current c.args.disk.now in
    let current : g.D.Disk.current c.find_layout.new.disk ≡ was = same_function _ _ preserves.same in
    let layout : c.in-Some.layout ≡ v.blocks =
    encodes_one _ _ _ _
    (encodes_there _ _ _ _ c.in-Some.is (c.in_ok-layout.ensures.found _ (c.find_layout.ensures.gave honest)))
    (view_encodes_blocks _ _ v valid is room) in
    let first = lasts_more (c.find_layout.ensures.lasts honest) (λ image here. inl here) in
    let then = lasts_more (c.restore.ensures.lasts (c.find_layout.ensures.honest.0 honest)) (λ image one. ⊎_elim
    (λ here. inl (preserves_image preserves here))
    (λ reads. inr (subst (λ (n : ℕ). ReadsAs (journal_pages n) image (overlaid was)) layout
    (subst (λ (f : ℕ → ℕ). ReadsAs (journal_pages c.in-Some.layout) image (overlaid f)) current reads)))
    one) in
    lasts_on first then

pub returns-in-Some-clause-unwritten : goal.returns-in-Some-clause-unwritten
returns-in-Some-clause-unwritten g c honest none =
    let preserves = c.find_layout.ensures.preserves honest in
    let shut =
    gate_shut preserves
    (encodes_there _ _ _ _ c.in-Some.is (c.in_ok-layout.ensures.found _ (c.find_layout.ensures.gave honest))) none in
    lasts_on (c.find_layout.ensures.lasts honest)
    (lasts_more (c.restore.ensures.unwritten (c.find_layout.ensures.honest.0 honest) shut)
    (λ image here. preserves_image preserves here))

pub returns-in-Some-clause-same : goal.returns-in-Some-clause-same
returns-in-Some-clause-same g c honest none fine =
    let preserves = c.find_layout.ensures.preserves honest in
    let shut =
    gate_shut preserves
    (encodes_there _ _ _ _ c.in-Some.is (c.in_ok-layout.ensures.found _ (c.find_layout.ensures.gave honest))) none in
    preserves_on preserves (c.restore.ensures.same (c.find_layout.ensures.honest.0 honest) shut fine)

pub returns-in-Some-clause-refused : goal.returns-in-Some-clause-refused
returns-in-Some-clause-refused g c honest =
    let preserves = c.find_layout.ensures.preserves honest in
    let mid = c.find_layout.ensures.honest.0 honest in
    let layout = c.in-Some.layout in
    let was = g.D.Disk.current c.args.disk.now in
    let current : g.D.Disk.current c.find_layout.new.disk ≡ was = same_function _ _ preserves.same in
    found_refused (g.D.Disk.size c.args.disk.now) was layout c.restore.result
    (encodes_there _ _ _ _ c.in-Some.is (c.in_ok-layout.ensures.found _ (c.find_layout.ensures.gave honest)))
    (subst (λ (f : ℕ → ℕ). IfErr c.restore.result (RefusedAt layout f)) current (c.restore.ensures.refused mid))

pub returns-in-Some-clause-found : goal.returns-in-Some-clause-found
returns-in-Some-clause-found g c honest =
    let preserves = c.find_layout.ensures.preserves honest in
    let mid = c.find_layout.ensures.honest.0 honest in
    let layout = c.in-Some.layout in
    let current : g.D.Disk.current c.find_layout.new.disk ≡ g.D.Disk.current c.args.disk.now = same_function _ _
    preserves.same in
    let size = c.find_layout.ensures.size in
    let found =
    subst (λ (k : ℕ). EncodesBlocks k (g.D.Disk.current c.args.disk.now) layout) (sym size)
    (encodes_there _ _ _ _ c.in-Some.is (c.in_ok-layout.ensures.found _ (c.find_layout.ensures.gave honest))) in
    let there =
    c.restore.ensures.found mid
    (subst (λ (f : ℕ → ℕ). EncodesBlocks (g.D.Disk.size c.find_layout.new.disk) f layout) (sym current) found) in
    let sized =
    subst (λ (k : ℕ). IfOk c.restore.result (FoundOn k (g.D.Disk.current c.find_layout.new.disk))) size there in
    subst (λ (f : ℕ → ℕ). IfOk c.restore.result (FoundOn (g.D.Disk.size c.args.disk.now) f)) current sized

pub returns-in-Some-clause-settled : goal.returns-in-Some-clause-settled
returns-in-Some-clause-settled g c honest =
    let preserves = c.find_layout.ensures.preserves honest in
    let current : g.D.Disk.current c.find_layout.new.disk ≡ g.D.Disk.current c.args.disk.now = same_function _ _
    preserves.same in
    let now = g.D.Disk.current c.restore.new.disk in
    let unsynced = g.D.Disk.unsynced c.restore.new.disk in
    let there =
    subst (λ (f : ℕ → ℕ). IfOk c.restore.result
    (λ catalog. Settled (journal_pages c.in-Some.layout) (overlaid f) now unsynced)) current
    (c.restore.ensures.settled (c.find_layout.ensures.honest.0 honest)) in
    if_ok_both c.restore.result
    (λ catalog same settled. subst
    (λ (n : ℕ). Settled (journal_pages n) (overlaid (g.D.Disk.current c.args.disk.now)) now unsynced)
    (sym same) settled)
    c.restore.ensures.layout there

pub returns-in_err-layout-clause-given : goal.returns-in_err-layout-clause-given
returns-in_err-layout-clause-given g c =
    let p = err_from_is_err_and c.from_residual.result c.from_residual.ensures.1 in
    by_first (once_more (λ p of. tt) c.find_layout.ensures.once)
    (λ before after early. rw (p.1, p.2) (record { answer = tt; finds = λ v valid encodes_by. tt }))

pub returns-in-None-clause-given : goal.returns-in-None-clause-given
returns-in-None-clause-given g c =
    by_first (once_more (λ p of. tt) c.find_layout.ensures.once) (λ before after early.
    let none = none_there _ _ _ c.in-None.is (c.in_ok-layout.ensures.found before early) in
    record { answer = none; finds = λ v valid encodes_by. absurd (none v.blocks encodes_by.begins) })

pub returns-in-Some-clause-given : goal.returns-in-Some-clause-given
returns-in-Some-clause-given g c =
    by_before c.find_layout.ensures.once c.restore.ensures.given (λ p is also. omega (arith, is.1, also.0))
    (λ before after early is.
    finds_by _ before after c.in-Some.layout
    (encodes_there _ _ _ _ c.in-Some.is (c.in_ok-layout.ensures.found before early)) c.restore.result
    c.restore.ensures.layout is)
