use Rattle.std.proofs.Common.{◌≡◌, ◌∙◌, inl, inr, ap, arith, refl, subst, sym, ℕ, List, Err, None, set, Bool, true}
use Rattle.std.proofs.Common.{Option}
use Rattle.std.proofs.lemmas.Bool.{cases_lt}
use Rattle.spool_drafts.proofs.Effects.{only_then}
use Rattle.spool_drafts.specs.Drafts.{list_of}
use Rattle.spool_drafts.specs.Effect.{Effect, OnlyWrites}
use Rattle.spool_journal.specs.Image.{journal_pages}
use Rattle.spool_kept.specs.Committing.{PreservesDisk}
use Rattle.spool_disk.specs.declared.disk.Disk.{Ghosts}
use Rattle.upload_rules.specs.Calls.{commit_refusal, dropped}
use Rattle.upload_rules.specs.Store.{Store}
use Rattle.spool_kept.specs.Extending.{IsPending}
use Rattle.spool_catalog.specs.Holding.{Holding}
use Rattle.common.specs.declared.stop.Stop.{Stop}
use Rattle.spool_catalog.specs.declared.longer.Longer.{Longer}
use Rattle.spool_kept.proofs.commits.CommitFits.{fits_given, fits_handed}
use Rattle.spool_kept.proofs.commits.CommitRefusals.{late}
use Rattle.spool_kept.proofs.commits.CommitSpent as spent
use Rattle.spool_kept.proofs.committing.append_to.Goals as goal
use Rattle.spool_kept.proofs.drafts.DraftLonger.{put_on}
use Rattle.spool_disk.proofs.Firm.{lasts_more}

-- THE DRAFTS THAT ARE LEFT

pub returns-in-Err-clause-fits : goal.returns-in-Err-clause-fits
returns-in-Err-clause-fits g c drafts number fit here =
    fits_given c.ended.ensures.same fit (put_on number c.ended.new.draft here c.ended.ensures.effect.grasp)
    c.ended.ensures.reserved c.ended.ensures.placed _ c.give_back.new.blocks c.catalog.view_is c.give_back.ensures

pub returns-in-Err-NoMemory-clause-fits : goal.returns-in-Err-NoMemory-clause-fits
returns-in-Err-NoMemory-clause-fits g c drafts number fit here =
    let short = c.in-Err-NoMemory.is ∙ ap (λ (e : Stop). Err e) c.in-Err-NoMemory.field-0-is in
    fits_given c.ended.ensures.same fit (put_on number c.ended.new.draft here c.ended.ensures.effect.grasp)
    c.ended.ensures.reserved c.ended.ensures.placed _ c.give_back-in-Err-NoMemory.new.blocks
    (c.catalog-2.view_is ∙ (c.extend.ensures.unmade short).0) c.give_back-in-Err-NoMemory.ensures

pub returns-in-Ok-extend-clause-fits : goal.returns-in-Ok-extend-clause-fits
returns-in-Ok-extend-clause-fits g c drafts number fit here =
    let may = c.in-Ok.ensures.may in
    fits_handed c.ended.ensures.same fit (put_on number c.ended.new.draft here c.ended.ensures.effect.grasp)
    c.ended.ensures.reserved c.ended.ensures.placed c.extend.new.catalog c.in-Ok.end.0 may.used c.list.result.now
    c.list.ensures.blocks may.there (c.in-Ok.ensures.more may.used may.there)
    (c.in-Ok-extend.ensures.blocks (λ e. cc)) (c.in-Ok-extend.ensures.longer (λ e. cc) may.used may.there)

pub returns-in-Err-DiskFault-clause-fits : goal.returns-in-Err-DiskFault-clause-fits
returns-in-Err-DiskFault-clause-fits g c drafts number fit here =
    let may = c.in-Ok.ensures.may in
    let fault : c.extend.result ≡ Err Stop.DiskFault = c.in-Err-DiskFault.is
    ∙ ap (λ (e : Stop). Err e) c.in-Err-DiskFault.field-0-is in
    fits_handed c.ended.ensures.same fit (put_on number c.ended.new.draft here c.ended.ensures.effect.grasp)
    c.ended.ensures.reserved c.ended.ensures.placed c.extend.new.catalog c.in-Ok.end.0 may.used c.list.result.now
    c.list.ensures.blocks may.there (c.in-Ok.ensures.more may.used may.there)
    (c.extend.ensures.blocks (λ e. cc)) (c.extend.ensures.longer (λ e. cc) may.used may.there)

pub returns-in-Ok-extend-clause-counts : goal.returns-in-Ok-extend-clause-counts
returns-in-Ok-extend-clause-counts g c =
    let before = c.in-Ok.ensures.counts in
    let after = c.in-Ok-extend.ensures.counts in
    record {
      later = omega (arith, before.later, after.later);
      counted = λ failed. absurd (cc);
      nothing_else = λ more. elim (cases_lt (g.D.Disk.failures c.args.disk.now) (g.D.Disk.failures c.ended.new.disk)) [
        | inl less ↦ let fails = before.nothing_else less in absurd (cc)
        | inr same ↦ let fails = after.nothing_else (omega (arith, more, same)) in absurd (cc)
      ];
    }

pub returns-in-Err-DiskFault-clause-counts : goal.returns-in-Err-DiskFault-clause-counts
returns-in-Err-DiskFault-clause-counts g c =
    let fault : c.extend.result ≡ Err Stop.DiskFault = c.in-Err-DiskFault.is
    ∙ ap (λ (e : Stop). Err e) c.in-Err-DiskFault.field-0-is in
    let before = c.ended.ensures.counts in
    let after = c.extend.ensures.counts in
    record {
      later = omega (arith, before.later, after.later);
      counted = λ failed. elim (after.counted fault) [
        | inl more ↦ inl (omega (arith, more, before.later))
        | inr most ↦ elim (cases_lt (g.D.Disk.failures c.args.disk.now) (g.D.Disk.failures c.ended.new.disk)) [
          | inl more ↦ inl (omega (arith, more, after.later))
          | inr same ↦ inr (omega (arith, most, same))
        ]
      ];
      nothing_else = λ more. refl;
    }

-- WHAT A CRASH MAY LEAVE

pending_on : {D : Type 0} {sure : Bool} {disk : Ghosts D} {d : D} {h : Holding} {m : Store} {n : ℕ}
    {declare : Option ℕ} {bytes : List ℕ} {longer : Longer} {more more' last last' : List ℕ} → more' ≡ more
    → last' ≡ last → IsPending sure disk d h m n declare bytes longer more last
    → IsPending sure disk d h m n declare bytes longer more' last'
pending_on list bytes_last is = rw (list, bytes_last) is

pub returns-in-Err-clause-crash : goal.returns-in-Err-clause-crash
returns-in-Err-clause-crash g c drafts number w p is =
    lasts_more (c.ended.ensures.quiet drafts number w p is) (λ image shows. inl shows)

pub returns-in-Err-clause-unmade : goal.returns-in-Err-clause-unmade
returns-in-Err-clause-unmade g c drafts number w p is short = c.ended.ensures.quiet drafts number w p is

pub returns-in-Err-NoMemory-clause-unmade : goal.returns-in-Err-NoMemory-clause-unmade
returns-in-Err-NoMemory-clause-unmade g c drafts number w p is short =
    let unmade = c.extend.ensures.unmade (c.in-Err-NoMemory.is
    ∙ ap (λ (e : Stop). Err e) c.in-Err-NoMemory.field-0-is) in
    rw unmade.1 (c.ended.ensures.quiet drafts number w p is)

pub returns-in-Err-NoMemory-clause-crash : goal.returns-in-Err-NoMemory-clause-crash
returns-in-Err-NoMemory-clause-crash g c drafts number w p is =
    let unmade = c.extend.ensures.unmade (c.in-Err-NoMemory.is
    ∙ ap (λ (e : Stop). Err e) c.in-Err-NoMemory.field-0-is) in
    rw unmade.1 (lasts_more (c.ended.ensures.quiet drafts number w p is) (λ image shows. inl shows))

pub returns-in-Ok-extend-clause-crash : goal.returns-in-Ok-extend-clause-crash
returns-in-Ok-extend-clause-crash g c drafts number w p is =
    let answer = c.in-Ok.ensures.answer true drafts number w p is in
    spent.crash_then w number p answer.0 is.changes (c.ended.ensures.quiet drafts number w p is)
    (ap (λ (h : Holding). h.layout) c.ended.ensures.same.same) (c.extend.ensures.crash w.store p.number p.declare p.body
    (pending_on c.list.ensures.blocks c.deref.ensures.value answer.1.1))

pub returns-in-Err-DiskFault-clause-crash : goal.returns-in-Err-DiskFault-clause-crash
returns-in-Err-DiskFault-clause-crash g c drafts number w p is =
    let answer = c.in-Ok.ensures.answer true drafts number w p is in
    spent.crash_then w number p answer.0 is.changes (c.ended.ensures.quiet drafts number w p is)
    (ap (λ (h : Holding). h.layout) c.ended.ensures.same.same) (c.extend.ensures.crash w.store p.number p.declare p.body
    (pending_on c.list.ensures.blocks c.deref.ensures.value answer.1.1))

-- THE ANSWER

pub returns-in-Err-clause-answer : goal.returns-in-Err-clause-answer
returns-in-Err-clause-answer g c sure drafts number w p is =
    spent.also_refused (commit_refusal w number p) c.in-Err.error _ _ _ _
    (c.in-Err.ensures.answer sure drafts number w p is)
    (spent.represents_dropped c.ended.ensures.same c.ended.new.draft is c.ended.ensures.effect c.ended.ensures.reserved
    c.ended.ensures.placed c.catalog.view_is c.give_back.ensures (c.ended.ensures.stored sure drafts number w p is))

pub returns-in-Err-NoMemory-clause-answer : goal.returns-in-Err-NoMemory-clause-answer
returns-in-Err-NoMemory-clause-answer g c sure drafts number w p is =
    let unmade = c.extend.ensures.unmade (c.in-Err-NoMemory.is
    ∙ ap (λ (e : Stop). Err e) c.in-Err-NoMemory.field-0-is) in (
      late w number p is.allowed,
      spent.on_disk g.D.Disk c.ended.new.disk c.extend.new.disk _ (set drafts number None) (dropped w number) unmade.1
          (spent.represents_dropped c.ended.ensures.same c.ended.new.draft is c.ended.ensures.effect
          c.ended.ensures.reserved c.ended.ensures.placed (c.catalog-2.view_is ∙ unmade.0)
          c.give_back-in-Err-NoMemory.ensures (c.ended.ensures.stored sure drafts number w p is)),
    )

pub returns-in-Ok-extend-clause-answer : goal.returns-in-Ok-extend-clause-answer
returns-in-Ok-extend-clause-answer g c sure drafts number w p is =
    let answer = c.in-Ok.ensures.answer sure drafts number w p is in
    let may = c.in-Ok.ensures.may in
    let list = c.list.ensures.blocks in
    let pending = pending_on list c.deref.ensures.value answer.1.1 in
    let wrote = rw list at (c.in-Ok-extend.ensures.written sure w.store p.number p.declare p.body pending) in
    let effect = c.ended.ensures.effect in
    let only = subst (λ (n : ℕ). g.D.Disk.honest c.ended.new.disk → OnlyWrites g.D.Disk (journal_pages n)
    (list_of c.ended.new.draft) c.ended.new.disk wrote.mid)
    (ap (λ (h : Holding). h.layout) c.ended.ensures.same.same) wrote.only in
    let effect' : Effect g.D.Disk (journal_pages c.args.catalog.now.layout) (list_of c.args.draft)
    (list_of c.ended.new.draft) c.args.disk.now wrote.mid c.args.catalog.now.blocks c.ended.new.catalog.blocks =
    record {
      own = effect.own;
      grasp = effect.grasp;
      writes = λ honest. only_then effect.grasp (effect.writes honest) (only (c.ended.ensures.honest.0 honest));
    } in
    let hands = rw list at (c.in-Ok-extend.ensures.blocks (λ e. cc)) in
    let longer = rw list at (c.in-Ok-extend.ensures.longer (λ e. cc) may.used may.there) in (
      answer.0,
      (
        answer.1.0,
        spent.represents_committed c.ended.ensures.same c.ended.new.draft is effect' c.ended.ensures.reserved
            c.ended.ensures.placed wrote.append longer hands wrote.texts
            (c.in-Ok-extend.ensures.answer sure w.store p.number p.declare p.body pending),
      ),
    )

pub returns-in-Err-DiskFault-clause-answer : goal.returns-in-Err-DiskFault-clause-answer
returns-in-Err-DiskFault-clause-answer g c sure drafts number w p is = late w number p is.allowed

-- NOTHING IS WRITTEN

pub returns-in-Err-clause-unwritten : goal.returns-in-Err-clause-unwritten
returns-in-Err-clause-unwritten g c honest short = c.ended.ensures.only honest

pub returns-in-Err-NoMemory-clause-unwritten : goal.returns-in-Err-NoMemory-clause-unwritten
returns-in-Err-NoMemory-clause-unwritten g c honest short =
    let unmade = c.extend.ensures.unmade (c.in-Err-NoMemory.is
    ∙ ap (λ (e : Stop). Err e) c.in-Err-NoMemory.field-0-is) in
    subst (PreservesDisk g.D.Disk c.args.disk.now) (sym unmade.1) (c.ended.ensures.only honest)
