use Rattle.std.proofs.Common.{◌⊎◌, inl, inr, ◌∙◌, arith, ⊎_elim}
use Rattle.spool_disk.proofs.Firm.{lasts_more, on_more}
use Rattle.spool_journal.specs.Image.{journal_pages, laid}
use Rattle.spool_journal.specs.Phases.{IsBefore, ReadsAs}
use Rattle.spool_pages.proofs.Laid.{changed_encodes, laid_out}
use Rattle.spool_pages.proofs.Resting.{rests_idle, rests_before, reads_is, settled_rests}
use Rattle.spool_pages.proofs.changing.change.Goals as goal

pub returns-clause-done : goal.returns-clause-done
returns-clause-done g c honest v v' size rests changes texts =
    on_more c.commit.result (c.commit.ensures.done honest (rests_idle size rests) c.requires.some)
    (λ settled. settled_rests (changes.others.blocks ∙ size) settled
    (changed_encodes size c.requires.area rests c.commit.ensures.ascends changes texts))

pub returns-clause-laid : goal.returns-clause-laid
returns-clause-laid g c honest v size rests =
    c.commit.ensures.done honest (rests_idle size rests) c.requires.some

pub returns-clause-texts : goal.returns-clause-texts
returns-clause-texts g c honest v size rests =
    on_more c.commit.result (c.commit.ensures.done honest (rests_idle size rests) c.requires.some) (λ settled p from.
    settled.same p (inr (omega (arith, from))) ∙ laid_out c.args.pages.now (g.D.Disk.current c.args.disk.now)
    (journal_pages c.args.layout.now) p c.requires.area (λ within. omega (arith, within.below, from)))

pub returns-clause-lasts : goal.returns-clause-lasts
returns-clause-lasts g c honest v v' size rests changes texts =
    lasts_more {P = λ image. IsBefore (journal_pages c.args.layout.now) (g.D.Disk.current c.args.disk.now)
    (g.D.Disk.unsynced c.args.disk.now) image ⊎ ReadsAs (journal_pages c.args.layout.now) image
    (laid c.args.pages.now (g.D.Disk.current c.args.disk.now))}
    (c.commit.ensures.lasts honest (rests_idle size rests)) (λ image either. ⊎_elim
    (λ before. inl (rests_before image size rests before))
    (λ reads. inr (reads_is image (laid c.args.pages.now (g.D.Disk.current c.args.disk.now)) v'
    (changes.others.blocks ∙ size) reads
    (changed_encodes size c.requires.area rests c.commit.ensures.ascends changes texts)))
    either)
