use Rattle.std.proofs.Common.{Bool, true, ◌≡◌, subst}
use Rattle.upload_rules.specs.Calls.{create_outcome, create_refusal}
use Rattle.spool_kept.specs.Stored.{Stored}
use Rattle.spool_image.proofs.LeftImages.{limits_on}
use Rattle.spool_image.proofs.RepresentsOn.{created_answers, on_known, represents_created, represents_same}
use Rattle.spool_image.proofs.spool.SpoolUploads.create.Goals as goal

pub returns-clause-answer : goal.returns-clause-answer
returns-clause-answer g c sure w s =
    let disk = c.args.self.now.disk in
    let disk' = c.create.new.disk in
    let catalog = c.args.self.now.catalog in
    let catalog' = c.create.new.catalog in
    let drafts = c.args.self.now.drafts.items in
    let now = c.create.ensures in
    created_answers (create_refusal w c.args.new) c.create.result w.store.next
    (Stored sure g.D.Disk disk' catalog' w.store)
    (on_known _ c.create.result (λ (known : sure ≡ true).
    now.texts w.store (subst (λ (b : Bool). Stored b g.D.Disk disk catalog w.store) known s.stored)))
    (λ texts stored. represents_created g.D.Disk disk disk' catalog catalog' drafts w c.args.new s now.layout now.blocks
    (λ slot number used. record {
      used = used.used;
      there = now.slots slot used.used used.there;
      is = used.is;
    }) texts stored)
    (λ e. represents_same g.D.Disk disk disk' catalog catalog' drafts w s (now.unmade e))
    (λ f e. represents_same g.D.Disk disk disk' catalog catalog' drafts w s (now.refused f e))
    (now.answer sure w.store s.stored)

pub returns-clause-crash : goal.returns-clause-crash
returns-clause-crash g c w s =
    limits_on g.D.Disk c.args.self.now.disk c.create.new.disk c.create.ensures.honest c.create.ensures.size
    c.args.self.now.catalog.layout
    c.create.new.catalog.layout c.create.ensures.layout w.store (create_outcome w c.args.new)
    (c.create.ensures.crash w.store s.stored)
