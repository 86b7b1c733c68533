use Rattle.spool_image.proofs.LeftImages.{quiet_read}
use Rattle.upload_rules.specs.Reading.{no_such}
use Rattle.upload_rules.specs.Store.{upload_of}
use Rattle.spool_pages.proofs.Resting.{rests_encodes}
use Rattle.spool_image.proofs.AnswersMore.{answers_known}
use Rattle.spool_image.proofs.RepresentsOn.{represents_read}
use Rattle.spool_image.proofs.spool.SpoolUploads.read_text.Goals as goal

pub returns-clause-answer : goal.returns-clause-answer
returns-clause-answer g c sure w represents =
    let stored = represents.stored in
    let after = represents_read g.D.Disk c.args.self.now.disk c.read.new.disk c.args.self.now.catalog
    c.args.self.now.drafts.items w c.read.ensures.honest c.read.ensures.preserves represents in
    answers_known (no_such (upload_of w.store c.args.number)) c.read.result
    (λ n count read. (record { count = count; read = read }, after)) (λ _. after)
    (c.read.ensures.count w.store stored.view stored.has_view stored.shows)
    (λ known. c.read.ensures.answer (stored.honest known) w.store stored.view stored.has_view stored.shows
    (rests_encodes (stored.rests known)))

pub returns-clause-crash : goal.returns-clause-crash
returns-clause-crash g c =
    let disk = c.args.self.now.disk in
    quiet_read g.D.Disk disk c.read.new.disk c.read.ensures.honest c.read.ensures.size c.args.self.now.catalog.layout
    c.read.ensures.later (g.met.D.Disk.counts_now disk) c.read.ensures.lasts
