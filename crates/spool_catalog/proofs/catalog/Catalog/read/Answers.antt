use Rattle.std.proofs.Common.{◌≡◌, ◌∙◌, ◌-◌, Option, ℕ, ap, length, min, refl, subst, sym}
use Rattle.spool_disk.proofs.Gave.{grew_none}
use Rattle.upload_rules.specs.Answers.{IsLate}
use Rattle.upload_rules.specs.declared.errors.UploadRefusal.{UploadRefusal}
use Rattle.upload_rules.specs.Store.{text_of, upload_of}
use Rattle.spool_catalog.specs.Holding.{Holding}
use Rattle.spool_catalog.proofs.Answered.{same_read, text_there}
use Rattle.spool_catalog.proofs.catalog.Catalog.read.Goals as goal

pub returns-in-Ok-clause-count : goal.returns-in-Ok-clause-count
returns-in-Ok-clause-count g c m v catalog shows =
    let recorded = c.in-Some.ensures.recorded v m catalog shows in
    let text = text_of m.indexes recorded.upload in
    let there = text_there m (upload_of m c.args.number) recorded.upload text recorded.there refl in (
      there.0,
      c.in-Ok.ensures.count
          ∙ ap (λ (n : ℕ). min (n - c.args.at) (length c.args.buf.now)) (recorded.valid.represents.text_len ∙ ap length
          (sym there.1)),
    )

pub returns-in-Err-clause-count : goal.returns-in-Err-clause-count
returns-in-Err-clause-count g c m v catalog shows =
    let recorded = c.in-Some.ensures.recorded v m catalog shows in
    let there = text_there m (upload_of m c.args.number) recorded.upload (text_of m.indexes recorded.upload)
    recorded.there refl in
    subst (λ (o : Option UploadRefusal). IsLate o) (sym there.0) tt

pub returns-in-Ok-clause-answer : goal.returns-in-Ok-clause-answer
returns-in-Ok-clause-answer g c honest m v catalog shows encodes =
    let recorded = c.in-Some.ensures.recorded v m catalog shows in
    let text = c.in-Some.ensures.text v m (g.D.Disk.current c.args.disk.now) catalog shows encodes recorded.upload
    recorded.there in
    let there = text_there m (upload_of m c.args.number) recorded.upload _ recorded.there text in
    let current = g.D.Disk.current c.args.disk.now in
    let layout : c.self.inside.layout ≡ c.args.self.now.layout = ap (λ (k : Holding). k.layout) c.self.view_is in
    let read = same_read _ c.args.at c.in-Ok.count c.args.buf.now c.read_text.new.buf (c.in-Ok.ensures.read honest) in (
      there.0,
      rw (← there.1) at (rw layout at read),
    )

pub returns-in-Err-clause-answer : goal.returns-in-Err-clause-answer
returns-in-Err-clause-answer g c honest m v catalog shows encodes =
    let recorded = c.in-Some.ensures.recorded v m catalog shows in
    let text = c.in-Some.ensures.text v m (g.D.Disk.current c.args.disk.now) catalog shows encodes recorded.upload
    recorded.there in
    let there = text_there m (upload_of m c.args.number) recorded.upload _ recorded.there text in
    subst (λ (o : Option UploadRefusal). IsLate o) (sym there.0) tt

pub returns-in_default-clause-reads : goal.returns-in_default-clause-reads
returns-in_default-clause-reads g c = grew_none refl
