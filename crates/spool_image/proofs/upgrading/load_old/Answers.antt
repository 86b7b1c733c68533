use Rattle.std.proofs.Common.{◌≡◌, ◌∙◌, ℕ, Err, ap, refl, sym, subst, rules}
use Rattle.std.proofs.lemmas.Result.{err_from_is_err_and}
use Rattle.spool_disk.proofs.Firm.{counts_on}
use Rattle.spool_journal.specs.Image.{journal_pages, overlaid}
use Rattle.spool_journal.specs.Phases.{Settled}
use Rattle.spool_catalog.specs.Catalog.{HasViewAlone}
use Rattle.spool_catalog.specs.declared.catalog.Catalog.{Catalog}
use Rattle.spool_pages.specs.View.{IsViewOf}
use Rattle.spool_pages.specs.declared.version.Version.TheVariants.{One, Two}
use Rattle.spool_load.specs.Faults.{load_fault}
use Rattle.spool_load.specs.Loaded.{IsFoundOf}
use Rattle.spool_load.proofs.Faults.{counts_reported, is_stop_error}
use Rattle.spool_load.proofs.Looks.{ok_no_fault}
use Rattle.spool_load.proofs.ReadBys.{by_after, by_same, loads_by, unread_by}
use Rattle.spool_load.proofs.Opens.{read_lasts, read_same, read_settled, read_unwritten, recovered_encodes}
use Rattle.spool_load.proofs.Opens.{settled_still}
use Rattle.spool_load.proofs.Refused.{found_back, opened_on, read_reason}
use Rattle.spool_image.proofs.Upgraded.{found_new, found_old, loads_upgrades, old_reason, settled_rests, upgrades_by}
use Rattle.spool_image.proofs.Upgraded.{unfound_disk_fault, unfound_upgrade}
use Rattle.spool_image.specs.declared.error.UpgradeError.TheVariants.{Open}
use Rattle.spool_image.proofs.upgrading.load_old.Goals as goal

pub returns-in_err-found-clause-decoded : goal.returns-in_err-found-clause-decoded
returns-in_err-found-clause-decoded g c honest v valid is room =
    let up =
    loads_upgrades Catalog v.version c.in_err-found.field-0.0 (IsFoundOf v)
    (c.in_err-found.ensures.decoded honest v valid is room) in
    search rules

pub returns-in_err-found-clause-refused : goal.returns-in_err-found-clause-refused
returns-in_err-found-clause-refused g c honest =
    let reason = unfound_upgrade _ _ _ c.in_err-found.field-0.0 (c.in_err-found.ensures.refused honest) in
    search rules

pub returns-in_err-found-clause-stays : goal.returns-in_err-found-clause-stays
returns-in_err-found-clause-stays g c honest v valid is room =
    let device =
    unfound_disk_fault _ _ c.in_err-found.field-0.0 (IsFoundOf v)
    (c.in_err-found.ensures.decoded honest v valid is room)
    (c.in_err-found.ensures.refused honest) in
    search rules

pub returns-in_err-catalog-clause-decoded : goal.returns-in_err-catalog-clause-decoded
returns-in_err-catalog-clause-decoded g c honest v valid is room =
    let settled = c.in_ok-found.ensures.settled honest in
    let found = c.in_ok-found.ensures.decoded honest v valid is room in
    let loads =
    is_stop_error c.in_err-catalog.field-0.0 (λ (catalog : Catalog). HasViewAlone catalog v)
    (c.in_err-catalog.ensures.decoded _
    (c.read.ensures.reads.gave (c.find.ensures.honest.0 honest) _ (settled_still settled)) v valid found
    (recovered_encodes c.in_ok-found.found.layout v found.blocks settled is)) in
    let up =
    loads_upgrades Catalog v.version (load_fault c.in_err-catalog.field-0.0)
    (λ (catalog : Catalog). HasViewAlone catalog v) loads in
    search rules

pub returns-in_err-catalog-clause-refused : goal.returns-in_err-catalog-clause-refused
returns-in_err-catalog-clause-refused g c honest =
    let settled = c.in_ok-found.ensures.settled honest in
    let on = c.in_ok-found.ensures.found honest in
    let mid = c.find.ensures.honest.0 honest in
    let reason =
    read_reason (g.D.Disk.size c.args.disk.now) (g.D.Disk.current c.args.disk.now) _ c.in_ok-found.found
    c.in_err-catalog.field-0.0 on
    (λ v valid encodes_by. let is : IsViewOf (g.D.Disk.current c.args.disk.now) v = record {
      form = encodes_by.journal;
      encodes = encodes_by.encodes;
    } in
    let found = c.in_ok-found.ensures.decoded honest v valid is encodes_by.begins.room in
    c.in_err-catalog.ensures.decoded _ (c.read.ensures.reads.gave mid _ (settled_still settled)) v valid found
    (recovered_encodes c.in_ok-found.found.layout v found.blocks settled is)) in
    let old =
    old_reason (g.D.Disk.size c.args.disk.now) (g.D.Disk.current c.args.disk.now) _
    (load_fault c.in_err-catalog.field-0.0)
    (λ e. found_old (g.D.Disk.size c.args.disk.now) (g.D.Disk.current c.args.disk.now) _ c.in_ok-found.found on
    (search rules)) reason in
    search rules

pub returns-in_err-catalog-clause-counts : goal.returns-in_err-catalog-clause-counts
returns-in_err-catalog-clause-counts g c =
    let e = err_from_is_err_and c.from_residual-in_err-catalog.result c.from_residual-in_err-catalog.ensures.1 in
    counts_on c.find.ensures.counts (ok_no_fault _ _ c.in_ok-found.was)
    (counts_reported c.in_err-catalog.field-0.0 (λ failed. let is = e.1 in let fault = e.2 in cc)
    (λ device. e.1 ∙ ap Err (e.2 ∙ ap Open device)) c.in_err-catalog.ensures.counts)

pub returns-in_err-catalog-clause-stays : goal.returns-in_err-catalog-clause-stays
returns-in_err-catalog-clause-stays g c honest v valid is room =
    let found = c.in_ok-found.ensures.decoded honest v valid is room in
    let there =
    read_settled g.D.Disk c.args.disk.now c.find.new.disk c.read.new.disk c.in_ok-found.found.layout
    (c.find.ensures.honest.0 honest) (c.in_ok-found.ensures.settled honest) c.read.ensures.reads in
    let rests = settled_rests v c.in_ok-found.found.layout found.blocks there is in
    search rules

pub returns-in_err-catalog-clause-lasts : goal.returns-in_err-catalog-clause-lasts
returns-in_err-catalog-clause-lasts g c honest v valid is room =
    let found = c.in_ok-found.ensures.decoded honest v valid is room in
    read_lasts g.D.Disk c.args.disk.now c.find.new.disk c.read.new.disk c.in_ok-found.found.layout
    (c.find.ensures.honest.0 honest) (c.in_ok-found.ensures.settled honest) c.read.ensures.reads v.blocks found.blocks
    (c.find.ensures.lasts honest v valid is room)

pub returns-in_err-catalog-clause-unwritten : goal.returns-in_err-catalog-clause-unwritten
returns-in_err-catalog-clause-unwritten g c honest none =
    read_unwritten g.D.Disk c.args.disk.now c.find.new.disk c.read.new.disk c.in_ok-found.found.layout
    (c.find.ensures.honest.0 honest) (c.in_ok-found.ensures.settled honest) c.read.ensures.reads
    (c.find.ensures.same honest none (ok_no_fault _ _ c.in_ok-found.was)) (c.find.ensures.unwritten honest none)

pub returns-in_err-catalog-clause-same : goal.returns-in_err-catalog-clause-same
returns-in_err-catalog-clause-same g c honest none fine =
    read_same g.D.Disk c.args.disk.now c.find.new.disk c.read.new.disk c.in_ok-found.found.layout
    (c.find.ensures.honest.0 honest) (c.in_ok-found.ensures.settled honest) c.read.ensures.reads
    (c.find.ensures.same honest none (ok_no_fault _ _ c.in_ok-found.was))

pub returns-then-eq-clause-same : goal.returns-then-eq-clause-same
returns-then-eq-clause-same g c honest none fine =
    c.find.ensures.same honest none (ok_no_fault _ _ c.in_ok-found.was)

pub returns-clause-lasts : goal.returns-clause-lasts
returns-clause-lasts g c honest v valid is room =
    let found = c.in_ok-found.ensures.decoded honest v valid is room in
    read_lasts g.D.Disk c.args.disk.now c.find.new.disk c.read.new.disk c.in_ok-found.found.layout
    (c.find.ensures.honest.0 honest) (c.in_ok-found.ensures.settled honest) c.read.ensures.reads v.blocks found.blocks
    (c.find.ensures.lasts honest v valid is room)

pub returns-clause-unwritten : goal.returns-clause-unwritten
returns-clause-unwritten g c honest none =
    read_unwritten g.D.Disk c.args.disk.now c.find.new.disk c.read.new.disk c.in_ok-found.found.layout
    (c.find.ensures.honest.0 honest) (c.in_ok-found.ensures.settled honest) c.read.ensures.reads
    (c.find.ensures.same honest none (ok_no_fault _ _ c.in_ok-found.was)) (c.find.ensures.unwritten honest none)

pub returns-clause-same : goal.returns-clause-same
returns-clause-same g c honest none fine =
    read_same g.D.Disk c.args.disk.now c.find.new.disk c.read.new.disk c.in_ok-found.found.layout
    (c.find.ensures.honest.0 honest) (c.in_ok-found.ensures.settled honest) c.read.ensures.reads
    (c.find.ensures.same honest none (ok_no_fault _ _ c.in_ok-found.was))

pub returns-clause-has : goal.returns-clause-has
returns-clause-has g c honest v valid is room =
    let settled = c.in_ok-found.ensures.settled honest in
    let found = c.in_ok-found.ensures.decoded honest v valid is room in
    c.in_ok-catalog.ensures.decoded _ (c.read.ensures.reads.gave (c.find.ensures.honest.0 honest) _
    (settled_still settled)) v
    valid found
    (recovered_encodes c.in_ok-found.found.layout v found.blocks settled is)

pub returns-clause-valid : goal.returns-clause-valid
returns-clause-valid g c honest =
    let settled = c.in_ok-found.ensures.settled honest in
    let found = c.in_ok-found.ensures.found honest in
    let n = c.in_ok-found.found.layout in
    let was = g.D.Disk.current c.args.disk.now in
    let now = g.D.Disk.current c.find.new.disk in
    let unsynced = g.D.Disk.unsynced c.find.new.disk in
    let size = g.D.Disk.size c.args.disk.now in
    opened_on n was now unsynced settled found.journal size c.in_ok-catalog.catalog found.encodes
    (c.in_ok-catalog.ensures.valid now
    (c.read.ensures.reads.gave (c.find.ensures.honest.0 honest) now (settled_still settled))
    (found_back size c.in_ok-found.found was now unsynced settled found))

pub returns-clause-settled : goal.returns-clause-settled
returns-clause-settled g c honest =
    let there =
    read_settled g.D.Disk c.args.disk.now c.find.new.disk c.read.new.disk c.in_ok-found.found.layout
    (c.find.ensures.honest.0 honest) (c.in_ok-found.ensures.settled honest) c.read.ensures.reads in
    let J : ℕ → Type 0 =
    λ n. Settled (journal_pages n) (overlaid (g.D.Disk.current c.args.disk.now)) (g.D.Disk.current c.read.new.disk)
    (g.D.Disk.unsynced c.read.new.disk) in
    subst J (sym c.in_ok-catalog.ensures.layout) there

pub returns-then-eq-clause-refused : goal.returns-then-eq-clause-refused
returns-then-eq-clause-refused g c honest =
    let new : c.in_ok-found.found.version ≡ Two = search rules in
    found_new (g.D.Disk.size c.args.disk.now) (g.D.Disk.current c.args.disk.now) _ c.in_ok-found.found
    (c.in_ok-found.ensures.found honest) new

pub returns-then-eq-clause-stays : goal.returns-then-eq-clause-stays
returns-then-eq-clause-stays g c honest v valid is room device =
    let found = c.in_ok-found.ensures.decoded honest v valid is room in
    settled_rests v c.in_ok-found.found.layout found.blocks (c.in_ok-found.ensures.settled honest) is

-- On any disk.

pub returns-in_err-found-clause-given : goal.returns-in_err-found-clause-given
returns-in_err-found-clause-given g c =
    let e = err_from_is_err_and c.from_residual.result c.from_residual.ensures.1 in
    rw (e.1, e.2) (by_same c.in_err-found.ensures.given refl
    (λ before after is. unfound_upgrade _ before after c.in_err-found.field-0.0 is.answer))

pub returns-then-eq-clause-given : goal.returns-then-eq-clause-given
returns-then-eq-clause-given g c =
    let new : c.in_ok-found.found.version ≡ Two = search rules in
    by_same c.in_ok-found.ensures.given refl
    (λ before after is. found_new _ before after c.in_ok-found.found is.answer new)

pub returns-in_err-catalog-clause-given : goal.returns-in_err-catalog-clause-given
returns-in_err-catalog-clause-given g c =
    let e = err_from_is_err_and c.from_residual-in_err-catalog.result c.from_residual-in_err-catalog.ensures.1 in
    let old : c.in_ok-found.found.version ≡ One = search rules in
    rw (e.1, e.2) (by_after c.in_ok-found.ensures.given c.read.ensures.once (λ p is elsewhere. elsewhere is)
    (λ before after is late. old_reason _ before after (load_fault c.in_err-catalog.field-0.0)
    (λ damaged. found_old _ before after c.in_ok-found.found is.answer old)
    (unread_by _ before after c.in_ok-found.found is c.in_err-catalog.field-0.0
    (λ v valid found encodes. c.in_err-catalog.ensures.decoded after late v valid found encodes)).answer))

pub returns-clause-given : goal.returns-clause-given
returns-clause-given g c =
    let old : c.in_ok-found.found.version ≡ One = search rules in
    by_after c.in_ok-found.ensures.given c.read.ensures.once (λ p is elsewhere. elsewhere is)
    (λ before after is late. upgrades_by _ before after c.in_ok-found.found c.in_ok-catalog.catalog old
    c.in_ok-catalog.ensures.version
    (loads_by _ before after c.in_ok-found.found is c.in_ok-catalog.catalog
    (c.in_ok-catalog.ensures.valid after late is.answer.state)
    (λ v valid found encodes. c.in_ok-catalog.ensures.decoded after late v valid found encodes))
    c.in_ok-catalog.catalog)

pub returns-in_err-found-clause-same : goal.returns-in_err-found-clause-same
returns-in_err-found-clause-same g c honest none fine =
    let p = err_from_is_err_and c.from_residual.result c.from_residual.ensures.1 in
    c.find.ensures.same honest none (λ failed. fine (p.1 ∙ (let is = p.2 in let was = c.in_err-found.was in cc)))
