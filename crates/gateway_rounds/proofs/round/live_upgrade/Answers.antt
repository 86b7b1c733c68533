use Rattle.std.proofs.Common.{[], ◌∷◌, ◌*◌, ◌≤◌, ℕ, refl, sym, subst}
use Rattle.common.specs.declared.stop.Stop.TheVariants.{DiskFault}
use Rattle.spool_image.proofs.Opens.{view_room}
use Rattle.spool_image.specs.declared.error.UpgradeError.TheVariants.{Open}
use Rattle.spool_journal.specs.Image.{all_pages}
use Rattle.spool_journal.specs.declared.TheConstants.{PAGE}
use Rattle.spool_catalog.specs.declared.error.OpenFault.TheVariants.{Stop}
use Rattle.gateway_rounds.proofs.Passing.{all_one, counts_done, counts_reported, done_leaves, err_same, is_spool}
use Rattle.gateway_rounds.proofs.Passing.{left_reported}
use Rattle.gateway_rounds.proofs.Passing.{read_opens, refused_leaves, still_shown, upgrade_ends}
use Rattle.gateway_rounds.proofs.round.live_upgrade.Goals as goal

pub returns-in-Ok : goal.returns-in-Ok
returns-in-Ok g c n before all =
    let given = c.args.disk in
    let back = c.upgrade.new.disk in
    let m = read_opens g.D.Disk given n before all in
    let is = is_spool g.D.Disk given n before m.0 all m.1 in (
      m.0 ∷ [],
      all_one g.D.Disk back n m.0 (c.in-Ok.ensures.shows n m.0 is (λ device. cc)),
      record {
        ends = tt;
        store = m.0;
        opened = m.1;
        same = refl;
        leaves = λ image here. done_leaves _ _ image (c.in-Ok.ensures.valid is.honest) here;
        counts = counts_done (Open (Stop DiskFault)) _ _ c.in-Ok.ensures.counts;
      },
    )

pub returns-in-Err : goal.returns-in-Err
returns-in-Err g c n before all =
    let given = c.args.disk in
    let back = c.upgrade.new.disk in
    let e = c.in-Err.refusal in
    let m = read_opens g.D.Disk given n before all in
    let is = is_spool g.D.Disk given n before m.0 all m.1 in
    let v = is.shows.view in
    let valid = is.shows.shows.valid in
    let room = view_room g.D.Disk given n m.0 is in
    let ends = c.in-Err.ensures.upgraded is.honest v valid is.shows.is room in
    let honest = c.upgrade.ensures.honest.0 all.honest in
    let still =
    still_shown g.D.Disk given back n before m.0 (g.met.D.Disk.counts_now back) (g.met.D.Disk.only_now given) all m.1
    (c.upgrade.ensures.crash n m.0 is) honest
    (subst (λ (k : ℕ). PAGE * all_pages n ≤ k) (sym c.upgrade.ensures.size) all.room) in
    let left =
    left_reported g.D.Disk back n m.0 before e
    (λ valid. c.in-Err.ensures.shows n m.0 is (λ device. valid (err_same e (Open (Stop DiskFault)) device))) still in (
      left.0,
      left.1,
      record {
        ends = upgrade_ends e ends;
        store = m.0;
        opened = m.1;
        same = left.2;
        leaves = λ image here.
            refused_leaves e v image valid ends (c.in-Err.ensures.stays is.honest v valid is.shows.is room) here;
        counts = counts_reported e (Open (Stop DiskFault)) _ _ c.in-Err.ensures.counts;
      },
    )
