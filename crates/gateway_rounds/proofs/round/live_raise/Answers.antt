use Rattle.std.proofs.Common.{◌*◌, ◌≤◌, ℕ, [], ◌∷◌, refl, sym, subst}
use Rattle.common.specs.declared.stop.Stop.TheVariants.{DiskFault}
use Rattle.spool_catalog.specs.declared.error.OpenFault.TheVariants.{Stop}
use Rattle.spool_image.specs.declared.error.RaiseError.TheVariants.{Open}
use Rattle.spool_journal.specs.Image.{all_pages}
use Rattle.spool_journal.specs.declared.TheConstants.{PAGE}
use Rattle.gateway_rounds.specs.Rounds.{raised_to}
use Rattle.gateway_rounds.proofs.Passing.{is_spool, read_opens}
use Rattle.gateway_rounds.proofs.Raising.{counts_raised, counts_unraised, done_ends, raise_ends, raise_leaves}
use Rattle.gateway_rounds.proofs.Raising.{raised_one}
use Rattle.gateway_rounds.proofs.round.live_raise.Goals as goal

pub returns-in-Ok : goal.returns-in-Ok
returns-in-Ok g c n before all =
    let given = c.args.disk in
    let back = c.raise.new.disk in
    let number = c.args.asked.now.number in
    let m = read_opens g.D.Disk given n before all in
    let is = is_spool g.D.Disk given n before m.0 all m.1 in
    let shows = c.in-Ok.ensures.shows n m.0 is in (
      raised_to m.0 number ∷ [],
      raised_one g.D.Disk back n number _ m.0 shows.0 shows.1,
      record {
        number = refl;
        ends = done_ends number _ (λ high. (c.in-Ok.ensures.too_large high).1);
        store = m.0;
        opened = m.1;
        leaves = refl;
        counts = counts_raised _ _ _ (Open (Stop DiskFault)) c.in-Ok.ensures.counts;
      },
    )

pub returns-in-Err : goal.returns-in-Err
returns-in-Err g c n before all =
    let given = c.args.disk in
    let back = c.raise.new.disk in
    let number = c.args.asked.now.number in
    let e = c.in-Err.fault in
    let m = read_opens g.D.Disk given n before all in
    let is = is_spool g.D.Disk given n before m.0 all m.1 in
    let v = is.shows.view in
    let valid = is.shows.shows.valid in
    let room = subst (λ (k : ℕ). PAGE * all_pages k ≤ g.D.Disk.size given) (sym is.shows.blocks) is.room in
    let left =
    raise_leaves g.D.Disk given back n number before m.0 (g.met.D.Disk.counts_now back) (g.met.D.Disk.only_now given)
    all m.1 (c.raise.ensures.honest.0 all.honest)
    (subst (λ (k : ℕ). PAGE * all_pages n ≤ k) (sym c.raise.ensures.size) all.room) e
    (c.in-Err.ensures.crash n m.0 is) in (
      left.0,
      left.1,
      record {
        number = refl;
        ends = raise_ends number e (λ high. (c.in-Err.ensures.too_large high).1)
            (λ le. c.in-Err.ensures.raises is.honest le v valid is.shows.is room);
        store = m.0;
        opened = m.1;
        leaves = left.2;
        counts = counts_unraised e (Open (Stop DiskFault)) _ _ c.in-Err.ensures.counts;
      },
    )
