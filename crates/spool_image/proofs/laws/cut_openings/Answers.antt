use Rattle.std.proofs.Common.{◌≤◌, ◌*◌, ℕ, sym, subst, arith, ⊎_elim}
use Rattle.spool_journal.specs.declared.TheConstants.{PAGE}
use Rattle.spool_journal.specs.Image.{all_pages}
use Rattle.spool_image.proofs.laws.cut_openings.Goals as goal

pub returns : goal.returns
returns g c before d left n m all lasts honest size since =
    let image = g.D.Disk.current left in
    record {
      honest = honest;
      room = subst (λ (k : ℕ). PAGE * all_pages n ≤ k) (sym size) all.room;
      shows = ⊎_elim
          (λ earlier. all.each image (g.met.D.Disk.only_now before image earlier))
          (λ one. ⊎_elim (all.each image) (λ shown. shown) one)
          (lasts.nothing_else (g.D.Disk.moment before) image (omega arith) since);
    }
