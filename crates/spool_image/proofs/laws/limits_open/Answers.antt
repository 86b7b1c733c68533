use Rattle.std.proofs.Common.{◌≤◌, ◌*◌, ℕ, sym, subst}
use Rattle.spool_journal.specs.declared.TheConstants.{PAGE}
use Rattle.spool_journal.specs.Image.{all_pages}
use Rattle.spool_image.proofs.laws.limits_open.Goals as goal

pub returns : goal.returns
returns g c d left n t ms only honest size since =
    let one = only.each (g.D.Disk.current left) since in
    record {
      store = one.store;
      among = one.among;
      opens = record {
        honest = honest;
        room = subst (λ (k : ℕ). PAGE * all_pages n ≤ k) (sym size) only.room;
        shows = one.shows;
      };
    }
