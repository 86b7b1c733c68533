use Rattle.std.proofs.Common.{◌≤◌, ◌*◌, ℕ, refl, sym, subst}
use Rattle.spool_journal.specs.declared.TheConstants.{PAGE}
use Rattle.spool_journal.specs.Image.{all_pages}
use Rattle.spool_image.proofs.Crashed.{synced_shows}
use Rattle.spool_image.proofs.laws.images_open.Goals as goal

pub returns-clause-now : goal.returns-clause-now
returns-clause-now g c d n m all =
    record {
      honest = all.honest;
      room = all.room;
      shows = all.each (g.D.Disk.current d) (record { same = λ p is_synced. refl });
    }

pub returns-clause-crashed : goal.returns-clause-crashed
returns-clause-crashed g c d left n m all honest size is = record {
  honest = honest;
  room = subst (λ (k : ℕ). PAGE * all_pages n ≤ k) (sym size) all.room;
  shows = all.each (g.D.Disk.current left) is;
}

pub returns-clause-synced : goal.returns-clause-synced
returns-clause-synced g c d n m is is_synced = synced_shows g.D.Disk d n m is is_synced
