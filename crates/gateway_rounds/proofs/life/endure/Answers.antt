use Rattle.std.proofs.Common.{[], ◌∷◌}
use Rattle.spool_journal.proofs.Steps.{no_failure}
use Rattle.upload_rules.specs.Store.{no_uploads}
use Rattle.gateway_rounds.proofs.Passing.{all_one, refuses_spool}
use Rattle.gateway_rounds.proofs.life.endure.Goals as goal

pub returns-in-Ok-clause-lives : goal.returns-in-Ok-clause-lives
returns-in-Ok-clause-lives g c honest =
    let m = no_uploads c.args.indexes.now in
    let n = c.args.blocks in
    let made = c.format.new.disk in
    let shows = c.in-Ok.ensures.shows honest in
    let lived = c.live_through.ensures n (m ∷ []) (all_one g.D.Disk made n m shows) in
    record {
      made = made;
      size = c.format.ensures.size;
      failures = no_failure c.in-Ok.ensures.counts (λ fault. cc);
      shows = shows;
      newest = c.in-Ok.ensures.newest honest;
      end = lived.0;
      lives = lived.1;
    }

pub returns-in-Ok-clause-no_spool : goal.returns-in-Ok-clause-no_spool
returns-in-Ok-clause-no_spool g c honest magic = c.in-Ok.ensures.no_spool honest (λ e. cc) (λ e. cc) magic

pub returns-in-Err-clause-no_spool : goal.returns-in-Err-clause-no_spool
returns-in-Err-clause-no_spool g c honest magic =
    refuses_spool c.in-Err.fault (λ already device. c.in-Err.ensures.no_spool honest already device magic)
