use Rattle.std.proofs.Common.{◌≡◌, ◌∙◌, ap, length, sym, rules}
use Rattle.spool_disk.specs.Disk.{span}
use Rattle.spool_disk.proofs.Firm.{lasts_call}
use Rattle.spool_disk.proofs.Gave.{read_grew}
use Rattle.spool_journal.proofs.Recovers.{still_preserves, still_image}
use Rattle.spool_load.proofs.Looks.{read_gave, still_span}
use Rattle.spool_load.proofs.reading.read_at.Goals as goal

pub returns-clause-reads : goal.returns-clause-reads
returns-clause-reads g c =
    let wide : length c.read.new.buf ≡ length c.args.buf.now = search rules in
    record {
      size = c.read.ensures.size;
      honest = c.read.ensures.honest.0;
      back = c.read.ensures.honest.1;
      grew = read_grew _ _ c.read.result c.read.ensures.given c.read.ensures.none;
      gave =
          λ honest bytes still. read_gave _ _ bytes c.read.result c.read.ensures.given c.read.ensures.none
          (λ done. ap (span bytes c.args.place) wide ∙ still_span _ bytes c.args.place _ still
          ∙ sym (c.read.ensures.bytes honest done));
      still = λ honest bytes still. still_preserves still (c.read.ensures.preserves honest);
      lasts =
          λ honest bytes still. lasts_call (c.read.ensures.time honest)
          (λ image is. still_image (still_preserves still (c.read.ensures.preserves honest)) is);
    }
