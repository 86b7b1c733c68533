use Rattle.std.proofs.Common.{◌<◌, ◌-◌, length, get_or, arith}
use Rattle.spool_disk.proofs.Firm.{on_ok, lasts_call}
use Rattle.spool_journal.proofs.Recovers.{all_is}
use Rattle.spool_journal.specs.Image.{text_page}
use Rattle.spool_texts.proofs.Prefixes.{prefix_text, prefix_writes, idle_in, image_in}
use Rattle.spool_texts.proofs.last_blocks.write_prefix.Goals as goal

pub write_at-requires : goal.write_at-requires
write_at-requires g c =
    let below : get_or c.args.list.now (length c.args.list.now - 1) 0 < c.args.layout.now =
    c.requires.blocks (length c.args.list.now - 1) (omega (arith, c.requires.some)) in
    omega (
      arith,
      all_is c.args.layout.now,
      c.requires.room,
      c.requires.fits,
      below,
      c.block_page-page.ensures.page,
    )

pub returns-clause-text : goal.returns-clause-text
returns-clause-text g c honest =
    on_ok c.write_at.result
    (λ done. prefix_text (text_page c.args.layout.now) c.args.list.now c.args.bytes.now c.requires.some
    c.requires.fits _ c.block_page-page.ensures.page (c.write_at.ensures.writes honest) c.requires.distinct done)

pub returns-clause-writes : goal.returns-clause-writes
returns-clause-writes g c honest =
    prefix_writes (text_page c.args.layout.now) c.args.list.now c.args.bytes.now c.requires.some
    c.requires.fits _ c.block_page-page.ensures.page (c.write_at.ensures.writes honest)

pub returns-clause-idle : goal.returns-clause-idle
returns-clause-idle g c honest idle = idle_in idle (returns-clause-writes g c honest)

pub returns-clause-lasts : goal.returns-clause-lasts
returns-clause-lasts g c honest =
    lasts_call (c.write_at.ensures.time honest) (λ image is. image_in (returns-clause-writes g c honest) is)
