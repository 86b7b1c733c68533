use Rattle.std.proofs.Common.{◌≡◌, length, rules, ◌+◌, arith}
use Rattle.spool_disk.proofs.Firm.{on_ok, on_more}
use Rattle.spool_disk.proofs.Gave.{read_once, one}
use Rattle.spool_journal.proofs.Recovers.{page_read, head_given}
use Rattle.spool_journal.proofs.recovery.read_head.Goals as goal

pub returns-clause-head : goal.returns-clause-head
returns-clause-head g c honest bytes still =
    on_ok c.read.result (λ done i lt. page_read _ bytes 8192 _ _ (search rules) (c.read.ensures.bytes honest done) i lt
    (still.reads (8192 + i)))

pub returns-clause-reads : goal.returns-clause-reads
returns-clause-reads g c =
    let wide : length c.read.new.buf ≡ 4096 = search rules in
    read_once _ _ c.read.result c.read.ensures.given c.read.ensures.none
    (λ p from below. (omega (arith, from), omega (arith, below, wide)))

pub returns-clause-gave : goal.returns-clause-gave
returns-clause-gave g c bytes gave =
    on_more c.read.result c.read.ensures.given (λ e. head_given _ bytes (omega arith) (one e gave))
