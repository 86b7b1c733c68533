use Rattle.std.proofs.Common.{◌≡◌, ◌+◌, ℕ, List, get_or, length, rules, sym, ◌∙◌, ap, arith}
use Rattle.spool_disk.specs.Disk.{span}
use Rattle.spool_disk.proofs.Gave.{none, of_one, once_none, once_one, one}
use Rattle.spool_journal.proofs.Recovers.{get_span}
use Rattle.spool_load.proofs.finding.read_prefix.Goals as goal

pub returns-in_err-read-clause-gave : goal.returns-in_err-read-clause-gave
returns-in_err-read-clause-gave g c honest = none c.in_err-read.ensures.none

pub returns-in_err-read-clause-once : goal.returns-in_err-read-clause-once
returns-in_err-read-clause-once g c = once_none c.in_err-read.ensures.none

pub returns-clause-once : goal.returns-clause-once
returns-clause-once g c =
    let wide : length c.read.new.buf ≡ 12 = search rules in
    once_one c.in_ok-read.ensures.given (λ p from below. (omega (arith, from), omega (arith, below, wide)))

pub returns-clause-gave : goal.returns-clause-gave
returns-clause-gave g c honest =
    let wide : length c.read.new.buf ≡ 12 = search rules in
    of_one c.in_ok-read.ensures.given
    (ap (λ (n : ℕ). span (g.D.Disk.current c.args.disk.now) 0 n) wide
    ∙ sym (c.in_ok-read.ensures.bytes honest (search rules)))

pub returns-clause-bytes : goal.returns-clause-bytes
returns-clause-bytes g c bytes gave i lt =
    let wide : length c.read.new.buf ≡ 12 = search rules in
    let at : 0 + i ≡ i = omega arith in
    ap (λ (xs : List ℕ). get_or xs i 0) (sym (one c.in_ok-read.ensures.given gave))
    ∙ get_span bytes 0 (length c.read.new.buf) i (omega (arith, lt, wide)) ∙ ap bytes at
