use Rattle.std.proofs.Common.{◌+◌, take, sym, subst}
use Rattle.enc_encode.specs.Runs.{RunPrefix}
use Rattle.enc_encode.specs.Singles.{IsSingleByte}
use Rattle.enc_encode.proofs.RunPrefixes.{ascii_cut, run_ascii}
use Rattle.enc_encode.proofs.Singles.{ascii_single}
use Rattle.enc_encode.proofs.single_runs.put_last_ascii.Goals as goal

pub range_from-requires : goal.range_from-requires
range_from-requires c = λ some. ascii_cut c.args.text.now c.put_each-count.result c.utf8.text
    (rw c.as_bytes.ensures.value at c.put_each-count.ensures.within)
    (rw c.as_bytes.ensures.value at c.put_each-count.ensures.ascii)

pub returns-clause-run : goal.returns-clause-run
returns-clause-run c at =
    let n = c.put_each-count.result in
    let held = take c.args.from c.args.held.now in
    let new = take (c.args.from + n) c.put_each-count.new.held in
    subst (λ z. RunPrefix (IsSingleByte at) c.args.text.now z held new) (sym c.range_from.ensures.value)
    (run_ascii (IsSingleByte at) (ascii_single at) c.args.text.now n held new
    (rw c.as_bytes.ensures.value at c.put_each-count.ensures.ascii)
    (rw c.as_bytes.ensures.value at c.put_each-count.ensures.put))
