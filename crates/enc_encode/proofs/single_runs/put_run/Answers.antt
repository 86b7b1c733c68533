use Rattle.std.proofs.Common.{◌+◌, take, sym, subst}
use Rattle.enc_encode.specs.Runs.{RunPrefix}
use Rattle.enc_encode.specs.Singles.{IsSingleByte}
use Rattle.enc_encode.proofs.RunPrefixes.{ascii_cut, run_ascii, run_both}
use Rattle.enc_encode.proofs.Singles.{ascii_single}
use Rattle.enc_encode.proofs.single_runs.put_run.Goals as goal

pub range_from-requires : goal.range_from-requires
range_from-requires c = λ some. ascii_cut c.args.text.now c.put_lanes-count.result c.utf8.text
    (rw c.as_bytes.ensures.value at c.put_lanes-count.ensures.within)
    (rw c.as_bytes.ensures.value at c.put_lanes-count.ensures.ascii)

pub returns-clause-run : goal.returns-clause-run
returns-clause-run c =
    let gives = IsSingleByte c.args.pointers.now in
    let text = c.args.text.now in
    let n = c.put_lanes-count.result in
    let held = take c.args.from c.args.held.now in
    let mid = take (c.args.from + n) c.put_lanes-count.new.held in
    let then = take c.put_letters-end.result.1 c.put_letters-end.new.held in
    let new = take c.put_singles.result.1 c.put_singles.new.held in
    let first : RunPrefix gives text c.range_from.result.now held mid =
    subst (λ z. RunPrefix gives text z held mid) (sym c.range_from.ensures.value)
    (run_ascii gives (ascii_single c.args.pointers.now) text n held mid
    (rw c.as_bytes.ensures.value at c.put_lanes-count.ensures.ascii)
    (rw c.as_bytes.ensures.value at c.put_lanes-count.ensures.put)) in
    let both = run_both gives text c.range_from.result.now c.put_letters-end.result.0.now held mid then first
    c.put_letters-end.ensures.run in
    run_both gives text c.put_letters-end.result.0.now c.put_singles.result.0.now held then new both
    c.put_singles.ensures.run
