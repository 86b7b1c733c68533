use Rattle.std.proofs.Common.{◌+◌, ◌*◌, ◌∙◌, ap, refl, sym, subst, arith, take, drop}
use Rattle.std.proofs.lemmas.Str.{IsCharBoundary-from_drop}
use Rattle.enc_encode.specs.Runs.{RunPrefix}
use Rattle.enc_encode.specs.Singles.{IsSingleByte}
use Rattle.enc_encode.proofs.LetterRuns.{letters_run}
use Rattle.enc_encode.proofs.RunPrefixes.{run_none}
use Rattle.enc_encode.proofs.single_runs.put_letters.Goals as goal

pub returns-then-letters-eq0-clause-run : goal.returns-then-letters-eq0-clause-run
returns-then-letters-eq0-clause-run c =
    run_none (IsSingleByte c.args.pointers.now) c.args.text.now (take c.args.from c.args.held.now)
    (take c.args.from c.args.held.now) refl

pub range_from-requires : goal.range_from-requires
range_from-requires c =
    let n = c.lettered-count.result.1 in
    let few = c.lettered-count.ensures.few in
    let short = c.if-text-lt-LANES.false in
    let run = letters_run c.args.pointers.now c.args.text.now c.lanes_at.result c.lettered-count.result.0
    (take c.args.from c.args.held.now) c.args.letters.low c.args.letters.byte c.args.letters.count n c.requires.few
    c.requires.letters c.utf8.text (omega (arith, short)) c.lettered-count.ensures.long
    (c.lanes_at.ensures ∙ ap (take 32) c.as_bytes.ensures.value) few c.lettered-count.ensures.letters n
    (omega arith) in
    λ some. IsCharBoundary-from_drop c.args.text.now (2 * n) (omega (arith, few, short)) run.1

pub returns-clause-run : goal.returns-clause-run
returns-clause-run c =
    let n = c.lettered-count.result.1 in
    let few = c.lettered-count.ensures.few in
    let short = c.if-text-lt-LANES.false in
    let gives = IsSingleByte c.args.pointers.now in
    let text = c.args.text.now in
    let held = take c.args.from c.args.held.now in
    let run = letters_run c.args.pointers.now text c.lanes_at.result c.lettered-count.result.0 held
    c.args.letters.low c.args.letters.byte c.args.letters.count n c.requires.few
    c.requires.letters c.utf8.text (omega (arith, short)) c.lettered-count.ensures.long
    (c.lanes_at.ensures ∙ ap (take 32) c.as_bytes.ensures.value) few c.lettered-count.ensures.letters n
    (omega arith) in
    subst (λ z. RunPrefix gives text z held (take (c.args.from + n) c.store_letters.new.held))
    (sym c.range_from.ensures.value)
    (subst (λ z. RunPrefix gives text (drop (2 * n) text) held z) (sym c.store_letters.ensures) run.0)
