use Rattle.std.proofs.Common.{◌+◌, ◌*◌, ◌<◌, ◌≡◌, ◌∷◌, [], sym, ◌∙◌, ap, subst, arith, length, take, drop}
use Rattle.std.proofs.Common.{get_or, set}
use Rattle.std.specs.Str.{IsUtf8}
use Rattle.std.proofs.lemmas.List.{length-set, take_more_set}
use Rattle.std.proofs.lemmas.Str.{IsUtf8-past_char, IsCharBoundary-from_drop}
use Rattle.enc_encode.specs.Runs.{FirstGiven}
use Rattle.enc_encode.specs.Singles.{IsSingleByte}
use Rattle.enc_encode.proofs.Puts.{two_at}
use Rattle.enc_encode.proofs.RunPrefixes.{run_none, run_more}
use Rattle.enc_encode.proofs.single_runs.put_singles.Goals as goal

pub loop-count-init : goal.loop-count-init
loop-count-init c =
    let room = c.requires.room in (
      omega arith,
      omega (arith, room),
      c.told-held,
      c.utf8.text,
      run_none _ c.args.text.now (take c.args.from c.args.held.now) (take (c.args.from + 0) c.args.held.now)
          (let same : c.args.from + 0 ≡ c.args.from = omega arith in ap (λ k. take k c.args.held.now) same),
    )

pub loop-count-preserved : goal.loop-count-preserved
loop-count-preserved c =
    let v = c.loop-count.invariant in
    let test = c.loop-count-test.true in
    let most = c.min-most.ensures in
    let text = c.args.text.now in
    let n = c.loop-count.count in
    let held = c.loop-count.held in
    let byte = c.in-Some.byte in
    let rest = drop (2 * n) text in
    let left = drop (2 * (n + 1)) text in
    let value = c.as_bytes-bytes.ensures.value in
    let len : length c.as_bytes-bytes.result.now ≡ length text = ap length value in
    let inside : 2 * n + 1 < length text = omega (arith, test, most, len) in
    let places : 2 * n + 2 ≡ 2 * (n + 1) = omega arith in
    let parts = two_at text (2 * n) inside ∙ ap (λ k. get_or text (2 * n) 0 ∷ get_or text (2 * n + 1) 0 ∷ drop k text)
    places in
    let first : FirstGiven (IsSingleByte c.args.pointers.now) rest (byte ∷ []) left =
    subst (λ z. FirstGiven (IsSingleByte c.args.pointers.now) z (byte ∷ []) left) (sym parts)
    ((rw value at c.in-Some.ensures) left (subst IsUtf8 parts v.3)) in
    let long = v.2 in
    let next : c.args.from + (n + 1) ≡ c.args.from + n + 1 = omega arith in
    let room : c.args.from + n < length held = omega (arith, test, most, long) in (
      omega (arith, inside),
      omega (arith, test, most),
      length-set held (c.args.from + n) byte ∙ v.2,
      IsUtf8-past_char rest left first.c v.3 first.parts,
      run_more _ text rest left (take c.args.from c.args.held.now) (take (c.args.from + n) held) _ (byte ∷ []) v.3 v.4
          first
          (ap (λ k. take k (set held (c.args.from + n) byte)) next ∙ take_more_set held (c.args.from + n) byte room),
    )

pub range_from-requires : goal.range_from-requires
range_from-requires c = λ some. IsCharBoundary-from_drop c.args.text.now (2 * c.loop-count.count)
    c.loop-count.invariant.0 c.loop-count.invariant.3
