use Rattle.std.proofs.Common.{◌+◌, ◌<◌, ◌≡◌, ◌∷◌, [], refl, sym, ◌∙◌, ap, subst, arith}
use Rattle.std.proofs.Common.{length, take, drop}
use Rattle.std.specs.Str.{IsUtf8}
use Rattle.std.proofs.lemmas.List.{length-set}
use Rattle.std.proofs.lemmas.Str.{IsUtf8-past_char, IsCharBoundary-from_drop}
use Rattle.enc_model.specs.Encode.{encoder}
use Rattle.enc_model.specs.Indexes.{tables}
use Rattle.enc_encode.specs.Runs.{FirstGiven, Stays}
use Rattle.enc_encode.specs.State.{shift_of}
use Rattle.enc_encode.proofs.Puts.{three_at}
use Rattle.enc_encode.proofs.RunPrefixes.{run_none, run_more, take_two_set}
use Rattle.enc_encode.proofs.pair_runs.put_pairs.Goals as goal

pub returns-in_default-clause-run : goal.returns-in_default-clause-run
returns-in_default-clause-run c =
    run_none _ c.args.text.now (take c.args.from c.args.held.now) (take c.args.from c.args.held.now) refl

pub loop-at-init : goal.loop-at-init
loop-at-init c = (
  omega arith,
  c.requires,
  c.told-held,
  c.utf8.text,
  run_none _ c.args.text.now (take c.args.from c.args.held.now) (take c.args.from c.args.held.now) refl,
)

pub loop-at-preserved : goal.loop-at-preserved
loop-at-preserved c =
    let v = c.loop-at.invariant in
    let test = c.loop-at-test.true in
    let room = c.if-len-ge2.true in
    let text = c.args.text.now in
    let at = c.loop-at.at in
    let place = c.loop-at.len in
    let held = c.loop-at.held in
    let lead = c.in-Some-first_pair.lead in
    let trail = c.in-Some-first_pair.trail in
    let t = tables c.args.set.now in
    let found = c.in-Some-first_pair.ensures t c.in-Some.ensures.own in
    let gives = Stays (encoder t c.args.to) (shift_of c.args.shift) in
    let rest = drop at text in
    let left = drop (at + 3) text in
    let value = c.as_bytes-bytes.ensures.value in
    let len : length c.as_bytes-bytes.result.now ≡ length text = ap length value in
    let inside : at + 2 < length text = omega (arith, test, len) in
    let parts = three_at text at inside in
    let first : FirstGiven gives rest (lead ∷ trail ∷ []) left =
    subst (λ z. FirstGiven gives z (lead ∷ trail ∷ []) left) (sym parts)
    ((rw value at found) left (subst IsUtf8 parts v.3)) in
    let long = v.2 in (
      omega (arith, inside),
      omega (arith, room),
      length-set _ (place + 1) _ ∙ length-set held place _ ∙ v.2,
      IsUtf8-past_char rest left first.c v.3 first.parts,
      run_more _ text rest left (take c.args.from c.args.held.now) (take place held) _ (lead ∷ trail ∷ []) v.3 v.4
          first
          (take_two_set held place lead trail (omega (arith, room, long))),
    )

pub range_from-requires : goal.range_from-requires
range_from-requires c = λ some. IsCharBoundary-from_drop c.args.text.now c.loop-at.at c.loop-at.invariant.0
    c.loop-at.invariant.3
