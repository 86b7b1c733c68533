use Rattle.std.proofs.Common.{◌-◌, ◌∙◌, ap, arith, drop, take, ◌++◌}
use Rattle.std.proofs.lemmas.List.{take-take, length-drop, length-take-le}
use Rattle.enc_encode.proofs.Digits.{reference_taken}
use Rattle.enc_encode.proofs.Puts.{stored}
use Rattle.enc_encode.proofs.reference.put_any.Goals as goal

pub returns-clause-put : goal.returns-clause-put
returns-clause-put c =
    let held = c.args.held.now in
    let from = c.args.from in
    let bytes = c.reference_at-place.result.0 in
    let place = c.reference_at-place.result.1 in
    let inside = c.reference_at-place.ensures.place in
    let long = c.reference_at-place.ensures.long in
    let rest = take (32 - place) (drop place bytes) in
    let lanes = take 16 rest in
    let left = length-drop place bytes in
    let whole = length-take-le (32 - place) (drop place bytes) (omega (arith, left, long)) in
    let lanes_long = length-take-le 16 rest (omega (arith, whole, inside)) in
    let n = 16 - place in
    let same = take-take n 16 rest (omega arith)
    ∙ take-take n (32 - place) (drop place bytes) (omega (arith, inside)) in
    stored held _ lanes from n 16 c.told-held lanes_long (omega arith) c.requires
    ∙ ap (λ z. take from held ++ z) (same
    ∙ reference_taken c.args.c place bytes (omega (arith, inside)) long c.reference_at-place.ensures.bytes)
