use Rattle.std.proofs.Common.{ℕ, [], ◌∷◌, ◌++◌, ◌<◌, ◌-◌, length, take, drop, refl, arith}
use Rattle.enc_feed.specs.BatchLaws.{batch_sink}
use Rattle.enc_unicode.proofs.CutChars.{more_cuts, rest_inside}
use Rattle.enc_unicode.proofs.cuts.push_cuts.Goals as goal

pub by_characters-preserved : goal.by_characters-preserved
by_characters-preserved c =
    let bytes = c.args.bytes.now in
    let at = c.by_characters.at in
    let len = c.cut_len-len.result in
    let rest = take (length bytes - at) (drop at bytes) in
    let some : 0 < len = omega (arith, c.if-len-eq0.false) in
    let text = c.by_characters.invariant.2.0 in
    let cuts = more_cuts bytes rest at len text (0xFFFD ∷ []) refl c.by_characters.invariant.2.1
    (c.cut_len-len.ensures.cut some) in
    let took = (batch_sink {E = ℕ}).both c.args.batch.now c.by_characters.batch c.push.new.self text (0xFFFD ∷ [])
    c.by_characters.invariant.2.2 c.push.ensures in
    let within = c.cut_len-len.ensures.within in
    let size = c.push.ensures.size in
    let so_far = c.by_characters.invariant.1 in (
      rest_inside bytes at len within,
      omega (arith, size, so_far, some),
      (text ++ 0xFFFD ∷ [], cuts, took),
    )
