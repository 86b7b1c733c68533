use Rattle.std.proofs.Common.{subst, take, drop, length, length-drop, ◌-◌, arith}
use Rattle.std.specs.Str.{IsUtf8}
use Rattle.std.proofs.lemmas.List.{take_rest, length-take-le}
use Rattle.enc_unicode.proofs.Scans.{text_goes_on}
use Rattle.enc_unicode.proofs.by_characters.text_before_fault.Goals as goal

pub by_characters-preserved : goal.by_characters-preserved
by_characters-preserved c =
    let bytes = c.args.bytes.now in
    let at = c.by_characters.at in
    let n = c.text_len-len.result in
    let found = c.text_len-len.ensures in
    let rest = length-take-le (length bytes - at) (drop at bytes) (omega (arith, length-drop at bytes)) in (
      omega (arith, found.few, rest, c.by_characters.invariant.0),
      text_goes_on bytes at n c.by_characters.invariant.1
          (subst (λ rest. IsUtf8 (take n rest)) (take_rest bytes at) found.utf8),
    )
