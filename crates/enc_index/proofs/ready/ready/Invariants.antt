use Rattle.std.proofs.Common.{◌≡◌, take}
use Rattle.enc_index.proofs.ready.ready.Given as goal

abbrev pub invariant-loop-code : goal.invariant-loop-code
invariant-loop-code l = l.ready.items ≡ take l.code-index l.codes
