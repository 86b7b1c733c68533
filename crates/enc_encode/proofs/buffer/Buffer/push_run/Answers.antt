use Rattle.std.proofs.Common.{IfSome, subst}
use Rattle.enc_model.specs.Encode.{encoder}
use Rattle.enc_model.specs.Indexes.{tables}
use Rattle.enc_encode.specs.Runs.{Stays}
use Rattle.enc_encode.specs.Singles.{AreSingles, IsSingleByte}
use Rattle.enc_encode.specs.State.{shift_of}
use Rattle.enc_encode.proofs.RunPrefixes.{run_weaker}
use Rattle.enc_encode.proofs.buffer.Buffer.push_run.Goals as goal

pub returns-in-Some : goal.returns-in-Some
returns-in-Some c =
    let f = encoder (tables c.args.set.now) c.args.to in
    let s = shift_of c.args.shift in
    let singles = subst (λ z. IfSome z (λ p. AreSingles f p.now)) c.in-Some.is c.requires.singles in
    run_weaker (IsSingleByte c.in-Some.pointers.now) (Stays f s) _ _ _ _ (λ x b h. singles s x b h)
    c.push_singles.ensures
