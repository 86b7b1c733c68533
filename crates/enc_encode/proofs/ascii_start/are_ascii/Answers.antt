use Rattle.std.proofs.Common.{◌≡◌, ◌<◌, ◌∙◌, All, length, take, sym, ap, subst, arith}
use Rattle.std.proofs.lemmas.Bool.{OnTrue_from}
use Rattle.std.proofs.lemmas.Bool.Decides.{nat_tests}
use Rattle.std.proofs.Math.Seq.{take-length}
use Rattle.enc_feed.proofs.Prefixes.{prefix_all}
use Rattle.enc_encode.proofs.ascii_start.are_ascii.Goals as goal

pub returns : goal.returns
returns c =
    let bytes = c.args.bytes.now in
    let prefix = c.ascii_front.ensures in
    OnTrue_from _ _ (λ e.
    let whole : c.ascii_front.result ≡ length bytes = grind (arith, nat_tests, e) in
    subst (All (λ b. b < 128)) (ap (λ n. take n bytes) (sym prefix ∙ whole) ∙ take-length bytes) (prefix_all bytes))
