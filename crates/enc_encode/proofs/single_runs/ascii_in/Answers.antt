use Rattle.std.proofs.Common.{◌<◌, All, take, sym, subst, arith}
use Rattle.std.proofs.lemmas.List.Sums.{prefix_len-le-length}
use Rattle.std.specs.Char.{is_ascii}
use Rattle.enc_feed.proofs.Prefixes.{prefix_all}
use Rattle.enc_encode.proofs.single_runs.ascii_in.Goals as goal

pub returns-clause-within : goal.returns-clause-within
returns-clause-within c =
    let few = prefix_len-le-length is_ascii c.args.lanes.now in
    let same = c.ascii_chunk.ensures in
    let long = c.told-lanes in
    omega (arith, few, same, long)

pub returns-clause-ascii : goal.returns-clause-ascii
returns-clause-ascii c =
    subst (λ n. All (λ b. b < 128) (take n c.args.lanes.now)) (sym c.ascii_chunk.ensures) (prefix_all c.args.lanes.now)
