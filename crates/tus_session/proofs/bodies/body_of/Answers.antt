use Rattle.std.proofs.Common.{◌≡◌, ◌≤◌, ◌+◌, length, take, arith}
use Rattle.std.proofs.lemmas.List.{length-take-le}
use Rattle.tus_session.proofs.bodies.body_of.Goals as goal

pub returns-else-bytes-left-clause-rest_crash : goal.returns-else-bytes-left-clause-rest_crash
returns-else-bytes-left-clause-rest_crash g c enough w p r represents found holds few =
    let l : length (take c.args.left c.args.bytes.now) ≡ c.args.left =
    length-take-le c.args.left c.args.bytes.now enough in
    let short : length p.body + length (take c.args.left c.args.bytes.now) ≤ p.count = omega arith in
    c.last_of.ensures.crash w p r represents found holds short
