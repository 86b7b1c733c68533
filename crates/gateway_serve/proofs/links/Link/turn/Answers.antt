use Rattle.gateway_serve.proofs.Joints.{same_joins}
use Rattle.gateway_serve.proofs.Lost.{lost_by}
use Rattle.gateway_serve.proofs.links.Link.turn.Goals as goal

pub returns-in-Ok-clause-serves : goal.returns-in-Ok-clause-serves
returns-in-Ok-clause-serves g c = λ sure before st past ended went joins.
    let s = c.in-Ok.ensures.serves sure before st past ended went joins in
    (s.0, s.1, (s.2.0, same_joins sure ended st s.0 c.args.conn _ _ c.left_at.ensures.same s.2.1))

pub returns-in-Ok-clause-lost : goal.returns-in-Ok-clause-lost
returns-in-Ok-clause-lost g c =
    lost_by _ _ c.in-Ok.left c.left_at.result _ c.left_at.ensures.socket c.in-Ok.ensures.lost c.left_at.ensures.lost
