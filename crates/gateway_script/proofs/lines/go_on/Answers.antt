use Rattle.gateway_script.proofs.Reaching.{flow_open}
use Rattle.gateway_script.proofs.lines.go_on.Goals as goal

pub returns-in-None-clause-does : goal.returns-in-None-clause-does
returns-in-None-clause-does g c = λ sure before st r prefix given at.
    flow_open _ r c.args.answer given c.args.conn c.give_text.result c.in-None.ensures
    (c.give_text.ensures.does sure before st r prefix at)
