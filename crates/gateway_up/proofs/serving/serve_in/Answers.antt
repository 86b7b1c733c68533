use Rattle.gateway_up.proofs.serving.serve_in.Goals as goal

pub returns : goal.returns
returns g c = record { serves = (c.local.result, c.local.ensures, c.serve_term.ensures) }
