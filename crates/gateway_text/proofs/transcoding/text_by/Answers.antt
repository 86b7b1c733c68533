use Rattle.std.proofs.Common.{◌∙◌, Ok, Err, sym}
use Rattle.gateway_text.proofs.transcoding.text_by.Goals as goal

pub returns-in-Ok : goal.returns-in-Ok
returns-in-Ok g c = record {
  answer = Ok tt;
  stored = c.in-Ok.ensures.stored;
  whole = c.in-Ok.ensures.whole;
  fault = tt;
  io = c.in-Ok.ensures.io;
  answers = (c.refuse_lost.ensures.ends, λ lax. c.refuse_lost.ensures.passes (λ strict. absurd (cc)));
}

pub returns-in-Err : goal.returns-in-Err
returns-in-Err g c = record {
  answer = Err c.in-Err.fault;
  stored = tt;
  whole = tt;
  fault = c.in-Err.ensures.refused;
  io = c.in-Err.ensures.io;
  answers = c.cut_text.ensures;
}
