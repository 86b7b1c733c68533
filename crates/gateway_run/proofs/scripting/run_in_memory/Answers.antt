use Rattle.std.proofs.Common.{◌∙◌, Ok, Err, inl, inr, refl}
use Rattle.gateway_run.proofs.Told.{either_none, refused_told}
use Rattle.gateway_run.proofs.scripting.run_in_memory.Goals as goal

pub returns-in-Err : goal.returns-in-Err
returns-in-Err g c = record {
  runs = inl (c.from.ensures ∙ c.in-Err.ensures.refused, (refl, refl));
  io = either_none _ _ _ (λ io. let is = c.from.ensures ∙ c.in-Err.ensures.refused in absurd (cc));
}

pub returns-in-Ok-run : goal.returns-in-Ok-run
returns-in-Ok-run g c = let ran = c.in-Ok-run.ensures in record {
  runs = inr (record {
    d = c.in-Ok.disk;
    fresh = c.in-Ok.ensures.fresh;
    run = Ok c.in-Ok-run.disk;
    runs = record {
      runs = ran.runs;
      writes = ran.writes;
      given = ran.given;
      exact = ran.exact;
      unopened = ran.unopened;
      unwritten = ran.unwritten;
      same = ran.same;
      counts = ran.counts;
    };
    answers = tt {0};
  });
  io = ran.io;
}

pub returns-in-Err-run : goal.returns-in-Err-run
returns-in-Err-run g c = let ran = c.in-Err-run.ensures in record {
  runs = inr (record {
    d = c.in-Ok.disk;
    fresh = c.in-Ok.ensures.fresh;
    run = Err (c.in-Err-run._disk, c.in-Err-run.fault);
    runs = record {
      runs = ran.runs;
      writes = ran.writes;
      given = ran.given;
      exact = ran.exact;
      unopened = ran.unopened;
      unwritten = ran.unwritten;
      same = ran.same;
      counts = ran.counts;
    };
    answers = c.from-in-Err-run.ensures ∙ c.fault_of.ensures;
  });
  io = refused_told c.in-Err-run._disk c.in-Err-run.fault c.from-in-Err-run.result _ _ _ _
      (c.from-in-Err-run.ensures ∙ c.fault_of.ensures) ran.io;
}
