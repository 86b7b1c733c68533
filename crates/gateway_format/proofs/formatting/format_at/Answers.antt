use Rattle.std.proofs.Common.{Ok, Err, inl, inr, refl}
use Rattle.gateway_format.proofs.formatting.format_at.Goals as goal

pub returns-in-Err : goal.returns-in-Err
returns-in-Err g c = record {
  formats = inl (record { refused = c.in-Err.ensures.refused; kept = λ disks held. held; unprinted = refl });
}

pub returns-in-Ok-format_wanted : goal.returns-in-Ok-format_wanted
returns-in-Ok-format_wanted g c = record {
  formats = inr (record {
    set = _;
    files = _;
    read = c.in-Ok.ensures.read;
    are_standard = λ standard. (c.in-Ok.ensures.read.told, c.in-Ok.ensures.standard standard);
    answer = Ok c.in-Ok-format_wanted.made;
    formats = c.in-Ok-format_wanted.ensures;
    answers = (c.tell_made.ensures.refused, c.tell_made.ensures.line);
  });
}

pub returns-in-Err-format_wanted : goal.returns-in-Err-format_wanted
returns-in-Err-format_wanted g c = record {
  formats = inr (record {
    set = _;
    files = _;
    read = c.in-Ok.ensures.read;
    are_standard = λ standard. (c.in-Ok.ensures.read.told, c.in-Ok.ensures.standard standard);
    answer = Err c.in-Err-format_wanted.failure;
    formats = c.in-Err-format_wanted.ensures;
    answers = (refl, refl);
  });
}
