use Rattle.std.proofs.Common.{◌∙◌, inl, inr}
use Rattle.gateway_up.proofs.serving.listen_at.Goals as goal

pub returns-in-Err : goal.returns-in-Err
returns-in-Err g c = record {
  heard = tt {0};
  unheard = (
    rw c.in-Err.is at c.listen.ensures,
    elim c.from.ensures [ inl e ↦ inl (c.new.ensures ∙ e) | inr e ↦ inr (c.new.ensures ∙ e) ],
  );
}
