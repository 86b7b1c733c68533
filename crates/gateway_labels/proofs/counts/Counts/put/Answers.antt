use Rattle.std.proofs.Common.{◌∙◌, ◌+◌, ◌-◌, ◌^◌, ap, min, sym}
use Rattle.gateway_labels.proofs.Counting.{last_push, lost_more, strangeness_more}
use Rattle.gateway_labels.proofs.counts.Counts.put.Goals as goal

pub returns : goal.returns
returns c before is =
    let counts = c.args.self.now in
    record {
      lost =
          c.saturating_add-self.ensures ∙ ap (λ n. min (counts.lost + n) (2 ^ 64 - 1)) c.losses_in.ensures
          ∙ lost_more counts before c.args.c is;
      strangeness =
          c.saturating_add-self-2.ensures
          ∙ ap (λ n. min (counts.strangeness + n) (2 ^ 64 - 1)) c.weight_of-weight.ensures
          ∙ strangeness_more counts before c.args.c is;
      last = sym (last_push 32 before c.args.c);
    }
