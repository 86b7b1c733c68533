use Rattle.gateway_engine.proofs.Joining.{opened_left, ran_left}
use Rattle.gateway_engine.proofs.laws.runs_join.Goals as goal

pub returns : goal.returns
returns g c = record {
  opened = λ before opened n t m ms le among left lasts shown.
      opened_left g.D.Disk before opened n m (g.met.D.Disk.counts_now before) shown.honest shown.room lasts t ms le
      left among;
  ran = λ before opened now n t m stores ms le among all left lasts shown over.
      ran_left g.D.Disk before opened n m (g.met.D.Disk.counts_now before) shown.honest shown.room lasts now t stores
      ms le left among all over;
}
