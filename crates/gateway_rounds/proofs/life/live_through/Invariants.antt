use Rattle.std.proofs.Common.{◌≡◌, ◌≤◌, ℕ, List, get_or, length, take}
use Rattle.upload_rules.specs.Store.{Store}
use Rattle.gateway_engine.specs.RanOn.{AllShowOne}
use Rattle.gateway_rounds.specs.declared.round.Round.{Round}
use Rattle.gateway_rounds.specs.Rounds.{Lives}
use Rattle.gateway_rounds.proofs.life.live_through.Given as goal

abbrev pub invariant-loop-i : goal.invariant-loop-i
invariant-loop-i g l = record {
  as_long : length l.rounds ≡ length l.fn.rounds;
  rest : (k : ℕ) (r : Round g.row.D-How.Denot) → l.i ≤ k → get_or l.rounds k r ≡ get_or l.fn.rounds k r;
  lived : (n : ℕ) (stores : List Store) → AllShowOne g.D.Disk l.fn.disk n stores
      → (now : List Store) × AllShowOne g.D.Disk l.disk n now × Lives g.D.Disk g.D.CrashDisk.chosen n l.fn.disk stores
      (take l.i l.fn.rounds) (take l.i l.rounds) l.disk now;
}
