use Rattle.std.proofs.Common.{◌≡◌, ◌<◌, ℕ, true}
use Rattle.upload_rules.specs.Drafts.{draft_at}
use Rattle.upload_rules.specs.World.{is_there}
use Rattle.upload_rules.proofs.drafts.free_number.Given as goal

abbrev pub invariant-loop-number : goal.invariant-loop-number
invariant-loop-number g l = (d : ℕ) → d < l.number → is_there (draft_at l.drafts d) ≡ true
