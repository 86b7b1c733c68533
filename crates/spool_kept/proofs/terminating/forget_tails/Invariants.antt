use Rattle.std.proofs.Common.{◌≡◌, ◌<◌, ◌≤◌, ℕ, length}
use Rattle.upload_rules.specs.Drafts.{draft_at}
use Rattle.spool_kept.specs.Terminating.{ForgetsOf}
use Rattle.spool_kept.proofs.terminating.forget_tails.Given as goal

abbrev pub invariant-loop-place : goal.invariant-loop-place
invariant-loop-place l = record {
  size : length l.drafts.items ≡ length l.fn.drafts.items;
  done : (d : ℕ) → d < l.place → ForgetsOf l.number (draft_at l.fn.drafts.items d) (draft_at l.drafts.items d);
  left : (d : ℕ) → l.place ≤ d → draft_at l.drafts.items d ≡ draft_at l.fn.drafts.items d;
}
