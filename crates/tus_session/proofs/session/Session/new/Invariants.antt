use Rattle.std.proofs.Common.{◌≡◌, ◌≤◌, ℕ, length, get_or, None, vec_capacity}
use Rattle.tus_session.proofs.session.Session.new.Given as goal
use Rattle.tus_session.specs.declared.session.TheConstants.{MOST_OPEN}

abbrev pub invariant-loop : goal.invariant-loop
invariant-loop g l = record {
  count : length l.links.items ≡ l.counter;
  all : (c : ℕ) → get_or l.links.items c None ≡ None;
  room : MOST_OPEN ≤ vec_capacity l.links;
}
