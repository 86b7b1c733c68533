use Rattle.std.proofs.Common.{true}
use Rattle.tus_request.specs.Buffers.{head_bytes}
use Rattle.tus_session.specs.Represents.{IsPatching}
use Rattle.tus_session.proofs.Limiting.{limits_to}
use Rattle.tus_session.proofs.Mores.{no_draft, ends_idle, ends_cut, ends_store}
use Rattle.tus_session.proofs.turns.end_of.Goals as goal

pub returns-in-Patch-clause-answer : goal.returns-in-Patch-clause-answer
returns-in-Patch-clause-answer g c sure w conn represents link =
    let b = c.in-Patch.patch in
    let is : IsPatching g.U.Uploads w conn (head_bytes c.args.link.head) b _ = rw c.in-Patch.is at link in
    ends_cut g.U.Uploads sure w conn _ b _ is _ c.cut.result
    (c.cut.ensures.answer sure w is.p represents is.patches.found is.patches.holds)

pub returns-in-Patch-clause-crash : goal.returns-in-Patch-clause-crash
returns-in-Patch-clause-crash g c w conn represents link =
    let b = c.in-Patch.patch in
    let is : IsPatching g.U.Uploads w conn (head_bytes c.args.link.head) b _ = rw c.in-Patch.is at link in
    limits_to (ends_store g.U.Uploads true w conn _ b _ is)
    (c.cut.ensures.crash w is.p represents is.patches.found is.patches.holds)

pub returns-in-Head-clause-answer : goal.returns-in-Head-clause-answer
returns-in-Head-clause-answer g c sure w conn represents link =
    ends_idle g.U.Uploads sure _ w conn represents (no_draft g.U.Uploads sure w _ _ conn link c.in-Head.is)
