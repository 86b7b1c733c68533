use Rattle.std.proofs.Common.{refl, arith}
use Rattle.std.proofs.lemmas.Grind.{common_steps}
use Rattle.enc_unicode.proofs.After.{after_lead}
use Rattle.enc_unicode.proofs.utf8.Utf8State.first.Goals as goal

pub needs-requires-clause-after : goal.needs-requires-clause-after
needs-requires-clause-after c = after_lead c.args.b _ refl (grind (arith, common_steps))

pub needs-requires-in-224-to-239-clause-after : goal.needs-requires-in-224-to-239-clause-after
needs-requires-in-224-to-239-clause-after c = after_lead c.args.b _ refl (grind (arith, common_steps))

pub needs-requires-in-240-to-244-clause-after : goal.needs-requires-in-240-to-244-clause-after
needs-requires-in-240-to-244-clause-after c = after_lead c.args.b _ refl (grind (arith, common_steps))
