use Rattle.std.proofs.Common.{arith, ap, ◌≡◌}
use Rattle.std.proofs.lemmas.List.{take_more_set}
use Rattle.std.proofs.lemmas.Grind.{common_steps}
use Rattle.enc_model.specs.Utf8.{Utf8}
use Rattle.enc_unicode.proofs.After.{after_next}
use Rattle.enc_unicode.proofs.utf8.Utf8State.next.Goals as goal

pub invariant_of-self-2 : goal.invariant_of-self-2
invariant_of-self-2 c =
    let needed : c.self.inside.needed ≡ c.args.self.now.needed = ap (λ (s : Utf8). s.needed) c.self.view_is in
    let lower : c.self.inside.lower ≡ c.args.self.now.lower = ap (λ (s : Utf8). s.lower) c.self.view_is in
    let upper : c.self.inside.upper ≡ c.args.self.now.upper = ap (λ (s : Utf8). s.upper) c.self.view_is in (
      grind (arith, common_steps),
      after_next _ c.args.b _ c.self.invariant.1 (omega arith) (omega arith) (omega arith) (omega arith)
          (take_more_set c.self.inside.partial c.self.inside.current c.args.b (omega arith)),
    )
