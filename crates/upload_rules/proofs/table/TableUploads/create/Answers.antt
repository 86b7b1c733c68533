use Rattle.std.proofs.Common.{◌≡◌, ◌<◌, ◌∙◌, false, [], ◌∷◌, ◌++◌, not, ap, refl, sym, arith, length}
use Rattle.std.proofs.Common.{if◌then◌else◌}
use Rattle.common.specs.declared.limits.TheConstants.{SLOTS}
use Rattle.upload_rules.specs.Lengths.{is_too_large}
use Rattle.upload_rules.proofs.Makes.{many, spent_numbers, creatable, not_created}
use Rattle.upload_rules.proofs.Worlds.{creates}
use Rattle.upload_rules.proofs.table.TableUploads.create.Goals as goal
use Rattle.upload_rules.proofs.table.TableUploads.create.Goals.{then-len-via-then-len}
use Rattle.upload_rules.proofs.table.TableUploads.create.Goals.{then-len-via-else-len+then-self-ge-NUMBERS_END}

pub returns-then-len-clause-answer : goal.returns-then-len-clause-answer
returns-then-len-clause-answer c = λ sure w represents.
    let t = c.args.self.now in
    let small : is_too_large c.args.new.declared ≡ false =
    rw (sym c.new.view_is, sym c.is_too_large.ensures) c.if-is_too_large.false in
    let long = c.len.ensures in (
      elim c.then-len.branch [
        | then-len-via-then-len v ↦ many t w represents c.args.new small
            (omega (arith, v.if-len.true, long))
        | then-len-via-else-len+then-self-ge-NUMBERS_END v ↦
            spent_numbers t w represents c.args.new small (omega (arith, v.if-len.false, long))
            v.if-self-ge-NUMBERS_END.true
      ],
      represents,
    )

pub returns-then-is_err-clause-answer : goal.returns-then-is_err-clause-answer
returns-then-is_err-clause-answer c = λ sure w represents.
    let t = c.args.self.now in
    let small : is_too_large c.args.new.declared ≡ false =
    rw (sym c.new.view_is, sym c.is_too_large.ensures) c.if-is_too_large.false in
    let room : length t.slots.items < SLOTS = omega (arith, c.if-len.false, c.len.ensures) in
    let more = t.slots.items ++ c.new-2.result ∷ [] in (
      rw (creatable t w represents c.args.new small room c.if-self-ge-NUMBERS_END.false) tt,
      not_created t w represents c.push.new.self
          (c.push.ensures.items ∙ ap (λ b. if b then more else t.slots.items)
          (c.is_err.ensures.negation ∙ ap not c.if-is_err.true)),
    )

pub returns-clause-answer : goal.returns-clause-answer
returns-clause-answer c = λ sure w represents.
    let t = c.args.self.now in
    let small : is_too_large c.args.new.declared ≡ false =
    rw (sym c.new.view_is, sym c.is_too_large.ensures) c.if-is_too_large.false in
    let room : length t.slots.items < SLOTS = omega (arith, c.if-len.false, c.len.ensures) in
    let more = t.slots.items ++ c.new-2.result ∷ [] in (
      creatable t w represents c.args.new small room c.if-self-ge-NUMBERS_END.false,
      (
        represents.next,
        creates t w represents c.args.new c.new-2.result c.push.new.self _
            (c.push.ensures.items ∙ ap (λ b. if b then more else t.slots.items)
            (c.is_err.ensures.negation ∙ ap not c.if-is_err.false)) refl (c.new-2.ensures w.store.indexes),
      ),
    )
