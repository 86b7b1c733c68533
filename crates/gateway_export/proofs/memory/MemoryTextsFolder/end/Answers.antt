use Rattle.std.proofs.Common.{◌≡◌, ◌∙◌, ap, inl, rules, subst, sym, true, List, ℕ, Option, Some, None, option_map}
use Rattle.gateway_outside.specs.Files.{Files}
use Rattle.gateway_export.specs.Folders.{with_file}
use Rattle.gateway_export.specs.Memory.{HoldsFiles, takes_in, text_in}
use Rattle.gateway_export.proofs.Finding.{added_held, all_more, all_same, holds_same, text_same}
use Rattle.gateway_export.proofs.memory.MemoryTextsFolder.end.Goals as goal
use Rattle.gateway_export.proofs.memory.MemoryTextsFolder.end.Goals.{then-needed, else-needed}

pub returns-then-not-takes-clause-failed : goal.returns-then-not-takes-clause-failed
returns-then-not-takes-clause-failed c files bytes held is =
    elim c.if-needed.branch [
      | then-needed w ↦ rw w.result-is (inl (holds_same c.args.self.now c.if-needed.self
          (ap text_in w.self-is ∙ w.refuse.ensures.texts) files held))
      | else-needed w ↦ rw w.result-is tt
    ]

pub returns-then-not-takes-clause-preserves : goal.returns-then-not-takes-clause-preserves
returns-then-not-takes-clause-preserves c files held =
    let same : text_in c.if-needed.self ≡ text_in c.args.self.now =
    elim c.if-needed.branch [
      | then-needed w ↦ ap text_in w.self-is ∙ w.refuse.ensures.texts
      | else-needed w ↦ ap text_in w.self-is
    ] in
    all_same c.args.self.now c.if-needed.self same files held

pub returns-then-is_some-clause-failed : goal.returns-then-is_some-clause-failed
returns-then-is_some-clause-failed c files bytes held is =
    inl (holds_same c.args.self.now c.refuse-then-is_some.new.self c.refuse-then-is_some.ensures.texts files held)

pub returns-then-is_some-clause-preserves : goal.returns-then-is_some-clause-preserves
returns-then-is_some-clause-preserves c files held =
    all_same c.args.self.now c.refuse-then-is_some.new.self c.refuse-then-is_some.ensures.texts files held

pub returns-in-Ok-clause-ended : goal.returns-in-Ok-clause-ended
returns-in-Ok-clause-ended c files bytes held is =
    let name = c.args.name.now in
    let added = c.in-Ok.ensures.added in
    let none : c.text.result ≡ None = search rules in
    let taken : takes_in c.args.self.now c.args.name.now ≡ true = search rules in
    let nothing = held name ∙ (sym c.text.ensures ∙ ap (λ x. option_map (λ bytes. bytes.now) x) none) in
    let same : c.args.file.items ≡ bytes = cc in (
      nothing,
      subst (λ (b : List ℕ). HoldsFiles c.add.new.self (with_file files name b)) (added.3 ∙ same)
          (added_held c.args.self.now c.add.new.self added.0 files name held added.1 c.in-Ok.ensures.longest taken
          added.2 nothing),
    )

pub returns-in-Ok-clause-preserves : goal.returns-in-Ok-clause-preserves
returns-in-Ok-clause-preserves c files held =
    let name = c.args.name.now in
    let added = c.in-Ok.ensures.added in
    let none : c.text.result ≡ None = search rules in
    let taken : takes_in c.args.self.now c.args.name.now ≡ true = search rules in
    let nothing = held name ∙ (sym c.text.ensures ∙ ap (λ x. option_map (λ bytes. bytes.now) x) none) in
    all_more c.add.new.self files name added.0.content.items nothing
    (added_held c.args.self.now c.add.new.self added.0 files name held added.1 c.in-Ok.ensures.longest taken added.2
    nothing)

pub returns-in-Err-clause-preserves : goal.returns-in-Err-clause-preserves
returns-in-Err-clause-preserves c files held =
    all_same c.args.self.now c.add.new.self
    (text_same c.args.self.now c.add.new.self c.in-Err.ensures.same c.in-Err.ensures.longest) files held
