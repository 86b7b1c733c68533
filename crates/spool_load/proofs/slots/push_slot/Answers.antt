use Rattle.std.proofs.Common.{◌≡◌, ◌∷◌, [], ◌++◌, ℕ, None, OnOk, Result, get_or, rules, sym, subst}
use Rattle.spool_pages.specs.Fits.{FitsSlotOf}
use Rattle.spool_pages.specs.View.{AreAt, slot_bytes, slot_place}
use Rattle.spool_load.specs.Reads.{SlotsAreAt}
use Rattle.spool_load.specs.declared.error.LoadError.{LoadError}
use Rattle.spool_load.proofs.Looks.{fit_push, at_push}
use Rattle.spool_load.proofs.slots.push_slot.Goals as goal
use Rattle.spool_load.proofs.slots.push_slot.Goals.{in-Ok, in-Err}

pub returns-clause-valid : goal.returns-clause-valid
returns-clause-valid g c bytes gave long was =
    let n = c.args.layout.now in
    let slot_there = c.in_ok-slot_there.slot_there in
    let P : Result (Unit {0}) LoadError
    → Type 0 = λ r. OnOk r (SlotsAreAt bytes n c.args.version c.push.new.self.items) in
    let S : ℕ → Type 0 = λ s. AreAt bytes (slot_place n s) 2048 (slot_bytes c.args.version slot_there) in
    elim c.match-push.branch [
      | in-Ok w ↦
          let items : c.push.new.self.items ≡ c.args.slots.now.items ++ slot_there ∷ [] = search rules in
          subst P (sym w.result-is)
          (at_push c.args.slots.now.items slot_there _ items bytes n c.args.version was
          (subst S (sym long) (c.in_ok-slot_there.ensures.are_at bytes gave)))
      | in-Err w ↦ subst P (sym w.result-is) tt
    ]

pub returns-clause-fits : goal.returns-clause-fits
returns-clause-fits g c was =
    let P : Result (Unit {0}) LoadError
    → Type 0 = λ r. OnOk r ((s : ℕ) → FitsSlotOf (get_or c.push.new.self.items s None)) in
    elim c.match-push.branch [
      | in-Ok w ↦
          let items : c.push.new.self.items ≡ c.args.slots.now.items ++ c.in_ok-slot_there.slot_there ∷ [] = search
          rules in
          subst P (sym w.result-is)
          (fit_push c.args.slots.now.items c.in_ok-slot_there.slot_there _ items was c.in_ok-slot_there.ensures.fits)
      | in-Err w ↦ subst P (sym w.result-is) tt
    ]
