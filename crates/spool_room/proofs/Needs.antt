-- What a patch wants, in numbers.
use Rattle.std.proofs.Common.{◌≡◌, ℕ, ◌+◌, ◌-◌, ◌/◌, ◌%◌, ◌≤◌, if◌then◌else◌, Bool, length, Option, None, Some, refl}
use Rattle.std.proofs.Common.{◌∙◌, arith}
use Rattle.std.proofs.lemmas.Bool.{ne_eqb}
use Rattle.spool_journal.specs.declared.TheConstants.{PAGE}
use Rattle.enc_model.specs.Indexes.{IndexSet}
use Rattle.upload_rules.specs.Store.{text_of}
use Rattle.upload_rules.specs.World.{Patch, patch_text, is_there}
use Rattle.upload_rules.specs.Room.{need_of, text_need, wants}
use Rattle.spool_room.specs.Holdings.{added_count}

wants_is : (x : IndexSet) (p : Patch) (done : Bool) → wants x p done ≡ text_need (length (text_of x p.began))
    (patch_text x p done)
unfolding wants
wants_is x p done = refl

needs_none : (t : ℕ) → need_of t 0 ≡ 0
needs_none t = refl

needs_some : (t a : ℕ) → 1 ≤ a → need_of t a ≡ (t % PAGE + a + 4095) / PAGE
needs_some t a some = rw (ne_eqb a 0 (λ e. absurd (omega (arith, some, e)))) (after t a)
  where
    after : (t a : ℕ) → (t + a + 4095) / PAGE - t / PAGE ≡ (t % PAGE + a + 4095) / PAGE
    after t a = omega arith

module _ (x : IndexSet) (p : Patch) (done : Bool) where
  pub wants_some : (patch_text x p done).fault ≡ None → 1 ≤ added_count x p done
      → wants x p done ≡ (length (text_of x p.began) % PAGE + added_count x p done + 4095) / PAGE
  wants_some fine some = wants_is x p done ∙ rw fine (needs_some (length (text_of x p.began)) (added_count x p done)
      some)

  pub wants_none : added_count x p done ≡ 0 → wants x p done ≡ 0
  wants_none none = wants_is x p done ∙ by_fault (patch_text x p done).fault
    where
      by_fault : (f : Option ℕ) → (if is_there f then 0 else need_of (length (text_of x p.began))
          (added_count x p done)) ≡ 0
      by_fault None = rw none refl
      by_fault (Some c) = refl

  pub wants_fault : (c : ℕ) → (patch_text x p done).fault ≡ Some c → wants x p done ≡ 0
  wants_fault c fault = wants_is x p done ∙ rw fault refl
