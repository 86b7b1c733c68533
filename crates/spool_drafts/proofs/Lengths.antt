-- How many blocks a text needs after the committed one's full blocks, and what the lengths of an upload decide.
use Rattle.std.proofs.Common.{◌≡◌, ℕ, ◌+◌, ◌-◌, ◌/◌, ◌%◌, ◌<◌, ◌≤◌, false, length, List, Option, Some, None, refl}
use Rattle.std.proofs.Common.{arith, ap, inl, inr, ◌∙◌}
use Rattle.std.proofs.lemmas.Bool.{cases_eq, ne_eqb}
use Rattle.spool_journal.specs.declared.TheConstants.{PAGE}
use Rattle.upload_rules.specs.Lengths.{is_length, known_or, longest}
use Rattle.upload_rules.specs.Store.{Upload, is_complete, accepted_count}
use Rattle.upload_rules.specs.Room.{need_of}
use Rattle.spool_texts.specs.Drafts.{Draft, len_of}
use Rattle.spool_drafts.specs.Progress.{HoldsLen}

pub need_some : (t n : ℕ) → t % PAGE < n → need_of t (n - t % PAGE) ≡ (n + 4095) / PAGE
need_some t n lt = rw (ne_eqb (n - t % PAGE) 0 (λ e. omega (arith, e, lt))) (omega (arith, lt))

-- the blocks that a text has with k bytes more are as many as it needs
module _ (len n k : ℕ) (old : Draft) (holds : HoldsLen len old n) where
  pub need_some_more : 1 ≤ k → (len_of old + k + 4095) / PAGE ≡ need_of len ((n + k) - len % PAGE)
  need_some_more some =
      omega (arith, holds.count, need_some len (n + k) (omega (arith, holds.some, some)))

  pub need_more : (list : List ℕ) → (k ≡ 0 → list ≡ old.blocks)
      → (1 ≤ k → length list ≡ (len_of old + k + 4095) / PAGE) → length list ≡ need_of len ((n + k) - len % PAGE)
  need_more list same listed = elim (cases_eq k 0) [
    | inl none ↦
        ap length (same none) ∙ holds.listed
        ∙ ap (λ (m : ℕ). need_of len (m - len % PAGE)) (omega (arith, none))
    | inr some ↦ listed (omega (arith, some)) ∙ need_some_more (omega (arith, some))
  ]

-- an upload that has room for one byte more isn't complete
pub is_open : (u : Upload) (declare : Option ℕ) (count : ℕ) → 0 < count
    → accepted_count u + count ≤ longest (known_or u.declared declare) → is_complete u ≡ false
is_open u declare count some fits = by_length u.declared fits
  where
    by_length : (known : Option ℕ) → accepted_count u + count ≤ longest (known_or known declare)
        → is_length known (accepted_count u) ≡ false
    by_length None fits = refl
    by_length (Some n) fits = ne_eqb (accepted_count u) n (λ e. omega (arith, e, some, fits))
