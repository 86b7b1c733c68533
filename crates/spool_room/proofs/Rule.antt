-- The rule of room by the counts.
use Rattle.std.proofs.Common.{◌≡◌, ℕ, ◌+◌, ◌<◌, ◌≤◌, ◌||◌, nat_lt, List, Bool, true, false, length, Some, refl, ◌∙◌}
use Rattle.std.proofs.Common.{arith}
use Rattle.std.proofs.lemmas.Bool.Decides.{nat_tests}
use Rattle.spool_blocks.specs.Blocks.{Held, free_count}
use Rattle.spool_blocks.proofs.Counts.{rows_count}
use Rattle.spool_blocks.proofs.Totals.{none_free}
use Rattle.upload_rules.specs.World.{Patch, World}
use Rattle.upload_rules.specs.Room.{used, needs_but, wants, is_short}
use Rattle.spool_room.specs.Holdings.{IsHeldBy, IsFull, RuleHolds, blocks_taken}
use Rattle.spool_room.proofs.Texts.{owned_used}
use Rattle.spool_room.proofs.Drafts.{reserved_needs}

-- the blocks of the texts and of the other patches
abbrev others : World → ℕ → ℕ
others w d = used w.store.indexes w.store.uploads + needs_but d w.store.indexes w.patches

at_most : (a b : ℕ) → b ≤ a → nat_lt a b ≡ false
at_most a b le = grind (arith, nat_tests)

more : (a b : ℕ) → a < b → nat_lt a b ≡ true
more a b lt = grind (arith, nat_tests)

or_false : (a b : Bool) → a ≡ false → b ≡ false → (a || b) ≡ false
or_false true b e f = absurd cc
or_false false b e f = f

or_true : (a b : Bool) → b ≡ true → (a || b) ≡ true
or_true true b e = refl
or_true false b e = e

module _ (w : World) (d : ℕ) (p : Patch) (done : Bool) where
  was_short : p.short ≡ true → is_short w d p done ≡ true
  unfolding is_short
  was_short e = rw e refl

  module _ (n : ℕ) (limit : w.blocks ≡ Some n) where
    by_limit : is_short w d p done ≡ (p.short || nat_lt n (others w d + wants w.store.indexes p done))
    unfolding is_short
    by_limit = rw limit refl

    fits : p.short ≡ false → others w d + wants w.store.indexes p done ≤ n → is_short w d p done ≡ false
    fits e le = by_limit ∙ or_false p.short (nat_lt n (others w d + wants w.store.indexes p done)) e
        (at_most n (others w d + wants w.store.indexes p done) le)

    exceeds_limit : n < others w d + wants w.store.indexes p done → is_short w d p done ≡ true
    exceeds_limit lt = by_limit ∙ or_true p.short (nat_lt n (others w d + wants w.store.indexes p done))
        (more n (others w d + wants w.store.indexes p done) lt)

module _ (w : World) (slots : ℕ → ℕ) (lists : ℕ → List ℕ) (d : ℕ) (h : Held) (size : length h.reserved ≡ length h.rows)
    (held : IsHeldBy w slots lists d h) where
  total : free_count h.rows h.reserved + blocks_taken w d (lists d) ≡ length h.rows
  total = omega (
    arith,
    rows_count h.rows h.reserved size,
    owned_used w.store.indexes w.store.uploads slots h.rows held.texts,
    reserved_needs w.store.indexes w.patches lists d h held.drafts,
  )

  at_full : IsFull h → blocks_taken w d (lists d) ≡ length h.rows
  at_full full = omega (arith, total, none_free h.rows h.reserved full)

  pub rule_holds : RuleHolds w d (lists d) h
  rule_holds = record {
    fits = omega (arith, total);
    full = at_full;
    enough = λ p done e le. fits w d p done (length h.rows) held.limit e (omega (arith, total, le));
    lacking = λ p done full lt. exceeds_limit w d p done (length h.rows) held.limit (omega (arith, at_full full, lt));
    stays = λ p done e. was_short w d p done e;
  }
