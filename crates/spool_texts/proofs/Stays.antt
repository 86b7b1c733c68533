-- What a draft holds, where other blocks are written, or none.
use Rattle.std.proofs.Common.{◌≡◌, ◌≤◌, ◌*◌, ◌++◌, ℕ, List, [], ◌∷◌, Option, None, Some, take, refl, sym, ◌∙◌, ap}
use Rattle.std.proofs.Common.{arith}
use Rattle.std.proofs.Common.{length-take}
use Rattle.std.proofs.lemmas.List.{get_or-take}
use Rattle.spool_journal.specs.declared.TheConstants.{PAGE}
use Rattle.spool_texts.specs.Drafts.{Draft, draft_bytes, content_on, full_count, prefix_on, tail_list, tail_on}
use Rattle.spool_texts.specs.Drafts.{unread_on}
use Rattle.spool_texts.specs.Written.{NoneOf, SameOutside}
use Rattle.spool_texts.specs.declared.block_text.Unread.{Unread}
use Rattle.spool_texts.proofs.Prefixes.{blocks_unchanged, blocks_same}

both : {a b c d : List ℕ} → a ≡ b → c ≡ d → a ++ c ≡ b ++ d
both e f = cc

module _ (current current' : ℕ → ℕ) (first : ℕ) (blocks : List ℕ) (same : SameOutside first blocks current current')
  where
    prefix_unchanged : (tail : Option ℕ) (n : ℕ) → NoneOf (tail_list tail) blocks
        → prefix_on current' first tail n ≡ prefix_on current first tail n
    prefix_unchanged None n away = refl
    prefix_unchanged (Some block) n away =
        ap (λ (xs : List ℕ). take n xs) (blocks_unchanged current current' first (block ∷ []) blocks same away)

    unread_unchanged : (o : Option Unread) → NoneOf (tail_on o) blocks
        → unread_on current' first o ≡ unread_on current first o
    unread_unchanged None away = refl
    unread_unchanged (Some u) away = prefix_unchanged u.block u.len away

    content_unchanged : (d : Draft) → NoneOf d.blocks blocks → content_on current' first d ≡ content_on current first d
    content_unchanged d apart =
        let size = length-take (full_count d) d.blocks in
        ap (λ (xs : List ℕ). xs ++ d.unfinished)
        (blocks_unchanged current current' first (take (full_count d) d.blocks) blocks same (λ i k lt lt' e.
        apart i k (omega (arith, lt, size)) lt'
        (sym (get_or-take (full_count d) d.blocks i 0 (omega (arith, lt, size))) ∙ e)))

    pub bytes_unchanged : (d : Draft) → NoneOf d.blocks blocks → NoneOf (tail_on d.unread) blocks
        → draft_bytes current' first d ≡ draft_bytes current first d
    bytes_unchanged d apart away = both (unread_unchanged d.unread away) (content_unchanged d apart)

-- NO TEXT BLOCK IS ANOTHER

module _ (current current' : ℕ → ℕ) (first : ℕ) (same : (p : ℕ) → PAGE * first ≤ p → current' p ≡ current p) where
  unread_same : (o : Option Unread) → unread_on current' first o ≡ unread_on current first o
  unread_same None = refl
  unread_same (Some u) = prefix_same u.block u.len
    where
      prefix_same : (tail : Option ℕ) (n : ℕ) → prefix_on current' first tail n ≡ prefix_on current first tail n
      prefix_same None n = refl
      prefix_same (Some block) n =
          ap (λ (xs : List ℕ). take n xs)
          (blocks_same current' current first (block ∷ []) (λ i p lt e. same p (omega (arith, e))))

  pub bytes_same : (d : Draft) → draft_bytes current' first d ≡ draft_bytes current first d
  bytes_same d = both (unread_same d.unread)
      (ap (λ (xs : List ℕ). xs ++ d.unfinished)
      (blocks_same current' current first (take (full_count d) d.blocks) (λ i p lt e. same p (omega (arith, e)))))
