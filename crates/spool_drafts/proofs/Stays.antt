-- What a draft carries, where other blocks are written, or none.
use Rattle.std.proofs.Common.{◌≡◌, ◌≤◌, ◌*◌, ℕ, List, ◌∙◌}
use Rattle.spool_journal.specs.declared.TheConstants.{PAGE}
use Rattle.spool_texts.specs.Written.{NoneOf, SameOutside}
use Rattle.spool_texts.proofs.Stays.{bytes_unchanged, bytes_same}
use Rattle.spool_drafts.specs.Progress.{HasBytes, blocks_in, tail_in}
use Rattle.spool_drafts.specs.declared.progress.Progress.{Progress}
use Rattle.spool_drafts.specs.declared.progress.Progress.TheVariants.{Text, OutOfRoom, Unencodable, Complete}

module _ (current current' : ℕ → ℕ) (first : ℕ) (bytes : List ℕ) where
  pub has_preserved : (blocks : List ℕ) (s : Progress) → SameOutside first blocks current current'
      → NoneOf (blocks_in s) blocks → NoneOf (tail_in s) blocks
      → HasBytes current first bytes s → HasBytes current' first bytes s
  has_preserved blocks (Text t text) same apart away has =
      bytes_unchanged current current' first blocks same text apart away ∙ has
  has_preserved blocks (OutOfRoom t) same apart away has = tt
  has_preserved blocks Unencodable same apart away has = tt
  has_preserved blocks Complete same apart away has = tt

  -- no text block is another
  pub has_same : (s : Progress) → ((p : ℕ) → PAGE * first ≤ p → current' p ≡ current p)
      → HasBytes current first bytes s → HasBytes current' first bytes s
  has_same (Text t text) same has = bytes_same current current' first same text ∙ has
  has_same (OutOfRoom t) same has = tt
  has_same Unencodable same has = tt
  has_same Complete same has = tt
