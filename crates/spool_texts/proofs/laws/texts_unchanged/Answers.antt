use Rattle.std.proofs.Common.{ℕ, List, take, ap}
use Rattle.spool_texts.proofs.Prefixes.{blocks_unchanged}
use Rattle.spool_texts.proofs.Stays.{bytes_unchanged}
use Rattle.spool_texts.proofs.laws.texts_unchanged.Goals as goal

pub returns-clause-text : goal.returns-clause-text
returns-clause-text c current current' first len list blocks same apart =
    ap (λ (xs : List ℕ). take len xs) (blocks_unchanged current current' first list blocks same apart)

pub returns-clause-bytes : goal.returns-clause-bytes
returns-clause-bytes c current current' first draft blocks same = bytes_unchanged current current' first blocks same
    draft
