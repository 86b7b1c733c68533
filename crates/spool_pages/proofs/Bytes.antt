-- Bytes in a page.
use Rattle.std.proofs.Common.{◌≡◌, ℕ, ◌+◌, ◌-◌, ◌<◌, ◌++◌, List, [], length, get_or, replicate, arith}
use Rattle.std.proofs.lemmas.Bool.{cases_lt}
use Rattle.std.proofs.lemmas.Grind.{common_steps}
use Rattle.spool_disk.specs.Disk.{In}
use Rattle.spool_pages.specs.Bytes.{IsPadded}

pub padded_more : (old new xs ys : List ℕ) (at : ℕ)
    → ((p : ℕ) → (In at (length ys) p → ⊥) → get_or new p 0 ≡ get_or old p 0)
    → ((k : ℕ) → k < length ys → get_or new (at + k) 0 ≡ get_or ys k 0) → length xs ≡ at → IsPadded old xs
    → IsPadded new (xs ++ ys)
padded_more old new xs ys at outside inside long was = record {
  each = λ i. grind (arith, common_steps, cases_lt, was.each i, inside (i - at), outside i);
}

pub padded_zeros : (n : ℕ) → IsPadded (replicate n 0) []
padded_zeros n = record { each = λ i. grind (arith, common_steps, cases_lt) }

-- zeros more are nothing more
pub padded_room : (page xs : List ℕ) (n : ℕ) → IsPadded page xs → IsPadded page (xs ++ replicate n 0)
padded_room page xs n padded = record { each = λ i. grind (arith, common_steps, cases_lt, padded.each i) }
