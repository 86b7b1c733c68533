-- Zeros after what is at the start of a page.
use Rattle.std.proofs.Common.{◌≡◌, ℕ, ◌+◌, ◌-◌, ◌≤◌, List, [], length, take, drop, arith}
use Rattle.std.proofs.lemmas.Bool.{cases_lt}
use Rattle.std.proofs.lemmas.Grind.{common_steps}
use Rattle.std.specs.List.{slice_range}
use Rattle.spool_journal.specs.Image.{byte_of}
use Rattle.spool_pages.specs.Bytes.{IsPadded}
use Rattle.spool_pages.specs.View.{AreAt}

-- a range is blank where nothing is in it
module _ (bytes : List ℕ) (at end : ℕ) where
  pub range_blank : AreAt (byte_of bytes) at (end - at) [] → IsPadded (slice_range bytes at end) []
  range_blank are_at = record { each = λ i. grind (arith, common_steps, cases_lt, are_at.each i) }

  pub blank_range : IsPadded (slice_range bytes at end) [] → AreAt (byte_of bytes) at (end - at) []
  blank_range blank = record { each = λ i below. grind (arith, common_steps, blank.each i) }

-- the m bytes after the first n
module _ (page : List ℕ) (n m : ℕ) (all : n + m ≡ length page) (xs : List ℕ) (long : length xs ≡ n) where
  pub with_blank_rest : AreAt (byte_of page) 0 n xs → IsPadded (take m (drop n page)) [] → IsPadded page xs
  with_blank_rest prefix rest = record {
    each = λ i. grind (arith, common_steps, cases_lt, prefix.each i, rest.each (i - n));
  }

  pub blank_rest : IsPadded page xs → IsPadded (take m (drop n page)) []
  blank_rest padded = record { each = λ i. grind (arith, common_steps, cases_lt, padded.each (n + i)) }

pub padded_of_at : (page xs : List ℕ) (size : ℕ) → length page ≡ size → length xs ≤ size
    → AreAt (byte_of page) 0 size xs → IsPadded page xs
padded_of_at page xs size full few are_at = record {
  each = λ i. grind (arith, common_steps, cases_lt, are_at.each i);
}
