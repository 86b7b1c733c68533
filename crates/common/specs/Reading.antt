-- A read of a text into a buffer.
use Rattle.std.specs.Prelude.{◌≡◌, ℕ, ◌-◌, List, ◌++◌, length, take, drop, min}

-- n bytes of the text from `at` on were read: as many as there are and as fit. The rest of the buffer is unchanged.
pub record IsRead (text : List ℕ) (at n : ℕ) (old new : List ℕ) : Type 0 where
  pub count : n ≡ min (length text - at) (length old)
  pub bytes : new ≡ take n (drop at text) ++ drop n old
