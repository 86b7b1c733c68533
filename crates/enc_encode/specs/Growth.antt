-- A vector that a call appends bytes to.
use Rattle.std.specs.Prelude.{ℕ, List, ◌++◌, ◌≡◌, ◌<◌, ◌≤◌, ◌+◌, length, Vec, Result, Ok, Err, vec_capacity}
use Rattle.enc_model.specs.Transcode.{GrownByPrefix}

-- there was no room for these without more memory
abbrev pub NoRoom : {Z : Type 0} → Vec ℕ Z → List ℕ → Type 0
NoRoom v bytes = vec_capacity v < length v.items + length bytes

-- all of the bytes were appended
pub record Appended {Z : Type 0} (old : Vec ℕ Z) (bytes : List ℕ) (new : Vec ℕ Z) : Type 0 where
  pub items : new.items ≡ old.items ++ bytes
  pub capacity : vec_capacity old ≤ vec_capacity new

-- a part of their prefix was, since there was no room for them
pub record Stopped {Z : Type 0} (old : Vec ℕ Z) (bytes : List ℕ) (new : Vec ℕ Z) : Type 0 where
  pub items : GrownByPrefix old.items bytes new.items
  pub full : NoRoom old bytes

abbrev pub Grew : {Z X E : Type 0} → Vec ℕ Z → List ℕ → Vec ℕ Z → Result X E → Type 0
Grew old bytes new (Ok x) = Appended old bytes new
Grew old bytes new (Err e) = Stopped old bytes new
