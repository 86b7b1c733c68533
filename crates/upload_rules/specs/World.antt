-- Worlds: the uploads and the open patches.
use Rattle.std.specs.Prelude.{ℕ, zero, suc, ◌+◌, Bool, false, true, List, [], length, if◌then◌else◌, Option, Some}
use Rattle.std.specs.Prelude.{None}
use Rattle.enc_model.specs.Encode.{Coded}
use Rattle.enc_model.specs.Indexes.{IndexSet}
use Rattle.upload_rules.specs.Lengths.{is_length, known_or}
use Rattle.upload_rules.specs.Store.{Upload, Store, find, upload_of, text_with, accepted_count}

-- An open patch: its upload's number, the upload at the head moment, the length of the body, the length that it
-- declares, the body so far, and whether it is short of room.
pub record Patch : Type 0 where
  pub number : ℕ
  pub began : Upload
  pub count : ℕ
  pub declare : Option ℕ
  pub body : List ℕ
  pub short : Bool

-- The store, the open patches by draft numbers, and the number of blocks. None means no limit.
pub record World : Type 0 where
  pub store : Store
  pub patches : List (ℕ × Patch)
  pub blocks : Option ℕ

-- The world of a store without open patches.
abbrev pub at_rest : Store → Option ℕ → World
at_rest m blocks = record { store = m; patches = []; blocks = blocks }

-- The value is there.
abbrev pub is_there : {A : Type 0} → Option A → Bool
is_there None = false
is_there (Some a) = true

-- The least number from n on that no patch has, searched among `left` numbers.
abbrev pub least_from : ℕ → ℕ → List (ℕ × Patch) → ℕ
least_from zero n patches = n
least_from (suc left) n patches = if is_there (find n patches) then least_from left (n + 1) patches else n

-- The least number that no open patch has.
abbrev pub free_number : World → ℕ
free_number w = least_from (length w.patches) 0 w.patches

-- The offset after the patch's body.
abbrev pub reached : Patch → ℕ
reached p = accepted_count p.began + length p.body

-- The upload's length once the patch is done. Another patch may have declared it meanwhile.
abbrev pub length_then : Patch → Option Upload → Option ℕ
length_then p None = None
length_then p (Some u) = known_or u.declared p.declare

-- The upload is complete once the patch is done.
abbrev pub completes : Store → Patch → Bool
completes m p = is_length (length_then p (upload_of m p.number)) (reached p)

-- The text of the upload at the head moment with the body so far.
unfoldable pub patch_text : IndexSet → Patch → Bool → Coded
patch_text x p done = text_with x p.began p.body done
