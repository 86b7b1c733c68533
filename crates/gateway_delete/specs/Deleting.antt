-- The uploads of some numbers, deleted one by one: what is left, what a crash leaves on the way, and what is printed.
use Rattle.std.specs.Prelude.{ℕ, Bool, true, false, List, [], ◌∷◌, ◌++◌, codes, decimal, filter, not, ◌==◌, ◌&&◌}
use Rattle.std.specs.Prelude.{◌≡◌, flat_map, if◌then◌else◌, Option, Some, None}
use Rattle.std.specs.List.{find}
use Rattle.upload_rules.specs.Lengths.{is_length}
use Rattle.upload_rules.specs.Store.{Store, Upload, deleted_store, is_complete, upload_of}
use Rattle.upload_rules.specs.World.{is_there}
use Rattle.upload_rules.specs.declared.records.Record.{Record}
use Rattle.gateway_delete.specs.declared.incomplete.Incomplete.{Incomplete}

-- it is one of these numbers
abbrev pub is_among : List ℕ → ℕ → Bool
is_among [] n = false
is_among (k ∷ numbers) n = if n == k then true else is_among numbers n

-- THE UPLOADS OF OTHER NUMBERS than these. The next number stays
abbrev pub left : Store → List ℕ → Store
left m numbers = record m { uploads = filter (λ e. not (is_among numbers e.0)) m.uploads }

-- the uploads before, without that of the first number, without those of the first two, and so on
abbrev pub stages : Store → List ℕ → List Store
stages m [] = m ∷ []
stages m (n ∷ numbers) = m ∷ stages (deleted_store m n) numbers

-- each number had an upload when it was its turn
abbrev pub all_there : Store → List ℕ → Bool
all_there m [] = true
all_there m (n ∷ numbers) = is_there (upload_of m n) && all_there (deleted_store m n) numbers

-- THE UPLOADS THAT AREN'T COMPLETE, by their numbers
abbrev pub unless_complete : Bool → ℕ → List ℕ
unless_complete complete n = if complete then [] else n ∷ []

abbrev pub incomplete_one : ℕ × Upload → List ℕ
incomplete_one entry = unless_complete (is_complete entry.1) entry.0

abbrev pub incomplete_of : Store → List ℕ
incomplete_of m = flat_map incomplete_one m.uploads

-- those of them that aren't among these
abbrev pub incomplete_but : Store → List ℕ → List ℕ
incomplete_but m but = filter (λ n. not (is_among but n)) (incomplete_of m)

-- OF THOSE TO BE KEPT, the first number without an upload
abbrev pub first_unknown : Store → List ℕ → Option ℕ
first_unknown m numbers = find (λ n. not (is_there (upload_of m n))) numbers

-- and those whose upload is complete: they are kept anyhow
abbrev pub is_whole : Option Upload → Bool
is_whole None = false
is_whole (Some u) = is_complete u

abbrev pub complete_among : Store → List ℕ → List ℕ
complete_among m numbers = filter (λ n. is_whole (upload_of m n)) numbers

-- WHAT IS FOUND where these are to be kept
pub record Finds (found : Incomplete) (m : Store) (but : List ℕ) : Type 0 where
  pub numbers : found.numbers.items ≡ incomplete_but m but
  pub unknown : found.unknown ≡ first_unknown m but
  pub complete : found.complete.items ≡ complete_among m but

-- by an upload's record
abbrev pub has_all : Option Record → Bool
has_all None = false
has_all (Some r) = is_length r.declared r.accepted

abbrev pub incomplete_record : Record → List ℕ
incomplete_record r = unless_complete (is_length r.declared r.accepted) r.number

-- WHAT IS PRINTED of a number
abbrev pub deletion_line : Bool → ℕ → List ℕ
deletion_line true n = codes "deleted " ++ (decimal n ++ (10 ∷ []))
deletion_line false n = codes "no upload " ++ (decimal n ++ (10 ∷ []))

-- and of all, in turn
abbrev pub deletion_lines : Store → List ℕ → List ℕ
deletion_lines m [] = []
deletion_lines m (n ∷ numbers) =
    deletion_line (is_there (upload_of m n)) n ++ deletion_lines (deleted_store m n) numbers

-- of those that would be deleted
abbrev pub doomed_line : ℕ → List ℕ
doomed_line n = codes "would delete " ++ (decimal n ++ (10 ∷ []))

-- of those to be kept that are complete
abbrev pub kept_line : ℕ → List ℕ
kept_line n = decimal n ++ codes " is complete, and kept anyhow\n"
