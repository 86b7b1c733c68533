-- The resources that paths name.
use Rattle.std.specs.Prelude.{ℕ, Bool, true, false, List, [], ◌∷◌, ◌++◌, if◌then◌else◌, ◌==◌, Option, Some, None}
use Rattle.std.specs.Prelude.{option_map, codes, bytes_eq}
use Rattle.common.specs.Numbers.{number_of}
use Rattle.tus_request.specs.declared.places.Place.{Place}
use Rattle.tus_request.specs.declared.places.Place.TheVariants.{Files, Upload}

-- The rest of the text after the prefix, if it begins with that.
abbrev pub rest_if_begins : List ℕ → List ℕ → Option (List ℕ)
rest_if_begins [] text = Some text
rest_if_begins (p ∷ prefix) [] = None
rest_if_begins (p ∷ prefix) (b ∷ text) = if p == b then rest_if_begins prefix text else None

-- The number of an upload. It has no leading zero.
abbrev pub upload_number : List ℕ → Option ℕ
upload_number [] = None
upload_number (d ∷ digits) = if d == 48 then None else number_of (d ∷ digits)

-- The upload's number in the rest of a path.
abbrev pub upload_at : Option (List ℕ) → Option ℕ
upload_at None = None
upload_at (Some part) = upload_number part

-- The word is `/files`. The path is the word, or the word, a slash and an upload's number.
abbrev pub place_at : List ℕ → List ℕ → Option Place
place_at word path =
    if bytes_eq path word then Some Files else option_map Upload (upload_at (rest_if_begins (word ++ 47 ∷ []) path))

-- The resource of a path: `/files`, or `/files/` and an upload's number.
abbrev pub resource_of : List ℕ → Option Place
resource_of path = place_at (codes "/files") path

-- The resource is `/files`.
abbrev pub is_files : Option Place → Bool
is_files (Some Files) = true
is_files _ = false
