-- What is read of a script.
use Rattle.std.proofs.Common.{◌≡◌, ◌≤◌, ◌<◌, ◌+◌, ℕ, List, [], ◌++◌, length, length-append, min, take, Option, Some}
use Rattle.std.proofs.Common.{None, append-nil, arith}
use Rattle.std.proofs.lemmas.List.{take_all, length-take}
use Rattle.std.proofs.Math.Seq.{take-append_seam}
use Rattle.std.proofs.KnownBytes.{Consumes-trans}
use Rattle.std.specs.Io.KnownBytes.{Consumes, IsAtEnd}
use Rattle.gateway_script.specs.Inputs.{TakesMost}
use Rattle.gateway_script.specs.Script.{IsScript}

-- no more than there was room for
pub taken_few : (count room : ℕ) (piece : List ℕ) → count ≤ length (take room piece) → count ≤ room
taken_few count room piece within = let n : length (take room piece) ≡ min room (length piece) =
    length-take room piece in omega arith

-- what was read, and one piece more
pub takes_more : (a b c : Option (List ℕ)) (read part : List ℕ) (most count : ℕ) → Consumes a b read → Consumes b c part
    → length part ≤ count → length read + count ≤ most → TakesMost most a c
takes_more a b c read part most count first next few room = (
  read ++ part,
  (let n : length (read ++ part) ≡ length read + length part = length-append read part in omega arith),
  Consumes-trans a b c read part first next,
)

whole_case : (most : ℕ) (bytes rest script : List ℕ) → bytes ≡ script ++ rest → length script ≤ most
    → (length script < most → rest ≡ [])
    → script ≡ take most bytes
whole_case most bytes rest script is few end =
    grind (arith, take_all {A = ℕ}, take-append_seam {A = ℕ}, append-nil {A = ℕ})

-- so many bytes, or all to the end, are the prefix of what there was
pub script_read : (old new : Option (List ℕ)) (script : List ℕ) → Consumes old new script → length script ≤ 1073741825
    → (length script < 1073741825 → IsAtEnd new) → IsScript old script
script_read None new script is few end = tt {0}
script_read (Some bytes) None script is few end = absurd is
script_read (Some bytes) (Some rest) script is few end = whole_case 1073741825 bytes rest script is few end
