-- What is done with the numbers that were found, by how many there are and whether they are to be deleted.
use Rattle.std.proofs.Common.{◌≡◌, ℕ, Bool, true, false, List, [], ◌∷◌, Option, Some, None, Result, Err, arith, length}
use Rattle.std.proofs.Common.{flat_map, refl}
use Rattle.std.specs.Prelude.{◌==◌, IsOk, OnOk}
use Rattle.std.proofs.lemmas.Bool.{eqb-true}
use Rattle.std.specs.Io.KnownBytes.{Appends}
use Rattle.spool_disk.specs.declared.disk.Disk.{Ghosts}
use Rattle.gateway_outside.specs.declared.failures.Failure.{Failure}
use Rattle.gateway_outside.specs.declared.faults.Fault.TheVariants.{Io, NoSuch}
use Rattle.gateway_outside.specs.Failures.{fault_in}
use Rattle.gateway_outside.specs.Openings.{EndsWellBut}
use Rattle.gateway_outside.specs.SpoolFiles.{OnlyRead}
use Rattle.gateway_delete.specs.Deleted.{DeletedIn, DoesBut, DoesWith}
use Rattle.gateway_delete.specs.Deleting.{doomed_line}

pub none_in : (numbers : List ℕ) → (length numbers == 0) ≡ true → numbers ≡ []
none_in [] e = refl
none_in (n ∷ ns) e = let none : length (n ∷ ns) ≡ 0 = eqb-true (length (n ∷ ns)) 0 e in absurd (omega (arith, none))

pub some_in : (numbers : List ℕ) → (length numbers == 0) ≡ false → numbers ≡ [] → ⊥
some_in [] e none = absurd (cc)
some_in (n ∷ ns) e none = absurd (cc)

module _ {T D : Type 0} (disk : Ghosts D) (d d' : D) (before after : Option (List ℕ)) (result : Result T Failure) where
  pub does_none : (sure : Bool) (numbers : List ℕ) → numbers ≡ [] → OnlyRead disk d d' → IsOk result → after ≡ before
      → DoesWith disk d sure numbers before after result d'
  does_none sure [] none reads ok same = (reads, ok, same)
  does_none sure (n ∷ ns) none reads ok same = absurd (cc)

  pub does_delete : (sure : Bool) (numbers : List ℕ) → sure ≡ true → (numbers ≡ [] → ⊥)
      → DeletedIn disk d numbers before after result d' → DoesWith disk d sure numbers before after result d'
  does_delete sure [] is some deleted = absurd (some refl)
  does_delete true (n ∷ ns) is some deleted = deleted
  does_delete false (n ∷ ns) is some deleted = absurd (cc)

  pub does_show : (sure : Bool) (numbers : List ℕ) → sure ≡ false → (numbers ≡ [] → ⊥) → OnlyRead disk d d'
      → EndsWellBut result Io → OnOk result (Appends before after (flat_map doomed_line numbers))
      → DoesWith disk d sure numbers before after result d'
  does_show sure [] is some reads ends lines = absurd (some refl)
  does_show true (n ∷ ns) is some reads ends lines = absurd (cc)
  does_show false (n ∷ ns) is some reads ends lines = (reads, ends, lines)

  -- where each number to be kept has an upload
  pub does_but : (unknown : Option ℕ) → unknown ≡ None → (sure : Bool) (numbers : List ℕ)
      → DoesWith disk d sure numbers before after result d'
      → DoesBut disk d sure unknown numbers before after result d'
  does_but None is sure numbers does = does
  does_but (Some n) is sure numbers does = absurd (cc)

-- where one has none
pub does_refuse : (T : Type 0) {D : Type 0} (disk : Ghosts D) (d d' : D) (before : Option (List ℕ)) (failure : Failure)
    (unknown : Option ℕ) (n : ℕ)
    → unknown ≡ Some n → (sure : Bool) (numbers : List ℕ) → OnlyRead disk d d' → fault_in failure ≡ NoSuch
    → DoesBut {T = T} disk d sure unknown numbers before before (Err failure) d'
does_refuse T disk d d' before failure (Some m) n is sure numbers reads fault = (reads, fault, refl)
does_refuse T disk d d' before failure None n is sure numbers reads fault = absurd (cc)
