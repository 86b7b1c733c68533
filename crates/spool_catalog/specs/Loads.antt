-- What a call that opens a spool answers.
use Rattle.std.specs.Prelude.{Result, Ok, Err}
use Rattle.spool_catalog.specs.declared.error.OpenFault.{OpenFault}
use Rattle.spool_catalog.specs.declared.error.OpenFault.TheVariants.{NotASpool, Damaged, Version, Stop}

-- it is done, or refused by the disk or out of memory
abbrev pub LoadsAs : {T : Type 0} → Result T OpenFault → (T → Type 0) → Type 0
LoadsAs (Ok t) done = done t
LoadsAs (Err (Stop stop)) done = Unit {0}
LoadsAs (Err NotASpool) done = ⊥
LoadsAs (Err Damaged) done = ⊥
LoadsAs (Err Version) done = ⊥
