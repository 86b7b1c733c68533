-- The calls of a file.
use Rattle.std.specs.Prelude.{ℕ, ◌++◌, nat_lt, Bool, true, false, if◌then◌else◌, List, [], ◌∷◌}
use Rattle.common.specs.Traces.{trace_of}
use Rattle.spool_disk.specs.declared.positioned.FileCall.{FileCall}
use Rattle.spool_disk.specs.declared.positioned.Made.{Made}
use Rattle.spool_disk.specs.declared.positioned.FileCall.TheVariants.{Open, Lock, Len, ReadAt, SetLen, SyncAll}
use Rattle.spool_disk.specs.declared.positioned.FileCall.TheVariants.{SyncFolder}
use Rattle.common.specs.declared.given.GivenRead.{GivenRead}
use Rattle.spool_disk.specs.Given.{given}

-- A call that was made, the bytes that it read or wrote, and whether it succeeded.
abbrev pub made : FileCall → List ℕ → Bool → Made
made c bs ok = record { call = c; bytes = trace_of bs; done = ok }

-- The calls that open a file, the latest first: it is opened and never emptied, made only if that is asked for, and
-- then locked.
abbrev pub opened : Bool → List Made
opened create = made Lock [] true ∷ made (Open create false) [] true ∷ []

-- The calls that make a file of length `found` at least `len` long, the latest first: its length is asked for, it is
-- extended if needed, and all of it is synced.
abbrev pub lengthened : (found len : ℕ) → List Made
lengthened found len =
    made SyncAll [] true ∷ (if nat_lt found len then made (SetLen len) [] true ∷ [] else [])
    ++ made (Len found) [] true ∷ []

-- The calls that open or make a file of at least this length, and last a sync of its folder.
abbrev pub calls_to_make : (found len : ℕ) → List Made
calls_to_make found len = made SyncFolder [] true ∷ lengthened found len ++ opened true

-- What a call with these bytes gave: the bytes if it is a read that succeeded, and otherwise nothing.
abbrev pub read_by : FileCall → List ℕ → Bool → List GivenRead
read_by (ReadAt at) bs true = given at bs ∷ []
read_by _ bs done = []

-- What the successful reads among these calls gave.
abbrev pub reads_in : List Made → List GivenRead
reads_in [] = []
reads_in (m ∷ calls) = read_by m.call m.bytes.items m.done ++ reads_in calls
