-- The bytes that wait to be written.
use Rattle.std.specs.Prelude.{◌<◌, ◌≤◌, ◌+◌, ℕ, List, length}
use Rattle.tus_session.specs.Turns.{most_given}

-- the session may give more only while fewer than these wait, the most that it gives of a text at once
abbrev pub HasRoom : List ℕ → Type 0
HasRoom output = length output < 65_536

-- so no more than these ever wait: one byte less, and what one call gives
abbrev pub most_waiting : ℕ
most_waiting = 65_535 + most_given

abbrev pub FewWait : List ℕ → Type 0
FewWait output = length output ≤ most_waiting
