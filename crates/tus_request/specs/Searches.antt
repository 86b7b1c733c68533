-- The search for a head's end, byte by byte.
use Rattle.std.specs.Prelude.{ℕ, Bool, true, false, List, [], ◌∷◌, if◌then◌else◌, ◌==◌}
use Rattle.tus_request.specs.declared.search.Search.{Search}
use Rattle.tus_request.specs.declared.search.Search.TheVariants.{Leading, LeadingCr, Text, Start, StartCr, Over}

-- The state after a LF.
abbrev pub after_lf : Search → Search
after_lf Leading = Leading
after_lf LeadingCr = Leading
after_lf Text = Start
after_lf Start = Over
after_lf StartCr = Over
after_lf Over = Over

-- The state after a CR.
abbrev pub after_cr : Search → Search
after_cr Leading = LeadingCr
after_cr LeadingCr = Text
after_cr Text = Text
after_cr Start = StartCr
after_cr StartCr = Text
after_cr Over = Over

-- The state after any other byte.
abbrev pub after_text_byte : Search → Search
after_text_byte Over = Over
after_text_byte _ = Text

-- The state after a byte.
abbrev pub after_byte : Search → ℕ → Search
after_byte s b = if b == 10 then after_lf s else if b == 13 then after_cr s else after_text_byte s

-- The state after these bytes.
abbrev pub after_bytes : Search → List ℕ → Search
after_bytes s [] = s
after_bytes s (b ∷ bytes) = after_bytes (after_byte s b) bytes

-- The head's end was found.
abbrev pub is_head_found : Search → Bool
is_head_found Over = true
is_head_found _ = false

-- The search is at the start of a line, or after a CR there.
abbrev pub is_in_start : Search → Bool
is_in_start Text = false
is_in_start Over = false
is_in_start _ = true
