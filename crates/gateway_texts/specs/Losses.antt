-- Signs of lost bytes in texts: what is counted, and what is printed of it.
use Rattle.std.specs.Prelude.{ℕ, List, [], ◌∷◌, ◌++◌, codes, decimal}
use Rattle.gateway_texts.specs.declared.losses.Tally.{Tally}

-- the stream under one that counts
abbrev pub tallied : {S : Type 0} → Tally S → S
tallied tally = tally.stream

-- how often a text has U+FFFD, and that of an upload
abbrev pub losses_line : ℕ → List ℕ
losses_line losses = codes "U+FFFD in the text: " ++ (decimal losses ++ (10 ∷ []))

abbrev pub losses_line_of : ℕ → ℕ → List ℕ
losses_line_of number losses =
    codes "U+FFFD in the text of " ++ (decimal number ++ (codes ": " ++ (decimal losses ++ (10 ∷ []))))
