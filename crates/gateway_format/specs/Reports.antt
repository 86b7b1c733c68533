-- What is printed of a spool that was made, raised or upgraded.
use Rattle.std.specs.Prelude.{ℕ, max, List, [], ◌∷◌, ◌++◌, codes, decimal, Option, None, Some}

abbrev pub formatted_line : ℕ → ℕ → List ℕ
formatted_line blocks pages =
    codes "formatted " ++ (decimal blocks ++ (codes " blocks, " ++ (decimal pages ++ codes " pages\n")))

-- and which number the first upload gets, if that was given: not below 1
abbrev pub formatted_lines : ℕ → ℕ → Option ℕ → List ℕ
formatted_lines blocks pages None = formatted_line blocks pages
formatted_lines blocks pages (Some first) =
    codes "formatted " ++ (decimal blocks ++ (codes " blocks, " ++ (decimal pages
    ++ (codes " pages\nnext number " ++ (decimal (max first 1) ++ (10 ∷ []))))))

-- the file is longer than the spool that was made in it
abbrev pub longer_line : List ℕ → ℕ → List ℕ
longer_line spool len =
    spool ++ (codes " has " ++ (decimal len
    ++ codes " bytes, as before: more than the spool, which is at its start\n"))

-- which number the next upload gets
abbrev pub raised_line : ℕ → List ℕ
raised_line next = codes "next number " ++ (decimal next ++ (10 ∷ []))

abbrev pub upgraded_line : List ℕ
upgraded_line = codes "upgraded to version 2\n"
