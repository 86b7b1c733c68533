-- What is printed of serving.
use Rattle.std.specs.Prelude.{ℕ, List, [], ◌∷◌, ◌++◌, codes, decimal}
use Rattle.common.specs.declared.limits.TheConstants.{SLOTS}
use Rattle.tus_session.specs.declared.session.TheConstants.{MOST_OPEN}
use Rattle.gateway_indexes.specs.declared.surveying.Survey.{Survey}
use Rattle.gateway_up.specs.declared.reports.TheConstants.{MOST_SOCKETS}

abbrev pub served_line : ℕ → List ℕ
served_line connections = codes "served " ++ (decimal connections ++ codes " connections\n")

-- what is served, and where
abbrev pub up_line : List ℕ → Survey → List ℕ → List ℕ
up_line spool survey address =
    spool ++ (codes ": version " ++ (decimal survey.version ++ (codes ", " ++ (decimal survey.free_blocks
    ++ (codes " of " ++ (decimal survey.blocks ++ (codes " blocks free, " ++ (decimal survey.free_slots
    ++ (codes " of " ++ (decimal SLOTS ++ (codes " slots free; listening " ++ (address ++ (10 ∷ [])))))))))))))

-- a warning of an address that other machines may reach
abbrev pub open_line : List ℕ → List ℕ
open_line address =
    codes "warning: " ++ (address ++ codes " is open to other machines, and there are no passwords\n")

-- what is printed where so many connections at most can be open
abbrev pub few_line : ℕ → List ℕ
few_line connections =
    codes "warning: as few files may be open (ulimit -n), "
    ++ (decimal connections ++ (codes " of " ++ (decimal MOST_OPEN ++ codes " connections can be served at once\n")))

-- and so many sockets of these, of one that waits and of those that drain
abbrev pub few_sockets_line : ℕ → List ℕ
few_sockets_line sockets =
    codes "warning: as few files may be open (ulimit -n), "
    ++ (decimal sockets
    ++ (codes " of " ++ (decimal MOST_SOCKETS ++ codes " sockets can be: refused clients may see resets\n")))

-- the path doesn't lead to the file any more that is served
abbrev pub gone_line : List ℕ → List ℕ
gone_line spool =
    codes "warning: "
    ++ (spool ++ codes " was removed, cut or replaced while it is served: what is acknowledged is lost at the end\n")
