-- The methods (RFC 9110, section 9; PATCH: RFC 5789).
use Rattle.std.specs.Prelude.{ℕ, List, codes, bytes_eq, if◌then◌else◌}
use Rattle.tus_request.specs.declared.methods.Verb.{Verb}
use Rattle.tus_request.specs.declared.methods.Verb.TheVariants.{Options, Post, Head, Patch, Get, Delete, Other}

-- The method of this name.
abbrev pub verb_of : List ℕ → Verb
verb_of method =
    if bytes_eq method (codes "OPTIONS") then Options
    else if bytes_eq method (codes "POST") then Post
    else if bytes_eq method (codes "HEAD") then Head
    else if bytes_eq method (codes "PATCH") then Patch
    else if bytes_eq method (codes "GET") then Get
    else if bytes_eq method (codes "DELETE") then Delete
    else Other
