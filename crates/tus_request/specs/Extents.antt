-- The extent of a head in the code.
use Rattle.tus_request.specs.Lines.{Extent}
use Rattle.tus_request.specs.declared.lines.Reach.{Reach}

-- The extent that the code's value represents.
abbrev pub shown : Reach → Extent
shown r = record { len = r.len; texts = r.texts }
