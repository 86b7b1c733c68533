use Rattle.std.proofs.Common.{◌≡◌, length}
use Rattle.tus_request.specs.Searches.{after_bytes}
use Rattle.tus_request.proofs.search.Search.after.Given as goal

abbrev pub invariant-loop-byte : goal.invariant-loop-byte
invariant-loop-byte l = after_bytes l.search l.rest ≡ after_bytes l.fn.self l.bytes

abbrev pub decreases-loop-byte : goal.decreases-loop-byte
decreases-loop-byte l = length l.rest
