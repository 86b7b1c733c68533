-- The refusals, with their numbers.
use Rattle.std.specs.Prelude.{ℕ}
use Rattle.tus_request.specs.declared.faults.Fault.{Fault}
use Rattle.tus_request.specs.declared.faults.Fault.TheVariants.{Unencodable, NoSuch, Offset, TooLong, Slots, TooLarge}
use Rattle.tus_request.specs.declared.faults.Fault.TheVariants.{Full, Malformed, HeadTooLong, Coding, BadLength}
use Rattle.tus_request.specs.declared.faults.Fault.TheVariants.{TusVersion, NoRoute, BadMethod, MediaType, BadHeader}
use Rattle.tus_request.specs.declared.faults.Fault.TheVariants.{BadMetadata, BadLabel, LengthSet}

-- The number that a reply gives as `X-Refusal`.
abbrev pub fault_number : Fault → ℕ
fault_number Unencodable = 6
fault_number NoSuch = 8
fault_number Offset = 9
fault_number TooLong = 10
fault_number Slots = 11
fault_number TooLarge = 12
fault_number Full = 17
fault_number Malformed = 18
fault_number HeadTooLong = 19
fault_number Coding = 20
fault_number BadLength = 21
fault_number TusVersion = 22
fault_number NoRoute = 23
fault_number BadMethod = 24
fault_number MediaType = 25
fault_number BadHeader = 26
fault_number BadMetadata = 27
fault_number BadLabel = 28
fault_number LengthSet = 34
