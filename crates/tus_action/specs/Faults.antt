-- The refusals of the upload rules as those of replies.
use Rattle.tus_request.specs.declared.faults.Fault.{Fault}
use Rattle.tus_request.specs.declared.faults.Fault.TheVariants as faults
use Rattle.upload_rules.specs.declared.errors.UploadRefusal.{UploadRefusal}
use Rattle.upload_rules.specs.declared.errors.UploadRefusal.TheVariants as uploads

-- The reply's refusal for one of the rules.
abbrev pub reply_fault_of : UploadRefusal → Fault
reply_fault_of uploads.Unencodable = faults.Unencodable
reply_fault_of uploads.NoSuch = faults.NoSuch
reply_fault_of uploads.Offset = faults.Offset
reply_fault_of uploads.TooLong = faults.TooLong
reply_fault_of uploads.Slots = faults.Slots
reply_fault_of uploads.TooLarge = faults.TooLarge
reply_fault_of uploads.Full = faults.Full
reply_fault_of uploads.LengthSet = faults.LengthSet
