-- The open appends of a table.
use Rattle.std.specs.Prelude.{◌≡◌, ◌≤◌, ◌<◌, ◌+◌, ◌^◌, ℕ, Bool, true, false, length, None, Result, Ok, Err}
use Rattle.enc_model.specs.Indexes.{IndexSet}
use Rattle.upload_rules.specs.declared.errors.UploadError.{UploadError}
use Rattle.upload_rules.specs.declared.errors.UploadError.TheVariants.{Stop, Refused}
use Rattle.common.specs.declared.stop.Stop.TheVariants.{NoMemory}
use Rattle.upload_rules.specs.declared.errors.UploadRefusal.TheVariants as refusals
use Rattle.upload_rules.specs.Lengths.{known_or, longest}
use Rattle.upload_rules.specs.Store.{Upload, patched, accepted_count}
use Rattle.upload_rules.specs.World.{Patch, is_there, reached, patch_text}
use Rattle.upload_rules.specs.Slots.{SlotRepresents}
use Rattle.upload_rules.specs.Texts.{HoldsText}
use Rattle.upload_rules.specs.declared.slot.Slot.{Slot}
use Rattle.upload_rules.specs.declared.appends.OpenAppend.{OpenAppend}

-- The append represents the patch, whose upload is below the next number.
pub record AppendRepresents (x : IndexSet) (next : ℕ) (p : Patch) (o : OpenAppend) : Type 0 where
  pub number : o.number ≡ p.number
  pub offset : o.offset ≡ accepted_count p.began
  pub came : o.came ≡ length p.body
  pub held : length p.body ≤ p.count
  pub declare : o.declare ≡ p.declare
  pub within : accepted_count p.began + p.count ≤ longest (known_or p.began.declared p.declare)
  pub fits : longest (known_or p.began.declared p.declare) < 2 ^ 64
  pub below : p.number < next
  pub roomy : p.short ≡ false
  pub text : HoldsText x p.began p.body o.text

-- The result of committing a patch that brings bytes or a length to its slot.
abbrev pub IsCommitPut : IndexSet → Patch → Upload → Bool → Slot → Result ℕ UploadError → Type 0
IsCommitPut x p u done s (Ok n) =
    (n ≡ reached p) × ((patch_text x p done).fault ≡ None) × SlotRepresents x p.number (patched u p.declare p.body) s
IsCommitPut x p u done s (Err (Stop NoMemory)) = SlotRepresents x p.number u s
IsCommitPut x p u done s (Err (Refused refusals.Unencodable)) =
    (is_there (patch_text x p done).fault ≡ true) × SlotRepresents x p.number u s
IsCommitPut x p u done s (Err e) = ⊥
