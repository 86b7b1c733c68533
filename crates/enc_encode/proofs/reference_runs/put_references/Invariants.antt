use Rattle.std.proofs.Common.{◌≡◌, ◌≤◌, length, take}
use denote.Shadow.{shadow}
use denote.Text.{Utf8}
use Rattle.enc_model.specs.declared.Mode.TheVariants.{Html}
use Rattle.enc_model.specs.Indexes.{tables}
use Rattle.enc_encode.specs.Runs.{IsCoded, RunPrefix}
use Rattle.enc_encode.specs.State.{shift_of}
use Rattle.enc_encode.proofs.reference_runs.put_references.Given as goal

abbrev pub invariant-loop-len : goal.invariant-loop-len
invariant-loop-len l = shadow (Utf8 l.rest) × (l.len ≤ 2048) × (length l.held ≡ 2048)
    × RunPrefix (IsCoded (tables l.set) l.to Html (shift_of l.shift)) l.text l.rest (take l.from l.fn.held)
    (take l.len l.held)

abbrev pub decreases-loop-len : goal.decreases-loop-len
decreases-loop-len l = length l.rest
