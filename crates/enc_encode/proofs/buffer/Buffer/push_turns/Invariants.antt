use Rattle.std.proofs.Common.{length}
use denote.Text.{Utf8}
use denote.Shadow.{shadow}
use Rattle.enc_model.specs.declared.Mode.TheVariants.{Html}
use Rattle.enc_model.specs.Indexes.{tables}
use Rattle.enc_encode.specs.Runs.{IsCoded, RunPrefix}
use Rattle.enc_encode.specs.State.{shift_of}
use Rattle.enc_encode.proofs.buffer.Buffer.push_turns.Given as goal

abbrev pub invariant-loop-after : goal.invariant-loop-after
invariant-loop-after l = shadow (Utf8 l.after)
    × RunPrefix (IsCoded (tables l.set) l.to Html (shift_of l.shift)) l.text l.after l.fn.self l.self

abbrev pub decreases-loop-after : goal.decreases-loop-after
decreases-loop-after l = length l.rest
