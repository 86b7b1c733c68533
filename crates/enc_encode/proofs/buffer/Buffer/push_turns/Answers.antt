use Rattle.enc_model.specs.declared.Mode.TheVariants.{Html}
use Rattle.enc_model.specs.Indexes.{tables}
use Rattle.enc_encode.specs.Runs.{IsCoded}
use Rattle.enc_encode.specs.State.{shift_of}
use Rattle.enc_encode.proofs.RunPrefixes.{run_both, singles_coded}
use Rattle.enc_encode.proofs.buffer.Buffer.push_turns.Goals as goal

pub loop-after-init : goal.loop-after-init
loop-after-init c = (c.push_references-after.utf8, c.push_references-after.ensures)

pub loop-after-preserved : goal.loop-after-preserved
loop-after-preserved c =
    let t = tables c.args.set.now in
    let s = shift_of c.args.shift in
    let gives = IsCoded t c.args.to Html s in
    let text = c.args.text.now in
    let after = c.loop-after.after.now in
    let rest = c.push_singles-rest.result.now in
    let left = c.push_references-after-in-loop-after.result.now in
    let old = c.args.self.now in
    let held = c.loop-after.self in
    let mid = c.push_singles-rest.new.self in
    let new = c.push_references-after-in-loop-after.new.self in
    let singles = singles_coded t c.args.to Html s c.args.pointers.now c.requires.singles after rest held mid
    c.push_singles-rest.ensures in (
      c.push_references-after-in-loop-after.utf8,
      run_both gives text rest left old mid new
          (run_both gives text after rest old held mid c.loop-after.invariant.1 singles)
          c.push_references-after-in-loop-after.ensures,
    )
