use Rattle.std.proofs.Common.{◌++◌, ◌∙◌, ap, refl, sym, take}
use lib.Utf8.{encode}
use Rattle.enc_model.specs.declared.Mode.TheVariants.{Html}
use Rattle.enc_model.specs.Indexes.{tables}
use Rattle.enc_encode.specs.Runs.{IsCoded, FirstGiven}
use Rattle.enc_encode.specs.State.{shift_of}
use Rattle.enc_encode.proofs.RunPrefixes.{run_none, run_more}
use Rattle.enc_encode.proofs.reference_runs.put_references.Goals as goal

pub loop-len-init : goal.loop-len-init
loop-len-init c = (
  c.utf8.text,
  c.requires,
  c.told-held,
  run_none _ c.args.text.now (take c.args.from c.args.held.now) (take c.args.from c.args.held.now) refl,
)

pub loop-len-preserved : goal.loop-len-preserved
loop-len-preserved c =
    let v = c.loop-len.invariant in
    let gives = IsCoded (tables c.args.set.now) c.args.to Html (shift_of c.args.shift) in
    let rest = c.loop-len.rest.now in
    let left = c.as_str-rest.result.now in
    let first : FirstGiven gives rest _ left = record {
      c = c.in-Some.c;
      parts = sym c.chars-chars.ensures.rest ∙ c.in-Some.ensures.steps.0
          ∙ ap (λ z. encode c.in-Some.c ++ z) (sym c.as_str-rest.ensures);
      given = c.in-Some-unmappable.ensures;
    } in (
      c.as_str-rest.utf8,
      c.put_reference-len.ensures.room,
      c.put_reference-len.array_long,
      run_more gives c.args.text.now rest left (take c.args.from c.args.held.now)
          (take c.loop-len.len c.loop-len.held)
          (take c.put_reference-len.result c.put_reference-len.new.held) _ v.0 v.3 first
          c.put_reference-len.ensures.put,
    )
