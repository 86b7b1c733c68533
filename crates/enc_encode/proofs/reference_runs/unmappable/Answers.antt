use Rattle.std.proofs.Common.{rules, ◌≡◌, ◌∷◌, [], None, refl, subst}
use Rattle.enc_model.specs.declared.Mode.TheVariants.{Html}
use Rattle.enc_model.specs.Encode.{coded, encoder, reference}
use Rattle.enc_model.specs.Indexes.{tables}
use Rattle.enc_encode.specs.State.{shift_of}
use Rattle.enc_encode.specs.declared.written.Bytes.TheVariants.{Zero}
use Rattle.enc_encode.proofs.Helds.{reference_code}
use Rattle.enc_encode.proofs.reference_runs.unmappable.Goals as goal

pub returns-in-Unmappable-Zero-default-default : goal.returns-in-Unmappable-Zero-default-default
returns-in-Unmappable-Zero-default-default c =
    let t = tables c.args.set.now in
    let s = shift_of c.args.shift in
    let it = c.in-Unmappable-Zero-default-default in
    let same : it.next ≡ c.args.shift = search rules in
    let code = reference_code t (record { to = c.args.to; mode = Html; shift = s }) c.args.to c.args.shift c.args.c Zero
    it.next it.d refl refl (rw (it.is, it.field-0-is) at c.written.ensures) in
    subst (λ z. coded (encoder t c.args.to) Html s (c.args.c ∷ []) ≡ record {
      bytes = reference it.d;
      state = shift_of z;
      fault = None;
    }) same code
