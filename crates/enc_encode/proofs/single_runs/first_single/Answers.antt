use Rattle.std.proofs.Common.{◌≡◌, refl, sym, subst, arith, inr, Some}
use Rattle.enc_index.specs.Entries.{found_pointer}
use Rattle.enc_encode.proofs.Twos.{two_begin}
use Rattle.enc_encode.proofs.single_runs.first_single.Goals as goal

pub returns : goal.returns
returns c more u =
    let test = c.if-c-ge2048.false in
    let value = c.in_ok-from_u32.ensures.value in
    let few = c.ranges.trail.fits in
    let lead = c.ranges.lead.fits in
    let b = two_begin c.args.lead c.args.trail more u (omega (arith, few)) (omega (arith, test, few, lead))
    (omega (arith, test, few, lead)) in
    let code = b.1 in
    let same : c.in_ok-from_u32.field-0 ≡ b.0 = omega (arith, value, code, few, lead, test) in
    record {
      c = b.0;
      parts = b.3;
      given = inr (
        b.2,
        c.in_ok-pointer.pointer,
        subst (λ z. found_pointer c.args.pointers.now z ≡ Some c.in_ok-pointer.pointer) same
            (sym c.in_ok-pointer.ensures),
        refl,
      );
    }
