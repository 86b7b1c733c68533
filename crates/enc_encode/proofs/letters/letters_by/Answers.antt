use Rattle.std.proofs.Common.{◌≡◌, ◌+◌, ◌-◌, Some, arith, subst}
use Rattle.enc_index.specs.Entries.{found_pointer}
use Rattle.enc_encode.proofs.letters.letters_by.Goals as goal

pub returns : goal.returns
returns c =
    let first = c.in_ok-pointer.pointer in
    let few = c.count_letters.ensures.few in
    record {
      lowest = omega arith;
      highest = omega (arith, few);
      each = λ d low high.
          let k = d - 1040 in
          let at : 1040 + k ≡ d = omega (arith, low) in (
            first + k,
            subst (λ z. found_pointer c.args.pointers.now z ≡ Some (first + k)) at
                (c.count_letters.ensures.each k (omega (arith, low, high))),
            omega (arith, low),
          );
    }
