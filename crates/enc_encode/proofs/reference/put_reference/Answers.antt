use Rattle.std.proofs.Common.{◌++◌, ◌∷◌, [], ◌∙◌, ap, arith, take, get_or}
use Rattle.enc_encode.proofs.Digits.{reference_by}
use Rattle.enc_encode.proofs.reference.put_reference.Goals as goal

pub returns-in-100-to-999-clause-put : goal.returns-in-100-to-999-clause-put
returns-in-100-to-999-clause-put c =
    let d = c.last_digits.result in
    c.put_bytes.ensures.put ∙ ap (λ z. take c.args.from c.args.held.now ++ z)
    (reference_by c.args.c (get_or d 2 0 ∷ get_or d 3 0 ∷ get_or d 4 0 ∷ [])
    (c.last_digits.ensures.three (omega arith) (omega arith)))

pub returns-in-1000-to-9999-clause-put : goal.returns-in-1000-to-9999-clause-put
returns-in-1000-to-9999-clause-put c =
    let d = c.last_digits.result in
    c.put_bytes-in-1000-to-9999.ensures.put ∙ ap (λ z. take c.args.from c.args.held.now ++ z)
    (reference_by c.args.c (get_or d 1 0 ∷ get_or d 2 0 ∷ get_or d 3 0 ∷ get_or d 4 0 ∷ [])
    (c.last_digits.ensures.four (omega arith) (omega arith)))

pub returns-in-10000-to-99999-clause-put : goal.returns-in-10000-to-99999-clause-put
returns-in-10000-to-99999-clause-put c =
    let d = c.last_digits.result in
    c.put_bytes-in-10000-to-99999.ensures.put ∙ ap (λ z. take c.args.from c.args.held.now ++ z)
    (reference_by c.args.c (get_or d 0 0 ∷ get_or d 1 0 ∷ get_or d 2 0 ∷ get_or d 3 0 ∷ get_or d 4 0 ∷ [])
    (c.last_digits.ensures.five (omega arith) (omega arith)))
