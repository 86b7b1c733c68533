use Rattle.std.proofs.Common.{◌+◌, ◌++◌, ◌∷◌, [], None, sym, ◌∙◌, ap, arith, slice_index_or, take}
use Rattle.std.proofs.lemmas.List.{take_more, length_push}
use Rattle.enc_index.proofs.Areas.{valid_more}
use Rattle.enc_index.proofs.area.single_of.Goals as goal

pub loop-place-preserved : goal.loop-place-preserved
loop-place-preserved c =
    let old = c.loop-place.single.items in
    let table = c.in_ok-table_of.field-0 in
    let place = c.loop-place.place in
    let before = c.loop-place.invariant in
    record {
      long = rw c.in_ok-push.ensures.items (length_push old table ∙ ap (λ n. n + 1) before.long);
      valid = rw c.in_ok-push.ensures.items (valid_more 128 old table before.valid c.in_ok-table_of.ensures.valid);
      given_back = λ single long files.
          let same = c.in_ok-table_of.ensures.given_back (slice_index_or single place None)
          (files place c.loop-place-test.true) in
          c.in_ok-push.ensures.items ∙ ap (λ xs. xs ++ table ∷ []) (before.given_back single long files)
          ∙ ap (λ y. take place single ++ y ∷ []) same
          ∙ sym (take_more single place None (omega arith));
    }
