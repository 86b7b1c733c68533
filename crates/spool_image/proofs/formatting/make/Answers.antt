use Rattle.std.proofs.Common.{inl, inr, rules, ⊎_elim}
use Rattle.spool_disk.proofs.Firm.{lasts_more, lasts_on, on_ok}
use Rattle.spool_image.proofs.Formats.{prefix_stays}
use Rattle.spool_image.proofs.Fresh.{fresh_on}
use Rattle.spool_image.proofs.NoUploads.{fresh_newest, fresh_shows}
use Rattle.spool_image.proofs.formatting.make.Goals as goal

pub returns-clause-shows : goal.returns-clause-shows
returns-clause-shows g c honest =
    let mid = c.write_pages.ensures.honest.0 honest in
    on_ok c.write_first.result (λ done. record {
      honest = c.write_first.ensures.honest.0 mid;
      room = search rules;
      each = λ image is.
          fresh_shows c.args.layout.now c.args.indexes.now image (fresh_on is (search rules) (search rules))
          (search rules)
          (search rules) c.in_ok-write_pages.ensures.valid;
    })

pub returns-clause-newest : goal.returns-clause-newest
returns-clause-newest g c honest =
    on_ok c.write_first.result (λ done image is.
    fresh_newest c.args.layout.now c.args.indexes.now image (fresh_on is (search rules) (search rules)) (search rules)
    (search rules) c.in_ok-write_pages.ensures.valid)

pub returns-in_err-write_pages-clause-crash : goal.returns-in_err-write_pages-clause-crash
returns-in_err-write_pages-clause-crash g c honest =
    lasts_more (c.write_pages.ensures.crash honest) (λ image stays. inl stays)

pub returns-clause-crash : goal.returns-clause-crash
returns-clause-crash g c honest =
    let mid = c.write_pages.ensures.honest.0 honest in
    let preserves = c.write_pages.ensures.prefix honest in
    lasts_on (lasts_more (c.write_pages.ensures.crash honest) (λ image stays. inl stays))
    (lasts_more
    (c.write_first.ensures.crash mid c.args.indexes.now c.in_ok-write_pages.ensures.valid
    (c.in_ok-write_pages.ensures.fresh honest))
    (λ image one. ⊎_elim (λ stays. inl (prefix_stays preserves image stays)) (λ made. inr made) one))
