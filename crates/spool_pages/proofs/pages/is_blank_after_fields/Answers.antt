use Rattle.std.proofs.Common.{rules, refl, ◌≡◌, ◌+◌, ℕ, ◌↔◌, [], IsTrue, List, length, take, drop, arith}
use Rattle.spool_journal.specs.declared.TheConstants.{PAGE}
use Rattle.spool_journal.specs.Image.{byte_of}
use Rattle.spool_pages.specs.Bytes.{IsPadded}
use Rattle.spool_pages.specs.View.{AreAt, first_page, state_page}
use Rattle.spool_pages.proofs.Blank.{with_blank_rest, blank_rest, padded_of_at}
use Rattle.spool_pages.proofs.RecordBytes.{padded_at}
use Rattle.spool_pages.proofs.pages.is_blank_after_fields.Goals as goal

module _ (page fields : List ℕ) (full : length page ≡ PAGE) (long : length fields ≡ 12)
    (blank : Type 0) (exact : blank ↔ IsPadded (take 4084 (drop 12 page)) []) where
  all : 12 + 4084 ≡ length page
  all = omega (arith, full)

  both : AreAt (byte_of page) 0 12 fields → blank ↔ AreAt (byte_of page) 0 PAGE fields
  both prefix = (
    λ yes. padded_at PAGE (with_blank_rest page 12 4084 all fields long prefix (exact.0 yes)),
    λ whole.
        let padded = padded_of_at page fields PAGE full (omega (arith, long)) whole in
        exact.1 (blank_rest page 12 4084 all fields long padded),
  )

pub returns-clause-first : goal.returns-clause-first
unfolding first_page
returns-clause-first c blocks =
    both c.args.page.now (first_page blocks) (search rules) refl (IsTrue c.is_blank.result) c.is_blank.ensures

pub returns-clause-state : goal.returns-clause-state
unfolding state_page
returns-clause-state c version next =
    both c.args.page.now (state_page version next) (search rules) refl (IsTrue c.is_blank.result) c.is_blank.ensures
