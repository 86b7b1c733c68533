use Rattle.std.proofs.Common.{◌≡◌, length, rules, ◌*◌, ◌+◌, ℕ, refl, sym, ◌∙◌, ap, arith, subst}
use Rattle.spool_disk.specs.Given.{ReadsOnce}
use Rattle.spool_journal.specs.declared.TheConstants.{PAGE}
use Rattle.spool_disk.proofs.Firm.{lasts_call, lasts_on}
use Rattle.spool_disk.proofs.Gave.{once_none, once_one}
use Rattle.spool_journal.proofs.Gate.{placing_image}
use Rattle.spool_journal.proofs.Recovers.{placing_preserves, page_read_at, placing_content}
use Rattle.spool_journal.proofs.recovery.copy_page.Goals as goal

pub returns-clause-placing : goal.returns-clause-placing
returns-clause-placing g c honest j i opened placing lt e =
    c.place.ensures.placing (c.read.ensures.honest.0 honest) j i opened
    (placing_preserves placing (c.read.ensures.preserves honest)) lt e

pub returns-clause-upto : goal.returns-clause-upto
returns-clause-upto g c honest j i opened placing upto lt e from =
    c.place.ensures.upto (c.read.ensures.honest.0 honest) i opened (λ p. (c.read.ensures.preserves honest).same p
    ∙ upto p)
    e
    (λ x below. sym (page_read_at _ opened (PAGE * (3 + i)) _ _ _ (search rules) (ap (λ (n : ℕ). PAGE * n) from)
    (c.in_ok-read.ensures.bytes honest refl) x below (placing_content placing i x lt below)))

pub returns-clause-lasts : goal.returns-clause-lasts
returns-clause-lasts g c honest j i few opened placing lt e =
    let unchanged = placing_preserves placing (c.read.ensures.preserves honest) in
    lasts_on (lasts_call (c.read.ensures.time honest) (λ image is. placing_image few unchanged is))
    (c.place.ensures.lasts (c.read.ensures.honest.0 honest) j i few opened unchanged lt e)

pub returns-clause-reads : goal.returns-clause-reads
returns-clause-reads g c =
    let wide : length c.read.new.buf ≡ PAGE = search rules in
    subst (ReadsOnce _ _) (sym c.place.ensures.reads)
    (once_one c.in_ok-read.ensures.given (λ p from below. (omega (arith, from), omega (arith, below, wide))))

pub returns-in_err-read-clause-reads : goal.returns-in_err-read-clause-reads
returns-in_err-read-clause-reads g c = once_none c.in_err-read.ensures.none
