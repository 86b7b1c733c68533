use Rattle.std.proofs.Common.{◌≡◌, length, refl, rules, arith}
use Rattle.spool_disk.proofs.Gave.{once_none, once_one}
use Rattle.spool_journal.specs.declared.TheConstants.{PAGE}
use Rattle.spool_pages.specs.View.{state_page}
use Rattle.spool_load.proofs.Looks.{length-state, read_is, read_padded}
use Rattle.spool_load.proofs.Refused.{state_read}
use Rattle.spool_load.proofs.finding.load_state.Goals as goal

pub returns-clause-decoded : goal.returns-clause-decoded
returns-clause-decoded g c bytes gave version next fits are_at =
    let padded =
    read_padded bytes _ _ c.in_ok-page.page (state_page version next) PAGE
    (read_is bytes _ _ c.in_ok-page.ensures.given gave) (search rules) refl
    (omega (arith, length-state version next)) are_at in
    c.found_in.ensures.decoded version next fits padded

pub returns-clause-found : goal.returns-clause-found
returns-clause-found g c bytes gave =
    state_read bytes c.args.layout _ c.in_ok-page.page c.found_in.result
    (read_is bytes _ _ c.in_ok-page.ensures.given gave) (search rules) (omega arith)
    c.found_in.ensures.layout c.found_in.ensures.fields c.found_in.ensures.rest c.found_in.ensures.unknown

pub returns-clause-once : goal.returns-clause-once
returns-clause-once g c =
    let wide : length c.in_ok-page.page ≡ PAGE = search rules in
    once_one c.in_ok-page.ensures.given (λ p from below. (from, omega (arith, below, wide)))

pub returns-in_err-page-clause-once : goal.returns-in_err-page-clause-once
returns-in_err-page-clause-once g c = once_none c.in_err-page.ensures.none
