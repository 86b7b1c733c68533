use Rattle.std.proofs.Common.{◌≡◌, ℕ, List, length, refl, rules, sym, ◌∙◌, subst, arith}
use Rattle.std.proofs.lemmas.Bool.{false≢true}
use Rattle.std.proofs.lemmas.Bool.Decides.{Decides-eqb}
use Rattle.std.proofs.lemmas.List.{ext_get_or}
use Rattle.std.proofs.lemmas.Slice.Eq.{slice_eq-Decides}
use Rattle.spool_journal.specs.declared.TheConstants.{PAGE}
use Rattle.spool_pages.specs.Bytes.{IsPadded}
use Rattle.spool_pages.specs.View.{AreAt, first_page}
use Rattle.spool_pages.proofs.Encodes.{all_is, some_journal}
use Rattle.spool_load.proofs.Looks.{length-first, padded_back, read_padded, part_once, read_is}
use Rattle.spool_load.proofs.reading.check_first.Goals as goal

pub read_at-requires : goal.read_at-requires
read_at-requires g c = omega (arith, all_is c.args.layout.now, some_journal c.args.layout.now, c.requires)

pub returns-then-eq-clause-valid : goal.returns-then-eq-clause-valid
returns-then-eq-clause-valid g c bytes gave =
    let wide : length c.read_at.new.buf ≡ PAGE = search rules in
    let blocks : c.blocks-2.result ≡ c.args.layout.now = c.blocks-2.ensures.same in
    let same : c.read_at.new.buf ≡ c.first_page.result =
    (slice_eq-Decides Decides-eqb _ _ c.eq.result c.eq.ensures).0 c.if-eq.true in
    subst (λ (n : ℕ). AreAt bytes 0 PAGE (first_page n)) blocks
    (padded_back bytes 0 0 c.read_at.new.buf (first_page c.blocks-2.result) PAGE
    (read_is bytes _ _ c.in_ok-read_at.ensures.given gave) wide refl
    (subst (λ (page : List ℕ). IsPadded page (first_page c.blocks-2.result)) (sym same) c.first_page.ensures))

pub returns-else-eq-clause-decoded : goal.returns-else-eq-clause-decoded
returns-else-eq-clause-decoded g c bytes gave are_at =
    let wide : length c.read_at.new.buf ≡ PAGE = search rules in
    let long : length c.first_page.result ≡ PAGE = search rules in
    let blocks : c.blocks-2.result ≡ c.args.layout.now = c.blocks-2.ensures.same in
    let there = subst (λ (n : ℕ). AreAt bytes 0 PAGE (first_page n)) (sym blocks) are_at in
    let padded =
    read_padded bytes 0 0 c.read_at.new.buf (first_page c.blocks-2.result) PAGE
    (read_is bytes _ _ c.in_ok-read_at.ensures.given gave) wide refl (omega (arith, length-first c.blocks-2.result))
    there in
    let same : c.read_at.new.buf ≡ c.first_page.result =
    ext_get_or 0 _ _ (wide ∙ sym long) (λ i lt. padded.each i ∙ sym (c.first_page.ensures.each i)) in
    absurd (false≢true (sym c.if-eq.false ∙ (slice_eq-Decides Decides-eqb _ _ c.eq.result c.eq.ensures).1 same))

pub returns-in_err-read_at-clause-once : goal.returns-in_err-read_at-clause-once
returns-in_err-read_at-clause-once g c =
    let wide : length c.read_at.new.buf ≡ PAGE = search rules in
    part_once _ _ c.read_at.result c.read_at.ensures.given c.read_at.ensures.none 0 PAGE (omega arith)
    (omega (arith, wide))

pub returns-then-eq-clause-once : goal.returns-then-eq-clause-once
returns-then-eq-clause-once g c =
    let wide : length c.read_at.new.buf ≡ PAGE = search rules in
    part_once _ _ c.read_at.result c.read_at.ensures.given c.read_at.ensures.none 0 PAGE (omega arith)
    (omega (arith, wide))

pub returns-else-eq-clause-once : goal.returns-else-eq-clause-once
returns-else-eq-clause-once g c =
    let wide : length c.read_at.new.buf ≡ PAGE = search rules in
    part_once _ _ c.read_at.result c.read_at.ensures.given c.read_at.ensures.none 0 PAGE (omega arith)
    (omega (arith, wide))
