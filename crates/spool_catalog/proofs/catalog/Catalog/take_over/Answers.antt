use Rattle.std.proofs.Common.{rules, ◌≡◌, ◌∙◌, ◌<◌, ◌≤◌, ◌/◌, [], None, Some, length, get_or, subst, arith, refl}
use Rattle.std.proofs.lemmas.List.{get_or_default}
use Rattle.spool_journal.specs.declared.TheConstants.{PAGE}
use Rattle.common.specs.declared.limits.TheConstants.{MOST_BLOCKS}
use Rattle.spool_catalog.specs.Rows.{HandsOver}
use Rattle.spool_catalog.specs.Longer.{longer_record}
use Rattle.spool_catalog.specs.Holding.{FitsTogether}
use Rattle.spool_catalog.specs.contracts.catalog.Catalog.{the_view}
use Rattle.spool_catalog.proofs.slots.LongerInCatalog.{room_of, slot_few, fits_same, fits_longer}
use Rattle.spool_catalog.proofs.catalog.Catalog.take_over.Goals as goal

pub own-requires-clause-room : goal.own-requires-clause-room
own-requires-clause-room c =
    let fits = subst FitsTogether c.self.view_is c.self.invariant in
    let may = c.requires.may in
    let room = room_of c.args.self.now fits c.args.longer.now.slot may.used may.there c.requires.reserved in
    omega (arith, c.full_blocks-full.ensures.full may.used may.there, room, c.full_blocks-full.ensures.few)

pub invariant_of-self : goal.invariant_of-self
invariant_of-self c =
    let may = c.requires.may in
    let slot = c.args.longer.now.slot in
    let there : get_or (the_view c.self.inside).slots slot None ≡ Some may.used = rw (← c.self.view_is) at may.there in
    rw (c.set_record.ensures may.used there) (fits_same (the_view c.self.inside) c.self.invariant slot may.used there
    (longer_record may.used c.args.longer.now) refl (may.same (search rules)))

pub invariant_of-self-2 : goal.invariant_of-self-2
invariant_of-self-2 c =
    let h = the_view c.self.inside in
    let may = c.requires.may in
    let slot = c.args.longer.now.slot in
    let first = may.used.text_len / PAGE in
    let there : get_or h.slots slot None ≡ Some may.used = rw (← c.self.view_is) at may.there in
    let full : c.full_blocks-full.result ≡ first = c.full_blocks-full.ensures.full may.used may.there in
    let here : c.index_mut.result.now ≡ get_or h.lists slot [] =
    c.index_mut.ensures.value ∙ get_or_default h.lists slot c.index_mut.result.now []
    (omega (arith, slot_few h c.self.invariant slot may.used there, c.self.invariant.list_count)) in
    let held = rw (← c.self.view_is) at c.requires.reserved in
    let few : length h.blocks.rows ≤ MOST_BLOCKS = rw (← c.self.view_is) at c.full_blocks-full.ensures.few in
    let hands : HandsOver h.blocks.rows slot first c.args.more.now c.own.new.self.rows =
    rw (← full) (assumption c.own.ensures) in
    rw (c.set_record-2.ensures may.used there, c.in_ok-replace_from.ensures.done, here, full)
    (fits_longer h c.self.invariant slot may.used there (longer_record may.used c.args.longer.now) refl c.args.more.now
    c.own.new.self hands held (may.blocks (search rules)) few)

pub returns-then-is_empty-clause-longer : goal.returns-then-is_empty-clause-longer
returns-then-is_empty-clause-longer c r there =
    let none : length c.args.more.now ≡ 0 = search rules in
    rw (← c.self.view_is) (record {
      layout = refl;
      version = refl;
      next = refl;
      indexes = refl;
      slots = c.set_record.ensures r (rw (← c.self.view_is) at there);
      same = λ e. refl;
      rows = λ lt. absurd (omega (arith, lt, none));
    })

pub returns-clause-longer : goal.returns-clause-longer
returns-clause-longer c r there =
    let some : 0 < length c.args.more.now = search rules in
    rw (← c.self.view_is) (record {
      layout = refl;
      version = refl;
      next = refl;
      indexes = refl;
      slots = c.set_record-2.ensures r (rw (← c.self.view_is) at there);
      same = λ e. absurd (omega (arith, e, some));
      rows = λ lt. rw (← c.full_blocks-full.ensures.full r there) (assumption c.own.ensures);
    })
