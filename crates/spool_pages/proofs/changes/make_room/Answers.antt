use Rattle.std.proofs.Common.{◌≡◌, ℕ, Bool, false, None, IsTrue, IsSome, List, refl, arith}
use Rattle.spool_journal.proofs.Puts.{put_area}
use Rattle.spool_pages.specs.Changes.{page_in}
use Rattle.spool_pages.proofs.PageIn.{number_none, in_put, in_put_else}
use Rattle.spool_pages.proofs.changes.make_room.Goals as goal

absent : (page : ℕ) (pages : List (ℕ × List ℕ)) (there : Bool) → (IsSome (page_in page pages) → IsTrue there)
    → there ≡ false → page_in page pages ≡ None
absent page pages there shown is = grind arith

pub put-requires : goal.put-requires
put-requires c = number_none c.args.page c.args.pages.now
    (absent c.args.page c.args.pages.now c.is_there.result c.is_there.ensures.1 c.if-not-is_there.true)

pub returns-in_ok-put-clause-there : goal.returns-in_ok-put-clause-there
returns-in_ok-put-clause-there c =
    rw (in_put c.in_ok-put.ensures.put
    (absent c.args.page c.args.pages.now c.is_there.result c.is_there.ensures.1 c.if-not-is_there.true)) refl

pub returns-in_ok-put-clause-others : goal.returns-in_ok-put-clause-others
returns-in_ok-put-clause-others c other ne = in_put_else c.in_ok-put.ensures.put other ne

pub returns-in_ok-put-clause-area : goal.returns-in_ok-put-clause-area
returns-in_ok-put-clause-area c j inside area = put_area c.in_ok-put.ensures.put area inside
