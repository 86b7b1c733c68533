-- A view in version 2 is as valid as before, and shows the same uploads.
use Rattle.std.proofs.Common.{◌≡◌, ℕ, Some}
use Rattle.spool_blocks.specs.Chains.{Owns}
use Rattle.upload_rules.specs.Store.{Store, Upload, find}
use Rattle.spool_pages.specs.Changes.{upgraded}
use Rattle.spool_pages.specs.View.{View}
use Rattle.spool_catalog.specs.Shows.{HasSlot, IsOwned, IsValid, Shows}

pub upgraded_valid : (v : View) → IsValid v → IsValid (upgraded v)
upgraded_valid v valid =
    let owners : (b slot ordinal : ℕ) → Owns v.rows b slot ordinal → IsOwned (upgraded v) slot ordinal =
    λ b slot ordinal owns.
    let owned = valid.owners b slot ordinal owns in
    record { used = owned.used; there = owned.there; fits = owned.fits } in
    assumption (owners, valid)

pub upgraded_shows : (v : View) (m : Store) → Shows v m → Shows (upgraded v) m
upgraded_shows v m shows =
    let all : (n : ℕ) (u : Upload) → find n m.uploads ≡ Some u → HasSlot (upgraded v) n =
    λ n u there.
    let has = shows.all n u there in
    record { slot = has.slot; used = has.used; there = has.there; number = has.number } in
    assumption (upgraded_valid v shows.valid, all, shows)
