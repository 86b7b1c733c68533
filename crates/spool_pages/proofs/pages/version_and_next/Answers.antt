use Rattle.std.proofs.Common.{◌<◌, ◌^◌, ℕ, List, refl, arith}
use Rattle.std.specs.Int.{to_be_bytes, w32, w64}
use Rattle.spool_journal.specs.Image.{byte_of}
use Rattle.spool_pages.specs.Bytes.{IsPadded}
use Rattle.spool_pages.specs.View.{AreAt, state_page, version_number}
use Rattle.spool_pages.specs.declared.version.Version.{Version}
use Rattle.spool_pages.specs.declared.version.Version.TheVariants.{One, Two}
use Rattle.spool_pages.proofs.RecordBytes.{padded_at, at_both, at_prefix, at_beyond}
use Rattle.spool_pages.proofs.pages.version_and_next.Goals as goal

module _ (page : List ℕ) (version : Version) (next : ℕ) (padded : IsPadded page (state_page version next)) where
  version_at : AreAt (byte_of page) 0 4 (to_be_bytes w32 (version_number version))
  unfolding state_page
  version_at = at_prefix (to_be_bytes w32 (version_number version)) (to_be_bytes w64 next) 4 refl (omega arith)
      (padded_at 12 padded)

  next_at : AreAt (byte_of page) 4 8 (to_be_bytes w64 next)
  unfolding state_page
  next_at = at_beyond (to_be_bytes w32 (version_number version)) (to_be_bytes w64 next) 4 8 refl (omega arith)
      (padded_at 12 padded)

small : (version : Version) → version_number version < 2 ^ 32
small One = omega arith
small Two = omega arith

pub returns-in-Some-clause-encoded : goal.returns-in-Some-clause-encoded
returns-in-Some-clause-encoded c version next fits padded =
    let page = c.args.page.now in
    let number =
    c.get_u32.ensures.is (version_number version) (small version) (version_at page version next padded) in
    let known = c.of.ensures.known version number in
    let next_is = c.get_u64.ensures.is next fits (next_at page version next padded) in
    cc (c.in-Some.is)

pub returns-in-Some-clause-there : goal.returns-in-Some-clause-there
unfolding state_page
returns-in-Some-clause-there c =
    let version = to_be_bytes w32 (version_number c.in-Some.version) in
    let number = rw c.in-Some.is at c.of.ensures.only in
    at_both version (to_be_bytes w64 c.get_u64.result) 4 8 refl (rw number c.get_u32.ensures.there)
    c.get_u64.ensures.there

pub returns-in-None-clause-encoded : goal.returns-in-None-clause-encoded
returns-in-None-clause-encoded c version next fits padded =
    let at = version_at c.args.page.now version next padded in
    let known = c.of.ensures.known version (c.get_u32.ensures.is (version_number version) (small version) at) in
    absurd (cc (c.in-None.is))

pub returns-in-None-clause-unknown : goal.returns-in-None-clause-unknown
returns-in-None-clause-unknown c none version are_at =
    let known = c.of.ensures.known version (c.get_u32.ensures.is (version_number version) (small version) are_at) in
    cc (c.in-None.is)
