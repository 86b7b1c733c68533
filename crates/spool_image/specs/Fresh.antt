-- A spool of version 2 without uploads, byte by byte.
use Rattle.std.specs.Prelude.{◌≡◌, ℕ, ◌-◌, ◌*◌, ◌<◌, ◌≤◌, nat_lt, if◌then◌else◌}
use Rattle.spool_journal.specs.declared.TheConstants.{PAGE}
use Rattle.enc_model.specs.Indexes.{IndexSet}
use Rattle.enc_index.specs.Area.{area_byte}
use Rattle.spool_journal.specs.Image.{byte_of, all_pages}
use Rattle.spool_pages.specs.View.{index_place, state_place, first_page, state_page}
use Rattle.spool_pages.specs.declared.version.Version.TheVariants.{Two}

-- Its bytes after page 0: zeros, the index area, and the state page with zeros after it.
unfoldable pub fresh_byte : ℕ → IndexSet → ℕ → ℕ
fresh_byte n x p =
    if nat_lt p (index_place n) then 0
    else if nat_lt p (state_place n) then area_byte x (p - index_place n)
    else byte_of (state_page Two 1) (p - state_place n)

-- All its pages except page 0 have these bytes, below `end`.
pub record IsFreshTo (n : ℕ) (x : IndexSet) (end : ℕ) (image : ℕ → ℕ) : Type 0 where
  pub each : (p : ℕ) → PAGE ≤ p → p < end → image p ≡ fresh_byte n x p

-- Page 0 is as before; some of it may have been synced.
pub record PreservesFirstPage (current current' : ℕ → ℕ) (unsynced unsynced' : ℕ → Type 0) : Type 0 where
  pub same : (p : ℕ) → p < PAGE → (unsynced p → ⊥) → current' p ≡ current p
  pub unsyncs : (p : ℕ) → p < PAGE → unsynced' p → unsynced p

-- All its pages have these bytes.
pub record IsFresh (n : ℕ) (x : IndexSet) (image : ℕ → ℕ) : Type 0 where
  pub prefix : (i : ℕ) → i < PAGE → image i ≡ byte_of (first_page n) i
  pub after : IsFreshTo n x (PAGE * all_pages n) image
