-- What was read is a valid view of the bytes.
use Rattle.std.specs.Prelude.{◌≡◌, ◌↔◌, ℕ, ◌*◌, ◌≤◌, IsTrue, MatchResult, Result}
use Rattle.spool_journal.specs.declared.TheConstants.{PAGE}
use Rattle.spool_journal.specs.Image.{all_pages, overlaid}
use Rattle.spool_catalog.specs.Holding.{Holding}
use Rattle.spool_catalog.specs.Catalog.{HasViewAlone}
use Rattle.spool_catalog.specs.Loads.{LoadsAs}
use Rattle.spool_catalog.specs.Shows.{IsValid}
use Rattle.spool_catalog.specs.declared.error.OpenFault.{OpenFault}
use Rattle.spool_pages.specs.View.{View, AreAt, Encodes, IsViewOf, state_place, state_page}
use Rattle.spool_pages.specs.declared.version.Version.{Version}
use Rattle.spool_load.specs.Reads.{EncodesBlocks}
use Rattle.spool_load.specs.Refusals.{HasJournal, NotFoundBy, RefusedBy, RefusedHere}
use Rattle.spool_load.specs.declared.finding.Found.{Found}

-- The fields of the state page, and whether its rest is zeros.
pub record FoundIsAt (bytes : ℕ → ℕ) (found : Found) : Type 0 where
  pub fields : AreAt bytes (state_place found.layout) 12 (state_page found.version found.next)
  pub rest : IsTrue found.is_rest_blank ↔ AreAt bytes (state_place found.layout) PAGE
      (state_page found.version found.next)

-- What the reads of a recovery gave begins as a spool of this layout, its journal is valid, and the state page is what
-- they gave after it.
pub record FoundBy (size : ℕ) (before after : ℕ → ℕ) (found : Found) : Type 0 where
  pub encodes : EncodesBlocks size before found.layout
  pub journal : HasJournal found.layout before
  pub state : FoundIsAt after found

-- The same of what a read gives now.
abbrev pub FoundOn : ℕ → (ℕ → ℕ) → Found → Type 0
FoundOn size current = FoundBy size current (overlaid current)

-- This version and this next number were found, with zeros after them.
pub record IsFoundState (decoded : Version) (number : ℕ) (found : Found) : Type 0 where
  pub version : found.version ≡ decoded
  pub next : found.next ≡ number
  pub rest : IsTrue found.is_rest_blank

-- A spool of this view was found.
pub record IsFoundOf (v : View) (found : Found) : Type 0 where
  pub blocks : found.layout ≡ v.blocks
  pub state : IsFoundState v.version v.next found

-- The catalog has a valid view of these bytes, with n blocks.
pub record LoadedFrom (bytes : ℕ → ℕ) (n : ℕ) (catalog : Holding) : Type 0 where
  pub view : View
  pub valid : IsValid view
  pub blocks : view.blocks ≡ n
  pub encodes : Encodes bytes view
  pub has_view : HasViewAlone catalog view

-- What the reads of an opening gave encodes this view: it begins as a spool of as many blocks, its journal is valid,
-- and after the recovery come the view's bytes.
pub record EncodesBy (size : ℕ) (before after : ℕ → ℕ) (v : View) : Type 0 where
  pub begins : EncodesBlocks size before v.blocks
  pub journal : HasJournal v.blocks before
  pub encodes : Encodes after v

-- It encodes a valid view, of which this is so.
pub record ReadsView (size : ℕ) (before after : ℕ → ℕ) (So : View → Type 0) : Type 0 where
  pub view : View
  pub valid : IsValid view
  pub encodes : EncodesBy size before after view
  pub so : So view

-- The answers of `find` and of `load` by what the reads gave. What was found or read is what the reads encode. Each
-- error has its reason. A valid view is found and read, unless memory or the disk refuses.

-- So it is on a disk that begins as a spool of n blocks.
pub record RestoresBy (n : ℕ) (result : Result Found OpenFault) (before after : ℕ → ℕ) : Type 0 where
  pub answer : MatchResult result (λ found. HasJournal n before × FoundIsAt after found) (RefusedHere n before after)
  pub restores : (v : View) → IsValid v → v.blocks ≡ n → HasJournal n before → Encodes after v
      → LoadsAs result (IsFoundOf v)

pub record FindsBy (size : ℕ) (before after : ℕ → ℕ) (result : Result Found OpenFault) : Type 0 where
  pub answer : MatchResult result (FoundBy size before after) (NotFoundBy size before after)
  pub finds : (v : View) → IsValid v → EncodesBy size before after v → LoadsAs result (IsFoundOf v)

pub record LoadsBy (size : ℕ) (before after : ℕ → ℕ) (result : Result Holding OpenFault) : Type 0 where
  pub answer : MatchResult result (λ catalog. ReadsView size before after (HasViewAlone catalog))
      (RefusedBy size before after)
  pub loads : (v : View) → IsValid v → EncodesBy size before after v
      → LoadsAs result (λ catalog. HasViewAlone catalog v)

-- The catalog has a valid view by the plain reading, and the disk has room for its blocks.
pub record OpenedFrom (size : ℕ) (current : ℕ → ℕ) (catalog : Holding) : Type 0 where
  pub view : View
  pub valid : IsValid view
  pub is : IsViewOf current view
  pub room : PAGE * all_pages view.blocks ≤ size
  pub has_view : HasViewAlone catalog view
