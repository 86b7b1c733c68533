-- The text of an upload in an image.
use Rattle.std.specs.Prelude.{◌≡◌, ℕ, [], None, Some, length}
use Rattle.enc_model.specs.Indexes.{IndexSet}
use Rattle.upload_rules.specs.Store.{Upload, is_complete, text_of, text_with, accepted_count}
use Rattle.spool_pages.specs.View.{SlotRecord, View, slot_at, IsViewOf}

-- A slot of the image has the upload's number, the count of its accepted bytes and its text, without an unmappable
-- character. The text is the encoding of the decoding of all accepted bytes. Where the upload has an origin, it is the
-- origin's text and then, from the origin's states, that of the bytes since.
pub record HasText (image : ℕ → ℕ) (x : IndexSet) (k : ℕ) (u : Upload) : Type 0 where
  pub view : View
  pub is : IsViewOf image view
  pub slot : ℕ
  pub used : SlotRecord
  pub there : slot_at view slot ≡ Some used
  pub number : used.number ≡ k
  pub accepted : used.accepted ≡ accepted_count u
  pub text : view.texts slot ≡ text_of x u
  pub encodable : (text_with x u [] (is_complete u)).fault ≡ None
