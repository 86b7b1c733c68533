-- Reading a text.
use Rattle.std.specs.Prelude.{◌≡◌, ℕ, ◌-◌, Bool, true, List, [], ◌++◌, length, take, drop, min, Option, Some, None}
use Rattle.upload_rules.specs.declared.errors.UploadRefusal.{UploadRefusal}
use Rattle.upload_rules.specs.declared.errors.UploadRefusal.TheVariants.{NoSuch}
use Rattle.upload_rules.specs.Store.{Upload, Store, text_of}
pub use Rattle.common.specs.Reading.{IsRead}

-- NoSuch, unless the upload is there.
abbrev pub no_such : Option Upload → Option UploadRefusal
no_such None = Some NoSuch
no_such (Some u) = None

-- The text of the upload, if there is one.
abbrev pub text_at : Store → Option Upload → List ℕ
text_at m None = []
text_at m (Some u) = text_of m.indexes u

-- n bytes were read. They are the text's if that is sure.
pub record IsReadOf (sure : Bool) (text : List ℕ) (at n : ℕ) (old new : List ℕ) : Type 0 where
  pub count : n ≡ min (length text - at) (length old)
  pub read : sure ≡ true → IsRead text at n old new

-- As many bytes as the text has, and these very bytes if that is sure.
pub record AreOf (sure : Bool) (bytes text : List ℕ) : Type 0 where
  pub size : length bytes ≡ length text
  pub same : sure ≡ true → bytes ≡ text
