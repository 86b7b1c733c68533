-- What a writer gets of a text that is read.
use Rattle.std.specs.Prelude.{ℕ, Bool, List, Option}
use Rattle.std.specs.Io.KnownBytes.{Appends}
pub use Rattle.upload_rules.specs.Reading.{AreOf}

-- such bytes of the text were written
pub record AppendsOf (sure : Bool) (old new : Option (List ℕ)) (text : List ℕ) : Type 0 where
  pub bytes : List ℕ
  pub are : AreOf sure bytes text
  pub wrote : Appends old new bytes
