-- The state of the UTF-16 decoder.
use Rattle.std.specs.Prelude.{Bool}
use Rattle.enc_model.specs.Utf16.{Utf16}

-- A state of the handler, with the byte order.
pub record InOrder : Type 0 where
  pub big : Bool
  pub state : Utf16
