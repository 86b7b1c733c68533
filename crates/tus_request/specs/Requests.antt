-- Requests, and refused requests.
use Rattle.std.specs.Prelude.{ℕ, Bool, List, Option}
use Rattle.enc_model.specs.declared.Encoding.{Encoding}
use Rattle.enc_model.specs.declared.Mode.{Mode}
use Rattle.tus_request.specs.declared.faults.Fault.{Fault}

-- A new upload: its length if that is known, the encoding of its bytes and of its text, the error mode, and the
-- metadata as given.
pub record Creation : Type 0 where
  pub declared : Option ℕ
  pub from : Encoding
  pub to : Encoding
  pub mode : Mode
  pub metadata : List ℕ

-- What a request asks for. A PATCH has an offset, and possibly a length that it declares.
pub data Action : Type 0 where
  Options : Action
  Create : Creation → Action
  Head : ℕ → Action
  Get : ℕ → Action
  Patch : ℕ → ℕ → Option ℕ → Action
  Delete : ℕ → Action

-- A request that passed its checks: the length of its body, whether its method is HEAD, whether it is a PATCH that
-- awaits 100 Continue, and whether the connection closes after the reply.
pub record Request : Type 0 where
  pub action : Action
  pub length : ℕ
  pub bare : Bool
  pub expects : Bool
  pub closes : Bool

-- A refused request: the reason, the length of its body, whether its path is `/files`, whether its method is HEAD, and
-- whether the connection closes.
pub record Refusal : Type 0 where
  pub fault : Fault
  pub length : ℕ
  pub on_files : Bool
  pub bare : Bool
  pub closes : Bool

-- The verdict on a finished head.
pub data Verdict : Type 0 where
  Asks : Request → Verdict
  Refuses : Refusal → Verdict

abbrev pub body_length : Verdict → ℕ
body_length (Asks r) = r.length
body_length (Refuses r) = r.length
