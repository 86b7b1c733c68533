-- The properties of requests that passed the checks.
use Rattle.std.specs.Prelude.{◌≡◌, ◌<◌, ◌≤◌, ◌^◌, Bool, true, All, length}
use Rattle.common.specs.declared.limits.TheConstants.{MOST_METADATA}
use Rattle.enc_model.specs.declared.Encoding.{Encoding}
use Rattle.enc_model.specs.declared.Encoding.TheVariants.{Utf16Be, Utf16Le}
use Rattle.tus_request.specs.Requests.{Action, Options, Create, Head, Get, Patch, Delete}
use Rattle.tus_request.specs.Requests.{Creation, Request, Verdict, Asks, Refuses}
use Rattle.tus_request.specs.Answers.{Answer, More, Judged}

-- A new upload: its encodings are offered, its text isn't UTF-16, and its metadata is short and printable ASCII.
pub record IsValidCreation (offers : Encoding → Bool) (c : Creation) : Type 0 where
  pub from : offers c.from ≡ true
  pub to : offers c.to ≡ true
  pub no_utf16 : (c.to ≡ Utf16Be → ⊥) × (c.to ≡ Utf16Le → ⊥)
  pub short : length c.metadata ≤ MOST_METADATA
  pub plain : All (λ b. (0x20 ≤ b) × (b ≤ 0x7E)) c.metadata

-- The numbers and encodings of an action.
abbrev pub IsValidAction : (Encoding → Bool) → Action → Type 0
IsValidAction offers Options = Unit {0}
IsValidAction offers (Create c) = IsValidCreation offers c
IsValidAction offers (Head number) = Unit {0}
IsValidAction offers (Get number) = Unit {0}
IsValidAction offers (Patch number offset declare) = offset < 10 ^ 18
IsValidAction offers (Delete number) = Unit {0}

-- A length has at most 18 digits.
pub record IsValidRequest (offers : Encoding → Bool) (r : Request) : Type 0 where
  pub length_is : r.length < 10 ^ 18
  pub action_is : IsValidAction offers r.action

-- A verdict: refused requests have no such property.
abbrev pub IsValidVerdict : (Encoding → Bool) → Verdict → Type 0
IsValidVerdict offers (Asks r) = IsValidRequest offers r
IsValidVerdict offers (Refuses x) = Unit {0}

-- An answer.
abbrev pub IsValidAnswer : (Encoding → Bool) → Answer → Type 0
IsValidAnswer offers More = Unit {0}
IsValidAnswer offers (Judged n v) = IsValidVerdict offers v
