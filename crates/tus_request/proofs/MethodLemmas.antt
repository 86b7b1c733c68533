-- The names of the methods are tokens.
use Rattle.std.specs.Prelude.{◌≡◌, ℕ, ◌<◌, true, false, List, length, bytes_eq, codes}
use Rattle.std.proofs.Common.{arith, refl}
use Rattle.std.specs.List.{list_all}
use Rattle.http_header.specs.Token.{IsToken, is_token_byte}
use Rattle.http_header.proofs.TokenLemmas.{AllPass-from_test}
use Rattle.tus_request.specs.Methods.{verb_of}
use Rattle.tus_request.specs.declared.methods.Verb.TheVariants.{Other}
use Rattle.tus_request.proofs.FieldLemmas.{bytes_eq_other}

token_text : (text : List ℕ) → 0 < length text → list_all is_token_byte text ≡ true
    → (method : List ℕ) → ¬ (IsToken method) → bytes_eq method text ≡ false
token_text text some all method not =
    bytes_eq_other method text (λ e. not (rw e (some, AllPass-from_test is_token_byte text all)))

pub no_verb : (method : List ℕ) → ¬ (IsToken method) → verb_of method ≡ Other
unfolding is_token_byte
no_verb method not =
    rw (
      token_text (codes "OPTIONS") (omega arith) refl method not,
      token_text (codes "POST") (omega arith) refl method not,
      token_text (codes "HEAD") (omega arith) refl method not,
      token_text (codes "PATCH") (omega arith) refl method not,
      token_text (codes "GET") (omega arith) refl method not,
      token_text (codes "DELETE") (omega arith) refl method not,
    )
