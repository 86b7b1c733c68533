-- The text that bytes are in UTF-8.
use Rattle.std.proofs.Common.{◌≡◌, ◌⊎◌, ℕ, List, Bool, true, false, Option, Some, None, inl, inr, ap, refl, subst}
use Rattle.std.specs.Str.{IsUtf8, is_utf8}
use Rattle.std.proofs.lemmas.Str.{IsUtf8-from_is_utf8, is_utf8-from_IsUtf8}
use Rattle.gateway_outside.specs.Bools.{true_or_false}
use Rattle.gateway_texts.specs.Naming.{text_in}

pub text_some : (bytes text : List ℕ) → text ≡ bytes → IsUtf8 text → Some text ≡ text_in (Some bytes)
text_some bytes text same utf8 =
    rw (is_utf8-from_IsUtf8 bytes (subst IsUtf8 same utf8)) (ap (λ x. Some x) same)

pub text_none : (bytes : List ℕ) → (IsUtf8 bytes → ⊥)
    → ◌≡◌ {A = Option (List ℕ)} None (text_in (Some bytes))
text_none bytes bad =
    elim (true_or_false (is_utf8 bytes)) [
      | inl t ↦ absurd (bad (IsUtf8-from_is_utf8 bytes t))
      | inr f ↦ rw f refl
    ]
