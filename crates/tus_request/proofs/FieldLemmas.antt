-- Names, compared.
use Rattle.std.specs.Prelude.{◌≡◌, ◌≢◌, ◌↔◌, ℕ, Bool, true, false, List, bytes_eq, IsTrue}
use Rattle.std.proofs.Common.{refl, sym, ◌∙◌, ap}
use Rattle.std.proofs.lemmas.Bool.{false_from_ne_true}
use Rattle.std.proofs.lemmas.Slice.Eq.{bytes_eq-Decides}

pub bytes_eq_same : (a : List ℕ) → bytes_eq a a ≡ true
bytes_eq_same a = (bytes_eq-Decides a a).1 refl

pub bytes_eq_other : (a b : List ℕ) → a ≢ b → bytes_eq a b ≡ false
bytes_eq_other a b other = false_from_ne_true _ (λ t. other ((bytes_eq-Decides a b).0 t))

-- what `eq_str` ensures, as a test of the bytes
pub same_name : (same : Bool) (given name : List ℕ) → (IsTrue same ↔ (name ≡ given)) → same ≡ bytes_eq given name
same_name true given name is = sym (ap (bytes_eq given) (is.0 refl) ∙ bytes_eq_same given)
same_name false given name is = sym (bytes_eq_other given name (λ e. absurd (cc (is.1 (sym e)))))
