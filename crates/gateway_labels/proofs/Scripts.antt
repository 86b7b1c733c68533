-- Scripts are compared by their numbers.
use Rattle.std.proofs.Common.{◌≡◌, ◌∙◌, ap, inl, inr, refl, rules, sym}
use Rattle.std.proofs.lemmas.Bool.Decides.{eqb_tells}
use denote.Enum.Bare.{false_same, sameb, true_same}
use Rattle.ucd_script.specs.Script.{script_eq, script_from_number, script_number}
use Rattle.ucd_script.specs.contracts.Script.{the_type}
use Rattle.ucd_script.specs.declared.Script.{Script}
use Rattle.ucd_script.specs.declared.Script.TheVariants.{Adlam}

number_is : (s : Script) → script_from_number (script_number s) ≡ s
number_is Adlam = refl
number_is s = refl

one_number : (s t : Script) → script_number s ≡ script_number t → s ≡ t
one_number s t e = sym (number_is s) ∙ ap script_from_number e ∙ number_is t

pub same_script : (s t : Script) → sameb the_type s t ≡ script_eq s t
same_script s t =
    elim (eqb_tells (script_number s) (script_number t)) [
      | inl same ↦ true_same the_type s t (one_number s t same.1) ∙ sym same.0
      | inr other ↦ false_same the_type (search rules) s t (λ e. other.1 (ap script_number e)) ∙ sym other.0
    ]
