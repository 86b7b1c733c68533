-- Each handler is calm.
use Rattle.std.proofs.Common.{Some, None, arith, true, false, refl, [], ◌==◌, Bool, lit≤, if◌then◌else◌}
use Rattle.std.proofs.lemmas.Grind.{common_steps}
use Rattle.enc_model.specs.Index.{Index}
use Rattle.enc_model.specs.declared.Answer.TheVariants.{Error, Finished}
use Rattle.enc_model.specs.declared.Charset.TheVariants.{Ascii, Roman, Katakana, Lead}
use Rattle.enc_model.specs.declared.Introducer.TheVariants.{Dollar, Paren}
use Rattle.enc_model.specs.declared.Place.TheVariants.{In, Trail, EscapeStart, Escape}
use Rattle.enc_model.specs.Stream.{EndsWithin, EndsStep, IsCalm}
use Rattle.enc_model.specs.Utf8.{utf8, utf8_start}
use Rattle.enc_model.specs.Utf16.{utf16, utf16_end}
use Rattle.enc_model.specs.Japanese.{single, shift_jis, euc_jp, euc_jp_start, iso2022, Iso2022}
use Rattle.enc_model.specs.Japanese.{iso2022_end}

pub utf8_calm : IsCalm utf8
unfolding utf8
utf8_calm = record {
  few = λ s b. grind (arith, common_steps);
  quiet = λ s b. grind (arith, common_steps);
  ends = λ s.
      elim (s.needed == 0) as (λ v. EndsStep (EndsWithin 3 utf8) utf8
      (if v then record {
        state = s;
        answer = Finished;
        restored = [];
      } else record { state = utf8_start; answer = Error; restored = [] }))
      [ true ↦ tt | false ↦ (lit≤ tt, tt, tt) ];
}

pub utf16_calm : (o : Bool) → IsCalm (utf16 o)
unfolding utf16
utf16_calm o = record {
  few = λ s b. grind (arith, common_steps);
  quiet = λ s b. grind (arith, common_steps);
  ends = λ s.
      elim s.byte as (λ x. EndsStep (EndsWithin 3 (utf16 o)) (utf16 o) (utf16_end x s.lead)) [
        | None ↦ elim s.lead as (λ y. EndsStep (EndsWithin 3 (utf16 o)) (utf16 o) (utf16_end None y))
            [ None ↦ tt | Some y ↦ (lit≤ tt, tt, tt) ]
        | Some x ↦ (lit≤ tt, tt, tt)
      ];
}

pub single_calm : (i : Index) → IsCalm (single i)
unfolding single
single_calm i = record { few = λ s b. lit≤ tt; quiet = λ s b. tt; ends = λ s. tt }

pub shift_jis_calm : (i : Index) → IsCalm (shift_jis i)
unfolding shift_jis
shift_jis_calm i = record {
  few = λ s b. grind (arith, common_steps);
  quiet = λ s b. grind (arith, common_steps);
  ends = λ s.
      elim (s == 0) as (λ v. EndsStep (EndsWithin 3 (shift_jis i)) (shift_jis i)
      (record { state = 0; answer = if v then Finished else Error; restored = [] }))
      [ true ↦ tt | false ↦ (lit≤ tt, tt, tt) ];
}

pub euc_jp_calm : (i j : Index) → IsCalm (euc_jp i j)
unfolding euc_jp
euc_jp_calm i j = record {
  few = λ s b. grind (arith, common_steps);
  quiet = λ s b. grind (arith, common_steps);
  ends = λ s.
      elim (s.lead == 0) as (λ v. EndsStep (EndsWithin 3 (euc_jp i j)) (euc_jp i j)
      (record { state = euc_jp_start; answer = if v then Finished else Error; restored = [] }))
      [ true ↦ tt | false ↦ (lit≤ tt, tt, tt) ];
}

ends2022 : (i : Index) (s : Iso2022) → EndsWithin 4 (iso2022 i) s
unfolding iso2022
ends2022 i s =
    elim s.place as (λ p. EndsStep (EndsWithin 3 (iso2022 i)) (iso2022 i) (iso2022_end p s.output s.flag)) [
      | In c ↦ tt
      | Trail l ↦ (lit≤ tt, tt, tt)
      | EscapeStart ↦ (lit≤ tt, tt, tt)
      | Escape Dollar ↦ elim s.output as
          (λ c. EndsStep (EndsWithin 3 (iso2022 i)) (iso2022 i) (iso2022_end (Escape Dollar) c s.flag)) [
            | Ascii ↦ (lit≤ tt, (refl, tt), tt)
            | Roman ↦ (lit≤ tt, (refl, tt), tt)
            | Katakana ↦ (lit≤ tt, (refl, tt), tt)
            | Lead ↦ (lit≤ tt, (refl, tt), (lit≤ tt, tt, tt))
          ]
      | Escape Paren ↦ elim s.output as
          (λ c. EndsStep (EndsWithin 3 (iso2022 i)) (iso2022 i) (iso2022_end (Escape Paren) c s.flag)) [
            | Ascii ↦ (lit≤ tt, (refl, tt), tt)
            | Roman ↦ (lit≤ tt, (refl, tt), tt)
            | Katakana ↦ (lit≤ tt, (refl, tt), tt)
            | Lead ↦ (lit≤ tt, (refl, tt), (lit≤ tt, tt, tt))
          ]
    ]

pub iso2022_calm : (i : Index) → IsCalm (iso2022 i)
unfolding iso2022
iso2022_calm i = record {
  few = λ s b. grind (arith, common_steps);
  quiet = λ s b. grind (arith, common_steps);
  ends = ends2022 i;
}
