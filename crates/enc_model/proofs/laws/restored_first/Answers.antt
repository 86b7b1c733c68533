use Rattle.enc_model.specs.Utf8.{utf8}
use Rattle.enc_model.specs.Utf16.{utf16}
use Rattle.enc_model.specs.Japanese.{single, shift_jis, euc_jp, iso2022}
use Rattle.enc_model.proofs.Steps.{steps_cons}
use Rattle.enc_model.proofs.Calm.{utf8_calm, utf16_calm, single_calm, shift_jis_calm, euc_jp_calm, iso2022_calm}
use Rattle.enc_model.proofs.laws.restored_first.Goals as goal

pub returns : goal.returns
returns c = record {
  utf8 = steps_cons utf8 utf8_calm;
  utf16 = λ o. steps_cons (utf16 o) (utf16_calm o);
  single = λ i. steps_cons (single i) (single_calm i);
  shift_jis = λ i. steps_cons (shift_jis i) (shift_jis_calm i);
  euc_jp = λ i j. steps_cons (euc_jp i j) (euc_jp_calm i j);
  iso2022 = λ i. steps_cons (iso2022 i) (iso2022_calm i);
}
