use Rattle.enc_model.specs.Utf8.{utf8}
use Rattle.enc_model.specs.Utf16.{utf16}
use Rattle.enc_model.specs.Japanese.{single, shift_jis, euc_jp, iso2022}
use Rattle.enc_model.proofs.Calm.{utf8_calm, utf16_calm, single_calm, shift_jis_calm, euc_jp_calm, iso2022_calm}
use Rattle.enc_laws.proofs.ByAnswers.{by_answers}
use Rattle.enc_laws.proofs.equations.decodes_by_answers.Goals as goal

pub returns : goal.returns
returns c = record {
  utf8 = by_answers utf8 utf8_calm;
  utf16 = λ o. by_answers (utf16 o) (utf16_calm o);
  single = λ i. by_answers (single i) (single_calm i);
  shift_jis = λ i. by_answers (shift_jis i) (shift_jis_calm i);
  euc_jp = λ i j. by_answers (euc_jp i j) (euc_jp_calm i j);
  iso2022 = λ i. by_answers (iso2022 i) (iso2022_calm i);
}
