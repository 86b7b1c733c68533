use Rattle.std.proofs.Common.{◌∙◌, ap, map, refl}
use Rattle.std.specs.Char.{to_ascii_lowercase}
use Rattle.std.proofs.lemmas.Str.Ascii.{trim_ascii_is}
use Rattle.enc_labels.specs.Labels.{found_label, labels, stripped, encoding_of}
use Rattle.enc_labels.proofs.encoding_of.Goals as goal

pub returns : goal.returns
unfolding encoding_of stripped labels
returns c = c.find.ensures ∙ ap (λ name. found_label labels (map to_ascii_lowercase name))
    (trim_ascii_is _ _ _ refl c.trim_ascii.ensures.value)
