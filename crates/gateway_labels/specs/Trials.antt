-- What an encoding makes of some bytes.
use Rattle.std.specs.Prelude.{◌≡◌, ℕ, Bool, false, List, chars}
use Rattle.sha2.specs.Sha256.{sha256}
use Rattle.enc_model.specs.declared.Encoding.{Encoding}
use Rattle.enc_model.specs.declared.Encoding.TheVariants.{Utf8}
use Rattle.enc_model.specs.declared.Mode.TheVariants.{Html}
use Rattle.enc_model.specs.Decode.{text}
use Rattle.enc_model.specs.Encode.{Tables}
use Rattle.enc_model.specs.Transcode.{IsStateAt, so_far}
use Rattle.gateway_labels.specs.Measured.{IsMeasured}
use Rattle.gateway_labels.specs.Rule.{capped, lost_in, strangeness}
use Rattle.gateway_labels.specs.declared.choice.Choice.{Choice}
use Rattle.gateway_labels.specs.declared.trial.Trial.{Trial}

-- THE TEXT OF SOME BYTES BY A LABEL: what an upload of them has in UTF-8. An unfinished character is lost at their end,
-- and isn't where they go on
abbrev pub text_as : Tables → Encoding → List ℕ → Bool → List ℕ
text_as t encoding input is_whole = (text t encoding Utf8 Html input is_whole).bytes

-- the encoding that is tried
abbrev pub tried : Trial → Encoding
tried trial = trial.transcoder.transcoder.from

-- these bytes were read, and all is known of the text so far
pub record IsTrialOf (t : Tables) (trial : Trial) (input : List ℕ) : Type 0 where
  pub going : trial.transcoder.spent ≡ false
  pub to : trial.transcoder.transcoder.to ≡ Utf8
  pub mode : trial.transcoder.transcoder.mode ≡ Html
  pub at : IsStateAt t trial.transcoder.transcoder input
  pub measured : IsMeasured trial.measure (so_far t trial.transcoder.transcoder input).bytes

-- THE CHOICE IS WHAT THE RULE SAYS of the text that its encoding makes of these bytes
pub record IsChoiceOf (t : Tables) (choice : Choice) (input : List ℕ) (is_whole : Bool) : Type 0 where
  pub lost : choice.lost ≡ capped (lost_in (chars (text_as t choice.encoding input is_whole)))
  pub strangeness : choice.strangeness ≡ capped (strangeness (chars (text_as t choice.encoding input is_whole)))
  pub digest : choice.digest ≡ sha256 (text_as t choice.encoding input is_whole)
