-- The choices for the bytes of a reader.
use Rattle.std.specs.Prelude.{◌≡◌, ℕ, true, All, List, [], ◌∷◌, Option, length}
use Rattle.std.specs.Io.KnownBytes.{Consumes, IsAtEnd}
use Rattle.enc_model.specs.declared.Encoding.{Encoding}
use Rattle.enc_model.specs.declared.Encoding.TheVariants as e
use Rattle.enc_model.specs.Encode.{Tables}
use Rattle.enc_laws.specs.WellFormed.{AreBytes}
use Rattle.gateway_labels.specs.Trials.{IsChoiceOf, IsTrialOf}
use Rattle.gateway_labels.specs.declared.reading.Labels.{Labels}
use Rattle.gateway_labels.specs.declared.trial.Trial.{Trial}

-- all encodings, by their numbers
abbrev pub all_encodings : List Encoding
all_encodings =
    e.Utf8 ∷ e.Utf16Be ∷ e.Utf16Le ∷ e.ShiftJis ∷ e.EucJp ∷ e.Iso2022Jp ∷ e.Ibm866 ∷ e.Iso8859X2 ∷ e.Iso8859X5
    ∷ e.Iso8859X15 ∷ e.Koi8R ∷ e.Macintosh ∷ e.Windows1250 ∷ e.Windows1251 ∷ e.Windows1252 ∷ e.Windows1253
    ∷ e.Windows1254 ∷ e.Windows1255 ∷ e.Windows1256 ∷ e.Windows1257 ∷ e.Windows1258 ∷ []

-- so many bytes were read from what was left, and each trial has read them
pub record HaveRead (t : Tables) (trials : List Trial) (left left' : Option (List ℕ)) (bytes : ℕ) : Type 0 where
  pub input : List ℕ
  pub read : Consumes left left' input
  pub bytes_are : AreBytes input
  pub many : bytes ≡ length input
  pub have : All (λ trial. IsTrialOf t trial input) trials

-- SO MANY BYTES WERE READ from what was left, all of it if they are whole, and each choice is what the rule says of the
-- text that its encoding makes of them
pub record AreLabels (t : Tables) (left left' : Option (List ℕ)) (labels : Labels) : Type 0 where
  pub input : List ℕ
  pub read : Consumes left left' input
  pub many : labels.bytes ≡ length input
  pub end : labels.is_whole ≡ true → IsAtEnd left'
  pub choices : All (λ choice. IsChoiceOf t choice input labels.is_whole) labels.choices.items
