-- What is known of a text, one piece on and at its end.
use Rattle.std.proofs.Common.{◌≡◌, ◌∙◌, ◌++◌, ℕ, Bool, true, false, List, [], None, ap, refl, subst, sym}
use Rattle.enc_model.specs.declared.Encoding.{Encoding}
use Rattle.enc_model.specs.declared.Encoding.TheVariants.{Utf8}
use Rattle.enc_model.specs.declared.Mode.{Mode}
use Rattle.enc_model.specs.declared.Mode.TheVariants.{Html}
use Rattle.enc_model.specs.Decode.{decode, text}
use Rattle.enc_model.specs.Encode.{Coded, InAscii, Tables, encode, encoder}
use Rattle.enc_model.specs.Transcode.{IsStateAt, Transcoder, added, added_end, so_far}
use Rattle.enc_model.proofs.Pieces.{decoded_none}
use Rattle.enc_model.proofs.Transcoding.{coded_none, text_added}
use Rattle.enc_stream.specs.TranscoderState.{TranscoderState, stepped_on}
use Rattle.enc_stream.proofs.Grows.{grows_end}
use Rattle.gateway_labels.specs.Measured.{IsMeasured}
use Rattle.gateway_labels.specs.Trials.{IsTrialOf, text_as}
use Rattle.gateway_labels.specs.declared.measure.Measure.{Measure}
use Rattle.gateway_labels.specs.declared.trial.Trial.{Trial}

no_text : (t : Tables) (s : Transcoder) → (so_far t s []).bytes ≡ []
no_text t s =
    rw (decoded_none t s.from) (ap (λ (r : Coded). r.bytes) (coded_none (encoder t s.to) s.mode InAscii))

pub measured_none : (t : Tables) (s : Transcoder) (measure : Measure) → IsMeasured measure []
    → IsMeasured measure (so_far t s []).bytes
measured_none t s measure is = subst (λ (x : List ℕ). IsMeasured measure x) (sym (no_text t s)) is

pub measured_more : (t : Tables) (s next : TranscoderState) (measure : Measure) (input piece code : List ℕ)
    → IsStateAt t s.transcoder input → next ≡ stepped_on t s piece → code ≡ (added t s.transcoder piece).bytes
    → IsMeasured measure ((so_far t s.transcoder input).bytes ++ code)
    → IsMeasured measure (so_far t next.transcoder (input ++ piece)).bytes
measured_more t s next measure input piece code at is coded measured =
    subst (λ (x : TranscoderState). IsMeasured measure (so_far t x.transcoder (input ++ piece)).bytes) (sym is)
    (subst (λ (x : List ℕ). IsMeasured measure x)
    (ap (λ (x : List ℕ). (so_far t s.transcoder input).bytes ++ x) coded
    ∙ sym (text_added t s.transcoder input piece at))
    measured)

text_open : (t : Tables) (s : Transcoder) (input : List ℕ)
    → (so_far t s input).bytes ≡ (text t s.from s.to s.mode input false).bytes
unfolding text decode encode
text_open t s input = refl

known_as : (t : Tables) (from to : Encoding) (mode : Mode) (input : List ℕ) (measure : Measure) (is_whole : Bool)
    → to ≡ Utf8 → mode ≡ Html → IsMeasured measure (text t from to mode input is_whole).bytes
    → IsMeasured measure (text_as t from input is_whole)
known_as t from to mode input measure is_whole is_utf8 is_html known =
    subst (λ (m : Mode). IsMeasured measure (text t from Utf8 m input is_whole).bytes) is_html
    (subst (λ (e : Encoding). IsMeasured measure (text t from e mode input is_whole).bytes) is_utf8 known)

pub measured_open : (t : Tables) (trial : Trial) (input : List ℕ) (is_whole : Bool) → is_whole ≡ false
    → IsTrialOf t trial input
    → IsMeasured trial.measure (text_as t trial.transcoder.transcoder.from input is_whole)
measured_open t trial input is_whole not_whole is =
    let s = trial.transcoder.transcoder in
    rw not_whole
    (known_as t s.from s.to s.mode input trial.measure false is.to is.mode
    (subst (λ (x : List ℕ). IsMeasured trial.measure x) (text_open t s input)
    is.measured))

pub measured_whole : (t : Tables) (trial : Trial) (input code : List ℕ) (measure : Measure) (is_whole : Bool)
    → is_whole ≡ true → IsTrialOf t trial input → (added_end t trial.transcoder.transcoder).fault ≡ None
    → code ≡ (added_end t trial.transcoder.transcoder).bytes
    → IsMeasured measure ((so_far t trial.transcoder.transcoder input).bytes ++ code)
    → IsMeasured measure (text_as t trial.transcoder.transcoder.from input is_whole)
measured_whole t trial input code measure is_whole whole is fault coded measured =
    let s = trial.transcoder.transcoder in
    let old = (so_far t s input).bytes in
    let done = grows_end t s old (old ++ (added_end t s).bytes) fault refl input is.at in
    rw whole
    (known_as t s.from s.to s.mode input measure true is.to is.mode
    (subst (λ (x : List ℕ). IsMeasured measure x) (ap (λ (x : List ℕ). old ++ x) coded ∙ done.1 [] refl)
    measured))
