-- A trial makes a text of any bytes: no character of it lacks a code, and it is in UTF-8.
use Rattle.std.proofs.Common.{◌≡◌, ◌∙◌, ◌++◌, ◌<◌, ◌||◌, ℕ, Bool, true, false, List, None, Vec, ap, arith, drop, length}
use Rattle.std.proofs.Common.{refl}
use Rattle.std.proofs.Common.{Fits, w8, subst, sym, take}
use Rattle.std.proofs.Common.{length-append}
use Rattle.std.proofs.Math.Seq.{drop-append_seam, take-append_seam}
use Rattle.std.proofs.lemmas.List.Elements.{All-append}
use Rattle.std.proofs.lemmas.Grind.{get_or_default_zero}
use Rattle.std.proofs.lemmas.Str.{IsCharBoundary-from_take, IsUtf8-drop}
use Rattle.std.proofs.Math.ListN.{get_or}
use Rattle.std.specs.Str.{IsUtf8}
use Rattle.enc_model.specs.declared.Encoding.{Encoding}
use Rattle.enc_model.specs.declared.Encoding.TheVariants.{Utf8}
use Rattle.enc_model.specs.declared.Mode.{Mode}
use Rattle.enc_model.specs.Decode.{Decoded, Held, Reading, decode, decoded, text}
use Rattle.enc_model.specs.Encode.{Coded, Tables, encode}
use Rattle.enc_model.specs.Transcode.{IsStateAt, Transcoder, added, added_end, phase_of, so_far}
use Rattle.enc_model.proofs.Transcoding.{fault_added, text_added}
use Rattle.enc_stream.specs.TranscoderState.{RefusedAs, TranscoderState, is_done, is_phase_over}
use Rattle.enc_stream.specs.declared.error.TranscodeError.{TranscodeError}
use Rattle.enc_stream.specs.declared.error.TranscodeError.TheVariants as errors
use Rattle.enc_laws.specs.WellFormed.{AreBytes}
use Rattle.gateway_labels.specs.Reasons.{transcode_reason}
use Rattle.gateway_labels.specs.declared.unread.Unread.TheVariants.{NoMemory}

-- it goes on
open_phase : (d : Decoded) → is_phase_over (phase_of d) ≡ false
open_phase (Held b) = refl
open_phase (Reading r) = refl

going_on : (spent over : Bool) → spent ≡ false → over ≡ false → (spent || over) ≡ false
going_on spent over a b = rw a b

pub not_done : (t : Tables) (s : TranscoderState) (b : List ℕ) → s.spent ≡ false → IsStateAt t s.transcoder b
    → is_done s ≡ false
not_done t s b going at =
    going_on s.spent (is_phase_over s.transcoder.phase) going
    (ap is_phase_over at.phase ∙ open_phase (decoded t s.transcoder.from b false))

-- no character lacks a code
text_open : (t : Tables) (s : Transcoder) (b : List ℕ) → so_far t s b ≡ text t s.from s.to s.mode b false
unfolding text decode encode
text_open t s b = refl

pub no_fault : (t : Tables) (s : Transcoder) (b piece : List ℕ) → s.to ≡ Utf8 → IsStateAt t s b
    → ((t : Tables) (from : Encoding) (mode : Mode) (bytes : List ℕ) (ended : Bool)
    → (text t from Utf8 mode bytes ended).fault ≡ None)
    → (added t s piece).fault ≡ None
no_fault t s b piece to at law =
    sym (fault_added t s b piece at) ∙ ap (λ (r : Coded). r.fault) (text_open t s (b ++ piece))
    ∙ subst (λ (e : Encoding). (text t s.from e s.mode (b ++ piece) false).fault ≡ None) (sym to)
    (law t s.from s.mode (b ++ piece) false)

pub for_memory : {Z : Type 0} (e : TranscodeError) (code : Coded) (old new : Vec ℕ Z) (s s' : TranscoderState)
    → RefusedAs e code old new s s' → code.fault ≡ None → (e ≡ errors.Spent → ⊥) → transcode_reason e ≡ NoMemory
for_memory errors.NoMemory code old new s s' refused none unspent = refl
for_memory (errors.Unencodable c) code old new s s' refused none unspent =
    let lacks = refused.0.reason in absurd (cc)
for_memory errors.Spent code old new s s' refused none unspent = absurd (unspent refl)

-- a piece has bytes
pub bytes_of : (piece : List ℕ) → ((i : ℕ) → Fits w8 (get_or piece i 0)) → AreBytes piece
bytes_of piece fits k d below =
    subst (λ (b : ℕ). b < 0x100) (sym (get_or_default_zero piece k d below)) (let fit = fits k in omega (arith, fit))

pub bytes_more : (input piece : List ℕ) → AreBytes input → ((i : ℕ) → Fits w8 (get_or piece i 0))
    → AreBytes (input ++ piece)
bytes_more input piece bytes fits =
    All-append (λ b. b < 0x100) input piece bytes (bytes_of piece fits)

-- what is left behind a text's start is a text
left_text : (all start left : List ℕ) → IsUtf8 all → IsUtf8 start → all ≡ start ++ left → IsUtf8 left
left_text all start left whole first is =
    let n = length start in
    let long = length-append start left in
    let same : length all ≡ length (start ++ left) = ap length is in
    let own : IsUtf8 (take n all) = subst IsUtf8 (sym (ap (take n) is ∙ take-append_seam start left)) first in
    subst IsUtf8 (ap (drop n) is ∙ drop-append_seam start left)
    (IsUtf8-drop all n whole (IsCharBoundary-from_take all n whole (omega (arith, long, same)) own))

-- and so is what a piece adds
pub added_text : (t : Tables) (s : Transcoder) (b piece : List ℕ) → s.to ≡ Utf8 → IsStateAt t s b
    → IsUtf8 (so_far t s b).bytes
    → ((from : Encoding) (mode : Mode) → IsUtf8 (text t from Utf8 mode (b ++ piece) false).bytes)
    → IsUtf8 (added t s piece).bytes
added_text t s b piece to at start law =
    left_text (so_far t s (b ++ piece)).bytes (so_far t s b).bytes (added t s piece).bytes
    (subst (λ (r : Coded). IsUtf8 r.bytes) (sym (text_open t s (b ++ piece)))
    (subst (λ (e : Encoding). IsUtf8 (text t s.from e s.mode (b ++ piece) false).bytes) (sym to) (law s.from s.mode)))
    start (text_added t s b piece at)

-- the same of the end
pub no_end_fault : (t : Tables) (s : Transcoder) (b : List ℕ) → s.to ≡ Utf8
    → (text t s.from s.to s.mode b true).fault ≡ (added_end t s).fault
    → ((t : Tables) (from : Encoding) (mode : Mode) (bytes : List ℕ) (ended : Bool)
    → (text t from Utf8 mode bytes ended).fault ≡ None)
    → (added_end t s).fault ≡ None
no_end_fault t s b to ends law =
    sym ends
    ∙ subst (λ (e : Encoding). (text t s.from e s.mode b true).fault ≡ None) (sym to) (law t s.from s.mode b true)

pub end_text : (t : Tables) (s : Transcoder) (b : List ℕ) → s.to ≡ Utf8 → IsUtf8 (so_far t s b).bytes
    → (text t s.from s.to s.mode b true).bytes ≡ (so_far t s b).bytes ++ (added_end t s).bytes
    → ((from : Encoding) (mode : Mode) → IsUtf8 (text t from Utf8 mode b true).bytes)
    → IsUtf8 (added_end t s).bytes
end_text t s b to start ends law =
    left_text (text t s.from s.to s.mode b true).bytes (so_far t s b).bytes (added_end t s).bytes
    (subst (λ (e : Encoding). IsUtf8 (text t s.from e s.mode b true).bytes) (sym to) (law s.from s.mode)) start ends
