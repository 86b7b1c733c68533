-- An upload without bytes: its text is empty, complete or not.
use Rattle.std.proofs.Common.{◌≡◌, Bool, true, false, [], None, refl, ap}
use Rattle.enc_model.specs.declared.Encoding.{Encoding}
use Rattle.enc_model.specs.declared.Encoding.TheVariants as encodings
use Rattle.enc_model.specs.declared.Mode.{Mode}
use Rattle.enc_model.specs.Indexes.{IndexSet, tables}
use Rattle.enc_model.specs.Encode.{Tables, InAscii, Encoder, coded, coded_within, encode, encoder}
use Rattle.enc_model.specs.Encode.{ended_coded}
use Rattle.enc_model.specs.Index.{Index}
use Rattle.enc_model.specs.Stream.{steps, steps_within}
use Rattle.enc_model.specs.Utf8.{utf8}
use Rattle.enc_model.specs.Utf16.{utf16}
use Rattle.enc_model.specs.Japanese.{SingleState, single, shift_jis, euc_jp, iso2022}
use Rattle.enc_model.specs.Decode.{decoding, decoding_start, decoded, decode, text}
use Rattle.enc_model.proofs.Pieces.{decoded_none}
use Rattle.enc_stream.specs.TranscoderState.{TranscoderState, is_phase_over, start, ended_state}
use Rattle.upload_rules.specs.Lengths.{is_length}
use Rattle.upload_rules.specs.States.{transcoder_with}
use Rattle.upload_rules.specs.Store.{New, new_upload, text_of, text_with, is_complete}

single_ended : (index : Index) → (steps (single index) true SingleState []).text ≡ []
unfolding steps steps_within single
single_ended index = refl

-- the end of nothing decodes to nothing
nothing_ended : (t : Tables) (e : Encoding) → (decoding t true (decoding_start e) []).text ≡ []
unfolding decoding steps steps_within utf8 utf16 shift_jis euc_jp iso2022
nothing_ended t encodings.Utf8 = refl
nothing_ended t encodings.Utf16Be = refl
nothing_ended t encodings.Utf16Le = refl
nothing_ended t encodings.ShiftJis = refl
nothing_ended t encodings.EucJp = refl
nothing_ended t encodings.Iso2022Jp = refl
nothing_ended t e = single_ended (t.single e)

decode_nothing : (t : Tables) (e : Encoding) (done : Bool) → decode t e [] done ≡ []
unfolding decode decoded
decode_nothing t e false = refl
decode_nothing t e true = nothing_ended t e

nothing_coded : (f : Encoder) (mode : Mode) → coded f mode InAscii [] ≡ record {
  bytes = [];
  state = InAscii;
  fault = None;
}
unfolding coded coded_within
nothing_coded f mode = refl

text_open : (t : Tables) (from to : Encoding) (mode : Mode) → text t from to mode [] false ≡ coded (encoder t to) mode
    InAscii (decode t from [] false)
unfolding text encode
text_open t from to mode = refl

text_done : (t : Tables) (from to : Encoding) (mode : Mode) → text t from to mode [] true ≡ ended_coded
    (coded (encoder t to) mode InAscii (decode t from [] true))
unfolding text encode
text_done t from to mode = refl

-- the text of no bytes, complete or not
text_of_nothing : (t : Tables) (from to : Encoding) (mode : Mode) (done : Bool) → text t from to mode [] done ≡ record {
  bytes = [];
  state = InAscii;
  fault = None;
}
text_of_nothing t from to mode false = rw (text_open, decode_nothing, nothing_coded) refl
text_of_nothing t from to mode true = rw (text_done, decode_nothing, nothing_coded) refl

pub new_text : (x : IndexSet) (new : New) → text_of x (new_upload new) ≡ []
unfolding text_of
new_text x new = ap (λ r. r.bytes) (text_of_nothing (tables x) new.from new.to new.mode (is_complete (new_upload new)))

pub new_encodable : (x : IndexSet) (new : New) (done : Bool) → (text_with x (new_upload new) [] done).fault ≡ None
new_encodable x new done = ap (λ r. r.fault) (text_of_nothing (tables x) new.from new.to new.mode done)

-- the transcoder of a new upload has read nothing, or is past the end if no bytes are to come
pub new_open : (x : IndexSet) (new : New) (t : TranscoderState) → t ≡ start new.from new.to new.mode → is_length
    new.declared 0 ≡ false
    → t.transcoder ≡ transcoder_with x (new_upload new) [] (is_complete (new_upload new))
new_open x new t is some =
    rw (is, some, decoded_none (tables x) new.from, text_of_nothing (tables x) new.from new.to new.mode false) refl

pub new_open_phase : (x : IndexSet) (new : New) → is_complete (new_upload new) ≡ false
    → is_phase_over (transcoder_with x (new_upload new) [] (is_complete (new_upload new))).phase ≡ false
new_open_phase x new some = rw (some, decoded_none (tables x) new.from) refl

pub new_complete : (x : IndexSet) (new : New) (t : TranscoderState) → t ≡ ended_state (start new.from new.to new.mode)
    → is_length new.declared 0 ≡ true
    → t.transcoder ≡ transcoder_with x (new_upload new) [] (is_complete (new_upload new))
new_complete x new t is none = rw (is, none) refl
