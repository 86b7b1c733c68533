-- Input that is copied as the text of an upload, piece by piece.
use Rattle.std.proofs.Common.{◌≡◌, ◌∙◌, ap, sym, subst, refl, ℕ, List, [], ◌++◌, Option, Some, None}
use Rattle.std.proofs.Common.{Bool, true, false, Result, Ok, Err, OnOk}
use Rattle.std.proofs.KnownBytes.{Appends-nil, Appends-trans, Consumes-nil, Consumes-trans}
use Rattle.std.specs.Io.KnownBytes.{Appends, Consumes, IsAtEnd}
use Rattle.std.proofs.Common.{append-nil}
use Rattle.enc_model.specs.Decode.{decoded_text}
use Rattle.enc_model.specs.Encode.{Encoder, InAscii, Shift, Tables, coded, coded_within, encoder}
use Rattle.enc_model.specs.Transcode.{IsStateAt, added, added_end, so_far, stepped}
use Rattle.enc_model.specs.declared.Mode.{Mode}
use Rattle.enc_model.proofs.Pieces.{decoded_none}
use Rattle.enc_stream.specs.TranscoderState.{TranscoderState, start}
use Rattle.enc_stream.proofs.Begins.{start_at}
use Rattle.enc_stream.proofs.Grows.{grows, grows_end}
use Rattle.gateway_text.specs.Transcoding.{CopiesOn, EndsOn, IsConverted}
use Rattle.gateway_text.specs.declared.transcoding.Conversion.{Conversion}

-- so many bytes were read, and their text so far was written
pub record Copied (t : Tables) (c : Conversion) (s : TranscoderState) (left left' prefix held : Option (List ℕ)) :
    Type 0 where
  pub bytes : List ℕ
  pub from : s.transcoder.from ≡ c.from
  pub to : s.transcoder.to ≡ c.to
  pub mode : s.transcoder.mode ≡ c.mode
  pub at : IsStateAt t s.transcoder bytes
  pub read : Consumes left left' bytes
  pub wrote : Appends prefix held (so_far t s.transcoder bytes).bytes

no_code : (f : Encoder) (mode : Mode) (s : Shift) → (coded f mode s []).bytes ≡ []
unfolding coded coded_within
no_code f mode s = refl

pub copied_none : (t : Tables) (c : Conversion) (s : TranscoderState) (left prefix : Option (List ℕ))
    → s ≡ start c.from c.to c.mode → Copied t c s left left prefix prefix
copied_none t c s left prefix is =
    rw is (record {
      bytes = [];
      from = refl;
      to = refl;
      mode = refl;
      at = start_at t c.from c.to c.mode;
      read = Consumes-nil left;
      wrote = subst (λ (x : List ℕ). Appends prefix prefix x)
          (sym (ap (λ x. (coded (encoder t c.to) c.mode InAscii (decoded_text x)).bytes) (decoded_none t c.from)
          ∙ no_code (encoder t c.to) c.mode InAscii))
          (Appends-nil prefix);
    })

pub copied_more : (t : Tables) (c : Conversion) (s s' : TranscoderState)
    (left mid left' prefix on held : Option (List ℕ))
    → Copied t c s left mid prefix on → CopiesOn t s s' mid left' on held → Copied t c s' left left' prefix held
copied_more t c s s' left mid left' prefix on held is more =
    let a = s.transcoder in
    let old = (so_far t a is.bytes).bytes in
    let next = grows t a (stepped t a more.piece) more.piece old (old ++ (added t a more.piece).bytes) refl more.fault
    refl is.bytes is.at in
    rw more.next (record {
      bytes = is.bytes ++ more.piece;
      from = is.from;
      to = is.to;
      mode = is.mode;
      at = next.0;
      read = Consumes-trans left mid left' is.bytes more.piece is.read more.read;
      wrote = rw (next.1 [] refl) at
          (Appends-trans prefix on held old (added t a more.piece).bytes is.wrote more.wrote);
    })

stored_with : (t : Tables) (c : Conversion) (s : TranscoderState) (bytes : List ℕ) (prefix held : Option (List ℕ))
    → s.transcoder.from ≡ c.from → s.transcoder.to ≡ c.to → s.transcoder.mode ≡ c.mode
    → IsConverted t (record { from = s.transcoder.from; to = s.transcoder.to; mode = s.transcoder.mode }) (Some bytes)
    prefix held
    → IsConverted t c (Some bytes) prefix held
stored_with t c s bytes prefix held from to mode is = rw (← from, ← to, ← mode) is

known : (t : Tables) (c : Conversion) (left left' prefix held : Option (List ℕ)) (bytes : List ℕ)
    → Consumes left left' bytes → IsAtEnd left' → IsConverted t c (Some bytes) prefix held
    → IsConverted t c left prefix held
known t c None left' prefix held bytes read end is = tt
known t c (Some x) None prefix held bytes read end is = absurd read
known t c (Some x) (Some y) prefix held bytes read end is =
    rw (read ∙ ap (λ z. bytes ++ z) end ∙ append-nil bytes) is

-- nothing was read, and nothing written
pub copied_still : (t : Tables) (c : Conversion) (s s' : TranscoderState)
    (left mid left' prefix on held : Option (List ℕ))
    → Copied t c s left mid prefix on → s' ≡ s → Consumes mid left' [] → held ≡ on
    → Copied t c s' left left' prefix held
copied_still t c s s' left mid left' prefix on held is same none unchanged =
    rw same (record {
      bytes = is.bytes;
      from = is.from;
      to = is.to;
      mode = is.mode;
      at = is.at;
      read = rw (append-nil is.bytes) at (Consumes-trans left mid left' is.bytes [] is.read none);
      wrote = rw unchanged is.wrote;
    })

-- a piece more, or none any more
pub copied_on : (t : Tables) (c : Conversion) (s s' : TranscoderState)
    (left mid left' prefix on held : Option (List ℕ)) (more : Bool)
    → Copied t c s left mid prefix on → (more ≡ true → CopiesOn t s s' mid left' on held)
    → (more ≡ false → (s' ≡ s) × Consumes mid left' [] × IsAtEnd left' × (held ≡ on))
    → Copied t c s' left left' prefix held × (more ≡ false → IsAtEnd left')
copied_on t c s s' left mid left' prefix on held true is copies ends =
    (copied_more t c s s' left mid left' prefix on held is (copies refl), λ never. absurd (cc))
copied_on t c s s' left mid left' prefix on held false is copies ends =
    let end = ends refl in
    (copied_still t c s s' left mid left' prefix on held is end.0 end.1 end.3, λ none. end.2)

ended : (t : Tables) (c : Conversion) (s : TranscoderState) (left left' prefix on held : Option (List ℕ))
    → Copied t c s left left' prefix on → IsAtEnd left' → EndsOn t s on held → IsConverted t c left prefix held
ended t c s left left' prefix on held is end ends =
    let a = s.transcoder in
    let old = (so_far t a is.bytes).bytes in
    let done = grows_end t a old (old ++ (added_end t a).bytes) ends.fault refl is.bytes is.at in
    known t c left left' prefix held is.bytes is.read end
    (stored_with t c s is.bytes prefix held is.from is.to is.mode (
      done.0,
      rw (done.1 [] refl) at
          (Appends-trans prefix on held old (added_end t a).bytes is.wrote ends.wrote),
    ))

-- all was read, and the end taken
pub copied_all : {E : Type 0} (t : Tables) (c : Conversion) (s : TranscoderState)
    (left left' prefix on held : Option (List ℕ))
    (result : Result (Unit {0}) E) → Copied t c s left left' prefix on → IsAtEnd left'
    → OnOk result (EndsOn t s on held)
    → OnOk result (IsConverted t c left prefix held)
copied_all t c s left left' prefix on held (Ok x) is end ends = ended t c s left left' prefix on held is end ends
copied_all t c s left left' prefix on held (Err e) is end ends = tt
