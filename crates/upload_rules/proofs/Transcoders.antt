-- A transcoder that has read an upload's bytes: one piece further, and at the end.
use Rattle.std.proofs.Common.{◌≡◌, ℕ, Bool, true, false, List, [], ◌++◌, Option, Some, None, refl, sym, ◌∙◌, ap}
use Rattle.std.proofs.Common.{append_assoc, append-nil, Err, Vec, Global}
use Rattle.enc_model.specs.Indexes.{IndexSet, tables}
use Rattle.enc_model.specs.Encode.{Coded, led_by}
use Rattle.enc_model.specs.Transcode.{Transcoder, fed_text, added, added_end}
use Rattle.enc_stream.specs.TranscoderState.{TranscoderState, is_phase_over, stepped_on, ended_state, IsPartWritten}
use Rattle.enc_stream.specs.StateBytes.{IsValidState, transcoder_state, state_bytes}
use Rattle.enc_stream.specs.Errors.{error_of}
use Rattle.enc_encode.specs.declared.error.EncodeError.{EncodeError}
use Rattle.enc_encode.specs.declared.error.EncodeError.TheVariants as errors
use Rattle.upload_rules.specs.Store.{Upload, text_from, text_with}
use Rattle.upload_rules.specs.World.{is_there}
use Rattle.upload_rules.specs.States.{phase_from, transcoder_with, state_with}
use Rattle.upload_rules.specs.Errors.{encode_error}
use Rattle.upload_rules.specs.Texts.{IsEnded, IsReading, IsRest, IsWholeAppend}
use Rattle.upload_rules.proofs.TextGrows.{fault_stays, phase_more, text_end, text_more}

over : (s r : Transcoder) → s.from ≡ r.from → s.to ≡ r.to → s.mode ≡ r.mode → s.phase ≡ r.phase → s.shift ≡ r.shift
    → s ≡ r
over s r e1 e2 e3 e4 e5 = rw (e1, e2, e3, e4, e5) refl

-- a transcoder in the state after an open text's bytes
pub reads : (x : IndexSet) (u : Upload) (bytes : List ℕ) (t : TranscoderState)
    → (text_with x u bytes false).fault ≡ None
    → t ≡ transcoder_state (transcoder_with x u bytes false)
    → IsReading x u bytes t
reads x u bytes t ok is =
    rw is (record {
      unspent = refl;
      from = refl;
      to = refl;
      mode = refl;
      phase = refl;
      shift = refl;
      encodable = ok;
    })

module _ (x : IndexSet) (u : Upload) (bytes : List ℕ) (t : TranscoderState) (here : IsReading x u bytes t) where
  -- its state is that after the bytes
  still_open : t.transcoder ≡ transcoder_with x u bytes false
  still_open = over t.transcoder (transcoder_with x u bytes false) here.from here.to here.mode here.phase here.shift

  represents_further : (piece : List ℕ) → text_with x u (bytes ++ piece) false ≡ led_by
      (text_with x u bytes false).bytes
      (added (tables x) t.transcoder piece)
  represents_further piece =
      ap (λ b. text_from (tables x) u.origin u.from u.to u.mode b false) (sym (append_assoc u.accepted bytes piece))
      ∙ text_more (tables x) u.from u.to u.mode u.origin (u.accepted ++ bytes) here.encodable piece
      ∙ ap (λ s. led_by (text_with x u bytes false).bytes (added (tables x) s piece)) (sym still_open)

  represents_ended : text_with x u bytes true ≡ led_by (text_with x u bytes false).bytes
      (added_end (tables x) t.transcoder)
  represents_ended =
      text_end (tables x) u.from u.to u.mode u.origin (u.accepted ++ bytes) here.encodable
      ∙ ap (λ s. led_by (text_with x u bytes false).bytes (added_end (tables x) s)) (sym still_open)

  -- a piece without a code makes the text without a value
  pub piece_fault : (piece : List ℕ) (d : ℕ) → (added (tables x) t.transcoder piece).fault ≡ Some d
      → is_there (text_with x u (bytes ++ piece) false).fault ≡ true
  piece_fault piece d h = ap is_there (ap (λ r. r.fault) (represents_further piece) ∙ h)

  -- one piece further
  pub further : (piece old new : List ℕ) (next : TranscoderState) → IsRest x u bytes false old
      → (added (tables x) t.transcoder piece).fault ≡ None → next ≡ stepped_on (tables x) t piece
      → new ≡ old ++ (added (tables x) t.transcoder piece).bytes
      → IsReading x u (bytes ++ piece) next × IsRest x u (bytes ++ piece) false new
  further piece old new next rest ok is grown = (
    record {
      unspent = ap (λ s. s.spent) is;
      from = ap (λ s. s.transcoder.from) is ∙ here.from;
      to = ap (λ s. s.transcoder.to) is ∙ here.to;
      mode = ap (λ s. s.transcoder.mode) is ∙ here.mode;
      phase = ap (λ s. s.transcoder.phase) is
          ∙ ap (λ (s : Transcoder). (fed_text (tables x) s.from s.phase piece).phase) still_open
          ∙ sym (phase_more (tables x) u.from u.to u.mode u.origin (u.accepted ++ bytes) piece)
          ∙ ap (phase_from (tables x) u.origin u.from) (append_assoc u.accepted bytes piece);
      shift = ap (λ s. s.transcoder.shift) is ∙ sym (ap (λ r. r.state) (represents_further piece));
      encodable = ap (λ r. r.fault) (represents_further piece) ∙ ok;
    },
    let start = (text_with x u [] false).bytes in
        let more = (added (tables x) t.transcoder piece).bytes in
        ap (λ z. start ++ z) grown ∙ sym (append_assoc start old more) ∙ ap (λ z. z ++ more) rest
        ∙ sym (ap (λ r. r.bytes) (represents_further piece)),
  )

  -- an end without a code
  pub end_fault : (d : ℕ) → (added_end (tables x) t.transcoder).fault ≡ Some d
      → is_there (text_with x u bytes true).fault ≡ true
  end_fault d h = ap is_there (ap (λ r. r.fault) represents_ended ∙ h)

  -- why it isn't written
  pub end_refused : (e : EncodeError) (old new : Vec ℕ Global)
      → IsPartWritten (error_of e) (added_end (tables x) t.transcoder) old new
      → IsEnded x u bytes true (Err (encode_error e))
  end_refused errors.NoMemory old new why = tt
  end_refused (errors.Unencodable d) old new why = end_fault d why.reason

  pub whole_open : (state old : List ℕ) → state ≡ state_bytes t.transcoder → IsValidState t.transcoder
      → is_phase_over t.transcoder.phase ≡ false → IsRest x u bytes false old → IsWholeAppend x u bytes false state old
  unfolding state_with
  whole_open state old is valid more rest = record {
    state_is = is ∙ ap state_bytes still_open;
    valid = record { valid = rw still_open at valid; takes_more = λ e. rw still_open at more };
    rest = rest;
    encodable = here.encodable;
  }

  -- at the end
  at_end : (next : TranscoderState) → next ≡ ended_state t → next.transcoder ≡ transcoder_with x u bytes true
  at_end next is = ap (λ s. s.transcoder) is ∙ rw (here.from, here.to, here.mode) refl

  pub whole_ended : (next : TranscoderState) (state old new : List ℕ) → next ≡ ended_state t
      → state ≡ state_bytes next.transcoder
      → IsValidState next.transcoder
      → IsRest x u bytes false old → (added_end (tables x) t.transcoder).fault ≡ None
      → new ≡ old ++ (added_end (tables x) t.transcoder).bytes
      → IsWholeAppend x u bytes true state new
  unfolding state_with
  whole_ended next state old new is packed valid rest ok grown = record {
    state_is = packed ∙ ap state_bytes (at_end next is);
    valid = record { valid = rw (at_end next is) at valid; takes_more = λ e. cc };
    rest = (
        let start = (text_with x u [] false).bytes in
        let more = (added_end (tables x) t.transcoder).bytes in
        ap (λ z. start ++ z) grown ∙ sym (append_assoc start old more) ∙ ap (λ z. z ++ more) rest
        ∙ sym (ap (λ r. r.bytes) represents_ended));
    encodable = ap (λ r. r.fault) represents_ended ∙ ok;
  }

-- a text without a value has none with more bytes
there : (o : Option ℕ) → is_there o ≡ true → (d : ℕ) × (o ≡ Some d)
there None h = absurd cc
there (Some d) h = (d, refl)

pub stays_unencodable : (x : IndexSet) (u : Upload) (bytes piece : List ℕ) (done : Bool)
    → is_there (text_with x u bytes false).fault ≡ true
    → is_there (text_with x u (bytes ++ piece) done).fault ≡ true
stays_unencodable x u bytes piece done h =
    let d = there (text_with x u bytes false).fault h in
    ap is_there (ap (λ b. (text_from (tables x) u.origin u.from u.to u.mode b done).fault)
    (sym (append_assoc u.accepted bytes piece))
    ∙ fault_stays (tables x) u.from u.to u.mode u.origin (u.accepted ++ bytes) piece done d.0 d.1)

pub unencodable_ended : (x : IndexSet) (u : Upload) (bytes : List ℕ) (done : Bool)
    → is_there (text_with x u bytes false).fault ≡ true
    → is_there (text_with x u bytes done).fault ≡ true
unencodable_ended x u bytes done h =
    ap (λ b. is_there (text_with x u b done).fault) (sym (append-nil bytes)) ∙ stays_unencodable x u bytes [] done h

-- why a transcoder stopped
pub code_fault : (e : EncodeError) (c : ℕ) (r : Coded) (old new : Vec ℕ Global) → e ≡ errors.Unencodable c
    → IsPartWritten (error_of e) r old new → r.fault ≡ Some c
code_fault e c r old new is why = (rw is at why).reason
