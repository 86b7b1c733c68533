-- A body after its upload's bytes.
use Rattle.std.proofs.Common.{◌≡◌, ℕ, ◌+◌, ◌<◌, ◌≤◌, ◌^◌, Bool, true, false, List, [], ◌++◌, length, Option, Result, Ok}
use Rattle.std.proofs.Common.{Err, OnErr, refl, sym, ◌∙◌, ap, arith, append-nil, length-append}
use Rattle.enc_model.specs.Indexes.{IndexSet}
use Rattle.enc_stream.specs.StateBytes.{state_bytes}
use Rattle.upload_rules.specs.declared.errors.UploadError.{UploadError}
use Rattle.upload_rules.specs.declared.errors.UploadError.TheVariants.{Stop, Refused}
use Rattle.common.specs.declared.stop.Stop.TheVariants.{NoMemory, DiskFault}
use Rattle.upload_rules.specs.declared.errors.UploadRefusal.TheVariants as refusals
use Rattle.upload_rules.specs.declared.slot.Slot.{Slot}
use Rattle.upload_rules.specs.declared.appends.OpenAppend.{OpenAppend}
use Rattle.upload_rules.specs.declared.new_text.NewText.{NewText}
use Rattle.upload_rules.specs.declared.new_text.NewText.TheVariants.{Growing, Unencodable, Complete}
use Rattle.upload_rules.specs.Lengths.{is_length, known_or}
use Rattle.upload_rules.specs.Store.{Upload, text_of, text_with, with_length, patched, is_complete, accepted_count}
use Rattle.upload_rules.specs.World.{Patch, is_there, reached, patch_text}
use Rattle.upload_rules.specs.States.{transcoder_with, state_with, state_of}
use Rattle.upload_rules.specs.Texts.{HoldsText, IsWholeAppend, IsEnded}
use Rattle.upload_rules.specs.Slots.{SlotRepresents}
use Rattle.upload_rules.specs.Appends.{AppendRepresents, IsCommitPut}

patch_text_is : (x : IndexSet) (p : Patch) (done : Bool) → patch_text x p done ≡ text_with x p.began p.body done
unfolding patch_text
patch_text_is x p done = refl

pub text_of_is : (x : IndexSet) (u : Upload) → text_of x u ≡ (text_with x u [] (is_complete u)).bytes
unfolding text_of
text_of_is x u = refl

-- the upload with what a patch brings is complete where that completes it
pub complete_patched : (u : Upload) (declare : Option ℕ) (bytes : List ℕ) →
    is_complete (patched u declare bytes) ≡ is_length (known_or u.declared declare)
    (accepted_count u + length bytes)
complete_patched u declare bytes =
    let long : accepted_count (patched u declare bytes) ≡ accepted_count u + length bytes =
    omega (arith, length-append u.accepted bytes) in
    ap (is_length (known_or u.declared declare)) long

-- its text, the transcoder after it, and the state bytes
pub whole_patched : (x : IndexSet) (u : Upload) (declare : Option ℕ) (bytes : List ℕ)
    → text_with x (patched u declare bytes) [] (is_complete (patched u declare bytes)) ≡ text_with x u bytes
    (is_complete (patched u declare bytes))
whole_patched x u declare bytes = rw append-nil refl

pub text_patched : (x : IndexSet) (u : Upload) (declare : Option ℕ) (bytes : List ℕ)
    → text_of x (patched u declare bytes) ≡ (text_with x u bytes (is_complete (patched u declare bytes))).bytes
text_patched x u declare bytes =
    text_of_is x (patched u declare bytes) ∙ ap (λ r. r.bytes) (whole_patched x u declare bytes)

pub transcoder_patched : (x : IndexSet) (u : Upload) (declare : Option ℕ) (bytes : List ℕ)
    → transcoder_with x (patched u declare bytes) [] (is_complete (patched u declare bytes)) ≡ transcoder_with x u bytes
    (is_complete (patched u declare bytes))
transcoder_patched x u declare bytes = rw append-nil refl

pub state_patched : (x : IndexSet) (u : Upload) (declare : Option ℕ) (bytes : List ℕ)
    → state_of x (patched u declare bytes) ≡ state_with x u bytes (is_complete (patched u declare bytes))
unfolding state_with
state_patched x u declare bytes = ap state_bytes (transcoder_patched x u declare bytes)

-- what an append adds is the same whether or not a length was declared since it began
pub holds_with_length : (x : IndexSet) (u : Upload) (declare : Option ℕ) (bytes : List ℕ) (t : NewText)
    → HoldsText x u bytes t → HoldsText x (with_length u declare) bytes t
holds_with_length x u declare bytes (Growing t text) holds = assumption
holds_with_length x u declare bytes Unencodable holds = holds
holds_with_length x u declare bytes Complete holds = still u.declared holds
  where
    still : (known : Option ℕ) → is_length known (accepted_count u) ≡ true
        → is_length (known_or known declare) (accepted_count u) ≡ true
    still known is = grind arith

module _ (x : IndexSet) (next : ℕ) (p : Patch) (o : OpenAppend) (represents : AppendRepresents x next p o) where
  -- with another text
  pub with_text : (text : NewText) → HoldsText x p.began p.body text
      → AppendRepresents x next p (record o { text = text })
  with_text text holds = assumption

  pub with_piece : (piece : List ℕ) (came : ℕ) (text : NewText) → length p.body + length piece ≤ p.count
      → came ≡ length p.body + length piece
      → HoldsText x p.began (p.body ++ piece) text
      → AppendRepresents x next (record p { body = p.body ++ piece }) (record o { came = came; text = text })
  with_piece piece came text held is holds =
      let long = length-append p.body piece in
      let came_is : came ≡ length (p.body ++ piece) = omega arith in
      let within : length (p.body ++ piece) ≤ p.count = omega arith in
      assumption

  pub reaches : reached p < 2 ^ 64
  reaches = let h = represents.held in let w = represents.within in let f = represents.fits in omega (arith, h, w, f)

  -- the upload as it was at the head moment, but for a length
  module _ (length_since : Option ℕ) (s : Slot) (slot_is : SlotRepresents x p.number
      (with_length p.began length_since) s)
    where
      abbrev u : Upload
      u = with_length p.began length_since

      -- why the patch isn't put after
      pub not_put : (e : UploadError) (done : Bool) → IsEnded x u p.body done (Err e) → IsCommitPut x p u done s (Err e)
      not_put (Stop NoMemory) done ended = slot_is
      not_put (Stop DiskFault) done ended = absurd ended
      not_put (Refused refusals.Unencodable) done ended =
          (ap is_there (ap (λ r. r.fault) (patch_text_is x p done)) ∙ ended, slot_is)
      not_put (Refused e) done ended = absurd ended

      -- the slot with what the patch brings
      pub put_there : (n : ℕ) (declared : Option ℕ) (done : Bool) (state more : List ℕ) (new : Slot)
          → is_complete u ≡ false → n ≡ reached p → declared ≡ known_or u.declared p.declare
          → done ≡ is_complete (patched u p.declare p.body)
          → IsWholeAppend x u p.body done state more
          → new.text.items ≡ s.text.items ++ more → new.record ≡ record s.record {
            declared = declared;
            accepted = n;
            text_len = length new.text.items;
            state = state;
          }
          → IsCommitPut x p u done new (Ok n)
      put_there n declared done state more new open_still count length_is is whole text recorded =
          let v = patched u p.declare p.body in
          let all : new.text.items ≡ text_of x v =
          text ∙ ap (λ z. z ++ more) (slot_is.text ∙ text_of_is x u ∙ ap (λ b. (text_with x u [] b).bytes) open_still)
          ∙ whole.rest ∙ ap (λ b. (text_with x u p.body b).bytes) is ∙ sym (text_patched x u p.declare p.body) in
          let long = length-append u.accepted p.body in (
            count,
            ap (λ r. r.fault) (patch_text_is x p done) ∙ whole.encodable,
            record {
              represents = rw recorded (record {
                number_is = slot_is.represents.number_is;
                declared = length_is;
                accepted = omega (arith, count, long);
                text_len = ap length all;
                from = slot_is.represents.from;
                to = slot_is.represents.to;
                mode = slot_is.represents.mode;
                state = whole.state_is ∙ ap (state_with x u p.body) is ∙ sym (state_patched x u p.declare p.body);
                metadata = slot_is.represents.metadata;
              });
              text = all;
              encodable = ap (λ r. r.fault) (whole_patched x u p.declare p.body)
                  ∙ ap (λ b. (text_with x u p.body b).fault) (sym is) ∙ whole.encodable;
              valid = rw (transcoder_patched x u p.declare p.body, sym is) whole.valid;
            },
          )

pub in_any_case : {T E : Type 0} {P : Type 0} (r : Result T E) → P → OnErr r P
in_any_case (Ok t) h = tt
in_any_case (Err e) h = h
