-- Codes after bytes that are held.
use Rattle.std.proofs.Common.{ℕ, ◌≡◌, List, [], ◌∷◌, ◌++◌, None, Vec, Result, Ok, Err, sym, ◌∙◌, ap, subst}
use Rattle.std.proofs.Common.{append_assoc, append-nil, arith}
use Rattle.enc_model.specs.declared.Encoding.{Encoding}
use Rattle.enc_model.specs.Encode as encode
use Rattle.enc_model.specs.declared.Mode.TheVariants.{Html}
use Rattle.enc_model.specs.Encode.{Tables, Coded, coded, encoder, led_by, reference}
use Rattle.enc_encode.specs.declared.written.Bytes.{Bytes}
use Rattle.enc_encode.specs.Code.{code_bytes, final}
use Rattle.enc_encode.proofs.Codes.{coded_once, coded_twice}
use Rattle.enc_model.proofs.Steady.{encoder_steady}
use Rattle.enc_model.proofs.Transcoding.{coded_both}
use Rattle.enc_encode.specs.declared.error.EncodeError.{EncodeError}
use Rattle.enc_encode.specs.declared.error.EncodeError.TheVariants.{NoMemory, Unencodable}
use Rattle.enc_encode.specs.declared.shift.ShiftState.{ShiftState}
use Rattle.enc_encode.specs.Growth.{Appended, Stopped}
use Rattle.enc_encode.specs.Held.{Passed, HoldsCode}
use Rattle.enc_encode.specs.Reasons.{Gave}
use Rattle.enc_encode.specs.State.{shift_of, EncoderState, code_from}
use Rattle.enc_encode.proofs.Growth.{prefix, both, after_part}

parts_after : (held a b prefix mid more still_held : List ℕ) → held ++ a ≡ prefix ++ mid → mid ++ b ≡ more ++ still_held
    → held ++ (a ++ b) ≡ (prefix ++ more) ++ still_held
parts_after held a b prefix mid more still_held e f =
    sym (append_assoc held a b) ∙ ap (λ z. z ++ b) e ∙ append_assoc prefix mid b ∙ ap (λ z. prefix ++ z) f
    ∙ sym (append_assoc prefix more still_held)

whole_after : (held a b prefix mid : List ℕ) → held ++ a ≡ prefix ++ mid → prefix ++ (mid ++ b) ≡ held ++ (a ++ b)
whole_after held a b prefix mid e = sym (append_assoc prefix mid b) ∙ ap (λ z. z ++ b) (sym e) ∙ append_assoc held a b

module _ {Z : Type 0} where
  pub nothing_appended : (out : Vec ℕ Z) → Appended out [] out
  nothing_appended out = record { items = sym (append-nil out.items); capacity = omega arith }

  -- all is held still, or nothing is
  pub all_held : (out : Vec ℕ Z) (held bytes still_held : List ℕ) → still_held ≡ held ++ bytes
      → Passed out held bytes out still_held
  all_held out held bytes still_held e = record { prefix = []; parts = sym e; appended = nothing_appended out }

  -- more that is held after the rest
  pub held_more : {old : Vec ℕ Z} {held : List ℕ} {new : Vec ℕ Z} {mid : List ℕ} (bytes still_held : List ℕ)
      → still_held ≡ mid ++ bytes → Passed old held [] new mid → Passed old held bytes new still_held
  held_more {held = held} {mid = mid} bytes still_held e p = record {
    prefix = p.prefix;
    parts = ap (λ z. z ++ bytes) (sym (append-nil held) ∙ p.parts) ∙ append_assoc p.prefix mid bytes
        ∙ ap (λ z. p.prefix ++ z) (sym e);
    appended = p.appended;
  }

  -- a code after another
  pub held_after : (a code : Coded) (old : Vec ℕ Z) (held : List ℕ) (mid : Vec ℕ Z) (still_held : List ℕ)
      (new : Vec ℕ Z)
      (last : List ℕ) (r : Result ShiftState EncodeError) →
      Passed old held a.bytes mid still_held → HoldsCode code mid still_held new last r
      → HoldsCode (led_by a.bytes code) old held new last r
  held_after a code old held mid still_held new last (Ok next) p q = (
    q.0,
    q.1,
    record {
      prefix = p.prefix ++ q.2.prefix;
      parts = parts_after held a.bytes code.bytes p.prefix still_held q.2.prefix last p.parts q.2.parts;
      appended = both p.appended q.2.appended;
    },
  )
  held_after a code old held mid still_held new last (Err NoMemory) p q =
      subst (λ z. Stopped old z new) (whole_after held a.bytes code.bytes p.prefix still_held p.parts)
      (after_part p.appended q)
  held_after a code old held mid still_held new last (Err (Unencodable c)) p q = (
    q.0,
    subst (λ z. Appended old z new) (whole_after held a.bytes code.bytes p.prefix still_held p.parts)
        (both p.appended q.1),
  )

  -- what was appended after all that was held
  pub held_given : (code : Coded) (old : Vec ℕ Z) (held : List ℕ) (mid new : Vec ℕ Z)
      (r : Result ShiftState EncodeError) →
      Appended old held mid → Gave code mid new r → HoldsCode code old held new [] r
  held_given code old held mid new (Ok next) p q = (
    q.0,
    q.1,
    record {
      prefix = held ++ code.bytes;
      parts = sym (append-nil (held ++ code.bytes));
      appended = both p q.2;
    },
  )
  held_given code old held mid new (Err NoMemory) p q = after_part p q
  held_given code old held mid new (Err (Unencodable c)) p q = (q.0, both p q.1)

module _ (t : Tables) (e : EncoderState) {Z : Type 0} where
  pub held_then : (x y : List ℕ) (old : Vec ℕ Z) (held : List ℕ) (mid : Vec ℕ Z) (still_held : List ℕ) (new : Vec ℕ Z)
      (last : List ℕ) (s : ShiftState) (r : Result ShiftState EncodeError) →
      HoldsCode (code_from t e x) old held mid still_held (Ok s)
      → HoldsCode (coded (encoder t e.to) e.mode (shift_of s) y) mid still_held new
      last r → HoldsCode (code_from t e (x ++ y)) old held new last r
  held_then x y old held mid still_held new last s r p q =
      let a = code_from t e x in
      rw (coded_both (encoder t e.to) (encoder_steady t e.to) e.mode e.shift x y p.0, ← p.1)
      (held_after a (coded (encoder t e.to) e.mode (shift_of s) y) old held mid still_held new last r p.2 q)

-- the bytes that switch to another set of characters, and then those of a character
pub twice_held : {Z : Type 0} (t : Tables) (e : EncoderState) (to : Encoding) (s : ShiftState) (c : ℕ) (b : Bytes)
    (between : ShiftState) (more : Bytes) (next : ShiftState) → to ≡ e.to →
    encode.Restore (code_bytes b) (shift_of between) ≡ encoder t to (shift_of s) c →
    encode.Wrote (code_bytes more) (shift_of next) ≡ encoder t to (shift_of between) c →
    (old : Vec ℕ Z) (held : List ℕ) (mid : Vec ℕ Z) (still_held : List ℕ) (new : Vec ℕ Z) (last : List ℕ)
    (r : Result ShiftState EncodeError) → Passed old held (code_bytes b) mid still_held →
    HoldsCode (record { bytes = code_bytes more; state = shift_of next; fault = None }) mid still_held new last r →
    HoldsCode (coded (encoder t e.to) e.mode (shift_of s) (c ∷ [])) old held new last r
twice_held t e to s c b between more next same again wrote old held mid still_held new last r p q =
    let z = shift_of between in
    let code : Coded = record { bytes = code_bytes more; state = shift_of next; fault = None } in
    let first : Coded = record { bytes = code_bytes b; state = z; fault = None } in
    let twice = coded_twice t e.to e.mode (shift_of s) c (code_bytes b) z
    (encode.Wrote (code_bytes more) (shift_of next))
    (rw same at again) (rw same at wrote) in
    subst (λ x. HoldsCode x old held new last r) (sym twice)
    (held_after first code old held mid still_held new last r p q)

-- the bytes before a reference, and the reference
pub reference_code : (t : Tables) (e : EncoderState) (to : Encoding) (s : ShiftState) (c : ℕ) (b : Bytes)
    (next : ShiftState) (d : ℕ) → to ≡ e.to → e.mode ≡ Html →
    encode.Unmappable (code_bytes b) (shift_of next) d ≡ encoder t to (shift_of s) c →
    coded (encoder t e.to) e.mode (shift_of s) (c ∷ []) ≡ record {
      bytes = code_bytes b ++ reference d;
      state = shift_of next;
      fault = None;
    }
reference_code t e to s c b next d same html wrote =
    let w = encode.Unmappable (code_bytes b) (shift_of next) d in
    coded_once t e.to e.mode (shift_of s) c w (rw same at wrote) tt ∙ ap (λ m. final m w) html

pub held_error : {Z : Type 0} (code : Coded) (old new : Vec ℕ Z) (still_held : List ℕ) (d : EncodeError)
    → HoldsCode code old [] new still_held (Err d) → Gave code old new (Err d)
held_error code old new still_held NoMemory p = p
held_error code old new still_held (Unencodable c) p = p

-- the rest that is held is appended, or a part of it
pub flushed : {Z : Type 0} (code : Coded) (old mid new : Vec ℕ Z) (still_held : List ℕ) (s : ShiftState)
    → HoldsCode code old [] mid still_held (Ok s) → Appended mid still_held new → Gave code old new (Ok s)
flushed code old mid new still_held s p q = (
  p.0,
  p.1,
  subst (λ z. Appended old z new) (sym p.2.parts)
      (both p.2.appended q),
)

pub unflushed : {Z : Type 0} (code : Coded) (old mid new : Vec ℕ Z) (still_held : List ℕ) (s : ShiftState)
    → HoldsCode code old [] mid still_held (Ok s) → Stopped mid still_held new → Gave code old new (Err NoMemory)
unflushed code old mid new still_held s p q = subst (λ z. Stopped old z new) (sym p.2.parts) (after_part p.2.appended q)
