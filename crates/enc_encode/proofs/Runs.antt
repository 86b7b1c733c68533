-- The codes of several characters, one after the other.
use Rattle.std.proofs.Common.{ℕ, ◌≡◌, List, [], ◌++◌, Vec, Result, Ok, Err, Option, Some, None, refl, sym, append-nil}
use Rattle.std.proofs.Common.{arith}
use Rattle.enc_model.specs.Encode.{Tables, Shift, Coded, coded, coded_within, joined_code, encoder}
use Rattle.enc_model.proofs.Coding.{coded_append}
use Rattle.enc_model.proofs.Steady.{encoder_steady}
use Rattle.enc_model.proofs.Transcoding.{coded_both, coded_fault}
use Rattle.enc_encode.specs.declared.error.EncodeError.{EncodeError}
use Rattle.enc_encode.specs.declared.error.EncodeError.TheVariants.{NoMemory, Unencodable}
use Rattle.enc_encode.specs.declared.shift.ShiftState.{ShiftState}
use Rattle.enc_encode.specs.Growth.{Stopped}
use Rattle.enc_model.specs.Transcode.{Refused}
use Rattle.enc_encode.specs.Reasons.{Gave, Explains, reason_of}
use Rattle.enc_encode.specs.State.{shift_of, EncoderState, coder, code_from}
use Rattle.enc_encode.proofs.Growth.{prefix}
use Rattle.enc_encode.proofs.Final.{gave_after}

module _ (t : Tables) (e : EncoderState) where
  coded_nothing : code_from t e [] ≡ record { bytes = []; state = e.shift; fault = None }
  unfolding coded coded_within
  coded_nothing = refl

  pub gave_nothing : {Z : Type 0} (out : Vec ℕ Z) (s : ShiftState) → shift_of s ≡ e.shift
      → Gave (code_from t e []) out out (Ok s)
  gave_nothing out s h = rw coded_nothing (
    refl,
    h,
    record {
      items = sym (append-nil out.items);
      capacity = omega arith;
    },
  )

  -- a part, and then more
  pub gave_then : {Z : Type 0} (x y : List ℕ) (old mid new : Vec ℕ Z) (s : ShiftState)
      (r : Result ShiftState EncodeError) →
      Gave (code_from t e x) old mid (Ok s) → Gave (code_from t (record e { shift = shift_of s }) y) mid new r
      → Gave (code_from t e (x ++ y)) old new r
  gave_then x y old mid new s r p q =
      let f = encoder t e.to in
      let a = code_from t e x in
      rw (coded_both f (encoder_steady t e.to) e.mode e.shift x y p.0, ← p.1)
      (gave_after a.bytes (coded f e.mode (shift_of s) y) new r p.2 q)

  stopped_more : {Z : Type 0} (old new : Vec ℕ Z) (r : Coded) (m : Shift → Coded) → Stopped old r.bytes new
      → Stopped old (joined_code r m).bytes new
  stopped_more old new r m p = go r.fault refl
    where
      go : (z : Option ℕ) → r.fault ≡ z → Stopped old (joined_code r m).bytes new
      go None h = rw h (prefix (m r.state).bytes p)
      go (Some d) h = rw h p

  -- an error in a part is one of the whole
  pub gave_stop : {Z : Type 0} (x y : List ℕ) (old new : Vec ℕ Z) (d : EncodeError) →
      Gave (code_from t e x) old new (Err d) → Gave (code_from t e (x ++ y)) old new (Err d)
  gave_stop x y old new NoMemory p =
      rw (coded_append (encoder t e.to) (encoder_steady t e.to) e.mode e.shift x y)
      (stopped_more old new (code_from t e x) (λ next. coded (encoder t e.to) e.mode next y) p)
  gave_stop x y old new (Unencodable c) p =
      rw (coded_fault (encoder t e.to) (encoder_steady t e.to) e.mode e.shift x y c p.0) p

  -- an error is a refusal
  pub gave_refused : {Z : Type 0} (x : List ℕ) (old new : Vec ℕ Z) (d : EncodeError)
      → Gave (code_from t e x) old new (Err d) →
      Refused (encoder t e.to) e.mode (coder e old.items) x (reason_of d) (coder e new.items)
  gave_refused x old new NoMemory p = record {
    prefix = p.items.prefix;
    rest = p.items.rest;
    parts = p.items.parts;
    out = p.items.out;
    reason = tt;
  }
  gave_refused x old new (Unencodable c) p =
      record {
        prefix = (code_from t e x).bytes;
        rest = [];
        parts = sym (append-nil (code_from t e x).bytes);
        out = p.1.items;
        reason = p.0;
      }

  pub gave_explains : {Z : Type 0} (X : Type 0) (x : List ℕ) (old new : Vec ℕ Z) (d : EncodeError)
      → Gave (code_from t e x) old new (Err d) →
      Explains {X = X} (code_from t e x) old new (Err d)
  gave_explains X x old new NoMemory p = p.full
  gave_explains X x old new (Unencodable c) p = p.1.items
