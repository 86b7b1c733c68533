-- The code of a text, prefix by prefix.
use Rattle.std.proofs.Common.{ℕ, ◌≡◌, ◌<◌, ◌≤◌, ◌==◌, true, None, List, [], ◌∷◌, ◌++◌, refl, sym, ◌∙◌, ap}
use Rattle.std.proofs.Common.{subst, arith, take, drop, length, get_or, Vec, Result, Ok, Err, length-append}
use Rattle.std.proofs.Common.{append_assoc, append-nil, take-append-drop, ◌⊎◌, inl, inr}
use Rattle.std.proofs.lemmas.Bool.Decides.{nat_tests}
use Rattle.std.proofs.lemmas.List.{length-take, get_or-take, take-take}
use Rattle.std.proofs.Math.Seq.{take-append_seam, drop-append_seam}
use Rattle.std.proofs.lemmas.List.Sums.{prefix_len-le-length, prefix_len_passes}
use Rattle.std.proofs.lemmas.List.Elements.{All-from_get_or, All-weaker}
use Rattle.std.proofs.lemmas.Str.{IsUtf8-nil, IsUtf8-append, IsUtf8-drop, IsCharBoundary-from_take, chars-nil}
use Rattle.std.proofs.lemmas.Str.{chars-append}
use Rattle.std.specs.List.{prefix_len}
use Rattle.std.specs.Prelude.{All, false}
use Rattle.std.specs.Char.{is_ascii}
use Rattle.std.specs.Str.{IsUtf8, IsCharBoundary, chars}
use Rattle.std.specs.Array.{IsFirstChunk}
use lib.Utf8.{encode}
use Rattle.enc_model.specs.declared.Encoding.{Encoding}
use Rattle.enc_model.specs.declared.Encoding.TheVariants.{Iso2022Jp}
use Rattle.enc_model.specs.Encode.{Tables, Shift, InAscii, InRoman, InJis, coded, encoder}
use Rattle.enc_model.proofs.Utf8Bytes.{ascii_chars, ascii_utf8}
use Rattle.enc_encode.specs.declared.error.EncodeError.{EncodeError}
use Rattle.enc_encode.specs.declared.shift.ShiftState.{ShiftState}
use Rattle.enc_encode.specs.declared.shift.ShiftState.TheVariants.{Roman, Jis}
use Rattle.enc_encode.specs.Held.{Passed, HoldsCode, HeldPrefix, IsOwnPrefix, own_byte}
use Rattle.enc_encode.specs.Reasons.{Gave}
use Rattle.enc_encode.specs.State.{shift_of, shifted, EncoderState, code_from}
use Rattle.enc_encode.proofs.Codes.{own_code}
use Rattle.enc_encode.specs.Runs.{IsCoded, RunPrefix}
use Rattle.enc_encode.proofs.Helds.{all_held, held_more, held_given, held_then, held_error, nothing_appended}
use Rattle.enc_encode.proofs.RunPrefixes.{char_own, char_one, coded_run}
use Rattle.enc_encode.proofs.Runs.{gave_nothing, gave_stop}

-- LANES

pub own_other : (to : Encoding) (s : Shift) → (to ≡ Iso2022Jp → ⊥) → own_byte to s ≡ is_ascii
own_other Iso2022Jp s n = absurd (n refl)
own_other to s n = refl

own_none : (lanes : List ℕ) → prefix_len (λ (b : ℕ). false) lanes ≡ 0
own_none [] = refl
own_none (b ∷ lanes) = refl

pub own_switched : (to : Encoding) (s : ShiftState) (lanes : List ℕ) → to ≡ Iso2022Jp → (s ≡ Roman) ⊎ (s ≡ Jis)
    → 0 ≡ prefix_len (own_byte to (shift_of s)) lanes
own_switched to s lanes e (inl h) = rw (e, h) (sym (own_none lanes))
own_switched to s lanes e (inr h) = rw (e, h) (sym (own_none lanes))

own_ascii : (to : Encoding) (s : Shift) (b : ℕ) → own_byte to s b ≡ true → b < 128
own_ascii Iso2022Jp InAscii b e = grind (arith, nat_tests, e)
own_ascii Iso2022Jp InRoman b e = absurd cc
own_ascii Iso2022Jp InJis b e = absurd cc
own_ascii to s b e = grind (arith, nat_tests, e)

pub own_chunk : (to : Encoding) (s : Shift) (text lanes : List ℕ) (n : ℕ) → IsFirstChunk text lanes 32
    → n ≡ prefix_len (own_byte to s) lanes → 0 < n → IsOwnPrefix to s text lanes n
own_chunk to s text lanes n chunk e some =
    let own = own_byte to s in
    let enough = chunk.enough in
    let long : length lanes ≡ 32 = let t = length-take 32 text in let l : length lanes ≡ length (take 32 text) =
    ap length chunk.same in omega (arith, t, l, enough) in
    let few : n ≤ 32 = let p = prefix_len-le-length own lanes in omega (arith, p, long, e) in
    record {
      lanes_are = chunk.same;
      some = some;
      few = few;
      long = enough;
      own = All-from_get_or (λ b. own b ≡ true) (take n text) 0 (λ k l.
          let m : k < n = let t = length-take n text in omega (arith, l, t) in
          let p = prefix_len_passes own lanes k 0 (subst (λ z. k < z) e m) in
          let same : get_or lanes k 0 ≡ get_or text k 0 =
          ap (λ z. get_or z k 0) chunk.same ∙ get_or-take 32 text k 0 (omega (arith, m, few)) in
          subst (λ b. own b ≡ true) (sym (get_or-take n text k 0 m)) (subst (λ b. own b ≡ true) same p));
    }

prefix_ascii : (to : Encoding) (s : Shift) (text lanes : List ℕ) (n : ℕ) → IsOwnPrefix to s text lanes n
    → All (λ b. b < 128) (take n text)
prefix_ascii to s text lanes n p =
    All-weaker (λ b. own_byte to s b ≡ true) (λ b. b < 128) (λ b e. own_ascii to s b e) (take n text) p.own

prefix_of_prefix : (text lanes : List ℕ) (n : ℕ) → lanes ≡ take 32 text → n ≤ 32 → take n lanes ≡ take n text
prefix_of_prefix text lanes n e few = ap (take n) e ∙ take-take n 32 text few

module _ (t : Tables) (e : EncoderState) {Z : Type 0} where
  -- ASCII that is written as it is
  pub ascii_held : (to : Encoding) (text lanes : List ℕ) (n : ℕ) (s : ShiftState) (old : Vec ℕ Z) (held : List ℕ)
      (new : Vec ℕ Z) (mid still_held : List ℕ) → to ≡ e.to →
      IsOwnPrefix to (shift_of s) text lanes n → Passed old held [] new mid → still_held ≡ mid ++ take n lanes →
      HeldPrefix (code_from t (shifted e (shift_of s))) text (drop n text) old held new still_held (Ok s)
  ascii_held to text lanes n s old held new mid still_held same own p k =
      let prefix = take n text in
      let ascii = prefix_ascii to (shift_of s) text lanes n own in
      let code : code_from t (shifted e (shift_of s)) (chars prefix) ≡ record {
        bytes = prefix;
        state = shift_of s;
        fault = None;
      } =
      ap (λ z. code_from t (shifted e (shift_of s)) z) (ascii_chars prefix ascii)
      ∙ own_code t e.to e.mode (shift_of s) prefix (subst (λ z. All (λ b. own_byte z (shift_of s) b ≡ true) prefix) same
      own.own) in
      record {
        prefix = prefix;
        parts = sym (take-append-drop n text);
        own = ascii_utf8 prefix ascii;
        code = subst (λ z. HoldsCode z old held new still_held (Ok s)) (sym code) (
          refl,
          refl,
          held_more prefix still_held
              (k ∙ ap (λ z. mid ++ z) (prefix_of_prefix text lanes n own.lanes_are own.few)) p,
        );
      }

  -- one character
  pub char_held : (text rest : List ℕ) (c : ℕ) (s : ShiftState) (old : Vec ℕ Z) (held : List ℕ) (new : Vec ℕ Z)
      (still_held : List ℕ) (r : Result ShiftState EncodeError) →
      IsUtf8 text → text ≡ encode c ++ rest → HoldsCode (coded (encoder t e.to) e.mode (shift_of s) (c ∷ [])) old held
      new
      still_held r →
      HeldPrefix (code_from t (shifted e (shift_of s))) text rest old held new still_held r
  char_held text rest c s old held new still_held r u parts k =
      let own = char_own text rest c u parts in
      record {
        prefix = encode c;
        parts = parts;
        own = own;
        code = subst (λ z. HoldsCode (code_from t (shifted e (shift_of s)) z) old held new still_held r)
            (sym (char_one c own)) k;
      }

  -- characters whose bytes are known
  pub coded_held : (text rest : List ℕ) (s : ShiftState) (out : Vec ℕ Z) (held still_held : List ℕ)
      → RunPrefix (IsCoded t e.to e.mode (shift_of s)) text rest held still_held →
      HeldPrefix (code_from t (shifted e (shift_of s))) text rest out held out still_held (Ok s)
  coded_held text rest s out held still_held p =
      let code : code_from t (shifted e (shift_of s)) (chars p.prefix) ≡ record {
        bytes = p.bytes;
        state = shift_of s;
        fault = None;
      } =
      coded_run t e.to e.mode (shift_of s) (chars p.prefix) p.bytes p.given in
      record {
        prefix = p.prefix;
        parts = p.parts;
        own = p.own;
        code = subst (λ z. HoldsCode z out held out still_held (Ok s)) (sym code)
            (refl, refl, all_held out held p.bytes still_held p.grown);
      }

  -- no character yet
  pub prefix_none : (text : List ℕ) (s : ShiftState) (out : Vec ℕ Z) (still_held : List ℕ) → shift_of s ≡ e.shift
      → still_held ≡ []
      → HeldPrefix (code_from t e) text text out [] out still_held (Ok s)
  prefix_none text s out still_held h none = record {
    prefix = [];
    parts = refl;
    own = IsUtf8-nil;
    code = subst (λ z. HoldsCode (code_from t e z) out [] out still_held (Ok s)) (sym chars-nil)
        (subst (λ z. HoldsCode (code_from t e []) out [] out z (Ok s)) (sym none)
        (held_given (code_from t e []) out [] out out (Ok s) (nothing_appended out) (gave_nothing t e out s h)));
  }

  -- one prefix more
  pub prefix_then : (text rest left : List ℕ) (old : Vec ℕ Z) (held : List ℕ) (mid : Vec ℕ Z) (still_held : List ℕ)
      (new : Vec ℕ Z) (last : List ℕ) (s : ShiftState) (r : Result ShiftState EncodeError) →
      HeldPrefix (code_from t e) text rest old held mid still_held (Ok s)
      → HeldPrefix (code_from t (shifted e (shift_of s))) rest
      left mid still_held new last r →
      HeldPrefix (code_from t e) text left old held new last r
  prefix_then text rest left old held mid still_held new last s r p q = record {
    prefix = p.prefix ++ q.prefix;
    parts = p.parts ∙ ap (λ z. p.prefix ++ z) q.parts ∙ sym (append_assoc p.prefix q.prefix left);
    own = IsUtf8-append p.prefix q.prefix p.own q.own;
    code = subst (λ z. HoldsCode (code_from t e z) old held new last r) (sym (chars-append p.prefix q.prefix p.own))
        (held_then t e (chars p.prefix) (chars q.prefix) old held mid still_held new last s r p.code q.code);
  }

  -- an error in a prefix is one of the text
  pub prefix_error : (text rest : List ℕ) (old new : Vec ℕ Z) (still_held : List ℕ) (d : EncodeError)
      → HeldPrefix (code_from t e) text rest old [] new still_held (Err d) →
      Gave (code_from t e (chars text)) old new (Err d)
  prefix_error text rest old new still_held d p =
      subst (λ z. Gave (code_from t e z) old new (Err d))
      (sym (chars-append p.prefix rest p.own) ∙ ap chars (sym p.parts))
      (gave_stop t e (chars p.prefix) (chars rest) old new d
      (held_error (code_from t e (chars p.prefix)) old new still_held d p.code))

  -- nothing is left
  pub prefix_all : (text rest : List ℕ) (old new : Vec ℕ Z) (still_held : List ℕ) (s : ShiftState)
      → HeldPrefix (code_from t e) text rest old [] new still_held (Ok s) → true ≡ (length rest == 0) →
      HoldsCode (code_from t e (chars text)) old [] new still_held (Ok s)
  prefix_all text [] old new still_held s p l =
      subst (λ z. HoldsCode (code_from t e (chars z)) old [] new still_held (Ok s)) (sym (append-nil p.prefix)
      ∙ sym p.parts) p.code
  prefix_all text (b ∷ rest) old new still_held s p l = absurd (grind (arith, nat_tests, l))

-- a text may be cut after ASCII
pub own_cut : (to : Encoding) (s : Shift) (text lanes : List ℕ) (n : ℕ) → IsUtf8 text → IsOwnPrefix to s text lanes n
    → IsCharBoundary text n
own_cut to s text lanes n u own =
    IsCharBoundary-from_take text n u (let few = own.few in let long = own.long in omega (arith, few, long))
    (ascii_utf8 (take n text) (prefix_ascii to s text lanes n own))

-- what is left after a text's start is a text
pub left_text : (text prefix left : List ℕ) → IsUtf8 text → IsUtf8 prefix → text ≡ prefix ++ left → IsUtf8 left
left_text text prefix left u v e =
    let n = length prefix in
    let l = length-append prefix left in
    let m : length text ≡ length (prefix ++ left) = ap length e in
    let own : IsUtf8 (take n text) = subst IsUtf8 (sym (ap (take n) e ∙ take-append_seam prefix left)) v in
    subst IsUtf8 (ap (drop n) e ∙ drop-append_seam prefix left)
    (IsUtf8-drop text n u (IsCharBoundary-from_take text n u (omega (arith, l, m)) own))
