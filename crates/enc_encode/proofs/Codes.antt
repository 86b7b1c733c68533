-- What an encoder gives for one character is written in the end, since its state takes the reference's characters as
-- they are.
use Rattle.std.proofs.Common.{ℕ, ◌<◌, ◌≤◌, ◌≡◌, true, false, List, [], ◌∷◌, Option, Some, None, refl, sym, ◌∙◌, ap}
use Rattle.std.proofs.Common.{arith}
use Rattle.std.proofs.Common.{append_assoc, append-nil, ◌⊎◌, inl, inr}
use Rattle.std.specs.Str.{IsUtf8, chars}
use Rattle.std.proofs.lemmas.Str.{encodes-chars}
use lib.Utf8.{encode, encodes}
use Rattle.std.proofs.lemmas.Bool.Decides.{nat_tests}
use Rattle.std.proofs.lemmas.List.Elements.{All-head, All-tail}
use Rattle.std.specs.Prelude.{All}
use Rattle.enc_model.specs.declared.Encoding.{Encoding}
use Rattle.enc_model.specs.declared.Encoding.TheVariants as encodings
use Rattle.enc_model.specs.declared.Mode.{Mode}
use Rattle.enc_model.specs.declared.Mode.TheVariants.{Html, Fatal}
use Rattle.enc_model.specs.Index.{Index}
use Rattle.enc_model.specs.Encode.{Shift, InAscii, InRoman, InJis, Written, Wrote, Restore, Unmappable, Encoder}
use Rattle.enc_model.specs.Encode.{Coded, led_by}
use Rattle.enc_model.specs.Encode.{reference, coded, joined_code, all_codes, after_written, settled, code_within}
use Rattle.enc_model.specs.Encode.{plain_code, code_of, IsNoRestore, Tables, is_jis, shift_jis_encoder, euc_jp_encoder}
use Rattle.enc_model.specs.Encode.{iso2022_encoder, single_encoder, utf8_bytes, utf8_encoder, encoder}
use Rattle.enc_model.proofs.Coding.{ArePlain, reference_plain, coded_is}
use Rattle.enc_model.proofs.Steady.{encoder_steady}
use Rattle.enc_encode.specs.declared.shift.ShiftState.{ShiftState}
use Rattle.enc_encode.specs.declared.written.Bytes.{Bytes}
use Rattle.enc_encode.specs.declared.written.Written as code_written
use Rattle.enc_encode.specs.declared.written.Written.TheVariants as code
use Rattle.enc_encode.specs.Code.{final, written_of}
use Rattle.enc_encode.specs.Held.{own_byte}

-- the encoder writes it as it is from here
abbrev WritesAsIs : Encoder → Shift → ℕ → Type 0
WritesAsIs f s x = f s x ≡ Wrote (x ∷ []) s

plain_run : (f : Encoder) (s : Shift) → ((x : ℕ) → 0x20 ≤ x → x < 0x5C → WritesAsIs f s x) → (r : List ℕ) → ArePlain r →
    all_codes (plain_code f) s r ≡ record { bytes = r; state = s; fault = None }
plain_run f s each [] p = refl
plain_run f s each (x ∷ r) p =
    rw (each x p.0 p.1, plain_run f s each r p.2) refl

-- WHERE AN ENCODER IS AT AN ERROR

abbrev AtUnmappable : Written → (Shift → Type 0) → Type 0
AtUnmappable (Unmappable b s d) P = P s
AtUnmappable _ P = Unit {0}

-- at an error its state takes plain characters as they are
abbrev HasPlain : Encoder → Type 0
HasPlain f = (s : Shift) (c x : ℕ) → 0x20 ≤ x → x < 0x5C → AtUnmappable (settled f c (f s c)) (λ z. WritesAsIs f z x)

anywhere : (w : Written) (P : Shift → Type 0) → ((z : Shift) → P z) → AtUnmappable w P
anywhere (Wrote b s) P h = tt
anywhere (Restore b s) P h = tt
anywhere (Unmappable b s d) P h = h s

iso_plain : (i k : Index) (z : Shift) (x : ℕ) → is_jis z ≡ false → 0x20 ≤ x → x < 0x5C
    → WritesAsIs (iso2022_encoder i k) z x
unfolding iso2022_encoder
iso_plain i k InAscii x e l h = grind (arith, nat_tests)
iso_plain i k InRoman x e l h = grind (arith, nat_tests)
iso_plain i k InJis x e l h = absurd cc

iso_out : (i k : Index) (s : Shift) (c : ℕ) → AtUnmappable (settled (iso2022_encoder i k) c (iso2022_encoder i k s c))
    (λ z. is_jis z ≡ false)
unfolding iso2022_encoder
iso_out i k InAscii c = grind (arith, nat_tests)
iso_out i k InRoman c = grind (arith, nat_tests)
iso_out i k InJis c = grind (arith, nat_tests)

weaker : (w : Written) (P Q : Shift → Type 0) → ((z : Shift) → P z → Q z) → AtUnmappable w P → AtUnmappable w Q
weaker (Wrote b s) P Q h p = tt
weaker (Restore b s) P Q h p = tt
weaker (Unmappable b s d) P Q h p = h s p

encoder_plain : (t : Tables) (e : Encoding) → HasPlain (encoder t e)
unfolding shift_jis_encoder euc_jp_encoder single_encoder
encoder_plain t encodings.Utf8 s c x l h = tt
encoder_plain t encodings.Utf16Be s c x l h = tt
encoder_plain t encodings.Utf16Le s c x l h = tt
encoder_plain t encodings.ShiftJis s c x l h =
    let f = shift_jis_encoder t.jis0208 in anywhere (settled f c (f s c)) (λ z. WritesAsIs f z x)
    (λ z. grind (arith, nat_tests))
encoder_plain t encodings.EucJp s c x l h =
    let f = euc_jp_encoder t.jis0208 in anywhere (settled f c (f s c)) (λ z. WritesAsIs f z x)
    (λ z. grind (arith, nat_tests))
encoder_plain t encodings.Iso2022Jp s c x l h =
    let f = iso2022_encoder t.jis0208 t.katakana in
    weaker (settled f c (f s c)) (λ z. is_jis z ≡ false) (λ z. WritesAsIs f z x)
    (λ z o. iso_plain t.jis0208 t.katakana z x o l h) (iso_out t.jis0208 t.katakana s c)
encoder_plain t e s c x l h =
    let f = single_encoder (t.single e) in anywhere (settled f c (f s c)) (λ z. WritesAsIs f z x)
    (λ z. grind (arith, nat_tests))

-- THE CODE OF ONE CHARACTER

joined_end : (r : Coded) → joined_code r (λ next. record { bytes = []; state = next; fault = None }) ≡ r
joined_end r = go r.fault refl
  where
    go : (z : Option ℕ) → r.fault ≡ z → joined_code r (λ next. record { bytes = []; state = next; fault = None }) ≡ r
    go None e = rw (e, append-nil) refl
    go (Some d) e = rw e refl

within_final : (f : Encoder) (mode : Mode) (w : Written)
    → ((x : ℕ) → 0x20 ≤ x → x < 0x5C → AtUnmappable w (λ z. WritesAsIs f z x)) →
    code_within mode (all_codes (plain_code f)) w ≡ final mode w
within_final f mode (Wrote b s) p = refl
within_final f mode (Restore b s) p = refl
within_final f Html (Unmappable b s d) p = ap (led_by b) (plain_run f s p (reference d) (reference_plain d))
within_final f Fatal (Unmappable b s d) p = refl

pub coded_one : (t : Tables) (e : Encoding) (mode : Mode) (s : Shift) (c : ℕ) →
    coded (encoder t e) mode s (c ∷ []) ≡ (let f = encoder t e in final mode (settled f c (f s c)))
coded_one t e mode s c =
    let f = encoder t e in
    coded_is f (encoder_steady t e) mode s (c ∷ [])
    ∙ joined_end (code_of f mode s c)
    ∙ within_final f mode (settled f c (f s c)) (λ x l h. encoder_plain t e s c x l h)

-- bytes, and then what was written after them
pub final_after : (mode : Mode) (x : List ℕ) (w : Written) → final mode (after_written x w) ≡ led_by x (final mode w)
final_after mode x (Wrote b s) = refl
final_after mode x (Restore b s) = refl
final_after Html x (Unmappable b s d) = ap (λ z. record {
  bytes = z;
  state = s;
  fault = None;
}) (append_assoc x b (reference d))
final_after Fatal x (Unmappable b s d) = refl

settled_once : (f : Encoder) (s : Shift) (c : ℕ) (w : Written) → f s c ≡ w → IsNoRestore w → settled f c (f s c) ≡ w
settled_once f s c (Wrote b z) e n = rw e refl
settled_once f s c (Restore b z) e n = absurd n
settled_once f s c (Unmappable b z d) e n = rw e refl

module _ (t : Tables) (to : Encoding) (mode : Mode) (s : Shift) (c : ℕ) where
  -- where it does not ask again
  pub coded_once : (w : Written) → w ≡ encoder t to s c → IsNoRestore w → coded (encoder t to) mode s (c ∷ []) ≡ final
      mode w
  coded_once w e n = coded_one t to mode s c ∙ ap (final mode) (settled_once (encoder t to) s c w (sym e) n)

  -- where it does
  pub coded_twice : (b : List ℕ) (z : Shift) (w : Written) → Restore b z ≡ encoder t to s c → w ≡ encoder t to z c →
      coded (encoder t to) mode s (c ∷ []) ≡ led_by b (final mode w)
  coded_twice b z w e h =
      coded_one t to mode s c
      ∙ ap (λ v. final mode (settled (encoder t to) c v)) (sym e)
      ∙ final_after mode b (encoder t to z c)
      ∙ ap (λ v. led_by b (final mode v)) (sym h)

pub not_again : (w : code_written.Written) → ((b : Bytes) (s : ShiftState) → w ≡ code.Restore b s → ⊥)
    → IsNoRestore (written_of w)
not_again (code.Wrote b s) n = tt
not_again (code.Restore b s) n = n b s refl
not_again (code.Unmappable b s d) n = tt

-- A RUN OF ASCII

ascii_as_is : (t : Tables) (e : Encoding) (s : Shift) (x : ℕ) → (e ≡ encodings.Iso2022Jp → ⊥) → x < 128
    → WritesAsIs (encoder t e) s x
unfolding shift_jis_encoder euc_jp_encoder single_encoder
ascii_as_is t encodings.Utf8 s x n l = grind (arith, nat_tests)
ascii_as_is t encodings.Utf16Be s x n l = grind (arith, nat_tests)
ascii_as_is t encodings.Utf16Le s x n l = grind (arith, nat_tests)
ascii_as_is t encodings.ShiftJis s x n l = grind (arith, nat_tests)
ascii_as_is t encodings.EucJp s x n l = grind (arith, nat_tests)
ascii_as_is t encodings.Iso2022Jp s x n l = absurd (n refl)
ascii_as_is t e s x n l = grind (arith, nat_tests)

as_is_code : (f : Encoder) (mode : Mode) (s : Shift) (x : ℕ) → WritesAsIs f s x → code_of f mode s x ≡ record {
  bytes = x ∷ [];
  state = s;
  fault = None;
}
as_is_code f mode s x e = rw e refl

ascii_run : (f : Encoder) (mode : Mode) (s : Shift) (xs : List ℕ) → ((x : ℕ) → x < 128 → WritesAsIs f s x)
    → All (λ b. b < 128) xs →
    all_codes (code_of f mode) s xs ≡ record { bytes = xs; state = s; fault = None }
ascii_run f mode s [] each a = refl
ascii_run f mode s (x ∷ xs) each a =
    rw (
      as_is_code f mode s x (each x (All-head (λ b. b < 128) x xs a)),
      ascii_run f mode s xs each
          (All-tail (λ b. b < 128) x xs a),
    ) refl

-- outside ISO-2022-JP it is written as it is
pub ascii_code : (t : Tables) (e : Encoding) (mode : Mode) (s : Shift) (xs : List ℕ) → (e ≡ encodings.Iso2022Jp → ⊥)
    → All (λ b. b < 128) xs →
    coded (encoder t e) mode s xs ≡ record { bytes = xs; state = s; fault = None }
ascii_code t e mode s xs n a =
    coded_is (encoder t e) (encoder_steady t e) mode s xs ∙ ascii_run (encoder t e) mode s xs
    (λ x l. ascii_as_is t e s x n l) a

-- A RUN OF ASCII THAT IS WRITTEN AS IT IS

own_as_is : (t : Tables) (e : Encoding) (s : Shift) (x : ℕ) → own_byte e s x ≡ true → WritesAsIs (encoder t e) s x
unfolding shift_jis_encoder euc_jp_encoder single_encoder iso2022_encoder
own_as_is t encodings.Iso2022Jp InAscii x h = grind (arith, nat_tests, h)
own_as_is t encodings.Iso2022Jp InRoman x h = absurd cc
own_as_is t encodings.Iso2022Jp InJis x h = absurd cc
own_as_is t encodings.Utf8 s x h = grind (arith, nat_tests, h)
own_as_is t encodings.Utf16Be s x h = grind (arith, nat_tests, h)
own_as_is t encodings.Utf16Le s x h = grind (arith, nat_tests, h)
own_as_is t encodings.ShiftJis s x h = grind (arith, nat_tests, h)
own_as_is t encodings.EucJp s x h = grind (arith, nat_tests, h)
own_as_is t e s x h = grind (arith, nat_tests, h)

own_run : (t : Tables) (e : Encoding) (mode : Mode) (s : Shift) (xs : List ℕ)
    → All (λ x. own_byte e s x ≡ true) xs →
    all_codes (code_of (encoder t e) mode) s xs ≡ record { bytes = xs; state = s; fault = None }
own_run t e mode s [] a = refl
own_run t e mode s (x ∷ xs) a =
    let own = λ (x : ℕ). own_byte e s x ≡ true in
    rw (
      as_is_code (encoder t e) mode s x (own_as_is t e s x (All-head own x xs a)),
      own_run t e mode s xs (All-tail own x xs a),
    ) refl

pub own_code : (t : Tables) (e : Encoding) (mode : Mode) (s : Shift) (xs : List ℕ)
    → All (λ x. own_byte e s x ≡ true) xs →
    coded (encoder t e) mode s xs ≡ record { bytes = xs; state = s; fault = None }
own_code t e mode s xs a = coded_is (encoder t e) (encoder_steady t e) mode s xs ∙ own_run t e mode s xs a

-- A TEXT IN UTF-8

bytes_are : (c : ℕ) → utf8_bytes c ≡ encode c
unfolding encode
bytes_are c = refl

text_run : (mode : Mode) (s : Shift) (cs : List ℕ) → all_codes (code_of utf8_encoder mode) s cs ≡ record {
  bytes = encodes cs;
  state = s;
  fault = None;
}
text_run mode s [] = refl
text_run mode s (c ∷ cs) =
    ap (λ b. led_by b (all_codes (code_of utf8_encoder mode) s cs)) (bytes_are c)
    ∙ ap (led_by (encode c)) (text_run mode s cs)

-- the encodings whose texts are in UTF-8
pub utf8_texts : (t : Tables) (e : Encoding)
    → (e ≡ encodings.Utf8) ⊎ ((e ≡ encodings.Utf16Be) ⊎ (e ≡ encodings.Utf16Le)) → encoder t e ≡ utf8_encoder
utf8_texts t e (inl h) = rw h refl
utf8_texts t e (inr (inl h)) = rw h refl
utf8_texts t e (inr (inr h)) = rw h refl

-- its characters' code is the text itself
pub text_code : (t : Tables) (e : Encoding) (mode : Mode) (s : Shift) (bs : List ℕ) → encoder t e ≡ utf8_encoder
    → IsUtf8 bs →
    coded (encoder t e) mode s (chars bs) ≡ record { bytes = bs; state = s; fault = None }
text_code t e mode s bs is u =
    ap (λ f. coded f mode s (chars bs)) is
    ∙ coded_is utf8_encoder (encoder_steady t encodings.Utf8) mode s (chars bs)
    ∙ text_run mode s (chars bs)
    ∙ ap (λ b. record { bytes = b; state = s; fault = None }) (encodes-chars bs u)
