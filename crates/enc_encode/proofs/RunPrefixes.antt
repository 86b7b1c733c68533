-- Characters at a text's start, whose bytes are known and leave the encoder's state as it is.
use Rattle.std.proofs.Common.{ℕ, ◌≡◌, List, [], ◌∷◌, ◌++◌, None, refl, sym, ◌∙◌, ap, subst, append_assoc, append-nil}
use Rattle.std.proofs.Common.{◌+◌, ◌<◌, ◌≤◌, All, length, take, drop, set, arith, take-append-drop}
use Rattle.std.proofs.lemmas.List.{take_more_set, length-set}
use Rattle.std.proofs.lemmas.Str.{IsUtf8-nil, IsUtf8-append, IsUtf8-take, IsUtf8-past_char, IsCharBoundary-at_seam}
use Rattle.std.proofs.lemmas.Str.{IsCharBoundary-from_take}
use Rattle.std.proofs.lemmas.List.Elements.{All-head, All-tail}
use Rattle.std.proofs.lemmas.Str.{chars-nil, chars-append, chars_past_char}
use Rattle.std.proofs.Math.Seq.{take-append_seam}
use Rattle.std.specs.Str.{IsUtf8, IsCharBoundary, chars}
use Rattle.enc_model.proofs.Utf8Bytes.{ascii_chars, ascii_utf8}
use lib.Utf8.{encode}
use Rattle.enc_model.specs.declared.Encoding.{Encoding}
use Rattle.enc_model.specs.declared.Mode.{Mode}
use Rattle.enc_model.specs.Encode.{Shift, Encoder, Coded, Tables, code_of, coded, encoder}
use Rattle.enc_model.proofs.Coding.{coded_is}
use Rattle.enc_model.proofs.Transcoding.{coded_both}
use Rattle.enc_model.proofs.Steady.{encoder_steady}
use Rattle.enc_encode.specs.Singles.{AreSingles, IsSingleByte}
use Rattle.enc_encode.specs.Runs.{IsCoded, Stays, FirstGiven, AllGiven, RunPrefix}

-- ONE CHARACTER

pub char_own : (text rest : List ℕ) (c : ℕ) → IsUtf8 text → text ≡ encode c ++ rest → IsUtf8 (encode c)
char_own text rest c u parts =
    let prefix = encode c in
    let cut = IsUtf8-take text (length prefix) u
    (IsCharBoundary-at_seam text prefix rest parts (IsUtf8-past_char text rest c u parts)) in
    let same : take (length prefix) text ≡ prefix = ap (take (length prefix)) parts ∙ take-append_seam prefix rest in
    subst IsUtf8 same cut

pub char_one : (c : ℕ) → IsUtf8 (encode c) → chars (encode c) ≡ c ∷ []
char_one c own = chars_past_char (encode c) [] c own (sym (append-nil (encode c))) ∙ ap (λ z. c ∷ z) chars-nil

-- THE CODE OF SEVERAL

one_stays : (f : Encoder) (mode : Mode) (s : Shift) (c : ℕ) (b : List ℕ) → Stays f s c b → code_of f mode s c ≡ record {
  bytes = b;
  state = s;
  fault = None;
}
one_stays f mode s c b e = rw e refl

pub stays_coded : (t : Tables) (e : Encoding) (mode : Mode) (s : Shift) (c : ℕ) (b : List ℕ)
    → Stays (encoder t e) s c b → IsCoded t e mode s c b
stays_coded t e mode s c b h =
    coded_is (encoder t e) (encoder_steady t e) mode s (c ∷ [])
    ∙ rw (one_stays (encoder t e) mode s c b h, append-nil) refl

pub coded_run : (t : Tables) (e : Encoding) (mode : Mode) (s : Shift) (cs bytes : List ℕ)
    → AllGiven (IsCoded t e mode s) cs bytes →
    coded (encoder t e) mode s cs ≡ record { bytes = bytes; state = s; fault = None }
coded_run t e mode s [] bytes p =
    coded_is (encoder t e) (encoder_steady t e) mode s [] ∙ rw p refl
coded_run t e mode s (c ∷ cs) bytes p =
    let h : coded (encoder t e) mode s (c ∷ []) ≡ record { bytes = p.0; state = s; fault = None } = p.3 in
    coded_both (encoder t e) (encoder_steady t e) mode s (c ∷ []) cs (ap (λ (r : Coded). r.fault) h)
    ∙ rw (h, coded_run t e mode s cs p.1 p.4, p.2) refl

-- A PREFIX

all_weaker : (gives are : ℕ → List ℕ → Type 0) → ((c : ℕ) (b : List ℕ) → gives c b → are c b) → (cs bytes : List ℕ)
    → AllGiven gives cs bytes → AllGiven are cs bytes
all_weaker gives are h [] bytes p = p
all_weaker gives are h (c ∷ cs) bytes p = (p.0, p.1, p.2, h c p.0 p.3, all_weaker gives are h cs p.1 p.4)

-- what holds of each character's bytes
pub run_weaker : (gives are : ℕ → List ℕ → Type 0) (text rest held new : List ℕ)
    → ((c : ℕ) (b : List ℕ) → gives c b → are c b) → RunPrefix gives text rest held new →
    RunPrefix are text rest held new
run_weaker gives are text rest held new h p = record {
  prefix = p.prefix;
  bytes = p.bytes;
  parts = p.parts;
  own = p.own;
  grown = p.grown;
  given = all_weaker gives are h (chars p.prefix) p.bytes p.given;
}

-- what a single-byte encoding has
pub singles_coded : (t : Tables) (e : Encoding) (mode : Mode) (s : Shift) (at : List ℕ) → AreSingles (encoder t e) at
    → (text rest held new : List ℕ) → RunPrefix (IsSingleByte at) text rest held new
    → RunPrefix (IsCoded t e mode s) text rest held new
singles_coded t e mode s at are text rest held new =
    run_weaker (IsSingleByte at) (IsCoded t e mode s) text rest held new
    (λ c b h. stays_coded t e mode s c b (are s c b h))

-- what an encoder writes in its state
pub stays_run : (t : Tables) (e : Encoding) (mode : Mode) (s : Shift) (text rest held new : List ℕ)
    → RunPrefix (Stays (encoder t e) s) text rest held new → RunPrefix (IsCoded t e mode s) text rest held new
stays_run t e mode s text rest held new =
    run_weaker (Stays (encoder t e) s) (IsCoded t e mode s) text rest held new (stays_coded t e mode s)

-- no character yet
pub run_none : (gives : ℕ → List ℕ → Type 0) (text held still_held : List ℕ) → still_held ≡ held
    → RunPrefix gives text text held still_held
run_none gives text held still_held e = record {
  prefix = [];
  bytes = [];
  parts = refl;
  own = IsUtf8-nil;
  grown = e ∙ sym (append-nil held);
  given = subst (λ z. AllGiven gives z []) (sym chars-nil) refl;
}

-- two more items after the first ones
pub take_two_set : (xs : List ℕ) (n a b : ℕ) → n + 1 < length xs
    → take (n + 2) (set (set xs n a) (n + 1) b) ≡ take n xs ++ a ∷ b ∷ []
take_two_set xs n a b l =
    let ys = set xs n a in
    let long = length-set xs n a in
    let more : n + 2 ≡ n + 1 + 1 = omega arith in
    ap (λ k. take k (set ys (n + 1) b)) more
    ∙ take_more_set ys (n + 1) b (omega (arith, long, l))
    ∙ ap (λ z. z ++ b ∷ []) (take_more_set xs n a (omega (arith, l)))
    ∙ append_assoc (take n xs) (a ∷ []) (b ∷ [])

-- SEVERAL AT ONCE

all_both : (gives : ℕ → List ℕ → Type 0) (xs ys a b : List ℕ) → AllGiven gives xs a → AllGiven gives ys b
    → AllGiven gives (xs ++ ys) (a ++ b)
all_both gives [] ys a b p q = subst (λ z. AllGiven gives ys (z ++ b)) (sym p) q
all_both gives (x ∷ xs) ys a b p q = (
  p.0,
  p.1 ++ b,
  ap (λ z. z ++ b) p.2 ∙ append_assoc p.0 p.1 b,
  p.3,
  all_both gives xs ys p.1 b p.4 q,
)

all_ascii : (gives : ℕ → List ℕ → Type 0) → ((c : ℕ) → c < 128 → gives c (c ∷ [])) → (cs : List ℕ)
    → All (λ c. c < 128) cs → AllGiven gives cs cs
all_ascii gives as_is [] a = refl
all_ascii gives as_is (c ∷ cs) a = (
  c ∷ [],
  cs,
  refl,
  as_is c (All-head (λ c. c < 128) c cs a),
  all_ascii gives as_is cs (All-tail (λ c. c < 128) c cs a),
)

-- one prefix after another
pub run_both : (gives : ℕ → List ℕ → Type 0) (text rest left held still_held new : List ℕ)
    → RunPrefix gives text rest held
    still_held
    → RunPrefix gives rest left still_held new → RunPrefix gives text left held new
run_both gives text rest left held still_held new p q = record {
  prefix = p.prefix ++ q.prefix;
  bytes = p.bytes ++ q.bytes;
  parts = p.parts ∙ ap (λ z. p.prefix ++ z) q.parts ∙ sym (append_assoc p.prefix q.prefix left);
  own = IsUtf8-append p.prefix q.prefix p.own q.own;
  grown = q.grown ∙ ap (λ z. z ++ q.bytes) p.grown ∙ append_assoc held p.bytes q.bytes;
  given = subst (λ z. AllGiven gives z (p.bytes ++ q.bytes)) (sym (chars-append p.prefix q.prefix p.own))
      (all_both gives (chars p.prefix) (chars q.prefix) p.bytes q.bytes p.given q.given);
}

-- one character more
pub run_more : (gives : ℕ → List ℕ → Type 0) (text rest left held still_held new b : List ℕ) → IsUtf8 rest
    → RunPrefix gives text rest held still_held → FirstGiven gives rest b left → new ≡ still_held ++ b
    → RunPrefix gives text left held new
run_more gives text rest left held still_held new b u p q e =
    let own = char_own rest left q.c u q.parts in
    run_both gives text rest left held still_held new p (record {
      prefix = encode q.c;
      bytes = b;
      parts = q.parts;
      own = own;
      grown = e;
      given = subst (λ z. AllGiven gives z b) (sym (char_one q.c own)) (b, [], sym (append-nil b), q.given, refl);
    })

-- ASCII that is written as it is
pub run_ascii : (gives : ℕ → List ℕ → Type 0) → ((c : ℕ) → c < 128 → gives c (c ∷ [])) → (text : List ℕ) (n : ℕ)
    (held new : List ℕ) → All (λ b. b < 128) (take n text) → new ≡ held ++ take n text
    → RunPrefix gives text (drop n text) held new
run_ascii gives as_is text n held new a e = record {
  prefix = take n text;
  bytes = take n text;
  parts = sym (take-append-drop n text);
  own = ascii_utf8 (take n text) a;
  grown = e;
  given = subst (λ z. AllGiven gives z (take n text)) (sym (ascii_chars (take n text) a))
      (all_ascii gives as_is (take n text) a);
}

-- a text may be cut after ASCII
pub ascii_cut : (text : List ℕ) (n : ℕ) → IsUtf8 text → n ≤ length text → All (λ b. b < 128) (take n text)
    → IsCharBoundary text n
ascii_cut text n u l a = IsCharBoundary-from_take text n u l (ascii_utf8 (take n text) a)
