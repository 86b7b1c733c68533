-- The decoder of UTF-8 reads back what the encoder wrote.
use Rattle.std.proofs.Common.{ℕ, zero, suc, ◌+◌, ◌-◌, ◌/◌, ◌%◌, ◌≤◌, ◌≡◌, Bool, true, List, [], ◌∷◌, ◌++◌, length, drop}
use Rattle.std.proofs.Common.{refl, sym, ◌∙◌, ap, arith, nat_lt, length-append}
use Rattle.std.specs.List.{concat}
use Rattle.std.proofs.Math.Seq.{drop-append_seam}
use Rattle.std.proofs.lemmas.List.Elements.{All-head, All-tail}
use Rattle.enc_model.specs.declared.Encoding.TheVariants as encodings
use Rattle.enc_model.specs.declared.Mode.{Mode}
use Rattle.enc_model.specs.Stream.{steps}
use Rattle.enc_model.specs.Utf8.{utf8, utf8_start}
use Rattle.enc_model.specs.Encode.{Tables, encode, utf8_bytes}
use Rattle.enc_index.specs.Scalars.{is_scalar}
use Rattle.enc_laws.specs.Subparts.{is_sequence, is_prefix, segments_within, segments, scalar_of, segments_text}
use Rattle.enc_laws.specs.WellFormed.{AreScalars}
use Rattle.enc_laws.proofs.Cutting.{not_open, scalar_whole, none_within, text_on, text_is}
use Rattle.enc_laws.proofs.Handlers.{branch}
use Rattle.enc_laws.proofs.Longest.{sequence_first}
use Rattle.enc_laws.proofs.Sequences.{written_sequence}
use Rattle.enc_laws.proofs.Texts.{written, encoded_is}

two_back : (c : ℕ) → scalar_of ((0xC0 + c / 64) ∷ (0x80 + c % 64) ∷ []) ≡ c
two_back c = omega arith

three_back : (c : ℕ) → scalar_of ((0xE0 + c / 4096) ∷ (0x80 + c / 64 % 64) ∷ (0x80 + c % 64) ∷ []) ≡ c
three_back c = omega arith

four_back : (c : ℕ) → scalar_of
    ((0xF0 + c / 262144) ∷ (0x80 + c / 4096 % 64) ∷ (0x80 + c / 64 % 64) ∷ (0x80 + c % 64) ∷ []) ≡ c
four_back c = omega arith

scalar_back : (c : ℕ) → scalar_of (utf8_bytes c) ≡ c
scalar_back c =
    branch (λ s. scalar_of s ≡ c) (nat_lt c 0x80) _ _ (λ e. refl)
    (λ e. branch (λ s. scalar_of s ≡ c) (nat_lt c 0x800) _ _ (λ f. two_back c)
    (λ f. branch (λ s. scalar_of s ≡ c) (nat_lt c 0x10000) _ _ (λ g. three_back c) (λ g. four_back c)))

sequence_on : (n : ℕ) (ended : Bool) (s rest : List ℕ) → is_sequence s ≡ true → length (s ++ rest) ≤ n →
    segments_text ended (segments_within n (s ++ rest)) ≡ scalar_of s ∷ segments_text ended
    (segments_within (n - 1) rest)
sequence_on n ended [] rest e l = absurd cc
sequence_on zero ended (b ∷ t) rest e l = absurd (omega arith)
sequence_on (suc n) ended (b ∷ t) rest e l =
    let fewer : length rest ≤ n = omega (arith, length-append t rest) in
    let same : suc n - 1 ≡ n = omega arith in
    ap (λ here. segments_text ended (here ∷ segments_within n (drop (length here) (b ∷ t ++ rest))))
    (sequence_first (b ∷ t) rest e)
    ∙ ap (λ z. segments_text ended ((b ∷ t) ∷ segments_within n z)) (drop-append_seam (b ∷ t) rest)
    ∙ text_on n ended (b ∷ t) rest fewer (λ r. not_open (is_prefix (b ∷ t)) (is_sequence (b ∷ t)) e)
    ∙ ap (λ c. c ∷ segments_text ended (segments_within n rest)) (scalar_whole (b ∷ t) e)
    ∙ ap (λ k. scalar_of (b ∷ t) ∷ segments_text ended (segments_within k rest)) (sym same)

some_byte : (s : List ℕ) → is_sequence s ≡ true → 1 ≤ length s
some_byte [] e = absurd cc
some_byte (b ∷ t) e = omega arith

back_within : (n : ℕ) (ended : Bool) (cs : List ℕ) → AreScalars cs → length (concat (written cs)) ≤ n →
    segments_text ended (segments_within n (concat (written cs))) ≡ cs
back_within n ended [] all l = ap (segments_text ended) (none_within n)
back_within n ended (c ∷ cs) all l =
    let s = utf8_bytes c in
    let rest = concat (written cs) in
    let e = written_sequence c (All-head (λ z. is_scalar z ≡ true) c cs all) in
    let fewer : length rest ≤ n - 1 = omega (arith, length-append s rest, some_byte s e) in
    sequence_on n ended s rest e l
    ∙ ap (λ z. z ∷ segments_text ended (segments_within (n - 1) rest)) (scalar_back c)
    ∙ ap (λ z. c ∷ z) (back_within (n - 1) ended cs (All-tail (λ z. is_scalar z ≡ true) c cs all) fewer)

pub reads_back : (t : Tables) (mode : Mode) (cs : List ℕ) (done ended : Bool) → AreScalars cs →
    (steps utf8 ended utf8_start (encode t encodings.Utf8 mode cs done).bytes).text ≡ cs
unfolding segments
reads_back t mode cs done ended all =
    ap (λ r. (steps utf8 ended utf8_start r.bytes).text) (encoded_is t mode cs done)
    ∙ text_is ended (concat (written cs))
    ∙ back_within (length (concat (written cs))) ended cs all (omega arith)
