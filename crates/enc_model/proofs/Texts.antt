-- Well-formed UTF-8, read from a character's start, gives its characters.
use Rattle.std.proofs.Common.{ℕ, ◌+◌, ◌-◌, ◌*◌, ◌/◌, ◌%◌, ◌<◌, ◌≤◌, ◌≡◌, ◌⊎◌, inl, inr, Bool, true, false, ◌==◌}
use Rattle.std.proofs.Common.{if◌then◌else◌, cond, List, [], ◌∷◌, ◌++◌, Some, refl, sym, ◌∙◌, ap, subst, arith}
use Rattle.std.proofs.lemmas.Bool.Decides.{nat_tests}
use Rattle.std.proofs.lemmas.Bool.{and_parts}
use Rattle.std.proofs.lemmas.Str.{chars-encodes}
use Rattle.std.specs.Str.{IsUtf8, chars}
use lib.Utf8.{encode, encodes, scalar, scalars, next}
use lib.Dec.{T, ltb, ltb→lt}
use Rattle.enc_model.specs.declared.Answer.TheVariants.{Point, Nothing}
use Rattle.enc_model.specs.Stream.{DecoderRun, text_then, steps, all_bytes, byte_run}
use Rattle.enc_model.specs.Utf8.{Utf8, utf8, utf8_start}
use Rattle.enc_model.proofs.Steps.{steps_bytes, bytes_append}
use Rattle.enc_model.proofs.Calm.{utf8_calm}

-- a state between characters, or within one
abbrev within_one : ℕ → ℕ → ℕ → ℕ → List ℕ → Utf8
within_one needed lower upper point partial = record {
  needed = needed;
  lower = lower;
  upper = upper;
  point = point;
  partial = partial;
}

goes : (s next : Utf8) (b : ℕ) (bs : List ℕ) → utf8 s (Some b) ≡ record {
  state = next;
  answer = Nothing;
  restored = [];
} →
    all_bytes (byte_run utf8) s (b ∷ bs) ≡ all_bytes (byte_run utf8) next bs
goes s next b bs e = rw e refl

ends : (s next : Utf8) (b c : ℕ) → utf8 s (Some b) ≡ record { state = next; answer = Point c; restored = [] } →
    all_bytes (byte_run utf8) s (b ∷ []) ≡ record { text = c ∷ []; state = next }
ends s next b c e = rw e refl

one : (c : ℕ) → c < 128 → utf8 utf8_start (Some c) ≡ record { state = utf8_start; answer = Point c; restored = [] }
unfolding utf8
one c l = grind (arith, nat_tests)

lead_two : (x : ℕ) → 2 ≤ x → x < 32 → utf8 utf8_start (Some (192 + x)) ≡ record {
  state = within_one 1 0x80 0xBF x ((192 + x) ∷ []);
  answer = Nothing;
  restored = [];
}
unfolding utf8
lead_two x l h = grind (arith, nat_tests)

lead_three : (x : ℕ) → x < 16 →
    utf8 utf8_start (Some (224 + x))
    ≡ record {
      state = within_one 2 (if (224 + x) == 0xE0 then 0xA0 else 0x80) (if (224 + x) == 0xED then 0x9F else 0xBF) x
          ((224 + x) ∷ []);
      answer = Nothing;
      restored = [];
    }
unfolding utf8
lead_three x h = grind (arith, nat_tests)

second_of_three : (x y : ℕ) → y < 64 → 32 ≤ x * 64 + y → (x * 64 + y < 864) ⊎ (896 ≤ x * 64 + y) →
    ((if (224 + x) == 0xE0 then 0xA0 else 0x80) ≤ 128 + y) × (128 + y ≤ (if (224 + x) == 0xED then 0x9F else 0xBF))
second_of_three x y l a b = grind (arith, nat_tests)

lead_four : (x : ℕ) → x < 5 →
    utf8 utf8_start (Some (240 + x))
    ≡ record {
      state = within_one 3 (if (240 + x) == 0xF0 then 0x90 else 0x80) (if (240 + x) == 0xF4 then 0x8F else 0xBF) x
          ((240 + x) ∷ []);
      answer = Nothing;
      restored = [];
    }
unfolding utf8
lead_four x h = grind (arith, nat_tests)

second_of_four : (x y : ℕ) → y < 64 → 16 ≤ x * 64 + y → x * 64 + y < 272 →
    ((if (240 + x) == 0xF0 then 0x90 else 0x80) ≤ 128 + y) × (128 + y ≤ (if (240 + x) == 0xF4 then 0x8F else 0xBF))
second_of_four x y l a b = grind (arith, nat_tests)

more : (needed low high p y : ℕ) (partial : List ℕ) → 2 ≤ needed → low ≤ 128 + y → 128 + y ≤ high →
    utf8 (within_one needed low high p partial) (Some (128 + y))
    ≡ record {
      state = within_one (needed - 1) 0x80 0xBF (p * 64 + y) (partial ++ (128 + y) ∷ []);
      answer = Nothing;
      restored = [];
    }
unfolding utf8
more needed low high p y partial n l h = grind (arith, nat_tests)

last : (low high p y : ℕ) (partial : List ℕ) → low ≤ 128 + y → 128 + y ≤ high →
    utf8 (within_one 1 low high p partial) (Some (128 + y)) ≡ record {
      state = utf8_start;
      answer = Point (p * 64 + y);
      restored = [];
    }
unfolding utf8
last low high p y partial l h = grind (arith, nat_tests)

-- the number that a character's parts make, and the next part
two_parts : (c : ℕ) → c / 64 * 64 + c % 64 ≡ c
two_parts c = omega arith

three_parts : (c : ℕ) → c / 4096 * 64 + c / 64 % 64 ≡ c / 64
three_parts c = omega arith

four_parts : (c : ℕ) → c / 262144 * 64 + c / 4096 % 64 ≡ c / 4096
four_parts c = omega arith

-- one character
two : (c : ℕ) → 128 ≤ c → c < 2048 → all_bytes (byte_run utf8) utf8_start ((192 + c / 64) ∷ (128 + c % 64) ∷ [])
    ≡ record {
      text = c ∷ [];
      state = utf8_start;
    }
two c l h =
    goes utf8_start _ (192 + c / 64) ((128 + c % 64) ∷ []) (lead_two (c / 64) (omega arith) (omega arith))
    ∙ ends _ utf8_start (128 + c % 64) (c / 64 * 64 + c % 64)
    (last 0x80 0xBF (c / 64) (c % 64) ((192 + c / 64) ∷ []) (omega arith) (omega arith))
    ∙ ap (λ z. record { text = z ∷ []; state = utf8_start }) (two_parts c)

three : (c : ℕ) → 2048 ≤ c → c < 65536 → (c < 55296) ⊎ (57344 ≤ c) →
    all_bytes (byte_run utf8) utf8_start ((224 + c / 4096) ∷ (128 + c / 64 % 64) ∷ (128 + c % 64) ∷ []) ≡ record {
      text = c ∷ [];
      state = utf8_start;
    }
three c l h out =
    let x = c / 4096 in
    let y = c / 64 % 64 in
    let low : ℕ = if (224 + x) == 0xE0 then 0xA0 else 0x80 in
    let high : ℕ = if (224 + x) == 0xED then 0x9F else 0xBF in
    let partial = (224 + x) ∷ [] in
    let s = second_of_three x y (omega arith) (omega arith) (parts out) in
    goes utf8_start (within_one 2 low high x partial) (224 + x) ((128 + y) ∷ (128 + c % 64) ∷ [])
    (lead_three x (omega arith))
    ∙ goes (within_one 2 low high x partial) (within_one 1 0x80 0xBF (x * 64 + y) (partial ++ (128 + y) ∷ [])) (128 + y)
    ((128 + c % 64) ∷ []) (more 2 low high x y partial (omega arith) s.0 s.1)
    ∙ ends (within_one 1 0x80 0xBF (x * 64 + y) (partial ++ (128 + y) ∷ [])) utf8_start (128 + c % 64)
    ((x * 64 + y) * 64 + c % 64)
    (last 0x80 0xBF (x * 64 + y) (c % 64) (partial ++ (128 + y) ∷ []) (omega arith) (omega arith))
    ∙ ap (λ z. record { text = z ∷ []; state = utf8_start }) (ap (λ z. z * 64 + c % 64) (three_parts c) ∙ two_parts c)
  where
    parts : (c < 55296) ⊎ (57344 ≤ c) → (c / 4096 * 64 + c / 64 % 64 < 864) ⊎ (896 ≤ c / 4096 * 64 + c / 64 % 64)
    parts (inl a) = inl (omega arith)
    parts (inr a) = inr (omega arith)

four : (c : ℕ) → 65536 ≤ c → c < 1114112 →
    all_bytes (byte_run utf8) utf8_start
    ((240 + c / 262144) ∷ (128 + c / 4096 % 64) ∷ (128 + c / 64 % 64) ∷ (128 + c % 64) ∷ []) ≡ record {
      text = c ∷ [];
      state = utf8_start;
    }
four c l h =
    let x = c / 262144 in
    let y = c / 4096 % 64 in
    let z = c / 64 % 64 in
    let low : ℕ = if (240 + x) == 0xF0 then 0x90 else 0x80 in
    let high : ℕ = if (240 + x) == 0xF4 then 0x8F else 0xBF in
    let partial = (240 + x) ∷ [] in
    let partial2 = partial ++ (128 + y) ∷ [] in
    let partial3 = partial2 ++ (128 + z) ∷ [] in
    let s = second_of_four x y (omega arith) (omega arith) (omega arith) in
    goes utf8_start (within_one 3 low high x partial) (240 + x) ((128 + y) ∷ (128 + z) ∷ (128 + c % 64) ∷ [])
    (lead_four x (omega arith))
    ∙ goes (within_one 3 low high x partial) (within_one 2 0x80 0xBF (x * 64 + y) partial2) (128 + y)
    ((128 + z) ∷ (128 + c % 64) ∷ []) (more 3 low high x y partial (omega arith) s.0 s.1)
    ∙ goes (within_one 2 0x80 0xBF (x * 64 + y) partial2) (within_one 1 0x80 0xBF ((x * 64 + y) * 64 + z) partial3)
    (128 + z)
    ((128 + c % 64) ∷ [])
    (more 2 0x80 0xBF (x * 64 + y) z partial2 (omega arith) (omega arith) (omega arith))
    ∙ ends (within_one 1 0x80 0xBF ((x * 64 + y) * 64 + z) partial3) utf8_start (128 + c % 64)
    (((x * 64 + y) * 64 + z) * 64 + c % 64)
    (last 0x80 0xBF ((x * 64 + y) * 64 + z) (c % 64) partial3 (omega arith) (omega arith))
    ∙ ap (λ w. record {
      text = w ∷ [];
      state = utf8_start;
    }) (ap (λ w. (w * 64 + z) * 64 + c % 64) (four_parts c) ∙ ap (λ w. w * 64 + c % 64) (three_parts c) ∙ two_parts c)

ltb_true : (a b : ℕ) → ltb a b ≡ true → a < b
ltb_true a b e = ltb→lt a b (subst T (sym e) tt)

ltb_false : (a b : ℕ) → ltb a b ≡ false → b ≤ a
ltb_false a b e = grind (arith, nat_tests)

no_surrogate : (c : ℕ) → scalar c ≡ true → (c < 55296) ⊎ (57344 ≤ c)
no_surrogate c is = grind (arith, nat_tests)

scalar_top : (c : ℕ) → scalar c ≡ true → c < 1114112
scalar_top c is = grind (arith, nat_tests)

pub one_char : (c : ℕ) → scalar c ≡ true → all_bytes (byte_run utf8) utf8_start (encode c) ≡ record {
  text = c ∷ [];
  state = utf8_start;
}
unfolding encode
one_char c is = go (ltb c 128) refl (ltb c 2048) refl (ltb c 65536) refl
  where
    go : (u : Bool) → ltb c 128 ≡ u → (v : Bool) → ltb c 2048 ≡ v → (w : Bool) → ltb c 65536 ≡ w →
        all_bytes (byte_run utf8) utf8_start
        (cond u (c ∷ []) (cond v ((192 + c / 64) ∷ next c ∷ [])
        (cond w ((224 + c / 4096) ∷ next (c / 64) ∷ next c ∷ [])
        ((240 + c / 262144) ∷ next (c / 4096) ∷ next (c / 64) ∷ next c ∷ []))))
        ≡ record { text = c ∷ []; state = utf8_start }
    go true a v b w d = ends utf8_start utf8_start c c (one c (ltb_true c 128 a))
    go false a true b w d = two c (ltb_false c 128 a) (ltb_true c 2048 b)
    go false a false b true d = three c (ltb_false c 2048 b) (ltb_true c 65536 d) (no_surrogate c is)
    go false a false b false d = four c (ltb_false c 65536 d) (scalar_top c is)

pub chars_run : (cs : List ℕ) → scalars cs ≡ true → all_bytes (byte_run utf8) utf8_start (encodes cs) ≡ record {
  text = cs;
  state = utf8_start;
}
chars_run [] is = refl
chars_run (c ∷ cs) is =
    let p = and_parts (scalar c) (scalars cs) is in
    bytes_append (byte_run utf8) utf8_start (encode c) (encodes cs)
    ∙ ap (λ (r : DecoderRun Utf8). text_then r.text (all_bytes (byte_run utf8) r.state (encodes cs))) (one_char c p.0)
    ∙ ap (text_then (c ∷ [])) (chars_run cs p.1)

-- WELL-FORMED BYTES give their characters, and end where they began.
pub utf8_text : (bs : List ℕ) → IsUtf8 bs → steps utf8 false utf8_start bs ≡ record {
  text = chars bs;
  state = utf8_start;
}
utf8_text bs u =
    steps_bytes utf8 utf8_calm utf8_start bs
    ∙ ap (all_bytes (byte_run utf8) utf8_start) (sym u.1.1)
    ∙ chars_run u.0 u.1.0
    ∙ ap (λ cs. record { text = cs; state = utf8_start }) (sym (chars-encodes u.0 u.1.0) ∙ ap chars u.1.1)
