-- What holds of every steady encoder: it goes code point by code point, and so in any cut.
use Rattle.std.proofs.Common.{ℕ, zero, suc, ◌+◌, ◌*◌, ◌<◌, ◌≤◌, ◌≡◌, true, false, List, [], ◌∷◌, ◌++◌, Option, Some}
use Rattle.std.proofs.Common.{None, length, refl, sym, ◌∙◌, ap, arith, append_assoc, length-append, lit≤, lit<, ◌/◌}
use Rattle.std.proofs.Common.{◌%◌, ◌==◌, if◌then◌else◌}
use Rattle.std.specs.Fmt.{decimal, digits, digits_onto, digit_glyph}
use Rattle.enc_model.specs.declared.Mode.{Mode}
use Rattle.enc_model.specs.declared.Mode.TheVariants.{Html, Fatal}
use Rattle.enc_model.specs.Encode.{Shift, Written, Wrote, Restore, Unmappable, Encoder, Coded, led_by, went, reference}
use Rattle.enc_model.specs.Encode.{coded_within, coded, joined_code, all_codes, after_written, settled, code_within}
use Rattle.enc_model.specs.Encode.{plain_code, code_of, IsWrote, IsNoRestore, IsSteadyEncoder}

led_by_led_by : (x y : List ℕ) (r : Coded) → led_by x (led_by y r) ≡ led_by (x ++ y) r
led_by_led_by x y r = simp append_assoc

pub joined_after : (x : List ℕ) (r : Coded) (m : Shift → Coded)
    → joined_code (led_by x r) m ≡ led_by x (joined_code r m)
joined_after x r m =
    elim r.fault as (λ z.
    elim z as (λ _. Coded) [ None ↦ led_by (x ++ r.bytes) (m r.state) | Some d ↦ led_by x r ]
    ≡ led_by x (elim z as (λ _. Coded) [ None ↦ led_by r.bytes (m r.state) | Some d ↦ r ]))
    [ None ↦ sym (led_by_led_by x r.bytes (m r.state)) | Some d ↦ refl ]

joined_joined : (r : Coded) (m n : Shift → Coded) → joined_code (joined_code r m) n ≡ joined_code r
    (λ s. joined_code (m s) n)
joined_joined r m n = go r.fault refl
  where
    go : (z : Option ℕ) → r.fault ≡ z → joined_code (joined_code r m) n ≡ joined_code r (λ s. joined_code (m s) n)
    go None e = rw e (joined_after r.bytes (m r.state) n)
    go (Some d) e = rw e refl

pub joined_more : (r : Coded) (m n : Shift → Coded) → ((s : Shift) → m s ≡ n s) → joined_code r m ≡ joined_code r n
joined_more r m n e = go r.fault refl
  where
    go : (z : Option ℕ) → r.fault ≡ z → joined_code r m ≡ joined_code r n
    go None h = rw h (ap (led_by r.bytes) (e r.state))
    go (Some d) h = rw h refl

pub all_codes_append : (g : Shift → ℕ → Coded) (s : Shift) (a b : List ℕ) →
    all_codes g s (a ++ b) ≡ joined_code (all_codes g s a) (λ next. all_codes g next b)
all_codes_append g s [] b = refl
all_codes_append g s (c ∷ a) b =
    let r = g s c in
    joined_more r (λ next. all_codes g next (a ++ b)) (λ next. joined_code (all_codes g next a) (λ z. all_codes g z b))
    (λ next. all_codes_append g next a b)
    ∙ sym (joined_joined r (λ next. all_codes g next a) (λ next. all_codes g next b))

-- A CODE POINT'S OWN

pub code_after : (mode : Mode) (go : Shift → List ℕ → Coded) (x : List ℕ) (w : Written) →
    code_within mode go (after_written x w) ≡ led_by x (code_within mode go w)
code_after mode go x (Wrote b s) = refl
code_after mode go x (Restore b s) = refl
code_after Html go x (Unmappable b s d) = sym (led_by_led_by x b (go s (reference d)))
code_after Fatal go x (Unmappable b s d) = refl

no_restore_after : (x : List ℕ) (w : Written) → IsNoRestore (after_written x w) → IsNoRestore w
no_restore_after x (Wrote b s) n = tt
no_restore_after x (Restore b s) n = n
no_restore_after x (Unmappable b s d) n = tt

wrote_after : (x : List ℕ) (w : Written) → IsWrote (after_written x w) → IsWrote w
wrote_after x (Wrote b s) n = tt
wrote_after x (Restore b s) n = n
wrote_after x (Unmappable b s d) n = n

-- characters that are never an error
abbrev pub ArePlain : List ℕ → Type 0
ArePlain [] = Unit {0}
ArePlain (c ∷ cs) = (0x20 ≤ c) × (c < 0x5C) × ArePlain cs

glyph_plain : (n : ℕ) → (0x20 ≤ digit_glyph false (n % 10)) × (digit_glyph false (n % 10) < 0x5C)
glyph_plain n = grind arith

digits_plain : (k n : ℕ) (acc : List ℕ) → ArePlain acc → ArePlain (digits_onto k 10 false n acc)
digits_plain zero n acc p = p
digits_plain (suc k) n acc p =
    let g = glyph_plain n in
    let d = digit_glyph false (n % 10) in
    elim (n / 10 == 0) as (λ v. ArePlain (if v then d ∷ acc else digits_onto k 10 false (n / 10) (d ∷ acc)))
    [ true ↦ (g.0, g.1, p) | false ↦ digits_plain k (n / 10) (d ∷ acc) (g.0, g.1, p) ]

digits_short : (k n : ℕ) (acc : List ℕ) → length (digits_onto k 10 false n acc) ≤ k + length acc
digits_short zero n acc = omega arith
digits_short (suc k) n acc =
    let d = digit_glyph false (n % 10) in
    let ih = digits_short k (n / 10) (d ∷ acc) in
    elim (n / 10 == 0) as (λ v. length (if v then d ∷ acc else digits_onto k 10 false (n / 10) (d ∷ acc)) ≤ suc
    k + length acc)
    [ true ↦ omega arith | false ↦ omega (arith, ih) ]

plain_append : (a b : List ℕ) → ArePlain a → ArePlain b → ArePlain (a ++ b)
plain_append [] b p q = q
plain_append (c ∷ a) b p q = (p.0, p.1, plain_append a b p.2 q)

pub reference_plain : (d : ℕ) → ArePlain (reference d)
unfolding digits
reference_plain d = (
  lit≤ tt,
  lit< tt,
  (lit≤ tt, lit< tt, plain_append (decimal d) (0x3B ∷ []) (digits_plain 64 d [] tt) (lit≤ tt, lit< tt, tt)),
)

reference_short : (d : ℕ) → length (reference d) ≤ 67
unfolding digits
reference_short d = let h = digits_short 64 d [] in let e = length-append (decimal d) (0x3B ∷ []) in omega (arith, h, e)

module _ (f : Encoder) (steady : IsSteadyEncoder f) (mode : Mode) where
  one_fault : (w : Written)
      → (code_within Html (λ next cs. record { bytes = []; state = next; fault = None }) w).fault ≡ None
  one_fault (Wrote b s) = refl
  one_fault (Restore b s) = refl
  one_fault (Unmappable b s d) = refl

  joined_none : (r : Coded) (m : Shift → Coded) → r.fault ≡ None → joined_code r m ≡ led_by r.bytes (m r.state)
  joined_none r m e = rw e refl

  plain_fault : (r : List ℕ) (s : Shift) → (all_codes (plain_code f) s r).fault ≡ None
  plain_fault [] s = refl
  plain_fault (c ∷ r) s =
      let one = plain_code f s c in
      ap (λ z. z.fault) (joined_none one (λ next. all_codes (plain_code f) next r) (one_fault (settled f c (f s c))))
      ∙ plain_fault r one.state

  -- one of them
  plain_wrote : (c : ℕ) (r cs : List ℕ) (prefix : List ℕ) (v : Written) (j : ℕ) (x : Coded) → IsWrote v →
      ((s : Shift) → ((m : ℕ) → j ≤ m + 2 * length r → coded_within m f mode (all_codes (plain_code f) s r).state
      cs ≡ x) →
      coded_within j f mode s (r ++ cs) ≡ led_by (all_codes (plain_code f) s r).bytes x) →
      ((m : ℕ) → j ≤ m + 2 * length r →
      coded_within m f mode (joined_code
      (code_within Html (λ next z. record { bytes = []; state = next; fault = None }) (after_written prefix v))
      (λ next. all_codes (plain_code f) next r)).state cs ≡ x) →
      led_by prefix (went mode (coded_within j f mode) c (r ++ cs) v)
      ≡ led_by (joined_code (code_within Html (λ next z. record { bytes = []; state = next; fault = None })
      (after_written prefix v)) (λ next. all_codes (plain_code f) next r)).bytes x
  plain_wrote c r cs prefix (Wrote b s) j x w ih h =
      let rest = all_codes (plain_code f) s r in
      led_by_led_by prefix b (coded_within j f mode s (r ++ cs)) ∙ ap (led_by (prefix ++ b)) (ih s h)
      ∙ led_by_led_by (prefix ++ b) rest.bytes x
  plain_wrote c r cs prefix (Restore b s) j x w ih h = absurd w
  plain_wrote c r cs prefix (Unmappable b s d) j x w ih h = absurd w

  plain_case : (c : ℕ) (r cs : List ℕ) (w : Written) (i : ℕ) (x : Coded) → IsWrote (settled f c w) → 2 * length r ≤ i →
      ((j : ℕ) (s : Shift) → 2 * length r ≤ j
      → ((m : ℕ) → j ≤ m + 2 * length r → coded_within m f mode (all_codes (plain_code f) s r).state cs ≡ x) →
      coded_within j f mode s (r ++ cs) ≡ led_by (all_codes (plain_code f) s r).bytes x) →
      ((m : ℕ) → suc i ≤ m + 2 * length r + 1 →
      coded_within m f mode (joined_code
      (code_within Html (λ next z. record { bytes = []; state = next; fault = None }) (settled f c w))
      (λ next. all_codes (plain_code f) next r)).state cs ≡ x) →
      went mode (coded_within (suc i) f mode) c (r ++ cs) w
      ≡ led_by (joined_code (code_within Html (λ next z. record { bytes = []; state = next; fault = None })
      (settled f c w))
      (λ next. all_codes (plain_code f) next r)).bytes x
  unfolding coded_within
  plain_case c r cs (Wrote b s) i x w l ih h =
      plain_wrote c r cs [] (Wrote b s) (suc i) x tt (λ s z. ih (suc i) s (omega arith) z)
      (λ m k. h m (omega (arith, k)))
  plain_case c r cs (Restore b s) i x w l ih h =
      plain_wrote c r cs b (f s c) i x (wrote_after b (f s c) w) (λ s z. ih i s l z) (λ m k. h m (omega (arith, k)))
  plain_case c r cs (Unmappable b s d) i x w l ih h = absurd w

  -- a run of them
  plain_run : (r : List ℕ) (s : Shift) (cs : List ℕ) (n : ℕ) (x : Coded) → ArePlain r → 2 * length r ≤ n →
      ((m : ℕ) → n ≤ m + 2 * length r → coded_within m f mode (all_codes (plain_code f) s r).state cs ≡ x) →
      coded_within n f mode s (r ++ cs) ≡ led_by (all_codes (plain_code f) s r).bytes x
  unfolding coded_within
  plain_run [] s cs n x p l h = h n (omega arith)
  plain_run (c ∷ r) s cs zero x p l h = absurd (omega arith)
  plain_run (c ∷ r) s cs (suc zero) x p l h = absurd (omega arith)
  plain_run (c ∷ r) s cs (suc (suc i)) x p l h =
      plain_case c r cs (f s c) i x (steady.ascii s c p.0 p.1) (omega arith) (λ j z q k. plain_run r z cs j x p.2 q k)
      (λ m k. h m (omega (arith, k)))

  -- a reference, and then the rest
  reference_run : (d : ℕ) (s : Shift) (cs : List ℕ) (n : ℕ) → 134 + 136 * length cs ≤ n →
      ((z : Shift) (m : ℕ) → 136 * length cs ≤ m → coded_within m f mode z cs ≡ all_codes (code_of f mode) z cs) →
      coded_within n f mode s (reference d ++ cs)
      ≡ joined_code (all_codes (plain_code f) s (reference d)) (λ next. all_codes (code_of f mode) next cs)
  reference_run d s cs n l ih =
      let r = all_codes (plain_code f) s (reference d) in
      let short = reference_short d in
      plain_run (reference d) s cs n (all_codes (code_of f mode) r.state cs) (reference_plain d) (omega (arith, short))
      (λ m k. ih r.state m (omega (arith, k, short)))
      ∙ sym (joined_none r (λ next. all_codes (code_of f mode) next cs) (plain_fault (reference d) s))

  own_case : (c : ℕ) (cs : List ℕ) (w : Written) (n : ℕ) → IsNoRestore w → 134 + 136 * length cs ≤ n →
      ((z : Shift) (m : ℕ) → 136 * length cs ≤ m → coded_within m f mode z cs ≡ all_codes (code_of f mode) z cs) →
      went mode (coded_within n f mode) c cs w
      ≡ joined_code (code_within mode (all_codes (plain_code f)) w) (λ next. all_codes (code_of f mode) next cs)
  own_case c cs (Wrote b s) n a l ih = ap (led_by b) (ih s n (omega arith))
  own_case c cs (Restore b s) n a l ih = absurd a
  own_case c cs (Unmappable b s d) n a l ih =
      elim mode as (λ y. went y (coded_within n f mode) c cs (Unmappable b s d) ≡ joined_code
      (code_within y (all_codes (plain_code f)) (Unmappable b s d)) (λ next. all_codes (code_of f mode) next cs)) [
        | Html ↦
            let r = all_codes (plain_code f) s (reference d) in
            ap (led_by b) (reference_run d s cs n l ih) ∙ sym
            (joined_after b r (λ next. all_codes (code_of f mode) next cs))
        | Fatal ↦ refl
      ]

  code_case : (c : ℕ) (cs : List ℕ) (w : Written) (n : ℕ) → IsNoRestore (settled f c w) → 135 + 136 * length cs ≤ n →
      ((z : Shift) (m : ℕ) → 136 * length cs ≤ m → coded_within m f mode z cs ≡ all_codes (code_of f mode) z cs) →
      went mode (coded_within n f mode) c cs w
      ≡ joined_code (code_within mode (all_codes (plain_code f)) (settled f c w))
      (λ next. all_codes (code_of f mode) next cs)
  unfolding coded_within
  code_case c cs (Wrote b s) n a l ih = own_case c cs (Wrote b s) n tt (omega arith) ih
  code_case c cs (Unmappable b s d) n a l ih = own_case c cs (Unmappable b s d) n tt (omega arith) ih
  code_case c cs (Restore b s) zero a l ih = absurd (omega arith)
  code_case c cs (Restore b s) (suc i) a l ih =
      let w = f s c in
      let more = λ (next : Shift). all_codes (code_of f mode) next cs in
      ap (led_by b) (own_case c cs w i (no_restore_after b w a) (omega arith) ih)
      ∙ sym (joined_after b (code_within mode (all_codes (plain_code f)) w) more)
      ∙ ap (λ r. joined_code r more) (sym (code_after mode (all_codes (plain_code f)) b w))

  main_run : (cs : List ℕ) (s : Shift) (n : ℕ) → 136 * length cs ≤ n → coded_within n f mode s cs ≡ all_codes
      (code_of f mode) s cs
  unfolding coded_within
  main_run [] s zero l = refl
  main_run [] s (suc n) l = refl
  main_run (c ∷ cs) s zero l = absurd (omega arith)
  main_run (c ∷ cs) s (suc n) l = code_case c cs (f s c) n (steady.once s c) (omega arith) (λ z m k. main_run cs z m k)

  pub coded_is : (s : Shift) (cs : List ℕ) → coded f mode s cs ≡ all_codes (code_of f mode) s cs
  unfolding coded
  coded_is s cs = main_run cs s (136 * length cs) (omega arith)

  -- THE LAW: the code of a ++ b is that of a, and where it has no fault then that of b.
  pub coded_append : (s : Shift) (a b : List ℕ) → coded f mode s (a ++ b) ≡ joined_code (coded f mode s a)
      (λ next. coded f mode next b)
  coded_append s a b =
      coded_is s (a ++ b)
      ∙ all_codes_append (code_of f mode) s a b
      ∙ joined_more (all_codes (code_of f mode) s a) (λ next. all_codes (code_of f mode) next b)
      (λ next. coded f mode next b) (λ next. sym (coded_is next b))
      ∙ ap (λ r. joined_code r (λ next. coded f mode next b)) (sym (coded_is s a))
