-- Characters of UTF-8 that are cut, as the steps over their bytes and what follows.
use Rattle.std.proofs.Common.{ℕ, zero, suc, ◌+◌, ◌-◌, ◌*◌, ◌<◌, ◌≤◌, ◌≡◌, true, false, List, [], ◌∷◌, ◌++◌, Some, All}
use Rattle.std.proofs.Common.{refl, sym, ◌∙◌, ap, subst, take, drop, get_or, length, length-drop, arith}
use Rattle.std.proofs.lemmas.Bool.Decides.{nat_tests}
use Rattle.std.proofs.lemmas.List.{take_rest, length-take-le, get_or-take, drop-drop}
use Rattle.std.proofs.lemmas.List.Elements.{All-head, All-tail, All-from_get_or}
use Rattle.std.proofs.Math.Seq.{drop-cons, take-add}
use Rattle.enc_model.specs.Index.{within}
use Rattle.enc_model.specs.Stream.{text_then, steps}
use Rattle.enc_model.specs.Utf8.{Utf8, utf8, utf8_start, utf8_first}
use Rattle.enc_model.specs.declared.Answer.TheVariants.{Error, Nothing}
use Rattle.enc_model.proofs.Calm.{utf8_calm}
use Rattle.enc_model.proofs.Steps.{steps_cons, after_after}
use Rattle.enc_unicode.specs.Cuts.{AreCut, IsLead}

abbrev IsTrail : ℕ → Type 0
IsTrail b = within 0x80 0xBF b ≡ true

abbrev needs : ℕ → ℕ → List ℕ → Utf8
needs n point partial = record { needed = n; lower = 0x80; upper = 0xBF; point = point; partial = partial }

trail_step : (n p b : ℕ) (partial : List ℕ) → 2 ≤ n → IsTrail b → utf8 (needs n p partial) (Some b) ≡ record {
  state = needs (n - 1) (p * 64 + (b - 0x80)) (partial ++ b ∷ []);
  answer = Nothing;
  restored = [];
}
unfolding utf8
trail_step n p b partial l e = grind (arith, nat_tests, l, e)

cut_step : (s : Utf8) (b : ℕ) → 0 < s.needed → within s.lower s.upper b ≡ false → utf8 s (Some b) ≡ record {
  state = utf8_start;
  answer = Error;
  restored = b ∷ [];
}
unfolding utf8
cut_step s b l e = grind (arith, nat_tests, l, e)

trails_cut : (ts : List ℕ) (n p x : ℕ) (partial ys : List ℕ) → length ts < n → All IsTrail ts
    → within 0x80 0xBF x ≡ false → steps utf8 false (needs n p partial) (ts ++ x ∷ ys)
    ≡ text_then (0xFFFD ∷ []) (steps utf8 false utf8_start (x ∷ ys))
trails_cut [] n p x partial ys l a e =
    steps_cons utf8 utf8_calm false (needs n p partial) x ys
    ∙ (rw (cut_step (needs n p partial) x (omega (arith, l)) e) refl)
trails_cut (t ∷ ts) n p x partial ys l a e =
    let two : 2 ≤ n = omega (arith, l) in
    let less : length ts < n - 1 = omega (arith, l) in
    steps_cons utf8 utf8_calm false (needs n p partial) t (ts ++ x ∷ ys)
    ∙ (rw (trail_step n p t partial two (All-head IsTrail t ts a)) refl)
    ∙ trails_cut ts (n - 1) (p * 64 + (t - 0x80)) x (partial ++ t ∷ []) ys less (All-tail IsTrail t ts a) e

char_cut : (lead n x : ℕ) (ts ys : List ℕ) → IsLead lead n → length ts < n → All IsTrail ts
    → within 0x80 0xBF x ≡ false → steps utf8 false utf8_start (lead ∷ ts ++ x ∷ ys)
    ≡ text_then (0xFFFD ∷ []) (steps utf8 false utf8_start (x ∷ ys))
unfolding utf8
char_cut lead n x ts ys is l a e =
    steps_cons utf8 utf8_calm false utf8_start lead (ts ++ x ∷ ys) ∙ (rw is refl)
    ∙ trails_cut ts n (utf8_first lead).state.point x (lead ∷ []) ys l a e

-- a character at the start that is cut
pub one_cut : (bytes : List ℕ) (n t : ℕ) → IsLead (get_or bytes 0 0) n → t < n → 1 + t < length bytes
    → ((k : ℕ) → k < t → IsTrail (get_or (take (length bytes - 1) (drop 1 bytes)) k 0))
    → within 0x80 0xBF (get_or (take (length bytes - 1) (drop 1 bytes)) t 0) ≡ false → AreCut bytes (1 + t) (0xFFFD ∷
    [])
one_cut [] n t is l inside trails end k some = absurd (omega (arith, inside))
one_cut (lead ∷ rest) n t is l inside trails end zero some = absurd (omega (arith, some))
one_cut (lead ∷ rest) n t is l inside trails end (suc k) some =
    let x = get_or rest t 0 in
    let ys = take k (drop (suc t) rest) in
    let same : take (length (lead ∷ rest) - 1) (drop 1 (lead ∷ rest)) ≡ rest = take_rest (lead ∷ rest) 1 in
    let below : t < length rest = omega (arith, inside) in
    let later : take (suc k) (drop t rest) ≡ x ∷ ys = ap (take (suc k)) (drop-cons rest t 0 below) in
    let count : 1 + t + suc k ≡ suc (t + suc k) = omega arith in
    let begin : take (1 + t + suc k) (lead ∷ rest) ≡ lead ∷ take t rest ++ x ∷ ys =
    ap (λ j. take j (lead ∷ rest)) count
    ∙ ap (λ l. lead ∷ l) (take-add t (suc k) rest ∙ ap (λ l. take t rest ++ l) later) in
    let few : length (take t rest) ≡ t = length-take-le t rest (omega (arith, below)) in
    let all : All IsTrail (take t rest) = All-from_get_or IsTrail (take t rest) 0
    (λ j m. let inner : j < t = omega (arith, m, few) in
    subst IsTrail (sym (get_or-take t rest j 0 inner)) (subst (λ l. IsTrail (get_or l j 0)) same (trails j inner))) in
    let one : 1 + t ≡ suc t = omega arith in
    let tail : drop (1 + t) (lead ∷ rest) ≡ drop t rest = ap (λ j. drop j (lead ∷ rest)) one in
    ap (steps utf8 false utf8_start) begin
    ∙ char_cut lead n x (take t rest) ys is (omega (arith, few, l)) all
    (subst (λ l. within 0x80 0xBF (get_or l t 0) ≡ false) same end)
    ∙ ap (λ l. text_then (0xFFFD ∷ []) (steps utf8 false utf8_start l)) (sym (ap (take (suc k)) tail ∙ later))

-- places among the bytes after a place
pub rest_length : (bytes : List ℕ) (t : ℕ) → 1 + t < length bytes → t < length (take (length bytes - 1) (drop 1 bytes))
rest_length bytes t inside =
    let e : length (take (length bytes - 1) (drop 1 bytes)) ≡ length bytes - 1 = ap length (take_rest bytes 1)
    ∙ length-drop 1 bytes in
    omega (arith, e, inside)

pub rest_inside : (bytes : List ℕ) (at n : ℕ) → n < length (take (length bytes - at) (drop at bytes))
    → at + n < length bytes
rest_inside bytes at n inside =
    let e : length (take (length bytes - at) (drop at bytes)) ≡ length bytes - at = ap length (take_rest bytes at)
    ∙ length-drop at bytes in
    omega (arith, e, inside)

-- characters that are cut, and then more of them
pub more_cuts : (bytes rest : List ℕ) (n m : ℕ) (t u : List ℕ) → rest ≡ take (length bytes - n) (drop n bytes)
    → AreCut bytes n t → AreCut rest m u → AreCut bytes (n + m) (t ++ u)
more_cuts bytes rest n m t u is first then k some =
    let from = steps utf8 false utf8_start in
    let same : rest ≡ drop n bytes = is ∙ take_rest bytes n in
    let count : n + m + k ≡ n + (m + k) = omega arith in
    let left : drop m rest ≡ drop (n + m) bytes = ap (drop m) same ∙ drop-drop m n bytes in
    ap (λ j. from (take j bytes)) count ∙ first (m + k) (omega (arith, some))
    ∙ ap (λ l. text_then t (from (take (m + k) l))) (sym same) ∙ ap (text_then t) (then k some)
    ∙ after_after t u (from (take k (drop m rest))) ∙ ap (λ l. text_then (t ++ u) (from (take k l))) left

-- a byte that cuts the unfinished character is read from the start
pub unfinished_cut : (s : Utf8) (rest : List ℕ) (n : ℕ) → 0 < s.needed → 0 < n → 0 < length rest
    → within s.lower s.upper (get_or rest 0 0) ≡ false → steps utf8 false s (take n rest)
    ≡ text_then (0xFFFD ∷ []) (steps utf8 false utf8_start (take n rest))
unfinished_cut s [] n needed some inside out = absurd (omega (arith, inside))
unfinished_cut s (x ∷ rest) zero needed some inside out = absurd (omega (arith, some))
unfinished_cut s (x ∷ rest) (suc n) needed some inside out =
    steps_cons utf8 utf8_calm false s x (take n rest) ∙ (rw (cut_step s x needed out) refl)
