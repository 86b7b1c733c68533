-- How the decoder reads the bytes beyond a lead.
use Rattle.std.proofs.Common.{ℕ, suc, ◌+◌, ◌-◌, ◌*◌, ◌≤◌, ◌≡◌, Bool, true, false, List, [], ◌∷◌, ◌++◌, Some, None}
use Rattle.std.proofs.Common.{length, drop, refl, sym, ◌∙◌, ap, arith, if◌then◌else◌}
use Rattle.std.proofs.lemmas.Bool.Decides.{nat_tests}
use Rattle.enc_model.specs.Index.{within}
use Rattle.enc_model.specs.declared.Answer.TheVariants.{Point, Error, Nothing, Finished}
use Rattle.enc_model.specs.Stream.{HandlerStep, DecoderRun, points_of, text_then, steps, steps_within, all_bytes}
use Rattle.enc_model.specs.Stream.{quick, end_to}
use Rattle.enc_model.specs.Utf8.{Utf8, utf8, utf8_start}
use Rattle.enc_model.proofs.Calm.{utf8_calm}
use Rattle.enc_model.proofs.Steps.{steps_cons, steps_none, steps_end}
use Rattle.enc_laws.specs.Subparts.{Ranges, fills, scalar_of}
use Rattle.enc_laws.proofs.Leads.{Waits, mark_of}
use Rattle.enc_laws.proofs.Segments.{taken, taken_on, taken_stops, fills_on}

-- a byte, by what the handler gives
pub read_is : (ended : Bool) (s : Utf8) (b : ℕ) (bytes : List ℕ) (t : HandlerStep Utf8) → utf8 s (Some b) ≡ t →
    steps utf8 ended s (b ∷ bytes) ≡ text_then (points_of t.answer) (steps utf8 ended t.state (t.restored ++ bytes))
read_is ended s b bytes t e =
    steps_cons utf8 utf8_calm ended s b bytes ∙ ap
    (λ z. text_then (points_of z.answer) (steps utf8 ended z.state (z.restored ++ bytes))) e

-- on from a number by the bits of more bytes
abbrev pub value : ℕ → List ℕ → ℕ
value p [] = p
value p (c ∷ bytes) = value (p * 64 + (c - 0x80)) bytes

read_last : (s : Utf8) (c : ℕ) → s.needed ≡ 1 → within s.lower s.upper c ≡ true →
    utf8 s (Some c) ≡ record { state = utf8_start; answer = Point (s.point * 64 + (c - 0x80)); restored = [] }
unfolding utf8
read_last s c n w = grind (arith, nat_tests)

-- the state after a byte, where more than one is needed
abbrev next_of : Utf8 → ℕ → Utf8
next_of s c = record {
  needed = s.needed - 1;
  lower = 0x80;
  upper = 0xBF;
  point = s.point * 64 + (c - 0x80);
  partial = s.partial ++ c ∷ [];
}

read_more : (s : Utf8) (c k : ℕ) → s.needed ≡ suc (suc k) → within s.lower s.upper c ≡ true →
    utf8 s (Some c) ≡ record { state = next_of s c; answer = Nothing; restored = [] }
unfolding utf8
read_more s c k n w = grind (arith, nat_tests)

read_bad : (s : Utf8) (c k : ℕ) → s.needed ≡ suc k → within s.lower s.upper c ≡ false →
    utf8 s (Some c) ≡ record { state = utf8_start; answer = Error; restored = c ∷ [] }
unfolding utf8
read_bad s c k n w = grind (arith, nat_tests)

-- the end, where bytes are still needed
none_open : (s : Utf8) (k : ℕ) → s.needed ≡ suc k → utf8 s None ≡ record {
  state = utf8_start;
  answer = Error;
  restored = [];
}
unfolding utf8
none_open s k n = grind (arith, nat_tests)

end_open : (s : Utf8) (k : ℕ) → s.needed ≡ suc k → (steps utf8 true s []).text ≡ 0xFFFD ∷ []
unfolding utf8
end_open s k n =
    ap (λ run. run.text) (steps_end utf8 utf8_calm s)
    ∙ ap (λ t. (elim t.answer as (λ _. DecoderRun Utf8) [
      | Finished ↦ record { text = []; state = t.state }
      | _ ↦ let r = all_bytes (quick utf8) t.state t.restored in text_then (points_of t.answer ++ r.text)
          (end_to 3 utf8 r.state)
    ]).text) (none_open s k n)

pub end_start : (ended : Bool) → (steps utf8 ended utf8_start []).text ≡ []
unfolding steps steps_within utf8
end_start true = refl
end_start false = refl

-- THE REST OF A SEQUENCE: the bytes that fill its ranges, and those beyond them

abbrev pub beyond : Ranges → List ℕ → List ℕ
beyond ranges bytes = drop (length (taken ranges bytes)) bytes

module _ (r : ℕ × ℕ) (ranges : Ranges) (s : Utf8) (c : ℕ) (bytes : List ℕ) (waits : Waits (r ∷ ranges) s) where
  read_on : within r.0 r.1 c ≡ true → within s.lower s.upper c ≡ true
  read_on e = rw (waits.1, waits.2) e

  read_stops : (ended : Bool) → within r.0 r.1 c ≡ false → steps utf8 ended s (c ∷ bytes) ≡ text_then (0xFFFD ∷ [])
      (steps utf8 ended utf8_start (c ∷ bytes))
  read_stops ended e = read_is ended s c bytes _ (read_bad s c (length ranges) waits.0 (rw (waits.1, waits.2) e))

  beyond_on : within r.0 r.1 c ≡ true → beyond (r ∷ ranges) (c ∷ bytes) ≡ beyond ranges bytes
  beyond_on e = ap (λ t. drop (length t) (c ∷ bytes)) (taken_on r ranges c bytes e)

  beyond_stops : within r.0 r.1 c ≡ false → beyond (r ∷ ranges) (c ∷ bytes) ≡ c ∷ bytes
  beyond_stops e = ap (λ t. drop (length t) (c ∷ bytes)) (taken_stops r ranges c bytes e)

module _ (r q : ℕ × ℕ) (ranges : Ranges) (s : Utf8) (c : ℕ) (waits : Waits (r ∷ q ∷ ranges) s) where
  next_waits : Waits (q ∷ ranges) (next_of s c)
  next_waits = (omega arith, sym waits.3.0, sym waits.3.1, waits.3.2)

  next_read : (ended : Bool) (bytes : List ℕ) → within r.0 r.1 c ≡ true
      → steps utf8 ended s (c ∷ bytes) ≡ steps utf8 ended (next_of s c) bytes
  next_read ended bytes e =
      read_is ended s c bytes _ (read_more s c (length ranges) waits.0 (read_on r (q ∷ ranges) s c bytes waits e))

-- where all ranges are filled
pub tail_whole : (ranges : Ranges) (s : Utf8) (ended : Bool) (bytes : List ℕ) → Waits ranges s
    → fills ranges (taken ranges bytes) ≡ true →
    steps utf8 ended s bytes ≡ text_then (value s.point (taken ranges bytes) ∷ [])
    (steps utf8 ended utf8_start (beyond ranges bytes))
tail_whole [] s ended bytes w f = absurd w
tail_whole (r ∷ ranges) s ended [] w f = absurd cc
tail_whole (r ∷ []) s ended (c ∷ bytes) w f = go (within r.0 r.1 c) refl
  where
    go : (x : Bool) → within r.0 r.1 c ≡ x →
        steps utf8 ended s (c ∷ bytes) ≡ text_then (value s.point (taken (r ∷ []) (c ∷ bytes)) ∷ [])
        (steps utf8 ended utf8_start (beyond (r ∷ []) (c ∷ bytes)))
    go true e =
        read_is ended s c bytes _ (read_last s c w.0 (read_on r [] s c bytes w e))
        ∙ ap (λ t. text_then (value s.point t ∷ []) (steps utf8 ended utf8_start (drop (length t) (c ∷ bytes))))
        (sym (taken_on r [] c bytes e))
    go false e = absurd (let g = ap (fills (r ∷ [])) (taken_stops r [] c bytes e) in cc)
tail_whole (r ∷ q ∷ ranges) s ended (c ∷ bytes) w f =
    go (within r.0 r.1 c) refl (tail_whole (q ∷ ranges) (next_of s c) ended bytes (next_waits r q ranges s c w))
  where
    go : (x : Bool) → within r.0 r.1 c ≡ x →
        (fills (q ∷ ranges) (taken (q ∷ ranges) bytes) ≡ true →
        steps utf8 ended (next_of s c) bytes
        ≡ text_then (value (next_of s c).point (taken (q ∷ ranges) bytes) ∷ [])
        (steps utf8 ended utf8_start (beyond (q ∷ ranges) bytes))) →
        steps utf8 ended s (c ∷ bytes)
        ≡ text_then (value s.point (taken (r ∷ q ∷ ranges) (c ∷ bytes)) ∷ [])
        (steps utf8 ended utf8_start (beyond (r ∷ q ∷ ranges) (c ∷ bytes)))
    go true e ih =
        next_read r q ranges s c w ended bytes e
        ∙ ih (sym (fills_on r (q ∷ ranges) c bytes e) ∙ f)
        ∙ ap (λ t. text_then (value s.point t ∷ []) (steps utf8 ended utf8_start (drop (length t) (c ∷ bytes))))
        (sym (taken_on r (q ∷ ranges) c bytes e))
    go false e ih = absurd (let g = ap (fills (r ∷ q ∷ ranges)) (taken_stops r (q ∷ ranges) c bytes e) in cc)

-- where a byte stops it
pub tail_stopped : (ranges : Ranges) (s : Utf8) (ended : Bool) (bytes : List ℕ) (d : ℕ) (rest : List ℕ) → Waits ranges s
    →
    fills ranges (taken ranges bytes) ≡ false → beyond ranges bytes ≡ d ∷ rest →
    steps utf8 ended s bytes ≡ text_then (0xFFFD ∷ []) (steps utf8 ended utf8_start (beyond ranges bytes))
tail_stopped [] s ended bytes d rest w f b = absurd w
tail_stopped (r ∷ ranges) s ended [] d rest w f b = absurd cc
tail_stopped (r ∷ []) s ended (c ∷ bytes) d rest w f b = go (within r.0 r.1 c) refl
  where
    go : (x : Bool) → within r.0 r.1 c ≡ x →
        steps utf8 ended s (c ∷ bytes) ≡ text_then (0xFFFD ∷ [])
        (steps utf8 ended utf8_start (beyond (r ∷ []) (c ∷ bytes)))
    go true e = absurd (let g = fills_on r [] c bytes e in cc)
    go false e =
        read_stops r [] s c bytes w ended e
        ∙ ap (λ t. text_then (0xFFFD ∷ []) (steps utf8 ended utf8_start t)) (sym (beyond_stops r [] s c bytes w e))
tail_stopped (r ∷ q ∷ ranges) s ended (c ∷ bytes) d rest w f b =
    go (within r.0 r.1 c) refl
    (tail_stopped (q ∷ ranges) (next_of s c) ended bytes d rest (next_waits r q ranges s c w))
  where
    go : (x : Bool) → within r.0 r.1 c ≡ x →
        (fills (q ∷ ranges) (taken (q ∷ ranges) bytes) ≡ false → beyond (q ∷ ranges) bytes ≡ d ∷ rest →
        steps utf8 ended (next_of s c) bytes ≡ text_then (0xFFFD ∷ [])
        (steps utf8 ended utf8_start (beyond (q ∷ ranges) bytes))) →
        steps utf8 ended s (c ∷ bytes) ≡ text_then (0xFFFD ∷ [])
        (steps utf8 ended utf8_start (beyond (r ∷ q ∷ ranges) (c ∷ bytes)))
    go true e ih =
        next_read r q ranges s c w ended bytes e
        ∙ ih (sym (fills_on r (q ∷ ranges) c bytes e) ∙ f) (sym (beyond_on r (q ∷ ranges) s c bytes w e) ∙ b)
        ∙ ap (λ t. text_then (0xFFFD ∷ []) (steps utf8 ended utf8_start t))
        (sym (beyond_on r (q ∷ ranges) s c bytes w e))
    go false e ih =
        read_stops r (q ∷ ranges) s c bytes w ended e
        ∙ ap (λ t. text_then (0xFFFD ∷ []) (steps utf8 ended utf8_start t))
        (sym (beyond_stops r (q ∷ ranges) s c bytes w e))

-- one U+FFFD at the end, and nothing before
abbrev pub open_text : Bool → List ℕ
open_text ended = if ended then 0xFFFD ∷ [] else []

-- where the bytes run out
pub tail_open : (ranges : Ranges) (s : Utf8) (ended : Bool) (bytes : List ℕ) → Waits ranges s →
    fills ranges (taken ranges bytes) ≡ false → beyond ranges bytes ≡ []
    → (steps utf8 ended s bytes).text ≡ open_text ended
tail_open [] s ended bytes w f b = absurd w
tail_open (r ∷ ranges) s true [] w f b = end_open s (length ranges) w.0
tail_open (r ∷ ranges) s false [] w f b = ap (λ run. run.text) (steps_none utf8 s)
tail_open (r ∷ []) s ended (c ∷ bytes) w f b = go (within r.0 r.1 c) refl
  where
    go : (x : Bool) → within r.0 r.1 c ≡ x → (steps utf8 ended s (c ∷ bytes)).text ≡ open_text ended
    go true e = absurd (let g = fills_on r [] c bytes e in cc)
    go false e = absurd (let g = beyond_stops r [] s c bytes w e in cc)
tail_open (r ∷ q ∷ ranges) s ended (c ∷ bytes) w f b =
    go (within r.0 r.1 c) refl (tail_open (q ∷ ranges) (next_of s c) ended bytes (next_waits r q ranges s c w))
  where
    go : (x : Bool) → within r.0 r.1 c ≡ x →
        (fills (q ∷ ranges) (taken (q ∷ ranges) bytes) ≡ false → beyond (q ∷ ranges) bytes ≡ []
        → (steps utf8 ended (next_of s c) bytes).text ≡ open_text ended) →
        (steps utf8 ended s (c ∷ bytes)).text ≡ open_text ended
    go true e ih =
        ap (λ run. run.text) (next_read r q ranges s c w ended bytes e)
        ∙ ih (sym (fills_on r (q ∷ ranges) c bytes e) ∙ f) (sym (beyond_on r (q ∷ ranges) s c bytes w e) ∙ b)
    go false e ih = absurd (let g = beyond_stops r (q ∷ ranges) s c bytes w e in cc)

-- THE SCALAR VALUE of what fills the ranges
pub scalar_is : (b : ℕ) (ranges : Ranges) (t : List ℕ) → length ranges ≤ 3 → fills ranges t ≡ true
    → scalar_of (b ∷ t) ≡ value (b - mark_of ranges) t
scalar_is b [] [] few f = omega arith
scalar_is b [] (c ∷ t) few f = absurd cc
scalar_is b (r ∷ ranges) [] few f = absurd cc
scalar_is b (r ∷ []) (c ∷ []) few f = omega arith
scalar_is b (r ∷ []) (c ∷ d ∷ t) few f = absurd (grind (arith, f))
scalar_is b (r ∷ q ∷ ranges) (c ∷ []) few f = absurd (grind (arith, f))
scalar_is b (r ∷ q ∷ []) (c ∷ d ∷ []) few f = omega arith
scalar_is b (r ∷ q ∷ []) (c ∷ d ∷ e ∷ t) few f = absurd (grind (arith, f))
scalar_is b (r ∷ q ∷ p ∷ ranges) (c ∷ d ∷ []) few f = absurd (grind (arith, f))
scalar_is b (r ∷ q ∷ p ∷ []) (c ∷ d ∷ e ∷ []) few f = omega arith
scalar_is b (r ∷ q ∷ p ∷ []) (c ∷ d ∷ e ∷ g ∷ t) few f = absurd (grind (arith, f))
scalar_is b (r ∷ q ∷ p ∷ o ∷ ranges) (c ∷ d ∷ e ∷ t) few f = absurd (omega arith)
