-- A stream's cut goes on from its unfinished part.
use Rattle.std.proofs.Common.{ℕ, zero, suc, ◌+◌, ◌<◌, ◌≤◌, ◌≡◌, Bool, true, false, List, [], ◌∷◌, ◌++◌, Option}
use Rattle.std.proofs.Common.{Some, None, length, take, drop, refl, sym, ◌∙◌, ap, arith, append_assoc}
use Rattle.std.proofs.Common.{append-nil, nat_lt, slice_get}
use Rattle.std.proofs.lemmas.List.{length-append, length-drop, take-append-le, drop-append-le, take-append-drop}
use Rattle.std.proofs.lemmas.List.{append_cancel_left}
use Rattle.std.proofs.lemmas.Bool.{ltb-false, le-ltb}
use Rattle.std.proofs.Math.Seq.{take-append_seam}
use Rattle.tus_request.specs.Requests.{Verdict, body_length}
use Rattle.tus_request.specs.Steady.{IsSteady}
use Rattle.tus_request.specs.Answers.{Answer, More, Judged}
use Rattle.tus_session.specs.Streams.{Asked, Rest, Cut, Reader, onto_cut, after_head, by_answer, cut_within, cut}
use Rattle.tus_session.specs.Streams.{rest_bytes, request_sizes, headed, heads_of, taken_to, taken_of, taken}
use Rattle.tus_session.specs.Streams.{moments_of, moments}

-- the whole requests of a stream before another cut
abbrev pub after_whole : List Asked → Cut → Cut
after_whole rs c = record { whole = rs ++ c.whole; rest = c.rest }

-- two cuts that agree on shorter streams
head_same : (f g : List ℕ → Cut) (head : List ℕ) (v : Verdict) (rest : List ℕ) (b : Bool)
    → f (drop (body_length v) rest) ≡ g (drop (body_length v) rest)
    → after_head f head v rest b ≡ after_head g head v rest b
head_same f g head v rest true e = refl
head_same f g head v rest false e = ap (onto_cut (record {
  head = head;
  verdict = v;
  body = take (body_length v) rest;
})) e

shorter : (s : List ℕ) (n m : ℕ) → 0 < n → n ≤ length s → length (drop m (drop n s)) < length s
shorter s n m some within = simp length-drop (omega arith)

-- THE CUT GOES ON: the whole requests so far, and then the cut of what is left with what comes
abbrev pub GoesOn : Reader → List ℕ → List ℕ → Cut → Type 0
GoesOn answer p s c = cut answer (s ++ p) ≡ after_whole c.whole (cut answer (rest_bytes c.rest ++ p))

body_there : (f : List ℕ → Cut) (head : List ℕ) (v : Verdict) (rest p : List ℕ) → body_length v ≤ length rest
    → after_head f head v (rest ++ p) (nat_lt (length (rest ++ p)) (body_length v))
    ≡ onto_cut (record { head = head; verdict = v; body = take (body_length v) rest })
    (f (drop (body_length v) rest ++ p))
body_there f head v rest p fits =
    let m = body_length v in
    let l : m ≤ length (rest ++ p) = simp length-append (omega arith) in
    rw (le-ltb (length (rest ++ p)) m l, take-append-le m rest p fits, drop-append-le m rest p fits)

pub head_there : (f : List ℕ → Cut) (n : ℕ) (v : Verdict) (s p : List ℕ) → n ≤ length s
    → by_answer f (s ++ p) (Judged n v) ≡ after_head f (take n s) v (drop n s ++ p)
    (nat_lt (length (drop n s ++ p)) (body_length v))
head_there f n v s p within = rw (take-append-le n s p within, drop-append-le n s p within)

-- THE CUT COVERS THE STREAM
abbrev pub Covers : List ℕ → Cut → Type 0
Covers s c = request_sizes c.whole + length (rest_bytes c.rest) ≡ length s

-- A cut without its whole requests: that of what is left
abbrev pub IsLeft : Reader → Cut → Type 0
IsLeft answer c = cut answer (rest_bytes c.rest) ≡ record { whole = []; rest = c.rest }

-- MOMENTS FROM WHAT IS LEFT ALONE

get_after : {A : Type 0} (xs ys : List A) (i : ℕ) → slice_get (xs ++ ys) (length xs + i) ≡ slice_get ys i
get_after [] ys i = ap (slice_get ys) (omega arith)
get_after (x ∷ xs) ys i =
    let e : suc (length xs) + i ≡ suc (length xs + i) = omega arith in
    rw e (get_after xs ys i)

get_first_after : {A : Type 0} (xs ys : List A) → slice_get (xs ++ ys) (length xs) ≡ slice_get ys 0
get_first_after xs ys = ap (slice_get (xs ++ ys)) (omega arith) ∙ get_after xs ys 0

-- after whole requests, the moments are those without them
moments_after : (ws : List Asked) (r : Rest) (d : Cut)
    → moments_of (record { whole = ws; rest = r }) (after_whole ws d) ≡ moments_of (record { whole = []; rest = r }) d
moments_after ws r d =
    let heads = append_assoc ws d.whole (headed d.rest) in
    let later = get_after ws (heads_of d) (length (headed r)) in
    rw (heads, length-append ws (headed r), later, get_first_after ws d.whole, get_first_after ws (heads_of d))

-- the unfinished part of a stream
abbrev pub left : Reader → List ℕ → List ℕ
left answer s = rest_bytes (cut answer s).rest

-- how much is taken, by what is left alone
by_end : (ws : List Asked) (s u p : List ℕ) (d : Cut) → request_sizes ws + length u ≡ length s → (r : Option Asked)
    → taken_to s p (after_whole ws d) (length ws) r ≡ taken_to u p d 0 r
by_end ws s u p d covers None = refl
by_end ws s u p d covers (Some r) = rw (take-append_seam ws d.whole) (omega arith)

taken_after : (ws : List Asked) (r : Rest) (s u p : List ℕ) (d : Cut) → request_sizes ws + length u ≡ length s
    → taken_of s p (record {
      whole = ws;
      rest = r;
    }) (after_whole ws d) ≡ taken_of u p (record { whole = []; rest = r }) d
taken_after ws r s u p d covers =
    ap (taken_to s p (after_whole ws d) (length ws)) (get_first_after ws d.whole)
    ∙ by_end ws s u p d covers (slice_get d.whole 0)

module _ (answer : Reader) (steady : IsSteady answer) where
  answer_same : (f g : List ℕ → Cut) (s : List ℕ) (a : Answer) → answer s ≡ a
      → ((t : List ℕ) → length t < length s → f t ≡ g t) → by_answer f s a ≡ by_answer g s a
  answer_same f g s More e same = refl
  answer_same f g s (Judged n v) e same =
      head_same f g (take n s) v (drop n s) (nat_lt (length (drop n s)) (body_length v))
      (same (drop (body_length v) (drop n s))
      (shorter s n (body_length v) (steady.some s n v e) (steady.within s n v e)))

  -- enough requests are enough
  enough : (n m : ℕ) (s : List ℕ) → length s < n → length s < m → cut_within answer n s ≡ cut_within answer m s
  enough zero m s p q = absurd (omega arith)
  enough (suc n) zero s p q = absurd (omega arith)
  enough (suc n) (suc m) s p q =
      answer_same (cut_within answer n) (cut_within answer m) s (answer s) refl
      (λ t shorter. enough n m t (omega arith) (omega arith))

  -- the cut, request by request
  pub cut_steps : (s : List ℕ) → cut answer s ≡ by_answer (cut answer) s (answer s)
  unfolding cut
  cut_steps s =
      answer_same (cut_within answer (length s)) (λ t. cut_within answer (suc (length t)) t) s (answer s)
      refl
      (λ t shorter. enough (length s) (suc (length t)) t shorter (omega arith))

  on_body : (s p : List ℕ) (n : ℕ) (v : Verdict) → answer s ≡ Judged n v
      → ((t : List ℕ) → length t < length s → GoesOn answer p t (cut answer t)) → (b : Bool)
      → nat_lt (length (drop n s)) (body_length v) ≡ b
      → GoesOn answer p s (after_head (cut answer) (take n s) v (drop n s) b)
  on_body s p n v e goes true under = ap (λ x. cut answer (x ++ p)) (sym (take-append-drop n s))
  on_body s p n v e goes false there =
      let within = steady.within s n v e in
      let head = head_there (cut answer) n v s p within in
      let body = body_there (cut answer) (take n s) v (drop n s) p
      (ltb-false (length (drop n s)) (body_length v) there) in
      let later = goes (drop (body_length v) (drop n s)) (shorter s n (body_length v) (steady.some s n v e) within) in
      rw (cut_steps (s ++ p), steady.unchanged s p n v e, head, body, later)

  on_answer : (s p : List ℕ) (a : Answer) → answer s ≡ a
      → ((t : List ℕ) → length t < length s → GoesOn answer p t (cut answer t))
      → GoesOn answer p s (by_answer (cut answer) s a)
  on_answer s p More e goes = refl
  on_answer s p (Judged n v) e goes =
      on_body s p n v e goes (nat_lt (length (drop n s)) (body_length v)) refl

  goes_within : (n : ℕ) (s p : List ℕ) → length s < n → GoesOn answer p s (cut answer s)
  goes_within zero s p short = absurd (omega arith)
  goes_within (suc n) s p short =
      rw (cut_steps s)
      (on_answer s p (answer s) refl (λ t shorter. goes_within n t p (omega arith)))

  pub goes_on : (s p : List ℕ) → GoesOn answer p s (cut answer s)
  goes_on s p = goes_within (suc (length s)) s p (omega arith)

  cover_body : (s : List ℕ) (n : ℕ) (v : Verdict) → n ≤ length s → 0 < n
      → ((t : List ℕ) → length t < length s → Covers t (cut answer t)) → (b : Bool)
      → nat_lt (length (drop n s)) (body_length v) ≡ b → Covers s (after_head (cut answer) (take n s) v (drop n s) b)
  cover_body s n v within some covers true under = omega (arith, ap length (take-append-drop n s))
  cover_body s n v within some covers false there =
      let m = body_length v in
      omega (
        arith,
        covers (drop m (drop n s)) (shorter s n m some within),
        simp length-append at (ap length (take-append-drop n s)),
        simp length-append at (ap length (take-append-drop m (drop n s))),
      )

  cover_answer : (s : List ℕ) (a : Answer) → answer s ≡ a
      → ((t : List ℕ) → length t < length s → Covers t (cut answer t)) → Covers s (by_answer (cut answer) s a)
  cover_answer s More e covers = omega arith
  cover_answer s (Judged n v) e covers =
      cover_body s n v (steady.within s n v e) (steady.some s n v e) covers
      (nat_lt (length (drop n s)) (body_length v)) refl

  covers_within : (n : ℕ) (s : List ℕ) → length s < n → Covers s (cut answer s)
  covers_within zero s short = absurd (omega arith)
  covers_within (suc n) s short =
      rw (cut_steps s)
      (cover_answer s (answer s) refl (λ t shorter. covers_within n t (omega arith)))

  pub covers : (s : List ℕ) → Covers s (cut answer s)
  covers s = covers_within (suc (length s)) s (omega arith)

  pub left_alone : (s : List ℕ) → IsLeft answer (cut answer s)
  left_alone s =
      let c = cut answer s in
      let u = rest_bytes c.rest in
      let e : c ≡ after_whole c.whole (cut answer u) =
      ap (cut answer) (sym (append-nil s))
      ∙ (goes_on s [] ∙ ap (λ x. after_whole c.whole (cut answer x)) (append-nil u)) in
      let w : (cut answer u).whole ≡ [] =
      append_cancel_left c.whole (cut answer u).whole [] (sym (ap (λ x. x.whole) e) ∙ sym (append-nil c.whole)) in
      let at : List Asked → Rest → Cut = λ ws r. record { whole = ws; rest = r } in
      ap (λ x. at x (cut answer u).rest) w ∙ ap (at []) (sym (ap (λ x. x.rest) e))

  pub moments_alone : (s q : List ℕ) → moments answer s q ≡ moments answer (left answer s) q
  unfolding moments
  moments_alone s q =
      let c = cut answer s in
      let u = left answer s in
      ap (moments_of c) (goes_on s q)
      ∙ (moments_after c.whole c.rest (cut answer (u ++ q))
      ∙ ap (λ x. moments_of x (cut answer (u ++ q))) (sym (left_alone s)))

  pub taken_alone : (s p : List ℕ) → taken answer s p ≡ taken answer (left answer s) p
  unfolding taken
  taken_alone s p =
      let c = cut answer s in
      let u = left answer s in
      ap (taken_of s p c) (goes_on s p)
      ∙ (taken_after c.whole c.rest s u p (cut answer (u ++ p)) (covers s)
      ∙ ap (λ x. taken_of u p x (cut answer (u ++ p))) (sym (left_alone s)))
