-- The moments of a call are moments of the whole stream.
use Rattle.std.proofs.Common.{◌≡◌, ℕ, zero, suc, Bool, true, false, List, [], ◌∷◌, ◌++◌, length, take, slice_get}
use Rattle.std.proofs.Common.{nat_lt, Some, refl, sym, ◌∙◌, ap, subst, append-nil, append_assoc}
use Rattle.std.proofs.lemmas.Option.{none-some, same_Some}
use Rattle.enc_model.specs.Indexes.{offers}
use Rattle.tus_request.proofs.Prefixes.{steady}
use Rattle.tus_request.specs.Requests.{body_length}
use Rattle.tus_request.specs.Steady.{IsSteady}
use Rattle.upload_rules.specs.World.{World}
use Rattle.tus_session.specs.Streams.{Asked, Rest, InHead, InBody, Cut, after_head, cut, rest_bytes, headed, heads_of}
use Rattle.tus_session.specs.Streams.{moments}
use Rattle.tus_session.specs.Turns.{reader}
use Rattle.tus_session.proofs.Cuts.{goes_on, left}
use Rattle.tus_session.proofs.Unfinished.{left_body, cut_more}

get_prefix : (xs ys : List Asked) (i : ℕ) (r : Asked) → slice_get xs i ≡ Some r → slice_get (xs ++ ys) i ≡ Some r
get_prefix [] ys i r e = absurd (none-some r e)
get_prefix (x ∷ xs) ys zero r e = e
get_prefix (x ∷ xs) ys (suc i) r e = get_prefix xs ys i r e

abbrev HasLike : List Asked → ℕ → Asked → Type 0
HasLike xs i r = (x : Asked) × (slice_get xs i ≡ Some x) × (x.head ≡ r.head) × (x.verdict ≡ r.verdict)

-- where the first of the others is alike
get_like : (xs : List Asked) (a : Asked) (ys : List Asked) (i : ℕ) (r : Asked) → slice_get (xs ++ a ∷ []) i ≡ Some r
    → HasLike ys 0 a → HasLike (xs ++ ys) i r
get_like [] a ys zero r e (x, there, head, verdict) =
    let s : a ≡ r = same_Some a r e in (x, there, head ∙ ap (λ y. y.head) s, verdict ∙ ap (λ y. y.verdict) s)
get_like [] a ys (suc i) r e like = absurd (none-some r e)
get_like (x ∷ xs) a ys zero r e like =
    let s : x ≡ r = same_Some x r e in (x, refl, ap (λ y. y.head) s, ap (λ y. y.verdict) s)
get_like (x ∷ xs) a ys (suc i) r e like = get_like xs a ys i r e like

first_after : (go : List ℕ → Cut) (a : Asked) (body : List ℕ) (b : Bool)
    → HasLike (heads_of (after_head go a.head a.verdict body b)) 0 a
first_after go a body true = (record { head = a.head; verdict = a.verdict; body = body }, refl, refl, refl)
first_after go a body false =
    (record { head = a.head; verdict = a.verdict; body = take (body_length a.verdict) body }, refl, refl, refl)

module _ (w : World) where
  is_steady : IsSteady (reader w)
  is_steady = steady (offers w.store.indexes)

  -- the whole requests stay, at the start
  body_stays : (s piece more : List ℕ) (r : Asked) (i : ℕ) → slice_get (cut (reader w) (s ++ piece)).whole i ≡ Some r
      → slice_get (cut (reader w) ((s ++ piece) ++ more)).whole i ≡ Some r
  body_stays s piece more r i e =
      let c = cut (reader w) (s ++ piece) in
      let rest = cut (reader w) (rest_bytes c.rest ++ more) in
      ap (λ x. slice_get x.whole i) (goes_on (reader w) is_steady (s ++ piece) more)
      ∙ get_prefix c.whole rest.whole i r e

  head_case : (s more : List ℕ) (r : Asked) (i : ℕ) (rest : Rest) → (cut (reader w) s).rest ≡ rest
      → slice_get ((cut (reader w) s).whole ++ headed rest) i ≡ Some r
      → HasLike ((cut (reader w) s).whole ++ heads_of (cut (reader w) (rest_bytes rest ++ more))) i r
  head_case s more r i (InHead h) is e =
      let c = cut (reader w) s in
      let e' : slice_get c.whole i ≡ Some r = sym (ap (λ xs. slice_get xs i) (append-nil c.whole)) ∙ e in
      (r, get_prefix c.whole (heads_of (cut (reader w) (h ++ more))) i r e', refl, refl)
  head_case s more r i (InBody a) is e =
      let u = left (reader w) s in
      let b = left_body (reader w) is_steady s a is in
      let bytes : u ≡ a.head ++ a.body = ap rest_bytes is in
      let on : cut (reader w) ((a.head ++ a.body) ++ more)
      ≡ after_head (cut (reader w)) a.head a.verdict (a.body ++ more)
      (nat_lt (length (a.body ++ more)) (body_length a.verdict)) =
      ap (λ x. cut (reader w) (x ++ more)) (sym bytes) ∙ cut_more (reader w) is_steady u more b.0 a b.1 in
      get_like (cut (reader w) s).whole a (heads_of (cut (reader w) ((a.head ++ a.body) ++ more))) i r e
      (subst (λ x. HasLike (heads_of x) 0 a) (sym on)
      (first_after (cut (reader w)) a (a.body ++ more) (nat_lt (length (a.body ++ more)) (body_length a.verdict))))

  heads_on : (s more : List ℕ)
      → heads_of (cut (reader w) (s ++ more))
      ≡ (cut (reader w) s).whole ++ heads_of (cut (reader w) (rest_bytes (cut (reader w) s).rest ++ more))
  heads_on s more =
      let c = cut (reader w) s in
      let d = cut (reader w) (rest_bytes c.rest ++ more) in
      ap heads_of (goes_on (reader w) is_steady s more) ∙ append_assoc c.whole d.whole (headed d.rest)

pub body_of_stream : (w : World) (s piece more : List ℕ) (r : Asked) → (moments (reader w) s piece).body ≡ Some r
    → slice_get (cut (reader w) ((s ++ piece) ++ more)).whole (length (cut (reader w) s).whole) ≡ Some r
unfolding moments
body_of_stream w s piece more r e = body_stays w s piece more r (length (cut (reader w) s).whole) e

pub head_of_stream : (w : World) (s piece more : List ℕ) (r : Asked) → (moments (reader w) s piece).head ≡ Some r
    → HasLike (heads_of (cut (reader w) ((s ++ piece) ++ more))) (length (heads_of (cut (reader w) s))) r
unfolding moments
head_of_stream w s piece more r e =
    let i = length (heads_of (cut (reader w) s)) in
    subst (λ xs. HasLike xs i r) (sym (heads_on w (s ++ piece) more))
    (head_case w (s ++ piece) more r i (cut (reader w) (s ++ piece)).rest refl e)
