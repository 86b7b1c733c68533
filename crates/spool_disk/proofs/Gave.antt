-- What users conclude from what the reads of a disk gave.
use Rattle.std.proofs.Common.{◌≡◌, ◌⊎◌, inl, inr, ◌≤◌, ◌<◌, ◌+◌, ◌-◌, ℕ, List, [], ◌∷◌, ◌++◌, length, get_or, refl}
use Rattle.std.proofs.Common.{sym, ◌∙◌, ap, subst, arith, Result, Ok, Err, OnOk, OnErr, ⊎_elim}
use Rattle.std.proofs.lemmas.List.{append_assoc, append_cancel_right}
use Rattle.spool_disk.specs.Disk.{span}
use Rattle.spool_disk.specs.Given.{given, AllGave, AreApart, Between, IsOf, IsOfAny, MoreReads, ReadsGave, ReadsOnce}
use Rattle.common.specs.declared.given.GivenRead.{GivenRead}
use Rattle.spool_disk.proofs.Span.{in_or_out, span_is, span_same}

-- Calls that aren't reads forget none.
pub grew_none : {old new : List GivenRead} → new ≡ old → MoreReads old new
grew_none same = record { added = []; grown = same }

-- A read forgets none.
pub grew_one : {old new : List GivenRead} {at : ℕ} {bs : List ℕ} → new ≡ given at bs ∷ old → MoreReads old new
grew_one {at = at} {bs = bs} e = record { added = given at bs ∷ []; grown = e }

-- A read forgets none, whether it succeeds or not.
pub read_grew : {T E : Type 0} {old new : List GivenRead} (at : ℕ) (bs : List ℕ) (r : Result T E)
    → OnOk r (new ≡ given at bs ∷ old)
    → OnErr r (new ≡ old)
    → MoreReads old new
read_grew at bs (Ok t) read failed = grew_one read
read_grew at bs (Err e) read failed = grew_none failed

-- Some calls, and then others.
pub grew_on : {a b c : List GivenRead} → MoreReads a b → MoreReads b c → MoreReads a c
grew_on {a = a} f g = record {
  added = g.added ++ f.added;
  grown = g.grown ∙ ap (λ (l : List GivenRead). g.added ++ l) f.grown ∙ sym (append_assoc g.added f.added a);
}

-- Where no call is a read, nothing has to be shown.
pub none : {bytes : ℕ → ℕ} {old new : List GivenRead} → new ≡ old → ReadsGave bytes old new
unfolding grew_none
none same = record { since = grew_none same; all = tt }

-- The later reads of two lists.
all_left : (bytes : ℕ → ℕ) (later earlier : List GivenRead) → AllGave bytes (later ++ earlier) → AllGave bytes later
all_left bytes [] earlier all = tt
all_left bytes (g ∷ later) earlier all = (all.0, all_left bytes later earlier all.1)

-- The earlier reads of two lists.
all_right : (bytes : ℕ → ℕ) (later earlier : List GivenRead) → AllGave bytes (later ++ earlier) → AllGave bytes earlier
all_right bytes [] earlier all = all
all_right bytes (g ∷ later) earlier all = all_right bytes later earlier all.1

-- The reads of two lists.
all_both : (bytes : ℕ → ℕ) (later earlier : List GivenRead) → AllGave bytes later → AllGave bytes earlier
    → AllGave bytes (later ++ earlier)
all_both bytes [] earlier all others = others
all_both bytes (g ∷ later) earlier all others = (all.0, all_both bytes later earlier all.1 others)

-- It doesn't matter how the reads since are named.
all_added : {bytes : ℕ → ℕ} {old new : List GivenRead} (grew : MoreReads old new) → ReadsGave bytes old new
    → AllGave bytes grew.added
all_added {bytes = bytes} {old = old} grew gave =
    subst (AllGave bytes)
    (append_cancel_right gave.since.added grew.added old (sym gave.since.grown ∙ grew.grown))
    gave.all

-- What all the reads gave, the earlier ones gave.
pub first : {bytes : ℕ → ℕ} {a b c : List GivenRead} → MoreReads a b → MoreReads b c → ReadsGave bytes a c
    → ReadsGave bytes a b
unfolding grew_on
first {bytes = bytes} f g gave = record {
  since = f;
  all = all_right bytes g.added f.added (all_added (grew_on f g) gave);
}

-- What all the reads gave, the later ones gave.
pub rest : {bytes : ℕ → ℕ} {a b c : List GivenRead} → MoreReads a b → MoreReads b c → ReadsGave bytes a c
    → ReadsGave bytes b c
unfolding grew_on
rest {bytes = bytes} f g gave = record {
  since = g;
  all = all_left bytes g.added f.added (all_added (grew_on f g) gave);
}

-- What the earlier reads gave and the later ones, all of them gave.
pub both : {bytes : ℕ → ℕ} {a b c : List GivenRead} → ReadsGave bytes a b → ReadsGave bytes b c → ReadsGave bytes a c
unfolding grew_on
both {bytes = bytes} f g = record {
  since = grew_on f.since g.since;
  all = all_both bytes g.since.added f.since.added g.all f.all;
}

-- A single read gave what is there.
pub one : {bytes : ℕ → ℕ} {old new : List GivenRead} {at : ℕ} {bs : List ℕ} → new ≡ given at bs ∷ old
    → ReadsGave bytes old new
    → span bytes at (length bs) ≡ bs
unfolding grew_one
one e gave = (all_added (grew_one e) gave).0

-- What is there was given by a single read.
pub of_one : {bytes : ℕ → ℕ} {old new : List GivenRead} {at : ℕ} {bs : List ℕ} → new ≡ given at bs ∷ old
    → span bytes at (length bs) ≡ bs
    → ReadsGave bytes old new
unfolding grew_one
of_one e is = record { since = grew_one e; all = (is, tt) }

-- READS OF NO PLACE TWICE

pub once_none : {P : ℕ → Type 0} {old new : List GivenRead} → new ≡ old → ReadsOnce P old new
unfolding grew_none
once_none same = record { since = grew_none same; within = λ p never. absurd never; once = tt }

pub once_one : {P : ℕ → Type 0} {old new : List GivenRead} {at : ℕ} {bs : List ℕ} → new ≡ given at bs ∷ old
    → ((p : ℕ) → at ≤ p → p < at + length bs → P p) → ReadsOnce P old new
unfolding grew_one
once_one e within = record {
  since = grew_one e;
  within = λ p of. ⊎_elim (λ here. within p here.from here.below) (λ never. absurd never) of;
  once = (λ p here never. never, tt);
}

-- a read, whether it succeeds or not
pub read_once : {T E : Type 0} {P : ℕ → Type 0} {old new : List GivenRead} (at : ℕ) (bs : List ℕ) (r : Result T E)
    → OnOk r (new ≡ given at bs ∷ old) → OnErr r (new ≡ old) → ((p : ℕ) → at ≤ p → p < at + length bs → P p)
    → ReadsOnce P old new
read_once at bs (Ok t) read failed within = once_one read within
read_once at bs (Err e) read failed within = once_none failed

any_of : (later earlier : List GivenRead) (p : ℕ) → IsOfAny (later ++ earlier) p → IsOfAny later p ⊎ IsOfAny earlier p
any_of [] earlier p of = inr of
any_of (g ∷ later) earlier p (inl here) = inl (inl here)
any_of (g ∷ later) earlier p (inr of) = ⊎_elim (λ late. inl (inr late)) (λ early. inr early) (any_of later earlier p of)

apart_both : (later earlier : List GivenRead) → ((p : ℕ) → IsOfAny later p → IsOfAny earlier p → ⊥) → AreApart later
    → AreApart earlier → AreApart (later ++ earlier)
apart_both [] earlier apart late early = early
apart_both (g ∷ later) earlier apart late early = (
  λ p here of. ⊎_elim (λ also. late.0 p here also) (λ also. apart p (inl here) also) (any_of later earlier p of),
  apart_both later earlier (λ p of also. apart p (inr of) also) late.1 early,
)

-- Some calls, and then others that read other places.
pub once_on : {P Q R : ℕ → Type 0} {a b c : List GivenRead} → ReadsOnce P a b → ReadsOnce Q b c
    → ((p : ℕ) → P p → Q p → ⊥) → ((p : ℕ) → P p → R p) → ((p : ℕ) → Q p → R p) → ReadsOnce R a c
unfolding grew_on
once_on f g apart first_in rest_in = record {
  since = grew_on f.since g.since;
  within =
      λ p of. ⊎_elim (λ late. rest_in p (g.within p late)) (λ early. first_in p (f.within p early))
      (any_of g.since.added f.since.added p of);
  once =
      apart_both g.since.added f.since.added (λ p late early. apart p (f.within p early) (g.within p late)) g.once
      f.once;
}

pub once_more : {P Q : ℕ → Type 0} {a b : List GivenRead} → ((p : ℕ) → P p → Q p) → ReadsOnce P a b → ReadsOnce Q a b
once_more wider f = record { since = f.since; within = λ p of. wider p (f.within p of); once = f.once }

-- ranges of places
module _ {a b : List GivenRead} (lo hi : ℕ) (reads : ReadsOnce (Between lo hi) a b) where
  pub between_more : (lo' hi' : ℕ) → lo' ≤ lo → hi ≤ hi' → ReadsOnce (Between lo' hi') a b
  between_more lo' hi' low high = once_more (λ p is. (omega (arith, is.0, low), omega (arith, is.1, high))) reads

  pub between_on : {c : List GivenRead} (lo' hi' : ℕ) → ReadsOnce (Between lo' hi') b c → lo ≤ lo' → hi ≤ lo' → hi ≤ hi'
      → ReadsOnce (Between lo hi') a c
  between_on lo' hi' then low over high =
      once_on reads then (λ p is also. omega (arith, is.1, also.0, over)) (λ p is. (is.0, omega (arith, is.1, high)))
      (λ p is. (omega (arith, is.0, low), is.1))

-- THERE ARE BYTES THAT SUCH READS GAVE

-- the bytes of a read, and others elsewhere
module _ (g : GivenRead) (bytes : ℕ → ℕ) (p : ℕ) where
  abbrev given_at : IsOf g p ⊎ (IsOf g p → ⊥) → ℕ
  given_at (inl here) = get_or g.bytes.items (p - g.at) 0
  given_at (inr elsewhere) = bytes p

  given_here : (o : IsOf g p ⊎ (IsOf g p → ⊥)) → IsOf g p → given_at o ≡ get_or g.bytes.items (p - g.at) 0
  given_here (inl here) within = refl
  given_here (inr elsewhere) within = absurd (elsewhere within)

  given_elsewhere : (o : IsOf g p ⊎ (IsOf g p → ⊥)) → (IsOf g p → ⊥) → given_at o ≡ bytes p
  given_elsewhere (inl here) out = absurd (out here)
  given_elsewhere (inr elsewhere) out = refl

abbrev pub bytes_given : List GivenRead → ℕ → ℕ
bytes_given [] p = 0
bytes_given (g ∷ gs) p = given_at g (bytes_given gs) p (in_or_out g.at (length g.bytes.items) p)

all_same : (f f' : ℕ → ℕ) (gs : List GivenRead) → ((p : ℕ) → IsOfAny gs p → f p ≡ f' p) → AllGave f gs → AllGave f' gs
all_same f f' [] same all = tt
all_same f f' (g ∷ gs) same all = (
  span_same f' f g.at (length g.bytes.items) (λ p here. sym (same p (inl here))) ∙ all.0,
  all_same f f' gs (λ p of. same p (inr of)) all.1,
)

pub all_given : (gs : List GivenRead) → AreApart gs → AllGave (bytes_given gs) gs
all_given [] apart = tt
all_given (g ∷ gs) apart = (
  span_is (bytes_given (g ∷ gs)) g.at g.bytes.items
      (λ k lt.
      let here : IsOf g (g.at + k) = record { from = omega arith; below = omega (arith, lt) } in
      let same : g.at + k - g.at ≡ k = omega arith in
      given_here g (bytes_given gs) (g.at + k) (in_or_out g.at (length g.bytes.items) (g.at + k)) here
      ∙ ap (λ (i : ℕ). get_or g.bytes.items i 0) same),
  all_same (bytes_given gs) (bytes_given (g ∷ gs)) gs
      (λ p of. sym (given_elsewhere g (bytes_given gs) p (in_or_out g.at (length g.bytes.items) p)
      (λ here. apart.0 p here of))) (all_given gs apart.1),
)
