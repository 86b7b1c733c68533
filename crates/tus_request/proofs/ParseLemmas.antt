-- From the parser's result for a finished head to the answer.
use Rattle.std.specs.Prelude.{◌≡◌, ℕ, ◌+◌, ◌<◌, ◌≤◌, Bool, true, false, List, [], ◌++◌, length, map, take, drop}
use Rattle.std.specs.Prelude.{min, nat_lt, if◌then◌else◌, Option, Some, None, Result, Ok, Err, IfOk, OnErr}
use Rattle.std.proofs.Common.{arith, ap, sym, ◌∙◌, refl, inl, inr, suc, Bor, option_copied}
use Rattle.std.proofs.lemmas.List.{length-append, append_assoc, append-nil, length-take-le, length-take, take_min}
use Rattle.std.proofs.lemmas.List.{take-append-drop, take-take, nil_from_length}
use Rattle.std.proofs.lemmas.Bool.Decides.{nat_tests}
use Rattle.std.proofs.lemmas.Bool.{cases_Bool}
use Rattle.httparse.specs.declared.borrowed.Header.{Header}
use Rattle.httparse.specs.Borrowed.{header_parts}
use Rattle.httparse.specs.Spans.{name_and_value, RequestOverflows}
use Rattle.httparse.specs.Grammar.{RequestHead, ReadsRequest, HasNoRequest, print_request}
use Rattle.httparse.proofs.GrammarLemmas.{request_unique}
use Rattle.tus_request.specs.Lines.{Extent, head_extent}
use Rattle.std.proofs.Math.Nat.{min_comm}
use Rattle.tus_request.specs.declared.heads.TheConstants.{MOST_HEAD, MOST_LINES}
use Rattle.enc_model.specs.declared.Encoding.{Encoding}
use Rattle.tus_request.specs.Answers.{Answer, More, Judged, answer_with, answer_of}
use Rattle.tus_request.specs.Grammar.{HeadPrefix, unfinished, too_long, whole, prefix_with, prefix, IsWholeHead}
use Rattle.tus_request.specs.Grammar.{IsPrefixAnswer}
use Rattle.tus_request.specs.Grammar.{IsAnswer, IsShortHead, IsShortHeadOf, IsHeadAnswer}
use Rattle.tus_request.specs.declared.faults.Fault.TheVariants.{HeadTooLong}
use Rattle.tus_request.specs.Requests.{Verdict}
use Rattle.tus_request.specs.Fields.{values_in}
use Rattle.tus_request.specs.Checks.{Line, line_of, checked, verdict_on, no_head, judged}
use Rattle.tus_request.specs.Reading.{request_of}
use Rattle.tus_request.proofs.ReadingLemmas.{finds, found_reads}
use Rattle.tus_request.proofs.HeadLemmas.{request_extent}

-- a request head at the start of a whole head is all of it, and has as many fields as lines after the first
pub fills : (head more : List ℕ) (e : Extent) (h : RequestHead) (rest : List ℕ) → IsShortHeadOf head more e
    → ReadsRequest head h rest
    → (length h.fields ≤ MOST_LINES) × (length (print_request h) ≡ length head) × (rest ≡ [])
fills head more e h rest is reads =
    let whole : head ++ more ≡ print_request h ++ (rest ++ more) =
    ap (λ t. t ++ more) reads.1 ∙ append_assoc (print_request h) rest more in
    let same : Some e ≡ Some (record { len = length (print_request h); texts = suc (length h.fields) }) =
    sym is.extent ∙ ap head_extent whole ∙ request_extent h (rest ++ more) reads.0 in
    let len : e.len ≡ length (print_request h) = cc in
    let texts : e.texts ≡ suc (length h.fields) = cc in
    let sum : length head ≡ length (print_request h) + length rest =
    ap length reads.1 ∙ length-append (print_request h) rest in
    (omega (arith, is.few), omega (arith, is.all), nil_from_length rest (omega (arith, is.all)))

-- where the parser fails, no prefix is a request head
pub none_where_failed : (head : List ℕ) → IsShortHead head → RequestOverflows MOST_LINES head → HasNoRequest head
none_where_failed head is over h rest reads =
    let f = fills head is.0 is.1 h rest is.2 reads in
    let o : MOST_LINES < length h.fields = over [] h rest (reads.0, append-nil head ∙ reads.1) in
    absurd (omega (arith, f.0))

-- what an option of a text shows
pub shown_by : (o : Option (Bor (List ℕ))) (r : Bor (List ℕ)) (v : List ℕ) → o ≡ Some r → option_copied o ≡ Some v
    → r.now ≡ v
shown_by o r v e k = let t : option_copied (Some r) ≡ Some v = rw e at k in cc

-- what is read is a whole head within the limits
pub short_head : (start : List ℕ) (e : Extent) → length start ≤ MOST_HEAD → head_extent start ≡ Some e
    → e.len ≤ length start
    → e.texts ≤ 65
    → IsShortHead (take e.len start)
short_head start e short some within few =
    let n : length (take e.len start) ≡ e.len = length-take-le e.len start within in (
      drop e.len start,
      e,
      record { short = omega arith; extent = rw (take-append-drop e.len start) some; all = sym n; few = few },
    )

pub start_is : (bytes : List ℕ) (m : ℕ) → m ≡ min (length bytes) MOST_HEAD → take m bytes ≡ take MOST_HEAD bytes
start_is bytes m e = rw (e, min_comm) (take_min MOST_HEAD bytes)

pub start_short : (bytes : List ℕ) (m : ℕ) → m ≡ min (length bytes) MOST_HEAD
    → (length (take m bytes) ≤ MOST_HEAD) × (length (take m bytes) ≡ min (length bytes) MOST_HEAD)
start_short bytes m e =
    let l : length (take m bytes) ≡ m = length-take-le m bytes (omega arith) in
    (omega arith, l ∙ e)

pub if_ok_more : {A E : Type 0} {P Q : A → Type 0} (r : Result A E) → IfOk r P → ((a : A) → P a → Q a) → IfOk r Q
if_ok_more (Ok a) is more = more a is
if_ok_more (Err e) is more = tt

not_read : (head : List ℕ) → HasNoRequest head → request_of head ≡ None
not_read head none = go (request_of head) refl
  where
    go : (o : Option RequestHead) → request_of head ≡ o → o ≡ None
    go None e = refl
    go (Some h) e = absurd (none h [] (found_reads head h e))

pub whole_prefix : (bytes : List ℕ) (e : Extent) → head_extent (take MOST_HEAD bytes) ≡ Some e → e.texts ≤ 65
    → IsWholeHead (prefix bytes)
whole_prefix bytes e some few =
    let l : nat_lt 65 e.texts ≡ false = grind (arith, nat_tests) in rw (some, l) tt

pub on_err : {A E P : Type 0} (r : Result A E) → P → OnErr r P
on_err (Ok a) p = tt
on_err (Err e) p = p

pub same_line : (h : RequestHead) (line : Line) → line.method ≡ h.method → line.target ≡ h.target → line.minor ≡ h.minor
    → line ≡ line_of h
same_line h line m t v = λ i. record { method = m i; target = t i; minor = v i }

module _ (offers : Encoding → Bool) where
  pub same_verdict : (h : RequestHead) (line : Line) (headers : List Header) (v : Verdict) → line ≡ line_of h
      → map header_parts headers ≡ map name_and_value h.fields → v ≡ checked offers line
      (values_in (map header_parts headers)) → v ≡ verdict_on offers h
  same_verdict h line headers v l f e =
      e ∙ ap (λ x. checked offers x (values_in (map header_parts headers))) l
      ∙ ap (λ x. checked offers (line_of h) (values_in x)) f

  pub no_extent_answer : (bytes : List ℕ) (came : ℕ) (a : Answer) → head_extent (take MOST_HEAD bytes) ≡ None
      → came ≡ min (length bytes) MOST_HEAD
      → a ≡ (if nat_lt came MOST_HEAD then More else Judged MOST_HEAD (no_head HeadTooLong)) → IsAnswer offers bytes a
  no_extent_answer bytes came a none is e =
      let same : nat_lt (length bytes) MOST_HEAD ≡ nat_lt came MOST_HEAD = grind (arith, nat_tests) in
      elim (cases_Bool (nat_lt came MOST_HEAD)) [
        | inl t ↦ rw (none, same, t) (rw t at e)
        | inr f ↦ rw (none, same, f) (rw f at e)
      ]

  pub too_many_answer : (bytes : List ℕ) (e : Extent) → head_extent (take MOST_HEAD bytes) ≡ Some e → 65 < e.texts
      → IsAnswer offers bytes (Judged e.len (no_head HeadTooLong))
  too_many_answer bytes e some many =
      let l : nat_lt 65 e.texts ≡ true = grind (arith, nat_tests) in rw (some, l) refl

  pub whole_answer : (bytes : List ℕ) (e : Extent) (a : Answer) → head_extent (take MOST_HEAD bytes) ≡ Some e
      → e.len ≤ length (take MOST_HEAD bytes) → e.texts ≤ 65
      → IsHeadAnswer offers (take e.len (take MOST_HEAD bytes)) a → IsAnswer offers bytes a
  whole_answer bytes e a some within texts is =
      let l : nat_lt 65 e.texts ≡ false = grind (arith, nat_tests) in
      let few : e.len ≤ MOST_HEAD = omega (arith, length-take MOST_HEAD bytes) in
      rw (some, l) (rw (take-take e.len MOST_HEAD bytes few) at is)

  head_answer_unique : (head : List ℕ) (x y : Answer) → IsHeadAnswer offers head x → IsHeadAnswer offers head y → x ≡ y
  head_answer_unique head x y (inl a) (inl b) = a.1 ∙ sym b.1
  head_answer_unique head x y (inl a) (inr b) = absurd (a.0 b.0 [] b.1)
  head_answer_unique head x y (inr a) (inl b) = absurd (b.0 a.0 [] a.1)
  head_answer_unique head x y (inr a) (inr b) =
      let same = request_unique head a.0 b.0 [] [] a.1 b.1 in
      a.2 ∙ ap (λ h. Judged (length head) (verdict_on offers h)) same.0 ∙ sym b.2

  prefix_answer_unique : (f : HeadPrefix) (x y : Answer) → IsPrefixAnswer offers f x → IsPrefixAnswer offers f y → x ≡ y
  prefix_answer_unique unfinished x y a b = a ∙ sym b
  prefix_answer_unique (too_long n) x y a b = a ∙ sym b
  prefix_answer_unique (whole head) x y a b = head_answer_unique head x y a b

  pub answer_unique : (bytes : List ℕ) (x y : Answer) → IsAnswer offers bytes x → IsAnswer offers bytes y → x ≡ y
  answer_unique bytes x y a b = prefix_answer_unique (prefix bytes) x y a b

  head_answer_is : (head : List ℕ) (a : Answer) → IsHeadAnswer offers head a
      → a ≡ Judged (length head) (judged offers (request_of head))
  head_answer_is head a (inl is) = is.1 ∙ ap (λ o. Judged (length head) (judged offers o)) (sym (not_read head is.0))
  head_answer_is head a (inr is) = is.2 ∙ ap (λ o. Judged (length head) (judged offers o)) (sym (finds head is.0 is.1))

  answer_with_is : (bytes : List ℕ) (a : Answer) (o : Option Extent) → IsPrefixAnswer offers (prefix_with bytes o) a
      → a ≡ answer_with offers bytes o
  answer_with_is bytes a None is = grind arith
  answer_with_is bytes a (Some e) is = elim (cases_Bool (nat_lt 65 e.texts)) [
    | inl t ↦ rw t (rw t at is)
    | inr f ↦ rw f (head_answer_is (take e.len bytes) a (rw f at is))
  ]

  pub answer_is : (bytes : List ℕ) (a : Answer) → IsAnswer offers bytes a → a ≡ answer_of offers bytes
  unfolding answer_of
  answer_is bytes a is = answer_with_is bytes a (head_extent (take MOST_HEAD bytes)) is
