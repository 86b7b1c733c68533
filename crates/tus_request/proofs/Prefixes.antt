-- The answer for a stream's start doesn't depend on what follows.
use Rattle.std.proofs.Common.{◌≡◌, ℕ, ◌+◌, ◌-◌, ◌<◌, ◌≤◌, Bool, true, false, List, [], ◌∷◌, ◌++◌, length, take, drop}
use Rattle.std.proofs.Common.{refl, ◌∙◌, ap, arith, Option, Some, None, option_map, nat_lt}
use Rattle.std.proofs.Common.{◌==◌, suc, inl, inr, append_assoc}
use Rattle.std.proofs.lemmas.List.{length-append, length-take, length-take-le, take-append-drop, take-take, append-nil}
use Rattle.std.proofs.Math.Seq.{take-append-add, take-append_seam}
use Rattle.std.proofs.lemmas.Bool.{ltb-false, le-ltb}
use Rattle.std.proofs.lemmas.Option.{same_Some}
use Rattle.tus_request.specs.declared.heads.TheConstants.{MOST_HEAD}
use Rattle.enc_model.specs.declared.Encoding.{Encoding}
use Rattle.tus_request.specs.Lines.{lines, is_empty_line, up_to_empty, head_lines, bytes_in, Extent}
use Rattle.tus_request.specs.Lines.{extent_of, head_extent}
use Rattle.tus_request.specs.Requests.{Verdict}
use Rattle.tus_request.specs.Answers.{Judged, answer_with, answer_of}
use Rattle.tus_request.specs.Steady.{IsSteady}
use Rattle.tus_request.proofs.LineLemmas.{true_or_false}

abbrev Lines : Type 0
Lines = List (List ℕ)

mapped : {A B : Type 0} (f : A → B) (o : Option A) (y : B) → option_map f o ≡ Some y
    → (x : A) × (o ≡ Some x) × (f x ≡ y)
mapped f None y e = absurd (cc)
mapped f (Some x) y e = (x, refl, same_Some (f x) y e)

-- THE FIRST LINES

-- they are the lines of so many bytes, whatever follows these
record AreFirst (s : List ℕ) (hs : Lines) : Type 0 where
  inside : bytes_in hs ≤ length s
  stay : (t : List ℕ) → lines (take (bytes_in hs) s ++ t) ≡ hs ++ lines t

-- with a byte at the start
first_line : (b : ℕ) (s l : List ℕ) (hs xs : Lines) (c : Bool) (ms : Lines) → (b == 10) ≡ c → lines s ≡ ms
    → ((gs ys : Lines) → lines s ≡ gs ++ ys → AreFirst s gs) → lines (b ∷ s) ≡ (l ∷ hs) ++ xs
    → AreFirst (b ∷ s) (l ∷ hs)
first_line b s l hs xs true ms c m h e =
    let q = rw c at e in
    let p : b ∷ [] ≡ l = cc in
    let r = h hs xs (cc) in
    let n : length l + bytes_in hs ≡ suc (bytes_in hs) = rw (← p) (omega arith) in
    record { inside = omega (arith, r.inside); stay = λ t. let j = r.stay t in rw (n, c) (cc) }
first_line b s l hs xs false [] c m h e = let q = rw (c, m) at e in absurd (cc)
first_line b s l hs xs false (g ∷ ms) c m h e =
    let q = rw (c, m) at e in
    let p : b ∷ g ≡ l = cc in
    let r = h (g ∷ hs) xs (cc) in
    let n : length l + bytes_in hs ≡ suc (length g + bytes_in hs) = rw (← p) (omega arith) in
    record { inside = omega (arith, r.inside); stay = λ t. rw (n, c, r.stay t) (cc) }

first_lines : (s : List ℕ) (hs xs : Lines) → lines s ≡ hs ++ xs → AreFirst s hs
first_lines [] [] xs e = record { inside = omega arith; stay = λ t. refl }
first_lines [] (l ∷ hs) xs e = absurd (cc)
first_lines (b ∷ s) [] xs e = record { inside = omega arith; stay = λ t. refl }
first_lines (b ∷ s) (l ∷ hs) xs e =
    first_line b s l hs xs (b == 10) (lines s) refl refl (λ gs ys h. first_lines s gs ys h) e

-- THE HEAD

-- the lines of a head are the first ones, and a head whatever follows them
record IsHead (f : Lines → Option Lines) (ls hs : Lines) : Type 0 where
  rest : Lines
  split : ls ≡ hs ++ rest
  again : (ys : Lines) → f (hs ++ ys) ≡ Some hs
  some : 0 < bytes_in hs

-- with a line at the start
onto_head : (f g : Lines → Option Lines) (line : List ℕ) (ls hs : Lines)
    → ((ys : Lines) → g (line ∷ ys) ≡ option_map (λ more. line ∷ more) (f ys))
    → ((x : Lines) → f ls ≡ Some x → IsHead f ls x) → g (line ∷ ls) ≡ Some hs → IsHead g (line ∷ ls) hs
onto_head f g line ls hs step h e =
    let m = mapped (λ more. line ∷ more) (f ls) hs (rw (step ls) at e) in
    let r = h m.0 m.1 in
    rw (← m.2) (record {
      rest = r.rest;
      split = ap (λ t. line ∷ t) r.split;
      again = λ ys. step (m.0 ++ ys) ∙ ap (option_map (λ more. line ∷ more)) (r.again ys);
      some = omega (arith, r.some);
    })

empty_has : (line : List ℕ) → is_empty_line line ≡ true → 0 < length line
empty_has [] e = absurd (cc)
empty_has (b ∷ line) e = omega arith

up_head : (ls hs : Lines) → up_to_empty ls ≡ Some hs → IsHead up_to_empty ls hs
up_head [] hs e = absurd (cc)
up_head (line ∷ ls) hs e = elim (true_or_false (is_empty_line line)) [
  | inl t ↦ rw (← (same_Some (line ∷ []) hs (rw t at e))) (record {
    rest = ls;
    split = refl;
    again = λ ys. rw t;
    some = omega (arith, empty_has line t);
  })
  | inr t ↦ onto_head up_to_empty up_to_empty line ls hs (λ ys. rw t) (λ x h. up_head ls x h) e
]

head_head : (ls hs : Lines) → head_lines ls ≡ Some hs → IsHead head_lines ls hs
head_head [] hs e = absurd (cc)
head_head (line ∷ ls) hs e = elim (true_or_false (is_empty_line line)) [
  | inl t ↦ onto_head head_lines head_lines line ls hs (λ ys. rw t) (λ x h. head_head ls x h) e
  | inr t ↦ onto_head up_to_empty head_lines line ls hs (λ ys. rw t) (λ x h. up_head ls x h) e
]

-- a head lies in its stream, isn't empty, and is the same whatever follows it
pub record HasHead (s : List ℕ) (e : Extent) : Type 0 where
  pub bound : e.len ≤ length s
  pub some : 0 < e.len
  pub stay : (t : List ℕ) → head_extent (take e.len s ++ t) ≡ Some e

pub has_head : (s : List ℕ) (e : Extent) → head_extent s ≡ Some e → HasHead s e
has_head s e q =
    let m = mapped extent_of (head_lines (lines s)) e q in
    let h = head_head (lines s) m.0 m.1 in
    let f = first_lines s m.0 h.rest h.split in
    rw (← m.2) (record { bound = f.inside; some = h.some; stay = λ t. rw (f.stay t, h.again (lines t)) })

-- THE ANSWER

pub take_onto : (n : ℕ) (a b : List ℕ) → length a ≤ n → take n (a ++ b) ≡ a ++ take (n - length a) b
take_onto n a b within =
    let e : n ≡ length a + (n - length a) = omega arith in
    ap (λ k. take k (a ++ b)) e ∙ take-append-add a b (n - length a)

own_bytes : (n : ℕ) (s t : List ℕ) → n ≤ length s → take n (take n s ++ t) ≡ take n s
own_bytes n s t within = rw (length-take-le n s within) at (take-append_seam (take n s) t)

-- the answer to a stream's start is that to its own bytes, whatever follows them
record IsSettled (offers : Encoding → Bool) (s : List ℕ) (n : ℕ) (v : Verdict) : Type 0 where
  some : 0 < n
  within : n ≤ length s
  stay : (t : List ℕ) → answer_of offers (take n s ++ t) ≡ Judged n v

module _ (offers : Encoding → Bool) where
  settled_by : (s : List ℕ) (n : ℕ) (v : Verdict) (o : Option Extent) → head_extent (take MOST_HEAD s) ≡ o
      → answer_with offers s o ≡ Judged n v → IsSettled offers s n v
  unfolding answer_of
  settled_by s n v None h q = elim (true_or_false (nat_lt (length s) MOST_HEAD)) [
    | inl t ↦ absurd (cc (rw t at q))
    | inr t ↦
        let k = rw t at q in
        let is : MOST_HEAD ≡ n = cc in
        let long : MOST_HEAD ≤ length s = ltb-false (length s) MOST_HEAD t in
        let l : length (take MOST_HEAD s) ≡ MOST_HEAD = length-take-le MOST_HEAD s long in
        rw (← is) (record {
          some = omega arith;
          within = long;
          stay = λ t.
              let g : nat_lt (length (take MOST_HEAD s ++ t)) MOST_HEAD ≡ false =
              le-ltb (length (take MOST_HEAD s ++ t)) MOST_HEAD (omega (arith, length-append (take MOST_HEAD s) t)) in
              rw (own_bytes MOST_HEAD s t long, h, g) (rw (← is) at k);
        })
  ]
  settled_by s n v (Some e) h q =
      let f = has_head (take MOST_HEAD s) e h in
      let few : e.len ≤ MOST_HEAD = omega (arith, f.bound, length-take MOST_HEAD s) in
      let within : e.len ≤ length s = omega (arith, f.bound, length-take MOST_HEAD s) in
      let l : length (take e.len s) ≡ e.len = length-take-le e.len s within in
      let is : e.len ≡ n = elim (true_or_false (nat_lt 65 e.texts)) [
        | inl t ↦ cc (rw t at q)
        | inr t ↦ cc (rw t at q, l)
      ] in
      rw (← is) (record {
        some = f.some;
        within = within;
        stay = λ t.
            let k = rw (take-take e.len MOST_HEAD s few) at (f.stay (take (MOST_HEAD - length (take e.len s)) t)) in
            rw (take_onto MOST_HEAD (take e.len s) t (omega arith), k, own_bytes e.len s t within) (rw (← is) at q);
      })

  judged_settled : (s : List ℕ) (n : ℕ) (v : Verdict) → answer_of offers s ≡ Judged n v → IsSettled offers s n v
  unfolding answer_of
  judged_settled s n v q = settled_by s n v (head_extent (take MOST_HEAD s)) refl q

  pub steady : IsSteady (answer_of offers)
  steady = record {
    some = λ s n v q. (judged_settled s n v q).some;
    within = λ s n v q. (judged_settled s n v q).within;
    unchanged = λ s more n v q. rw (← append_assoc, take-append-drop) at
        ((judged_settled s n v q).stay (drop n s ++ more));
    own = λ s n v q. rw append-nil at ((judged_settled s n v q).stay []);
  }
