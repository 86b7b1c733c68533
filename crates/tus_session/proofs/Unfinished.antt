-- What an event makes of an unfinished body: only how many bytes it still wants matters.
use Rattle.std.proofs.Common.{ℕ, ◌+◌, ◌-◌, ◌<◌, ◌≤◌, ◌≡◌, Bool, true, false, List, [], ◌∷◌, ◌++◌, Some, None, length}
use Rattle.std.proofs.Common.{take, drop, refl, sym, ◌∙◌, ap, arith, nat_lt, inl, inr}
use Rattle.std.proofs.lemmas.List.{take-append-le, take-append-drop, length-append, take_all, drop_all, length-take-le}
use Rattle.std.proofs.lemmas.Bool.{cases_lt, le-ltb, lt-ltb, ltb-true}
use Rattle.std.proofs.Math.Seq.{drop-append_seam}
use Rattle.tus_request.specs.Requests.{Verdict, body_length}
use Rattle.tus_request.specs.Steady.{IsSteady}
use Rattle.tus_request.specs.Answers.{Answer, More, Judged}
use Rattle.tus_session.specs.Streams.{Asked, InHead, InBody, Cut, Reader, after_head, by_answer, cut, Moments, moments}
use Rattle.tus_session.specs.Streams.{taken}
use Rattle.tus_session.proofs.Cuts.{cut_steps, left, left_alone, head_there}

-- the bytes are a head and part of its body, and nothing else
pub record IsBody (answer : Reader) (u : List ℕ) (n : ℕ) (r : Asked) : Type 0 where
  pub judged : answer u ≡ Judged n r.verdict
  pub head : take n u ≡ r.head
  pub body : drop n u ≡ r.body
  pub wants : length r.body < body_length r.verdict

abbrev pub judged_as : List ℕ → ℕ → Verdict → Asked
judged_as s n v = record { head = take n s; verdict = v; body = drop n s }

abbrev pub only_body : Asked → Cut
only_body r = record { whole = []; rest = InBody r }

body_case : (answer : Reader) (u : List ℕ) (r : Asked) (n : ℕ) (v : Verdict) → answer u ≡ Judged n v → (b : Bool)
    → nat_lt (length (drop n u)) (body_length v) ≡ b → only_body r ≡ after_head (cut answer) (take n u) v (drop n u) b
    → (m : ℕ) × IsBody answer u m r
body_case answer u r n v e true under q =
    let x : InBody r ≡ InBody (judged_as u n v) = ap (λ (c : Cut). c.rest) q in
    let f : r ≡ judged_as u n v = cc in
    let wants = ltb-true (length (drop n u)) (body_length v) under in
    (n, rw f (record { judged = e; head = refl; body = refl; wants = wants }))
body_case answer u r n v e false there q = absurd (omega (arith, ap (λ (c : Cut). length c.whole) q))

answer_case : (answer : Reader) (u : List ℕ) (r : Asked) (a : Answer) → answer u ≡ a
    → only_body r ≡ by_answer (cut answer) u a → (m : ℕ) × IsBody answer u m r
answer_case answer u r More e q = let x : InBody r ≡ InHead u = ap (λ (c : Cut). c.rest) q in absurd (cc)
answer_case answer u r (Judged n v) e q = body_case answer u r n v e (nat_lt (length (drop n u)) (body_length v)) refl q

abbrev pub longer : Asked → List ℕ → Asked
longer r q = record r { body = r.body ++ q }

abbrev pub bytes_came : List ℕ → Moments
bytes_came q = record { head = None; body = None; came = q }

abbrev pub body_ended : Asked → List ℕ → Moments
body_ended r q = record { head = None; body = Some (longer r q); came = q }

-- AN UNFINISHED HEAD
abbrev pub only_head : List ℕ → Cut
only_head h = record { whole = []; rest = InHead h }

-- THE HEAD'S LAST BYTE comes in the event that makes the head whole
no_answer_case : (answer : Reader) (h : List ℕ) (n : ℕ) (v : Verdict) (b : Bool)
    → only_head h ≡ after_head (cut answer) (take n h) v (drop n h) b → ⊥
no_answer_case answer h n v true q =
    let x : InHead h ≡ InBody (judged_as h n v) = ap (λ (c : Cut). c.rest) q in absurd (cc)
no_answer_case answer h n v false q = omega (arith, ap (λ (c : Cut). length c.whole) q)

module _ (answer : Reader) (steady : IsSteady answer) where
  -- what is left of a stream whose rest is a body
  pub left_body : (s : List ℕ) (r : Asked) → (cut answer s).rest ≡ InBody r
      → (m : ℕ) × IsBody answer (left answer s) m r
  left_body s r e =
      let u = left answer s in
      let f : cut answer u ≡ only_body r = left_alone answer steady s ∙ ap (λ x. record { whole = []; rest = x }) e in
      answer_case answer u r (answer u) refl (sym f ∙ cut_steps answer steady u)

  -- the cut with more of the body
  pub cut_more : (u q : List ℕ) (n : ℕ) (r : Asked) → IsBody answer u n r
      → cut answer (u ++ q)
      ≡ after_head (cut answer) r.head r.verdict (r.body ++ q) (nat_lt (length (r.body ++ q)) (body_length r.verdict))
  cut_more u q n r is =
      let v = r.verdict in
      let there = head_there (cut answer) n v u q (steady.within u n v is.judged) in
      rw (cut_steps answer steady (u ++ q), steady.unchanged u q n v is.judged, there, is.head, is.body)

  empty_answer : (a : Answer) → answer [] ≡ a → a ≡ More
  empty_answer More e = refl
  empty_answer (Judged n v) e =
      absurd (omega (arith, steady.some [] n v e, steady.within [] n v e))

  pub empty_cut : cut answer [] ≡ record { whole = []; rest = InHead [] }
  empty_cut = rw (cut_steps answer steady [], empty_answer (answer []) refl)

  -- MORE OF A BODY: fewer bytes than it wants
  pub part_cut : (u q : List ℕ) (n : ℕ) (r : Asked) → IsBody answer u n r
      → length r.body + length q < body_length r.verdict → cut answer (u ++ q) ≡ only_body (longer r q)
  part_cut u q n r is few =
      let under : length (r.body ++ q) < body_length r.verdict = simp length-append few in
      rw (cut_more u q n r is, lt-ltb (length (r.body ++ q)) (body_length r.verdict) under)

  pub part_came : (u q : List ℕ) (n : ℕ) (r : Asked) → IsBody answer u n r → cut answer u ≡ only_body r
      → length r.body + length q < body_length r.verdict → moments answer u q ≡ bytes_came q
  unfolding moments
  part_came u q n r is only few =
      rw (only, part_cut u q n r is few, drop-append_seam r.body q)

  -- its last bytes
  pub rest_cut : (u q : List ℕ) (n : ℕ) (r : Asked) → IsBody answer u n r
      → length r.body + length q ≡ body_length r.verdict
      → cut answer (u ++ q) ≡ record { whole = longer r q ∷ []; rest = InHead [] }
  rest_cut u q n r is all =
      let m = body_length r.verdict in
      let l : length (r.body ++ q) ≡ m = simp length-append all in
      let body = r.body ++ q in
      let none = drop_all m body (omega arith) in
      rw (cut_more u q n r is, le-ltb (length body) m (omega arith), take_all m body (omega arith), none, empty_cut)

  pub rest_came : (u q : List ℕ) (n : ℕ) (r : Asked) → IsBody answer u n r → cut answer u ≡ only_body r
      → length r.body + length q ≡ body_length r.verdict → moments answer u q ≡ body_ended r q
  unfolding moments
  rest_came u q n r is only all =
      rw (only, rest_cut u q n r is all, drop-append_seam r.body q)

  -- HOW MUCH IS TAKEN of a body: the piece, or what the body still wants
  pub part_taken : (u p : List ℕ) (n : ℕ) (r : Asked) → IsBody answer u n r → cut answer u ≡ only_body r
      → length r.body + length p < body_length r.verdict → taken answer u p ≡ length p
  unfolding taken
  part_taken u p n r is only few = rw (only, part_cut u p n r is few)

  pub rest_taken : (u p : List ℕ) (n : ℕ) (r : Asked) → IsBody answer u n r → cut answer u ≡ only_body r
      → body_length r.verdict ≤ length r.body + length p → taken answer u p ≡ body_length r.verdict - length r.body
  unfolding taken
  rest_taken u p n r is only enough =
      let m = body_length r.verdict in
      let l : m ≤ length (r.body ++ p) = simp length-append enough in
      let t = length-take-le m (r.body ++ p) l in
      let parts = simp (length-append, is.head, is.body) at (ap length (take-append-drop n u)) in
      rw (only, cut_more u p n r is, le-ltb (length (r.body ++ p)) m l) (omega arith)

  -- the head isn't whole yet
  pub more_cut : (s : List ℕ) → answer s ≡ More → cut answer s ≡ only_head s
  more_cut s e = rw (cut_steps answer steady s, e)

  pub head_part : (h q : List ℕ) → cut answer h ≡ only_head h → answer (h ++ q) ≡ More
      → (moments answer h q ≡ record { head = None; body = None; came = [] }) × (taken answer h q ≡ length q)
  unfolding moments taken
  head_part h q only e =
      let f = more_cut (h ++ q) e in
      (rw (only, f), rw (only, f))

  -- the head is whole, and its body isn't
  pub begun_cut : (s : List ℕ) (n : ℕ) (v : Verdict) → answer s ≡ Judged n v → length (drop n s) < body_length v
      → cut answer s ≡ only_body (judged_as s n v)
  begun_cut s n v e few =
      rw (cut_steps answer steady s, e, lt-ltb (length (drop n s)) (body_length v) few)

  pub head_whole : (h q : List ℕ) (n : ℕ) (v : Verdict) → cut answer h ≡ only_head h → answer (h ++ q) ≡ Judged n v
      → length (drop n (h ++ q)) < body_length v
      → (moments answer h q ≡ record { head = Some (judged_as (h ++ q) n v); body = None; came = drop n (h ++ q) }) ×
      (taken answer h q ≡ length q)
  unfolding moments taken
  head_whole h q n v only e few =
      let f = begun_cut (h ++ q) n v e few in
      (rw (only, f), rw (only, f))

  -- both are whole, and the bytes end there
  pub whole_cut : (s : List ℕ) (n : ℕ) (v : Verdict) → answer s ≡ Judged n v → length (drop n s) ≡ body_length v
      → cut answer s ≡ record { whole = judged_as s n v ∷ []; rest = InHead [] }
  whole_cut s n v e all =
      let m = body_length v in
      let rest = drop n s in
      let none = drop_all m rest (omega arith) in
      let steps = cut_steps answer steady s in
      rw (steps, e, le-ltb (length rest) m (omega arith), take_all m rest (omega arith), none, empty_cut)

  pub both_whole : (h q : List ℕ) (n : ℕ) (v : Verdict) → cut answer h ≡ only_head h → answer (h ++ q) ≡ Judged n v
      → length (drop n (h ++ q)) ≡ body_length v
      → moments answer h q
      ≡ record { head = Some (judged_as (h ++ q) n v); body = Some (judged_as (h ++ q) n v); came = drop n (h ++ q) }
  unfolding moments
  both_whole h q n v only e all = rw (only, whole_cut (h ++ q) n v e all)

  -- a piece in which the request ends: its head and body alone are taken
  pub whole_taken : (h p : List ℕ) (n : ℕ) (v : Verdict) → cut answer h ≡ only_head h → answer (h ++ p) ≡ Judged n v
      → body_length v ≤ length (drop n (h ++ p)) → taken answer h p ≡ n + body_length v - length h
  unfolding taken
  whole_taken h p n v only e enough =
      let m = body_length v in
      let a = length-take-le n (h ++ p) (steady.within (h ++ p) n v e) in
      let b = length-take-le m (drop n (h ++ p)) enough in
      rw (only, cut_steps answer steady (h ++ p), e, le-ltb (length (drop n (h ++ p))) m enough) (omega arith)

  no_answer : (h : List ℕ) (n : ℕ) (v : Verdict) → cut answer h ≡ only_head h → answer h ≡ Judged n v → ⊥
  no_answer h n v only e =
      no_answer_case answer h n v (nat_lt (length (drop n h)) (body_length v))
      (sym only ∙ (cut_steps answer steady h ∙ ap (by_answer (cut answer) h) e))

  pub head_new : (h q : List ℕ) (n : ℕ) (v : Verdict) → cut answer h ≡ only_head h → answer (h ++ q) ≡ Judged n v
      → length h < n
  head_new h q n v only e = elim (cases_lt (length h) n) [
    | inl new ↦ new
    | inr within ↦
        let own = rw (take-append-le n h q within) at (steady.own (h ++ q) n v e) in
        absurd (no_answer h n v only
        (rw (take-append-drop n h) at (steady.unchanged (take n h) (drop n h) n v own)))
  ]
