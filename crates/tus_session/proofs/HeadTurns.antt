-- The turn of a connection, by its request under way: a head, or a body and how many bytes it still wants.
use Rattle.std.proofs.Common.{ℕ, ◌+◌, ◌-◌, ◌<◌, ◌≤◌, ◌≡◌, inl, inr, false, List, [], ◌++◌, Some, None, length, min}
use Rattle.std.proofs.Common.{take, drop, refl, ◌∙◌, ap, arith, append_assoc, Option}
use Rattle.std.proofs.lemmas.Bool.{cases_lt}
use Rattle.std.proofs.lemmas.List.{length-take-le, take_all, length-append, length-drop, drop-take, take-append-drop}
use Rattle.std.proofs.lemmas.List.{take-take}
use Rattle.tus_request.specs.Answers.{More, Judged}
use Rattle.tus_request.specs.Requests.{Verdict, body_length}
use Rattle.upload_rules.specs.World.{World}
use Rattle.tus_action.specs.Acts.{acted}
use Rattle.tus_session.specs.Streams.{Moments, Rest, InHead, InBody, cut, moments, taken, Asked}
use Rattle.tus_session.specs.Represents.{RestIs}
use Rattle.tus_session.specs.Turns.{Conn, at_head, turn_of, came_with, came_at, reader, came_turn, Turn, body_step}
use Rattle.tus_session.specs.Heads.{InsideHead, CompletesHead}
use Rattle.tus_session.proofs.Cuts.{moments_alone, taken_alone, left, left_alone}
use Rattle.tus_session.proofs.Unfinished.{judged_as, only_head, head_part, head_whole, both_whole, whole_taken}
use Rattle.tus_session.proofs.Unfinished.{head_new, IsBody, only_body, longer, bytes_came, body_ended, left_body}
use Rattle.tus_session.proofs.Unfinished.{part_came, rest_came, part_taken, rest_taken}
use Rattle.tus_session.proofs.NewRests.{is_steady, head_left, head_only, head_part_rest, head_whole_rest, drop_after}
use Rattle.tus_session.proofs.NewRests.{take_after, body_part_rest, body_whole_rest}

abbrev pub part_moments : List ℕ → List ℕ → ℕ → ℕ → Verdict → Moments
part_moments h bytes n before v = record {
  head = Some (judged_as (h ++ bytes) n v);
  body = None;
  came = drop before bytes;
}

abbrev pub whole_moments : List ℕ → List ℕ → ℕ → ℕ → Verdict → Moments
whole_moments h bytes n before v =
    let asked = judged_as (h ++ take (before + body_length v) bytes) n v in
    record { head = Some asked; body = Some asked; came = take (body_length v) (drop before bytes) }

module _ (w : World) (conn : Conn) (h : List ℕ) (inside : InsideHead w conn h) where
  by_moments : (piece : List ℕ) (n : ℕ) (m : Moments) → taken (reader w) h piece ≡ n
      → moments (reader w) h (take n piece) ≡ m
      → came_turn w conn piece ≡ came_at w conn piece n m
  unfolding came_turn
  by_moments piece n m e f =
      let answer = reader w in
      let s = conn.stream in
      let l = head_left answer (is_steady w) s h inside.rest in
      let took = taken_alone answer (is_steady w) s piece in
      rw (inside.pending, took, l, e, moments_alone answer (is_steady w) s (take n piece), l, f)

  -- the head isn't whole yet
  pub more_turn_is : (piece : List ℕ) → reader w (h ++ piece) ≡ More
      → came_turn w conn piece ≡ turn_of conn piece (length piece)
      (record { world = w; draft = None; bytes = []; text = []; pending = None; closes = false })
  more_turn_is piece e =
      let none : Moments = record { head = None; body = None; came = [] } in
      let p = head_part (reader w) (is_steady w) h piece
      (head_only (reader w) (is_steady w) conn.stream h inside.rest) e in
      by_moments piece (length piece) none p.1 (rw (take_all (length piece) piece (omega arith)) p.0)
      ∙ ap (λ d. came_with conn piece (length piece) none (at_head w d None)) inside.draft

  module _ (bytes : List ℕ) (n before : ℕ) (v : Verdict) (judged : reader w (h ++ bytes) ≡ Judged n v)
      (before_is : before ≡ n - length h) where
    pub head_within : (n ≡ length h + before) × (before ≤ length bytes)
    head_within =
        let only = head_only (reader w) (is_steady w) conn.stream h inside.rest in
        let new = head_new (reader w) (is_steady w) h bytes n v only judged in
        let within = simp length-append at ((is_steady w).within (h ++ bytes) n v judged) in
        (omega arith, omega arith)

    -- a prefix of the bytes with the whole head has the same verdict
    pub prefix_judged : (m : ℕ) → reader w (h ++ take (before + m) bytes) ≡ Judged n v
    prefix_judged m =
        let q = take (before + m) bytes in
        let a = rw (take_after h bytes before n head_within.0) at ((is_steady w).own (h ++ bytes) n v judged) in
        let parts = take-take before (before + m) bytes (omega arith) in
        rw (← (take-append-drop before q), parts, ← (append_assoc h (take before bytes) (drop before q)))
        ((is_steady w).unchanged (h ++ take before bytes) (drop before q) n v a)

    pub prefix_body : (m : ℕ) → drop n (h ++ take (before + m) bytes) ≡ take m (drop before bytes)
    prefix_body m = drop_after h (take (before + m) bytes) before n head_within.0 ∙ drop-take before m bytes

-- the turn of a whole head takes the part of the body that came with it
pub record HeadTurn (w : World) (conn : Conn) (bytes : List ℕ) (before : ℕ) (v : Verdict) : Type 0 where
  pub count : ℕ
  pub moments : Moments
  pub rest : Rest
  pub turn_is : came_turn w conn bytes ≡ came_with conn bytes count moments (acted w v)
  pub rest_is : (cut (reader w) (conn.stream ++ take count bytes)).rest ≡ rest
  pub left_is : RestIs [] (body_length v - min (body_length v) (length (drop before bytes))) rest
  pub count_is : count ≡ before + min (body_length v) (length (drop before bytes))
  pub head_is : count - length moments.came ≡ before

module _ (w : World) (conn : Conn) (h bytes : List ℕ) (n before : ℕ) (v : Verdict)
    (is : CompletesHead w conn h bytes n before v) where
  abbrev m : ℕ
  m = body_length v

  only : cut (reader w) h ≡ only_head h
  only = head_only (reader w) (is_steady w) conn.stream h is.inside.rest

  pub within : (n ≡ length h + before) × (before ≤ length bytes)
  within = head_within w conn h is.inside bytes n before v is.judged is.before_is

  pub body_is : drop n (h ++ bytes) ≡ drop before bytes
  body_is = drop_after h bytes before n within.0

  pub prefix_is : (k : ℕ) → drop n (h ++ take (before + k) bytes) ≡ take k (drop before bytes)
  prefix_is k = prefix_body w conn h is.inside bytes n before v is.judged is.before_is k

  pub verdict_is : (k : ℕ) → reader w (h ++ take (before + k) bytes) ≡ Judged n v
  verdict_is k = prefix_judged w conn h is.inside bytes n before v is.judged is.before_is k

  -- fewer bytes of the body than it wants
  pub part_turn_is : length (drop before bytes) < m
      → came_turn w conn bytes ≡ came_with conn bytes (length bytes) (part_moments h bytes n before v) (acted w v)
  part_turn_is few =
      let p = head_whole (reader w) (is_steady w) h bytes n v only is.judged (rw body_is few) in
      by_moments w conn h is.inside bytes (length bytes) (part_moments h bytes n before v) p.1
      (rw (take_all (length bytes) bytes (omega arith), body_is) (rw body_is at p.0))

  -- the whole body is there
  pub whole_turn_is : m ≤ length (drop before bytes)
      → came_turn w conn bytes ≡ came_with conn bytes (before + m) (whole_moments h bytes n before v) (acted w v)
  whole_turn_is enough =
      let q = take (before + m) bytes in
      let t = whole_taken (reader w) (is_steady w) h bytes n v only is.judged (rw body_is enough) in
      let all = length-take-le m (drop before bytes) enough in
      let here = within.0 in
      by_moments w conn h is.inside bytes (before + m) (whole_moments h bytes n before v) (omega arith)
      (rw (prefix_is m) (rw (prefix_is m) at
      (both_whole (reader w) (is_steady w) h q n v only (verdict_is m) (rw (prefix_is m) all))))

  pub head_turn : HeadTurn w conn bytes before v
  head_turn =
      let l = length-drop before bytes in
      let here = within in
      elim (cases_lt (length (drop before bytes)) m) [
        | inl few ↦
            let e : length (drop n (h ++ bytes)) ≡ length (drop before bytes) = ap length body_is in
            let part = head_part_rest (reader w) (is_steady w) conn.stream h is.inside.rest bytes n v is.judged
            (omega arith) in
            record {
              count = length bytes;
              moments = part_moments h bytes n before v;
              rest = InBody (judged_as (h ++ bytes) n v);
              turn_is = part_turn_is few;
              rest_is = rw (take_all (length bytes) bytes (omega arith)) part;
              left_is = (refl, omega arith);
              count_is = omega arith;
              head_is = omega arith;
            }
        | inr enough ↦
            let all = length-take-le m (drop before bytes) enough in
            record {
              count = before + m;
              moments = whole_moments h bytes n before v;
              rest = InHead [];
              turn_is = whole_turn_is enough;
              rest_is = head_whole_rest (reader w) (is_steady w) conn.stream h is.inside.rest (take (before + m) bytes)
                  n v (verdict_is m) (rw (prefix_is m) all);
              left_is = (refl, omega arith);
              count_is = omega arith;
              head_is = omega arith;
            }
      ]

-- A BODY

-- a turn in which these bytes of a body came, and perhaps its moment
abbrev pub body_turn : World → Conn → List ℕ → ℕ → Option Asked → Turn
body_turn w k piece n moment = turn_of k piece n (body_step (at_head w k.draft None) (take n piece) moment k.draft)

-- a turn that takes what the body still wants of a piece
pub record BodyTurn (w : World) (k : Conn) (asked : Asked) (piece : List ℕ) : Type 0 where
  pub count : ℕ
  pub moment : Option Asked
  pub rest : Rest
  pub turn_is : came_turn w k piece ≡ body_turn w k piece count moment
  pub rest_is : (cut (reader w) (k.stream ++ take count piece)).rest ≡ rest
  pub left_is : (left : ℕ) → left ≡ body_length asked.verdict - length asked.body
      → RestIs [] (left - min left (length piece)) rest × (count ≡ min left (length piece))

module _ (w : World) (k : Conn) (asked : Asked) (rest : (cut (reader w) k.stream).rest ≡ InBody asked) where
  under_way : (n : ℕ) × IsBody (reader w) (left (reader w) k.stream) n asked
  under_way = left_body (reader w) (is_steady w) k.stream asked rest

  body_only : cut (reader w) (left (reader w) k.stream) ≡ only_body asked
  body_only = left_alone (reader w) (is_steady w) k.stream ∙ ap (λ x. record { whole = []; rest = x }) rest

  body_moments : (piece : List ℕ) (n : ℕ) (m : Moments) → k.pending ≡ None
      → taken (reader w) (left (reader w) k.stream) piece ≡ n
      → moments (reader w) (left (reader w) k.stream) (take n piece) ≡ m → came_turn w k piece ≡ came_at w k piece n m
  unfolding came_turn
  body_moments piece n m idle e f =
      let took = taken_alone (reader w) (is_steady w) k.stream piece in
      rw (idle, took, e, moments_alone (reader w) (is_steady w) k.stream (take n piece), f)

  -- fewer bytes than the body wants: all are taken
  pub part_turn : (piece : List ℕ) → k.pending ≡ None → length asked.body + length piece < body_length asked.verdict
      → came_turn w k piece ≡ body_turn w k piece (length piece) None
  part_turn piece idle few =
      let u = left (reader w) k.stream in
      let q = take (length piece) piece in
      let all = take_all (length piece) piece (omega arith) in
      let n = part_taken (reader w) (is_steady w) u piece under_way.0 asked under_way.1 body_only few in
      body_moments piece (length piece) (bytes_came q) idle n
      (part_came (reader w) (is_steady w) u q under_way.0 asked under_way.1 body_only (rw all few))

  -- the rest of the body is in the piece: it alone is taken, and it is the body moment
  pub rest_turn : (piece : List ℕ) → k.pending ≡ None → body_length asked.verdict ≤ length asked.body + length piece
      → length asked.body < body_length asked.verdict
      → came_turn w k piece ≡ body_turn w k piece (body_length asked.verdict - length asked.body)
      (Some (longer asked (take (body_length asked.verdict - length asked.body) piece)))
  rest_turn piece idle enough wants =
      let u = left (reader w) k.stream in
      let c = body_length asked.verdict - length asked.body in
      let q = take c piece in
      let l = length-take-le c piece (omega arith) in
      let n = rest_taken (reader w) (is_steady w) u piece under_way.0 asked under_way.1 body_only enough in
      body_moments piece c (body_ended asked q) idle n
      (rest_came (reader w) (is_steady w) u q under_way.0 asked under_way.1 body_only (omega arith))

  pub turn_at : (piece : List ℕ) → k.pending ≡ None → BodyTurn w k asked piece
  turn_at piece idle =
      let c = body_length asked.verdict - length asked.body in
      let wants = under_way.1.wants in
      elim (cases_lt (length piece) c) [
        | inl few ↦
            let part = body_part_rest (reader w) (is_steady w) k.stream piece asked rest (omega arith) in
            let l = length-append asked.body piece in
            record {
              count = length piece;
              moment = None;
              rest = InBody (longer asked piece);
              turn_is = part_turn piece idle (omega arith);
              rest_is = rw (take_all (length piece) piece (omega arith)) part;
              left_is = λ left e. ((refl, omega arith), omega arith);
            }
        | inr enough ↦
            let l = length-take-le c piece enough in
            record {
              count = c;
              moment = Some (longer asked (take c piece));
              rest = InHead [];
              turn_is = rest_turn piece idle (omega arith) wants;
              rest_is = body_whole_rest (reader w) (is_steady w) k.stream (take c piece) asked rest (omega arith);
              left_is = λ left e. ((refl, omega arith), omega arith);
            }
      ]
