-- The bytes of a body: a PATCH that is open holds what came of the body that is under way.
use Rattle.std.proofs.Common.{◌≡◌, ◌+◌, ◌-◌, ◌<◌, ◌≤◌, ℕ, List, [], ◌++◌, length, take, drop, Option, Some, None}
use Rattle.std.proofs.Common.{inl, inr, refl, sym, ◌∙◌, ap, arith}
use Rattle.std.proofs.lemmas.Option.{none-some, same_Some}
use Rattle.std.proofs.lemmas.Bool.{cases_lt}
use Rattle.std.proofs.lemmas.Bool.Decides.{nat_tests}
use Rattle.std.proofs.lemmas.List.{length-take-le, take_all}
use Rattle.enc_model.specs.Indexes.{offers}
use Rattle.tus_request.proofs.Prefixes.{steady}
use Rattle.tus_request.specs.Answers.{Answer, More, Judged}
use Rattle.tus_request.specs.Requests.{Request, Verdict, Asks, Refuses, body_length}
use Rattle.tus_request.specs.Steady.{IsSteady}
use Rattle.upload_rules.specs.Store.{find}
use Rattle.upload_rules.specs.World.{Patch, World}
use Rattle.upload_rules.specs.Calls.{first_patch}
use Rattle.tus_action.specs.Acts.{Acted, acted}
use Rattle.tus_session.specs.Streams.{Asked, Rest, InHead, InBody, cut, Moments, moments, taken}
use Rattle.tus_session.specs.Turns.{Conn, reader, at_head}
use Rattle.tus_session.specs.Heads.{InsideHead}
use Rattle.tus_session.proofs.Cuts.{left, left_alone, moments_alone, taken_alone}
use Rattle.tus_session.proofs.Unfinished.{only_body, longer, bytes_came, body_ended, left_body, part_came, rest_came}
use Rattle.tus_session.proofs.Unfinished.{part_taken, rest_taken, judged_as, head_part, head_whole, both_whole}
use Rattle.tus_session.proofs.Unfinished.{whole_taken}
use Rattle.tus_session.proofs.NewRests.{head_left, head_only, head_part_rest, body_part_rest, drop_after}
use Rattle.tus_session.proofs.HeadTurns.{head_within, prefix_judged, prefix_body}
use Rattle.tus_session.proofs.RequestLeaves.{Leaves, Nothing, Text, Patching, leaves}

pub none_if : {A : Type 0} (o : Option A) → ((d : A) → o ≡ Some d → ⊥) → o ≡ None
none_if None h = refl
none_if (Some d) h = absurd (h d refl)

-- the open patch holds what came of the body
pub record Holds (w : World) (k : Conn) (d : ℕ) : Type 0 where
  pub asked : Asked
  pub patch : Patch
  pub rest : (cut (reader w) k.stream).rest ≡ InBody asked
  pub found : find d w.patches ≡ Some patch
  pub body : patch.body ≡ asked.body

abbrev pub DraftHolds : World → Conn → Type 0
DraftHolds w k = (d : ℕ) → k.draft ≡ Some d → Holds w k d

-- A PATCH that is opened

leaves_first : (w : World) (r : Request) (a : Acted) (d : ℕ) → Leaves w r a → a.draft ≡ Some d
    → (p : Patch) × (find d a.world.patches ≡ Some p) × (p.body ≡ [])
leaves_first w r a d (Nothing moves none idle) e = absurd (none-some d (sym none ∙ e))
leaves_first w r a d (Text h same none some stays) e = absurd (none-some d (sym none ∙ e))
leaves_first w r a d (Patching y) e =
    (first_patch y.number r.length y.declare y.up, grind (arith, nat_tests), refl)

opened_first : (w : World) (v : Verdict) (d : ℕ) → (acted w v).draft ≡ Some d
    → (p : Patch) × (find d (acted w v).world.patches ≡ Some p) × (p.body ≡ [])
opened_first w (Asks r) d e = leaves_first w r (acted w (Asks r)) d (leaves w r) e
opened_first w (Refuses x) d e = absurd (none-some d e)

-- WHAT A CALL BRINGS, where a patch is open after its head moment
pub record Brings (w : World) (k : Conn) (piece : List ℕ) (n : ℕ) (m : Moments) (d : ℕ) : Type 0 where
  pub patch : Patch
  pub found : find d (at_head w k.draft m.head).world.patches ≡ Some patch
  pub whole : (r : Asked) → m.body ≡ Some r → r.body ≡ patch.body ++ m.came
  pub part : m.body ≡ None
      → (r : Asked) × ((cut (reader w) (k.stream ++ take n piece)).rest ≡ InBody r) × (r.body ≡ patch.body ++ m.came)

-- and a head comes only where none was open
pub record BringsAll (w : World) (k : Conn) (piece : List ℕ) (n : ℕ) (m : Moments) : Type 0 where
  pub each : (d : ℕ) → (at_head w k.draft m.head).draft ≡ Some d → Brings w k piece n m d
  pub first : (r : Asked) → m.head ≡ Some r → k.draft ≡ None

-- what the bytes bring that the call takes
abbrev pub CallBrings : World → Conn → List ℕ → Type 0
CallBrings w k piece =
    let n = taken (reader w) k.stream piece in BringsAll w k piece n (moments (reader w) k.stream (take n piece))

module _ (w : World) (k : Conn) (holds : DraftHolds w k) where
  is_steady : IsSteady (reader w)
  is_steady = steady (offers w.store.indexes)

  -- a body is under way
  module _ (asked : Asked) (rest : (cut (reader w) k.stream).rest ≡ InBody asked) (piece : List ℕ) where
    abbrev u : List ℕ
    u = left (reader w) k.stream

    only : cut (reader w) u ≡ only_body asked
    only = left_alone (reader w) is_steady k.stream ∙ ap (λ x. record { whole = []; rest = x }) rest

    body_is : (d : ℕ) (h : Holds w k d) → h.patch.body ≡ asked.body
    body_is d h = let same : h.asked ≡ asked = cc in rw (← same) h.body

    part_brings : length asked.body + length piece < body_length asked.verdict
        → CallBrings w k piece
    part_brings few =
        let b = left_body (reader w) is_steady k.stream asked rest in
        let t : take (length piece) piece ≡ piece = take_all (length piece) piece (omega arith) in
        let n : taken (reader w) k.stream piece ≡ length piece =
        taken_alone (reader w) is_steady k.stream piece
        ∙ part_taken (reader w) is_steady u piece b.0 asked b.1 only few in
        let m : moments (reader w) k.stream (take (length piece) piece) ≡ bytes_came piece =
        rw t (moments_alone (reader w) is_steady k.stream piece
        ∙ part_came (reader w) is_steady u piece b.0 asked b.1 only few) in
        let r : (cut (reader w) (k.stream ++ take (length piece) piece)).rest ≡ InBody (longer asked piece) =
        rw t (body_part_rest (reader w) is_steady k.stream piece asked rest few) in
        rw (n, m) (record {
          each = λ d e.
              let h = holds d e in
              record {
                patch = h.patch;
                found = h.found;
                whole = λ x none. absurd (none-some x none);
                part = λ none. (longer asked piece, r, ap (λ x. x ++ piece) (sym (body_is d h)));
              };
          first = λ x none. absurd (none-some x none);
        })

    rest_brings : body_length asked.verdict ≤ length asked.body + length piece
        → CallBrings w k piece
    rest_brings enough =
        let c = body_length asked.verdict - length asked.body in
        let q = take c piece in
        let b = left_body (reader w) is_steady k.stream asked rest in
        let wants = b.1.wants in
        let l : length q ≡ c = length-take-le c piece (omega arith) in
        let n : taken (reader w) k.stream piece ≡ c =
        taken_alone (reader w) is_steady k.stream piece
        ∙ rest_taken (reader w) is_steady u piece b.0 asked b.1 only enough in
        let all : length asked.body + length q ≡ body_length asked.verdict = omega arith in
        let m : moments (reader w) k.stream q ≡ body_ended asked q =
        moments_alone (reader w) is_steady k.stream q ∙ rest_came (reader w) is_steady u q b.0 asked b.1 only all in
        rw (n, m) (record {
          each = λ d e.
              let h = holds d e in
              record {
                patch = h.patch;
                found = h.found;
                whole =
                    λ x is. ap (λ r. r.body) (sym (same_Some (longer asked q) x is))
                    ∙ ap (λ y. y ++ q) (sym (body_is d h));
                part = λ none. absurd (none-some (longer asked q) (sym none));
              };
          first = λ x none. absurd (none-some x none);
        })

    pub body_brings : CallBrings w k piece
    body_brings = elim (cases_lt (length asked.body + length piece) (body_length asked.verdict)) [
      | inl few ↦ part_brings few
      | inr enough ↦ rest_brings enough
    ]

  -- a head is under way
  module _ (h : List ℕ) (inside : (cut (reader w) k.stream).rest ≡ InHead h) (idle : k.pending ≡ None)
      (piece : List ℕ) where
    no_draft : k.draft ≡ None
    no_draft =
        none_if k.draft (λ d e. let x : InHead h ≡ InBody (holds d e).asked = sym inside ∙ (holds d e).rest in cc)

    is_inside : InsideHead w k h
    is_inside = record { rest = inside; draft = no_draft; pending = idle }

    only_h : cut (reader w) h ≡ record { whole = []; rest = InHead h }
    only_h = head_only (reader w) is_steady k.stream h inside

    by_head : (n : ℕ) (m : Moments) → taken (reader w) h piece ≡ n → moments (reader w) h (take n piece) ≡ m
        → BringsAll w k piece n m
        → CallBrings w k piece
    by_head n m e f brings =
        let l : left (reader w) k.stream ≡ h = head_left (reader w) is_steady k.stream h inside in
        rw (
          taken_alone (reader w) is_steady k.stream piece,
          l,
          e,
          moments_alone (reader w) is_steady k.stream (take n piece),
          l,
          f,
        ) brings

    more_brings : reader w (h ++ piece) ≡ More
        → CallBrings w k piece
    more_brings e =
        let p = head_part (reader w) is_steady h piece only_h e in
        let t : take (length piece) piece ≡ piece = take_all (length piece) piece (omega arith) in
        by_head (length piece) (record { head = None; body = None; came = [] }) p.1 (ap (moments (reader w) h) t ∙ p.0)
        (record { each = λ d is. absurd (none-some d (sym no_draft ∙ is)); first = λ x is. no_draft })

    module _ (n : ℕ) (v : Verdict) (judged : reader w (h ++ piece) ≡ Judged n v) where
      few_brings : length (drop n (h ++ piece)) < body_length v
          → CallBrings w k piece
      few_brings few =
          let p = head_whole (reader w) is_steady h piece n v only_h judged few in
          let t : take (length piece) piece ≡ piece = take_all (length piece) piece (omega arith) in
          let r : (cut (reader w) (k.stream ++ take (length piece) piece)).rest ≡ InBody (judged_as (h ++ piece) n v) =
          rw t (head_part_rest (reader w) is_steady k.stream h inside piece n v judged few) in
          by_head (length piece)
          (record { head = Some (judged_as (h ++ piece) n v); body = None; came = drop n (h ++ piece) }) p.1
          (ap (moments (reader w) h) t ∙ p.0)
          (record {
            each = λ d is.
                let f = opened_first w v d is in
                record {
                  patch = f.0;
                  found = f.1;
                  whole = λ x none. absurd (none-some x none);
                  part = λ none. (judged_as (h ++ piece) n v, r, ap (λ b. b ++ drop n (h ++ piece)) (sym f.2));
                };
            first = λ x is. no_draft;
          })

      enough_brings : body_length v ≤ length (drop n (h ++ piece))
          → CallBrings w k piece
      enough_brings enough =
          let m = body_length v in
          let before = n - length h in
          let within = head_within w k h is_inside piece n before v judged refl in
          let q = take (before + m) piece in
          let here = prefix_judged w k h is_inside piece n before v judged refl m in
          let c : drop n (h ++ q) ≡ take m (drop before piece) =
          prefix_body w k h is_inside piece n before v judged refl m in
          let b : drop n (h ++ piece) ≡ drop before piece = drop_after h piece before n within.0 in
          let l : length (drop n (h ++ piece)) ≡ length (drop before piece) = ap length b in
          let all : length (drop n (h ++ q)) ≡ m = ap length c ∙ length-take-le m (drop before piece) (omega arith) in
          let count : n + m - length h ≡ before + m = omega (arith, within.0) in
          let t : taken (reader w) h piece ≡ before + m =
          whole_taken (reader w) is_steady h piece n v only_h judged enough ∙ count in
          let j = judged_as (h ++ q) n v in
          by_head (before + m) (record { head = Some j; body = Some j; came = drop n (h ++ q) }) t
          (both_whole (reader w) is_steady h q n v only_h here all)
          (record {
            each = λ d is.
                let f = opened_first w v d is in
                record {
                  patch = f.0;
                  found = f.1;
                  whole =
                      λ x same. ap (λ r. r.body) (sym (same_Some j x same)) ∙ ap (λ y. y ++ drop n (h ++ q)) (sym f.2);
                  part = λ none. absurd (none-some j (sym none));
                };
            first = λ x is. no_draft;
          })

    by_answer : (a : Answer) → reader w (h ++ piece) ≡ a
        → CallBrings w k piece
    by_answer More e = more_brings e
    by_answer (Judged n v) e = elim (cases_lt (length (drop n (h ++ piece))) (body_length v)) [
      | inl few ↦ few_brings n v e few
      | inr enough ↦ enough_brings n v e enough
    ]

    pub head_brings : CallBrings w k piece
    head_brings = by_answer (reader w (h ++ piece)) refl

  by_rest : (piece : List ℕ) → k.pending ≡ None → (rest : Rest) → (cut (reader w) k.stream).rest ≡ rest
      → CallBrings w k piece
  by_rest piece idle (InHead h) e = head_brings h e idle piece
  by_rest piece idle (InBody asked) e = body_brings asked e piece

  pub brings_all : (piece : List ℕ) → k.pending ≡ None
      → CallBrings w k piece
  brings_all piece idle = by_rest piece idle (cut (reader w) k.stream).rest refl
