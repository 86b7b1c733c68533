-- What is left of a stream after an event.
use Rattle.std.proofs.Common.{ℕ, ◌+◌, ◌<◌, ◌≡◌, List, [], ◌++◌, length, take, drop, ◌∙◌, ap}
use Rattle.std.proofs.Math.Seq.{drop-append-add, take-append-add}
use Rattle.enc_model.specs.Indexes.{offers}
use Rattle.tus_request.proofs.Prefixes.{steady}
use Rattle.tus_request.specs.Requests.{Verdict, body_length}
use Rattle.upload_rules.specs.World.{World}
use Rattle.tus_session.specs.Turns.{reader}
use Rattle.tus_request.specs.Steady.{IsSteady}
use Rattle.tus_request.specs.Answers.{More, Judged}
use Rattle.tus_session.specs.Streams.{Asked, InHead, InBody, Reader, cut}
use Rattle.tus_session.proofs.Cuts.{goes_on, left, left_alone}
use Rattle.tus_session.proofs.Unfinished.{left_body, longer, judged_as, only_head, part_cut, rest_cut, more_cut}
use Rattle.tus_session.proofs.Unfinished.{begun_cut, whole_cut}

pub is_steady : (w : World) → IsSteady (reader w)
is_steady w = steady (offers w.store.indexes)

-- a body under way wants bytes
pub body_wants : (w : World) (s : List ℕ) (asked : Asked) → (cut (reader w) s).rest ≡ InBody asked
    → length asked.body < body_length asked.verdict
body_wants w s asked e = (left_body (reader w) (is_steady w) s asked e).1.wants

module _ (answer : Reader) (steady : IsSteady answer) where
  rest_on : (s p : List ℕ) → (cut answer (s ++ p)).rest ≡ (cut answer (left answer s ++ p)).rest
  rest_on s p = ap (λ c. c.rest) (goes_on answer steady s p)

  -- more of a body
  pub body_part_rest : (s q : List ℕ) (r : Asked) → (cut answer s).rest ≡ InBody r
      → length r.body + length q < body_length r.verdict
      → (cut answer (s ++ q)).rest ≡ InBody (longer r q)
  body_part_rest s q r e few =
      let b = left_body answer steady s r e in
      rest_on s q ∙ ap (λ c. c.rest) (part_cut answer steady (left answer s) q b.0 r b.1 few)

  -- its last bytes
  pub body_whole_rest : (s q : List ℕ) (r : Asked) → (cut answer s).rest ≡ InBody r
      → length r.body + length q ≡ body_length r.verdict
      → (cut answer (s ++ q)).rest ≡ InHead []
  body_whole_rest s q r e all =
      let b = left_body answer steady s r e in
      rest_on s q ∙ ap (λ c. c.rest) (rest_cut answer steady (left answer s) q b.0 r b.1 all)

  module _ (s h : List ℕ) (inside : (cut answer s).rest ≡ InHead h) where
    pub head_left : left answer s ≡ h
    head_left = ap (λ r. elim r as (λ _. List ℕ) [ InHead x ↦ x | InBody a ↦ a.head ++ a.body ]) inside

    pub head_only : cut answer h ≡ only_head h
    head_only = rw head_left at (left_alone answer steady s) ∙ ap (λ r. record { whole = []; rest = r }) inside

    head_on : (p : List ℕ) → (cut answer (s ++ p)).rest ≡ (cut answer (h ++ p)).rest
    head_on p = rest_on s p ∙ ap (λ u. (cut answer (u ++ p)).rest) head_left

    -- the head isn't whole yet
    pub head_more_rest : (p : List ℕ) → answer (h ++ p) ≡ More → (cut answer (s ++ p)).rest ≡ InHead (h ++ p)
    head_more_rest p e = head_on p ∙ ap (λ c. c.rest) (more_cut answer steady (h ++ p) e)

    -- the head is whole, and its body isn't
    pub head_part_rest : (p : List ℕ) (n : ℕ) (v : Verdict) → answer (h ++ p) ≡ Judged n v
        → length (drop n (h ++ p)) < body_length v
        → (cut answer (s ++ p)).rest ≡ InBody (judged_as (h ++ p) n v)
    head_part_rest p n v e few = head_on p ∙ ap (λ c. c.rest) (begun_cut answer steady (h ++ p) n v e few)

    -- both are whole
    pub head_whole_rest : (p : List ℕ) (n : ℕ) (v : Verdict) → answer (h ++ p) ≡ Judged n v
        → length (drop n (h ++ p)) ≡ body_length v
        → (cut answer (s ++ p)).rest ≡ InHead []
    head_whole_rest p n v e all = head_on p ∙ ap (λ c. c.rest) (whole_cut answer steady (h ++ p) n v e all)

pub drop_after : {A : Type 0} (h bytes : List A) (b n : ℕ) → n ≡ length h + b → drop n (h ++ bytes) ≡ drop b bytes
drop_after h bytes b n e = rw e (drop-append-add h bytes b)

pub take_after : {A : Type 0} (h bytes : List A) (b n : ℕ) → n ≡ length h + b → take n (h ++ bytes) ≡ h ++ take b bytes
take_after h bytes b n e = rw e (take-append-add h bytes b)
