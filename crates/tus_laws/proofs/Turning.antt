-- What a call that brings bytes leaves, and what its moments make of a bare world.
use Rattle.std.proofs.Common.{◌≡◌, ◌⊎◌, inl, inr, ◌==◌, ℕ, true, false, List, [], ◌∷◌, ◌++◌, if◌then◌else◌, Option}
use Rattle.std.proofs.Common.{Some, None, option_map, refl, sym, ◌∙◌, ap, arith, append-nil, append_assoc}
use Rattle.std.proofs.lemmas.Option.{none-some}
use Rattle.std.proofs.lemmas.Bool.Decides.{nat_tests}
use Rattle.upload_rules.specs.declared.errors.UploadRefusal.{UploadRefusal}
use Rattle.upload_rules.specs.declared.errors.UploadRefusal.TheVariants.{Full}
use Rattle.upload_rules.specs.Store.{find}
use Rattle.upload_rules.specs.World.{Patch, World}
use Rattle.upload_rules.specs.Calls.{commit_refusal, spent}
use Rattle.upload_rules.proofs.Finds.{find_without_other, find_replaced_other}
use Rattle.tus_request.specs.Requests.{Request, Verdict, Asks, Refuses}
use Rattle.tus_action.specs.Acts.{Acted, acted, fed, fed_patch, commit_with}
use Rattle.tus_session.specs.Streams.{Asked}
use Rattle.tus_session.specs.Turns.{at_head, body_step, ended_with}
use Rattle.tus_session.proofs.Feeding.{fed_store}
use Rattle.tus_session.proofs.RequestLeaves.{Leaves, Nothing, Text, Patching, leaves}
use Rattle.tus_laws.specs.Cuts.{Moment, HeadWhole, BodyWhole, BodyCut, head_moment, text_left}
use Rattle.tus_laws.proofs.Bare.{bare, bares, bared, with_world, find_bares, bares_twice, acted_bare, fed_there}
use Rattle.tus_laws.proofs.Bare.{fed_bare, fed_calm, done_calm}

-- WHAT IS LEFT OPEN

-- where it closes nothing is open; a patch is the one that was open or a new one; and the others are as they were
pub record Opens (w : World) (own : Option ℕ) (z : Acted) : Type 0 where
  pub closed : z.closes ≡ true → (z.draft ≡ None) × (z.pending ≡ None)
  pub idle : (d : ℕ) → z.draft ≡ Some d → z.pending ≡ None
  pub fresh : (d : ℕ) → z.draft ≡ Some d → (own ≡ Some d) ⊎ (find d w.patches ≡ None)
  pub others : (e : ℕ) (p : Patch) → find e w.patches ≡ Some p → (own ≡ Some e → ⊥) → find e z.world.patches ≡ Some p

leaves_open : (w : World) (r : Request) (a : Acted) → Leaves w r a → Opens w None a
leaves_open w r a (Nothing moves none idle) = record {
  closed = λ c. (none, idle);
  idle = λ d e. idle;
  fresh = λ d e. absurd (none-some d (sym none ∙ e));
  others = λ e p there ne. moves.others e p ne there;
}
leaves_open w r a (Text h same none some stays) = record {
  closed = λ c. grind arith;
  idle = λ d e. grind arith;
  fresh = λ d e. grind arith;
  others = λ e p there ne. grind arith;
}
leaves_open w r a (Patching y) = record {
  closed = λ c. grind arith;
  idle = λ d e. y.idle;
  fresh = λ d e. grind arith;
  others = λ e p there ne. grind (arith, nat_tests);
}

verdict_open : (w : World) (v : Verdict) → Opens w None (acted w v)
verdict_open w (Asks r) = leaves_open w r (acted w (Asks r)) (leaves w r)
verdict_open w (Refuses x) = record {
  closed = λ c. (refl, refl);
  idle = λ d e. refl;
  fresh = λ d e. absurd (none-some d e);
  others = λ e p there ne. there;
}

pub fed_else : (w : World) (d e : ℕ) (piece : List ℕ) → (d ≡ e → ⊥) → find e (fed w d piece).patches ≡ find e w.patches
fed_else w d e piece ne = grind (arith, find_replaced_other)

pub spent_else : (w : World) (d e : ℕ) (p : Patch) (o : Option UploadRefusal) → (d ≡ e → ⊥)
    → find e (spent w d p o).patches ≡ find e w.patches
spent_else w d e p o ne = grind (arith, find_without_other)

commit_else : (w : World) (d e : ℕ) (v : Verdict) (o : Option Patch) → (d ≡ e → ⊥)
    → find e (commit_with w d v o).world.patches ≡ find e w.patches
commit_else w d e v o ne = grind (arith, spent_else)

pub commit_idle : (w : World) (d : ℕ) (v : Verdict) (o : Option Patch)
    → ((commit_with w d v o).draft ≡ None) × ((commit_with w d v o).pending ≡ None)
commit_idle w d v o = grind arith

-- a patch that is open is as old as the connection's, or new
module _ (w : World) (own : Option ℕ) (a : Acted) (opens : Opens w own a) where
  not_other : (d e : ℕ) (p : Patch) → a.draft ≡ Some d → find e w.patches ≡ Some p → (own ≡ Some e → ⊥) → d ≡ e → ⊥
  not_other d e p is there ne same = elim (opens.fresh d is) [
    | inl old ↦ ne (old ∙ ap Some same)
    | inr none ↦ none-some p (sym none ∙ (ap (λ n. find n w.patches) same ∙ there))
  ]

  pub body_opens : (piece : List ℕ) (moment : Option Asked) (o : Option ℕ) → a.draft ≡ o
      → Opens w own (body_step a piece moment o)
  body_opens piece moment None is = opens
  body_opens piece None (Some d) is = record {
    closed = λ c. absurd (cc);
    idle = λ e f. refl;
    fresh = λ e f. opens.fresh e (is ∙ f);
    others = λ e p there ne. fed_else a.world d e piece (not_other d e p is there ne) ∙ opens.others e p there ne;
  }
  body_opens piece (Some r) (Some d) is =
      let v = fed a.world d piece in
      let done = commit_idle v d r.verdict (find d v.patches) in
      record {
        closed = λ c. done;
        idle = λ e f. done.1;
        fresh = λ e f. absurd (none-some e (sym done.0 ∙ f));
        others = λ e p there ne.
            commit_else v d e r.verdict (find d v.patches) (not_other d e p is there ne)
            ∙ (fed_else a.world d e piece (not_other d e p is there ne) ∙ opens.others e p there ne);
      }

pub head_opens : (w : World) (own : Option ℕ) (o : Option Asked) → ((r : Asked) → o ≡ Some r → own ≡ None)
    → Opens w own (at_head w own o)
head_opens w own None first = record {
  closed = λ c. absurd (cc);
  idle = λ d e. refl;
  fresh = λ d e. inl e;
  others = λ e p there ne. there;
}
head_opens w own (Some r) first = rw (first r refl) (verdict_open w r.verdict)

-- THE REPLAY of moments, on a bare world: each body is given as a whole
pub record Rep : Type 0 where
  pub world : World
  pub drafts : ℕ → Option ℕ
  pub given : ℕ → List ℕ

abbrev pub set_at : {A : Type 0} → ℕ → A → (ℕ → A) → ℕ → A
set_at c x f k = if k == c then x else f k

abbrev pub did : Rep → ℕ → Acted → Rep
did r c a =
    record {
      world = bared a.world;
      drafts = set_at c a.draft r.drafts;
      given = set_at c (r.given c ++ (a.bytes ++ text_left a.pending)) r.given;
    }

abbrev pub committing : World → ℕ → Asked → Acted
committing w d x = let u = fed w d x.body in commit_with u d x.verdict (find d u.patches)

abbrev pub act_body : Rep → ℕ → Asked → Option ℕ → Rep
act_body r c x None = r
act_body r c x (Some d) = did r c (committing r.world d x)

abbrev pub act_cut : Rep → ℕ → List ℕ → Option ℕ → Rep
act_cut r c body None = r
act_cut r c body (Some d) =
    let u = fed r.world d body in
    record { world = bared (ended_with u d (find d u.patches)); drafts = set_at c None r.drafts; given = r.given }

abbrev pub act : Rep → Moment → Rep
act r (HeadWhole c v) = did r c (acted r.world v)
act r (BodyWhole c x) = act_body r c x (r.drafts c)
act r (BodyCut c body) = act_cut r c body (r.drafts c)

abbrev pub replay : Rep → List Moment → Rep
replay r [] = r
replay r (m ∷ ms) = replay (act r m) ms

pub replay_both : (r : Rep) (ms ns : List Moment) → replay r (ms ++ ns) ≡ replay (replay r ms) ns
replay_both r [] ns = refl
replay_both r (m ∷ ms) ns = replay_both (act r m) ms ns

pub here_set : {A : Type 0} (c : ℕ) (x : A) (f : ℕ → A) → set_at c x f c ≡ x
here_set c x f = grind (arith, nat_tests)

pub else_set : {A : Type 0} (c e : ℕ) (x : A) (f : ℕ → A) → (e ≡ c → ⊥) → set_at c x f e ≡ f e
else_set c e x f ne = grind (arith, nat_tests)

-- the replay did what was done
pub record Did (r r' : Rep) (c : ℕ) (z : Acted) : Type 0 where
  pub world : r'.world ≡ bared z.world
  pub draft : r'.drafts c ≡ z.draft
  pub bytes : r'.given c ≡ r.given c ++ (z.bytes ++ text_left z.pending)
  pub drafts : (e : ℕ) → (e ≡ c → ⊥) → r'.drafts e ≡ r.drafts e
  pub given : (e : ℕ) → (e ≡ c → ⊥) → r'.given e ≡ r.given e

pub bared_twice : (w : World) → bared (bared w) ≡ bared w
bared_twice w = ap (λ es. record { store = w.store; patches = es; blocks = None }) (bares_twice w.patches)

pub did_head : (w : World) (own : Option ℕ) (r : Rep) (c : ℕ) (o : Option Asked) → r.world ≡ bared w → r.drafts c ≡ own
    → Did r (replay r (head_moment c o)) c (at_head w own o)
did_head w own r c None world draft = record {
  world = world;
  draft = draft;
  bytes = sym (append-nil (r.given c));
  drafts = λ e ne. refl;
  given = λ e ne. refl;
}
did_head w own r c (Some x) world draft =
    let same : acted r.world x.verdict ≡ with_world (bared (acted w x.verdict).world) (acted w x.verdict) =
    ap (λ v. acted v x.verdict) world ∙ acted_bare w x.verdict in
    record {
      world = ap (λ a. bared a.world) same ∙ bared_twice (acted w x.verdict).world;
      draft = grind (arith, nat_tests, same);
      bytes = grind (arith, nat_tests, same);
      drafts = λ e ne. grind (arith, nat_tests);
      given = λ e ne. grind (arith, nat_tests);
    }

fed_blocks : (w : World) (d : ℕ) (piece : List ℕ) → (fed w d piece).blocks ≡ w.blocks
fed_blocks w d piece = grind arith

calm_fed : (w : World) (d : ℕ) (p : Patch) (piece : List ℕ)
    → record (fed_patch w d p piece) { short = false } ≡ record p { body = p.body ++ piece; short = false }
calm_fed w d p piece = grind (arith, append-nil {A = ℕ})

-- A WHOLE BODY, on the world and on the bare one
module _ (w : World) (d : ℕ) (p : Patch) (piece body : List ℕ) (found : find d w.patches ≡ Some p)
    (whole : body ≡ p.body ++ piece) where
  abbrev v : World
  v = fed w d piece

  abbrev u : World
  u = fed (bared w) d body

  abbrev q : Patch
  q = fed_patch w d p piece

  pub found_v : find d v.patches ≡ Some q
  found_v = fed_there w d p piece found

  found_b : find d (bared w).patches ≡ Some (bare p)
  found_b = find_bares d w.patches ∙ ap (option_map bare) found

  pub found_u : find d u.patches ≡ Some (record q { short = false })
  found_u =
      fed_there (bared w) d (bare p) body found_b
      ∙ ap Some
      (fed_calm w d p body ∙ (ap (λ b. record p { body = b; short = false }) whole ∙ sym (calm_fed w d p piece)))

  pub store_u : u.store ≡ v.store
  store_u = fed_store (bared w) d body ∙ sym (fed_store w d piece)

  pub blocks_u : u.blocks ≡ None
  blocks_u = fed_blocks (bared w) d body

  pub patches_u : bares u.patches ≡ bares v.patches
  patches_u =
      ap (λ x. x.patches)
      (fed_bare (bared w) d (bare p) body found_b ∙ (bared_twice w ∙ sym (fed_bare w d p piece found)))

module _ (w : World) (r r1 : Rep) (c : ℕ) (a : Acted) (first : Did r r1 c a) where
  no_text : a.pending ≡ None → r1.given c ≡ r.given c ++ a.bytes
  no_text idle = grind (arith, append-nil {A = ℕ})

  pub part_did : (d : ℕ) (p : Patch) (piece : List ℕ) → a.draft ≡ Some d → a.pending ≡ None
      → find d a.world.patches ≡ Some p → Did r r1 c (body_step a piece None (Some d))
  part_did d p piece is idle found = record {
    world = first.world ∙ sym (fed_bare a.world d p piece found);
    draft = first.draft ∙ is;
    bytes = no_text idle ∙ ap (λ b. r.given c ++ b) (sym (append-nil a.bytes) ∙ sym (append-nil (a.bytes ++ [])));
    drafts = first.drafts;
    given = first.given;
  }

  pub whole_did : (d : ℕ) (p : Patch) (piece : List ℕ) (x : Asked) → a.draft ≡ Some d → a.pending ≡ None
      → find d a.world.patches ≡ Some p → x.body ≡ p.body ++ piece
      → ((q : Request) → x.verdict ≡ Asks q
      → commit_refusal (fed a.world d piece) d (fed_patch a.world d p piece) ≡ Some Full → ⊥)
      → Did r (act_body r1 c x (r1.drafts c)) c (body_step a piece (Some x) (Some d))
  whole_did d p piece x is idle found whole roomy =
      let v1 = fed a.world d piece in
      let u1 = fed (bared a.world) d x.body in
      let q1 = fed_patch a.world d p piece in
      let b = commit_with v1 d x.verdict (find d v1.patches) in
      let b1 = commit_with v1 d x.verdict (Some q1) in
      let bu = commit_with u1 d x.verdict (Some (record q1 { short = false })) in
      let same =
      done_calm v1 u1 d q1 x.verdict (store_u a.world d p piece x.body found whole)
      (blocks_u a.world d p piece x.body found whole) (patches_u a.world d p piece x.body found whole) roomy in
      let real : b1 ≡ b = ap (commit_with v1 d x.verdict) (sym (found_v a.world d p piece x.body found whole)) in
      let bare_is : committing r1.world d x ≡ bu =
      ap (λ y. committing y d x) first.world
      ∙ ap (commit_with u1 d x.verdict) (found_u a.world d p piece x.body found whole) in
      let done = commit_idle v1 d x.verdict (find d v1.patches) in
      let doneu = commit_idle u1 d x.verdict (Some (record q1 { short = false })) in
      rw (first.draft, is) (record {
        world = ap (λ y. bared y.world) bare_is ∙ (same.world ∙ ap (λ y. bared y.world) real);
        draft = grind (arith, nat_tests);
        bytes =
            let had = no_text idle in grind (arith, nat_tests, append_assoc {A = ℕ}, append-nil {A = ℕ});
        drafts = λ e ne. let old = first.drafts e ne in grind (arith, nat_tests);
        given = λ e ne. let old = first.given e ne in grind (arith, nat_tests);
      })
