-- Worlds without the bodies of their open patches, and without a limit of blocks.
use Rattle.std.proofs.Common.{◌≡◌, ℕ, zero, suc, ◌+◌, false, List, [], ◌∷◌, length}
use Rattle.std.proofs.Common.{Option, Some, None, option_map, refl, sym, ◌∙◌, ap, arith}
use Rattle.std.proofs.lemmas.Bool.Decides.{nat_tests}
use Rattle.upload_rules.specs.declared.errors.UploadRefusal.{UploadRefusal}
use Rattle.upload_rules.specs.declared.errors.UploadRefusal.TheVariants.{Full}
use Rattle.upload_rules.specs.Store.{find, replaced, without}
use Rattle.upload_rules.specs.World.{Patch, World, least_from, free_number, patch_text}
use Rattle.upload_rules.specs.Room.{is_short}
use Rattle.upload_rules.specs.Calls.{commit_refusal}
use Rattle.upload_rules.specs.Calls.{spent}
use Rattle.upload_rules.proofs.Finds.{find_replaced_same}
use Rattle.tus_request.specs.Requests.{Request}
use Rattle.tus_request.specs.Requests.{Asks, Refuses, Verdict}
use Rattle.tus_action.specs.Acts.{Acted, acted}
use Rattle.tus_action.specs.Acts.{fed, fed_patch, commit_with}

abbrev pub Entry : Type 0
Entry = ℕ × Patch

abbrev pub bare : Patch → Patch
bare p = record p { body = []; short = false }

abbrev pub bares : List Entry → List Entry
bares [] = []
bares (e ∷ es) = (e.0, bare e.1) ∷ bares es

abbrev pub bared : World → World
bared w = record { store = w.store; patches = bares w.patches; blocks = None }

abbrev pub with_world : World → Acted → Acted
with_world w a = record a { world = w }

-- ENTRIES

pub find_bares : (d : ℕ) (es : List Entry) → find d (bares es) ≡ option_map bare (find d es)
find_bares d [] = refl
find_bares d (e ∷ es) = let ih = find_bares d es in grind (arith, nat_tests)

pub bares_without : (d : ℕ) (es : List Entry) → bares (without d es) ≡ without d (bares es)
bares_without d [] = refl
bares_without d (e ∷ es) = let ih = bares_without d es in grind (arith, nat_tests)

pub bares_replaced : (d : ℕ) (p q : Patch) (es : List Entry) → find d es ≡ Some p → bare q ≡ bare p
    → bares (replaced d q es) ≡ bares es
bares_replaced d p q [] there same = refl
bares_replaced d p q (e ∷ es) there same =
    let ih : find d es ≡ Some p → bares (replaced d q es) ≡ bares es = λ h. bares_replaced d p q es h same in
    grind (arith, nat_tests, ih)

pub bares_twice : (es : List Entry) → bares (bares es) ≡ bares es
bares_twice [] = refl
bares_twice (e ∷ es) = ap (λ xs. (e.0, bare e.1) ∷ xs) (bares_twice es)

length_bares : (es : List Entry) → length (bares es) ≡ length es
length_bares [] = refl
length_bares (e ∷ es) = ap suc (length_bares es)

least_bares : (left n : ℕ) (es : List Entry) → least_from left n (bares es) ≡ least_from left n es
least_bares zero n es = refl
least_bares (suc left) n es =
    let ih = least_bares left (n + 1) es in let f = find_bares n es in grind arith

pub free_bares : (w : World) → free_number (bared w) ≡ free_number w
free_bares w =
    ap (λ n. least_from n 0 (bares w.patches)) (length_bares w.patches) ∙ least_bares (length w.patches) 0 w.patches

-- A HEAD on a bare world

pub acted_bare : (w : World) (v : Verdict) → acted (bared w) v ≡ with_world (bared (acted w v).world) (acted w v)
acted_bare w v = grind (arith, free_bares w)

-- A BODY

-- the patch with the bytes that came is there
pub fed_there : (w : World) (d : ℕ) (p : Patch) (piece : List ℕ) → find d w.patches ≡ Some p
    → find d (fed w d piece).patches ≡ Some (fed_patch w d p piece)
fed_there w d p piece there = grind (arith, find_replaced_same)

pub fed_bare : (w : World) (d : ℕ) (p : Patch) (piece : List ℕ) → find d w.patches ≡ Some p
    → bared (fed w d piece) ≡ bared w
fed_bare w d p piece there = grind (arith, bares_replaced)

-- on a bare world it is never short
pub fed_calm : (w : World) (d : ℕ) (p : Patch) (body : List ℕ)
    → fed_patch (bared w) d (bare p) body ≡ record p { body = body; short = false }
unfolding is_short
fed_calm w d p body = grind arith

-- A COMMIT that isn't refused for room, on a world that has no limit

abbrev calm : Patch → Patch
calm p = record p { short = false }

pub commit_calm : (v u : World) (d : ℕ) (p : Patch) → u.store ≡ v.store → u.blocks ≡ None
    → (commit_refusal v d p ≡ Some Full → ⊥)
    → commit_refusal u d (calm p) ≡ commit_refusal v d p
unfolding commit_refusal is_short patch_text
commit_calm v u d p store unlimited roomy =
    grind arith

-- what the commit makes, and its reply
spent_calm : (v u : World) (d : ℕ) (p : Patch) (o : Option UploadRefusal) → u.store ≡ v.store
    → bares u.patches ≡ bares v.patches
    → bared (spent u d (calm p) o) ≡ bared (spent v d p o)
spent_calm v u d p o store patches =
    let rest : bares (without d u.patches) ≡ bares (without d v.patches) =
    bares_without d u.patches ∙ ap (without d) patches ∙ sym (bares_without d v.patches) in
    grind arith

pub ended_calm : (v u : World) (d : ℕ) (p : Patch) → u.store ≡ v.store → u.blocks ≡ None
    → bares u.patches ≡ bares v.patches → (commit_refusal v d p ≡ Some Full → ⊥)
    → bared (spent u d (calm p) (commit_refusal u d (calm p))) ≡ bared (spent v d p (commit_refusal v d p))
ended_calm v u d p store unlimited patches roomy =
    ap (λ o. bared (spent u d (calm p) o)) (commit_calm v u d p store unlimited roomy)
    ∙ spent_calm v u d p (commit_refusal v d p) store patches

-- the same commit, by the verdict of its head
pub record SameCommit (a b : Acted) : Type 0 where
  pub world : bared a.world ≡ bared b.world
  pub draft : a.draft ≡ b.draft
  pub bytes : a.bytes ≡ b.bytes

pub done_calm : (v u : World) (d : ℕ) (p : Patch) (t : Verdict) → u.store ≡ v.store → u.blocks ≡ None
    → bares u.patches ≡ bares v.patches
    → ((r : Request) → t ≡ Asks r → commit_refusal v d p ≡ Some Full → ⊥)
    → SameCommit (commit_with u d t (Some (calm p))) (commit_with v d t (Some p))
done_calm v u d p (Asks r) store unlimited patches roomy = record {
  world = ended_calm v u d p store unlimited patches (roomy r refl);
  draft = refl;
  bytes = let same = commit_calm v u d p store unlimited (roomy r refl) in grind arith;
}
done_calm v u d p (Refuses x) store unlimited patches roomy = record { world = grind arith; draft = refl; bytes = refl }
