-- A turn on one connection leaves the others as they were.
use Rattle.std.proofs.Common.{◌≡◌, ◌<◌, ◌≤◌, ℕ, List, ◌++◌, length, take, drop, Option, Some, None, refl, sym, ◌∙◌, ap}
use Rattle.std.proofs.Common.{subst, arith, Bool}
use Rattle.std.proofs.lemmas.List.{length-append, take-append-le}
use Rattle.tus_request.specs.Buffers.{head_bytes}
use Rattle.enc_model.specs.Indexes.{offers}
use Rattle.tus_request.specs.Answers.{answer_of}
use Rattle.upload_rules.specs.Lengths.{known_or}
use Rattle.upload_rules.specs.Store.{Upload, upload_of, text_of, patched, find}
use Rattle.upload_rules.specs.Grown.{GrewFrom}
use Rattle.upload_rules.specs.World.{Patch, World}
use Rattle.upload_rules.specs.declared.uploads.Uploads.{Ghosts}
use Rattle.tus_action.specs.Acts.{Giving}
use Rattle.tus_action.specs.Serves.{GivesAs, IsGiving}
use Rattle.tus_action.specs.declared.acts.Giving as given
use Rattle.tus_request.specs.Requests.{Request}
use Rattle.tus_session.specs.Streams.{Asked, cut}
use Rattle.tus_session.specs.Turns.{Conn, reader}
use Rattle.tus_session.specs.Represents.{PatchesAs, InsideBody, LinkIs, PlaceIs, draft_of_conn}
use Rattle.tus_session.specs.Moves.{Longer, Grows, Moves}
use Rattle.tus_action.specs.declared.bodies.OpenPatch.{OpenPatch}
use Rattle.tus_session.specs.declared.conns.Awaiting.{Awaiting}
use Rattle.tus_session.specs.declared.conns.Awaiting.TheVariants as awaits
use Rattle.tus_session.specs.declared.conns.Link.{Link}
use Rattle.tus_session.proofs.Growth.{patched_twice}

-- the upload that a patch began at has what other patches brought, or is gone
pub grown_more : (w w' : World) (p : Patch) → Grows w.store w'.store → p.number < w.store.next
    → GrewFrom p (upload_of w.store p.number)
    → GrewFrom p (upload_of w'.store p.number)
grown_more w w' p grows below grown = grown_at (upload_of w'.store p.number) refl
  where
    grown_at : (o : Option Upload) → upload_of w'.store p.number ≡ o → GrewFrom p o
    grown_at None e = tt
    grown_at (Some up) e =
        let g = grows.uploads p.number up below e in
        let old : GrewFrom p (Some g.0) = subst (GrewFrom p) g.1 grown in
        let l = g.2 in (
          known_or old.0 l.declare,
          old.1 ++ l.bytes,
          l.is ∙ (ap (λ x. patched x l.declare l.bytes) old.2
              ∙ patched_twice p.began old.0 l.declare old.1 l.bytes),
        )

gives_as : (w w' : World) (g : given.Giving) (h : Giving) (up up' : Upload) → upload_of w'.store h.number ≡ Some up'
    → Longer w.store w'.store up up'
    → GivesAs w.store g h up → GivesAs w'.store g h up'
gives_as w w' g h up up' found m is =
    let t = text_of w.store.indexes up in
    let within = is.within in
    let n : g.length ≤ length (text_of w'.store.indexes up') =
    rw m.text (simp length-append (omega arith)) in
    let f : take g.length (text_of w'.store.indexes up') ≡ take g.length t =
    rw m.text (take-append-le g.length t m.more within) in
    assumption (found, n, is.left ∙ ap (drop g.given) (sym f))

gives_more : (w w' : World) (g : given.Giving) (h : Giving) → Grows w.store w'.store → IsGiving w.store g h
    → IsGiving w'.store g h
gives_more w w' g h grows is = record {
  number = is.number;
  below = omega (arith, is.below, grows.next);
  closes = is.closes;
  there = λ up found. (let m = grows.uploads h.number up is.below found in gives_as w w' g h m.0 up found m.2
      (is.there m.0 m.1));
}

-- the same index set reads the same
pub rest_same : (w w' : World) (s : List ℕ) → w'.store.indexes ≡ w.store.indexes
    → (cut (reader w') s).rest ≡ (cut (reader w) s).rest
rest_same w w' s e = ap (λ x. (cut (answer_of (offers x)) s).rest) e

module _ {U B : Type 0} (u : Ghosts U B) (sure : Bool) where
  patch_moved : (w w' : World) (own own' : Option ℕ) (b : OpenPatch B) (asked : Asked) (r : Request) (p : Patch)
      → Moves w w' own own' → (own ≡ Some (u.number_of b.draft) → ⊥) → PatchesAs u w b asked r p
      → PatchesAs u w' b asked r p
  patch_moved w w' own own' b asked r p moves ne is =
      let found = moves.others (u.number_of b.draft) p ne is.found in
      let next = moves.grows.next in
      let below : p.number < w'.store.next = omega (arith, is.below, next) in
      assumption (found, below, grown_more w w' p moves.grows is.below is.grown)

  inside_moved : (w w' : World) (conn : Conn) (head : List ℕ) (left : ℕ) (asked : Asked)
      → w'.store.indexes ≡ w.store.indexes → InsideBody w conn head left asked → InsideBody w' conn head left asked
  inside_moved w w' conn head left asked same is = assumption (rest_same w w' conn.stream same ∙ is.rest)

  link_moved : (w w' : World) (own own' : Option ℕ) (head : List ℕ) (awaiting : Awaiting B) (conn : Conn)
      → Moves w w' own own' → ((e : ℕ) → conn.draft ≡ Some e → own ≡ Some e → ⊥) → LinkIs u w head awaiting conn
      → LinkIs u w' head awaiting conn
  link_moved w w' own own' head awaits.Head conn moves ne is =
      assumption (rest_same w w' conn.stream moves.grows.indexes ∙ is.rest)
  link_moved w w' own own' head (awaits.Patch b left) conn moves ne is =
      let inside = inside_moved w w' conn head left is.asked moves.grows.indexes is.inside in
      let patches = patch_moved w w' own own' b is.asked is.r is.p moves (ne (u.number_of b.draft) is.draft)
      is.patches in
      record {
        asked = is.asked;
        r = is.r;
        p = is.p;
        inside = inside;
        draft = is.draft;
        pending = is.pending;
        patches = patches;
      }
  link_moved w w' own own' head (awaits.Skip left) conn moves ne is = record {
    asked = is.asked;
    inside = inside_moved w w' conn head left is.asked moves.grows.indexes is.inside;
    draft = is.draft;
    pending = is.pending;
  }
  link_moved w w' own own' head (awaits.Text g left) conn moves ne is = record {
    h = is.h;
    rest = rw (rest_same w w' conn.stream moves.grows.indexes) is.rest;
    draft = is.draft;
    pending = is.pending;
    gives = gives_more w w' g is.h moves.grows is.gives;
  }

  pub place_moved : (w w' : World) (own own' : Option ℕ) (place : Option (Link B)) (conn : Option Conn)
      → Moves w w' own own' → ((e : ℕ) → draft_of_conn conn ≡ Some e → own ≡ Some e → ⊥) → PlaceIs u w place conn
      → PlaceIs u w' place conn
  place_moved w w' own own' None None moves ne is = tt
  place_moved w w' own own' None (Some conn) moves ne is = absurd is
  place_moved w w' own own' (Some k) None moves ne is = absurd is
  place_moved w w' own own' (Some k) (Some conn) moves ne is =
      link_moved w w' own own' (head_bytes k.head) k.awaiting conn moves ne is

  link_draft : (w : World) (head : List ℕ) (awaiting : Awaiting B) (conn : Conn) (d : ℕ) → LinkIs u w head awaiting conn
      → conn.draft ≡ Some d → (p : Patch) × (find d w.patches ≡ Some p)
  link_draft w head awaits.Head conn d is e = absurd (cc)
  link_draft w head (awaits.Patch b left) conn d is e =
      let f : u.number_of b.draft ≡ d = cc in (is.p, rw (← f) is.patches.found)
  link_draft w head (awaits.Skip left) conn d is e = absurd (cc)
  link_draft w head (awaits.Text g left) conn d is e = absurd (cc)

  -- a draft's patch is open
  pub draft_found : (w : World) (place : Option (Link B)) (conn : Option Conn) (d : ℕ) → PlaceIs u w place conn
      → draft_of_conn conn ≡ Some d
      → (p : Patch) × (find d w.patches ≡ Some p)
  draft_found w None None d is e = absurd (cc)
  draft_found w None (Some conn) d is e = absurd is
  draft_found w (Some k) None d is e = absurd is
  draft_found w (Some k) (Some conn) d is e = link_draft w (head_bytes k.head) k.awaiting conn d is e
