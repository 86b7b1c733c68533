-- Which bytes the segment of a lead byte has.
use Rattle.std.proofs.Common.{ℕ, ◌≤◌, ◌≡◌, Bool, true, false, List, [], ◌∷◌, ◌++◌, refl, ◌∙◌, ap, arith, length, drop}
use Rattle.std.proofs.Common.{if◌then◌else◌}
use Rattle.enc_model.specs.Index.{within}
use Rattle.std.proofs.lemmas.Bool.{and_parts}
use Rattle.enc_laws.specs.Subparts.{Ranges, fills, begins_to_fill, segment}
use Rattle.enc_laws.proofs.Leads.{Leads}

-- the bytes at the start that fill the first ranges
abbrev pub taken : Ranges → List ℕ → List ℕ
taken [] bytes = []
taken (r ∷ ranges) [] = []
taken (r ∷ ranges) (c ∷ bytes) = if within r.0 r.1 c then c ∷ taken ranges bytes else []

seg0 : (b : ℕ) (bytes : List ℕ) → Leads b [] → segment (b ∷ bytes) ≡ b ∷ []
seg0 b [] l = simp (l.sequence, l.prefix)
seg0 b (c ∷ []) l = simp (l.sequence, l.prefix)
seg0 b (c ∷ d ∷ []) l = simp (l.sequence, l.prefix)
seg0 b (c ∷ d ∷ e ∷ bytes) l = simp (l.sequence, l.prefix)

seg1 : (b : ℕ) (r : ℕ × ℕ) (bytes : List ℕ) → Leads b (r ∷ []) → segment (b ∷ bytes) ≡ b ∷ taken (r ∷ []) bytes
seg1 b r [] l = simp (l.sequence, l.prefix)
seg1 b r (c ∷ bytes) l = go bytes (within r.0 r.1 c) refl
  where
    go : (bytes : List ℕ) (x : Bool) → within r.0 r.1 c ≡ x → segment (b ∷ c ∷ bytes) ≡ b ∷ taken (r ∷ []) (c ∷ bytes)
    go [] true e = simp (l.sequence, l.prefix, e)
    go [] false e = simp (l.sequence, l.prefix, e)
    go (d ∷ []) true e = simp (l.sequence, l.prefix, e)
    go (d ∷ []) false e = simp (l.sequence, l.prefix, e)
    go (d ∷ f ∷ bytes) true e = simp (l.sequence, l.prefix, e)
    go (d ∷ f ∷ bytes) false e = simp (l.sequence, l.prefix, e)

seg2 : (b : ℕ) (r s : ℕ × ℕ) (bytes : List ℕ) → Leads b (r ∷ s ∷ []) → segment (b ∷ bytes) ≡ b ∷ taken (r ∷ s ∷ [])
    bytes
seg2 b r s [] l = simp (l.sequence, l.prefix)
seg2 b r s (c ∷ []) l = go (within r.0 r.1 c) refl
  where
    go : (x : Bool) → within r.0 r.1 c ≡ x → segment (b ∷ c ∷ []) ≡ b ∷ taken (r ∷ s ∷ []) (c ∷ [])
    go true e = simp (l.sequence, l.prefix, e)
    go false e = simp (l.sequence, l.prefix, e)
seg2 b r s (c ∷ d ∷ bytes) l = go bytes (within r.0 r.1 c) (within s.0 s.1 d) refl refl
  where
    go : (bytes : List ℕ) (x y : Bool) → within r.0 r.1 c ≡ x → within s.0 s.1 d ≡ y
        → segment (b ∷ c ∷ d ∷ bytes) ≡ b ∷ taken (r ∷ s ∷ []) (c ∷ d ∷ bytes)
    go [] true true e f = simp (l.sequence, l.prefix, e, f)
    go [] true false e f = simp (l.sequence, l.prefix, e, f)
    go [] false y e f = simp (l.sequence, l.prefix, e)
    go (g ∷ bytes) true true e f = simp (l.sequence, l.prefix, e, f)
    go (g ∷ bytes) true false e f = simp (l.sequence, l.prefix, e, f)
    go (g ∷ bytes) false y e f = simp (l.sequence, l.prefix, e)

seg3 : (b : ℕ) (r s t : ℕ × ℕ) (bytes : List ℕ) → Leads b (r ∷ s ∷ t ∷ [])
    → segment (b ∷ bytes) ≡ b ∷ taken (r ∷ s ∷ t ∷ []) bytes
seg3 b r s t [] l = simp (l.sequence, l.prefix)
seg3 b r s t (c ∷ []) l = go (within r.0 r.1 c) refl
  where
    go : (x : Bool) → within r.0 r.1 c ≡ x → segment (b ∷ c ∷ []) ≡ b ∷ taken (r ∷ s ∷ t ∷ []) (c ∷ [])
    go true e = simp (l.sequence, l.prefix, e)
    go false e = simp (l.sequence, l.prefix, e)
seg3 b r s t (c ∷ d ∷ []) l = go (within r.0 r.1 c) (within s.0 s.1 d) refl refl
  where
    go : (x y : Bool) → within r.0 r.1 c ≡ x → within s.0 s.1 d ≡ y → segment (b ∷ c ∷ d ∷ []) ≡ b ∷ taken
        (r ∷ s ∷ t ∷ []) (c ∷ d ∷ [])
    go true true e f = simp (l.sequence, l.prefix, e, f)
    go true false e f = simp (l.sequence, l.prefix, e, f)
    go false y e f = simp (l.sequence, l.prefix, e)
seg3 b r s t (c ∷ d ∷ g ∷ bytes) l = go (within r.0 r.1 c) (within s.0 s.1 d) (within t.0 t.1 g) refl refl refl
  where
    go : (x y z : Bool) → within r.0 r.1 c ≡ x → within s.0 s.1 d ≡ y → within t.0 t.1 g ≡ z →
        segment (b ∷ c ∷ d ∷ g ∷ bytes) ≡ b ∷ taken (r ∷ s ∷ t ∷ []) (c ∷ d ∷ g ∷ bytes)
    go true true true e f h = simp (l.sequence, l.prefix, e, f, h)
    go true true false e f h = simp (l.sequence, l.prefix, e, f, h)
    go true false z e f h = simp (l.sequence, l.prefix, e, f)
    go false y z e f h = simp (l.sequence, l.prefix, e)

-- what fills the first ranges, with its lead
pub segment_is : (b : ℕ) (ranges bytes : _) → Leads b ranges → segment (b ∷ bytes) ≡ b ∷ taken ranges bytes
segment_is b [] bytes l = seg0 b bytes l
segment_is b (r ∷ []) bytes l = seg1 b r bytes l
segment_is b (r ∷ s ∷ []) bytes l = seg2 b r s bytes l
segment_is b (r ∷ s ∷ t ∷ []) bytes l = seg3 b r s t bytes l
segment_is b (r ∷ s ∷ t ∷ u ∷ ranges) bytes l = let few = l.few in absurd (omega arith)

-- It is a prefix of a sequence.
pub taken_begins : (ranges : Ranges) (bytes : List ℕ) → begins_to_fill ranges (taken ranges bytes) ≡ true
taken_begins [] bytes = refl
taken_begins (r ∷ ranges) [] = refl
taken_begins (r ∷ ranges) (c ∷ bytes) = go (within r.0 r.1 c) refl (taken_begins ranges bytes)
  where
    go : (x : Bool) → within r.0 r.1 c ≡ x → begins_to_fill ranges (taken ranges bytes) ≡ true
        → begins_to_fill (r ∷ ranges) (taken (r ∷ ranges) (c ∷ bytes)) ≡ true
    go true e ih = simp (e, ih)
    go false e ih = simp e

-- one byte more fills the next range, or does not
module _ (r : ℕ × ℕ) (ranges : Ranges) (c : ℕ) (bytes : List ℕ) where
  pub taken_on : within r.0 r.1 c ≡ true → taken (r ∷ ranges) (c ∷ bytes) ≡ c ∷ taken ranges bytes
  taken_on e = simp e

  pub taken_stops : within r.0 r.1 c ≡ false → taken (r ∷ ranges) (c ∷ bytes) ≡ []
  taken_stops e = simp e

  pub fills_on : within r.0 r.1 c ≡ true → fills (r ∷ ranges) (taken (r ∷ ranges) (c ∷ bytes)) ≡ fills ranges
      (taken ranges bytes)
  fills_on e = simp e

pub taken_parts : (ranges : Ranges) (bytes : List ℕ) → taken ranges bytes ++ drop (length (taken ranges bytes))
    bytes ≡ bytes
taken_parts [] bytes = refl
taken_parts (r ∷ ranges) [] = refl
taken_parts (r ∷ ranges) (c ∷ bytes) = go (within r.0 r.1 c) refl (taken_parts ranges bytes)
  where
    go : (x : Bool) → within r.0 r.1 c ≡ x → taken ranges bytes ++ drop (length (taken ranges bytes)) bytes ≡ bytes →
        taken (r ∷ ranges) (c ∷ bytes) ++ drop (length (taken (r ∷ ranges) (c ∷ bytes))) (c ∷ bytes) ≡ c ∷ bytes
    go true e ih = ap (λ t. t ++ drop (length t) (c ∷ bytes)) (taken_on r ranges c bytes e) ∙ ap (λ t. c ∷ t) ih
    go false e ih = ap (λ t. t ++ drop (length t) (c ∷ bytes)) (taken_stops r ranges c bytes e)

-- A sequence at the start is what fills the ranges, and no longer prefix begins to.
pub taken_whole : (ranges : Ranges) (t rest : List ℕ) → fills ranges t ≡ true → taken ranges (t ++ rest) ≡ t
taken_whole [] [] rest f = refl
taken_whole [] (c ∷ t) rest f = absurd cc
taken_whole (r ∷ ranges) [] rest f = absurd cc
taken_whole (r ∷ ranges) (c ∷ t) rest f =
    let p = and_parts (within r.0 r.1 c) (fills ranges t) f in
    taken_on r ranges c (t ++ rest) p.0 ∙ ap (λ z. c ∷ z) (taken_whole ranges t rest p.1)

pub taken_longest : (ranges : Ranges) (t rest : List ℕ) → begins_to_fill ranges t ≡ true
    → length t ≤ length (taken ranges (t ++ rest))
taken_longest ranges [] rest f = omega arith
taken_longest [] (c ∷ t) rest f = absurd cc
taken_longest (r ∷ ranges) (c ∷ t) rest f =
    let p = and_parts (within r.0 r.1 c) (begins_to_fill ranges t) f in
    let ih = taken_longest ranges t rest p.1 in
    rw (taken_on r ranges c (t ++ rest) p.0) (omega (arith, ih))
