-- The lines of an index file, one by one.
use Rattle.std.proofs.Common.{ℕ, suc, ◌+◌, ◌<◌, ◌≡◌, ◌↔◌, ◌⊎◌, inl, inr, ⊎_elim, Bool, true, false, ◌&&◌, ◌==◌, nat_lt}
use Rattle.std.proofs.Common.{if◌then◌else◌, List, [], ◌∷◌, ◌++◌, Option, Some, None, Result, Ok, Err, Contains, length}
use Rattle.std.proofs.Common.{length-append, append-nil, append_assoc, refl, sym, ◌∙◌, ap, subst, arith, true≢false}
use Rattle.std.proofs.lemmas.Bool.{and_parts, and_from}
use Rattle.std.proofs.lemmas.Bool.Decides.{nat_tests}
use Rattle.std.proofs.lemmas.List.Elements.{Contains-append_left, Contains-append_right, Contains-push}
use Rattle.std.proofs.lemmas.List.Elements.{Contains-push_cases, Contains-append_cases}
use Rattle.enc_model.specs.Index.{Index, code}
use Rattle.enc_index.specs.declared.kind.ReadError.{ReadError}
use Rattle.enc_index.specs.declared.kind.ReadError.TheVariants.{Line, Range, Twice, NoMemory}
use Rattle.enc_index.specs.Scalars.{is_scalar}
use Rattle.enc_index.specs.Files.{is_dropped, pair_of, inserted, unless_given, with_pair, with_line, with_lines}
use Rattle.enc_index.specs.Files.{and_then}
use Rattle.enc_laws.specs.IndexFiles.{Give, IsInRange, GivesNew, AreGoodAfter, AreGood, Breaks, IsFirstBad}

-- MEMBERS

contains_here : {X : Type 0} (x : X) (xs : List X) → Contains (x ∷ xs) x
contains_here x xs = Contains-append_left (x ∷ []) xs x (Contains-push [] x)

contains_more : {X : Type 0} (y : X) (xs : List X) (x : X) → Contains xs x → Contains (y ∷ xs) x
contains_more y xs x h = Contains-append_right (y ∷ []) xs x h

contains_none : {X : Type 0} (x : X) → Contains [] x → ⊥
contains_none x h = let lt = h.1 in omega (arith, lt)

contains_cases : {X : Type 0} (y : X) (xs : List X) (x : X) → Contains (y ∷ xs) x → (y ≡ x) ⊎ Contains xs x
contains_cases y xs x h =
    ⊎_elim (λ here. ⊎_elim (λ none. absurd (contains_none x none)) inl (Contains-push_cases [] y x here))
    inr
    (Contains-append_cases (y ∷ []) xs x h)

-- A PAIR MORE

code_inserted : (p c : ℕ) (index : Index) (q : ℕ) → code index p ≡ None
    → code (inserted p c index) q ≡ (if p == q then Some c else code index q)
unfolding code inserted
code_inserted p c [] q n = refl
code_inserted p c (pair ∷ index) q n =
    let rest = code_inserted p c index q in
    grind (arith, nat_tests, rest, n)

code_contained : (index : Index) (p c : ℕ) → code index p ≡ Some c → Contains index (p, c)
unfolding code
code_contained [] p c e = absurd cc
code_contained (pair ∷ index) p c e = go (pair.0 == p) refl (code_contained index p c)
  where
    go : (b : Bool) → (pair.0 == p) ≡ b → (code index p ≡ Some c → Contains index (p, c))
        → Contains (pair ∷ index) (p, c)
    go true h ih =
        let first : pair.0 ≡ p = grind (arith, nat_tests, h) in
        let second : pair.1 ≡ c = grind (arith, nat_tests, h, e) in
        subst (λ z. Contains (pair ∷ index) z) (ap (λ z. (z, pair.1)) first ∙ ap (λ z. (p, z)) second)
        (contains_here pair index)
    go false h ih =
        let later : code index p ≡ Some c = grind (arith, nat_tests, h, e) in
        contains_more pair index (p, c) (ih later)

inserted_cases : (p c : ℕ) (index : Index) (x : ℕ × ℕ) → Contains (inserted p c index) x
    → ((p, c) ≡ x) ⊎ Contains index x
unfolding inserted
inserted_cases p c [] x h = contains_cases (p, c) [] x h
inserted_cases p c (pair ∷ index) x h = go (nat_lt p pair.0) h (inserted_cases p c index x)
  where
    go : (b : Bool) → Contains (if b then (p, c) ∷ pair ∷ index else pair ∷ inserted p c index) x →
        (Contains (inserted p c index) x → ((p, c) ≡ x) ⊎ Contains index x) → ((p, c) ≡ x) ⊎ Contains (pair ∷ index) x
    go true h ih = contains_cases (p, c) (pair ∷ index) x h
    go false h ih =
        ⊎_elim (λ e. inr (subst (Contains (pair ∷ index)) e (contains_here pair index)))
        (λ later. ⊎_elim inl (λ old. inr (contains_more pair index x old)) (ih later))
        (contains_cases pair (inserted p c index) x h)

-- WHAT LINES GIVE

give_left : (prefix back : List (List ℕ)) (p c : ℕ) → Give prefix p c → Give (prefix ++ back) p c
give_left [] back p c g = absurd g
give_left (line ∷ prefix) back p c (inl g) = inl g
give_left (line ∷ prefix) back p c (inr g) = inr (give_left prefix back p c g)

give_right : (prefix back : List (List ℕ)) (p c : ℕ) → Give back p c → Give (prefix ++ back) p c
give_right [] back p c g = g
give_right (line ∷ prefix) back p c g = inr (give_right prefix back p c g)

give_cases : (prefix back : List (List ℕ)) (p c : ℕ) → Give (prefix ++ back) p c → Give prefix p c ⊎ Give back p c
give_cases [] back p c g = inr g
give_cases (line ∷ prefix) back p c (inl g) = inl (inl g)
give_cases (line ∷ prefix) back p c (inr g) = ⊎_elim (λ x. inl (inr x)) inr (give_cases prefix back p c g)

-- the index is what these lines give
pub record Holds (lines : List (List ℕ)) (index : Index) : Type 0 where
  pub found : (p c : ℕ) → code index p ≡ Some c → Give lines p c
  pub given : (p c : ℕ) → Give lines p c → code index p ≡ Some c
  pub contained : (p c : ℕ) → Contains index (p, c) → code index p ≡ Some c

pub holds_none : Holds [] []
unfolding code
holds_none = record {
  found = λ p c e. absurd cc;
  given = λ p c g. absurd g;
  contained = λ p c h. absurd (contains_none (p, c) h);
}

-- a line that is ignored
holds_dropped : (prefix : List (List ℕ)) (line : List ℕ) (index : Index) → is_dropped line ≡ true → Holds prefix index →
    Holds (prefix ++ line ∷ []) index
holds_dropped prefix line index d h = record {
  found = λ p c e. give_left prefix (line ∷ []) p c (h.found p c e);
  given = λ p c g.
      ⊎_elim (h.given p c)
      (λ last. ⊎_elim (λ is. let counts = is.0 in absurd cc) (λ none. absurd none) last)
      (give_cases prefix (line ∷ []) p c g);
  contained = h.contained;
}

some_same : (a b : ℕ × ℕ) → Some a ≡ Some b → a ≡ b
some_same a b e = ap (λ o. elim o as (λ _. ℕ × ℕ) [ Some z ↦ z | None ↦ a ]) e

-- a line that gives a new pair
module _
    (prefix : List (List ℕ)) (line : List ℕ) (index : Index) (p c : ℕ)
    (counts : is_dropped line ≡ false) (gives : pair_of line ≡ Some (p, c)) (none : code index p ≡ None)
    (h : Holds prefix index) where
  last_gives : (q d : ℕ) → Give (line ∷ []) q d → (p ≡ q) × (c ≡ d)
  last_gives q d (inl is) = let e = some_same (p, c) (q, d) (sym gives ∙ is.1) in (ap (λ z. z.0) e, ap (λ z. z.1) e)
  last_gives q d (inr z) = absurd z

  code_here : code (inserted p c index) p ≡ Some c
  code_here = code_inserted p c index p none ∙ grind (arith, nat_tests)

  code_old : (q d : ℕ) → code index q ≡ Some d → code (inserted p c index) q ≡ Some d
  code_old q d e = code_inserted p c index q none ∙ go (p == q) refl
    where
      go : (b : Bool) → (p == q) ≡ b → (if b then Some c else code index q) ≡ Some d
      go true x = let same : p ≡ q = grind (arith, nat_tests, x) in absurd cc
      go false x = e

  code_new : (q d : ℕ) → code (inserted p c index) q ≡ Some d → ((p ≡ q) × (c ≡ d)) ⊎ (code index q ≡ Some d)
  code_new q d e = go (p == q) refl (sym (code_inserted p c index q none) ∙ e)
    where
      go : (b : Bool) → (p == q) ≡ b → (if b then Some c else code index q) ≡ Some d
          → ((p ≡ q) × (c ≡ d)) ⊎ (code index q ≡ Some d)
      go true x y = let same : p ≡ q = grind (arith, nat_tests, x) in inl (same, cc)
      go false x y = inr y

  give_here : Give (prefix ++ line ∷ []) p c
  give_here = give_right prefix (line ∷ []) p c (inl (counts, gives))

  give_same : (q d : ℕ) → (p ≡ q) × (c ≡ d) → Give (prefix ++ line ∷ []) q d
  give_same q d e = subst (λ z. Give (prefix ++ line ∷ []) z d) e.0
      (subst (λ z. Give (prefix ++ line ∷ []) p z) e.1 give_here)

  code_same : (q d : ℕ) → (p ≡ q) × (c ≡ d) → code (inserted p c index) q ≡ Some d
  code_same q d e = ap (code (inserted p c index)) (sym e.0) ∙ code_here ∙ ap Some e.1

  pair_same : (q d : ℕ) → ◌≡◌ {A = ℕ × ℕ} (p, c) (q, d) → (p ≡ q) × (c ≡ d)
  pair_same q d e = (ap (λ z. z.0) e, ap (λ z. z.1) e)

  pub holds_inserted : Holds (prefix ++ line ∷ []) (inserted p c index)
  holds_inserted = record {
    found = λ q d e. ⊎_elim (give_same q d) (λ old. give_left prefix (line ∷ []) q d (h.found q d old))
        (code_new q d e);
    given = λ q d g.
        ⊎_elim (λ old. code_old q d (h.given q d old)) (λ last. code_same q d (last_gives q d last))
        (give_cases prefix (line ∷ []) q d g);
    contained = λ q d x.
        ⊎_elim (λ e. code_same q d (pair_same q d e)) (λ old. code_old q d (h.contained q d old))
        (inserted_cases p c index (q, d) x);
  }

-- A LINE

module _ (bound : ℕ) where
  abbrev LineReads : List (List ℕ) → List ℕ → ℕ → Result Index ReadError → Type 0
  LineReads prefix line n (Ok next) =
      (is_dropped line ≡ false → GivesNew bound prefix line) × Holds (prefix ++ line ∷ []) next
  LineReads prefix line n (Err e) = (is_dropped line ≡ false) × Breaks bound prefix line n e

  module _ (prefix : List (List ℕ)) (line : List ℕ) (index : Index) (n : ℕ) (h : Holds prefix index) where
    code_reads : (pair : ℕ × ℕ) → is_dropped line ≡ false → pair_of line ≡ Some pair → IsInRange bound pair →
        (o : Option ℕ) → code index pair.0 ≡ o → LineReads prefix line n (unless_given n pair index o)
    code_reads pair counts gives range None none = (
      λ k. record { pair = pair; gives = gives; range = range; fresh = λ c g. let e = h.given pair.0 c g in absurd cc },
      holds_inserted prefix line index pair.0 pair.1 counts gives none h,
    )
    code_reads pair counts gives range (Some d) some = (counts, (refl, pair, gives, range, d, h.found pair.0 d some))

    range_reads : (pair : ℕ × ℕ) → is_dropped line ≡ false → pair_of line ≡ Some pair → (b : Bool)
        → (nat_lt pair.0 bound && is_scalar pair.1) ≡ b →
        LineReads prefix line n (if b then unless_given n pair index (code index pair.0) else Err (Range n))
    range_reads pair counts gives true test =
        let below : pair.0 < bound = grind (arith, nat_tests, test) in
        let scalar : is_scalar pair.1 ≡ true = (and_parts (nat_lt pair.0 bound) (is_scalar pair.1) test).1 in
        code_reads pair counts gives (below, scalar) (code index pair.0) refl
    range_reads pair counts gives false test = (
      counts,
      (
        refl,
        pair,
        gives,
        λ range. let below = range.0 in let scalar = range.1 in out pair below scalar
            test,
      ),
    )
      where
        out : (pair : ℕ × ℕ) → pair.0 < bound → is_scalar pair.1 ≡ true
            → (nat_lt pair.0 bound && is_scalar pair.1) ≡ false → ⊥
        out pair below scalar test =
            let yes : nat_lt pair.0 bound ≡ true = grind (arith, nat_tests, below) in
            true≢false (sym (and_from (nat_lt pair.0 bound) (is_scalar pair.1) yes scalar) ∙ test)

    pair_reads : is_dropped line ≡ false → (o : Option (ℕ × ℕ)) → pair_of line ≡ o
        → LineReads prefix line n (with_pair bound n index o)
    pair_reads counts None none = (counts, (refl, none))
    pair_reads counts (Some pair) gives = range_reads pair counts gives (nat_lt pair.0 bound && is_scalar pair.1) refl

    dropped_reads : (b : Bool) → is_dropped line ≡ b → LineReads prefix line n
        (if b then Ok index else with_pair bound n index (pair_of line))
    dropped_reads true d = (λ counts. absurd cc, holds_dropped prefix line index d h)
    dropped_reads false counts = pair_reads counts (pair_of line) refl

    line_reads : LineReads prefix line n (with_line bound n index line)
    unfolding with_line
    line_reads = dropped_reads (is_dropped line) refl

  -- ALL LINES

  -- a line of the rest is the first bad one
  record BadAfter (prefix rest : List (List ℕ)) (e : ReadError) : Type 0 where
    mid : List (List ℕ)
    line : List ℕ
    back : List (List ℕ)
    parts : rest ≡ mid ++ line ∷ back
    good : AreGoodAfter bound prefix mid
    counts : is_dropped line ≡ false
    breaks : Breaks bound (prefix ++ mid) line (suc (length (prefix ++ mid))) e

  abbrev Reads : List (List ℕ) → List (List ℕ) → Result Index ReadError → Type 0
  Reads prefix rest (Ok index) = AreGoodAfter bound prefix rest × Holds (prefix ++ rest) index
  Reads prefix rest (Err e) = BadAfter prefix rest e

  further : (prefix : List (List ℕ)) (line : List ℕ) (lines : List (List ℕ)) (r : Result Index ReadError) →
      (is_dropped line ≡ false → GivesNew bound prefix line) → Reads (prefix ++ line ∷ []) lines r
      → Reads prefix (line ∷ lines) r
  further prefix line lines (Ok index) good r =
      ((good, r.0), subst (λ z. Holds z index) (append_assoc prefix (line ∷ []) lines) r.1)
  further prefix line lines (Err e) good r =
      let same = append_assoc prefix (line ∷ []) r.mid in
      record {
        mid = line ∷ r.mid;
        line = r.line;
        back = r.back;
        parts = ap (λ z. line ∷ z) r.parts;
        good = (good, r.good);
        counts = r.counts;
        breaks = subst (λ z. Breaks bound z r.line (suc (length z)) e) same r.breaks;
      }

  reads : (rest prefix : List (List ℕ)) (index : Index) (n : ℕ) → n ≡ suc (length prefix) → Holds prefix index →
      Reads prefix rest (with_lines bound n index rest)
  unfolding with_lines
  reads [] prefix index n count h = (tt, subst (λ z. Holds z index) (sym (append-nil prefix)) h)
  reads (line ∷ lines) prefix index n count h =
      let more : n + 1 ≡ suc (length (prefix ++ line ∷ [])) = let l =
      length-append prefix (line ∷ []) in omega (arith, count, l) in
      go (with_line bound n index line) (line_reads prefix line index n h)
      (λ next holds. reads lines (prefix ++ line ∷ []) next (n + 1) more holds)
    where
      go : (r : Result Index ReadError) → LineReads prefix line n r →
          ((next : Index) → Holds (prefix ++ line ∷ []) next → Reads (prefix ++ line ∷ []) lines
          (with_lines bound (n + 1) next lines)) →
          Reads prefix (line ∷ lines) (and_then r (λ next. with_lines bound (n + 1) next lines))
      go (Ok next) is ih = further prefix line lines (with_lines bound (n + 1) next lines) is.0 (ih next is.1)
      go (Err e) is ih = record {
        mid = [];
        line = line;
        back = lines;
        parts = refl;
        good = tt;
        counts = is.0;
        breaks = subst (λ z. Breaks bound z line (suc (length z)) e) (sym (append-nil prefix))
            (subst (λ z. Breaks bound prefix line z e) count is.1);
      }

  -- THE WHOLE FILE

  module _ (lines : List (List ℕ)) where
    all : Reads [] lines (with_lines bound 1 [] lines)
    all = reads lines [] [] 1 refl holds_none

    when_ok : (index : Index) → with_lines bound 1 [] lines ≡ Ok index → AreGood bound lines × Holds lines index
    when_ok index e = subst (Reads [] lines) e all

    pub when_bad : (e : ReadError) → with_lines bound 1 [] lines ≡ Err e → IsFirstBad bound lines e
    when_bad e is =
        let bad = subst (Reads [] lines) is all in
        record {
          prefix = bad.mid;
          line = bad.line;
          back = bad.back;
          parts = bad.parts;
          good = bad.good;
          counts = bad.counts;
          breaks = bad.breaks;
        }

  -- a good file has no bad line
  good_line : (prefix mid : List (List ℕ)) (line : List ℕ) (back : List (List ℕ))
      → AreGoodAfter bound prefix (mid ++ line ∷ back) →
      is_dropped line ≡ false → GivesNew bound (prefix ++ mid) line
  good_line prefix [] line back g counts = subst (λ z. GivesNew bound z line) (sym (append-nil prefix)) (g.0 counts)
  good_line prefix (first ∷ mid) line back g counts =
      subst (λ z. GivesNew bound z line) (append_assoc prefix (first ∷ []) mid)
      (good_line (prefix ++ first ∷ []) mid line back g.1 counts)

  no_break : (prefix : List (List ℕ)) (line : List ℕ) (n : ℕ) (e : ReadError) → GivesNew bound prefix line
      → Breaks bound prefix line n e → ⊥
  no_break prefix line n (Line m) good b = let is = good.gives in let none = b.1 in absurd cc
  no_break prefix line n (Range m) good (m_is, pair, gives, out) =
      out (subst (IsInRange bound) (some_same good.pair pair (sym good.gives ∙ gives)) good.range)
  no_break prefix line n (Twice m) good (m_is, pair, gives, range, c, given) =
      good.fresh c (subst (λ z. Give prefix z.0 c) (sym (some_same good.pair pair (sym good.gives ∙ gives))) given)
  no_break prefix line n NoMemory good b = b

  module _ (lines : List (List ℕ)) where
    pub read_when_good : AreGood bound lines → (index : Index) × (with_lines bound 1 [] lines ≡ Ok index)
    read_when_good good = go (with_lines bound 1 [] lines) refl
      where
        go : (r : Result Index ReadError) → with_lines bound 1 [] lines ≡ r
            → (index : Index) × (with_lines bound 1 [] lines ≡ Ok index)
        go (Ok index) e = (index, e)
        go (Err e) is =
            let bad = when_bad lines e is in
            absurd (no_break bad.prefix bad.line (suc (length bad.prefix)) e
            (good_line [] bad.prefix bad.line bad.back (subst (AreGood bound) bad.parts good) bad.counts) bad.breaks)

    pub pairs_when_ok : (index : Index) → with_lines bound 1 [] lines ≡ Ok index → (p c : ℕ)
        → Contains index (p, c) ↔ Give lines p c
    pairs_when_ok index e p c =
        let h = (when_ok lines index e).1 in
        (λ x. h.found p c (h.contained p c x), λ g. code_contained index p c (h.given p c g))

    pub code_when_ok : (index : Index) → with_lines bound 1 [] lines ≡ Ok index → (p c : ℕ)
        → (code index p ≡ Some c) ↔ Give lines p c
    code_when_ok index e p c = let h = (when_ok lines index e).1 in (h.found p c, h.given p c)

    pub good_when_ok : (index : Index) → with_lines bound 1 [] lines ≡ Ok index → AreGood bound lines
    good_when_ok index e = (when_ok lines index e).0
