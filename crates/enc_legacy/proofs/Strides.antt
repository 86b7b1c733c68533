-- Steps over some bytes at once.
use Rattle.std.proofs.Common.{Bool, true, false, ap, IfSome, Option, None, ℕ, sym, subst, ◌+◌}
use Rattle.std.proofs.Common.{◌-◌, ◌*◌, ◌<◌, ◌≤◌, ◌≡◌, List, [], ◌∷◌, Some, refl, ◌∙◌, arith, take, get_or, length, All}
use Rattle.std.proofs.lemmas.Bool.Decides.{nat_tests}
use Rattle.std.proofs.lemmas.List.{length-take, get_or-take}
use Rattle.std.proofs.lemmas.List.Elements.{All-head, All-tail, All-from_get_or}
use Rattle.std.proofs.lemmas.List.Sums.{prefix_len-le-length, prefix_len_passes}
use Rattle.std.specs.List.{prefix_len}
use Rattle.lane_kernels.specs.Classes.{is_plain_2022}
use Rattle.enc_model.specs.declared.Answer.TheVariants.{Point, Nothing}
use Rattle.enc_model.specs.declared.Charset.{Charset}
use Rattle.enc_model.specs.declared.Charset.TheVariants.{Ascii, Lead}
use Rattle.enc_model.specs.declared.Place.{Place}
use Rattle.enc_model.specs.declared.Place.TheVariants.{In, Trail}
use Rattle.enc_model.specs.Index.{Index, code}
use Rattle.enc_model.specs.Stream.{Handler, IsCalm, steps}
use Rattle.enc_model.specs.Japanese.{shift_jis, shift_jis_pair, EucJp, euc_jp, euc_jp_start, euc_jp_pair, iso2022}
use Rattle.enc_model.specs.Japanese.{Iso2022}
use Rattle.enc_model.proofs.Calm.{shift_jis_calm, euc_jp_calm, iso2022_calm}
use Rattle.enc_feed.specs.Batches.{ArePairs, BatchTook}
use Rattle.enc_feed.specs.BatchLaws.{batch_sink}
use Rattle.enc_model.proofs.Steps.{steps_none, steps_one, steps_bytes, steps_run, steps_append}
use Rattle.enc_legacy.specs.ShiftJis.{IsShiftJisLead, IsShiftJisPair}
use Rattle.enc_legacy.specs.EucJpState.{IsRow, IsEucJpPair}
use Rattle.enc_legacy.specs.declared.pairs.TheConstants.{NO_PAIR}
use Rattle.enc_legacy.specs.Iso2022State.{IsIso2022Pair}
use Rattle.std.proofs.Common.{slice_index_or}

take_one : (xs : List ℕ) → 0 < length xs → take 1 xs ≡ get_or xs 0 0 ∷ []
take_one [] l = absurd (omega (arith, l))
take_one (x ∷ xs) l = refl

take_two : (xs : List ℕ) → 2 ≤ length xs → take 2 xs ≡ get_or xs 0 0 ∷ get_or xs 1 0 ∷ []
take_two [] l = absurd (omega (arith, l))
take_two (x ∷ []) l = absurd (omega (arith, l))
take_two (x ∷ y ∷ xs) l = refl

module _ {S : Type 0} (h : Handler S) (calm : IsCalm h) where
  -- a byte that is a character
  one_read : (s next : S) (rest : List ℕ) (c : ℕ) → 0 < length rest → h s (Some (get_or rest 0 0)) ≡ record {
    state = next;
    answer = Point c;
    restored = [];
  } →
      steps h false s (take 1 rest) ≡ record { text = c ∷ []; state = next }
  one_read s next rest c l e = rw (take_one rest l) (steps_one h calm s (get_or rest 0 0) ∙ (rw e refl))

  -- two bytes that are one
  two_read : (s mid next : S) (rest : List ℕ) (c : ℕ) → 2 ≤ length rest → h s (Some (get_or rest 0 0)) ≡ record {
    state = mid;
    answer = Nothing;
    restored = [];
  } →
      h mid (Some (get_or rest 1 0)) ≡ record { state = next; answer = Point c; restored = [] } →
      steps h false s (take 2 rest) ≡ record { text = c ∷ []; state = next }
  two_read s mid next rest c l e f =
      rw (take_two rest l) (steps_bytes h calm s (get_or rest 0 0 ∷ get_or rest 1 0 ∷ []) ∙ (rw (e, f) refl))

  -- pairs that decode to characters in this state and lead back to it
  pub pairs_run : (s : S) (P : ℕ → ℕ → ℕ → Type 0)
      → ((a b c : ℕ) → P a b c → steps h false s (a ∷ b ∷ []) ≡ record { text = c ∷ []; state = s })
      → (bytes given : List ℕ) → ArePairs P bytes given → steps h false s bytes ≡ record { text = given; state = s }
  pairs_run s P two [] [] all = steps_none h s
  pairs_run s P two [] (c ∷ given) all = absurd all
  pairs_run s P two (a ∷ []) [] all = absurd all
  pairs_run s P two (a ∷ []) (c ∷ given) all = absurd all
  pairs_run s P two (a ∷ b ∷ bytes) [] all = absurd all
  pairs_run s P two (a ∷ b ∷ bytes) (c ∷ given) all =
      let first = two a b c all.0 in
      let rest = pairs_run s P two bytes given all.1 in
      steps_append h calm false s (a ∷ b ∷ []) bytes ∙ (rw (first, rest) refl)

  pub pairs_read : (s : S) (P : ℕ → ℕ → ℕ → Type 0)
      → ((a b c : ℕ) → P a b c → steps h false s (a ∷ b ∷ []) ≡ record { text = c ∷ []; state = s })
      → (bytes old new : List ℕ) → ((given : List ℕ) × ArePairs P bytes given × BatchTook old given new)
      → BatchTook old (steps h false s bytes).text new × (s ≡ (steps h false s bytes).state)
  pairs_read s P two bytes old new took =
      let is = pairs_run s P two bytes took.0 took.1 in
      (subst (λ z. BatchTook old z new) (ap (λ run. run.text) (sym is)) took.2, ap (λ run. run.state) (sym is))

-- nothing is read
pub text_begins : {S : Type 0} (h : Handler S) (s : S) (old : List ℕ) → BatchTook old (steps h false s []).text old
text_begins h s old = rw (steps_none h s) ((batch_sink {E = ℕ}).none old)

pub state_begins : {S : Type 0} (h : Handler S) (s : S) → s ≡ (steps h false s []).state
state_begins h s = ap (λ run. run.state) (sym (steps_none h s))

-- what follows where there is one
pub some_then : {A : Type 0} (o : Option A) (P Q : A → Type 0) → ((x : A) → P x → Q x) → IfSome o P → IfSome o Q
some_then None P Q f p = tt
some_then (Some x) P Q f p = f x p

-- what is taken after nothing
pub after_nothing : {S : Type 0} (h : Handler S) (s : S) (rest : List ℕ) (n : ℕ) (old mid : List ℕ) → n ≡ 0
    → BatchTook old (steps h false s (take n rest)).text mid → (length mid ≤ length old)
    × ((given new : List ℕ) → BatchTook mid given new → BatchTook old given new)
after_nothing h s rest n old mid e t =
    let none : (steps h false s (take n rest)).text ≡ [] = rw e (ap (λ run. run.text) (steps_none h s)) in
    let took : BatchTook old [] mid = subst (λ z. BatchTook old z mid) none t in
    let size = took.size in (
      omega (arith, size),
      λ given new more. (batch_sink {E = ℕ}).both old mid new [] given took more,
    )

-- no pair was taken
pub pairs_none : {S : Type 0} (h : Handler S) (s : S) (P : ℕ → ℕ → ℕ → Type 0) (rest old new : List ℕ) (n : ℕ) → n ≡ 0
    → ((given : List ℕ) × ArePairs P (take n rest) given × BatchTook old given new)
    → BatchTook old (steps h false s []).text new
pairs_none h s P rest old new n e took =
    go took.0 (subst (λ k. ArePairs P (take k rest) took.0) e took.1) took.2
  where
    go : (given : List ℕ) → ArePairs P [] given → BatchTook old given new → BatchTook old (steps h false s []).text new
    go [] all t = subst (λ z. BatchTook old z new) (sym (ap (λ run. run.text) (steps_none h s))) t
    go (c ∷ given) all t = absurd all

-- the state after nothing
pub state_none : {S : Type 0} (h : Handler S) (s next : S) (rest : List ℕ) (n : ℕ) → n ≡ 0
    → next ≡ (steps h false s (take n rest)).state → next ≡ s
state_none h s next rest n e is = is ∙ (rw e (ap (λ run. run.state) (steps_none h s)))

-- SHIFT_JIS

sjis_lead : (i : Index) (a : ℕ) → IsShiftJisLead a → shift_jis i 0 (Some a) ≡ record {
  state = a;
  answer = Nothing;
  restored = [];
}
unfolding shift_jis
sjis_lead i a l = grind (arith, nat_tests, l)

sjis_trail : (i : Index) (a b c : ℕ) → IsShiftJisLead a → shift_jis_pair i a b ≡ Some c → shift_jis i a (Some b)
    ≡ record {
      state = 0;
      answer = Point c;
      restored = [];
    }
unfolding shift_jis
sjis_trail i a b c l e = rw e (grind (arith, nat_tests, l))

pub sjis_two : (i : Index) (s : ℕ) (rest : List ℕ) (c : ℕ) → s ≡ 0 → 2 ≤ length rest → IsShiftJisLead (get_or rest 0 0)
    →
    shift_jis_pair i (get_or rest 0 0) (get_or rest 1 0) ≡ Some c → steps (shift_jis i) false s (take 2 rest) ≡ record {
      text = c ∷ [];
      state = 0;
    }
sjis_two i s rest c e l lead pair =
    let a = get_or rest 0 0 in
    rw e (two_read (shift_jis i) (shift_jis_calm i) 0 a 0 rest c l (sjis_lead i a lead)
    (sjis_trail i a (get_or rest 1 0) c lead pair))

pub sjis_pair_steps : (i : Index) (s : ℕ) (r : List (Option ℕ)) → s ≡ 0 → length r ≤ NO_PAIR
    → ((p : ℕ) → slice_index_or r p None ≡ code i p) → (a b c : ℕ) → IsShiftJisPair r a b c
    → steps (shift_jis i) false s (a ∷ b ∷ []) ≡ record { text = c ∷ []; state = s }
sjis_pair_steps i s r e few codes a b c codes_are =
    let p = codes_are few in
    sjis_two i s (a ∷ b ∷ []) c e (omega arith) p.0 (p.1 i codes) ∙ ap (λ z. record {
      text = c ∷ [];
      state = z;
    }) (sym e)

-- EUC-JP

euc_lead : (i j : Index) (a : ℕ) → IsRow a → euc_jp i j euc_jp_start (Some a) ≡ record
    { state = record { lead = a; flag = false }; answer = Nothing; restored = [] }
unfolding euc_jp
euc_lead i j a l = grind (arith, nat_tests, l)

euc_trail : (i j : Index) (a b c : ℕ) → IsRow a → euc_jp_pair i j false a b ≡ Some c →
    euc_jp i j (record {
      lead = a;
      flag = false;
    }) (Some b) ≡ record { state = euc_jp_start; answer = Point c; restored = [] }
unfolding euc_jp
euc_trail i j a b c l e = rw e (grind (arith, nat_tests, l))

pub euc_two : (i j : Index) (s : EucJp) (rest : List ℕ) (c : ℕ) → s ≡ euc_jp_start → 2 ≤ length rest
    → IsRow (get_or rest 0 0) →
    euc_jp_pair i j false (get_or rest 0 0) (get_or rest 1 0) ≡ Some c → steps (euc_jp i j) false s (take 2 rest)
    ≡ record {
      text = c ∷ [];
      state = euc_jp_start;
    }
euc_two i j s rest c e l lead pair =
    let a = get_or rest 0 0 in
    rw e (two_read (euc_jp i j) (euc_jp_calm i j) euc_jp_start (record { lead = a; flag = false }) euc_jp_start rest c l
    (euc_lead i j a lead)
    (euc_trail i j a (get_or rest 1 0) c lead pair))

row_pair : (i j : Index) (a b : ℕ) → IsRow a → IsRow b → euc_jp_pair i j false a b ≡ code i
    ((a - 0xA1) * 94 + (b - 0xA1))
row_pair i j a b l m = grind (arith, nat_tests, l, m)

pub euc_pair_steps : (i j : Index) (s : EucJp) (r : List (Option ℕ)) → s ≡ euc_jp_start → length r ≤ NO_PAIR
    → ((p : ℕ) → slice_index_or r p None ≡ code i p) → (a b c : ℕ) → IsEucJpPair r a b c
    → steps (euc_jp i j) false s (a ∷ b ∷ []) ≡ record { text = c ∷ []; state = s }
euc_pair_steps i j s r e few codes a b c read =
    let p = read few in
    let codes_are = row_pair i j a b p.0 p.1 ∙ sym (codes ((a - 0xA1) * 94 + (b - 0xA1))) ∙ p.2 in
    euc_two i j s (a ∷ b ∷ []) c e (omega arith) p.0 codes_are ∙ ap (λ (z : EucJp). record {
      text = c ∷ [];
      state = z;
    }) (sym e)

-- ISO-2022-JP

iso_lead : (i : Index) (a : ℕ) (output : Charset) (flag : Bool) → 0x21 ≤ a → a ≤ 0x7E →
    iso2022 i (record { place = In Lead; output = output; flag = flag }) (Some a)
    ≡ record { state = record { place = Trail a; output = output; flag = false }; answer = Nothing; restored = [] }
unfolding iso2022
iso_lead i a output flag l h = grind (arith, nat_tests)

iso_trail : (i : Index) (a b c : ℕ) (output : Charset) → 0x21 ≤ b → b ≤ 0x7E
    → code i ((a - 0x21) * 94 + (b - 0x21)) ≡ Some c →
    iso2022 i (record { place = Trail a; output = output; flag = false }) (Some b)
    ≡ record { state = record { place = In Lead; output = output; flag = false }; answer = Point c; restored = [] }
unfolding iso2022
iso_trail i a b c output l h e = rw e (grind (arith, nat_tests))

iso_two : (i : Index) (output : Charset) (flag : Bool) (r : List (Option ℕ)) (a b c : ℕ)
    → length r ≤ NO_PAIR → ((p : ℕ) → slice_index_or r p None ≡ code i p) → IsIso2022Pair r a b c →
    steps (iso2022 i) false (record { place = In Lead; output = output; flag = flag }) (a ∷ b ∷ [])
    ≡ record { text = c ∷ []; state = record { place = In Lead; output = output; flag = false } }
iso_two i output flag r a b c few codes read =
    let p = read few in
    let lead = p.0 in
    let trail = p.1 in
    two_read (iso2022 i) (iso2022_calm i) _ _ _ (a ∷ b ∷ []) c (omega arith)
    (iso_lead i a output flag lead.0 lead.1)
    (iso_trail i a b c output trail.0 trail.1 (sym (codes ((a - 0x21) * 94 + (b - 0x21))) ∙ p.2))

-- the state after pairs: the first of them clears the flag
pub iso_pairs : (i : Index) (output : Charset) (flag : Bool) (r : List (Option ℕ)) (bytes given : List ℕ)
    → length r ≤ NO_PAIR → ((p : ℕ) → slice_index_or r p None ≡ code i p) → 0 < length bytes
    → ArePairs (IsIso2022Pair r) bytes given →
    steps (iso2022 i) false (record { place = In Lead; output = output; flag = flag }) bytes
    ≡ record { text = given; state = record { place = In Lead; output = output; flag = false } }
iso_pairs i output flag r [] given few codes some all = absurd (omega (arith, some))
iso_pairs i output flag r (a ∷ []) [] few codes some all = absurd all
iso_pairs i output flag r (a ∷ []) (c ∷ given) few codes some all = absurd all
iso_pairs i output flag r (a ∷ b ∷ bytes) [] few codes some all = absurd all
iso_pairs i output flag r (a ∷ b ∷ bytes) (c ∷ given) few codes some all =
    let h = iso2022 i in
    let s : Iso2022 = record { place = In Lead; output = output; flag = flag } in
    let next : Iso2022 = record { place = In Lead; output = output; flag = false } in
    let first = iso_two i output flag r a b c few codes all.0 in
    let rest = pairs_run h (iso2022_calm i) next (IsIso2022Pair r)
    (λ x y z p. iso_two i output false r x y z few codes p) bytes given all.1 in
    steps_append h (iso2022_calm i) false s (a ∷ b ∷ []) bytes ∙ (rw (first, rest) refl)

iso_own : (i : Index) (output : Charset) (flag : Bool) (b : ℕ) → is_plain_2022 b ≡ true →
    iso2022 i (record { place = In Ascii; output = output; flag = flag }) (Some b)
    ≡ record { state = record { place = In Ascii; output = output; flag = false }; answer = Point b; restored = [] }
unfolding iso2022
iso_own i output flag b p = grind (arith, nat_tests, p)

iso_run : (i : Index) (output : Charset) (flag : Bool) (run : List ℕ) → 0 < length run
    → All (λ b. is_plain_2022 b ≡ true) run →
    steps (iso2022 i) false (record { place = In Ascii; output = output; flag = flag }) run
    ≡ record { text = run; state = record { place = In Ascii; output = output; flag = false } }
iso_run i output flag [] l all = absurd (omega (arith, l))
iso_run i output flag (b ∷ run) l all =
    let h = iso2022 i in
    let calm = iso2022_calm i in
    let s : Iso2022 = record { place = In Ascii; output = output; flag = flag } in
    let next : Iso2022 = record { place = In Ascii; output = output; flag = false } in
    let first : steps h false s (b ∷ []) ≡ record { text = b ∷ []; state = next } =
    steps_one h calm s b ∙ (rw (iso_own i output flag b (All-head (λ x. is_plain_2022 x ≡ true) b run all)) refl) in
    let rest : steps h false next run ≡ record { text = run; state = next } =
    steps_run h calm (λ x. is_plain_2022 x ≡ true) next (λ x p. iso_own i output false x p) run
    (All-tail (λ x. is_plain_2022 x ≡ true) b run all) in
    steps_append h calm false s (b ∷ []) run ∙ (rw (first, rest) refl)

plain_all : (bytes : List ℕ) (n : ℕ) → n ≡ prefix_len is_plain_2022 bytes
    → All (λ b. is_plain_2022 b ≡ true) (take n bytes)
plain_all bytes n e =
    All-from_get_or (λ b. is_plain_2022 b ≡ true) (take n bytes) 0 (λ k l.
    let m : k < n = let t = length-take n bytes in omega (arith, l, t) in
    subst (λ b. is_plain_2022 b ≡ true) (sym (get_or-take n bytes k 0 m))
    (prefix_len_passes is_plain_2022 bytes k 0 (subst (λ z. k < z) e m)))

plain_ascii : (b : ℕ) → is_plain_2022 b ≡ true → b < 128
plain_ascii b p = grind (arith, nat_tests, p)

-- a run that clears the flag is read from a place where it stays
pub run_cleared : (i : Index) (at place : Place) (output : Charset) (flag : Bool) (s : Iso2022)
    (bytes text old new : List ℕ) → record { place = place; output = output; flag = flag } ≡ s → s.place ≡ at →
    steps (iso2022 i) false (record { place = at; output = output; flag = flag }) bytes
    ≡ record { text = text; state = record { place = at; output = output; flag = false } } → BatchTook old text new →
    BatchTook old (steps (iso2022 i) false s bytes).text new
    × (record { place = place; output = output; flag = false } ≡ (steps (iso2022 i) false s bytes).state)
run_cleared i at place output flag s bytes text old new own here is took =
    let stays : place ≡ at = ap (λ z. z.place) own ∙ here in
    rw (← own, stays, is) (took, refl)

-- a run in ASCII, which clears the flag
pub iso_prefix : (i : Index) (output : Charset) (flag : Bool) (rest : List ℕ) (n : ℕ)
    → n ≡ prefix_len is_plain_2022 rest
    → 0 < n →
    All (λ b. b < 128) (take n rest)
    × (steps (iso2022 i) false (record { place = In Ascii; output = output; flag = flag }) (take n rest)
    ≡ record { text = take n rest; state = record { place = In Ascii; output = output; flag = false } })
iso_prefix i output flag rest n e some =
    let all = plain_all rest n e in
    let long : 0 < length (take n rest) = let t = length-take n rest in let w =
    prefix_len-le-length is_plain_2022 rest in omega (arith, t, w, some, e) in
    (λ k d l. plain_ascii (get_or (take n rest) k d) (all k d l), iso_run i output flag (take n rest) long all)
