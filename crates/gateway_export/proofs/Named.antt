-- No two files of an export have one name.
use Rattle.std.proofs.Common.{◌≡◌, ◌∙◌, ◌⊎◌, ap, arith, eq-eqb, inl, inr, subst, sym, ℕ, ◌+◌, ◌%◌, ◌^◌, ◌<◌, ◌≤◌}
use Rattle.std.proofs.Common.{refl, Bool, true, false, ◌&&◌, ◌||◌, List, [], ◌∷◌, ◌++◌, append_assoc, append-nil}
use Rattle.std.proofs.Common.{if◌then◌else◌, length, map, Option, Some, None}
use Rattle.std.specs.Prelude.{decimal, nat_le, ◌==◌}
use Rattle.std.specs.Str.Parse.{digits_value}
use Rattle.std.proofs.lemmas.Fmt.{decimal_by_steps, decimal_is_IsNumeral}
use Rattle.spool_disk.specs.declared.disk.Disk.{Ghosts}
use Rattle.upload_rules.specs.Slots.{IsRising}
use Rattle.upload_rules.specs.Store.{Store, Upload, find, is_complete}
use Rattle.spool_image.specs.LeftOnly.{IsSpool}
use Rattle.gateway_outside.specs.Bools.{true_or_false}
use Rattle.gateway_outside.specs.Above.{numbers, rising_rest}
use Rattle.gateway_texts.specs.Naming.{given_name, is_safe_name}
use Rattle.gateway_export.specs.Exporting.{IsJob}
use Rattle.gateway_export.specs.Planning.{Job, chosen, job_of, long_name, number_name}

-- THE NUMBER THAT A NAME BEGINS WITH

abbrev is_digit : ℕ → Bool
is_digit b = nat_le 48 b && nat_le b 57

-- the digits at the start
abbrev lead : List ℕ → List ℕ
lead [] = []
lead (b ∷ bs) = if is_digit b then b ∷ lead bs else []

lead_step : (d : ℕ) → d < 10 → (rest : List ℕ) → lead ((48 + d) ∷ rest) ≡ (48 + d) ∷ lead rest
lead_step d lt rest =
    let digit : is_digit (48 + d) ≡ true = grind (arith, lt) in
    ap (λ (b : Bool). if b then (48 + d) ∷ lead rest else []) digit

abbrev Leads : ℕ → List ℕ → Type 0
Leads n ds = (rest : List ℕ) → lead (ds ++ rest) ≡ ds ++ lead rest

leads_more : (n : ℕ) (ds : List ℕ) (d : ℕ) → d < 10 → Leads n ds → Leads n (ds ++ (48 + d) ∷ [])
leads_more n ds d lt is = λ rest.
    ap (λ xs. lead xs) (append_assoc ds ((48 + d) ∷ []) rest)
    ∙ (is ((48 + d) ∷ rest)
    ∙ (ap (λ xs. ds ++ xs) (lead_step d lt rest) ∙ sym (append_assoc ds ((48 + d) ∷ []) (lead rest))))

-- no digit comes after it
named : (n c : ℕ) (rest : List ℕ) → n < 10 ^ 18 → is_digit c ≡ false → lead (decimal n ++ (c ∷ rest)) ≡ decimal n
named n c rest fits other =
    decimal_by_steps Leads (λ k lt rest. lead_step k lt rest)
    (λ k ds le is. leads_more k ds (k % 10) (omega arith) is) n (omega (arith, fits)) (c ∷ rest)
    ∙ (ap (λ (b : Bool). decimal n ++ (if b then c ∷ lead rest else [])) other ∙ append-nil (decimal n))

number_one : (k n : ℕ) → k < 10 ^ 18 → n < 10 ^ 18 → decimal k ≡ decimal n → k ≡ n
number_one k n fits fits' same =
    sym (decimal_is_IsNumeral k (omega (arith, fits))).1
    ∙ (ap (λ ds. digits_value 10 ds) same ∙ (decimal_is_IsNumeral n (omega (arith, fits'))).1)

either_leads : (b : Bool) (x y ds : List ℕ) → lead x ≡ ds → lead y ≡ ds → lead (if b then x else y) ≡ ds
either_leads true x y ds one other = one
either_leads false x y ds one other = other

by_number : (n : ℕ) → n < 10 ^ 18 → lead (number_name n) ≡ decimal n
by_number n fits = named n 46 (116 ∷ 120 ∷ 116 ∷ []) fits refl

chosen_leads : (takes : List ℕ → Bool) (n : ℕ) (given : Option (List ℕ)) → n < 10 ^ 18
    → lead (chosen takes n given) ≡ decimal n
chosen_leads takes n None fits = by_number n fits
chosen_leads takes n (Some name) fits =
    either_leads (is_safe_name name && (nat_le (length (long_name n name)) 255 && takes (long_name n name)))
    (long_name n name) (number_name n) (decimal n) (named n 45 name fits refl) (by_number n fits)

if_some : (b : Bool) (x name : List ℕ) → (if b then Some x else None) ≡ Some name → x ≡ name
if_some true x name is = cc
if_some false x name is = absurd (cc)

job_leads : (takes : List ℕ → Bool) (all : Bool) (x : ℕ × Upload) (name : List ℕ) → x.0 < 10 ^ 18
    → (job_of takes all x).1 ≡ Some name → lead name ≡ decimal x.0
job_leads takes all x name fits is =
    let file = chosen takes x.0 (given_name x.1.metadata) in
    subst (λ z. lead z ≡ decimal x.0) (if_some (all || is_complete x.1) file name is)
    (chosen_leads takes x.0 (given_name x.1.metadata) fits)

-- NUMBERS

-- they rise, from this one on
abbrev pub Rises : ℕ → List (ℕ × Upload) → Type 0
Rises n [] = Unit {0}
Rises n (x ∷ xs) = (n ≤ x.0) × (x.0 < 10 ^ 18) × Rises (x.0 + 1) xs

abbrev Fit : List (ℕ × Upload) → Type 0
Fit xs = (n : ℕ) (u : Upload) → find n xs ≡ Some u → n < 10 ^ 18

first_fits : (x : ℕ × Upload) (xs : List (ℕ × Upload)) → Fit (x ∷ xs) → x.0 < 10 ^ 18
first_fits x xs fit = fit x.0 x.1 (rw (eq-eqb x.0 x.0 refl) refl)

rest_fit : (x : ℕ × Upload) (xs : List (ℕ × Upload)) → Fit (x ∷ xs) → Fit xs
rest_fit x xs fit n u is =
    elim (true_or_false (x.0 == n)) [
      | inl same ↦ fit n x.1 (rw same refl)
      | inr other ↦ fit n u (ap (λ (b : Bool). if b then Some x.1 else find n xs) other ∙ is)
    ]

rises_on : (x : ℕ × Upload) (xs : List (ℕ × Upload)) → IsRising (numbers (x ∷ xs)) → Fit xs → Rises (x.0 + 1) xs
rises_on x [] rising fit = tt
rises_on x (y ∷ xs) rising fit = (
  let less : x.0 < y.0 = rising 0 1 (omega arith) (omega arith) in omega (arith, less),
  first_fits y xs fit,
  rises_on y xs (rising_rest x (y ∷ xs) rising) (rest_fit y xs fit),
)

rises : (xs : List (ℕ × Upload)) → IsRising (numbers xs) → Fit xs → Rises 0 xs
rises [] rising fit = tt
rises (x ∷ xs) rising fit = (omega arith, first_fits x xs fit, rises_on x xs rising (rest_fit x xs fit))

pub spool_rises : {D : Type 0} (disk : Ghosts D) (d : D) (n : ℕ) (m : Store) → IsSpool disk d n m → Rises 0 m.uploads
spool_rises disk d n m is =
    let shows = is.shows.shows in
    rises m.uploads shows.rising (λ k u there.
    let slot = shows.all k u there in
    let below = (shows.valid.records slot.slot slot.used slot.there).below in
    let number = slot.number in
    let most = shows.valid.next_most in omega (arith, below, number, most))

-- NO FILE OF ONE JOB IS THAT OF A LATER ONE
abbrev pub Apart : List Job → Type 0
Apart [] = Unit {0}
Apart (job ∷ jobs) =
    ((it : Job) (other name : List ℕ) → IsJob it jobs → job.1 ≡ Some other → it.1 ≡ Some name → other ≡ name → ⊥)
    × Apart jobs

-- the number that the name of a later one begins with
later : (takes : List ℕ → Bool) (all : Bool) (n : ℕ) (xs : List (ℕ × Upload)) → Rises n xs → (it : Job)
    → IsJob it (map (job_of takes all) xs) → (name : List ℕ) → it.1 ≡ Some name
    → (k : ℕ) × (n ≤ k) × (k < 10 ^ 18) × (lead name ≡ decimal k)
later takes all n [] rises it is name named = absurd is
later takes all n (x ∷ xs) rises it (inl same) name named =
    (x.0, rises.0, rises.1, job_leads takes all x name rises.1 (ap (λ (j : Job). j.1) (sym same) ∙ named))
later takes all n (x ∷ xs) rises it (inr among) name named =
    let found = later takes all (x.0 + 1) xs rises.2 it among name named in
    let le = found.1 in
    let first = rises.0 in (found.0, omega (arith, le, first), found.2, found.3)

pub apart : (takes : List ℕ → Bool) (all : Bool) (n : ℕ) (xs : List (ℕ × Upload)) → Rises n xs
    → Apart (map (job_of takes all) xs)
apart takes all n [] rises = tt
apart takes all n (x ∷ xs) rises = (
  λ it other name among mine named same.
      let found = later takes all (x.0 + 1) xs rises.2 it among name named in
      let one = number_one x.0 found.0 rises.1 found.2
      (sym (job_leads takes all x other rises.1 mine) ∙ (ap (λ z. lead z) same ∙ found.3)) in
      let le = found.1 in omega (arith, one, le),
  apart takes all (x.0 + 1) xs rises.2,
)
