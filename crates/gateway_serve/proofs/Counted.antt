-- How many connections are open, and how many ended.
use Rattle.std.proofs.Common.{◌≡◌, ◌≢◌, ◌<◌, ◌≤◌, ◌+◌, ℕ, zero, suc, refl, ap, ◌∙◌, arith}
use Rattle.std.proofs.Common.{Bool, true, false, if◌then◌else◌}
use Rattle.std.proofs.Common.{List, [], ◌∷◌, ◌++◌, length, set, get_or}
use Rattle.upload_rules.specs.Answers.{Counts}
use Rattle.gateway_serve.specs.Counted.{Adds, count_closed, one_before, one_if_open, open_in}
use Rattle.gateway_serve.specs.Joined.{IsNew, with_place}
use Rattle.gateway_serve.specs.declared.places.Place.{Place}
use Rattle.gateway_serve.specs.declared.places.Place.TheVariants.{Free, Open}
use Rattle.gateway_serve.specs.declared.places.Turned.{Turned}
use Rattle.gateway_serve.specs.declared.places.Turned.TheVariants as Came
use Rattle.gateway_serve.specs.declared.reasons.Reason.{Reason}
use Rattle.gateway_serve.specs.declared.reasons.Reason.TheVariants.{Over}
use Rattle.gateway_serve.specs.declared.sockets.Seen.{Seen}

-- ONE PLACE changed
pub set_open : {S : Type 0} (places : List (Place S)) (n : ℕ) (d p' : Place S) → n < length places
    → open_in (set places n p') + one_if_open (get_or places n d) ≡ open_in places + one_if_open p'
unfolding open_in
set_open [] n d p' inside = absurd (omega (arith, inside))
set_open (p ∷ places) zero d p' inside = omega arith
set_open (p ∷ places) (suc n) d p' inside = omega (arith, set_open places n d p' (omega (arith, inside)))

pub adds_on : {S : Type 0} (first places : List (Place S)) (n : ℕ) (d p' : Place S) (was ended ended' : List Seen)
    → n < length places → Adds first places was ended
    → length ended' + one_if_open p' ≡ length ended + one_if_open (get_or places n d)
    → Adds first (set places n p') was ended'
adds_on first places n d p' was ended ended' inside adds kept =
    omega (arith, set_open places n d p' inside, adds, kept)

-- the place is free now
pub free_adds : {S : Type 0} (p' : Place S) (n n' one : ℕ) → p' ≡ Free → n' ≡ n + one → n' + one_if_open p' ≡ n + one
free_adds p' n n' one free kept =
    let none : one_if_open p' ≡ 0 = ap one_if_open free in
    omega (arith, none, kept)

pub one_most : {S : Type 0} (p : Place S) → one_if_open p ≤ 1
one_most Free = omega arith
one_most (Open l) = omega arith

-- one that was free is another one's now
pub free_open : {S : Type 0} (places : List (Place S)) (n : ℕ) (p' : Place S) → n < length places
    → get_or places n Free ≡ Free → one_if_open p' ≡ 1 → open_in (set places n p') ≡ open_in places + 1
free_open places n p' inside free one =
    let was : one_if_open (get_or places n Free) ≡ 0 = ap one_if_open free in
    omega (arith, set_open places n Free p' inside, was, one)

pub push_open : {S : Type 0} (places : List (Place S)) → open_in (places ++ Free ∷ []) ≡ open_in places
unfolding open_in
push_open [] = refl
push_open (p ∷ places) = ap (λ n. one_if_open p + n) (push_open places)

pub pushed : {S : Type 0} (places places' : List (Place S)) (ok : Bool)
    → places' ≡ (if ok then places ++ Free ∷ [] else places) → open_in places' ≡ open_in places
pushed places places' true is = ap open_in is ∙ push_open places
pushed places places' false is = ap open_in is

-- ALL ARE FREE
pub none_open : {S : Type 0} (places : List (Place S))
    → ((k : ℕ) → k < length places → get_or places k Free ≡ Free) → open_in places ≡ 0
unfolding open_in
none_open [] all = refl
none_open (p ∷ places) all =
    let first : one_if_open p ≡ 0 = ap one_if_open (all 0 (omega arith)) in
    omega (arith, first, none_open places (λ k inside. all (suc k) (omega (arith, inside))))

-- THE SOCKETS THAT ENDED
pub length_with : {S : Type 0} (n : ℕ) (reason : Reason) (p : Place S) (ended : List Seen)
    → length (with_place n reason p ended) ≡ length ended + one_if_open p
length_with n reason Free ended = omega arith
length_with n reason (Open l) ended = omega arith

pub count_with : {S : Type 0} (n : ℕ) (p : Place S) (ended ended' : List Seen) → ended' ≡ with_place n Over p ended
    → count_closed ended' ≡ count_closed ended
unfolding count_closed
count_with n Free ended ended' with = rw with refl
count_with n (Open l) ended ended' with = rw with (omega arith)

one_closed : (reason : Reason) → one_before reason ≤ 1
one_closed reason = grind arith

pub count_most : (ended : List Seen) → count_closed ended ≤ length ended
unfolding count_closed
count_most [] = omega arith
count_most (s ∷ ended) = omega (arith, one_closed s.reason, count_most ended)

-- SO MANY ARE CLOSED as ended, and no more than are to be
pub closes : (turned : Turned) (closed closed' n n' connections : ℕ) → (closed ≡ connections → ⊥) → closed ≡ n
    → n ≤ connections → (turned ≡ Came.Closed → n' ≡ n + 1) → (turned ≢ Came.Closed → n' ≡ n)
    → (turned ≡ Came.Closed → closed < connections → closed' ≡ closed + 1)
    → (turned ≢ Came.Closed → closed' ≡ closed) → (closed' ≡ n') × (n' ≤ connections)
closes Came.Closed closed closed' n n' connections other same most one none adds stays =
    let less : closed < connections = omega (arith, other, same, most) in
    (omega (arith, adds refl less, one refl, same), omega (arith, one refl, less, same))
closes Came.Idle closed closed' n n' connections other same most one none adds stays =
    let now = none (λ e. absurd (cc)) in
    (omega (arith, stays (λ e. absurd (cc)), now, same), omega (arith, now, most))
closes Came.Moved closed closed' n n' connections other same most one none adds stays =
    let now = none (λ e. absurd (cc)) in
    (omega (arith, stays (λ e. absurd (cc)), now, same), omega (arith, now, most))

-- after a fault in a turn
pub still_most : {S : Type 0} (p p' : Place S) (closed n n' connections : ℕ) → (closed ≡ connections → ⊥)
    → closed ≡ n → n ≤ connections → n' + one_if_open p' ≡ n + one_if_open p → n' ≤ connections
still_most p p' closed n n' connections other same most kept =
    omega (arith, other, same, most, kept, one_most p)

-- THE SERVER counts on
pub counted_on : {opened opened' n n' here here' : ℕ} → opened' ≡ opened → n' ≡ n → here' ≡ here → opened ≡ n + here
    → opened' ≡ n' + here'
counted_on same ended places counted = omega (arith, same, ended, places, counted)

pub opens_one : {S : Type 0} (p : Place S) → IsNew p → one_if_open p ≡ 1
opens_one p new = ap one_if_open new.1

pub counted_by : (opened n n' here here' : ℕ) → opened ≡ n + here → n' + here' ≡ n + here → opened ≡ n' + here'
counted_by opened n n' here here' counted kept = omega (arith, counted, kept)

pub none_counted : {S : Type 0} (opened : ℕ) (ended : List Seen) (places : List (Place S)) → opened ≡ 0 → ended ≡ []
    → places ≡ [] → opened ≡ length ended + open_in places
unfolding open_in
none_counted opened ended places none no_ended no_places = rw (no_ended, no_places) none

-- no call of the session met a disk fault
pub uncounts : (a b : ℕ) → b ≡ a → Counts (false ≡ true) a b
uncounts a b same = record {
  later = omega (arith, same);
  counted = λ fails. absurd (cc);
  nothing_else = λ less. absurd (omega (arith, same, less));
}
