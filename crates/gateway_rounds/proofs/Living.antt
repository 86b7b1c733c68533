-- One round more.
use Rattle.std.proofs.Common.{◌≡◌, ◌<◌, ◌≤◌, ◌+◌, ℕ, List, [], ◌∷◌, ◌++◌, ap, arith, get_or, length, refl, slice_set}
use Rattle.std.proofs.Common.{sym, subst, take, ◌∙◌}
use Rattle.std.proofs.lemmas.List.{take_all, take_more, take_more_set}
use Rattle.spool_disk.specs.declared.disk.Disk.{Ghosts}
use Rattle.upload_rules.specs.Store.{Store}
use Rattle.gateway_rounds.specs.declared.round.Round.{Round}
use Rattle.gateway_rounds.specs.Rounds.{IsRound, Lives}

pub lives_on : {D C : Type 0} (disk : Ghosts D) (chosen : C → D → D → Type 0) (n : ℕ) (d : D) (m : List Store)
    (rounds reported : List (Round C)) (mid after : D) (now next : List Store) (r t : Round C)
    → Lives disk chosen n d m rounds reported mid now → IsRound disk chosen n mid after now next r t
    → Lives disk chosen n d m (rounds ++ r ∷ []) (reported ++ t ∷ []) after next
lives_on {D} disk chosen n d m [] [] mid after now next r t (same, is_same) round = (
  after,
  next,
  subst (λ (e : List Store). IsRound disk chosen n d after e next r t) is_same
      (subst (λ (x : D). IsRound disk chosen n x after now next r t) same round),
  (refl, refl),
)
lives_on disk chosen n d m [] (u ∷ reported) mid after now next r t lives round = absurd lives
lives_on disk chosen n d m (q ∷ rounds) [] mid after now next r t lives round = absurd lives
lives_on disk chosen n d m (q ∷ rounds) (u ∷ reported) mid after now next r t (later, store, first, lives) round =
    (later, store, first, lives_on disk chosen n later store rounds reported mid after now next r t lives round)

-- the next element of two lists that agree from there on
pub lives_next : {D C : Type 0} (disk : Ghosts D) (chosen : C → D → D → Type 0) (n : ℕ) (d : D) (m : List Store)
    (old now : List (Round C)) (i : ℕ) (mid after : D) (store next : List Store)
    (r t : Round C) → i < length now → length now ≡ length old → r ≡ get_or now i r → get_or now i r ≡ get_or old i r
    → Lives disk chosen n d m (take i old) (take i now) mid store → IsRound disk chosen n mid after store next
    (get_or now i r) t
    → Lives disk chosen n d m (take (i + 1) old) (take (i + 1) (slice_set now i t)) after next
lives_next {D} {C} disk chosen n d m old now i mid after store next r t below long here same lives round =
    let first : take (i + 1) old ≡ take i old ++ r ∷ [] =
    take_more old i r (omega (arith, below, long)) ∙ ap (λ (x : Round C). take i old ++ x ∷ []) (sym (here ∙ same)) in
    let reported : take (i + 1) (slice_set now i t) ≡ take i now ++ t ∷ [] = take_more_set now i t below in
    subst (λ (rounds : List (Round C)). Lives disk chosen n d m rounds (take (i + 1) (slice_set now i t)) after next)
    (sym first)
    (subst (λ (all : List (Round C)). Lives disk chosen n d m (take i old ++ r ∷ []) all after next) (sym reported)
    (lives_on disk chosen n d m (take i old) (take i now) mid after store next r t lives
    (subst (λ (x : Round C). IsRound disk chosen n mid after store next x t) (sym here) round)))

-- at the end these are all rounds
pub lives_all : {D C : Type 0} (disk : Ghosts D) (chosen : C → D → D → Type 0) (n : ℕ) (d : D) (m : List Store)
    (old now : List (Round C)) (i : ℕ) (last : D) (end : List Store)
    → length now ≡ length old → length now ≤ i → Lives disk chosen n d m (take i old) (take i now) last end
    → Lives disk chosen n d m old now last end
lives_all {D} {C} disk chosen n d m old now i last end long over lives =
    subst (λ (rounds : List (Round C)). Lives disk chosen n d m rounds now last end)
    (take_all i old (omega (arith, long, over)))
    (subst (λ (all : List (Round C)). Lives disk chosen n d m (take i old) all last end) (take_all i now over) lives)
