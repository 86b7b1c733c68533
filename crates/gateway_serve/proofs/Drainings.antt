-- Sockets that drain, and that did.
use Rattle.std.proofs.Common.{◌≡◌, ◌⊎◌, ◌<◌, ◌≤◌, ◌+◌, ◌∙◌, ℕ, suc, Bool, true, false, List, [], ◌∷◌, set, take, drop}
use Rattle.std.proofs.Common.{Option, Some, None, refl, sym, arith}
use Rattle.std.specs.Prelude.{IsNone}
use Rattle.std.proofs.lemmas.List.{drop-set-lt, take-set}
use Rattle.std.proofs.lemmas.List.Elements.{All-append, All-drop, All-take}
use Rattle.std.specs.List.{All, remove}
use Rattle.std.specs.declared.io.ErrorKind.{ErrorKind}
use Rattle.std.specs.declared.io.ErrorKind.TheVariants.{WouldBlock, Interrupted}
use Rattle.std.specs.declared.time.Duration.{Duration}
use Rattle.gateway_serve.specs.Drains.{AllDrain, DrainsSo, EndsAt, IsDraining, KeepsDrains, count_drains, one_if_drains}
use Rattle.gateway_serve.specs.Drains.{at_end, failed, flows, late, longest_silence, more_dropped, much, shut, silent}
use Rattle.gateway_serve.specs.Drains.{unshut, waits}
use Rattle.gateway_serve.specs.Gone.{IsFailure}
use Rattle.gateway_serve.specs.Partings.{count_draining}
use Rattle.gateway_serve.specs.Stays.{seconds_from}
use Rattle.gateway_serve.specs.declared.drains.Drains.{Drains}
use Rattle.gateway_serve.specs.declared.drains.TheConstants.{LONGEST_DRAIN, MOST_DROPPED}
use Rattle.gateway_serve.specs.declared.parted.Parting.{Parting}
use Rattle.gateway_serve.specs.declared.parted.Parting.TheVariants.{Shut, Read, Failed}
use Rattle.gateway_serve.specs.declared.reasons.Reason.TheVariants.{Over}
use Rattle.gateway_serve.specs.declared.sockets.Seen.{Seen}

-- one of a list is set, and then taken out: of the others it holds still
pub taken_out : {X : Type 0} (P : X → Type 0) (xs : List X) (k : ℕ) (x : X) → All P xs → All P (remove (set xs k x) k)
taken_out P xs k x all =
    rw (take-set xs k x, drop-set-lt (suc k) xs k x (omega arith)) (All-append P (take k xs) (drop (suc k) xs)
    (All-take P k xs all) (All-drop P (suc k) xs all))

module _ {S : Type 0} (a b c : Drains S) (x y z : List Seen) where
  pub drains_then : KeepsDrains a b x y → KeepsDrains b c y z → KeepsDrains a c x z
  drains_then p q = record {
    all = λ all. q.all (p.all all);
    count = omega (arith, p.count, q.count);
  }

-- so each that is to drain still is one of them
pub drains_kept : {S : Type 0} (a b : Drains S) (x y : List Seen) → KeepsDrains a b x y
    → AllDrain a × (count_drains a ≡ count_draining x) → AllDrain b × (count_drains b ≡ count_draining y)
drains_kept a b x y keeps has = (keeps.all has.0, omega (arith, keeps.count, has.1))

-- a socket that is open when serving is over doesn't drain
pub over_drains_none : {S : Type 0} (stream : Option S) {n n' : ℕ} → n' ≡ one_if_drains stream Over + n → n' ≡ n
over_drains_none None is = omega (arith, is)
over_drains_none (Some s) is = omega (arith, is)

-- ITS WRITING SIDE is shut, or that fails
module _ (since : Option Duration) (moved now : Duration) (n : ℕ) (calls calls' : List Parting) (done : Bool)
    (unshut_yet : IsNone since) (call : calls' ≡ Shut now done ∷ calls) where
  none_done : (since : Option Duration) → IsNone since → DrainsSo calls since moved n → (calls ≡ []) × (n ≡ 0)
  none_done None none is = is
  none_done (Some x) none is = absurd (cc)

  pub shut_fails : done ≡ false → DrainsSo calls since moved n → EndsAt now calls'
  shut_fails fails is = rw (call, fails, (none_done since unshut_yet is).0) unshut

  pub shut_done : done ≡ true → DrainsSo calls since moved n
      → (x : Duration) × (Some now ≡ Some x) × IsDraining calls' x now n
  shut_done does is =
      let none = none_done since unshut_yet is in
      (now, refl, rw (call, does, none.0, none.1) (shut now))

-- it brought too much
pub drains_much : (calls : List Parting) (since moved now : Duration) (n : ℕ) → MOST_DROPPED ≤ n
    → IsDraining calls since moved n → EndsAt now calls
drains_much calls since moved now n most is = much calls since moved n is most

-- A READ of one whose writing side is shut
module _ (is_shut : Option Duration) (moved now : Duration) (n : ℕ) (calls calls' : List Parting) where
  abbrev WasShut : Type 0
  WasShut = (since : Duration) × (is_shut ≡ Some since) × IsDraining calls since moved n

  pub read_nothing : (room : ℕ) → calls' ≡ Read now 0 room ∷ calls → 0 < room → WasShut → EndsAt now calls'
  read_nothing room call more is = rw call (at_end calls is.0 moved n room is.2 more)

  pub read_flows : (count room : ℕ) → calls' ≡ Read now count room ∷ calls → 0 < count → WasShut
      → (since : Duration) × (is_shut ≡ Some since) × IsDraining calls' since now (more_dropped n count)
  read_flows count room call some is = (is.0, is.1, rw call (flows calls is.0 moved now n count room is.2 some))

  pub read_waits : (kind : ErrorKind) → calls' ≡ Failed now kind ∷ calls → (kind ≡ WouldBlock) ⊎ (kind ≡ Interrupted)
      → WasShut → (since : Duration) × (is_shut ≡ Some since) × IsDraining calls' since moved n
  read_waits kind call goes is = (is.0, is.1, rw call (waits calls is.0 moved now n kind is.2 goes))

  pub read_fails : (kind : ErrorKind) → calls' ≡ Failed now kind ∷ calls → IsFailure kind → WasShut
      → EndsAt now calls'
  read_fails kind call fails is = rw call (failed calls is.0 moved n kind is.2 fails)

  pub read_silent : (kind : ErrorKind) → calls' ≡ Failed now kind ∷ calls → kind ≡ WouldBlock
      → longest_silence n ≤ seconds_from moved now → WasShut → EndsAt now calls'
  read_silent kind call blocks long is = rw (call, blocks) (silent calls is.0 moved n is.2 long)

  pub drains_late : (since : Duration) → is_shut ≡ Some since → LONGEST_DRAIN ≤ seconds_from since now → WasShut
      → EndsAt now calls
  drains_late since same long is =
      let e : is.0 ≡ since = cc (sym is.1 ∙ same) in
      late calls since moved n (rw e at is.2) long
