-- What becomes of clients, turn by turn.
use Rattle.std.proofs.Common.{◌≡◌, ◌<◌, ◌≤◌, ℕ, ◌+◌, ◌-◌, ◌^◌, List, [], ◌∷◌, length, Bool, true, false}
use Rattle.std.proofs.Common.{Option, Some, None, is_some, refl, sym, ap, ◌∙◌, arith}
use Rattle.gateway_serve.specs.Acceptors.{LetsIn, LetsInBy, answers_in, count_given, done_with, one_when, waits_in}
use Rattle.gateway_serve.specs.Acceptors.{nobody, asked, passed, waited, let_in}
use Rattle.gateway_serve.specs.declared.doors.AtDoor.{AtDoor}
use Rattle.gateway_serve.specs.declared.doors.AtDoor.TheVariants.{Asked, Passed, Waited, LetIn}
use Rattle.gateway_serve.specs.declared.doors.Clients.{Clients}
use Rattle.gateway_serve.specs.declared.doors.Door.{Door}

-- before the first
pub none_asked : (before : List Bool) (passes : ℕ) → passes ≡ 0
    → LetsIn before before 0 [] (record { opened = 0; refused = 0; waits = 0 }) false passes
unfolding count_given
none_asked before passes none = record {
  waiting = nobody;
  taken = refl;
  asked = refl;
  each = refl;
  waited = refl;
  most = omega arith;
  often = omega (arith, none);
}

-- the listener was asked, and none waited
given_one : (gave : Bool) (since : List Bool) (n : ℕ) → count_given since ≡ n
    → count_given (gave ∷ since) ≡ n + one_when gave
unfolding count_given
given_one gave since n e = grind arith

waited_before : (waits waits' : Bool) → one_when waits ≡ 1 + one_when waits' → (waits ≡ true) × (waits' ≡ false)
waited_before true true one = absurd (omega (arith, one))
waited_before true false one = (refl, refl)
waited_before false true one = absurd (omega (arith, one))
waited_before false false one = absurd (omega (arith, one))

same_when : (a b : Bool) → one_when a ≡ one_when b → a ≡ b
same_when true true one = refl
same_when true false one = absurd (omega (arith, one))
same_when false true one = absurd (omega (arith, one))
same_when false false one = refl

module _ (before answers : List Bool) (turns : ℕ) (done : List AtDoor) (clients : Clients) (waits : Bool) (passes : ℕ)
    (l : LetsIn before answers turns done clients waits passes) where
  pub asked_one : (answers' : List Bool) (waits' gave : Bool) (passes' : ℕ) → answers' ≡ gave ∷ answers
      → waits ≡ false → waits' ≡ gave → passes' ≤ 31
      → LetsIn before answers' (turns + 1) (Asked gave ∷ done) clients waits' passes'
  asked_one answers' waits' gave passes' e out is few =
      let all : count_given (answers_in done) ≡ clients.opened + clients.refused + one_when false =
      l.each ∙ ap (λ b. clients.opened + clients.refused + one_when b) out in
      record {
        waiting = rw is (asked gave done (rw out at l.waiting));
        taken = omega (arith, l.taken);
        asked = e ∙ ap (λ xs. gave ∷ xs) l.asked;
        each = rw is (given_one gave (answers_in done) (clients.opened + clients.refused) (omega (arith, all)));
        waited = l.waited;
        most = omega (arith, l.most);
        often = omega (arith, l.often, few);
      }

  -- it was passed over
  pub passed_one : (passes' : ℕ) → waits ≡ false → passes ≡ passes' + 1
      → LetsIn before answers (turns + 1) (Passed ∷ done) clients waits passes'
  passed_one passes' out one = record {
    waiting = rw out (passed done (rw out at l.waiting));
    taken = omega (arith, l.taken);
    asked = l.asked;
    each = l.each;
    waited = l.waited;
    most = omega (arith, l.most);
    often = omega (arith, l.often, one);
  }

  -- a client waited
  pub waited_one : (clients' : Clients) → waits ≡ true → clients'.opened ≡ clients.opened
      → clients'.refused ≡ clients.refused → clients'.waits ≡ clients.waits + 1
      → LetsIn before answers (turns + 1) (Waited ∷ done) clients' waits passes
  waited_one clients' one opened refused waits' = record {
    waiting = rw one (waited done (rw one at l.waiting));
    taken = omega (arith, l.taken);
    asked = l.asked;
    each = omega (arith, l.each, opened, refused);
    waited = omega (arith, l.waited, waits');
    most = omega (arith, l.most, waits');
    often = omega (arith, l.often, waits');
  }

  -- and was let in
  pub let_in_one : (clients' : Clients) (waits' : Bool) (passes' : ℕ) → one_when waits ≡ 1 + one_when waits'
      → clients'.opened + clients'.refused ≡ clients.opened + clients.refused + 1 → clients'.waits ≡ clients.waits
      → passes' ≡ passes → LetsIn before answers turns (LetIn ∷ done) clients' waits' passes'
  let_in_one clients' waits' passes' one more same left =
      let two = waited_before waits waits' one in
      record {
        waiting = rw two.1 (let_in done (rw two.0 at l.waiting));
        taken = l.taken;
        asked = l.asked;
        each = omega (arith, l.each, one, more);
        waited = same ∙ l.waited;
        most = omega (arith, l.most, same);
        often = omega (arith, l.often, same, left);
      }

  -- or none was
  pub none_let_in : (done' : List AtDoor) (clients' : Clients) (waits' : Bool) (passes' : ℕ) → done' ≡ done
      → clients' ≡ clients → one_when waits ≡ one_when waits' → passes' ≡ passes
      → LetsIn before answers turns done' clients' waits' passes'
  none_let_in done' clients' waits' passes' is same one left =
      rw (is, same, left, same_when waits' waits (sym one)) l

-- THE DOOR'S TURN, after which the one who waits is let in or not
pub turn_with : {T : Type 0} (client : Option T) (done done' : List AtDoor) (waits waits' : Bool) (before : List Bool)
    → done' ≡ done_with client done → one_when waits ≡ one_when (is_some client) + one_when waits'
    → waits_in done ≡ waits ∷ before → waits_in done' ≡ waits' ∷ before
turn_with None done done' waits waits' before with one turn =
    rw (with, turn, same_when waits waits' (omega (arith, one))) refl
turn_with (Some client) done done' waits waits' before with one turn =
    rw (with, turn, (waited_before waits waits' one).1) refl

-- each answer gave one client at most
given_few : (since : List Bool) → count_given since ≤ length since
unfolding count_given
given_few [] = omega arith
given_few (true ∷ since) = omega (arith, given_few since)
given_few (false ∷ since) = omega (arith, given_few since)

-- so one more turn can be counted
pub counts_on : (before answers : List Bool) (turns left : ℕ) (done : List AtDoor) (clients : Clients) (waits : Bool)
    (passes : ℕ)
    → LetsIn before answers (turns - left) done clients waits passes → 0 < left → left ≤ turns → turns < 2 ^ 64
    → (clients.opened + clients.refused + 1 < 2 ^ 64) × (clients.waits + 1 < 2 ^ 64)
counts_on before answers turns left done clients waits passes l some few fits = (
  omega (arith, l.each, given_few (answers_in done), l.most, some, few, fits),
  omega (arith, l.most, some, few, fits),
)

-- one turn fewer is left
pub next_turn : {S : Type 0} (left turns : ℕ) (before answers : List Bool) (d : Door S) → 0 < left → left ≤ turns
    → LetsInBy before answers (turns - left + 1) d → LetsInBy before answers (turns - (left - 1)) d
next_turn left turns before answers d some few lets =
    let e : turns - (left - 1) ≡ turns - left + 1 = omega (arith, some, few) in rw e lets

-- and however many it may pass over
pub taken_so : (before answers : List Bool) (turns : ℕ) (done : List AtDoor) (clients : Clients) (waits : Bool)
    (passes : ℕ)
    → LetsIn before answers turns done clients waits passes → LetsIn before answers turns done clients waits 0
taken_so before answers turns done clients waits passes l = record {
  waiting = l.waiting;
  taken = l.taken;
  asked = l.asked;
  each = l.each;
  waited = l.waited;
  most = l.most;
  often = omega (arith, l.often);
}
