-- What a refusal of a sink comes to, after a `?`.
use Rattle.std.proofs.Common.{ℕ, ◌≡◌, List, Result, Ok, Err, IsErrAnd}
use Rattle.enc_model.specs.Sink.{Given}

pub given_err : {A X E : Type 0} (takes : A → List ℕ → A → Type 0) (refuses : A → List ℕ → E → A → Type 0) (a c : A)
    (x : List ℕ) (r : Result X E) (e : E) → IsErrAnd r (λ y. y ≡ e) →
    refuses a x e c → Given takes refuses a x c r
given_err takes refuses a c x (Ok v) e i g = absurd i
given_err takes refuses a c x (Err v) e i g = rw i g
