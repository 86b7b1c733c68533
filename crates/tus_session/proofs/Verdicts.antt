-- What a request that passed its checks asks for.
use Rattle.std.proofs.Common.{◌≡◌, ℕ, List}
use Rattle.enc_model.specs.Indexes.{IndexSet, offers}
use Rattle.tus_request.specs.Answers.{Judged, answer_of}
use Rattle.tus_request.specs.Requests.{Request, Action, Options, Create, Head, Get, Patch, Delete, Asks}
use Rattle.tus_request.specs.Valid.{IsValidAction}
use Rattle.tus_request.proofs.ValidRequests.{request_valid}
use Rattle.upload_rules.specs.World.{World}
use Rattle.tus_action.specs.Serves.{CanBeMade, CanBeRead}
use Rattle.tus_session.specs.Heads.{OffsetFits, IsSmall}

fits_made : (x : IndexSet) (a : Action) → IsValidAction (offers x) a → OffsetFits a × CanBeMade a
fits_made x Options s = (tt {0}, tt {0})
fits_made x (Create c) s = (tt {0}, record { no_utf16 = s.no_utf16; short = s.short; printable = s.plain })
fits_made x (Head n) s = (tt {0}, tt {0})
fits_made x (Get n) s = (tt {0}, tt {0})
fits_made x (Patch n offset declare) s = (s, tt {0})
fits_made x (Delete n) s = (tt {0}, tt {0})

-- its numbers are small
pub small : (x : IndexSet) (s : List ℕ) (n : ℕ) (r : Request) → answer_of (offers x) s ≡ Judged n (Asks r) → IsSmall r
small x s n r e =
    let p = request_valid (offers x) s n r e in
    record { count = p.length_is; offset = (fits_made x r.action p.action_is).0 }

-- what a POST asks for can be made
pub makeable : (x : IndexSet) (s : List ℕ) (n : ℕ) (r : Request) → answer_of (offers x) s ≡ Judged n (Asks r)
    → CanBeMade r.action
makeable x s n r e = (fits_made x r.action (request_valid (offers x) s n r e).action_is).1

action_read : (w : World) (a : Action) → IsValidAction (offers w.store.indexes) a → CanBeRead w a
action_read w Options s = tt {0}
action_read w (Create c) s = record { from = s.from; to = s.to }
action_read w (Head n) s = tt {0}
action_read w (Get n) s = tt {0}
action_read w (Patch n offset declare) s = tt {0}
action_read w (Delete n) s = tt {0}

-- a POST asks for what the index set offers
pub usable : (w : World) (s : List ℕ) (n : ℕ) (r : Request) → answer_of (offers w.store.indexes) s ≡ Judged n (Asks r)
    → CanBeRead w r.action
usable w s n r e = action_read w r.action (request_valid (offers w.store.indexes) s n r e).action_is
