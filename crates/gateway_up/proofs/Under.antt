-- What is served through a log, over what is under it.
use Rattle.std.proofs.Common.{ℕ, Bool, List, [], ◌∷◌, Option, Result, Ok, Err}
use Rattle.std.specs.declared.time.Duration.{Duration}
use Rattle.common.specs.declared.stop.DiskFault.{DiskFault}
use Rattle.tus_session.specs.History.{Marked, State}
use Rattle.tus_session.specs.declared.connections.Connections.{Ghosts}
use Rattle.gateway_serve.specs.Served.{ServesPart}
use Rattle.gateway_serve.specs.Streams.{AllHad, Carried, not_read, not_written, read, untouched, written}
use Rattle.gateway_serve.specs.declared.sockets.Latest.{Latest}
use Rattle.gateway_serve.specs.declared.sockets.Seen.{Seen}
use Rattle.gateway_serve.specs.declared.sockets.Spell.{Spell}
use Rattle.gateway_up.specs.Sessions.{Session}

-- what was carried by a stream was by the one under it
module _ {L S : Type 0} (inner : L → S) (remaining contents : S → Option (List ℕ)) where
  carried_under : (accepted gone : L) (came went : List ℕ) (latest : Latest) (spell : Spell)
      → Carried (λ l. remaining (inner l)) (λ l. contents (inner l)) accepted gone came went latest spell
      → Carried remaining contents (inner accepted) (inner gone) came went latest spell
  carried_under accepted gone came went latest spell (untouched now) = untouched now
  carried_under accepted gone came went latest spell (read s s' c w bytes room before sp now had so) =
      read (inner s) (inner s') c w bytes room before sp now (carried_under accepted s c w before sp had) so
  carried_under accepted gone came went latest spell (not_read s s' c w before sp kind had so) =
      not_read (inner s) (inner s') c w before sp kind (carried_under accepted s c w before sp had) so
  carried_under accepted gone came went latest spell (written s s' c w bytes offered before sp now had so) =
      written (inner s) (inner s') c w bytes offered before sp now (carried_under accepted s c w before sp had) so
  carried_under accepted gone came went latest spell (not_written s s' c w before sp kind had so) =
      not_written (inner s) (inner s') c w before sp kind (carried_under accepted s c w before sp had) so

  all_under : (times : List Duration) (ended : List Seen)
      → AllHad (λ l. remaining (inner l)) (λ l. contents (inner l)) times ended
      → AllHad remaining contents times ended
  all_under times [] all = all
  all_under times (s ∷ ended) all = (
    (inner all.0.0, inner all.0.1, carried_under all.0.0 all.0.1 _ _ _ _ all.0.2, all.0.3),
    all_under times ended all.1,
  )

module _ {E C : Type 0} (under : E → C) (c : Ghosts C) where
  abbrev pub pulled : Ghosts E
  pulled = record {
    represents = λ e sure st. c.represents (under e) sure st;
    moment = λ e. c.moment (under e);
    left_only = λ e blocks t ms. c.left_only (under e) blocks t ms;
    failures = λ e. c.failures (under e);
    down = λ e. c.down (under e);
  }

  part_under : {T : Type 0} (sure : Bool) (before now : E) (st : State) (served : Result T DiskFault)
      (On Down : List Marked → Type 0) → ServesPart pulled sure before now st served On Down
      → ServesPart c sure (under before) (under now) st served On Down
  part_under sure before now st (Ok x) On Down part =
      (part.0, record { represents = part.1.represents; images = part.1.images }, part.2)
  part_under sure before now st (Err fault) On Down part = (
    part.0,
    part.1,
    record { images = part.2.images; last = part.2.last; down = part.2.down },
    part.3,
  )

  -- AND SO WAS A SESSION
  pub session_under : {L S : Type 0} (inner : L → S) (remaining contents : S → Option (List ℕ)) (before now : E)
      (served : Result (Unit {0}) DiskFault) (shown shown' : List (Option Duration)) (turns most : ℕ)
      → Session pulled (λ l. remaining (inner l)) (λ l. contents (inner l)) before now served shown shown' turns most
      → Session c remaining contents (under before) (under now) served shown shown' turns most
  session_under inner remaining contents before now served shown shown' turns most session = record {
    answers = session.answers;
    door = session.door;
    clients = session.clients;
    times = session.times;
    ended = session.ended;
    drained = session.drained;
    serves = λ sure st is. part_under sure before now st served _ _ (session.serves sure st is);
    counts = session.counts;
    streams = all_under inner remaining contents session.times session.ended session.streams;
    reasons = session.reasons;
    drains = session.drains;
    clock = session.clock;
    lets_in = session.lets_in;
  }
