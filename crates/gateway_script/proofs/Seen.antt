-- What is seen of a run after one event more.
use Rattle.std.specs.Io.KnownBytes.{Appends}
use Rattle.std.proofs.Common.{◌≡◌, true, List, ℕ, ◌∷◌, ◌++◌, Option, refl, ap, ◌∙◌}
use Rattle.upload_rules.specs.Store.{Store}
use Rattle.upload_rules.specs.Answers.{Among, Limits}
use Rattle.tus_session.specs.History.{Event, Mark, step, conn_in}
use Rattle.tus_session.specs.Images.{shown_by, ShowsLast}
use Rattle.tus_session.proofs.Images.{limits_step, limits_still, last_step}
use Rattle.gateway_script.specs.Script.{Run, written}
use Rattle.gateway_script.specs.Outputs.{LastOutput, WritesAs, output_of}
use Rattle.gateway_script.specs.Runs.{RunView, HasWritten, IsHistory, after_call}
use Rattle.gateway_script.proofs.Outputs.{appends_both}

-- the run seen after a call
abbrev pub current_after : {C : Type 0} → RunView C → C → Option (List ℕ) → RunView C
current_after v now held = record v { now = now; held = held }

-- what images may show after a call with these two stores, where the disk is known to be honest
abbrev pub Leaves : {C : Type 0} → RunView C → C → Store → Store → Type 0
Leaves v now before after = v.sure ≡ true →
    Limits (v.u.moment v.now) (v.u.moment now) (v.u.left_only v.now) (v.u.left_only now) before after

-- the uploads of a run are on the disk, where it is known to be honest
abbrev pub AreOnDisk : {C : Type 0} → RunView C → Run → Type 0
AreOnDisk v r = v.sure ≡ true → (ms : List Store) → Among r.state.world.store ms
    → v.u.left_only v.now r.state.world.blocks
    (v.u.moment v.now) ms

pub shows_last : {C : Type 0} (v : RunView C) (now : C) (held : Option (List ℕ)) (r : Run) (e : Event) (m : Mark)
    → IsHistory v r → AreOnDisk v r
    → Leaves v now r.state.world.store (shown_by r.state e m) → v.sure ≡ true
    → ShowsLast (v.u.moment now) (v.u.left_only now) v.st (after_call r (conn_in e) e m).past
shows_last v now held r e m is durable leaves known =
    last_step v.st r.past e m (rw is.state at (durable known)) (rw is.state at (leaves known))

-- what a call wrote: what its event gave, where that is sure
abbrev pub Wrote : {C : Type 0} → RunView C → Option (List ℕ) → Run → Event → Mark → Type 0
Wrote v held r e m =
    (last : List ℕ) × WritesAs v.sure (conn_in e) (step r.state e m).outcome (step r.state e m).text last
    × Appends v.held held last

-- what was written last is the history's
pub last_of : {C : Type 0} (v : RunView C) (r : Run) (e : Event) (m : Mark) (last : List ℕ) → IsHistory v r
    → WritesAs v.sure (conn_in e) (step r.state e m).outcome (step r.state e m).text last
    → LastOutput v.sure v.st ((e, m) ∷ r.past) last
last_of v r e m last is wrote =
    rw is.state at wrote

pub written_on : {C : Type 0} (v : RunView C) (held : Option (List ℕ)) (r : Run) (e : Event) (m : Mark)
    → IsHistory v r → HasWritten v.sure v.prefix v.held v.st r.past → Wrote v held r e m
    → HasWritten v.sure v.prefix held v.st ((e, m) ∷ r.past)
written_on v held r e m is had wrote = record {
  out = had.out ++ wrote.0;
  wrote = appends_both v.prefix v.held held had.out wrote.0 had.wrote wrote.2;
  output = (had.out, wrote.0, had.output, last_of v r e m wrote.0 is wrote.1, refl);
}

pub history_on : {C : Type 0} (v : RunView C) (now : C) (held : Option (List ℕ)) (r : Run) (e : Event) (m : Mark)
    → IsHistory v r
    → Leaves v now r.state.world.store (shown_by r.state e m) → IsHistory (current_after v now held)
    (after_call r (conn_in e) e m)
history_on v now held r e m is leaves = record {
  state = ap (λ s. (step s e m).state) is.state;
  output = ap (λ o. o ++ written (conn_in e) (step r.state e m).outcome) is.output
      ∙ ap (λ s. output_of v.st r.past ++ written (conn_in e) (step s e m).outcome) is.state;
  images = λ known. limits_step v.st r.past e m (is.images known) (rw is.state at (leaves known));
}

-- no event was made
pub history_same : {C : Type 0} (v : RunView C) (now : C) (held : Option (List ℕ)) (r : Run) → IsHistory v r
    → Leaves v now r.state.world.store r.state.world.store → IsHistory (current_after v now held) r
history_same v now held r is leaves = record {
  state = is.state;
  output = is.output;
  images = λ known. limits_still v.st r.past (is.images known) (rw is.state at (leaves known));
}
