-- From before an opening to after it, and to after the run over what was opened.
use Rattle.std.proofs.Common.{◌≤◌, ◌*◌, ℕ, List, [], ◌∷◌, Option, Some, Result, Ok, Err, arith, ⊎_elim}
use Rattle.common.specs.declared.stop.Stop.TheVariants.{NoMemory, DiskFault}
use Rattle.spool_disk.specs.Views.{Lasts}
use Rattle.spool_disk.specs.declared.disk.Disk.{Ghosts}
use Rattle.spool_journal.specs.Image.{all_pages}
use Rattle.spool_journal.specs.declared.TheConstants.{PAGE}
use Rattle.spool_image.specs.LeftOnly.{AllShow, LeftOnly, LeftOrShows}
use Rattle.spool_catalog.specs.Loads.{LoadsAs}
use Rattle.spool_catalog.specs.declared.error.OpenFault.{OpenFault}
use Rattle.spool_catalog.specs.declared.error.OpenFault.TheVariants as opens
use Rattle.upload_rules.specs.Answers.{Among}
use Rattle.upload_rules.specs.Store.{Store}
use Rattle.tus_session.specs.History.{State, Marked, beginning}
use Rattle.tus_session.specs.Images.{AllAmong, stores_of}
use Rattle.gateway_script.specs.Script as script
use Rattle.gateway_script.specs.Script.{Exit}
use Rattle.gateway_script.specs.declared.faults.ScriptFault.{ScriptFault}
use Rattle.gateway_script.specs.declared.faults.ScriptFault.TheVariants as runs
use Rattle.gateway_engine.specs.RanOn.{EndedOn, HasRunAs, HasRunOn, LastsOver, RestsOn}
use Rattle.gateway_engine.specs.RanFrom.{HasRunFrom, LastsOverOpening}
use Rattle.gateway_engine.specs.declared.faults.RunFault.TheVariants.{Open}
use Rattle.gateway_engine.proofs.OnDisk.{CountsNow}

-- the uploads at a history's beginning are among those that it shows
first_among : (st : State) (past : List Marked) (ms : List Store) → AllAmong (stores_of st past) ms
    → Among st.world.store ms
first_among st [] ms all = all.0
first_among st (e ∷ past) ms all = first_among st past ms all.1

module _ {D : Type 0} (disk : Ghosts D) (before opened : D) (n : ℕ) (m : Store)
    (counts : CountsNow disk before) (honest : disk.honest opened) (room : PAGE * all_pages n ≤ disk.size opened)
    (lasts : Lasts disk before opened (LeftOrShows disk before n m)) where
  pub opened_left : (t : ℕ) (ms : List Store) → t ≤ disk.moment before → LeftOnly disk before n t ms → Among m ms
      → LeftOnly disk opened n t ms
  opened_left t ms le left among = record {
    honest = honest;
    room = room;
    each = λ image since. ⊎_elim (λ earlier. left.each image earlier)
        (λ one. ⊎_elim (λ is. left.each image (counts t image le is))
        (λ shows. record { store = m; among = among; shows = shows }) one)
        (lasts.nothing_else t image le since);
  }

  pub ran_left : (now : D) (t : ℕ) (stores ms : List Store) → t ≤ disk.moment before → LeftOnly disk before n t ms
      → Among m ms → AllAmong stores ms → LastsOver disk opened now n stores → LeftOnly disk now n t ms
  ran_left now t stores ms le left among all over =
      let later = lasts.later in
      over.always t ms (omega (arith, le, later)) (opened_left t ms le left among) all

-- the same run, of which images show more
module _ {D : Type 0} (disk : Ghosts D) (Since Since' : D → List Store → Type 0) (n : ℕ) (st : State)
    (bytes : List ℕ) (held prefix : Option (List ℕ))
    (so : (now : D) (past : List Marked) → Since now (stores_of st past) → Since' now (stores_of st past)) where
  ended_as : (now : D) (r : script.Result) (exit : Exit) → EndedOn (Since now) st r held prefix exit
      → EndedOn (Since' now) st r held prefix exit
  ended_as now r exit is = record {
    exits = is.exits;
    wrote = is.wrote;
    output = is.output;
    state = is.state;
    lasts = so now r.run.past is.lasts;
  }

  rests_as : (now : D) (r : script.Result) (exit : Exit) → RestsOn disk Since now n st r held prefix exit
      → RestsOn disk Since' now n st r held prefix exit
  rests_as now r exit is = record { ended = ended_as now r exit is.ended; shows = is.shows }

  ran_as : (ran : Result D (D × ScriptFault)) → HasRunAs disk Since ran held prefix n st bytes
      → HasRunAs disk Since' ran held prefix n st bytes
  ran_as (Ok d) has = (has.0, rests_as d _ _ has.1)
  ran_as (Err (d, runs.Script line)) has = (has.0, rests_as d _ _ has.1)
  ran_as (Err (d, runs.Stop DiskFault)) has =
      (has.0, record { ended = ended_as d _ _ has.1.ended; shows = has.1.shows })
  ran_as (Err (d, runs.Stop NoMemory)) has = (
    has.0,
    record {
      past = has.1.past;
      first = has.1.first;
      out = has.1.out;
      wrote = has.1.wrote;
      most = has.1.most;
      shows = has.1.shows;
      lasts = so d has.1.past has.1.lasts;
    },
  )
  ran_as (Err (d, runs.Io)) has = (
    has.0,
    record {
      past = has.1.past;
      first = has.1.first;
      out = has.1.out;
      wrote = has.1.wrote;
      most = has.1.most;
      shows = has.1.shows;
      lasts = so d has.1.past has.1.lasts;
    },
  )

-- A RUN from before the opening
module _ {D : Type 0} (disk : Ghosts D) (before opened : D) (n : ℕ) (m : Store)
    (counts : CountsNow disk before) (lasts : Lasts disk before opened (LeftOrShows disk before n m)) where
  pub ran_from : (ran : Result D (D × ScriptFault)) (held prefix : Option (List ℕ)) (bytes : List ℕ)
      → AllShow disk opened n m → HasRunOn disk opened ran held prefix n (beginning m (Some n)) bytes
      → HasRunAs disk (λ now stores. LastsOverOpening disk before now n m stores) ran held prefix n
      (beginning m (Some n)) bytes
  ran_from ran held prefix bytes shown has =
      ran_as disk (λ now stores. LastsOver disk opened now n stores)
      (λ now stores. LastsOverOpening disk before now n m stores) n (beginning m (Some n)) bytes held prefix
      (λ now past over. record {
        opened = opened;
        opening = lasts;
        shown = shown;
        over = over;
        always = λ t ms le left all.
            ran_left disk before opened n m counts shown.honest shown.room lasts now t
            (stores_of (beginning m (Some n)) past) ms le left (first_among (beginning m (Some n)) past ms all) all
            over;
      })
      ran has

  pub unopened_from : (S : Type 0) (done : S → Type 0) (fault : OpenFault) (held prefix : Option (List ℕ))
      (bytes : List ℕ) → LoadsAs {T = S} (Err fault) done → disk.honest opened
      → PAGE * all_pages n ≤ disk.size opened
      → HasRunFrom disk before (Err (opened, Open fault)) held prefix n (beginning m (Some n)) bytes
  unopened_from S done (opens.Stop stop) held prefix bytes refused honest room = record {
    honest = honest;
    room = room;
    lasts = lasts;
    always = opened_left disk before opened n m counts honest room lasts;
  }
  unopened_from S done opens.NotASpool held prefix bytes refused honest room = refused
  unopened_from S done opens.Damaged held prefix bytes refused honest room = refused
  unopened_from S done opens.Version held prefix bytes refused honest room = refused
