-- From the uploads on a disk to the disk.
use Rattle.std.proofs.Common.{◌≡◌, ◌≤◌, ◌*◌, inl, inr, ℕ, List, [], ◌∷◌, Option, Some, Ok, Err, refl, sym}
use Rattle.std.proofs.Common.{subst, arith, Bool, true, false, ◌∙◌}
use Rattle.std.specs.Io.KnownBytes.{Appends}
use Rattle.common.specs.declared.stop.Stop.TheVariants.{NoMemory, DiskFault}
use Rattle.spool_disk.specs.Disk.{IsImage}
use Rattle.spool_disk.specs.declared.disk.Disk.{Ghosts}
use Rattle.spool_journal.specs.Image.{all_pages}
use Rattle.spool_journal.specs.declared.TheConstants.{PAGE}
use Rattle.spool_image.specs.LeftOnly.{AllShow, IsSpool, LeftOnly, ShowsOne, SpoolLeft}
use Rattle.spool_catalog.specs.Loads.{LoadsAs}
use Rattle.spool_catalog.specs.Shows.{ImageShows}
use Rattle.spool_catalog.specs.declared.error.OpenFault.{OpenFault}
use Rattle.spool_catalog.specs.declared.error.OpenFault.TheVariants as opens
use Rattle.upload_rules.specs.Store.{Store}
use Rattle.upload_rules.specs.World.{Patch, World}
use Rattle.upload_rules.specs.declared.uploads.Uploads as uploads
use Rattle.tus_session.specs.History.{State, Marked, beginning, history}
use Rattle.tus_session.specs.Images.{stores_of, last_stores}
use Rattle.gateway_script.proofs.Sure.{outputs_sure, breaks_sure}
use Rattle.gateway_script.specs.Script as script
use Rattle.gateway_script.specs.Script.{Exit, Faulted}
use Rattle.gateway_engine.specs.Ran.{ShowsSince, IsAtRest, EndedSo, RestsSo, FailedSo, StoppedSo, HasRun}
use Rattle.gateway_engine.specs.RanOn.{AllShowOne, LastsOver, EndedOn, RestsOn, FailedOn, StoppedOn}
use Rattle.gateway_engine.specs.RanOn.{HasRunOn, WritesRun}
use Rattle.gateway_script.specs.declared.faults.CallFault.{CallFault}
use Rattle.gateway_script.specs.declared.faults.ScriptFault.{ScriptFault}
use Rattle.gateway_script.specs.declared.faults.ScriptFault.TheVariants as runs

shows_one : (n : ℕ) (m : Store) (image : ℕ → ℕ) → ShowsOne n (m ∷ []) image → ImageShows n image m
shows_one n m image one = elim one.among [
  | inl is ↦ subst (ImageShows n image) is one.shows
  | inr never ↦ absurd never
]

-- an image of now is one that might have been left since any moment that isn't to come
abbrev pub CountsNow : {D : Type 0} → Ghosts D → D → Type 0
CountsNow disk d = (t : ℕ) (image : ℕ → ℕ) → t ≤ disk.moment d → IsImage (disk.current d) (disk.unsynced d) image
    → disk.left_since d t image

-- where one of these is left since such a moment, each image of now shows one of them
all_show_one : {D : Type 0} (disk : Ghosts D) (d : D) (n t : ℕ) (stores : List Store) → CountsNow disk d
    → t ≤ disk.moment d
    → LeftOnly disk d n t stores → AllShowOne disk d n stores
all_show_one disk d n t stores now reached left =
    record { honest = left.honest; room = left.room; each = λ image is. left.each image (now t image reached is) }

-- where only these uploads are left since now, each image of now shows them
pub all_show : {D : Type 0} (disk : Ghosts D) (d : D) (n : ℕ) (m : Store) → CountsNow disk d
    → LeftOnly disk d n (disk.moment d) (m ∷ []) → AllShow disk d n m
all_show disk d n m now left = record {
  honest = left.honest;
  room = left.room;
  each = λ image is. shows_one n m image (left.each image (now (disk.moment d) image (omega arith) is));
}

-- a spool's disk has room for its view
pub view_room : {D : Type 0} (disk : Ghosts D) (d : D) (n : ℕ) (m : Store) (is : IsSpool disk d n m)
    → PAGE * all_pages is.shows.view.blocks ≤ disk.size d
view_room disk d n m is = subst (λ (k : ℕ). PAGE * all_pages k ≤ disk.size d) (sym is.shows.blocks) is.room

-- the numbers of blocks are the same
pub same_size : (n k : ℕ) → ◌≡◌ {A = Option ℕ} (Some n) (Some k) → k ≡ n
same_size n k e = cc

-- a spool's images, by the given number of blocks
pub left_shows : {D : Type 0} (disk : Ghosts D) (d : D) (k n t : ℕ) (ms : List Store) → SpoolLeft disk d k (Some n) t ms
    → LeftOnly disk d n t ms
left_shows disk d k n t ms left = subst (λ (size : ℕ). LeftOnly disk d size t ms) (same_size n k left.0) left.1

-- UPLOADS ON A DISK
module _ {D U B : Type 0} (disk : Ghosts D) (disk_of : U → D) (size_of : U → ℕ) (represents : U → Bool → World → Type 0)
    (number_of : B → ℕ)
    (holds : B → Patch → Type 0) where
  abbrev u : uploads.Ghosts U B
  u = record {
    represents = represents;
    number_of = number_of;
    holds = holds;
    moment = λ s. disk.moment (disk_of s);
    left_only = λ s blocks t ms. SpoolLeft disk (disk_of s) (size_of s) blocks t ms;
    failures = λ s. disk.failures (disk_of s);
    reads = λ s. disk.reads (disk_of s);
  }

  -- from the uploads with which the run began to the uploads now
  module _ (before now : U) (n : ℕ) (m : Store) (size : Some n ≡ Some (size_of before)) where
    abbrev st : State
    st = beginning m (Some n)

    abbrev Since : D → List Store → Type 0
    Since d stores = LastsOver disk (disk_of before) d n stores

    lasts_over : (past : List Marked) → ShowsSince u before now st past
        → Since (disk_of now) (stores_of st past)
    lasts_over past shows = record {
      later = shows.limits.later;
      since = left_shows disk (disk_of now) (size_of now) n (disk.moment (disk_of before)) (stores_of st past)
          shows.since;
      always = λ t ms le left among.
          left_shows disk (disk_of now) (size_of now) n t ms
          (shows.limits.limits (Some n) t ms le (
            size,
            subst (λ (k : ℕ). LeftOnly disk (disk_of before) k t ms) (sym (same_size n (size_of before) size)) left,
          ) among);
    }

    module _ (counts_now : CountsNow disk (disk_of now))
        (rests : (st : State) → IsAtRest u true now st → AllShow disk (disk_of now) (size_of now) st.world.store)
        (held prefix : Option (List ℕ)) where
      -- with as many blocks as it began with
      rests_all : (past : List Marked) (st' : State) → ShowsSince u before now st past → IsAtRest u true now st'
          → AllShow disk (disk_of now) n st'.world.store
      rests_all past st' shows is =
          subst (λ (k : ℕ). AllShow disk (disk_of now) k st'.world.store) (same_size n (size_of now) shows.since.0)
          (rests st' is)

      ended_on : (r : script.Result) (exit : Exit) → EndedSo u true before now st r held prefix exit
          → EndedOn (Since (disk_of now)) st r held prefix exit
      ended_on r exit is = record {
        exits = is.writes.exits;
        wrote = subst (Appends prefix held)
            (outputs_sure st r.run.past is.writes.all.out is.writes.all.output ∙ sym is.output) is.writes.all.wrote;
        output = is.output;
        state = is.state;
        lasts = lasts_over r.run.past (is.shows refl);
      }

      rests_on : (r : script.Result) (exit : Exit) → RestsSo u true before now st r held prefix exit
          → RestsOn disk Since (disk_of now) n st r held prefix exit
      rests_on r exit is = record {
        ended = ended_on r exit is.ended;
        shows = rests_all r.run.past r.run.state (is.ended.shows refl) is.rests;
      }

      failed_on : (r : script.Result) → FailedSo u true before now st r held prefix
          → FailedOn disk Since (disk_of now) n st r held prefix
      failed_on r is =
          let size : size_of now ≡ n = same_size n (size_of now) (is.ended.shows refl).since.0 in
          let stores : List Store = last_stores st r.run.past in
          let last = is.last refl in
          record {
            ended = ended_on r Faulted is.ended;
            shows = all_show_one disk (disk_of now) n last.since stores counts_now last.reached
                (subst (λ (k : ℕ). LeftOnly disk (disk_of now) k last.since stores) size last.left.1);
          }

      stopped_on : (r : script.Result) (fault : CallFault) → StoppedSo u true before now st r held prefix fault
          → StoppedOn disk Since (disk_of now) n st r held prefix fault
      stopped_on r fault is = record {
        past = is.writes.past;
        first = is.writes.first;
        out = is.writes.out;
        wrote = is.writes.wrote;
        most = breaks_sure fault st is.writes.past is.writes.out is.writes.most;
        shows = rests_all is.writes.past (history st is.writes.past) (is.shows refl) is.rests;
        lasts = lasts_over is.writes.past (is.shows refl);
      }

      pub ran_on : (bytes : List ℕ) → HasRun u true before (Ok now) held prefix st bytes
          → HasRunOn disk (disk_of before) (Ok (disk_of now)) held prefix n st bytes
      ran_on bytes has = (has.0, rests_on _ _ has.1)

      pub broke_on : (bytes : List ℕ) (fault : ScriptFault)
          → HasRun u true before (Err (now, fault)) held prefix st bytes
          → HasRunOn disk (disk_of before) (Err (disk_of now, fault)) held prefix n st bytes
      broke_on bytes (runs.Stop NoMemory) has = (has.0, stopped_on _ _ has.1)
      broke_on bytes (runs.Stop DiskFault) has = (has.0, failed_on _ has.1)
      broke_on bytes (runs.Script line) has = (has.0, rests_on _ _ has.1)
      broke_on bytes runs.Io has = (has.0, stopped_on _ _ has.1)

-- WHAT A RUN WRITES over any disk
module _ {D U B : Type 0} (u : uploads.Ghosts U B) (before now : U) (d : D) (held prefix : Option (List ℕ)) (st : State)
    (bytes : List ℕ) where
  pub writes_all : HasRun u false before (Ok now) held prefix st bytes → WritesRun (Ok d) held prefix st bytes
  writes_all has = (has.0, has.1.ended.writes)

  pub writes_most : (fault : ScriptFault) → HasRun u false before (Err (now, fault)) held prefix st bytes
      → WritesRun (Err (d, fault)) held prefix st bytes
  writes_most (runs.Stop NoMemory) has = (has.0, has.1.writes)
  writes_most (runs.Stop DiskFault) has = (has.0, has.1.ended.writes)
  writes_most (runs.Script line) has = (has.0, has.1.ended.writes)
  writes_most runs.Io has = (has.0, has.1.writes)

-- an opening refused by memory or by the disk alone
pub refused_as : {T U : Type 0} (done : T → Type 0) (done' : U → Type 0) (fault : OpenFault)
    → LoadsAs {T = T} (Err fault) done
    → LoadsAs {T = U} (Err fault) done'
refused_as done done' opens.NotASpool refused = refused
refused_as done done' opens.Damaged refused = refused
refused_as done done' opens.Version refused = refused
refused_as done done' (opens.Stop stop) refused = tt {0}
