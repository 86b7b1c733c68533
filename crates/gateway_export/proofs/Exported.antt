-- Texts written into the files of a folder, one after the other.
use Rattle.std.proofs.Common.{◌≡◌, ◌∙◌, ◌⊎◌, ap, arith, inl, inr, refl, subst, sym, ℕ, ◌+◌, ◌<◌}
use Rattle.std.proofs.Common.{Bool, true, false, ◌||◌, List, [], ◌∷◌, ◌++◌, get_or, length, map, take, if◌then◌else◌}
use Rattle.std.proofs.Common.{Option, Some, None, Result, Ok, Err, IfOk, OnOk}
use Rattle.std.proofs.Common.{option_map}
use Rattle.std.specs.Prelude.{IfSome, bytes_eq, not, string_bytes}
use Rattle.std.proofs.lemmas.List.{map-append, take-map, take_more}
use Rattle.std.proofs.Math.Bool.{or-false, or_assoc}
use Rattle.std.proofs.lemmas.Slice.Eq.{bytes_eq-Decides}
use Rattle.upload_rules.specs.Reading.{text_at}
use Rattle.upload_rules.specs.Store.{Store, upload_of}
use Rattle.gateway_outside.specs.Bools.{true_or_false}
use Rattle.gateway_outside.specs.Files.{Files}
use Rattle.gateway_texts.specs.Copies.{AreOf}
use Rattle.gateway_texts.specs.Pieces.{are_same}
use Rattle.gateway_export.specs.Exporting.{AllLast, AllThere, DoneAs, ExportedAs, Exports, ExportsAs, ExportsOneAs}
use Rattle.gateway_export.specs.Exporting.{ExportsSome, FailsAs, TakenAs, WroteAs}
use Rattle.gateway_export.specs.Exporting.{ExportsSomeAs, HoldsEach, HoldsTexts, IsFound, IsJob, TellsOf}
use Rattle.gateway_export.specs.Exporting.{differs_from, differs_one, exported, exported_as, exported_one}
use Rattle.gateway_export.specs.Exporting.{is_amiss, is_other, is_unread, some_amiss, some_differ}
use Rattle.gateway_export.specs.Folders.{EndsAs, HoldsAll, HoldsEither, PreservesFiles, new_file}
use Rattle.gateway_export.specs.Planning.{Job, job_in}
use Rattle.gateway_export.specs.declared.exporting.ExportTally.{ExportTally}
use Rattle.gateway_export.specs.declared.outcomes.Outcome.{Outcome}
use Rattle.gateway_export.specs.declared.outcomes.Outcome.TheVariants.{Unread}
use Rattle.gateway_export.proofs.Named.{Apart}
use Rattle.gateway_export.specs.declared.planning.Job as code

-- one job more
pub jobs_more : (shown : code.Job → Job) (jobs : List code.Job) (i : ℕ) (job : code.Job) → i < length jobs
    → job ≡ get_or jobs i job → map shown (take i jobs) ++ shown job ∷ [] ≡ map shown (take (i + 1) jobs)
jobs_more shown jobs i job lt is =
    sym (ap (λ js. map shown js) (take_more jobs i job lt)
    ∙ (ap (λ x. map shown (take i jobs ++ x ∷ [])) (sym is) ∙ map-append shown (take i jobs) (job ∷ [])))

as_last : (sure : Bool) (m : Store) (files mid now : Files) (jobs : List Job) (job : Job)
    → ExportedAs sure m jobs files mid → ExportedAs sure m (job ∷ []) mid now
    → ExportedAs sure m (jobs ++ job ∷ []) files now
as_last sure m files mid now [] job is one = subst (λ before. ExportedAs sure m (job ∷ []) before now) is one
as_last sure m files mid now (first ∷ jobs) job is one =
    (is.0, is.1, as_last sure m (exported_as files first.1 is.0) mid now jobs job is.2 one)

-- WHAT IS SO OF EACH JOB

last_or : (jobs : List Job) (job it : Job) → IsJob it (jobs ++ job ∷ []) → IsJob it jobs ⊎ (it ≡ job)
last_or [] job it (inl same) = inr same
last_or [] job it (inr never) = absurd never
last_or (first ∷ jobs) job it (inl same) = inl (inl same)
last_or (first ∷ jobs) job it (inr later) = elim (last_or jobs job it later) [
  | inl among ↦ inl (inr among)
  | inr same ↦ inr same
]

abbrev Each : (ℕ → List ℕ → Type 0) → List Job → Type 0
Each P jobs = (number : ℕ) (name : List ℕ) → IsJob (number, Some name) jobs → P number name

each_last : (P : ℕ → List ℕ → Type 0) (jobs : List Job) (job : Job) → Each P jobs → Each P (job ∷ [])
    → Each P (jobs ++ job ∷ [])
each_last P jobs job each one number name is = elim (last_or jobs job (number, Some name) is) [
  | inl among ↦ each number name among
  | inr same ↦ one number name (inl same)
]

pub each_more : (shown : code.Job → Job) (P : ℕ → List ℕ → Type 0) (jobs : List code.Job) (i : ℕ) (job : code.Job)
    → i < length jobs → job ≡ get_or jobs i job → Each P (map shown (take i jobs)) → Each P (shown job ∷ [])
    → Each P (map shown (take (i + 1) jobs))
each_more shown P jobs i job lt is each one =
    subst (λ js. Each P js) (jobs_more shown jobs i job lt is) (each_last P (map shown (take i jobs)) (shown job) each
    one)

-- of the only one
pub each_one : (P : ℕ → List ℕ → Type 0) (n : ℕ) (name : List ℕ) → P n name → Each P ((n, Some name) ∷ [])
each_one P n name is k other (inl same) =
    let number : k ≡ n = ap (λ (j : Job). j.0) same in
    let named : ◌≡◌ {A = Option (List ℕ)} (Some other) (Some name) = ap (λ (j : Job). j.1) same in
    let one : other ≡ name = cc in rw (number, one) is
each_one P n name is k other (inr never) = absurd never

-- of one that has no file
pub each_none : (P : ℕ → List ℕ → Type 0) (job : Job) → job.1 ≡ None → Each P (job ∷ [])
each_none P job none number name (inl same) =
    let bad : ◌≡◌ {A = Option (List ℕ)} (Some name) None = ap (λ (j : Job). j.1) same ∙ none in absurd (cc)
each_none P job none number name (inr never) = absurd never

-- WHAT STAYS

pub new_preserves : (there : Option (List ℕ)) (files : Files) (name text : List ℕ) → files name ≡ there
    → PreservesFiles files (new_file there files name text)
new_preserves (Some bytes) files name text is = λ other held here. here
new_preserves None files name text none = λ other held here. elim (true_or_false (bytes_eq other name)) [
  | inl same ↦
      let one : other ≡ name = (bytes_eq-Decides other name).0 same in
      let bad : ◌≡◌ {A = Option (List ℕ)} None (Some held) = sym none ∙ (ap files (sym one) ∙ here) in absurd (cc)
  | inr differs ↦ ap (λ (b : Bool). if b then Some text else files other) differs ∙ here
]

as_preserves : (files : Files) (name : Option (List ℕ)) (text : List ℕ)
    → PreservesFiles files (exported_as files name text)
as_preserves files None text = λ other held here. here
as_preserves files (Some name) text = new_preserves (files name) files name text refl

exported_preserves : (m : Store) (files : Files) (jobs : List Job) → PreservesFiles files (exported m files jobs)
exported_preserves m files [] = λ other held here. here
exported_preserves m files (job ∷ jobs) = λ other held here.
    exported_preserves m (exported_one m files job) jobs other held
    (as_preserves files job.1 (text_at m (upload_of m job.0)) other held here)

preserved : (sure : Bool) (m : Store) (before now : Files) (jobs : List Job) → ExportedAs sure m jobs before now
    → PreservesFiles before now
preserved sure m before now [] is = λ name bytes here. ap (λ (files : Files). files name) is ∙ here
preserved sure m before now (job ∷ jobs) is = λ name bytes here.
    preserved sure m (exported_as before job.1 is.0) now jobs is.2 name bytes
    (as_preserves before job.1 is.0 name bytes here)

there_still : (sure : Bool) (m : Store) (mid now : Files) (jobs : List Job) → PreservesFiles mid now
    → AllThere sure m jobs mid → AllThere sure m jobs now
there_still sure m mid now jobs preserves there number name is =
    let it = there number name is in (it.0, preserves name it.0 it.1, it.2)

neither : (a b : Bool) → (a || b) ≡ false → (a ≡ false) × (b ≡ false)
neither a b is = (grind arith, grind arith)

pub last_more : (shown : code.Job → Job) (lasting lasting' : List ℕ → Type 0) (jobs : List code.Job) (i : ℕ)
    (job : code.Job) (a b : Bool)
    → i < length jobs → job ≡ get_or jobs i job → ((name : List ℕ) → lasting name → lasting' name)
    → (a ≡ false → AllLast lasting (map shown (take i jobs)))
    → (b ≡ false → AllLast lasting' (shown job ∷ [])) → (a || b) ≡ false
    → AllLast lasting' (map shown (take (i + 1) jobs))
last_more shown lasting lasting' jobs i job a b lt is still each one none =
    let both = neither a b none in
    each_more shown (λ number name. lasting' name) jobs i job lt is
    (λ number name among. still name (each both.0 number name among)) (one both.1)

-- AN EXPORT THAT CAME SO FAR
module _ (shown : code.Job → Job) (sure : Bool) (holds : Files → Type 0) (m : Store) (files : Files)
    (jobs : List code.Job) (i : ℕ) where
  some_held : (now : Files) → holds now → ExportedAs sure m (map shown (take i jobs)) files now
      → ExportsSomeAs sure holds m (map shown jobs) files
  some_held now held are = record {
    count = i;
    some = record {
      now = now;
      held = held;
      are = subst (λ js. ExportedAs sure m js files now) (sym (take-map shown i jobs)) are;
      there = λ never. absurd (cc);
    };
  }

  pub as_some : (differs : Bool) → ExportsAs sure differs holds m (map shown (take i jobs)) files
      → ExportsSomeAs sure holds m (map shown jobs) files
  as_some differs is = some_held is.now is.held is.are

module _ (shown : code.Job → Job) (sure differs : Bool) (was holds : Files → Type 0) (m : Store) (files : Files)
    (jobs : List code.Job) (i : ℕ) (job : code.Job) (lt : i < length jobs) (same : job ≡ get_or jobs i job)
    (is : ExportsAs sure differs was m (map shown (take i jobs)) files) where
  pub as_more : (other : Bool) → ExportsAs sure other holds m (shown job ∷ []) is.now
      → ExportsAs sure (differs || other) holds m (map shown (take (i + 1) jobs)) files
  as_more other one = record {
    now = one.now;
    held = one.held;
    are = subst (λ js. ExportedAs sure m js files one.now) (jobs_more shown jobs i job lt same)
        (as_last sure m files is.now one.now (map shown (take i jobs)) (shown job) is.are one.are);
    there = λ none.
        let both = neither differs other none in
        each_more shown
        (λ number name. (bytes : List ℕ) × (one.now name ≡ Some bytes) × AreOf sure bytes
        (text_at m (upload_of m number))) jobs i job lt same
        (there_still sure m is.now one.now (map shown (take i jobs))
        (preserved sure m is.now one.now (shown job ∷ []) one.are) (is.there both.0)) (one.there both.1);
  }

  -- that was broken off in one
  pub as_either : ExportsOneAs sure holds m (shown job) is.now
      → ExportsSomeAs sure holds m (map shown jobs) files
  as_either (inl held) = some_held shown sure holds m files jobs i is.now held is.are
  as_either (inr one) = as_some shown sure holds m files jobs (i + 1) (differs || true) (as_more true one)

-- ONE JOB: where its text is to be written and where not
module _ (sure : Bool) (holds : Files → Type 0) (m : Store) (files : Files) where
  left : (differs : Bool) (job : Job) → ((bytes : List ℕ) → exported_as files job.1 bytes ≡ files) → holds files
      → (differs ≡ false → AllThere sure m (job ∷ []) files) → ExportsAs sure differs holds m (job ∷ []) files
  left differs job same held there =
      let text = text_at m (upload_of m job.0) in
      record { now = files; held = held; are = (text, are_same sure text, sym (same text)); there = there }

  -- it has no file
  pub as_none : (job : Job) → job.1 ≡ None → holds files → ExportsAs sure false holds m (job ∷ []) files
  as_none job none held =
      left false job (λ bytes. ap (λ name. exported_as files name bytes) none) held (λ _. each_none _ job none)

  -- its file was there
  pub as_there : (n : ℕ) (name bytes : List ℕ) (differs : Bool) → files name ≡ Some bytes
      → (differs ≡ false → AreOf sure bytes (text_at m (upload_of m n))) → holds files
      → ExportsAs sure differs holds m ((n, Some name) ∷ []) files
  as_there n name bytes differs here are held =
      left differs (n, Some name) (λ text. ap (λ there. new_file there files name text) here) held
      (λ none. each_one _ n name (bytes, here, are none))

  -- it was written
  pub as_new : (n : ℕ) (name bytes : List ℕ) → files name ≡ None → AreOf sure bytes (text_at m (upload_of m n))
      → holds (new_file None files name bytes) → ExportsAs sure false holds m ((n, Some name) ∷ []) files
  as_new n name bytes none are held =
      record {
        now = new_file None files name bytes;
        held = held;
        are = (bytes, are, ap (λ there. new_file there files name bytes) (sym none));
        there = λ _. each_one _ n name (bytes, new_here files name bytes, are);
      }
    where
      new_here : (files : Files) (name text : List ℕ) → new_file None files name text name ≡ Some text
      new_here files name text = grind (arith, bytes_eq-Decides name name)

  pub as_ended : (n : ℕ) (name bytes : List ℕ) (taken : Bool) → AreOf sure bytes (text_at m (upload_of m n))
      → HoldsEither taken holds files (exported_as files (Some name) bytes)
      → FailsAs sure holds m (n, Some name) taken files
  as_ended n name bytes taken are (inl held) = inl held
  as_ended n name bytes taken are (inr both) = inr (
    both.0,
    record {
      now = exported_as files (Some name) bytes;
      held = both.1;
      are = (bytes, are, refl);
      there = λ never. absurd (cc);
    },
  )

  pub wrote_as : (n : ℕ) (name bytes : List ℕ) (taken : Bool) → AreOf sure bytes (text_at m (upload_of m n))
      → EndsAs taken holds files name bytes → WroteAs sure holds m (n, Some name) files taken
  wrote_as n name bytes false are ended = ended
  wrote_as n name bytes true are ended = as_new n name bytes ended.0 are ended.1

  -- that was there, and was compared
  pub as_found : (outcome : Outcome) (n : ℕ) (name bytes : List ℕ) → files name ≡ Some bytes → holds files
      → IsFound sure bytes (text_at m (upload_of m n)) outcome
      → ExportsAs sure (is_amiss outcome) holds m ((n, Some name) ∷ []) files
  as_found outcome n name bytes here held is = as_there n name bytes (is_amiss outcome) here (λ none.
      let both = neither (is_other outcome) (is_unread outcome) none in (is both.1).yes (ap not both.0)) held

  -- that may have gone into the file of another name
  pub done_none : (job : Job) (done : Option Outcome) → done ≡ None → DoneAs sure holds m job files done → holds files
  done_none job end none is = rw none at is

  pub done_some : (job : Job) (done : Option Outcome) (outcome : Outcome) → done ≡ Some outcome
      → DoneAs sure holds m job files done → ExportsAs sure (is_amiss outcome) holds m (job ∷ []) files
  done_some job end outcome some is = rw some at is

  -- as the job has it
  pub fails_as : (job it : Job) (taken : Bool) → (taken ≡ true → it ≡ job) → FailsAs sure holds m it taken files
      → ExportsOneAs sure holds m job files
  fails_as job it taken same (inl held) = inl held
  fails_as job it taken same (inr both) =
      inr (subst (λ (j : Job). ExportsAs sure true holds m (j ∷ []) files) (same both.0) both.1)

-- whether its name was taken
pub taken_none : (taken : Bool) (done : Option Outcome) → done ≡ None → TakenAs taken done → taken ≡ false
taken_none taken end none is = rw none at is

pub taken_some : (taken : Bool) (done : Option Outcome) (outcome : Outcome) → done ≡ Some outcome → TakenAs taken done
    → taken ≡ true
taken_some taken end outcome some is = rw some at is

pub of_some : {A : Type 0} (P : A → Type 0) (found : Option A) (x : A) → found ≡ Some x → IfSome found P → P x
of_some P found x some is = rw some at is

pub one_lasts : {E : Type 0} (result : Result Outcome E) (lasting : List ℕ → Type 0) (n : ℕ) (name : List ℕ)
    → IfOk result (λ outcome. is_amiss outcome ≡ false → lasting name)
    → IfOk result (λ outcome. is_amiss outcome ≡ false → AllLast lasting ((n, Some name) ∷ []))
one_lasts (Err e) lasting n name is = tt
one_lasts (Ok outcome) lasting n name is = λ none. each_one (λ _ other. lasting other) n name (is none)

-- the file of a job
pub job_none : (takes : List ℕ → Bool) (job : code.Job) → option_map string_bytes job.name ≡ None
    → (job_in takes job).1 ≡ None
job_none takes job none = rw none refl

pub job_first : (takes : List ℕ → Bool) (job : code.Job) (name : List ℕ) → option_map string_bytes job.name ≡ Some name
    → takes name ≡ true → (job.number, Some name) ≡ job_in takes job
job_first takes job name named taken = rw (named, taken) refl

pub job_last : (takes : List ℕ → Bool) (job : code.Job) (name : List ℕ) → option_map string_bytes job.name ≡ Some name
    → takes name ≡ false → (job.number, Some (string_bytes job.plain)) ≡ job_in takes job
job_last takes job name named taken = rw (named, taken) refl

-- the file that has so many bytes
pub some_length : (there : Option (List ℕ)) (len : ℕ) → Some len ≡ option_map length there
    → (bytes : List ℕ) × (there ≡ Some bytes) × (len ≡ length bytes)
some_length None len is = absurd (cc)
some_length (Some bytes) len is = (bytes, refl, cc)

-- whether it is another
not_not : (a b : Bool) → not a ≡ b → a ≡ not b
not_not true b is = ap not is
not_not false b is = ap not is

-- one that is another was read
other_read : (outcome : Outcome) → is_other outcome ≡ true → is_unread outcome ≡ false
other_read (Unread name) other = absurd (cc)
other_read outcome other = refl

pub found_tells : (outcome : Outcome) (m : Store) (files : Files) (n : ℕ) (name bytes : List ℕ)
    → files name ≡ Some bytes → IsFound true bytes (text_at m (upload_of m n)) outcome
    → TellsOf (is_other outcome) (is_unread outcome) (differs_one m files (n, Some name))
found_tells outcome m files n name bytes here is =
    let text = text_at m (upload_of m n) in
    let exact = λ (read : is_unread outcome ≡ false).
    not_not (is_other outcome) (bytes_eq bytes text) ((is read).no refl)
    ∙ ap (λ there. differs_from there text) (sym here) in
    record { only = λ other. sym (exact (other_read outcome other)) ∙ other; all = exact }

-- whether or not one is amiss
pub any_one : {sure : Bool} {holds : Files → Type 0} {m : Store} {job : Job} {files : Files} (differs : Bool)
    → ExportsAs sure differs holds m (job ∷ []) files → ExportsAs sure true holds m (job ∷ []) files
any_one differs is = record {
  now = is.now;
  held = is.held;
  are = is.are;
  there = λ never. absurd (cc);
}

-- WHERE IT IS SURE the files are those of the store's texts
pub surely : (m : Store) (jobs : List Job) (files now : Files) → ExportedAs true m jobs files now
    → now ≡ exported m files jobs
surely m [] files now is = is
surely m (job ∷ jobs) files now is =
    surely m jobs (exported_as files job.1 is.0) now is.2
    ∙ ap (λ bytes. exported m (exported_as files job.1 bytes) jobs) (is.1.same refl)

pub surely_all : {E : Type 0} (result : Result ExportTally E) (holds : Files → Type 0) (m : Store) (jobs : List Job)
    (files : Files) → IfOk result (λ done. ExportsAs true (some_amiss done) holds m jobs files)
    → OnOk result (holds (exported m files jobs))
surely_all (Err e) holds m jobs files is = tt
surely_all (Ok done) holds m jobs files is = subst holds (surely m jobs files is.now is.are) is.held

pub surely_some : (holds : Files → Type 0) (m : Store) (jobs : List Job) (files : Files)
    → ExportsSomeAs true holds m jobs files → ExportsSome holds m jobs files
surely_some holds m jobs files is = record {
  count = is.count;
  held = subst holds (surely m (take is.count jobs) files is.some.now is.some.are) is.some.held;
}

-- and if none is amiss, each has its text
pub surely_each : {E : Type 0} (result : Result ExportTally E) (holds : Files → Type 0) (lasting : List ℕ → Type 0)
    (m : Store) (jobs : List Job) (files : Files)
    → IfOk result (λ done. ExportsAs true (some_amiss done) holds m jobs files)
    → IfOk result (λ done. some_amiss done ≡ false → AllLast lasting jobs)
    → IfOk result (λ done. some_amiss done ≡ false → HoldsEach holds lasting m jobs)
surely_each (Err e) holds lasting m jobs files is lasts = tt
surely_each (Ok done) holds lasting m jobs files is lasts = λ none. record {
  now = is.now;
  held = is.held;
  texts = λ number name job. let it = is.there none number name job in it.1 ∙ ap (λ b. Some b) (it.2.same refl);
  lasts = lasts none;
}

-- where it isn't asked whether one is amiss
pub any_differs : {E : Type 0} (result : Result ExportTally E) (sure : Bool) (holds : Files → Type 0) (m : Store)
    (jobs : List Job) (files : Files) → IfOk result (λ done. ExportsAs sure (some_amiss done) holds m jobs files)
    → OnOk result (ExportsAs sure true holds m jobs files)
any_differs (Err e) sure holds m jobs files is = tt
any_differs (Ok done) sure holds m jobs files is = record {
  now = is.now;
  held = is.held;
  are = is.are;
  there = λ never. absurd (cc);
}

-- WHETHER A FILE DIFFERS, OR IS UNREAD
amiss_both : (d u o n : Bool) → ((d || u) || (o || n)) ≡ ((d || o) || (u || n))
amiss_both true u o n = refl
amiss_both false true true n = refl
amiss_both false true false n = refl
amiss_both false false o n = refl

-- a tally with one outcome more
pub amiss_more : (d u o n d' u' : Bool) → d' ≡ (d || o) → u' ≡ (u || n) → ((d || u) || (o || n)) ≡ (d' || u')
amiss_more d u o n d' u' p q = rw (p, q) (amiss_both d u o n)

true_last : (x y : Bool) → y ≡ true → (x || y) ≡ true
true_last true y e = refl
true_last false y e = e

tells_both : (a u x o n y : Bool) → TellsOf a u x → TellsOf o n y → TellsOf (a || o) (u || n) (x || y)
tells_both a u x o n y first next = record {
  only = λ told. elim (true_or_false a) [
    | inl before ↦ ap (λ (b : Bool). b || y) (first.only before)
    | inr unlike ↦ true_last x y (next.only (sym (ap (λ (b : Bool). b || o) unlike) ∙ told))
  ];
  all = λ none.
      let both = neither u n none in
      ap (λ (b : Bool). b || o) (first.all both.0) ∙ ap (λ (b : Bool). x || b) (next.all both.1);
}

pub tells_more : (a u x o n y d' u' z : Bool) → TellsOf a u x → TellsOf o n y → d' ≡ (a || o) → u' ≡ (u || n)
    → (x || y) ≡ z → TellsOf d' u' z
tells_more a u x o n y d' u' z first next p q r = rw (p, q, ← r) (tells_both a u x o n y first next)

differ_last : (m : Store) (files : Files) (jobs : List Job) (job : Job)
    → some_differ m files (jobs ++ job ∷ []) ≡ (some_differ m files jobs || differs_one m (exported m files jobs) job)
differ_last m files [] job = or-false (differs_one m files job)
differ_last m files (first ∷ jobs) job =
    ap (λ (b : Bool). differs_one m files first || b) (differ_last m (exported_one m files first) jobs job)
    ∙ sym (or_assoc (differs_one m files first) (some_differ m (exported_one m files first) jobs)
    (differs_one m (exported m files (first ∷ jobs)) job))

pub differ_more : (shown : code.Job → Job) (m : Store) (files now : Files) (jobs : List code.Job) (i : ℕ)
    (job : code.Job) → i < length jobs → job ≡ get_or jobs i job → ExportedAs true m (map shown (take i jobs)) files now
    → (some_differ m files (map shown (take i jobs)) || differs_one m now (shown job))
    ≡ some_differ m files (map shown (take (i + 1) jobs))
differ_more shown m files now jobs i job lt same is =
    let done : List Job = map shown (take i jobs) in
    let it : Job = shown job in
    ap (λ (f : Files). some_differ m files done || differs_one m f it) (surely m done files now is)
    ∙ (sym (differ_last m files done it) ∙ ap (λ js. some_differ m files js) (jobs_more shown jobs i job lt same))

-- WHAT AN EXPORT LEAVES

new_here : (there : Option (List ℕ)) (files : Files) (name text : List ℕ) → there ≡ None
    → new_file there files name text name ≡ Some text
new_here there files name text none = grind (arith, bytes_eq-Decides name name)

-- a file of another name stays
new_other : (there : Option (List ℕ)) (files : Files) (other name text : List ℕ) → (other ≡ name → ⊥)
    → new_file there files other text name ≡ files name
new_other (Some bytes) files other name text differs = refl
new_other None files other name text differs = elim (true_or_false (bytes_eq name other)) [
  | inl same ↦ absurd (differs (sym ((bytes_eq-Decides name other).0 same)))
  | inr unlike ↦ ap (λ (b : Bool). if b then Some text else files name) unlike
]

as_other : (files : Files) (job : Option (List ℕ)) (name text : List ℕ)
    → ((other : List ℕ) → job ≡ Some other → other ≡ name → ⊥) → exported_as files job text name ≡ files name
as_other files None name text differs = refl
as_other files (Some other) name text differs =
    new_other (files other) files other name text (λ same. differs other refl same)

holds_texts : (m : Store) (files : Files) (jobs : List Job) → Apart jobs
    → HoldsTexts m jobs files (exported m files jobs)
holds_texts m files [] apart number name is none = absurd is
holds_texts m files (job ∷ jobs) apart number name (inl same) none =
    let text = text_at m (upload_of m number) in
    exported_preserves m (exported_one m files job) jobs name text
    (rw (← same) (new_here (files name) files name text none))
holds_texts m files (job ∷ jobs) apart number name (inr later) none =
    holds_texts m (exported_one m files job) jobs apart.1 number name later
    (as_other files job.1 name (text_at m (upload_of m job.0))
    (λ other mine. apart.0 (number, Some name) other name later mine refl) ∙ none)

pub exports : {T E : Type 0} (result : Result T E) (holds : Files → Type 0) (m : Store) (jobs : List Job)
    (files : Files) → Apart jobs → OnOk result (holds (exported m files jobs))
    → OnOk result (Exports holds m jobs files)
exports (Err e) holds m jobs files apart held = tt
exports (Ok t) holds m jobs files apart held = record {
  now = exported m files jobs;
  held = held;
  preserves = exported_preserves m files jobs;
  texts = holds_texts m files jobs apart;
}

-- each file is there still after both
pub holds_both : (held holds : Files → Type 0) (files : Files) → HoldsAll held files
    → ((now : Files) → held now → HoldsAll holds now) → HoldsAll holds files
holds_both held holds files before next =
    let after = next before.now before.held in
    record {
      now = after.now;
      held = after.held;
      preserves = λ name bytes is. after.preserves name bytes (before.preserves name bytes is);
    }
