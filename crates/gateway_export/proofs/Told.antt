-- What is told of uploads, one after the other.
use Rattle.std.proofs.Common.{◌≡◌, ◌∙◌, ap, arith, refl, subst, sym, ℕ, ◌+◌, ◌<◌, ◌≤◌, Bool, true, false}
use Rattle.std.proofs.Common.{◌^◌, List, [], ◌∷◌, ◌++◌, append-nil, append_assoc, get_or, length, map, take}
use Rattle.std.proofs.lemmas.List.{length-map, length-take-le}
use Rattle.std.proofs.Common.{Option, Some, None, Result, Ok, Err, IfOk, option_map}
use Rattle.std.specs.Prelude.{IfSome, IsSome, bytes_eq, not, string_bytes}
use Rattle.std.specs.Io.KnownBytes.{Appends}
use Rattle.std.proofs.KnownBytes.{Appends-nil, Appends-trans}
use Rattle.std.proofs.lemmas.Slice.Eq.{bytes_eq-Decides}
use Rattle.upload_rules.specs.Reading.{text_at}
use Rattle.upload_rules.specs.Store.{Store, upload_of}
use Rattle.gateway_outside.specs.Files.{Files}
use Rattle.gateway_outside.specs.Writing.{appends_is}
use Rattle.gateway_export.specs.Exporting.{AreTold, IsFound, IsOfFound, Tells, TellsEach, ToldAs, ToldOne}
use Rattle.gateway_export.specs.Exporting.{differs_from}
use Rattle.gateway_export.specs.Exporting.{exported, exported_one, how_many, is_exported, is_other, is_there, one_if}
use Rattle.gateway_export.specs.Exporting.{outcome_line, summary_line, told_lines}
use Rattle.gateway_export.specs.Planning.{Job}
use Rattle.gateway_export.specs.declared.exporting.ExportTally.{ExportTally}
use Rattle.gateway_export.specs.declared.outcomes.Outcome.{Outcome}
use Rattle.gateway_export.specs.declared.outcomes.Outcome.TheVariants.{Differs, Exported, Failed, Incomplete, There}
use Rattle.gateway_export.specs.declared.outcomes.Outcome.TheVariants.{Unread}
use Rattle.gateway_export.specs.declared.planning.Job as code
use Rattle.gateway_export.proofs.Exported.{jobs_more}

-- OF ONE: it has no file
pub told_none : (m : Store) (files : Files) (job : Job) → job.1 ≡ None → ToldOne m files job Incomplete
told_none m files job none =
    subst (λ (name : Option (List ℕ)). ToldAs files name (text_at m (upload_of m job.0)) Incomplete) (sym none) refl

-- its file was there, and was compared
pub told_found : (outcome : Outcome) (m : Store) (files : Files) (n : ℕ) (name bytes : List ℕ) → files name ≡ Some bytes
    → IsOfFound name outcome → IsFound true bytes (text_at m (upload_of m n)) outcome
    → ToldOne m files (n, Some name) outcome
told_found (There told) m files n name bytes here kind is = (
  kind,
  here ∙ ap (λ b. Some b) ((bytes_eq-Decides bytes (text_at m (upload_of m n))).0 (sym ((is refl).no refl))),
)
told_found (Differs told) m files n name bytes here kind is = (
  kind,
  ap (λ there. differs_from there (text_at m (upload_of m n))) here ∙ sym (ap not ((is refl).no refl)),
)
told_found (Unread told) m files n name bytes here kind is =
    (kind, subst (λ (there : Option (List ℕ)). IsSome there) (sym here) refl)
told_found (Exported told) m files n name bytes here kind is = absurd kind
told_found (Failed told) m files n name bytes here kind is = absurd kind
told_found Incomplete m files n name bytes here kind is = absurd kind

-- none was there
pub no_length : (there : Option (List ℕ)) → None ≡ option_map length there → there ≡ None
no_length None is = refl
no_length (Some bytes) is = absurd (cc)

-- OF ALL, one more
are_more : (m : Store) (files now : Files) (jobs : List Job) (job : Job) (outcomes : List Outcome) (outcome : Outcome)
    → AreTold m files jobs outcomes → now ≡ exported m files jobs → ToldOne m now job outcome
    → AreTold m files (jobs ++ job ∷ []) (outcomes ++ outcome ∷ [])
are_more m files now [] job [] outcome told is one = (subst (λ (f : Files). ToldOne m f job outcome) is one, tt)
are_more m files now [] job (x ∷ outcomes) outcome told is one = absurd told
are_more m files now (first ∷ jobs) job [] outcome told is one = absurd told
are_more m files now (first ∷ jobs) job (x ∷ outcomes) outcome told is one =
    (told.0, are_more m (exported_one m files first) now jobs job outcomes outcome told.1 is one)

lines_more : (m : Store) (files : Files) (jobs : List Job) (job : Job) (outcomes : List Outcome) (outcome : Outcome)
    → AreTold m files jobs outcomes
    → told_lines jobs outcomes ++ outcome_line job.0 outcome
    ≡ told_lines (jobs ++ job ∷ []) (outcomes ++ outcome ∷ [])
lines_more m files [] job [] outcome told = sym (append-nil (outcome_line job.0 outcome))
lines_more m files [] job (x ∷ outcomes) outcome told = absurd told
lines_more m files (first ∷ jobs) job [] outcome told = absurd told
lines_more m files (first ∷ jobs) job (x ∷ outcomes) outcome told =
    append_assoc (outcome_line first.0 x) (told_lines jobs outcomes) (outcome_line job.0 outcome)
    ∙ ap (λ lines. outcome_line first.0 x ++ lines)
    (lines_more m (exported_one m files first) jobs job outcomes outcome told.1)

many_more : (test : Outcome → Bool) (outcomes : List Outcome) (outcome : Outcome)
    → how_many test outcomes + one_if (test outcome) ≡ how_many test (outcomes ++ outcome ∷ [])
many_more test [] outcome = omega arith
many_more test (x ∷ outcomes) outcome = let e = many_more test outcomes outcome in omega (arith, e)

one_most : (b : Bool) → one_if b ≤ 1
one_most true = omega arith
one_most false = omega arith

many_most : (test : Outcome → Bool) (m : Store) (files : Files) (jobs : List Job) (outcomes : List Outcome)
    → AreTold m files jobs outcomes → how_many test outcomes ≤ length jobs
many_most test m files [] [] told = omega arith
many_most test m files [] (x ∷ outcomes) told = absurd told
many_most test m files (first ∷ jobs) [] told = absurd told
many_most test m files (first ∷ jobs) (x ∷ outcomes) told =
    let rest = many_most test m (exported_one m files first) jobs outcomes told.1 in
    let one = one_most (test x) in omega (arith, rest, one)

map_take : (shown : code.Job → Job) (i : ℕ) (jobs : List code.Job) → i ≤ length jobs
    → length (map shown (take i jobs)) ≤ i
map_take shown i jobs le =
    let mapped = length-map (take i jobs) shown in
    let taken = length-take-le i jobs le in omega (arith, mapped, taken)

-- no upload was told so far
pub told_first : (m : Store) (files : Files) (shown : code.Job → Job) (jobs : List code.Job) (a : Option (List ℕ))
    → TellsEach m files (map shown (take 0 jobs)) a a 0 0
told_first m files shown jobs a =
    record { outcomes = []; told = tt; exported_is = refl; there_is = refl; wrote = Appends-nil a }

module _ (m : Store) (files : Files) (shown : code.Job → Job) (jobs : List code.Job) (i : ℕ) (a b : Option (List ℕ))
    (e t : ℕ) (le : i < length jobs) (so_far : TellsEach m files (map shown (take i jobs)) a b e t) where
  -- so few that one more can be counted
  pub few_exported : length jobs < 2 ^ 64 → e + 1 < 2 ^ 64
  few_exported few =
      let most = many_most is_exported m files (map shown (take i jobs)) so_far.outcomes so_far.told in
      let is = so_far.exported_is in
      let short = map_take shown i jobs (omega (arith, le)) in omega (arith, most, is, short, le, few)

  pub few_there : length jobs < 2 ^ 64 → t + 1 < 2 ^ 64
  few_there few =
      let most = many_most is_there m files (map shown (take i jobs)) so_far.outcomes so_far.told in
      let is = so_far.there_is in
      let short = map_take shown i jobs (omega (arith, le)) in omega (arith, most, is, short, le, few)

  pub told_more : (now : Files) (job : code.Job) (outcome : Outcome) (c : Option (List ℕ)) (e' t' : ℕ)
      → job ≡ get_or jobs i job → now ≡ exported m files (map shown (take i jobs)) → ToldOne m now (shown job) outcome
      → Appends b c (outcome_line (shown job).0 outcome) → e' ≡ e + one_if (is_exported outcome)
      → t' ≡ t + one_if (is_there outcome)
      → TellsEach m files (map shown (take (i + 1) jobs)) a c e' t'
  told_more now job outcome c e' t' same is one wrote more more' =
      let done = map shown (take i jobs) in
      subst (λ js. TellsEach m files js a c e' t') (jobs_more shown jobs i job le same) (record {
        outcomes = so_far.outcomes ++ outcome ∷ [];
        told = are_more m files now done (shown job) so_far.outcomes outcome so_far.told is one;
        exported_is =
            more ∙ ap (λ k. k + one_if (is_exported outcome)) so_far.exported_is
            ∙ many_more is_exported so_far.outcomes outcome;
        there_is =
            more' ∙ ap (λ k. k + one_if (is_there outcome)) so_far.there_is
            ∙ many_more is_there so_far.outcomes outcome;
        wrote = appends_is a c _ _ (lines_more m files done (shown job) so_far.outcomes outcome so_far.told)
            (Appends-trans a b c (told_lines done so_far.outcomes) (outcome_line (shown job).0 outcome) so_far.wrote
            wrote);
      })

-- and the line of all
pub told_all : (m : Store) (files : Files) (jobs : List Job) (a b c : Option (List ℕ)) (done : ExportTally)
    (uploads : ℕ) → TellsEach m files jobs a b done.exported done.there → uploads ≡ length jobs
    → Appends b c (summary_line done.exported uploads done.there done.differs) → Tells m files jobs a c done
told_all m files jobs a b c done uploads each is wrote = record {
  outcomes = each.outcomes;
  told = each.told;
  exported_is = each.exported_is;
  there_is = each.there_is;
  wrote = Appends-trans a b c (told_lines jobs each.outcomes)
      (summary_line done.exported (length jobs) done.there done.differs) each.wrote
      (subst (λ n. Appends b c (summary_line done.exported n done.there done.differs)) is wrote);
}
