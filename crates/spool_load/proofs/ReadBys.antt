-- From what the reads of an opening gave to its answer.
use Rattle.std.proofs.Common.{◌≡◌, ℕ, List, Option, Some, None, Result, Ok, Err, IfOk, IfSome, MatchOption}
use Rattle.std.proofs.Common.{MatchResult, refl, subst, sym}
use Rattle.std.specs.Option.{ok_or}
use Rattle.spool_disk.specs.Given.{Anywhere, ReadsGave, ReadsOnce}
use Rattle.common.specs.declared.given.GivenRead.{GivenRead}
use Rattle.spool_disk.proofs.Gave.{first, once_more, once_none, once_on, rest}
use Rattle.spool_pages.specs.View.{View, Encodes, state_place}
use Rattle.spool_catalog.specs.Holding.{Holding}
use Rattle.spool_catalog.specs.Catalog.{HasViewAlone}
use Rattle.spool_catalog.specs.Shows.{IsValid}
use Rattle.spool_catalog.specs.declared.error.OpenFault.{OpenFault}
use Rattle.spool_catalog.specs.declared.error.OpenFault.TheVariants.{Version}
use Rattle.spool_load.specs.Faults.{IsStopError, load_fault}
use Rattle.spool_load.specs.Loaded.{FindsBy, FoundBy, IsFoundOf, LoadedFrom, LoadsBy, RestoresBy, FoundIsAt}
use Rattle.spool_load.specs.ReadBy.{IsOfFound, IsOfState, PartsBy, ReadsBy}
use Rattle.spool_load.specs.Reads.{EncodesBlocks}
use Rattle.spool_load.specs.Refusals.{HasJournal, NotFoundBy, RefusedHere, EncodesKnownVersion}
use Rattle.spool_load.specs.declared.error.LoadError.{LoadError}
use Rattle.spool_load.specs.declared.finding.Found.{Found}
use Rattle.spool_load.proofs.Faults.{loads_err, is_stop_error}
use Rattle.spool_load.proofs.Refused.{found_reason, read_reason, encodes_one, unfound_reason}

-- THE TWO PARTS OF THE READS

module _ {So : (before after : ℕ → ℕ) → Type 0} {P : ℕ → Type 0} {a b : List GivenRead} (reads : ReadsOnce P a b) where
  -- all reads belong to the first part
  pub by_first : {Q : ℕ → Type 0} → ((before after : ℕ → ℕ) → ReadsGave before a b → So before after)
      → PartsBy P Q a b So
  by_first so = record {
    recovered = b;
    first = reads;
    last = once_none refl;
    so = λ before after early late. so before after early;
  }

  pub by_both : {Q : ℕ → Type 0} {c : List GivenRead} → ReadsOnce Q b c
      → ((before after : ℕ → ℕ) → ReadsGave before a b → ReadsGave after b c → So before after) → PartsBy P Q a c So
  by_both then so = record { recovered = b; first = reads; last = then; so = so }

  -- more reads before, in the first part
  pub by_before : {P' Q : ℕ → Type 0} {c : List GivenRead} {So' : (before after : ℕ → ℕ) → Type 0}
      → PartsBy P' Q b c So' → ((p : ℕ) → P p → P' p → ⊥)
      → ((before after : ℕ → ℕ) → ReadsGave before a b → So' before after → So before after)
      → PartsBy Anywhere Q a c So
  by_before is apart more = record {
    recovered = is.recovered;
    first = once_on reads is.first apart (λ p of. tt) (λ p of. tt);
    last = is.last;
    so =
        λ before after early late. more before after (first reads.since is.first.since early)
        (is.so before after (rest reads.since is.first.since early) late);
  }

module _ {So So' : (before after : ℕ → ℕ) → Type 0} {P Q : ℕ → Type 0} {a b : List GivenRead} (is : PartsBy P Q a b So')
  where
    -- no more reads
    pub by_same : {c : List GivenRead} → c ≡ b → ((before after : ℕ → ℕ) → So' before after → So before after)
        → ReadsBy a c So
    by_same same more = subst (λ (l : List GivenRead). ReadsBy a l So) (sym same) (record {
      recovered = is.recovered;
      first = once_more (λ p of. tt) is.first;
      last = once_more (λ p of. tt) is.last;
      so = λ before after early late. more before after (is.so before after early late);
    })

    -- more reads afterwards, in the second part
    pub by_after : {Q' : ℕ → Type 0} {c : List GivenRead} → ReadsOnce Q' b c → ((p : ℕ) → Q p → Q' p → ⊥)
        → ((before after : ℕ → ℕ) → So' before after → ReadsGave after b c → So before after) → ReadsBy a c So
    by_after reads apart more = record {
      recovered = is.recovered;
      first = once_more (λ p of. tt) is.first;
      last = once_on is.last reads apart (λ p of. tt) (λ p of. tt);
      so =
          λ before after early late. more before after
          (is.so before after early (first is.last.since reads.since late))
          (rest is.last.since reads.since late);
    }

-- what is found, its own state page was read
pub of_found : (n : ℕ) (decoded : Option Found) → IfSome decoded (λ found. found.layout ≡ n) → (p : ℕ)
    → IsOfState n p → IsOfFound (ok_or decoded Version) p
of_found n (Some found) same p of = subst (λ (k : ℕ). IsOfState k p) (sym same) of
of_found n None same p of = tt

-- THE ANSWERS

module _ (size : ℕ) (before after : ℕ → ℕ) where
  pub restored_by : (n : ℕ) (decoded : Option Found) → HasJournal n before
      → MatchOption decoded (EncodesKnownVersion after (state_place n) → ⊥) (FoundIsAt after)
      → MatchResult (ok_or decoded Version) (λ found. HasJournal n before × FoundIsAt after found)
      (RefusedHere n before after)
  restored_by n (Some found) journal are_at = (journal, are_at)
  restored_by n None journal unknown = (journal, unknown)

  module _ (n : ℕ) (encodes : EncodesBlocks size before n) where
    answered : (r : Result Found OpenFault) → IfOk r (λ found. found.layout ≡ n)
        → MatchResult r (λ found. HasJournal n before × FoundIsAt after found) (RefusedHere n before after)
        → MatchResult r (FoundBy size before after) (NotFoundBy size before after)
    answered (Ok found) same is = record {
      encodes = subst (EncodesBlocks size before) (sym same) encodes;
      journal = subst (λ (k : ℕ). HasJournal k before) (sym same) is.0;
      state = is.1;
    }
    answered (Err e) same why = found_reason size before after n e encodes why

    pub finds_by : (r : Result Found OpenFault) → IfOk r (λ found. found.layout ≡ n) → RestoresBy n r before after
        → FindsBy size before after r
    finds_by r same is = record {
      answer = answered r same is.answer;
      finds =
          λ v valid encodes_by. let blocks = encodes_one size before v.blocks n encodes_by.begins encodes in
          is.restores v valid blocks (subst (λ (k : ℕ). HasJournal k before) blocks encodes_by.journal)
          encodes_by.encodes;
    }

  pub unfound_by : (e : OpenFault) → FindsBy size before after (Err e) → LoadsBy size before after (Err e)
  unfound_by e is = record {
    answer = unfound_reason size before after e is.answer;
    loads = λ v valid encodes_by. loads_err (IsFoundOf v) (λ (catalog : Holding). HasViewAlone catalog v) e
        (is.finds v valid encodes_by);
  }

  module _ (found : Found) (is : FindsBy size before after (Ok found)) where
    pub unread_by : (e : LoadError)
        → ((v : View) → IsValid v → IsFoundOf v found → Encodes after v → IsStopError e)
        → LoadsBy size before after (Err (load_fault e))
    unread_by e is_stop = record {
      answer = read_reason size before after found e is.answer
          (λ v valid encodes_by. is_stop v valid (is.finds v valid encodes_by) encodes_by.encodes);
      loads = λ v valid encodes_by. is_stop_error e (λ (catalog : Holding). HasViewAlone catalog v)
          (is_stop v valid (is.finds v valid encodes_by) encodes_by.encodes);
    }

    pub loads_by : (catalog : Holding) → LoadedFrom after found.layout catalog
        → ((v : View) → IsValid v → IsFoundOf v found → Encodes after v → HasViewAlone catalog v)
        → LoadsBy size before after (Ok catalog)
    loads_by catalog loaded has_view = record {
      answer = record {
        view = loaded.view;
        valid = loaded.valid;
        encodes = record {
          begins = subst (EncodesBlocks size before) (sym loaded.blocks) is.answer.encodes;
          journal = subst (λ (k : ℕ). HasJournal k before) (sym loaded.blocks) is.answer.journal;
          encodes = loaded.encodes;
        };
        so = loaded.has_view;
      };
      loads = λ v valid encodes_by. has_view v valid (is.finds v valid encodes_by) encodes_by.encodes;
    }
