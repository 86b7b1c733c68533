-- What an opening's reads gave.
use Rattle.std.specs.Prelude.{ℕ, ◌+◌, List, Result, Ok, Err}
use Rattle.spool_disk.specs.Given.{Anywhere, Between, MoreReads, ReadsGave, ReadsOnce}
use Rattle.common.specs.declared.given.GivenRead.{GivenRead}
use Rattle.spool_journal.specs.declared.TheConstants.{PAGE}
use Rattle.spool_pages.specs.View.{state_place}
use Rattle.spool_catalog.specs.declared.error.OpenFault.{OpenFault}
use Rattle.spool_load.specs.declared.finding.Found.{Found}

-- The reads of an opening fall into two parts, those up to the end of the recovery and those from then on. Whatever
-- bytes the first gave, and whatever the second, this is so of them. In neither part is a place read twice, so there
-- always are such bytes. The first reads are of places in P, the last of places in Q.
pub record PartsBy (P Q : ℕ → Type 0) (old new : List GivenRead) (So : (before after : ℕ → ℕ) → Type 0) : Type 0
  where
    pub recovered : List GivenRead
    pub first : ReadsOnce P old recovered
    pub last : ReadsOnce Q recovered new
    pub so : (before after : ℕ → ℕ) → ReadsGave before old recovered → ReadsGave after recovered new → So before after

abbrev pub ReadsBy : (old new : List GivenRead) → ((before after : ℕ → ℕ) → Type 0) → Type 0
ReadsBy old new So = PartsBy Anywhere Anywhere old new So

-- An opening's reads come first, and others follow.
pub record OpeningReadsBy (old new : List GivenRead) (So : (before after : ℕ → ℕ) → Type 0) : Type 0 where
  pub opened : List GivenRead
  pub by : ReadsBy old opened So
  pub others : MoreReads opened new

-- A place of the state page of a spool of n blocks, and of the one that was found. Where none was, any place.
abbrev pub IsOfState : ℕ → ℕ → Type 0
IsOfState n p = Between (state_place n) (state_place n + PAGE) p

abbrev pub IsOfFound : Result Found OpenFault → ℕ → Type 0
IsOfFound (Ok found) p = IsOfState found.layout p
IsOfFound (Err e) p = Unit {0}
