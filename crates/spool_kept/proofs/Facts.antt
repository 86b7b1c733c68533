-- What is at most one proof, as the ghost field of an opened spool has to be.
use Rattle.std.proofs.Common.{◌≡◌, ◌==◌, if◌then◌else◌, List, Option, Some, None, refl, ℕ}
use Rattle.std.proofs.Math.Nat.{ℕ_set}
use Rattle.std.proofs.Props.{props}
use ghost.Sets.{retract_set}
use Rattle.enc_model.specs.declared.Encoding.{Encoding}
use Rattle.enc_model.specs.declared.Mode.{Mode}
use Rattle.enc_model.specs.declared.Mode.TheVariants.{Html, Fatal}
use Rattle.enc_stream.specs.TranscoderState.{TranscoderState}
use Rattle.enc_stream.specs.StateBytes.{encoding_number, mode_number}
use Rattle.spool_drafts.specs.declared.draft.SpoolDraft.{SpoolDraft}
use Rattle.spool_drafts.specs.Progress.{IsStateOf}
use Rattle.spool_kept.specs.Drafting.{DraftsFit}
use Rattle.spool_catalog.specs.Holding.{Holding}
use Rattle.spool_catalog.proofs.Recorded.{back, encoding_at}

encodings_set : IsSet Encoding
encodings_set = retract_set encoding_number encoding_at back ℕ_set

mode_at : ℕ → Mode
mode_at n = if n == mode_number Html then Html else Fatal

mode_back : (m : Mode) → mode_at (mode_number m) ≡ m
unfolding mode_at
mode_back Html = refl
mode_back Fatal = refl

modes_set : IsSet Mode
modes_set = retract_set mode_number mode_at mode_back ℕ_set

goes_on_prop : (state : List ℕ) (transcoder : Option TranscoderState) → IsProp (IsStateOf state transcoder)
goes_on_prop state (Some t) = hlevel (encodings_set, modes_set)
goes_on_prop state None = hlevel

pub fits_prop : (h : Holding) (drafts : List (Option SpoolDraft)) → IsProp (DraftsFit h drafts)
fits_prop h drafts = hlevel (props, goes_on_prop)
