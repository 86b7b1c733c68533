-- From the answer of an opening to that of what opens.
use Rattle.std.proofs.Common.{◌≡◌, ℕ, None, Some, refl}
use Rattle.common.specs.declared.stop.Stop.TheVariants.{NoMemory}
use Rattle.spool_journal.specs.Image.{overlaid}
use Rattle.spool_catalog.specs.Holding.{Holding}
use Rattle.spool_catalog.specs.Shows.{IsValid}
use Rattle.spool_catalog.specs.declared.error.OpenFault.{OpenFault}
use Rattle.spool_catalog.specs.declared.error.OpenFault.TheVariants.{Stop}
use Rattle.spool_load.specs.Loaded.{OpenedFrom, ReadsView}
use Rattle.spool_load.specs.Refusals.{RefusedBy}
use Rattle.spool_pages.specs.View.{View}
use Rattle.spool_image.specs.Opening.{AnswersBy}
use Rattle.spool_image.proofs.Refused.{opened_encodes, refused_damaged, refused_no_spool, refused_version}
use Rattle.spool_image.proofs.Refused.{view_is_known}
use Rattle.spool_image.proofs.Refused.{view_is_spool, view_is_whole}

module _ (size : ℕ) (before after : ℕ → ℕ) where
  -- it was opened
  pub opened_exactly : {So : View → Type 0} → ReadsView size before after So → AnswersBy size before after None
  opened_exactly is = record {
    valid = λ opened. record { view = is.view; valid = is.valid; encodes = is.encodes; so = tt };
    refused = tt;
    not_a_spool = view_is_spool size before after is.view is.valid is.encodes;
    version = view_is_known size before after is.view is.valid is.encodes;
    damaged = view_is_whole size before after is.view is.valid is.encodes;
  }

  -- it was refused
  pub refused_exactly : (fault : OpenFault) → RefusedBy size before after fault
      → AnswersBy size before after (Some fault)
  refused_exactly fault reason = record {
    valid = λ opened. absurd (cc);
    refused = reason;
    not_a_spool = refused_no_spool size before after fault reason;
    version = refused_version size before after fault reason;
    damaged = refused_damaged size before after fault reason;
  }

-- the same of what a read gives
pub opened_reads : {size : ℕ} {current : ℕ → ℕ} (catalog : Holding) (opened : OpenedFrom size current catalog)
    → ReadsView size current (overlaid current) (λ v. Unit {0})
opened_reads catalog opened = record {
  view = opened.view;
  valid = opened.valid;
  encodes = opened_encodes _ _ catalog opened;
  so = tt;
}

pub view_more : {size : ℕ} {before after : ℕ → ℕ} {So So' : View → Type 0} → ((v : View) → So v → So' v)
    → ReadsView size before after So → ReadsView size before after So'
view_more more is =
    record { view = is.view; valid = is.valid; encodes = is.encodes; so = more is.view is.so }
