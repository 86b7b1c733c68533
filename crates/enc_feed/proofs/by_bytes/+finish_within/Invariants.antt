use Rattle.enc_feed.proofs.by_bytes.+finish_within.Given as goal

abbrev pub decreases-finish_within : goal.decreases-finish_within
decreases-finish_within g l = l.calls
