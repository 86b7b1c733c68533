use Rattle.std.proofs.Common.{◌-◌, length}
use Rattle.enc_model.specs.Utf8.{utf8}
use Rattle.enc_feed.proofs.Parts.{ReadTo}
use Rattle.enc_unicode.proofs.utf8.Utf8State.give_texts.Given as goal

abbrev pub invariant-by_windows : goal.invariant-by_windows
invariant-by_windows g l = ReadTo g.S.Sink.takes utf8 l.bytes l.fn.sink l.fn.self l.at l.sink l.fn.self

abbrev pub decreases-by_windows : goal.decreases-by_windows
decreases-by_windows g l = length l.bytes - l.at
