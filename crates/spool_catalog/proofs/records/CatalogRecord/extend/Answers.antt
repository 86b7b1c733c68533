use Rattle.std.proofs.Common.{◌≡◌, ◌∙◌, ap, sym}
use Rattle.enc_stream.specs.StateBytes.{state_bytes}
use Rattle.enc_stream.proofs.Bytes.{from_there, to_there, mode_there}
use Rattle.spool_pages.specs.View.{SlotRecord}
use Rattle.spool_catalog.proofs.Recorded.{same_encoding, same_mode}
use Rattle.spool_catalog.proofs.records.CatalogRecord.extend.Goals as goal

-- the encodings and the mode are those of the old state, and so of the new one
pub invariant_of-self : goal.invariant_of-self
invariant_of-self c =
    let unpacked = c.self.invariant.unpacked in
    let s = unpacked.transcoder in
    let t = c.requires.before in
    let states : state_bytes s ≡ state_bytes t =
    sym unpacked.is ∙ ap (λ (r : SlotRecord). r.state) c.self.view_is ∙ c.requires.was in
    record {
      unpacked = record {
        transcoder = c.requires.after;
        valid = c.requires.after_valid;
        is = c.requires.is;
        from = unpacked.from ∙ same_encoding s.from t.from (from_there s (state_bytes t) states) ∙ sym c.requires.from;
        to = unpacked.to ∙ same_encoding s.to t.to (to_there s (state_bytes t) states) ∙ sym c.requires.to;
        mode = unpacked.mode ∙ same_mode s.mode t.mode (mode_there s (state_bytes t) states) ∙ sym c.requires.mode;
      };
      short = c.self.invariant.short;
    }
