-- What an encoder gave, as a sink.
use Rattle.std.proofs.Common.{ℕ, ◌≡◌, ◌≤◌, List, Vec, Result, Ok, Err, OnOk, refl, vec_capacity}
use Rattle.std.specs.declared.alloc.Global.{Global}
use Rattle.enc_model.specs.Encode.{encoder}
use Rattle.enc_model.specs.Indexes.{IndexSet, tables}
use Rattle.enc_model.specs.Sink.{Given}
use Rattle.enc_model.specs.Transcode.{Took, Refused}
use Rattle.enc_encode.specs.declared.error.EncodeError.{EncodeError}
use Rattle.enc_encode.specs.declared.error.EncodeError.TheVariants.{NoMemory, Unencodable}
use Rattle.enc_encode.specs.Reasons.{Explains, reason_of}
use Rattle.enc_encode.specs.Sinks.{SinkTook, SinkRefused}
use Rattle.enc_encode.specs.State.{EncoderState, coder, code_from}

pub given_sink : {X : Type 0} (set : IndexSet) (a b : EncoderState) (out new : Vec ℕ Global) (run : List ℕ)
    (r : Result X EncodeError) →
    (let f = encoder (tables set) a.to in
    Given (Took f a.mode) (λ x t e y. Refused f a.mode x t (reason_of e) y) (coder a out.items) run (coder b new.items)
    r) →
    (b.to ≡ a.to) × (b.mode ≡ a.mode) → Explains (code_from (tables set) a run) out new r
    → OnOk r (vec_capacity out ≤ vec_capacity new) →
    Given SinkTook SinkRefused (record {
      encoder = a;
      set = set;
      out = out;
    }) run (record { encoder = b; set = set; out = new }) r
given_sink set a b out new run (Ok v) g k e room = record { setting = rw (k.0, k.1) refl; took = g; capacity = room }
given_sink set a b out new run (Err NoMemory) g k e room = record {
  setting = rw (k.0, k.1) refl;
  refused = g;
  memory = λ h. e;
}
given_sink set a b out new run (Err (Unencodable c)) g k e room = record {
  setting = rw (k.0, k.1) refl;
  refused = g;
  memory = λ h. absurd cc;
}
