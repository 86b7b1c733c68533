use Rattle.std.proofs.Common.{rules, ◌≡◌, ◌++◌, None}
use Rattle.enc_model.specs.Indexes.{tables}
use Rattle.enc_model.specs.Transcode.{Transcoder, stepped, added}
use Rattle.enc_stream.specs.Stage.{phase_at}
use Rattle.enc_stream.specs.StateBytes.{IsFitting}
use Rattle.enc_stream.proofs.Fitting.{fits_after}
use Rattle.enc_stream.proofs.Grows.{grows}
use Rattle.enc_stream.proofs.transcoder.Transcoder.feed.Goals as goal

pub returns-clause-text : goal.returns-clause-text
returns-clause-text c =
    let t = tables c.args.set.now in
    let s = c.args.self.now.transcoder in
    let p = c.args.piece.now in
    let e = c.in_ok-next.encoder in
    let now : Transcoder = record {
      from = c.self.inside.from;
      to = e.to;
      mode = e.mode;
      phase = phase_at c.in_ok-next.next;
      shift = e.shift;
    } in
    let next : now ≡ stepped t s p = search rules in
    let ok : (added t s p).fault ≡ None = search rules in
    let out : c.transcode.new.out.items ≡ c.args.out.now.items ++ (added t s p).bytes = search rules in
    grows t s now p c.args.out.now.items c.transcode.new.out.items next ok out

pub invariant_of-self-2 : goal.invariant_of-self-2
invariant_of-self-2 c not_spent =
    let s = c.args.self.now.transcoder in
    let before : IsFitting s = search rules in
    fits_after (tables c.args.set.now) s _ c.args.piece.now before (search rules)
