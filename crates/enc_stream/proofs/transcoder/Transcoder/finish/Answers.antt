use Rattle.std.proofs.Common.{rules, ◌≡◌, ◌++◌, None}
use Rattle.enc_model.specs.Indexes.{tables}
use Rattle.enc_model.specs.Transcode.{added_end}
use Rattle.enc_stream.proofs.Grows.{grows_end}
use Rattle.enc_stream.proofs.transcoder.Transcoder.finish.Goals as goal

pub returns-clause-text : goal.returns-clause-text
returns-clause-text c =
    let t = tables c.args.set.now in
    let s = c.args.self.now.transcoder in
    let ok : (added_end t s).fault ≡ None = search rules in
    let out : c.write_end.new.out.items ≡ c.args.out.now.items ++ (added_end t s).bytes = search rules in
    grows_end t s c.args.out.now.items c.write_end.new.out.items ok out
