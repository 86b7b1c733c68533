use Rattle.std.proofs.Common.{arith, false}
use Rattle.std.proofs.lemmas.List.Sums.{prefix_len-le-length}
use Rattle.lane_kernels.specs.Classes.{is_plain_2022}
use Rattle.enc_model.specs.declared.Charset.TheVariants.{Ascii}
use Rattle.enc_model.specs.Indexes.{tables}
use Rattle.enc_legacy.proofs.Strides.{iso_prefix, run_cleared}
use Rattle.enc_legacy.proofs.iso2022.Iso2022State.read_ascii.Goals as goal

pub push_ascii-requires-clause-ascii : goal.push_ascii-requires-clause-ascii
push_ascii-requires-clause-ascii c =
    let none = c.if-run-eq0.false in
    (iso_prefix (tables c.args._indexes.now).jis0208 Ascii false c.args.rest.now _ c.plain_front_2022-run.ensures
    (omega (arith, none))).0

pub returns : goal.returns
returns c =
    let i = c.self.inside in
    let none = c.if-run-eq0.false in
    let is = iso_prefix (tables c.args._indexes.now).jis0208 i.output i.flag c.args.rest.now _
    c.plain_front_2022-run.ensures (omega (arith, none)) in
    let read = run_cleared (tables c.args._indexes.now).jis0208 _ i.place i.output i.flag c.args.self.now _ _
    c.args.batch.now c.push_ascii.new.self c.self.view_is c.requires.place is.1 c.push_ascii.ensures in
    record {
      within = omega (arith, c.plain_front_2022-run.ensures, prefix_len-le-length is_plain_2022 c.args.rest.now);
      text = read.0;
      state = read.1;
    }
