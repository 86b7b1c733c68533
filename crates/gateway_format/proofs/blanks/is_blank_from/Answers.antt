use Rattle.std.proofs.Common.{rules}
use Rattle.gateway_format.proofs.Blank.{blank_no, blank_yes, gave_as}
use Rattle.gateway_format.proofs.blanks.is_blank_from.Goals as goal

pub returns-clause-yes : goal.returns-clause-yes
returns-clause-yes g c honest zeros =
    let bytes = g.D.Disk.current c.args.disk.now in
    blank_yes bytes c.args.at c.args.count c.read.new.buf c.are_zeros.result
    (gave_as bytes c.args.at (c.in_ok-read.ensures.bytes honest (search rules)) (search rules)) c.are_zeros.ensures
    zeros

pub returns-clause-no : goal.returns-clause-no
returns-clause-no g c honest other =
    let bytes = g.D.Disk.current c.args.disk.now in
    blank_no bytes c.args.at c.args.count c.read.new.buf c.are_zeros.result
    (gave_as bytes c.args.at (c.in_ok-read.ensures.bytes honest (search rules)) (search rules)) c.are_zeros.ensures
    other
