use Rattle.std.proofs.Common.{◌++◌, None, refl, sym, arith, true}
use Rattle.tus_request.specs.Buffers.{head_bytes}
use Rattle.tus_request.specs.Requests.{Refusal, Refuses}
use Rattle.tus_session.proofs.Verdicts.{small, makeable, usable}
use Rattle.tus_session.proofs.HeadResults.{more_replied, no_patch_replied, slice_rest, within_bytes, in_world, is_whole}
use Rattle.tus_session.proofs.Moved.{still}
use Rattle.tus_session.proofs.heads.head_of.Goals as goal

pub slice_bounds-after-count : goal.slice_bounds-after-count
slice_bounds-after-count g c =
    let w = within_bytes c.indexes.result.now (head_bytes c.args.head) c.args.bytes.now c.in-Refused.taken _
    (rw c.in-Refused.is at c.in_ok-parsed.ensures.function) in
    omega (arith, w, c.len-had.ensures, c.saturating_sub-before.ensures)

pub slice_bounds-after-start : goal.slice_bounds-after-start
slice_bounds-after-start g c =
    let w = within_bytes c.indexes.result.now (head_bytes c.args.head) c.args.bytes.now c.in-Refused.taken _
    (rw c.in-Refused.is at c.in_ok-parsed.ensures.function) in
    omega (arith, w, c.len-had.ensures, c.saturating_sub-before.ensures)

pub request_of-requires-clause-usable : goal.request_of-requires-clause-usable
request_of-requires-clause-usable g c sure w represents =
    usable w (head_bytes c.args.head ++ c.args.bytes.now) c.in-Head.taken _ (in_world w c.indexes.result.now _ _
    (c.indexes.ensures sure w represents) (rw c.in-Head.is at c.in_ok-parsed.ensures.function))

pub request_of-requires-clause-makeable : goal.request_of-requires-clause-makeable
request_of-requires-clause-makeable g c =
    makeable c.indexes.result.now (head_bytes c.args.head ++ c.args.bytes.now) c.in-Head.taken _
    (sym (rw c.in-Head.is at c.in_ok-parsed.ensures.function))

pub request_of-requires-clause-small : goal.request_of-requires-clause-small
request_of-requires-clause-small g c =
    small c.indexes.result.now (head_bytes c.args.head ++ c.args.bytes.now) c.in-Head.taken _
    (sym (rw c.in-Head.is at c.in_ok-parsed.ensures.function))

pub request_of-requires-clause-within : goal.request_of-requires-clause-within
request_of-requires-clause-within g c =
    let w = within_bytes c.indexes.result.now (head_bytes c.args.head) c.args.bytes.now c.in-Head.taken _
    (rw c.in-Head.is at c.in_ok-parsed.ensures.function) in
    omega (arith, w, c.len-had.ensures, c.saturating_sub-before-in-Head.ensures)

pub returns-in-More-clause-answer : goal.returns-in-More-clause-answer
returns-in-More-clause-answer g c sure w conn represents inside =
    more_replied g.U.Uploads sure _ _ _ w conn (head_bytes c.args.head) c.args.bytes.now c.read_by.new.self represents
    inside
    (in_world w c.indexes.result.now _ _ (c.indexes.ensures sure w represents)
    (rw c.in-More.is at c.in_ok-parsed.ensures.function))
    (rw c.in-More.is at c.in_ok-parsed.ensures.rest) c.waits.ensures

pub returns-in_ok-reply_refused-in-Refused-clause-answer : goal.returns-in_ok-reply_refused-in-Refused-clause-answer
returns-in_ok-reply_refused-in-Refused-clause-answer g c sure w conn represents inside =
    let r : Refusal = record {
      fault = c.in-Refused.fault;
      length = c.in-Refused.length;
      on_files = c.in-Refused.on_files;
      bare = c.in-Refused.bare;
      closes = c.in-Refused.closes;
    } in
    no_patch_replied g.U.Uploads sure _ w conn (head_bytes c.args.head) c.args.bytes.now c.in-Refused.taken
    c.saturating_sub-before.result (Refuses r)
    (is_whole w c.indexes.result.now conn _ _ _ _ _ (c.indexes.ensures sure w represents)
    (rw c.in-Refused.is at c.in_ok-parsed.ensures.function)
    (omega (arith, c.len-had.ensures, c.saturating_sub-before.ensures)) inside)
    _ _ _ _ c.read_by.new.self _ (slice_rest c.saturating_sub-before.result c.args.bytes.now) represents (still w None)
    refl refl c.skip.ensures.link (rw c.in-Refused.is at c.in_ok-parsed.ensures.rest) c.skip.ensures.answer
    c.in_ok-reply_refused-in-Refused.ensures.ok

pub returns-in-Head-clause-answer : goal.returns-in-Head-clause-answer
returns-in-Head-clause-answer g c sure w conn represents inside =
    c.request_of.ensures.answer sure w conn (head_bytes c.args.head) c.in-Head.taken represents
    (is_whole w c.indexes.result.now conn _ _ _ _ _ (c.indexes.ensures sure w represents)
    (rw c.in-Head.is at c.in_ok-parsed.ensures.function)
    (omega (arith, c.len-had.ensures, c.saturating_sub-before-in-Head.ensures)) inside)

pub returns-in-Head-clause-crash : goal.returns-in-Head-clause-crash
returns-in-Head-clause-crash g c w conn represents inside =
    c.request_of.ensures.crash w conn (head_bytes c.args.head) c.in-Head.taken represents
    (is_whole w c.indexes.result.now conn _ _ _ _ _ (c.indexes.ensures true w represents)
    (rw c.in-Head.is at c.in_ok-parsed.ensures.function)
    (omega (arith, c.len-had.ensures, c.saturating_sub-before-in-Head.ensures)) inside)

pub returns-in-Head-clause-unmade : goal.returns-in-Head-clause-unmade
returns-in-Head-clause-unmade g c w conn represents inside none_left =
    c.request_of.ensures.unmade w conn (head_bytes c.args.head) c.in-Head.taken represents
    (is_whole w c.indexes.result.now conn _ _ _ _ _ (c.indexes.ensures true w represents)
    (rw c.in-Head.is at c.in_ok-parsed.ensures.function)
    (omega (arith, c.len-had.ensures, c.saturating_sub-before-in-Head.ensures)) inside) none_left
