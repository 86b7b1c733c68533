use Rattle.std.proofs.Common.{◌≡◌, ◌≤◌, ◌+◌, ◌-◌, length, take, drop, ap, sym, subst, ◌∙◌, arith, length-drop}
use Rattle.std.proofs.lemmas.List.{take_rest}
use Rattle.std.proofs.lemmas.Str.{chars-nil, IsUtf8-nil}
use Rattle.enc_model.specs.Utf16.{utf16, utf16_start}
use Rattle.enc_model.proofs.Steps.{steps_none}
use Rattle.lane_kernels.specs.Orders.{is_big}
use Rattle.lane_kernels.specs.Units.{units_of}
use Rattle.enc_unicode.specs.WroteUnits.{WroteUnits}
use Rattle.enc_unicode.proofs.Spans.{block_more}
use Rattle.enc_unicode.proofs.runs.write_text.Goals as goal

pub by_blocks-init : goal.by_blocks-init
by_blocks-init c = record {
  run = steps_none (utf16 (is_big c.args.order)) utf16_start
      ∙ ap (λ text. record { text = text; state = utf16_start }) (sym chars-nil);
  utf8 = IsUtf8-nil;
  within = omega arith;
  few = omega arith;
}

pub by_blocks-preserved : goal.by_blocks-preserved
by_blocks-preserved c =
    let big = is_big c.args.order in
    let bytes = c.args.bytes.now in
    let read = c.by_blocks.read in
    let rest = take (length bytes - read) (drop read bytes) in
    let old = take c.by_blocks.len c.by_blocks.code in
    let new = take c.in-Some.end c.write_next.new.code in
    let before = c.by_blocks.invariant in
    let one = c.in-Some.ensures.wrote in
    let long : length rest ≡ length bytes - read = ap length (take_rest bytes read) ∙ length-drop read bytes in
    let inside : read + 64 ≤ length bytes = omega (arith, long, one.0, before.within) in
    let wrote = subst (λ z. WroteUnits (units_of big (take 64 z)) old new) (take_rest bytes read) one.2 in
    record {
      run = block_more big bytes read old new inside before.run wrote;
      utf8 = wrote.utf8;
      within = inside;
      few = omega (arith, one.1, c.by_blocks-test.true);
    }
