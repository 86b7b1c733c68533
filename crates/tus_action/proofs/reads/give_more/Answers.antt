use Rattle.std.proofs.Common.{◌≡◌, ◌-◌, ℕ, length, take, ap, sym, subst, ◌∙◌, min, arith}
use Rattle.std.proofs.lemmas.List.{length-take-le}
use Rattle.upload_rules.specs.Store.{upload_of}
use Rattle.upload_rules.specs.World.{is_there}
use Rattle.tus_action.specs.declared.reads.TheConstants.{PIECE}
use Rattle.tus_action.specs.Acts.{piece_of}
use Rattle.tus_action.specs.Serves.{AppendsPiece, IsGiven, given_after}
use Rattle.tus_action.proofs.Answered.{refused_answer}
use Rattle.tus_action.proofs.Pieces.{given_piece, piece_left, piece_size_is, read_there, refused_gone, stops_read}
use Rattle.tus_action.proofs.reads.give_more.Goals as goal

pub returns-in-Ok-extend_from_slice-clause-answer : goal.returns-in-Ok-extend_from_slice-clause-answer
returns-in-Ok-extend_from_slice-clause-answer g c = λ sure w h represents is.
    let a = c.in-Ok.ensures.answer sure w represents in
    let up = read_there w.store c.args.giving.number h.number is.number a.0 in
    let gives = is.there up.0 up.1 in
    let n : ℕ = c.min-count.result in
    let count : n ≡ min (c.args.giving.length - c.args.giving.given) PIECE =
    c.min-count.ensures ∙ ap (λ x. min x PIECE) c.saturating_sub-left.ensures in
    let room : length (take n c.args.buffer.now) ≡ n =
    length-take-le n c.args.buffer.now (omega (arith, count, c.told-buffer)) in
    let size : length c.read_text.new.buf ≡ length (piece_of h) =
    omega (arith, c.read_text.auto.buf, room, piece_size_is w.store c.args.giving h up.0 gives n count) in
    let piece : AppendsPiece sure c.args.out.now.items c.extend_from_slice.new.self.items (piece_of h) = (
      c.read_text.new.buf,
      c.in-Ok-extend_from_slice.ensures.items,
      record {
        size = size;
        same = λ known. given_piece w.store c.args.giving h up.0 gives n _ _ c.read_text.new.buf count room
            (a.1.0.read known);
      },
    ) in (
      a.1.1,
      subst (λ x. IsGiven sure w.store x c.args.out.now.items c.extend_from_slice.new.self.items h
          (upload_of w.store h.number)) (sym c.after.ensures)
          (subst (IsGiven sure w.store (given_after c.args.giving n) c.args.out.now.items
          c.extend_from_slice.new.self.items h) (sym up.1)
          (piece_left w.store c.args.giving h up.0 gives is n count _ _ piece)),
    )

pub returns-in-Err-clause-answer : goal.returns-in-Err-clause-answer
returns-in-Err-clause-answer g c = λ sure w h represents is.
    let a = c.in-Ok.ensures.answer sure w represents in
    let up = read_there w.store c.args.giving.number h.number is.number a.0 in
    (ap is_there up.1, a.1.1, c.in-Err.ensures.items)

pub returns-in-Err-Refused-clause-answer : goal.returns-in-Err-Refused-clause-answer
returns-in-Err-Refused-clause-answer g c = λ sure w h represents is.
    let a = refused_answer _ _ _ _ _ c.in-Err-Refused.field-0-is (c.in-Err-Refused.ensures.answer sure w represents) in
    (a.1, refused_gone sure w.store c.args.giving.number h _ c.args.out.now.items is.number a.0)

pub returns-in-Err-Stop-clause-answer : goal.returns-in-Err-Stop-clause-answer
returns-in-Err-Stop-clause-answer g c = λ sure w h represents is.
    rw c.in-Err-Stop.stop-is (stops_read g.U.Uploads sure c.read_text.new.self w c.args.giving.number h
    c.in-Err-Stop.stop _ c.args.out.now.items _ is.number c.in-Err-Stop.field-0-is
    (c.in-Err-Stop.ensures.answer sure w represents))
