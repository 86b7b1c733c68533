use Rattle.std.proofs.Common.{◌≡◌, Ok, refl, sym, ◌∙◌, ap, replicate, length, rules}
use Rattle.std.proofs.lemmas.List.{length-replicate}
use Rattle.enc_index.specs.Files.{lines_of, pointers_of}
use Rattle.enc_index.proofs.Reading.{at_first, scalars_at_first, refused_by, read_done, table_ascends, none}
use Rattle.enc_index.proofs.index.Index.read.Goals as goal

pub returns-in_err-read_file : goal.returns-in_err-read_file
returns-in_err-read_file c =
    let count = c.pointers_of.ensures.count in
    let empty : c.in_ok-codes.codes.items ≡ replicate (pointers_of c.args.kind) none =
    c.in_ok-codes.ensures.items_if_clones_equal (λ y same. search rules) ∙ ap (λ n. replicate n none) count in
    refused_by c.args.kind c.args.bytes.now _ _ c.from_residual-in_err-read_file.ensures.1
    (sym (at_first _ 1 _ (lines_of c.args.bytes.now) empty) ∙ c.in_err-read_file.ensures.pairs)

pub invariant_of-result : goal.invariant_of-result
invariant_of-result c =
    let count = c.pointers_of.ensures.count in
    let empty : c.in_ok-codes.codes.items ≡ replicate (pointers_of c.args.kind) none =
    c.in_ok-codes.ensures.items_if_clones_equal (λ y same. search rules) ∙ ap (λ n. replicate n none) count in
    let long = c.in_ok-read_file.ensures.length ∙ ap length empty ∙ length-replicate (pointers_of c.args.kind) none in
    rw c.in_ok-table.ensures (table_ascends (pointers_of c.args.kind) _ long
    (c.in_ok-read_file.ensures.scalars (scalars_at_first _ _ empty)))

pub returns : goal.returns
returns c =
    let count = c.pointers_of.ensures.count in
    let empty : c.in_ok-codes.codes.items ≡ replicate (pointers_of c.args.kind) none =
    c.in_ok-codes.ensures.items_if_clones_equal (λ y same. search rules) ∙ ap (λ n. replicate n none) count in
    let lines = sym (at_first _ 1 _ (lines_of c.args.bytes.now) empty) ∙ c.in_ok-read_file.ensures.pairs
    ∙ ap Ok (sym c.in_ok-table.ensures) in
    (refl, read_done c.args.kind c.args.bytes.now _ lines)
