use Rattle.std.proofs.Common.{◌-◌, List, ℕ, min, length, take, sym, ◌∙◌, ap, arith}
use Rattle.tus_request.specs.declared.heads.TheConstants.{MOST_HEAD}
use Rattle.tus_request.specs.Searches.{after_bytes}
use Rattle.tus_request.specs.declared.search.Search.TheVariants.{Leading}
use Rattle.tus_request.proofs.Limits.{filled}
use Rattle.tus_request.proofs.SearchLemmas.{search_on}
use Rattle.tus_request.proofs.buffer.HeadBuffer.fill.Goals as goal

pub invariant_of-self-2-clause-searched : goal.invariant_of-self-2-clause-searched
invariant_of-self-2-clause-searched c =
    let old : List ℕ = c.args.self.now.bytes.items in
    let prefix = take c.min.result c.args.piece.now in
    c.after-self.ensures
    ∙ (ap (λ s. after_bytes s prefix) c.args.self.now.searched
    ∙ (sym (search_on Leading old prefix) ∙ ap (after_bytes Leading) (sym c.in_ok-extend_from_slice.ensures.items)))

pub returns : goal.returns
returns c =
    c.in_ok-extend_from_slice.ensures.items
    ∙ filled MOST_HEAD c.args.self.now.bytes.items c.args.piece.now c.min.result
    (omega (arith, c.args.self.now.short, c.args.self.now.bytes.ok.0))
    (c.min.ensures ∙ ap (λ k. min (length c.args.piece.now) (MOST_HEAD - k))
    (omega (arith, c.len-room.ensures, c.args.self.now.bytes.ok.0)))
