use Rattle.std.proofs.Common.{◌≡◌, sym, ◌∙◌}
use Rattle.enc_index.specs.declared.kind.Kind.TheVariants.{Single}
use Rattle.enc_index.specs.Sets.{IsIndex}
use Rattle.enc_index.proofs.Bounds.{put_single}
use Rattle.enc_index.proofs.set.IndexSet.set.Goals as goal

pub invariant_of-self-in-Some : goal.invariant_of-self-in-Some
invariant_of-self-in-Some c =
    let kind : c.args.index.kind ≡ Single c.in-Single.encoding = sym c.into_parts-kind.ensures.kind ∙ c.in-Single.is in
    let valid : IsIndex 128 c.into_parts-kind.result.1 =
    rw c.into_parts-kind.ensures.pairs (rw kind at c.into_parts-kind.ensures.valid) in
    rw c.deref_mut-in-Some.ensures.value
    (put_single _ c.in-Some.place c.into_parts-kind.result.1 c.self.invariant valid)

pub invariant_of-self-in-Some-2 : goal.invariant_of-self-in-Some-2
invariant_of-self-in-Some-2 c =
    let kind : c.args.index.kind ≡ Single c.in-Single.encoding = sym c.into_parts-kind.ensures.kind ∙ c.in-Single.is in
    let valid : IsIndex 128 c.into_parts-kind.result.1 =
    rw c.into_parts-kind.ensures.pairs (rw kind at c.into_parts-kind.ensures.valid) in
    rw c.deref_mut-in-Some.ensures.value
    (put_single _ c.in-Some.place c.into_parts-kind.result.1 c.self.invariant valid)
