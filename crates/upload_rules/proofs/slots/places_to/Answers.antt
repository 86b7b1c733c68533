use Rattle.std.proofs.Common.{leb, rules}
use Rattle.std.proofs.lemmas.List.Sorted.{IsPartitionPoint-from_clause, IsPartitionedBy-leb}
use Rattle.upload_rules.specs.Slots.{slot_number_of}
use Rattle.upload_rules.proofs.Places.{not_falling, divided}
use Rattle.upload_rules.proofs.slots.places_to.Goals as goal

pub returns-clause-divided : goal.returns-clause-divided
returns-clause-divided c = λ rising.
    let parted = IsPartitionedBy-leb slot_number_of c.args.slots.now c.args.number
    (not_falling c.args.slots.now rising) in
    let point = IsPartitionPoint-from_clause (λ s. leb (slot_number_of s) c.args.number) c.args.slots.now
    c.partition_point.result c.partition_point.ensures.partitioned parted (λ a r q k. search rules) in
    divided c.args.slots.now c.args.number c.partition_point.result c.partition_point.ensures.bound point
