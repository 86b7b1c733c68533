use Rattle.std.proofs.Common.{◌≡◌, ◌⊎◌, ℕ, ◌+◌, ◌-◌, ◌<◌, List, Bool, true, false, length, get_or, arith, inl, inr, sym}
use Rattle.std.proofs.Common.{◌∙◌, ap, subst}
use Rattle.std.proofs.lemmas.List.{with_items_is}
use Rattle.spool_disk.specs.Disk.{In}
use Rattle.spool_disk.proofs.Span.{span_is, in_or_out}
use Rattle.spool_disk.proofs.memory.MemoryDiskDisk.write_at.Goals as goal

at_p : (new mid : List ℕ) (p : ℕ) → new ≡ mid → get_or new p 0 ≡ get_or mid p 0
at_p new mid p e = ap (λ (l : List ℕ). get_or l p 0) e

flag_p : (new mid : List Bool) (p : ℕ) → new ≡ mid → get_or new p false ≡ get_or mid p false
flag_p new mid p e = ap (λ (l : List Bool). get_or l p false) e

unsyncs_in : (new mid old : List Bool) (at n p : ℕ)
    → ((q : ℕ) → (In at n q → ⊥) → get_or new q false ≡ get_or mid q false) → mid ≡ old → get_or new p false ≡ true
    → (get_or old p false ≡ true) ⊎ In at n p
unsyncs_in new mid old at n p outside e is = elim (in_or_out at n p) [
  | inl within ↦ inr within
  | inr out ↦ inl (sym (outside p out ∙ flag_p mid old p e) ∙ is)
]

pub returns-clause-writes : goal.returns-clause-writes
returns-clause-writes c _ =
    let bytes = with_items_is c.args.self.now.written c.put.new.into (omega (arith)) in
    let marks = with_items_is c.args.self.now.unsynced c.mark.new.marks (omega (arith)) in
    record {
      outside = λ p out. at_p _ _ p bytes ∙ c.put.ensures.outside p out ∙ at_p _ _ p c.deref_mut.ensures.value;
      inside = λ _. span_is _ c.args.at c.args.bytes.now
          (λ k lt. at_p _ _ (c.args.at + k) bytes ∙ c.put.ensures.inside k lt);
      unsyncs = λ p unsynced. unsyncs_in _ _ _ c.args.at _ p c.mark.ensures.outside c.deref_mut-2.ensures.value
          (sym (flag_p _ _ p marks) ∙ unsynced);
    }

-- a place in the range is marked
marked_in : (new mid : List Bool) (at n p : ℕ) → ((k : ℕ) → k < n → get_or new (at + k) false ≡ true) → In at n p
    → get_or new p false ≡ true
marked_in new mid at n p all within =
    let k : ℕ = p - at in
    let e : at + k ≡ p = omega (arith, within.from) in
    subst (λ (q : ℕ). get_or new q false ≡ true) e (all k (omega (arith, within.from, within.below)))

agrees : (new mid : List Bool) (old : List Bool) (bytes into was synced : List ℕ) (at n p : ℕ)
    → ((k : ℕ) → k < n → get_or new (at + k) false ≡ true)
    → ((q : ℕ) → (In at n q → ⊥) → get_or new q false ≡ get_or mid q false) → mid ≡ old
    → ((q : ℕ) → (In at n q → ⊥) → get_or bytes q 0 ≡ get_or into q 0) → into ≡ was
    → ((q : ℕ) → (get_or old q false ≡ true → ⊥) → get_or was q 0 ≡ get_or synced q 0)
    → (get_or new p false ≡ true → ⊥) → get_or bytes p 0 ≡ get_or synced p 0
agrees new mid old bytes into was synced at n p all outside same unchanged back agree unmarked =
    elim (in_or_out at n p) [
      | inl within ↦ absurd (unmarked (marked_in new mid at n p all within))
      | inr out ↦ unchanged p out ∙ at_p into was p back ∙ agree p
          (λ is. unmarked (outside p out ∙ flag_p mid old p same ∙ is))
    ]

pub invariant_of-self-clause-agree : goal.invariant_of-self-clause-agree
invariant_of-self-clause-agree c p unmarked =
    let bytes = with_items_is c.args.self.now.written c.put.new.into (omega (arith)) in
    let marks = with_items_is c.args.self.now.unsynced c.mark.new.marks (omega (arith)) in
    at_p _ _ p bytes ∙ agrees c.mark.new.marks _ _ c.put.new.into _ _ _ c.args.at _ p c.mark.ensures.all
    c.mark.ensures.outside c.deref_mut-2.ensures.value
    c.put.ensures.outside c.deref_mut.ensures.value c.args.self.now.agree (λ is. unmarked (flag_p _ _ p marks ∙ is))

pub invariant_of-self-clause-marked : goal.invariant_of-self-clause-marked
invariant_of-self-clause-marked c =
    let bytes = with_items_is c.args.self.now.written c.put.new.into (omega (arith)) in
    let marks = with_items_is c.args.self.now.unsynced c.mark.new.marks (omega (arith)) in
    omega (arith, ap length bytes, ap length marks, c.args.self.now.marked)
