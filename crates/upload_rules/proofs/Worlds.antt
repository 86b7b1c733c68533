-- What each call makes of a table and of the world that it represents.
use Rattle.std.proofs.Common.{◌≡◌, ℕ, ◌+◌, ◌<◌, true, List, [], ◌∷◌, ◌++◌, length, set}
use Rattle.std.proofs.Common.{Option, Some, None, sym, ◌∙◌, ap, arith, Vec, Global}
use Rattle.std.proofs.lemmas.Bool.{cases_lt}
use Rattle.std.proofs.lemmas.Grind.{common_steps}
use Rattle.std.proofs.lemmas.List.{map-append}
use Rattle.std.proofs.Math.Seq.{map-set_same}
use Rattle.upload_rules.specs.declared.appends.OpenAppend.{OpenAppend}
use Rattle.upload_rules.specs.declared.slot.Slot.{Slot}
use Rattle.upload_rules.specs.declared.table.Table.{Table}
use Rattle.upload_rules.specs.Store.{New, Upload, find, upload_of, replaced, patched, new_upload}
use Rattle.upload_rules.specs.World.{Patch, World, is_there, free_number}
use Rattle.upload_rules.specs.Calls.{created, begun, first_patch, dropped}
use Rattle.upload_rules.specs.Slots.{AllRepresent, slot_number_of, numbers, IsRising, IsBelow, IsFirstAt}
use Rattle.upload_rules.specs.Slots.{SlotRepresents}
use Rattle.upload_rules.specs.Drafts.{DraftOf, draft_at, IsPlaced}
use Rattle.upload_rules.specs.Appends.{AppendRepresents}
use Rattle.enc_model.specs.Indexes.{IndexSet}
use Rattle.upload_rules.specs.Table.{TableRepresents}
use Rattle.upload_rules.proofs.FreeNumbers.{is_free}
use Rattle.upload_rules.proofs.Patches.{apart_without, apart_replaced, held_on, draft_of, patch_there}
use Rattle.upload_rules.proofs.Patches.{dropped_represents}
use Rattle.upload_rules.proofs.Patches.{appended_represents, begun_represents}
use Rattle.upload_rules.proofs.Growing.{grown_dropped, grown_longer, grown_begun, grown_created, grown_put}
use Rattle.upload_rules.proofs.Places.{number_at}
use Rattle.upload_rules.proofs.RecordOfUpload.{push, put}

abbrev pub Appends : Type 0
Appends = Vec (Option OpenAppend) Global

weaker : (x : IndexSet) (next : ℕ) (p : Patch) (o : OpenAppend) → AppendRepresents x next p o
    → AppendRepresents x (next + 1) p o
weaker x next p o h = let below : p.number < next + 1 = omega arith in assumption

-- NUMBERS

rising_push : (ns : List ℕ) (n : ℕ) → IsRising ns → IsBelow ns n → IsRising (ns ++ n ∷ [])
rising_push ns n rising below i j lt inside =
    grind (arith, common_steps, cases_lt j (length ns), rising i j, below i)

below_push : (ns : List ℕ) (n : ℕ) → IsBelow ns n → IsBelow (ns ++ n ∷ []) (n + 1)
below_push ns n below k inside = grind (arith, common_steps, cases_lt k (length ns), below k)

-- THE CALLS

module _ (t : Table) (w : World) (represents : TableRepresents t w) where
  pub drops : (d : ℕ) (v : Appends) → v.items ≡ set t.appends.items d None
      → TableRepresents (record t { appends = v }) (dropped w d)
  drops d v is =
      let appends = dropped_represents (AppendRepresents w.store.indexes w.store.next) w.patches t.appends.items v.items
      represents.appends d represents.apart is in
      assumption (apart_without d w.patches represents.apart, grown_dropped w represents.grown d represents.apart)

  -- with another append for a patch that has more of its body
  pub appends_more : (d : ℕ) (p : Patch) (body : List ℕ) (o : OpenAppend) (v : Appends) → find d w.patches ≡ Some p
      → d < length t.appends.items
      → v.items ≡ set t.appends.items d (Some o) → AppendRepresents w.store.indexes w.store.next
      (record p { body = body })
      o
      → TableRepresents (record t { appends = v }) (record w
      { patches = replaced d (record p { body = body }) w.patches })
  appends_more d p body o v there lt is held =
      let appends = appended_represents (AppendRepresents w.store.indexes w.store.next) w.patches t.appends.items
      v.items
      represents.appends d p (record p { body = body }) o there lt is held in
      let apart = apart_replaced d (record p { body = body }) w.patches represents.apart in
      assumption (grown_longer w represents.grown d p body p.short there)

  -- with a patch more
  pub begins : (n count : ℕ) (declare : Option ℕ) (u : Upload) (d : ℕ) (o : OpenAppend) (v : Appends)
      → upload_of w.store n ≡ Some u
      → IsPlaced t.appends.items o d v.items
      → AppendRepresents w.store.indexes w.store.next (first_patch n count declare u) o
      → (d ≡ free_number w) × TableRepresents (record t { appends = v }) (begun w n count declare)
  begins n count declare u d o v there placed held =
      let none : find d w.patches ≡ None =
      not_there (find d w.patches) (draft_at t.appends.items d) (represents.appends d) placed.free in
      let full : (k : ℕ) → k < d → is_there (find k w.patches) ≡ true =
      λ k lt. (patch_there (AppendRepresents w.store.indexes w.store.next) (find k w.patches)
      (draft_at t.appends.items k) (represents.appends k)).1 (placed.least k lt) in
      let free = sym (is_free w d full (ap is_there none)) in
      let appends = begun_represents (AppendRepresents w.store.indexes w.store.next) w.patches t.appends.items v.items
      represents.appends d (first_patch n count declare u) o placed held in
      let grown = grown_begun w represents.grown n count declare u d there in
      (free, rw (there, sym free) assumption)
    where
      not_there : (q : Option Patch) (o : Option OpenAppend)
          → DraftOf (AppendRepresents w.store.indexes w.store.next) q o
          → o ≡ None → q ≡ None
      not_there q o h e = grind arith

  -- with an upload more
  pub creates : (new : New) (s : Slot) (v : Vec Slot Global) (next : ℕ) → v.items ≡ t.slots.items ++ s ∷ []
      → next ≡ t.next + 1 → SlotRepresents w.store.indexes t.next (new_upload new) s
      → TableRepresents (record t { slots = v; next = next }) (created w new)
  creates new s v next is one held =
      let number : slot_number_of s ≡ w.store.next = held.represents.number_is ∙ represents.next in
      let all : numbers v.items ≡ numbers t.slots.items ++ w.store.next ∷ [] =
      ap numbers is ∙ map-append slot_number_of t.slots.items (s ∷ []) ∙ ap (λ n. numbers t.slots.items ++ n ∷ [])
      number in
      let after : next ≡ w.store.next + 1 = omega (arith, one, represents.next) in
      let slots : AllRepresent w.store.indexes (w.store.uploads ++ (w.store.next, new_upload new) ∷ []) v.items =
      rw is (push w.store.indexes w.store.next (new_upload new) s w.store.uploads t.slots.items represents.slots
      (rw represents.next at held)) in
      let rising : IsRising (numbers v.items) =
      rw all (rising_push (numbers t.slots.items) w.store.next represents.rising represents.below) in
      let below : IsBelow (numbers v.items) (w.store.next + 1) =
      rw all (below_push (numbers t.slots.items) w.store.next represents.below) in
      let appends = λ (d : ℕ). held_on (AppendRepresents w.store.indexes w.store.next)
      (AppendRepresents w.store.indexes (w.store.next + 1)) (find d w.patches) (draft_at t.appends.items d)
      (λ p o is. weaker w.store.indexes w.store.next p o) (represents.appends d) in
      assumption (grown_created w represents.grown new (λ d p there.
      (draft_of (AppendRepresents w.store.indexes w.store.next) p (find d w.patches) (draft_at t.appends.items d) there
      (represents.appends d)).2.below))

  -- with what a patch brings to an upload
  pub puts : (n : ℕ) (u : Upload) (declare : Option ℕ) (body : List ℕ) (place : ℕ) (s : Slot) (v : Vec Slot Global)
      → upload_of w.store n ≡ Some u → IsFirstAt (numbers t.slots.items) n place
      → place < length t.slots.items → v.items ≡ set t.slots.items place s
      → SlotRepresents w.store.indexes n (patched u declare body) s
      → TableRepresents (record t { slots = v })
      (record w { store = record w.store { uploads = replaced n (patched u declare body) w.store.uploads } })
  puts n u declare body place s v there first lt is held =
      let same : numbers v.items ≡ numbers t.slots.items =
      ap numbers is ∙ map-set_same slot_number_of t.slots.items place s s
      (held.represents.number_is ∙ sym first.here ∙ number_at t.slots.items place s lt) in
      let slots : AllRepresent w.store.indexes (replaced n (patched u declare body) w.store.uploads) v.items =
      rw is (put w.store.indexes n w.store.uploads t.slots.items place (patched u declare body) s represents.slots lt
      first.here first.before held) in
      let rising : IsRising (numbers v.items) = rw same represents.rising in
      let below : IsBelow (numbers v.items) w.store.next = rw same represents.below in
      assumption (grown_put w represents.grown n u declare body there)
