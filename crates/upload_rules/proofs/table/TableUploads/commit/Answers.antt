use Rattle.std.proofs.Common.{◌≡◌, ℕ, Result, refl, ap, subst, sym, ◌∙◌}
use Rattle.std.proofs.lemmas.List.{get_or_read}
use Rattle.upload_rules.specs.declared.errors.UploadError.{UploadError}
use Rattle.std.specs.Vec.{with_item}
use Rattle.upload_rules.specs.declared.slot.Slot.{Slot}
use Rattle.upload_rules.specs.Slots.{SlotRepresents}
use Rattle.upload_rules.specs.Appends.{IsCommitPut}
use Rattle.upload_rules.specs.Lengths.{is_length}
use Rattle.upload_rules.specs.World.{reached}
use Rattle.upload_rules.proofs.Refusals.{refused_missing, refused_offset, refused_length, commits_nothing, commits}
use Rattle.upload_rules.proofs.Refusals.{append_is, upload, as_before, known_is, still_open, completes_is}
use Rattle.upload_rules.proofs.table.TableUploads.commit.Goals as goal

pub returns-in_default-place_of-clause-answer : goal.returns-in_default-place_of-clause-answer
returns-in_default-place_of-clause-answer c = λ sure w p represents there holds.
    refused_missing _ w represents _ p there _ c.in-Some.ensures.after _ c.in-Some.ensures.taken
    ((rw c.deref.ensures.value at c.in_default-place_of.ensures.place) represents.rising)

pub returns-then-record-append-clause-answer : goal.returns-then-record-append-clause-answer
returns-then-record-append-clause-answer c = λ sure w p represents there holds.
    refused_offset _ w represents _ p there _ c.in-Some.ensures.after _ c.in-Some.ensures.taken _ _
    ((rw c.deref.ensures.value at c.in-Some-place_of.ensures.place) represents.rising) c.index.ensures
    c.if-record-append.true

pub returns-in-Err-clause-answer : goal.returns-in-Err-clause-answer
returns-in-Err-clause-answer c = λ sure w p represents there holds.
    refused_length _ w represents _ p there _ c.in-Some.ensures.after _ c.in-Some.ensures.taken _ _
    ((rw c.deref.ensures.value at c.in-Some-place_of.ensures.place) represents.rising) c.index.ensures
    c.if-record-append.false c.in-Err.refusal c.in-Err.ensures

pub returns-then-is_idle-clause-answer : goal.returns-then-is_idle-clause-answer
returns-then-is_idle-clause-answer c = λ sure w p represents there holds.
    let first = (rw c.deref.ensures.value at c.in-Some-place_of.ensures.place) represents.rising in
    commits_nothing _ w represents _ p there _ c.in-Some.ensures.after _ c.in-Some.ensures.taken _ _ first
    c.index.ensures c.if-record-append.false c.in-Ok.ensures.2 (sym c.is_idle.ensures ∙ c.if-is_idle.true)

pub returns-clause-answer : goal.returns-clause-answer
returns-clause-answer c = λ sure w p represents there holds.
    let t = c.args.self.now in
    let d = c.args.draft.number in
    let o = c.in-Some.append in
    let place = c.in-Some-place_of.place in
    let s = c.index.result.now in
    let taken = c.in-Some.ensures.taken in
    let first = (rw c.deref.ensures.value at c.in-Some-place_of.ensures.place) represents.rising in
    let append = append_is t w represents d p there o taken in
    let v = c.taken.new.drafts in
    let gone = c.in-Some.ensures.after in
    let same = c.if-record-append.false in
    let fits = c.in-Ok.ensures.2 in
    let busy = sym c.is_idle.ensures ∙ c.if-is_idle.false in
    let up = upload t w represents d p there v gone o taken place s first c.index.ensures in
    let known = c.in-Ok.ensures.0 ∙ known_is t w represents d p there v gone o taken place s first c.index.ensures same
    fits busy in
    let unfinished = still_open t w represents d p there v gone o taken place s first c.index.ensures same fits busy
    c.in-Ok.declared c.in-Ok.ensures.0 c.in-Ok.ensures.1 in
    let lt = rw c.deref.ensures.value at c.in-Some-place_of.ensures.within in
    let one : c.index_mut.result.now ≡ s =
    get_or_read t.slots.items place _ lt c.index_mut.ensures.value s ∙ sym c.index.ensures in
    let new : Slot = c.append_to.new.slot in
    let r : Result ℕ UploadError = c.append_to.result in
    let done = is_length c.in-Ok.declared (reached p) in
    let put = c.append_to.ensures.put w.store.next p up.0
    (rw (sym represents.indexes) at append)
    (as_before t w represents d p there v gone o taken place s first c.index.ensures same) unfinished known
    (subst (λ y. SlotRepresents y p.number up.0 c.index_mut.result.now) (sym represents.indexes) (rw one up.2)) in
    commits t w represents d p there v gone o taken place s first c.index.ensures same fits busy r done new
    (with_item t.slots place new)
    (completes_is w.store p up.0 up.1 ∙ ap (λ k. is_length k (reached p)) (sym known)) unfinished refl
    (subst (λ y. IsCommitPut y p up.0 done new r) represents.indexes put)
