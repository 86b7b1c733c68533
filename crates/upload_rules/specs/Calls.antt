-- The calls on a world: when they are refused, and what they make of it.
use Rattle.std.specs.Prelude.{ℕ, ◌+◌, ◌^◌, Bool, true, false, List, [], ◌∷◌, ◌++◌, length, nat_lt, nat_le, ◌==◌}
use Rattle.std.specs.Prelude.{◌&&◌, if◌then◌else◌, Option, Some, None}
use Rattle.common.specs.declared.limits.TheConstants.{SLOTS}
use Rattle.upload_rules.specs.declared.errors.UploadRefusal.{UploadRefusal}
use Rattle.upload_rules.specs.declared.errors.UploadRefusal.TheVariants.{TooLarge, Slots, NoSuch, Offset, TooLong}
use Rattle.upload_rules.specs.declared.errors.UploadRefusal.TheVariants.{LengthSet}
use Rattle.upload_rules.specs.declared.errors.UploadRefusal.TheVariants.{Unencodable, Full}
use Rattle.upload_rules.specs.Store.{New, Upload, Store, find, replaced, without, upload_of, created_store}
use Rattle.upload_rules.specs.Store.{deleted_store, patched_store, accepted_count}
use Rattle.upload_rules.specs.Lengths.{known_or, is_new, differ, is_too_large, longest}
use Rattle.upload_rules.specs.World.{Patch, World, is_there, free_number, reached, completes, patch_text}
use Rattle.upload_rules.specs.Reading.{no_such}
use Rattle.upload_rules.specs.Room.{is_short}

-- The first of two refusals.
abbrev pub or_else : Option UploadRefusal → Option UploadRefusal → Option UploadRefusal
or_else None other = other
or_else (Some f) other = Some f

-- The refusal, if the condition holds.
abbrev pub refuse_if : Bool → UploadRefusal → Option UploadRefusal
refuse_if holds f = if holds then Some f else None

-- Lengths.

-- The refusal of a patch by the known length, the one that it declares, and the offset at its end.
abbrev pub length_refusal : Option ℕ → Option ℕ → ℕ → Option UploadRefusal
length_refusal known declare end =
    if differ known declare then Some LengthSet else refuse_if (nat_lt (longest (known_or known declare)) end) TooLong

-- Creation.

-- The refusal of a new upload.
abbrev pub create_refusal : World → New → Option UploadRefusal
create_refusal w new =
    if is_too_large new.declared then Some TooLarge
    else if nat_le SLOTS (length w.store.uploads) then Some Slots
    else refuse_if (nat_le (10 ^ 18) w.store.next) Slots

-- The world with a new upload.
abbrev pub created : World → New → World
created w new = record w { store = created_store w.store new }

-- Deletion.

-- The refusal of a deletion.
abbrev pub terminate_refusal : World → ℕ → Option UploadRefusal
terminate_refusal w number = no_such (upload_of w.store number)

-- The world without the upload. A patch of it stays open and keeps its room.
abbrev pub terminated : World → ℕ → World
terminated w number = record w { store = deleted_store w.store number }

-- The beginning of a patch.

-- The first that holds of NoSuch, Offset, TooLarge, LengthSet and TooLong.
abbrev pub begin_refusal_at : ℕ → ℕ → Option ℕ → Option Upload → Option UploadRefusal
begin_refusal_at offset count declare None = Some NoSuch
begin_refusal_at offset count declare (Some u) =
    if accepted_count u == offset
    then or_else (refuse_if (is_too_large declare) TooLarge) (length_refusal u.declared declare (offset + count))
    else Some Offset

-- The refusal of a patch's beginning.
abbrev pub begin_refusal : World → ℕ → ℕ → ℕ → Option ℕ → Option UploadRefusal
begin_refusal w number offset count declare = begin_refusal_at offset count declare (upload_of w.store number)

-- The patch of an upload before its body.
abbrev pub first_patch : ℕ → ℕ → Option ℕ → Upload → Patch
first_patch number count declare u = record {
  number = number;
  began = u;
  count = count;
  declare = declare;
  body = [];
  short = false;
}

-- The world with a patch of this upload, if it is there.
abbrev pub begun_at : World → ℕ → ℕ → Option ℕ → Option Upload → World
begun_at w number count declare None = w
begun_at w number count declare (Some u) = record w {
  patches = (free_number w, first_patch number count declare u) ∷ w.patches;
}

-- The world with a patch under the least free draft number.
abbrev pub begun : World → ℕ → ℕ → Option ℕ → World
begun w number count declare = begun_at w number count declare (upload_of w.store number)

-- The body of a patch.

-- The patch with another piece of its body. From here on it may be short of room.
abbrev pub longer_patch : World → ℕ → Patch → List ℕ → Patch
longer_patch w d p piece = let q = record p { body = p.body ++ piece } in record q { short = is_short w d q false }

-- The world with another piece of this patch.
abbrev pub appended_at : World → ℕ → List ℕ → Option Patch → World
appended_at w d piece None = w
appended_at w d piece (Some p) = record w { patches = replaced d (longer_patch w d p piece) w.patches }

-- The world with another piece of the patch of draft d.
abbrev pub appended : World → ℕ → List ℕ → World
appended w d piece = appended_at w d piece (find d w.patches)

-- The commit of a patch.

-- The list is empty.
abbrev pub is_empty : List ℕ → Bool
is_empty [] = true
is_empty (b ∷ bytes) = false

-- The patch gives this upload its length.
abbrev pub declares_at : Patch → Option Upload → Bool
declares_at p None = false
declares_at p (Some u) = is_new u.declared p.declare

-- The patch gives its upload its length.
abbrev pub declares : Store → Patch → Bool
declares m p = declares_at p (upload_of m p.number)

-- The patch brings neither a length nor bytes.
abbrev pub is_idle : Store → Patch → Bool
is_idle m p = if declares m p then false else is_empty p.body

-- The text stays as it is: the body is empty, and the patch's length doesn't complete the upload.
abbrev pub text_stays : Store → Patch → Bool
text_stays m p = if declares m p && completes m p then false else is_empty p.body

-- The text with the patch's body has an unmappable character, or finds no room. A text that stays has neither fault.
abbrev pub text_refusal : World → ℕ → Patch → Option UploadRefusal
text_refusal w d p =
    if text_stays w.store p then None
    else if is_there (patch_text w.store.indexes p (completes w.store p)).fault then Some Unencodable
    else refuse_if (is_short w d p (completes w.store p)) Full

-- The patch doesn't fit the upload any more: NoSuch, Offset, LengthSet or TooLong.
abbrev pub upload_refusal : Patch → Option Upload → Option UploadRefusal
upload_refusal p None = Some NoSuch
upload_refusal p (Some u) =
    if accepted_count u == accepted_count p.began
    then length_refusal u.declared p.declare (reached p)
    else Some Offset

-- The first that holds of NoSuch, Offset, LengthSet, TooLong, Unencodable and Full.
unfoldable pub commit_refusal : World → ℕ → Patch → Option UploadRefusal
commit_refusal w d p = or_else (upload_refusal p (upload_of w.store p.number)) (text_refusal w d p)

-- The world without the patch.
abbrev pub dropped : World → ℕ → World
dropped w d = record w { patches = without d w.patches }

-- The store after the patch's commit.
abbrev pub committed_store : Store → Patch → Store
committed_store m p = if is_idle m p then m else patched_store m p.number p.declare p.body

-- The world after the patch's commit.
abbrev pub committed : World → ℕ → Patch → World
committed w d p = record w { store = committed_store w.store p; patches = without d w.patches }

-- The world after `commit`. The patch is spent even if it is refused.
abbrev pub spent : World → ℕ → Patch → Option UploadRefusal → World
spent w d p None = committed w d p
spent w d p (Some f) = dropped w d

-- The stores that a crash may leave: the changed one, or the same if the call is refused.
abbrev pub outcome : Option UploadRefusal → Store → Store → Store
outcome None before after = after
outcome (Some e) before after = before

-- The store after `create`.
abbrev pub create_outcome : World → New → Store
create_outcome w new = outcome (create_refusal w new) w.store (created_store w.store new)

-- The store after `terminate`.
abbrev pub terminate_outcome : World → ℕ → Store
terminate_outcome w number = outcome (terminate_refusal w number) w.store (deleted_store w.store number)

-- The store after `commit`.
abbrev pub commit_outcome : World → ℕ → Patch → Store
commit_outcome w d p = outcome (commit_refusal w d p) w.store (committed_store w.store p)
