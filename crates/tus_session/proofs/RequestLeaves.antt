-- What a request leaves open after its head: nothing, a text, or a patch.
use Rattle.std.proofs.Common.{ℕ, ◌+◌, ◌≤◌, ◌≡◌, ◌==◌, Bool, true, false, List, [], ◌∷◌, Option, Some, None, length}
use Rattle.std.proofs.Common.{drop, refl, ap, if◌then◌else◌}
use Rattle.std.proofs.lemmas.Bool.{eqb-true}
use Rattle.tus_request.specs.Requests.{Request, Action, Options, Create, Head, Get, Delete, Asks}
use Rattle.tus_request.specs.Requests as requests
use Rattle.upload_rules.specs.Store.{New, Upload, upload_of, find, text_of, accepted_count}
use Rattle.upload_rules.specs.World.{World, free_number}
use Rattle.upload_rules.specs.Calls.{create_refusal, terminate_refusal, begin_refusal, begin_refusal_at, begun_at}
use Rattle.upload_rules.specs.Calls.{first_patch, or_else, refuse_if, length_refusal}
use Rattle.upload_rules.specs.Lengths.{known_or, is_too_large, longest}
use Rattle.upload_rules.specs.declared.errors.UploadRefusal.{UploadRefusal}
use Rattle.upload_rules.specs.declared.errors.UploadRefusal.TheVariants.{Offset, TooLarge}
use Rattle.tus_action.specs.Acts.{Acted, Giving, acted, acted_on, post, new_of, delete, head, get, giving, patch}
use Rattle.tus_action.specs.declared.reads.TheConstants.{PIECE}
use Rattle.tus_session.specs.Moves.{Moves}
use Rattle.tus_session.proofs.Moved.{create_moves, delete_moves, free_none, has_room, or_else_second, still}

-- a patch is open
pub record Opened (w : World) (r : Request) (a : Acted) : Type 0 where
  pub d : ℕ
  pub number : ℕ
  pub offset : ℕ
  pub declare : Option ℕ
  pub up : Upload
  pub draft_is : a.draft ≡ Some d
  pub action_is : r.action ≡ requests.Patch number offset declare
  pub there : upload_of w.store number ≡ Some up
  pub world_is : a.world ≡ record w { patches = (d, first_patch number r.length declare up) ∷ w.patches }
  pub free : find d w.patches ≡ None
  pub length_is : accepted_count up ≡ offset
  pub fits : offset + r.length ≤ longest (known_or up.declared declare)
  pub no_text : a.text ≡ []
  pub idle : a.pending ≡ None
  pub stays : a.closes ≡ false

pub data Leaves (w : World) (r : Request) (a : Acted) : Type 0 where
  Nothing : Moves w a.world None None → a.draft ≡ None → a.pending ≡ None → Leaves w r a
  Text : (h : Giving) → a.world ≡ w → a.draft ≡ None → a.pending ≡ Some h → a.closes ≡ false → Leaves w r a
  Patching : Opened w r a → Leaves w r a

-- a patch that isn't refused
pub record Begins (offset count : ℕ) (declare : Option ℕ) (o : Option Upload) : Type 0 where
  pub up : Upload
  pub there : o ≡ Some up
  pub length_is : accepted_count up ≡ offset
  pub fits : offset + count ≤ longest (known_or up.declared declare)

begins_case : (offset count : ℕ) (declare : Option ℕ) (u : Upload) (b : Bool) → (accepted_count u == offset) ≡ b
    → (if b
    then or_else (refuse_if (is_too_large declare) TooLarge) (length_refusal u.declared declare (offset + count))
    else Some Offset) ≡ None
    → Begins offset count declare (Some u)
begins_case offset count declare u true same e =
    record {
      up = u;
      there = refl;
      length_is = eqb-true (accepted_count u) offset same;
      fits = has_room u.declared declare (offset + count) (or_else_second (refuse_if (is_too_large declare) TooLarge)
          (length_refusal u.declared declare (offset + count)) e);
    }
begins_case offset count declare u false same e = absurd (cc)

begins : (offset count : ℕ) (declare : Option ℕ) (o : Option Upload) → begin_refusal_at offset count declare o ≡ None
    → Begins offset count declare o
begins offset count declare None e = absurd (cc)
begins offset count declare (Some u) e = begins_case offset count declare u (accepted_count u == offset) refl e

module _ (w : World) (r : Request) where
  posted : (new : New) (o : Option UploadRefusal) → Leaves w r (post w r new o)
  posted new None = Nothing (create_moves w new None) refl refl
  posted new (Some f) = Nothing (still w None) refl refl

  deleted : (number : ℕ) (o : Option UploadRefusal) → Leaves w r (delete w r number o)
  deleted number None = Nothing (delete_moves w number None) refl refl
  deleted number (Some f) = Nothing (still w None) refl refl

  shown : (o : Option Upload) → Leaves w r (head w r o)
  shown None = Nothing (still w None) refl refl
  shown (Some u) = Nothing (still w None) refl refl

  given : (number : ℕ) (u : Upload) (text left : List ℕ) → Leaves w r (giving w r number u text left)
  given number u text [] = Nothing (still w None) refl refl
  given number u text (b ∷ left) =
      Text (record { number = number; left = b ∷ left; closes = r.closes }) refl refl refl refl

  got : (number : ℕ) (o : Option Upload) → Leaves w r (get w r number o)
  got number None = Nothing (still w None) refl refl
  got number (Some u) =
      given number u (text_of w.store.indexes u)
      (if r.bare then [] else drop PIECE (text_of w.store.indexes u))

  patched : (number offset : ℕ) (declare : Option ℕ) → r.action ≡ requests.Patch number offset declare
      → (o : Option UploadRefusal) → begin_refusal w number offset r.length declare ≡ o
      → Leaves w r (patch w r number declare o)
  patched number offset declare action (Some f) e = Nothing (still w None) refl refl
  patched number offset declare action None e =
      let b = begins offset r.length declare (upload_of w.store number) e in
      Patching (record {
        d = free_number w;
        number = number;
        offset = offset;
        declare = declare;
        up = b.up;
        draft_is = refl;
        action_is = action;
        there = b.there;
        world_is = ap (begun_at w number r.length declare) b.there;
        free = free_none w;
        length_is = b.length_is;
        fits = b.fits;
        no_text = refl;
        idle = refl;
        stays = refl;
      })

  leaves_on : (x : Action) → r.action ≡ x → Leaves w r (acted_on w r x)
  leaves_on Options e = Nothing (still w None) refl refl
  leaves_on (Create c) e = posted (new_of c) (create_refusal w (new_of c))
  leaves_on (Head n) e = shown (upload_of w.store n)
  leaves_on (Get n) e = got n (upload_of w.store n)
  leaves_on (requests.Patch n offset declare) e =
      patched n offset declare e (begin_refusal w n offset r.length declare) refl
  leaves_on (Delete n) e = deleted n (terminate_refusal w n)

  pub leaves : Leaves w r (acted w (Asks r))
  leaves = leaves_on r.action refl
