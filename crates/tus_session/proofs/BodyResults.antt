-- From what a body comes to, to the turn's answer.
use Rattle.std.proofs.Common.{ℕ, zero, suc, ◌+◌, ◌-◌, ◌<◌, ◌≤◌, ◌≡◌, inl, inr, Bool, true, false, List, [], ◌∷◌, ◌++◌}
use Rattle.std.proofs.Common.{Option, Some, None, Result, Ok, Err, length, take, refl, sym, ◌∙◌, ap, subst, arith}
use Rattle.std.proofs.Common.{append-nil, min, if◌then◌else◌}
use Rattle.std.proofs.lemmas.Bool.{cases_lt}
use Rattle.std.proofs.lemmas.List.{length-take-le, take_all, length-append}
use Rattle.tus_request.specs.Buffers.{head_bytes}
use Rattle.tus_request.specs.Requests.{Request, body_length}
use Rattle.upload_rules.specs.Store.{Upload, upload_of, patched, find}
use Rattle.upload_rules.specs.World.{Patch, World}
use Rattle.upload_rules.specs.Grown.{GrewFrom}
use Rattle.upload_rules.specs.Calls.{dropped, spent, commit_refusal, appended_at, longer_patch}
use Rattle.upload_rules.proofs.Finds.{find_replaced_same}
use Rattle.upload_rules.specs.declared.uploads.Uploads.{Ghosts}
use Rattle.tus_action.specs.Acts.{Giving, Acted, fed, fed_patch}
use Rattle.tus_action.specs.Serves.{Appends}
use Rattle.tus_session.specs.Streams.{Asked, InHead, InBody, Rest, cut}
use Rattle.tus_session.specs.Turns.{Conn, Turn, reader, at_head, body_step, turn_of, came_on, came_turn}
use Rattle.tus_session.specs.Represents.{PatchesAs, IsPatching, IsSkipping, RestIs, LinkIs}
use Rattle.tus_session.specs.Moves.{Moves}
use Rattle.tus_session.specs.Turned.{TurnedAs, Turned}
use Rattle.tus_session.specs.Bodies.{took, dropping, link_after, PatchGoesOn, Parts, Replies, ended_by}
use Rattle.tus_session.specs.declared.answers.Answer.{Answer}
use Rattle.common.specs.declared.stop.Stop.{Stop}
use Rattle.common.specs.declared.stop.Stop.TheVariants as stops
use Rattle.tus_action.specs.declared.bodies.OpenPatch.{OpenPatch}
use Rattle.tus_request.specs.declared.buffer.HeadBuffer.{HeadBuffer}
use Rattle.tus_session.specs.declared.conns.Link.{Link}
use Rattle.tus_session.proofs.HeadTurns.{part_turn, rest_turn, turn_at}
use Rattle.tus_session.proofs.Feeding.{fed_body, fed_began, fed_number, fed_count, fed_declare}
use Rattle.tus_session.proofs.Frames.{grown_more}
use Rattle.tus_session.proofs.Moved.{still, feed_moves, spend_moves, both_moves}
use Rattle.tus_session.proofs.NewRests.{is_steady, body_part_rest, body_whole_rest, body_wants}
use Rattle.tus_session.proofs.Unfinished.{longer}
pub use Rattle.tus_session.proofs.Frames.{rest_same}

abbrev pub plain : List ℕ → Option ℕ → Conn
plain s d = record { stream = s; draft = d; pending = None }

-- a turn after which nothing is open
abbrev pub answers : World → Bool → List ℕ → List ℕ → List ℕ → ℕ → Turn
answers w closes s bytes text n =
    record { world = w; conn = if closes then None else Some (plain s None); bytes = bytes; text = text; taken = n }

-- a turn after which the body goes on
abbrev pub goes_on : World → ℕ → List ℕ → List ℕ → ℕ → Turn
goes_on w d s bytes n = record { world = w; conn = Some (plain s (Some d)); bytes = bytes; text = []; taken = n }

module _ {U B : Type 0} (u : Ghosts U B) (sure : Bool) where
  -- a body of which so many bytes are to come is dropped
  dropping_is : (w : World) (conn : Conn) (head : List ℕ) (left : ℕ) (rest : Rest)
      → (cut (reader w) conn.stream).rest ≡ rest → RestIs head left rest → conn.draft ≡ None → conn.pending ≡ None
      → LinkIs u w head (dropping left) conn
  dropping_is w conn head zero (InHead h) e (same, none) draft pending = assumption (e ∙ ap InHead (sym same))
  dropping_is w conn head zero (InBody asked) e (cleared, wanted) draft pending =
      let wants = body_wants w conn.stream asked e in absurd (omega arith)
  dropping_is w conn head (suc n) (InHead h) e (same, none) draft pending = absurd (omega arith)
  dropping_is w conn head (suc n) (InBody asked) e (cleared, wanted) draft pending = record {
    asked = asked;
    inside = record { rest = e; cleared = cleared; some = omega arith; wanted = wanted };
    draft = draft;
    pending = pending;
  }

  -- a reply was given, and nothing is open
  pub answered_here : (store : U) (link : Option (Link B)) (a : Answer) (old new bytes text : List ℕ) (w w' : World)
      (own : Option ℕ) (head : HeadBuffer) (left taken : ℕ) (closes : Bool) (s' : List ℕ) (rest : Rest)
      → u.represents store sure w' → Moves w w' own None → link ≡ link_after head left closes
      → RestIs (head_bytes head) left rest → (cut (reader w) s').rest ≡ rest → a ≡ took taken closes
      → Appends sure old new bytes text
      → TurnedAs u sure store link a old new w own (answers w' closes s' bytes text taken)
  answered_here store link a old new bytes text w w' own head left taken true s' rest shown moves e rest_here here is
      given =
      rw (e, is) (assumption (shown, moves, given))
  answered_here store link a old new bytes text w w' own head left taken false s' rest shown moves e rest_here here is
      given =
      let dropped = dropping_is w' (plain s' None) (head_bytes head) left rest
      (rest_same w w' s' moves.grows.indexes ∙ here) rest_here refl refl in
      rw (e, is) (assumption (dropped, shown, moves, given))

  -- of another patch that began at the same upload
  grew_as : (p q : Patch) (o : Option Upload) → q.began ≡ p.began → GrewFrom p o → GrewFrom q o
  grew_as p q None same grown = tt
  grew_as p q (Some up) same (declare, more, is) =
      (declare, more, is ∙ ap (λ x. patched x declare more) (sym same))

  module _ (w : World) (b : OpenPatch B) (asked : Asked) (r : Request) (p : Patch)
      (is : PatchesAs u w b asked r p) where
    abbrev d : ℕ
    d = u.number_of b.draft

    grown_fed : (q : List ℕ) → GrewFrom (fed_patch w d p q) (upload_of (fed w d q).store (fed_patch w d p q).number)
    grown_fed q =
        let v = fed w d q in
        let grown = grown_more w v p (feed_moves w d p q is.found).grows is.below is.grown in
        rw (fed_number w d p q)
        (grew_as p (fed_patch w d p q) (upload_of v.store p.number) (fed_began w d p q) grown)

    -- the body goes on
    pub part_here : (store : U) (link : Option (Link B)) (a : Answer) (head : HeadBuffer) (b' : OpenPatch B)
        (left taken count : ℕ) (q s' old new reply : List ℕ) (v : World) (own : Option ℕ) → taken ≡ count
        → PatchGoesOn u sure store link a head b b' left taken (fed w d q) (fed_patch w d p q) → Moves v w own (Some d)
        → (head_bytes head) ≡ [] → 0 < left → left ≡ body_length asked.verdict - length (asked.body ++ q)
        → (cut (reader w) s').rest ≡ InBody (longer asked q) → new ≡ old ++ reply
        → TurnedAs u sure store link a old new v own (goes_on (fed w d q) d s' reply count)
    part_here store link a head b' left taken count q s' old new reply v own count_is goes before cleared some wanted
        here written =
        let w' = fed w d q in
        let p' = fed_patch w d p q in
        let moves = feed_moves w d p q is.found in
        let next = moves.grows.next in
        let patches : PatchesAs u w' b' (longer asked q) r p' = record {
          found = rw goes.number goes.found;
          holds = goes.holds;
          asks = is.asks;
          count = fed_count w d p q ∙ is.count;
          body = fed_body w d p q ∙ ap (λ x. x ++ q) is.body;
          reached = rw (goes.reached, fed_began w d p q, fed_count w d p q) is.reached;
          fits = rw (fed_began w d p q, fed_count w d p q, fed_declare w d p q) is.fits;
          below = rw (fed_number w d p q) (omega (arith, is.below, next));
          grown = grown_fed q;
          bare = goes.bare ∙ is.bare;
          closes = goes.closes ∙ is.closes;
        } in
        let link : IsPatching u w' (plain s' (Some d)) (head_bytes head) b' left = record {
          asked = longer asked q;
          r = r;
          p = p';
          inside = assumption (rest_same w w' s' moves.grows.indexes ∙ here, cleared, some, wanted);
          draft = ap Some (sym goes.number);
          pending = refl;
          patches = patches;
        } in
        rw (goes.link_is, goes.answer_is, count_is)
        (assumption (goes.shown, link, both_moves v w w' own (Some d) (Some d) before moves, written))

    -- the body's end: what moved
    pub rest_moves : (q : List ℕ) → Moves w (ended_by w d p q r).world (Some d) None
    rest_moves q =
        let w1 = fed w d q in
        let p1 = fed_patch w d p q in
        both_moves w w1 (spent w1 d p1 (commit_refusal w1 d p1)) (Some d) (Some d) None (feed_moves w d p q is.found)
        (spend_moves w1 d p1 (grown_fed q))

pub fed_found : (w : World) (d : ℕ) (p : Patch) (q : List ℕ) → find d w.patches ≡ Some p
    → find d (fed w d q).patches ≡ Some (fed_patch w d p q)
fed_found w d p [] found = found
fed_found w d p (b ∷ q) found =
    ap (λ o. find d (appended_at w d (b ∷ q) o).patches) found
    ∙ find_replaced_same d p (longer_patch w d p (b ∷ q)) w.patches found

-- what the bytes of a body came to, by whether it ends among them
pub record Bodied {U B : Type 0} (u : Ghosts U B) (sure : Bool) (store : U) (a : Result (Option (Link B) × Answer) Stop)
    (old new : List ℕ) (head : HeadBuffer) (b : OpenPatch B) (left before : ℕ) (w : World) (p : Patch) (bytes : List ℕ)
    (r : Request) : Type 0 where
  pub part : length bytes < left
      → Parts u sure store a head b (left - length bytes) (before + length bytes) (fed w (u.number_of b.draft) bytes)
      (fed_patch w (u.number_of b.draft) p bytes) (dropped w (u.number_of b.draft)) × (new ≡ old)
  pub rest : left ≤ length bytes → Replies u sure store a old new head (before + left)
      (ended_by w (u.number_of b.draft) p (take left bytes) r) (dropped w (u.number_of b.draft))

module _ {U B : Type 0} (u : Ghosts U B) (sure : Bool) (w : World) (conn : Conn) (head : HeadBuffer) (b : OpenPatch B)
    (left : ℕ) (is : IsPatching u w conn (head_bytes head) b left) where
  abbrev own : ℕ
  own = u.number_of b.draft

  wants : length is.asked.body < body_length is.asked.verdict
  wants = body_wants w conn.stream is.asked is.inside.rest

  -- what the body still wants
  pub left_wanted : length is.p.body + left ≡ is.p.count
  left_wanted =
      let v : body_length is.asked.verdict ≡ is.r.length = ap body_length is.patches.asks in
      let n : length is.p.body ≡ length is.asked.body = ap length is.patches.body in
      omega (arith, is.inside.some, is.inside.wanted, is.patches.count)

  part_is : (bytes : List ℕ) → length bytes < left
      → came_turn w conn bytes ≡ goes_on (fed w own bytes) own (conn.stream ++ bytes) [] (length bytes)
  part_is bytes few =
      let wanted = is.inside.wanted in
      let at : Option ℕ → Turn = λ d. turn_of conn bytes (length bytes)
      (body_step (at_head w d None) (take (length bytes) bytes) None d) in
      rw (take_all (length bytes) bytes (omega arith)) at
      (part_turn w conn is.asked is.inside.rest bytes is.pending (omega arith) ∙ ap at is.draft)

  abbrev ended : List ℕ → Acted
  ended bytes = ended_by w own is.p (take left bytes) is.r

  rest_is : (bytes : List ℕ) → left ≤ length bytes → came_turn w conn bytes
      ≡ answers (ended bytes).world (ended bytes).closes (conn.stream ++ take left bytes) (ended bytes).bytes [] left
  rest_is bytes enough =
      let wanted = is.inside.wanted in
      let turn = rest_turn w conn is.asked is.inside.rest bytes is.pending (omega arith) wants in
      let found = fed_found w own is.p (take left bytes) is.patches.found in
      rw (turn, ← is.inside.wanted, is.draft, is.patches.asks, found)

  part_replied : (store' : U) (old new bytes : List ℕ) (a : Result (Option (Link B) × Answer) Stop)
      → length bytes < left
      → Parts u sure store' a head b (left - length bytes) (0 + length bytes) (fed w own bytes)
      (fed_patch w own is.p bytes) (dropped w own) × (new ≡ old)
      → Turned u sure store' a old new w (Some own) (came_turn w conn bytes)
  part_replied store' old new bytes (Ok (link, a)) few ((b', goes), same) =
      let wanted = is.inside.wanted in
      let l = length-append is.asked.body bytes in
      let here = body_part_rest (reader w) (is_steady w) conn.stream bytes is.asked is.inside.rest (omega arith) in
      rw (part_is bytes few)
      (part_here u sure w b is.asked is.r is.p is.patches store' link a head b' (left - length bytes)
      (0 + length bytes) (length bytes) bytes (conn.stream ++ bytes) old new [] w (Some own) (omega arith) goes
      (still w (Some own)) is.inside.cleared (omega arith) (omega arith) here (same ∙ sym (append-nil old)))
  part_replied store' old new bytes (Err stops.NoMemory) few is' = is'
  part_replied store' old new bytes (Err stops.DiskFault) few (x, same) = same

  rest_replied : (store' : U) (old new bytes : List ℕ) (a : Result (Option (Link B) × Answer) Stop)
      → left ≤ length bytes → Replies u sure store' a old new head (0 + left) (ended bytes) (dropped w own)
      → Turned u sure store' a old new w (Some own) (came_turn w conn bytes)
  rest_replied store' old new bytes (Ok (link, a)) enough x =
      let wanted = is.inside.wanted in
      let m = ended bytes in
      let q = take left bytes in
      let l = length-take-le left bytes enough in
      let t : 0 + left ≡ left = omega arith in
      rw (rest_is bytes enough)
      (answered_here u sure store' link a old new m.bytes [] w m.world (Some own) head 0 left m.closes
      (conn.stream ++ q) (InHead []) x.shown (rest_moves u sure w b is.asked is.r is.p is.patches q) x.link_is
      (is.inside.cleared, refl)
      (body_whole_rest (reader w) (is_steady w) conn.stream q is.asked is.inside.rest (omega arith))
      (x.answer_is ∙ ap (λ i. took i m.closes) t) x.bytes)
  rest_replied store' old new bytes (Err stops.NoMemory) enough x = x
  rest_replied store' old new bytes (Err stops.DiskFault) enough x = x

  pub patch_replied : (store' : U) (old new bytes : List ℕ) (a : Result (Option (Link B) × Answer) Stop)
      → Bodied u sure store' a old new head b left 0 w is.p bytes is.r
      → Turned u sure store' a old new w conn.draft (came_turn w conn bytes)
  patch_replied store' old new bytes a bodied =
      subst (λ d. Turned u sure store' a old new w d (came_turn w conn bytes)) (sym is.draft)
      (elim (cases_lt (length bytes) left) [
        | inl few ↦ part_replied store' old new bytes a few (bodied.part few)
        | inr enough ↦ rest_replied store' old new bytes a enough (bodied.rest enough)
      ])

  pub rest_store : (bytes : List ℕ) → left ≤ length bytes
      → (ended bytes).world.store ≡ (came_turn w conn bytes).world.store
  rest_store bytes enough = ap (λ t. t.world.store) (sym (rest_is bytes enough))

-- a body that is dropped
pub skip_replied : {U B : Type 0} (u : Ghosts U B) (sure : Bool) (store : U) (w : World) (conn : Conn)
    (head : HeadBuffer)
    (left : ℕ) → u.represents store sure w → IsSkipping w conn (head_bytes head) left
    → (link : Option (Link B)) (a : Answer)
    (out bytes : List ℕ) → link ≡ link_after head (left - min left (length bytes)) false
    → a ≡ took (0 + min left (length bytes)) false
    → TurnedAs u sure store link a out out w conn.draft (came_turn w conn bytes)
skip_replied u sure store w conn head left represents is link a out bytes link_is answer_is =
    let t = turn_at w conn is.asked is.inside.rest bytes is.pending in
    let x = t.left_is left is.inside.wanted in
    let rest_here : RestIs (head_bytes head) (left - min left (length bytes)) t.rest = rw is.inside.cleared x.0 in
    let count : 0 + min left (length bytes) ≡ t.count = omega (arith, x.1) in
    let at : Option ℕ → Turn = λ d.
    turn_of conn bytes t.count (body_step (at_head w d None) (take t.count bytes) t.moment d) in
    subst (λ d. TurnedAs u sure store link a out out w d (came_turn w conn bytes)) (sym is.draft)
    (rw (t.turn_is ∙ ap at is.draft)
    (answered_here u sure store link a out out [] [] w w None head (left - min left (length bytes)) t.count false
    (conn.stream ++ take t.count bytes) t.rest represents (still w None) link_is rest_here t.rest_is
    (answer_is ∙ ap (λ i. took i false) count) (sym (append-nil out))))

pub text_turn_is : (w : World) (conn : Conn) (bytes : List ℕ) (h : Giving) → conn.pending ≡ Some h
    → record { world = w; conn = Some conn; bytes = []; text = []; taken = 0 } ≡ came_turn w conn bytes
unfolding came_turn
text_turn_is w conn bytes h e = sym (ap (came_on w conn bytes) e)
