-- From what a head comes to, to the turn's answer.
use Rattle.std.proofs.Common.{ℕ, ◌+◌, ◌-◌, ◌≤◌, ◌≡◌, false, List, [], ◌++◌, Option, Some, None, Bool, length, take}
use Rattle.std.proofs.Common.{drop, min, refl, sym, ◌∙◌, ap, subst, arith, append-nil, inl, inr, true, ◌<◌, ◌∷◌, Result}
use Rattle.std.proofs.Common.{Ok, Err, append_assoc}
use Rattle.std.proofs.lemmas.List.{take_all, length-append, length-drop, length-take-le}
use Rattle.tus_request.specs.Buffers.{head_bytes}
use Rattle.enc_model.specs.Indexes.{IndexSet, offers}
use Rattle.tus_request.proofs.Prefixes.{steady}
use Rattle.tus_request.specs.Answers.{Answer, More, Judged, answer_of}
use Rattle.tus_request.specs.Requests.{Verdict, body_length, Request, Asks}
use Rattle.upload_rules.specs.World.{World, Patch}
use Rattle.upload_rules.specs.declared.uploads.Uploads.{Ghosts}
use Rattle.tus_action.specs.Acts.{Acted, Giving, acted, fed, fed_patch}
use Rattle.tus_action.specs.Serves.{Appends, ActedAs, GivingIs, DraftIs}
use Rattle.tus_session.specs.Streams.{InHead, Moments, Rest, InBody, cut, Asked}
use Rattle.tus_session.specs.Represents.{RestIs, IsGivingText, PatchesAs}
use Rattle.tus_session.specs.Turns.{Conn, Turn, reader, came_with, came_turn}
use Rattle.tus_session.specs.Heads.{InsideHead, CompletesHead, ReachedIs}
use Rattle.tus_session.specs.Moves.{Moves}
use Rattle.tus_session.specs.Turned.{TurnedAs, Turned}
use Rattle.tus_session.specs.Bodies.{took, link_after, Parts, Replies, ended_by, BackTo}
use Rattle.tus_session.specs.declared.answers.Answer as code
use Rattle.tus_request.specs.declared.buffer.HeadBuffer.{HeadBuffer}
use Rattle.tus_session.specs.declared.conns.Link.{Link}
use Rattle.tus_session.proofs.BodyResults.{answers, answered_here, Bodied, goes_on, part_here, rest_moves, fed_found}
use Rattle.tus_session.proofs.HeadTurns.{more_turn_is, head_turn, verdict_is, prefix_is, part_turn_is, whole_turn_is}
use Rattle.tus_session.proofs.HeadTurns.{within, body_is}
use Rattle.tus_session.proofs.NewRests.{is_steady, head_more_rest, head_part_rest, head_whole_rest}
use Rattle.tus_session.proofs.Moved.{still, with_patch, open_moves, both_moves}
use Rattle.std.proofs.lemmas.Bool.{cases_lt}
use Rattle.upload_rules.specs.Store.{Store, Upload, upload_of, find}
use Rattle.upload_rules.specs.Answers.{Limits}
use Rattle.tus_action.specs.declared.acts.Giving as given
use Rattle.tus_action.specs.declared.acts.Done.TheVariants as Done
use Rattle.tus_session.specs.declared.conns.Awaiting.TheVariants as awaits
use Rattle.tus_session.proofs.Frames.{rest_same}
use Rattle.tus_session.proofs.Limiting.{still_limits, first_then, limits_to}
use Rattle.tus_session.proofs.RequestLeaves.{Nothing, Text, Patching, leaves}
use Rattle.tus_session.proofs.Unfinished.{judged_as}
use Rattle.std.proofs.lemmas.Bool.Decides.{nat_tests}
use Rattle.std.proofs.lemmas.Option.{same_Some}
use Rattle.std.proofs.Math.Seq.{take-append_seam}
use Rattle.upload_rules.specs.Calls.{first_patch, dropped}
use Rattle.common.specs.declared.stop.Stop.{Stop}
use Rattle.common.specs.declared.stop.Stop.TheVariants as stops
use Rattle.tus_action.specs.declared.bodies.OpenPatch.{OpenPatch}
use Rattle.tus_session.proofs.Feeding.{without_first}
use Rattle.tus_session.proofs.Growth.{patched_nothing}

abbrev answered_turn : Acted → List ℕ → ℕ → Turn
answered_turn a s n = answers a.world a.closes s a.bytes a.text n

-- without a patch or a text, what the head did is all
pub came_plain : (k : Conn) (piece : List ℕ) (n : ℕ) (m : Moments) (a : Acted) → a.pending ≡ None → a.draft ≡ None
    → came_with k piece n m a ≡ answered_turn a (k.stream ++ take n piece) n
came_plain k piece n m a idle none =
    let at : Option ℕ → Option Giving → Acted = λ d g. record a { draft = d; pending = g } in
    ap (λ g. came_with k piece n m (at a.draft g)) idle ∙ ap (λ d. came_with k piece n m (at d None)) none

module _ {U B : Type 0} (u : Ghosts U B) (sure : Bool) where
  -- the head isn't whole yet
  pub more_replied : (store : U) (x : code.Answer) (out : List ℕ) (w : World) (conn : Conn) (h bytes : List ℕ)
      (head : HeadBuffer) → u.represents store sure w → InsideHead w conn h → reader w (h ++ bytes) ≡ More
      → (head_bytes head) ≡ h ++ bytes → x ≡ took (length bytes) false
      → TurnedAs u sure store (link_after head 0 false) x out out w conn.draft (came_turn w conn bytes)
  more_replied store x out w conn h bytes head represents inside more head_is answer_is =
      let a : Acted = record { world = w; draft = None; bytes = []; text = []; pending = None; closes = false } in
      let turn : came_turn w conn bytes ≡ answered_turn a (conn.stream ++ bytes) (length bytes) =
      rw (take_all (length bytes) bytes (omega arith)) at (more_turn_is w conn h inside bytes more) in
      subst (λ d. TurnedAs u sure store (link_after head 0 false) x out out w d (came_turn w conn bytes))
      (sym inside.draft)
      (rw turn
      (answered_here u sure store (link_after head 0 false) x out out [] [] w w None head 0 (length bytes) false
      (conn.stream ++ bytes) (InHead (h ++ bytes)) represents (still w None) refl (head_is, refl)
      (head_more_rest (reader w) (is_steady w) conn.stream h inside.rest bytes more) answer_is (sym (append-nil out))))

  -- what the head did is all: the rest of the body is dropped
  pub no_patch_replied : (store' : U) (w : World) (conn : Conn) (h bytes : List ℕ) (n before : ℕ) (v : Verdict)
      (is : CompletesHead w conn h bytes n before v) (link : Option (Link B)) (x : code.Answer) (old new : List ℕ)
      (head : HeadBuffer) (len : ℕ) → len ≡ length (drop before bytes) → u.represents store' sure (acted w v).world
      → Moves w (acted w v).world None None → (acted w v).draft ≡ None → (acted w v).pending ≡ None
      → link ≡ link_after head (body_length v - min (body_length v) len) (acted w v).closes → (head_bytes head) ≡ []
      → x ≡ took (before + min (body_length v) len) (acted w v).closes
      → Appends sure old new (acted w v).bytes (acted w v).text
      → TurnedAs u sure store' link x old new w conn.draft (came_turn w conn bytes)
  no_patch_replied store' w conn h bytes n before v is link x old new head len len_is shown moves none idle link_is
      head_is
      answer_is bytes_are =
      let a = acted w v in
      let left = body_length v - min (body_length v) len in
      let t = head_turn w conn h bytes n before v is in
      let turn = t.turn_is ∙ came_plain conn bytes t.count t.moments a idle none in
      let left_is : RestIs (head_bytes head) left t.rest = rw (head_is, len_is) t.left_is in
      let count : before + min (body_length v) len ≡ t.count = rw len_is (sym t.count_is) in
      subst (λ d. TurnedAs u sure store' link x old new w d (came_turn w conn bytes)) (sym is.inside.draft)
      (rw turn (answered_here u sure store' link x old new a.bytes a.text w a.world None head left t.count a.closes
      (conn.stream ++ take t.count bytes) t.rest shown moves link_is left_is t.rest_is
      (answer_is ∙ ap (λ i. took i a.closes) count) bytes_are))

-- WHAT FOLLOWS FROM READING
pub within_bytes : (x : IndexSet) (h bytes : List ℕ) (n : ℕ) (v : Verdict)
    → Judged n v ≡ answer_of (offers x) (h ++ bytes) → n - length h ≤ length bytes
within_bytes x h bytes n v e =
    omega (arith, simp length-append at ((steady (offers x)).within (h ++ bytes) n v (sym e)))

pub in_world : (w : World) (x : IndexSet) (s : List ℕ) (a : Answer) → x ≡ w.store.indexes
    → a ≡ answer_of (offers x) s → reader w s ≡ a
in_world w x s a same e = rw same at (sym e)

pub is_whole : (w : World) (x : IndexSet) (conn : Conn) (h bytes : List ℕ) (n before : ℕ) (v : Verdict)
    → x ≡ w.store.indexes → Judged n v ≡ answer_of (offers x) (h ++ bytes) → before ≡ n - length h
    → InsideHead w conn h → CompletesHead w conn h bytes n before v
is_whole w x conn h bytes n before v same e before_is inside =
    assumption (in_world w x (h ++ bytes) (Judged n v) same e)

-- the rest of the bytes, as a range of them
pub slice_is : (before : ℕ) (bytes : List ℕ) → take (length bytes - before) (drop before bytes) ≡ drop before bytes
slice_is before bytes = take_all (length bytes - before) (drop before bytes) (simp length-drop (omega arith))

pub slice_rest : (before : ℕ) (bytes : List ℕ) → length (take (length bytes - before) (drop before bytes)) ≡ length
    (drop before bytes)
slice_rest before bytes = ap length (slice_is before bytes)

-- A REQUEST

-- the turn of a text that is left: the call stops at the head's end
abbrev text_turn : List ℕ → Acted → Giving → ℕ → Turn
text_turn s a g n = record {
  world = a.world;
  conn = Some (record { stream = s; draft = None; pending = Some g });
  bytes = a.bytes;
  text = a.text;
  taken = n;
}

came_text : (k : Conn) (piece : List ℕ) (n : ℕ) (m : Moments) (a : Acted) (g : Giving) → a.pending ≡ Some g
    → a.draft ≡ None → a.closes ≡ false
    → came_with k piece n m a
    ≡ text_turn (k.stream ++ take (n - length m.came) piece) a g (n - length m.came)
came_text k piece n m a g some none stays =
    let T : Option Giving → Option ℕ → Bool → Turn = λ p d c.
    came_with k piece n m (record a { pending = p; draft = d; closes = c }) in
    ap (λ p. T p a.draft a.closes) some ∙ (ap (λ d. T (Some g) d a.closes) none ∙ ap (T (Some g) None) stays)

-- without a patch the head alone changes the world
came_world : (k : Conn) (piece : List ℕ) (n : ℕ) (m : Moments) (a : Acted) → a.draft ≡ None
    → (came_with k piece n m a).world ≡ a.world
came_world k piece n m a none = by_pending a.pending refl
  where
    by_pending : (g : Option Giving) → a.pending ≡ g → (came_with k piece n m a).world ≡ a.world
    by_pending None idle = ap (λ t. t.world) (came_plain k piece n m a idle none)
    by_pending (Some g) some = ap (λ p. (came_with k piece n m (record a { pending = p })).world) some

module _ (w : World) (conn : Conn) (h bytes : List ℕ) (n before : ℕ) (r : Request)
    (is : CompletesHead w conn h bytes n before (Asks r)) where
  turn_world : (acted w (Asks r)).draft ≡ None → (came_turn w conn bytes).world ≡ (acted w (Asks r)).world
  turn_world none =
      let t = head_turn w conn h bytes n before (Asks r) is in
      ap (λ x. x.world) t.turn_is ∙ came_world conn bytes t.count t.moments (acted w (Asks r)) none

  -- what a crash may leave where the call ends with the head
  pub head_limits : {m0 m1 : ℕ} {l0 l1 : Option ℕ → ℕ → List Store → Type 0}
      → Limits m0 m1 l0 l1 w.store (acted w (Asks r)).world.store
      → Limits m0 m1 l0 l1 w.store (came_turn w conn bytes).world.store
  head_limits l = elim (leaves w r) [
    | Nothing moves none idle ↦ rw (turn_world none) l
    | Text g same none some stays ↦ rw (turn_world none) l
    | Patching x ↦ still_limits (came_turn w conn bytes).world.store (rw x.world_is at l)
  ]

  text_is : (g : Giving) → (acted w (Asks r)).pending ≡ Some g → (acted w (Asks r)).draft ≡ None
      → (acted w (Asks r)).closes ≡ false
      → came_turn w conn bytes ≡ text_turn (conn.stream ++ take before bytes) (acted w (Asks r)) g before
  text_is g some none stays =
      let t = head_turn w conn h bytes n before (Asks r) is in
      rw t.head_is at (t.turn_is ∙ came_text conn bytes t.count t.moments (acted w (Asks r)) g some none stays)

  -- what is left of the stream at the head's end
  head_end : (head : List ℕ) → head ≡ []
      → (rest : Rest) × ((cut (reader w) (conn.stream ++ take before bytes)).rest ≡ rest) × RestIs head r.length rest
  head_end head cleared =
      let z : before + 0 ≡ before = omega arith in
      let q = take before bytes in
      let judged = rw z at (verdict_is w conn h bytes n before (Asks r) is 0) in
      let none : length (drop n (h ++ q)) ≡ 0 =
      ap length (rw z at (prefix_is w conn h bytes n before (Asks r) is 0)) in
      elim (cases_lt 0 r.length) [
        | inl some ↦ (
          InBody (judged_as (h ++ q) n (Asks r)),
          head_part_rest (reader w) (is_steady w) conn.stream h is.inside.rest q n (Asks r) judged (omega arith),
          (cleared, omega arith),
        )
        | inr nothing_wanted ↦ (
          InHead [],
          head_whole_rest (reader w) (is_steady w) conn.stream h is.inside.rest q n (Asks r) judged (omega arith),
          (cleared, omega arith),
        )
      ]

  module _ {U B : Type 0} (u : Ghosts U B) (sure : Bool) where
    pub nothing_replied : (store' : U) (link : Option (Link B)) (x : code.Answer) (closes : Bool) (old new : List ℕ)
        (head : HeadBuffer) (len : ℕ) → ActedAs u sure store' (Done.Replied closes) old new (acted w (Asks r))
        → len ≡ length (drop before bytes) → link ≡ link_after head (r.length - min r.length len) closes
        → (head_bytes head) ≡ [] → x ≡ took (before + min r.length len) closes
        → TurnedAs u sure store' link x old new w conn.draft (came_turn w conn bytes)
    nothing_replied store' link x closes old new head len as_is len_is link_is cleared answer_is = elim (leaves w r) [
      | Nothing moves none idle ↦
          no_patch_replied u sure store' w conn h bytes n before (Asks r) is link x old new head len len_is
          as_is.represents
          moves none idle (rw as_is.closes at link_is) cleared (rw as_is.closes at answer_is) as_is.bytes
      | Text g same none some stays ↦ absurd (rw some at as_is.giving)
      | Patching y ↦ absurd (rw y.draft_is at as_is.draft)
    ]

    abbrev text_link : HeadBuffer → given.Giving → Option (Link B)
    text_link head g = Some (record { head = head; awaiting = awaits.Text g r.length })

    abbrev text_answer : code.Answer
    text_answer = record { taken = before; closes = false; more = true }

    pub text_recorded : (store' : U) (g : given.Giving) (old new : List ℕ) (head : HeadBuffer)
        → ActedAs u sure store' (Done.Giving g) old new (acted w (Asks r)) → (head_bytes head) ≡ []
        → TurnedAs u sure store' (text_link head g) text_answer old new w conn.draft (came_turn w conn bytes)
    text_recorded store' g old new head as_is cleared = elim (leaves w r) [
      | Nothing moves none idle ↦ absurd (rw idle at as_is.giving)
      | Patching y ↦ absurd (rw y.idle at as_is.giving)
      | Text h' same none some stays ↦
          let a = acted w (Asks r) in
          let s' = conn.stream ++ take before bytes in
          let ends = head_end (head_bytes head) cleared in
          let gives : GivingIs a.world.store (Some g) (Some h') = rw some at as_is.giving in
          let here : IsGivingText a.world (record { stream = s'; draft = None; pending = Some h' }) (head_bytes head) g
          r.length = record {
            h = h';
            rest = rw (rest_same w a.world s' (ap (λ x. x.store.indexes) same), ends.1) ends.2;
            draft = refl;
            pending = refl;
            gives = gives;
          } in
          let moves : Moves w a.world None None = rw same (still w None) in
          subst (λ d. TurnedAs u sure store' (text_link head g) text_answer old new w d (came_turn w conn bytes))
          (sym is.inside.draft)
          (rw (text_is h' some none stays) (assumption (as_is.represents, here, moves, as_is.bytes)))
    ]

-- A PATCH THAT A HEAD OPENED

-- what the head of a patch did
abbrev opened : World → ℕ → Patch → List ℕ → Acted
opened w d p reply = record {
  world = with_patch w d p;
  draft = Some d;
  bytes = reply;
  text = [];
  pending = None;
  closes = false;
}

-- the request of a patch whose head is whole
abbrev asked_by : List ℕ → Request → Asked
asked_by head r = record { head = head; verdict = Asks r; body = [] }

-- a patch that a head opened: the history's, and the code's
pub record Begun {U B : Type 0} (u : Ghosts U B) (sure : Bool) (w : World) (r : Request) (head : List ℕ)
    (b : OpenPatch B) (store : U) (old mid : List ℕ) : Type 0 where
  pub p : Patch
  pub act_is : acted w (Asks r) ≡ opened w (u.number_of b.draft) p (acted w (Asks r)).bytes
  pub free : find (u.number_of b.draft) w.patches ≡ None
  pub patches : PatchesAs u (with_patch w (u.number_of b.draft) p) b (asked_by head r) r p
  pub wanted : length p.body + r.length ≡ p.count
  pub shown : u.represents store sure (with_patch w (u.number_of b.draft) p)
  pub written : mid ≡ old ++ (acted w (Asks r)).bytes

first_found : (d : ℕ) (p : Patch) (patches : List (ℕ × Patch)) → find d ((d, p) ∷ patches) ≡ Some p
first_found d p patches = grind (arith, nat_tests)

pub begun : {U B : Type 0} (u : Ghosts U B) (sure : Bool) (w : World) (r : Request) (head : List ℕ) (store : U)
    (old mid : List ℕ) (b : OpenPatch B)
    → ActedAs u sure store (Done.Opened b.draft) old mid (acted w (Asks r)) → ReachedIs r.action r.length b.reached
    → b.bare ≡ r.bare → b.closes ≡ r.closes
    → ((number : ℕ) (up : Upload) → upload_of w.store number ≡ Some up → number < w.store.next)
    → Begun u sure w r head b store old mid
begun u sure w r head store old mid b done reached bare closes below = elim (leaves w r) [
  | Nothing moves none idle ↦ absurd (rw none at done.draft)
  | Text g same none some stays ↦ absurd (rw none at done.draft)
  | Patching x ↦
      let a = acted w (Asks r) in
      let own = u.number_of b.draft in
      let p = first_patch x.number r.length x.declare x.up in
      let T : World → Option ℕ → List ℕ → Option Giving → Bool → Acted = λ v d t p c.
      record { world = v; draft = d; bytes = a.bytes; text = t; pending = p; closes = c } in
      let act_is : T a.world a.draft a.text a.pending a.closes ≡ opened w x.d p a.bytes =
      rw (x.world_is, x.draft_is, x.no_text, x.idle, x.stays) in
      let draft : DraftIs u (with_patch w x.d p) (Some b.draft) (Some x.d) =
      rw (x.world_is, x.draft_is) at done.draft in
      let same = same_Some draft.1.0 p (sym draft.1.1 ∙ first_found x.d p w.patches) in
      let whole : b.reached ≡ x.offset + r.length = rw x.action_is at reached in
      record {
        p = p;
        act_is = rw draft.0 act_is;
        free = rw draft.0 x.free;
        patches = record {
          found = first_found own p w.patches;
          holds = rw same at draft.1.2;
          asks = refl;
          count = refl;
          body = refl;
          reached = omega (arith, x.length_is, whole);
          fits = omega (arith, x.length_is, x.fits);
          below = below x.number x.up x.there;
          grown = rw x.there (None, [], patched_nothing x.up);
          bare = bare;
          closes = closes;
        };
        wanted = omega arith;
        shown = rw draft.0 (rw x.world_is at done.represents);
        written = rw x.no_text at done.bytes;
      }
]

module _ {U B : Type 0} (u : Ghosts U B) (sure : Bool) (w : World) (conn : Conn) (h bytes : List ℕ) (n before : ℕ)
    (r : Request) (is : CompletesHead w conn h bytes n before (Asks r)) (b : OpenPatch B) (store : U) (old mid : List ℕ)
    (begins : Begun u sure w r (take n (h ++ bytes)) b store old mid) where
  abbrev own : ℕ
  own = u.number_of b.draft

  abbrev v : World
  v = with_patch w own begins.p

  abbrev q : List ℕ
  q = drop before bytes

  abbrev reply : List ℕ
  reply = (acted w (Asks r)).bytes

  part_is : length q < r.length
      → came_turn w conn bytes ≡ goes_on (fed v own q) own (conn.stream ++ bytes) (reply ++ []) (length bytes)
  part_is few =
      let turn = part_turn_is w conn h bytes n before (Asks r) is few in
      rw (turn, begins.act_is, take_all (length bytes) bytes (omega arith))

  abbrev ended : Acted
  ended = ended_by v own begins.p (take r.length q) r

  rest_is : r.length ≤ length q → came_turn w conn bytes
      ≡ answers ended.world ended.closes (conn.stream ++ take (before + r.length) bytes) (reply ++ ended.bytes) []
      (before + r.length)
  rest_is enough =
      let turn = whole_turn_is w conn h bytes n before (Asks r) is enough in
      rw (turn, begins.act_is, fed_found v own begins.p (take r.length q) begins.patches.found)

  dropped_first : dropped v own ≡ w
  dropped_first = ap (λ ps. record w { patches = ps }) (without_first own begins.p w.patches)

  module _ (store' : U) (mid2 new : List ℕ) (head : HeadBuffer) (cleared : (head_bytes head) ≡ []) (start : ℕ)
      (start_is : start ≡ length old) where
    taken_back : mid2 ≡ mid → new ≡ take start mid2 → new ≡ old
    taken_back same cut_is =
        rw (start_is, same, begins.written, take-append_seam old reply) at cut_is

    part_case : (a : Result (Option (Link B) × code.Answer) Stop) → length q < r.length
        → Parts u sure store' a head b (r.length - length q) (before + length q) (fed v own q)
        (fed_patch v own begins.p q)
        (dropped v own) × (mid2 ≡ mid) → BackTo a start mid2 new
        → Turned u sure store' a old new w None (came_turn w conn bytes)
    part_case (Ok (link, a)) few ((b', goes), same) out =
        let at = within w conn h bytes n before (Asks r) is in
        let l = length-drop before bytes in
        let body = body_is w conn h bytes n before (Asks r) is in
        let lb : length (drop n (h ++ bytes)) ≡ length q = ap length body in
        let here = rw body at (head_part_rest (reader w) (is_steady w) conn.stream h is.inside.rest bytes n (Asks r)
        is.judged (omega arith)) in
        rw (part_is few)
        (part_here u sure v b (asked_by (take n (h ++ bytes)) r) r begins.p begins.patches store' link a head b'
        (r.length - length q) (before + length q)
        (length bytes) q (conn.stream ++ bytes) old new (reply ++ []) w None (omega arith) goes
        (open_moves w own begins.p begins.free) cleared (omega arith) refl here
        (rw (append-nil reply) (out ∙ (same ∙ begins.written))))
    part_case (Err stops.NoMemory) few (shown, same) out = (rw dropped_first at shown, taken_back same out)
    part_case (Err stops.DiskFault) few (z, same) out = taken_back same out

    rest_case : (a : Result (Option (Link B) × code.Answer) Stop) → r.length ≤ length q
        → Replies u sure store' a mid mid2 head (before + r.length) ended
        (dropped v own) → BackTo a start mid2 new → Turned u sure store' a old new w None (came_turn w conn bytes)
    rest_case (Ok (link, a)) enough answered out =
        let m = ended in
        let all = ap length (prefix_is w conn h bytes n before (Asks r) is r.length)
        ∙ length-take-le r.length q enough in
        let ends = head_whole_rest (reader w) (is_steady w) conn.stream h is.inside.rest
        (take (before + r.length) bytes) n (Asks r) (verdict_is w conn h bytes n before (Asks r) is r.length) all in
        let moves = both_moves w v m.world None (Some own) None (open_moves w own begins.p begins.free)
        (rest_moves u sure v b (asked_by (take n (h ++ bytes)) r) r begins.p begins.patches (take r.length q)) in
        let bytes_are : new ≡ old ++ (reply ++ m.bytes) =
        out ∙ (answered.bytes ∙ (ap (λ z. z ++ m.bytes) begins.written ∙ append_assoc old reply m.bytes)) in
        rw (rest_is enough)
        (answered_here u sure store' link a old new (reply ++ m.bytes) [] w m.world None head 0 (before + r.length)
        m.closes (conn.stream ++ take (before + r.length) bytes) (InHead []) answered.shown moves answered.link_is
        (cleared, refl) ends answered.answer_is bytes_are)
    rest_case (Err stops.NoMemory) enough (shown, same) out = (rw dropped_first at shown, taken_back same out)
    rest_case (Err stops.DiskFault) enough same out = taken_back same out

    pub patch_opened : (a : Result (Option (Link B) × code.Answer) Stop) (z : List ℕ) → z ≡ q
        → Bodied u sure store' a mid mid2 head b r.length before v begins.p z r → BackTo a start mid2 new
        → Turned u sure store' a old new w conn.draft (came_turn w conn bytes)
    patch_opened a z e is_z out =
        let bodied = rw e at is_z in
        subst (λ d. Turned u sure store' a old new w d (came_turn w conn bytes)) (sym is.inside.draft)
        (elim (cases_lt (length q) r.length) [
          | inl few ↦ part_case a few (bodied.part few) out
          | inr enough ↦ rest_case a enough (bodied.rest enough) out
        ])

  -- what a crash may leave
  pub patch_limits : {m0 m1 m2 : ℕ} {l0 l1 l2 : Option ℕ → ℕ → List Store → Type 0} (z : List ℕ) → z ≡ q
      → Limits m0 m1 l0 l1 w.store (acted w (Asks r)).world.store
      → (length z < r.length → Limits m1 m2 l1 l2 w.store w.store)
      → (r.length ≤ length z → Limits m1 m2 l1 l2 w.store (ended_by v own begins.p (take r.length z) r).world.store)
      → Limits m0 m2 l0 l2 w.store (came_turn w conn bytes).world.store
  patch_limits z e head part rest =
      let first = rw begins.act_is at head in
      elim (cases_lt (length q) r.length) [
        | inl few ↦ still_limits (came_turn w conn bytes).world.store (first_then first ((rw e at part) few))
        | inr enough ↦
            first_then first (limits_to (ap (λ t. t.world.store) (sym (rest_is enough))) ((rw e at rest) enough))
      ]
