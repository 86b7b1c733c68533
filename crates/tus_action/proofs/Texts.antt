-- The first piece of a text after the reply's head.
use Rattle.std.proofs.Common.{◌≡◌, ◌<◌, arith, ℕ, Bool, false, List, [], ◌++◌, length, take, drop, Option, Some, None}
use Rattle.std.proofs.Common.{Ok, Err, refl, sym, subst, ap, ◌∙◌, if◌then◌else◌, append_assoc, append-nil, true}
use Rattle.std.proofs.lemmas.List.{take_all}
use Rattle.std.proofs.lemmas.Option.{same_Some}
use Rattle.upload_rules.specs.Store.{Store, Upload, upload_of, text_of}
use Rattle.upload_rules.specs.World.{World}
use Rattle.upload_rules.specs.Records.{Represents, RepresentsOf, with_number}
use Rattle.upload_rules.specs.declared.records.Record.{Record}
use Rattle.upload_rules.specs.declared.uploads.Uploads.{Ghosts}
use Rattle.tus_request.specs.Requests.{Request}
use Rattle.tus_request.specs.Replies.{reply_text}
use Rattle.tus_action.specs.Acts.{Acted, Giving, pending_of, pending_after, is_pending, get}
use Rattle.tus_action.specs.declared.reads.TheConstants.{PIECE}
use Rattle.tus_action.specs.Serves.{Appends, GivesAs, IsGiving, GivingIs, DraftIs, ActedAs, Serves}
use Rattle.tus_action.specs.Serves.{GivesMore, IsGiven, left_of, replied_giving}
use Rattle.tus_action.proofs.Pieces.{appends, left_is_given}
use Rattle.tus_action.specs.Serves.{draft_in, giving_in, closes_in}
use Rattle.tus_action.specs.declared.acts.Done.TheVariants as done
use Rattle.tus_action.specs.declared.acts.Giving as given
use Rattle.tus_action.specs.declared.acts.Given.{Given}
use Rattle.common.specs.declared.stop.Stop.{Stop}
use Rattle.common.specs.declared.stop.Stop.TheVariants as Stops
use Rattle.tus_action.proofs.Answered.{taken_back}

-- a text of which nothing was given
abbrev pub at_start : ℕ → ℕ → Bool → given.Giving
at_start n l closes = record { number = n; length = l; given = 0; closes = closes }

abbrev pub whole_text : ℕ → List ℕ → Bool → Giving
whole_text n text closes = record { number = n; left = text; closes = closes }

starts_as : (m : Store) (n : ℕ) (rec : Record) (up : Upload) (closes : Bool) → upload_of m n ≡ Some up
    → Represents m.indexes n rec up
    → GivesAs m (at_start n rec.text_len closes) (whole_text n (text_of m.indexes up) closes) up
starts_as m n rec up closes found is_record =
    let text : List ℕ = text_of m.indexes up in
    let size : rec.text_len ≡ length text = is_record.text_len in
    let all : take rec.text_len text ≡ text = take_all rec.text_len text (omega arith) in
    record { number = refl; found = found; some = omega arith; within = omega arith; left = sym all; closes = refl }

-- the text of an upload, with nothing given
pub starts : (m : Store) (n : ℕ) (rec : Record) (up : Upload) (closes : Bool) → n < m.next → upload_of m n ≡ Some up
    → Represents m.indexes n rec up
    → IsGiving m (at_start n rec.text_len closes) (whole_text n (text_of m.indexes up) closes)
starts m n rec up closes below found is_record = record {
  number = refl;
  below = below;
  closes = refl;
  there = λ v is. subst (λ w. GivesAs m (at_start n rec.text_len closes) (whole_text n (text_of m.indexes up) closes) w)
      (same_Some up v (sym found ∙ is)) (starts_as m n rec up closes found is_record);
}

given_closes : (B : Type 0) (m : Store) (left : Option given.Giving) (p : Option Giving) (closes : Bool)
    → GivingIs m left p
    → closes_in (replied_giving {B = B} left closes) ≡ (if is_pending p then false else closes)
given_closes B m None None closes is = refl
given_closes B m (Some g) (Some h) closes is = refl
given_closes B m None (Some h) closes is = absurd is
given_closes B m (Some g) None closes is = absurd is

given_is : (B : Type 0) (m : Store) (left : Option given.Giving) (p : Option Giving) (closes : Bool) → GivingIs m left p
    → GivingIs m (giving_in (replied_giving {B = B} left closes)) p
given_is B m None None closes is = is
given_is B m (Some g) (Some h) closes is = is
given_is B m None (Some h) closes is = absurd is
given_is B m (Some g) None closes is = absurd is

no_draft : {U B : Type 0} (u : Ghosts U B) (w : World) (left : Option given.Giving) (closes : Bool)
    → DraftIs u w (draft_in (replied_giving {B = B} left closes)) None
no_draft u w None closes = tt {0}
no_draft u w (Some g) closes = tt {0}

-- the reply's head and the first piece
pub get_acts : {U B : Type 0} {sure : Bool} (u : Ghosts U B) (store : U) (w : World) (r : Request) (n : ℕ)
    (rec : Record) (gave : Given) (old mid new : List ℕ) (o : Option Upload)
    → ((v : Upload) → upload_of w.store n ≡ Some v → n < w.store.next) → upload_of w.store n ≡ o
    → RepresentsOf w.store.indexes (with_number n o) (Some rec) → r.bare ≡ false
    → mid ≡ old ++ reply_text rec.to rec.text_len false r.closes
    → ((h : Giving) → IsGiving w.store (at_start n rec.text_len r.closes) h
    → GivesMore u sure store (Ok gave) mid new w h)
    → ActedAs u sure store (replied_giving (left_of gave) r.closes) old new (get w r n o)
get_acts u store w r n rec gave old mid new None below e is_record bare head gives = absurd is_record
get_acts {B = B} {sure = sure} u store w r n rec gave old mid new (Some up) below e is_record bare head gives =
    let text : List ℕ = text_of w.store.indexes up in
    let h : Giving = whole_text n text r.closes in
    let g = gives h (starts w.store n rec up r.closes (below up e) e is_record) in
    let here = left_is_given w.store gave mid new h up (subst (IsGiven sure w.store gave mid new h) e g.1) in
    let pend : pending_after h ≡ pending_of n (if r.bare then [] else drop PIECE text) r.closes =
    ap (λ b. pending_of n (if b then [] else drop PIECE text) r.closes) (sym bare) in
    let is : GivingIs w.store (left_of gave) (pending_of n (if r.bare then [] else drop PIECE text) r.closes) =
    subst (λ p. GivingIs w.store (left_of gave) p) pend here.0 in
    let reply : reply_text rec.to rec.text_len false r.closes ≡ reply_text up.to (length text) false r.closes =
    ap (λ t. reply_text t rec.text_len false r.closes) is_record.to ∙ ap (λ l. reply_text up.to l false r.closes)
    is_record.text_len in
    let piece : List ℕ = here.1.0 in
    let bytes : new ≡ old ++ (reply_text up.to (length text) false r.closes ++ piece) =
    here.1.1 ∙ (ap (λ x. x ++ piece) (head ∙ ap (λ x. old ++ x) reply)
    ∙ append_assoc old (reply_text up.to (length text) false r.closes) piece) in
    let given : Appends sure old new (reply_text up.to (length text) false r.closes ++ take PIECE text)
    (take PIECE text) =
    appends old new (reply_text up.to (length text) false r.closes ++ take PIECE text) (take PIECE text)
    (record {
      reply = reply_text up.to (length text) false r.closes;
      piece = piece;
      parts = refl;
      appended = bytes;
      are = here.1.2;
    }) in
    record {
      represents = g.0;
      draft = no_draft u w (left_of gave) r.closes;
      giving = given_is B w.store (left_of gave) _ r.closes is;
      closes = given_closes B w.store (left_of gave) _ r.closes is;
      bytes = subst (λ (b : Bool). Appends sure old new
          (reply_text up.to (length text) b r.closes ++ (if b then [] else take PIECE text))
          (if b then [] else take PIECE text)) (sym bare) given;
    }

-- the first piece wasn't given: the head is taken back
pub get_stops : {U B : Type 0} (u : Ghosts U B) (sure : Bool) (store : U) (w : World) (closes : Bool) (n : ℕ)
    (rec : Record) (stop : Stop) (old more mid out new : List ℕ) (k : ℕ) (m : Acted) (o : Option Upload)
    → ((v : Upload) → upload_of w.store n ≡ Some v → n < w.store.next) → upload_of w.store n ≡ o
    → RepresentsOf w.store.indexes (with_number n o) (Some rec) → mid ≡ old ++ more → k ≡ length old → new ≡ take k out
    → ((h : Giving) → IsGiving w.store (at_start n rec.text_len closes) h
    → GivesMore u sure store (Err stop) mid out w h)
    → Serves {B = B} u sure store (Err stop) old new w m
get_stops u sure store w closes n rec stop old more mid out new k m None below e is_record head size cut gives = absurd
    is_record
get_stops u sure store w closes n rec Stops.NoMemory old more mid out new k m (Some up) below e is_record head size cut
    gives =
    let g = gives (whole_text n (text_of w.store.indexes up) closes)
    (starts w.store n rec up closes (below up e) e is_record) in
    (g.1, taken_back old more new k size (cut ∙ ap (take k) (g.2 ∙ head)))
get_stops u sure store w closes n rec Stops.DiskFault old more mid out new k m (Some up) below e is_record head size cut
    gives =
    let g = gives (whole_text n (text_of w.store.indexes up) closes)
    (starts w.store n rec up closes (below up e) e is_record) in
    taken_back old more new k size (cut ∙ ap (take k) (g.1 ∙ head))

-- the same with the flags that the code was given
pub get_acts_as : {U B : Type 0} {sure : Bool} (u : Ghosts U B) (store : U) (w : World) (r : Request) (n : ℕ)
    (rec : Record) (gave : Given) (old mid new : List ℕ) (bare closes : Bool) (o : Option Upload)
    → ((v : Upload) → upload_of w.store n ≡ Some v → n < w.store.next) → upload_of w.store n ≡ o
    → RepresentsOf w.store.indexes (with_number n o) (Some rec) → bare ≡ r.bare → bare ≡ false → closes ≡ r.closes
    → mid ≡ old ++ reply_text rec.to rec.text_len bare closes
    → ((h : Giving) → IsGiving w.store (at_start n rec.text_len closes) h
    → GivesMore u sure store (Ok gave) mid new w h)
    → ActedAs u sure store (replied_giving (left_of gave) closes) old new (get w r n o)
get_acts_as {sure = sure} u store w r n rec gave old mid new bare closes o below e is_record bare_is not_bare closes_is
    head gives =
    subst (λ c. ActedAs u sure store (replied_giving (left_of gave) c) old new (get w r n o)) (sym closes_is)
    (get_acts u store w r n rec gave old mid new o below e is_record (sym bare_is ∙ not_bare)
    (head ∙ (ap (λ b. old ++ reply_text rec.to rec.text_len b closes) not_bare
    ∙ ap (λ c. old ++ reply_text rec.to rec.text_len false c) closes_is))
    (λ h is. gives h (subst (λ c. IsGiving w.store (at_start n rec.text_len c) h) (sym closes_is) is)))

abbrev q_of : Request → Bool → Bool → Request
q_of r bare closes = record r { bare = bare; closes = closes }

-- the reply's head alone
pub get_bare : {U B : Type 0} (u : Ghosts U B) (sure : Bool) (store : U) (w : World) (r : Request) (n : ℕ)
    (rec : Record) (old new : List ℕ) (bare closes : Bool) (o : Option Upload)
    → RepresentsOf w.store.indexes (with_number n o) (Some rec) → bare ≡ r.bare → bare ≡ true → closes ≡ r.closes
    → new ≡ old ++ reply_text rec.to rec.text_len bare closes → u.represents store sure w
    → ActedAs u sure store (done.Replied closes) old new (get w r n o)
get_bare u sure store w r n rec old new bare closes None is_record bare_is is_bare closes_is head represents = absurd
    is_record
get_bare {B = B} u sure store w r n rec old new bare closes (Some up) is_record bare_is is_bare closes_is head
    represents =
    let text : List ℕ = text_of w.store.indexes up in
    let bytes : new ≡ old ++ (reply_text up.to (length text) bare closes ++ []) =
    head ∙ ap (λ t. old ++ reply_text t rec.text_len bare closes) is_record.to
    ∙ ap (λ l. old ++ reply_text up.to l bare closes) is_record.text_len
    ∙ ap (λ x. old ++ x) (sym (append-nil (reply_text up.to (length text) bare closes))) in
    subst (λ (q : Request). ActedAs u sure store (done.Replied closes) old new (get w q n (Some up)))
    (same r bare closes bare_is closes_is)
    (by_bare bare is_bare bytes)
  where
    same : (r : Request) (bare closes : Bool) → bare ≡ r.bare → closes ≡ r.closes → q_of r bare closes ≡ r
    same r bare closes e f = ap (λ b. record r { bare = b; closes = closes }) e ∙ ap (λ b. record r { closes = b }) f

    by_bare : (b : Bool) → b ≡ true → new ≡ old ++
        (reply_text up.to (length (text_of w.store.indexes up)) b closes ++ [])
        → ActedAs u sure store (done.Replied closes) old new (get w (q_of r b closes) n (Some up))
    by_bare true is bytes = record {
      represents = represents;
      draft = tt {0};
      giving = tt {0};
      closes = refl;
      bytes =
          bytes;
    }
    by_bare false is bytes = absurd cc
