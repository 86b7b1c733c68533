-- A stream stays the one that was accepted.
use Rattle.std.proofs.Common.{◌≡◌, ◌<◌, ℕ, List, [], ◌++◌, Option, length, set, get_or, sym, ◌∙◌, ap}
use Rattle.std.proofs.lemmas.List.{get_or_default}
use Rattle.std.specs.Io.KnownBytes.{Consumes, Appends, Keeps}
use Rattle.gateway_serve.specs.declared.sockets.Seen.{Seen}
use Rattle.std.specs.declared.io.ErrorKind.{ErrorKind}
use Rattle.std.specs.declared.time.Duration.{Duration}
use Rattle.gateway_serve.specs.Bytes.{bytes_come, went_of, stream_of, latest_of, spell_of}
use Rattle.gateway_serve.specs.Gone.{opened_at, moved_at}
use Rattle.gateway_serve.specs.declared.sockets.Spell.{Spell}
use Rattle.gateway_serve.specs.Joined.{Joint, joint_of, nothing_yet}
use Rattle.gateway_serve.specs.Streams.{Carried, untouched, read, not_read, written, not_written}
use Rattle.gateway_serve.specs.Streams.{IsOf, StaysOf, PlaceIsOf, PlaceHas, PlacePreserves, AllHave, AllPreserve}
use Rattle.gateway_serve.specs.declared.sockets.Latest.{Latest}
use Rattle.gateway_serve.specs.declared.sockets.Latest.TheVariants as Was
use Rattle.gateway_serve.specs.declared.sockets.Socket.{Socket}
use Rattle.gateway_serve.specs.declared.links.Link.{Link}
use Rattle.gateway_serve.specs.declared.places.Place.{Place}
use Rattle.gateway_serve.specs.declared.places.Place.TheVariants.{Free, Open}
use Rattle.gateway_serve.proofs.All.{set_all}

module _ {S : Type 0} (remaining contents : S → Option (List ℕ)) where
  -- A SOCKET
  carried_by : (accepted s : S) (came came' went went' : List ℕ) (last last' : Latest) (spell spell' : Spell)
      → came' ≡ came → went' ≡ went → last' ≡ last → spell' ≡ spell
      → Carried remaining contents accepted s came went last spell
      → Carried remaining contents accepted s came' went' last' spell'
  carried_by accepted s came came' went went' last last' spell spell' e f h i k = rw (e, f, h, i) k

  pub read_stays : (old new : Socket S) (bytes : List ℕ) (n room : ℕ) (now : Duration)
      → bytes_come new ≡ bytes_come old ++ bytes → went_of new ≡ went_of old → latest_of new ≡ Was.Read n room
      → spell_of new ≡ moved_at now (spell_of old) → length bytes ≡ n
      → Consumes (remaining (stream_of old)) (remaining (stream_of new)) bytes
      → StaysOf remaining contents old new
  read_stays old new bytes n room now e f last spell count does = λ accepted k.
      carried_by accepted (stream_of new) (bytes_come old ++ bytes) (bytes_come new) (went_of old) (went_of new)
      (Was.Read (length bytes) room) (latest_of new) (moved_at now (spell_of old)) (spell_of new) e f
      (last ∙ ap (λ k. Was.Read k room) (sym count)) spell
      (read (stream_of old) (stream_of new) (bytes_come old) (went_of old) bytes room (latest_of old) (spell_of old)
      now k does)

  pub not_read_stays : (old new : Socket S) (kind : ErrorKind) → bytes_come new ≡ bytes_come old
      → went_of new ≡ went_of old → latest_of new ≡ Was.Failed kind → spell_of new ≡ spell_of old
      → Keeps (remaining (stream_of old)) (remaining (stream_of new))
      → StaysOf remaining contents old new
  not_read_stays old new kind e f last spell does = λ accepted k.
      carried_by accepted (stream_of new) (bytes_come old) (bytes_come new) (went_of old) (went_of new)
      (Was.Failed kind) (latest_of new) (spell_of old) (spell_of new) e f last spell
      (not_read (stream_of old) (stream_of new) (bytes_come old) (went_of old) (latest_of old) (spell_of old) kind k
      does)

  pub written_stays : (old new : Socket S) (bytes : List ℕ) (n offered : ℕ) (now : Duration)
      → bytes_come new ≡ bytes_come old → went_of new ≡ went_of old ++ bytes → latest_of new ≡ Was.Written n offered
      → spell_of new ≡ moved_at now (spell_of old) → length bytes ≡ n
      → Appends (contents (stream_of old)) (contents (stream_of new)) bytes
      → StaysOf remaining contents old new
  written_stays old new bytes n offered now e f last spell count does = λ accepted k.
      carried_by accepted (stream_of new) (bytes_come old) (bytes_come new) (went_of old ++ bytes) (went_of new)
      (Was.Written (length bytes) offered) (latest_of new) (moved_at now (spell_of old)) (spell_of new) e f
      (last ∙ ap (λ k. Was.Written k offered) (sym count)) spell
      (written (stream_of old) (stream_of new) (bytes_come old) (went_of old) bytes offered (latest_of old)
      (spell_of old) now k does)

  pub not_written_stays : (old new : Socket S) (kind : ErrorKind) → bytes_come new ≡ bytes_come old
      → went_of new ≡ went_of old → latest_of new ≡ Was.Failed kind → spell_of new ≡ spell_of old
      → Keeps (contents (stream_of old)) (contents (stream_of new))
      → StaysOf remaining contents old new
  not_written_stays old new kind e f last spell does = λ accepted k.
      carried_by accepted (stream_of new) (bytes_come old) (bytes_come new) (went_of old) (went_of new)
      (Was.Failed kind) (latest_of new) (spell_of old) (spell_of new) e f last spell
      (not_written (stream_of old) (stream_of new) (bytes_come old) (went_of old) (latest_of old) (spell_of old) kind k
      does)

  -- A PLACE
  pub new_is_of : (accepted : S) (l : Link S) (now : Duration) → stream_of l.socket ≡ accepted
      → latest_of l.socket ≡ Was.None → spell_of l.socket ≡ opened_at now → joint_of l ≡ nothing_yet
      → IsOf remaining contents accepted l.socket
  new_is_of accepted l now is last spell new =
      carried_by accepted (stream_of l.socket) [] (bytes_come l.socket) [] (went_of l.socket) Was.None
      (latest_of l.socket) (opened_at now) (spell_of l.socket) (ap (λ (j : Joint). j.came) new)
      (ap (λ (j : Joint). j.went) new) last spell (rw is (untouched now))

  -- ALL PLACES
  module _ (times : List Duration) where
    pub is_of_has : (accepted : S) (p : Place S) → PlaceIsOf remaining contents times accepted p
        → PlaceHas remaining contents times p
    is_of_has accepted Free is = absurd is
    is_of_has accepted (Open l) is = (accepted, is.0, is.1)

    pub set_has : (places : List (Place S)) (n : ℕ) (p' : Place S) → n < length places
        → PlaceHas remaining contents times p'
        → AllHave remaining contents times places → AllHave remaining contents times (set places n p')
    set_has places n p' inside here all =
        set_all (λ p k. PlaceHas remaining contents times p) places n p' inside here (λ k ne. all k)

    pub among_preserve : (first places : List (Place S)) (n : ℕ) (d p' : Place S) (was ended ended' : List Seen)
        → AllPreserve remaining contents times first places was ended → n < length places
        → PlacePreserves remaining contents times (get_or places n d) p' ended ended'
        → AllPreserve remaining contents times first (set places n p') was ended'
    among_preserve first places n d p' was ended ended' keep inside after_is = λ have had.
        let s = keep have had in
        let now = after_is (rw (get_or_default places n Free d inside) at (s.0 n)) s.1 in
        (set_has places n p' inside now.0 s.0, now.1)
