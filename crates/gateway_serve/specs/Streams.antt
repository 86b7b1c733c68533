-- What was done with a stream since it was accepted.
use Rattle.std.specs.Prelude.{ℕ, List, [], ◌∷◌, ◌++◌, length, Option, get_or}
use Rattle.std.specs.Io.KnownBytes.{Consumes, Appends, Keeps}
use Rattle.gateway_serve.specs.declared.sockets.Seen.{Seen}
use Rattle.std.specs.declared.io.ErrorKind.{ErrorKind}
use Rattle.std.specs.declared.time.Duration.{Duration}
use Rattle.gateway_serve.specs.Bytes.{bytes_come, went_of, stream_of, latest_of, spell_of}
use Rattle.gateway_serve.specs.Gone.{IsTimed, opened_at, moved_at}
use Rattle.gateway_serve.specs.Times.{IsLinkTimed}
use Rattle.gateway_serve.specs.declared.sockets.Spell.{Spell}
use Rattle.gateway_serve.specs.declared.sockets.Latest.{Latest}
use Rattle.gateway_serve.specs.declared.sockets.Latest.TheVariants as Was
use Rattle.gateway_serve.specs.declared.sockets.Socket.{Socket}
use Rattle.gateway_serve.specs.declared.links.Link.{Link}
use Rattle.gateway_serve.specs.declared.places.Place.{Place}
use Rattle.gateway_serve.specs.declared.places.Place.TheVariants.{Free, Open}

-- THE STREAM was accepted so, and is so now. Since then it was read and written and nothing else: the reads gave all
-- these bytes, and the writes took all those, each in order. What it has left and what it holds are as it gives them.
-- The latest of these calls answered so: it gave or took so many bytes of so many, or failed. It was opened then, and
-- something last came or went then
pub data Carried {S : Type 0} (remaining contents : S → Option (List ℕ)) (accepted : S)
    : S → List ℕ → List ℕ → Latest → Spell → Type 0 where
  untouched : (now : Duration) → Carried remaining contents accepted accepted [] [] Was.None (opened_at now)
  read : (s s' : S) (came went bytes : List ℕ) (room : ℕ) (before : Latest) (spell : Spell) (now : Duration)
      → Carried remaining contents accepted s came went before spell
      → Consumes (remaining s) (remaining s') bytes
      → Carried remaining contents accepted s' (came ++ bytes) went (Was.Read (length bytes) room) (moved_at now spell)
  not_read : (s s' : S) (came went : List ℕ) (before : Latest) (spell : Spell) (kind : ErrorKind)
      → Carried remaining contents accepted s came went before spell → Keeps (remaining s) (remaining s')
      → Carried remaining contents accepted s' came went (Was.Failed kind) spell
  written : (s s' : S) (came went bytes : List ℕ) (offered : ℕ) (before : Latest) (spell : Spell) (now : Duration)
      → Carried remaining contents accepted s came went before spell → Appends (contents s) (contents s') bytes
      → Carried remaining contents accepted s' came (went ++ bytes) (Was.Written (length bytes) offered)
      (moved_at now spell)
  not_written : (s s' : S) (came went : List ℕ) (before : Latest) (spell : Spell) (kind : ErrorKind)
      → Carried remaining contents accepted s came went before spell → Keeps (contents s) (contents s')
      → Carried remaining contents accepted s' came went (Was.Failed kind) spell

module _ {S : Type 0} (remaining contents : S → Option (List ℕ)) where
  -- a socket has the stream that was accepted, of which its bytes came, and to which its bytes went
  abbrev pub IsOf : S → Socket S → Type 0
  IsOf accepted s =
      Carried remaining contents accepted (stream_of s) (bytes_come s) (went_of s) (latest_of s) (spell_of s)

  -- and it still does
  abbrev pub StaysOf : Socket S → Socket S → Type 0
  StaysOf old new = (accepted : S) → IsOf accepted old → IsOf accepted new

  module _ (times : List Duration) where
    -- the place of a stream that was accepted. The times of its connection are among these
    abbrev pub PlaceIsOf : S → Place S → Type 0
    PlaceIsOf accepted Free = ⊥
    PlaceIsOf accepted (Open l) = IsOf accepted l.socket × IsLinkTimed times l

    abbrev pub PlaceHas : Place S → Type 0
    PlaceHas Free = Unit {0}
    PlaceHas (Open l) = (accepted : S) × IsOf accepted l.socket × IsLinkTimed times l

    -- A SOCKET THAT ENDED had a stream that was accepted, and times of these
    abbrev pub Had : Seen → Type 0
    Had s = (accepted : S) × (gone : S) × Carried remaining contents accepted gone s.came.items s.went.items s.latest
        s.spell
        × IsTimed times s.spell

    -- each of them had its own
    abbrev pub AllHad : List Seen → Type 0
    AllHad [] = Unit {0}
    AllHad (s ∷ ended) = Had s × AllHad ended

    -- what a place and the sockets that ended have, after what was done there
    abbrev pub PlacePreserves : Place S → Place S → List Seen → List Seen → Type 0
    PlacePreserves p p' ended ended' = PlaceHas p → AllHad ended → PlaceHas p' × AllHad ended'

    abbrev pub AllHave : List (Place S) → Type 0
    AllHave places = (n : ℕ) → PlaceHas (get_or places n Free)

    abbrev pub AllPreserve : List (Place S) → List (Place S) → List Seen → List Seen → Type 0
    AllPreserve places places' ended ended' = AllHave places → AllHad ended → AllHave places' × AllHad ended'

abbrev pub socket_of : {S : Type 0} → Link S → Socket S
socket_of l = l.socket
