-- What a connection is at: its pending text, or else how its stream ends.
use Rattle.std.specs.Prelude.{ℕ, [], ◌∷◌, Option, Some, None}
use Rattle.upload_rules.specs.World.{World}
use Rattle.tus_action.specs.Acts.{Giving}
use Rattle.tus_session.specs.Streams.{Rest, InHead, InBody, cut}
use Rattle.tus_session.specs.Turns.{Conn, reader}
use Rattle.tus_session.specs.History.{State}
use Rattle.tus_session.specs.declared.at.At.{At}
use Rattle.tus_session.specs.declared.at.At.TheVariants.{Between, Head, Body, Text}

-- Without a pending text: the unfinished request at the stream's end.
abbrev pub at_end : Rest → At
at_end (InHead []) = Between
at_end (InHead (b ∷ bs)) = Head
at_end (InBody asked) = Body

-- A pending text comes first.
abbrev pub at_text_or : At → Option Giving → At
at_text_or end None = end
at_text_or end (Some g) = Text

-- What an open connection is at.
abbrev pub at_of : World → Conn → At
at_of w conn = at_text_or (at_end (cut (reader w) conn.stream).rest) conn.pending

-- The same, or nothing if it is closed.
abbrev pub at_unless_closed : World → Option Conn → Option At
at_unless_closed w None = None
at_unless_closed w (Some conn) = Some (at_of w conn)

-- What the connection with this number is at.
abbrev pub at_in : State → ℕ → Option At
at_in st c = at_unless_closed st.world (st.conns c)
