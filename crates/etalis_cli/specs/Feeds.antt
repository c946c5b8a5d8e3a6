-- What a piece of the input does to what lines have come to, to the part of a line that is kept, and to the output.
use Rattle.std.specs.Prelude.{◌≡◌, ◌<◌, ◌≤◌, ℕ, List, [], ◌++◌, Option}
use Rattle.flow_ports.specs.Flow.{Gives, GivesPart}
use Rattle.event_model.specs.Lines.{ended_from, rest_from}
use Rattle.event_model.specs.Presence.{verdict}
use Rattle.event_reader.specs.Machine.{heard}
use Rattle.line_reader.specs.Cutting.{NoFeed}
use Rattle.line_reader.specs.Holding.{Holds}
use Rattle.line_reader.specs.declared.reading.LineReader.{LineReader}
use Rattle.etalis_cli.specs.Output.{Talk, after, replies}
use Rattle.etalis_cli.specs.Replying.{visits_for}
use Rattle.etalis_cli.specs.StandsFor.{StandsFor}
use Rattle.etalis_cli.specs.declared.session.Session.{Session}
use Rattle.etalis_cli.specs.declared.replying.TheConstants.{UNITS}

-- what is kept between two pieces, and what the output has got
pub record Kept : Type 0 where
  pub talk : Talk
  pub part : List ℕ
  pub got : Option (List ℕ)

-- the piece was read, and each line that it ended has its reply
pub record Feeds (old new : Kept) (piece : List ℕ) : Type 0 where
  pub talk : new.talk ≡ after old.talk (ended_from old.part piece)
  pub part : new.part ≡ rest_from old.part piece
  pub got : Gives old.got new.got (replies old.talk (ended_from old.part piece))

-- the reader holds this part of a line, and the session stands for this talk
pub record Between (session : Session) (reader : LineReader) (t : Talk) (part : List ℕ) : Type 0 where
  pub stands : StandsFor session t
  pub holds : Holds reader part
  pub plain : NoFeed part

-- the piece was read, and the session and the reader stand for what was reached
pub record FedTo (old : Kept) (session : Session) (reader : LineReader) (sent : Option (List ℕ)) (piece : List ℕ) : Type 0 where
  pub reached : Talk
  pub rest : List ℕ
  pub between : Between session reader reached rest
  pub feeds : Feeds old (record { talk = reached; part = rest; got = sent }) piece

-- some first part of these replies went out
pub record FeedsPart (old : Kept) (got : Option (List ℕ)) (piece : List ℕ) : Type 0 where
  pub sent : GivesPart old.got got (replies old.talk (ended_from old.part piece))

-- the first bytes of what was gathered went out, and the others are what is gathered now
pub record Sends (got got' : Option (List ℕ)) (text text' : List ℕ) : Type 0 where
  pub sent : List ℕ
  pub gives : Gives got got' sent
  pub whole : text ≡ sent ++ text'

-- how many visits of rows a line takes
abbrev pub visits_at : Talk → List ℕ → ℕ
visits_at t line = visits_for t.state.rules t.state.late t.state.history (verdict t.state.late t.state.history (heard line))

-- What was gathered before a line that takes so many visits went out, where one turn of the engine isn't enough for them; else it is
-- gathered still.
pub record SendsBefore (visits : ℕ) (got got' : Option (List ℕ)) (text text' : List ℕ) : Type 0 where
  pub slow : UNITS < visits → Gives got got' text × (text' ≡ [])
  pub quick : visits ≤ UNITS → (got' ≡ got) × (text' ≡ text)
