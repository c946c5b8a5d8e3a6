-- How a run over the lines of a source ends.
use Rattle.std.specs.Prelude.{◌≡◌, ℕ, ◌-◌, ◌<◌, ◌≤◌, ◌⊎◌, List, [], ◌++◌, Option, Result, Ok, Err, IfSome, length, take}
use Rattle.flow_ports.specs.Flow.{Rose, Takes, Gives, GivesPart, IsAtEnd}
use Rattle.event_model.specs.Lines.{ended, last_line}
use Rattle.line_reader.specs.declared.reading.LineReader.{LineReader}
use Rattle.etalis_cli.specs.Output.{Setting, Talk, start, after, replies, closing, out_text}
use Rattle.etalis_cli.specs.Feeds.{Kept, Feeds, Between}
use Rattle.etalis_cli.specs.declared.session.Session.{Session}
use Rattle.etalis_cli.specs.declared.serving.TheConstants.{INPUT_LIMIT, MOST_PIECE_BYTES}
use Rattle.etalis_cli.specs.declared.serving.ServeFault.{ServeFault}
use Rattle.etalis_cli.specs.declared.serving.ServeFault.TheVariants.{Read, Write, Memory, TooLong}

-- what is kept before the first byte
abbrev pub begin : Setting → Option (List ℕ) → Kept
begin w got = record { talk = start w; part = []; got = got }

-- these bytes were taken, and each line that they end has its reply
pub record Progress (w : Setting) (left left' got : Option (List ℕ)) (now : Kept) (n : ℕ) (done : List ℕ) : Type 0 where
  pub takes : Takes left left' done
  pub feeds : Feeds (begin w got) now done
  pub count : length done ≡ n

-- the same, where the session and the reader stand for what was reached
pub record Reached (w : Setting) (left left' got : Option (List ℕ)) (session : Session) (reader : LineReader)
    (sent : Option (List ℕ)) (n : ℕ) (done : List ℕ) : Type 0 where
  pub reached : Talk
  pub rest : List ℕ
  pub between : Between session reader reached rest
  pub progress : Progress w left left' got (record { talk = reached; part = rest; got = sent }) n done

-- what is written behind the replies to all lines that a line feed ends
abbrev pub tail : Talk → List ℕ → List ℕ
tail t part = replies t (last_line part) ++ closing (after t (last_line part))

-- A first part of the whole output went out, with the replies to all lines but those of the last piece's bytes.
pub record PartOf (w : Setting) (left' got got' : Option (List ℕ)) (done : List ℕ) : Type 0 where
  pub part : IfSome left' (λ more. (n : ℕ) × Gives got got' (take n (out_text w (done ++ more)))
      × (length (replies (start w) (ended (take (length done - MOST_PIECE_BYTES) done))) ≤ n))

-- the replies to all lines whose line feed was taken went out, and nothing else
abbrev pub Exactly : Setting → Option (List ℕ) → Option (List ℕ) → List ℕ → Type 0
Exactly w got got' done = Gives got got' (replies (start w) (ended done))

-- what was taken and written, by the result; `rose` says that the output has failed
abbrev pub Ends : Setting → Result (Unit {0}) ServeFault → Option (List ℕ) → Option (List ℕ) → Option (List ℕ) → Type 0 → List ℕ → Type 0
Ends w (Ok _) left' got got' rose done = (length done < INPUT_LIMIT) × IsAtEnd left' × Gives got got' (out_text w done)
Ends w (Err Read) left' got got' rose done = (length done < INPUT_LIMIT) × Exactly w got got' done
Ends w (Err Write) left' got got' rose done = (length done < INPUT_LIMIT) × PartOf w left' got got' done
Ends w (Err Memory) left' got got' rose done = PartOf w left' got got' done
Ends w (Err TooLong) left' got got' rose done =
    (INPUT_LIMIT ≤ length done) × PartOf w left' got got' done × (rose ⊎ Exactly w got got' done)

-- these bytes were taken, and the run ended so
pub record Served (w : Setting) (result : Result (Unit {0}) ServeFault) (left left' got got' : Option (List ℕ)) (rose : Type 0)
    (done : List ℕ) : Type 0 where
  pub takes : Takes left left' done
  pub ends : Ends w result left' got got' rose done

-- the whole text went out, or some first part of it; the source has no part in it
abbrev pub Written : Result (Unit {0}) ServeFault → Option (List ℕ) → Option (List ℕ) → List ℕ → Type 0
Written (Ok _) got got' text = Gives got got' text
Written (Err Read) got got' text = ⊥
Written (Err Write) got got' text = GivesPart got got' text
Written (Err Memory) got got' text = GivesPart got got' text
Written (Err TooLong) got got' text = ⊥

-- which counts have risen, that of the source or that of the output: those that the result names, and no other
abbrev pub Counted : Result (Unit {0}) ServeFault → ℕ → ℕ → ℕ → ℕ → Type 0
Counted (Ok _) source source' sink sink' = (source' ≡ source) × (sink' ≡ sink)
Counted (Err Read) source source' sink sink' = Rose source source' × (sink' ≡ sink)
Counted (Err Write) source source' sink sink' = (source' ≡ source) × Rose sink sink'
Counted (Err Memory) source source' sink sink' = (source' ≡ source) × (sink' ≡ sink)
Counted (Err TooLong) source source' sink sink' = (source' ≡ source) × (sink ≤ sink')
