-- What is asked for, before its text is copied.
use Rattle.job_words.specs.Words.{PlainJob}
use Rattle.job_words.specs.declared.requests.Request.{Request}

abbrev pub requested : Request → PlainJob
requested r = record { mode = r.mode; rules = r.rules.now; late = r.late; seed = r.seed; lines = r.lines }
