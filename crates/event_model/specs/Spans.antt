-- Spans in plain form.
use Rattle.std.specs.Prelude.{ℕ}

-- a stretch of time from a start to an end
pub record PlainSpan : Type 0 where
  pub start : ℕ
  pub end : ℕ

-- the span of one time
abbrev pub instant : ℕ → PlainSpan
instant time = record { start = time; end = time }
