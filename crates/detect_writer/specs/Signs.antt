-- The signs of changes as they are written.
use Rattle.std.specs.Prelude.{ℕ}
use Rattle.event_model.specs.Bytes.{plus, minus}
use Rattle.event_changes.specs.declared.changes.Sign.{Sign}
use Rattle.event_changes.specs.declared.changes.Sign.TheVariants.{Plus, Minus}

-- `+` or `-`
abbrev pub sign_byte : Sign → ℕ
sign_byte Plus = plus
sign_byte Minus = minus
