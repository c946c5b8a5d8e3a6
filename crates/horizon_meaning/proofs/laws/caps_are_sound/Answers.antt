use Rattle.horizon_meaning.specs.Sound.{caps_sound, shown_in_cap}
use Rattle.horizon_meaning.proofs.laws.caps_are_sound.Goals as goal

pub returns : goal.returns
returns c = record { supports = caps_sound; shown = shown_in_cap }
