use Rattle.std.proofs.Common.{◌≡◌, take}
use Rattle.std.specs.Prelude.{fold}
use Rattle.std.specs.List.{flat_map}
use Rattle.std.specs.Hash.DefaultHasher as sip
use Rattle.ev_bind.specs.Hashing.{term_writes}
use Rattle.ev_bind.proofs.hashing.+hashing.Given as goal

abbrev pub invariant-feed_terms-loop-i : goal.invariant-feed_terms-loop-i
invariant-feed_terms-loop-i l = l.state ≡ fold sip.write l.initial.state (flat_map term_writes (take l.i l.terms))
