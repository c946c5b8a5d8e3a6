use Rattle.std.proofs.Common.{◌∙◌, sym, ap, length}
use Rattle.std.specs.List.{flat_map}
use Rattle.std.specs.Hash as fed
use Rattle.std.specs.Hash.DefaultHasher as sip
use Rattle.ev_bind.specs.Hashing.{term_writes, writes-Comp, fed_four}
use Rattle.ev_bind.proofs.hashing.+hashing.Goals as goal

pub feed_term-returns-in-Comp : goal.feed_term-returns-in-Comp
feed_term-returns-in-Comp t c =
    fed.fed_along sip.write c.args.state.now c.hash-in-Comp.new.state (sym (ap term_writes c.in-Comp.is ∙ writes-Comp c.in-Comp.name c.in-Comp.args))
    (fed_four c.args.state.now c.write_u64-in-Comp.new.self c.write_usize.new.self c.feed_terms.new.state c.hash-in-Comp.new.state
    (fed.u64 3) (fed.usize (length c.in-Comp.args)) (flat_map term_writes c.in-Comp.args) (fed.str c.in-Comp.name)
    c.write_u64-in-Comp.ensures
    (rw c.as_slice.ensures at c.write_usize.ensures)
    (rw c.as_slice-in-Comp.ensures at c.feed_terms.ensures)
    c.hash-in-Comp.ensures)
