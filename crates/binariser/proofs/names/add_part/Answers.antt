use Rattle.std.proofs.Common.{[], ◌∷◌, sym, subst, length}
use Rattle.rule_ast.specs.Plain.{plain_pattern}
use Rattle.binariser.specs.Needed.{IsGrown, own_names}
use Rattle.binariser.proofs.NeededLaws.{grown_one}
use Rattle.binariser.proofs.names.add_part.Goals as goal

pub returns-in_ok-insert-in-Atom-clause-names : goal.returns-in_ok-insert-in-Atom-clause-names
returns-in_ok-insert-in-Atom-clause-names c =
    subst (λ p. IsGrown c.args.needed.now.keys (own_names (plain_pattern p)) c.insert.new.self.keys) (sym c.in-Atom.is)
    (subst (λ n. IsGrown c.args.needed.now.keys (n ∷ []) c.insert.new.self.keys)
    (λ i. record { name = c.in_ok-share-in-Atom.ensures i; arity = length (c.as_slice.ensures i) })
    (subst (IsGrown c.args.needed.now.keys (_ ∷ [])) (sym c.in_ok-insert-in-Atom.ensures.keys) (grown_one c.args.needed.now.keys _)))
