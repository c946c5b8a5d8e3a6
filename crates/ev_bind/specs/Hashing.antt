-- What the hash of a binding and of a row is made of. Terms, slots and spans go in as whole words, and the bytes of names last.
--     term_writes t     what a term feeds the hasher
--     code_of b         the hash of a binding: that of its first pair and of the hash of the others
use Rattle.std.specs.Prelude.{ℕ, ◌≡◌, refl, List, [], ◌∷◌, ◌++◌, map, length, fold}
use Rattle.std.specs.List.{flat_map}
use Rattle.std.specs.Hash as fed
use Rattle.std.specs.Hash.{HashWrites}
use Rattle.std.specs.Hash.DefaultHasher as sip
use Rattle.std.specs.declared.hash.DefaultHasher.{DefaultHasher}
use Rattle.std.proofs.Common.{ap, ◌∙◌}
use Rattle.std.proofs.lemmas.List.{length-map}
use Rattle.event_model.specs.declared.terms.Term.{Term, out-Term}
use Rattle.event_model.specs.declared.terms.Term.TheOpen.{Term-F}
use Rattle.event_model.specs.declared.terms.Term.TheOpen.Term-F.{Num as TNum, Sym as TSym, Text as TText, Comp as TComp}
use Rattle.event_model.specs.declared.terms.Term.TheFolds.{fold-Term, fold_out-Term, map-Term}
use Rattle.event_model.specs.declared.terms.Term.TheVariants as made
use Rattle.ev_bind.specs.Bindings.{Pair, Pairs}

abbrev pub term_step : Term-F HashWrites → HashWrites
term_step (TNum n) = fed.u64 0 ++ fed.i64 n
term_step (TSym name) = fed.u64 1 ++ fed.str name
term_step (TText text) = fed.u64 2 ++ fed.str text
term_step (TComp name args) = fed.u64 3 ++ (fed.usize (length args) ++ (flat_map (λ w. w) args ++ fed.str name))

unfoldable pub term_writes : Term → HashWrites
term_writes = fold-Term HashWrites term_step

-- the hash after these writes
unfoldable pub code_after : HashWrites → ℕ
code_after writes = sip.finish (fold sip.write sip.initial writes)

abbrev pub pair_writes : Pair → ℕ → HashWrites
pair_writes p rest = fed.u64 rest ++ (fed.u64 p.0 ++ term_writes p.1)

abbrev pub code_of : Pairs → ℕ
code_of [] = 0
code_of (p ∷ b) = code_after (pair_writes p (code_of b))

-- ---- laws

term_at : (t : Term) {x : Term-F Term} → out-Term t ≡ x → term_writes t ≡ term_step (map-Term Term HashWrites term_writes x)
unfolding term_writes
term_at t e = fold_out-Term HashWrites term_step t ∙ ap (λ x. term_step (map-Term Term HashWrites term_writes x)) e

pub writes-Num : (n : _) → term_writes (made.Num n) ≡ fed.u64 0 ++ fed.i64 n
writes-Num n = term_at (made.Num n) (made.outs-Num n)

pub writes-Sym : (name : List ℕ) → term_writes (made.Sym name) ≡ fed.u64 1 ++ fed.str name
writes-Sym name = term_at (made.Sym name) (made.outs-Sym name)

pub writes-Text : (text : List ℕ) → term_writes (made.Text text) ≡ fed.u64 2 ++ fed.str text
writes-Text text = term_at (made.Text text) (made.outs-Text text)

joined-map : (args : List Term) → flat_map (λ w. w) (map term_writes args) ≡ flat_map term_writes args
joined-map [] = refl
joined-map (t ∷ args) = ap (λ w. term_writes t ++ w) (joined-map args)

pub writes-Comp : (name : List ℕ) (args : List Term)
    → term_writes (made.Comp name args) ≡ fed.u64 3 ++ (fed.usize (length args) ++ (flat_map term_writes args ++ fed.str name))
writes-Comp name args = term_at (made.Comp name args) (made.outs-Comp name args)
    ∙ (λ i. fed.u64 3 ++ (fed.usize (length-map args term_writes i) ++ (joined-map args i ++ fed.str name)))

pub ruleset term_feeds = (writes-Num, writes-Sym, writes-Text, writes-Comp)

-- four lists of writes, one after another
pub fed_four : (s t u v w : DefaultHasher) (a b c d : HashWrites)
    → t ≡ fold sip.write s a → u ≡ fold sip.write t b → v ≡ fold sip.write u c → w ≡ fold sip.write v d
    → w ≡ fold sip.write s (a ++ (b ++ (c ++ d)))
fed_four s t u v w a b c d p q r e = fed.fed_then sip.write s t w a (b ++ (c ++ d)) p
    (fed.fed_then sip.write t u w b (c ++ d) q (fed.fed_then sip.write u v w c d r e))
