-- An argument whose variables are bound is one term.
use Rattle.std.proofs.Common.{ℕ, ◌≡◌, ◌↔◌, refl, ap, sym, ◌∙◌, Bool, true, false, ◌&&◌, Option, Some, None, List, [], ◌∷◌, map}
use Rattle.std.specs.Prelude.{is_some, unwrap_or, pos}
use Rattle.std.specs.List.{list_all}
use Rattle.std.specs.Ordering.{is_eq}
use Rattle.std.specs.Str.{bytes_eq}
use Rattle.std.proofs.lemmas.Bool.{true≢false, and_parts}
use Rattle.event_model.specs.TermOrder.{term_cmp_at}
use Rattle.event_model.specs.declared.terms.Term.{Term, out-Term, roll-Term, roll-out-Term, out-roll-Term}
use Rattle.event_model.specs.declared.terms.Term.TheOpen.{Term-F}
use Rattle.event_model.specs.declared.terms.Term.TheOpen.Term-F.{Num as TNum, Sym as TSym, Text as TText, Comp as TComp}
use Rattle.event_model.specs.declared.terms.Term.TheVariants as made
use Rattle.event_model.specs.declared.terms.Pat.{Pat, out-Pat, roll-Pat, out-roll-Pat}
use Rattle.event_model.specs.declared.terms.Pat.TheOpen.{Pat-F}
use Rattle.event_model.specs.declared.terms.Pat.TheOpen.Pat-F.{Var, Any, Num, Sym, Text, Comp}
use Rattle.event_model.specs.declared.terms.Pat.TheFolds.{map-Pat, fold_out-Pat}
use Rattle.event_model.proofs.Layers.{Each, args_of, by_layers}
use Rattle.ev_bind.specs.Bindings.{Pairs, value_at}
use Rattle.ev_bind.specs.Matching.{instance, instance_step, instance_at}
use Rattle.ev_bind.specs.Fits.{same, is_value, all_fit, is_compound, fits, fits_step, fits_at}
use Rattle.rule_ast.specs.Shaped.{passes, parts_pass}
use Rattle.term_eval.specs.Values.{binds_argument}
use Rattle.term_eval.specs.Alike.{each_with}
use Rattle.term_eval.proofs.Equal.{same_decides, same_comps}

-- ---- the one term

module _ (b : Pairs) where
  abbrev bound : ℕ → Bool
  bound slot = is_some (value_at b slot)

  passes_at : (p : Pat) {x : Pat-F Pat} → out-Pat p ≡ x → passes bound false p ≡ parts_pass bound false (map-Pat Pat Bool (passes bound false) x)
  unfolding passes
  passes_at p e = fold_out-Pat Bool (parts_pass bound false) p ∙ ap (λ x. parts_pass bound false (map-Pat Pat Bool (passes bound false) x)) e

  abbrev One : Pat → Type 0
  One p = passes bound false p ≡ true → (t : Term) → fits b p t ≡ same (instance p b) t

  each_one : (ps : List Pat) → Each One ps → list_all (λ so. so) (map (passes bound false) ps) ≡ true → (ts : List Term)
      → all_fit (map (fits b) ps) ts ≡ each_with same (map (λ arg. arg b) (map instance ps)) ts
  each_one [] h e [] = refl
  each_one [] h e (t ∷ ts) = refl
  each_one (p ∷ ps) h e [] = refl
  each_one (p ∷ ps) h e (t ∷ ts) =
      let parts = and_parts (passes bound false p) (list_all (λ so. so) (map (passes bound false) ps)) e in
      λ i. h.0 parts.0 t i && each_one ps h.1 parts.1 ts i

  value_one : (o : Option Term) → is_some o ≡ true → (t : Term) → is_value o t ≡ same (unwrap_or o (made.Num (pos 0))) t
  value_one None e t = absurd (true≢false (sym e))
  value_one (Some v) e t = refl

  layer : (a : Pat-F Pat) → Each One (args_of a) → parts_pass bound false (map-Pat Pat Bool (passes bound false) a) ≡ true → (t : Term)
      → fits_step b (map-Pat Pat (Term → Bool) (fits b) a) t ≡ same (instance_step (map-Pat Pat (Pairs → Term) instance a) b) t
  layer (Var slot) h e t = value_one (value_at b slot) e t
  layer Any h e t = absurd (true≢false (sym e))
  layer (Num n) h e t = refl
  layer (Sym s) h e t = refl
  layer (Text s) h e t = refl
  layer (Comp name ps) h e t = at (out-Term t) ∙ ap (same (made.Comp name xs)) (roll-out-Term t)
    where
      xs : List Term
      xs = map (λ arg. arg b) (map instance ps)

      at : (x : Term-F Term) → is_compound name (map (fits b) ps) x ≡ same (made.Comp name xs) (roll-Term x)
      at (TNum n) = sym (ap is_eq (term_cmp_at (made.Comp name xs) (roll-Term (TNum n)) (made.outs-Comp name xs) (out-roll-Term (TNum n))))
      at (TSym s) = sym (ap is_eq (term_cmp_at (made.Comp name xs) (roll-Term (TSym s)) (made.outs-Comp name xs) (out-roll-Term (TSym s))))
      at (TText s) = sym (ap is_eq (term_cmp_at (made.Comp name xs) (roll-Term (TText s)) (made.outs-Comp name xs) (out-roll-Term (TText s))))
      at (TComp f ts) =
          ap (λ r. bytes_eq name f && r) (each_one ps h e ts)
          ∙ sym (same_comps name f xs ts)
          ∙ ap (same (made.Comp name xs)) (sym (ap roll-Term (sym (made.outs-Comp f ts)) ∙ roll-out-Term (made.Comp f ts)))

  one : (p : Pat) → One p
  one = by_layers One (λ a h e t.
      ap (λ f. f t) (fits_at b (roll-Pat a) (out-roll-Pat a))
      ∙ layer a h (sym (passes_at (roll-Pat a) (out-roll-Pat a)) ∙ e) t
      ∙ sym (ap (λ f. same (f b) t) (instance_at (roll-Pat a) (out-roll-Pat a))))

pub fits_instance : (b : Pairs) (p : Pat) (t : Term) → binds_argument b p ≡ true → (fits b p t ≡ true) ↔ (instance p b ≡ t)
fits_instance b p t e = (λ f. (same_decides (instance p b) t).0 (sym (one b p e t) ∙ f), λ f. one b p e t ∙ (same_decides (instance p b) t).1 f)
