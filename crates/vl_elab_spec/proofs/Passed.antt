-- Steps that are walked one behind the other.
use Rattle.std.specs.Prelude.{◌≡◌, refl, List, [], ◌∷◌, ◌++◌, Option, Some, None}
use Rattle.std.proofs.Common.{ap, sym, ◌∙◌, subst}
use Rattle.vl_tree.specs.declared.source.Module.{Module}
use Rattle.vl_mean.specs.Walk.{Step}
use Rattle.vl_elab_spec.specs.declared.elab_fault.ElabFault.{ElabFault}
use Rattle.vl_elab_spec.specs.Refused.{Totals, all_counted, counted, first_refused, lowest, or_later, refusals_at}
use Rattle.vl_elab_spec.specs.declared.totals.Totals as kept
use Rattle.vl_elab_spec.specs.Walked.{AreTotals, AreWalked}

later_none : (g : Option ElabFault) → g ≡ or_later g None
later_none None = refl
later_none (Some g) = refl

later_later : (g h k : Option ElabFault) → or_later g (or_later h k) ≡ or_later (or_later g h) k
later_later None h k = refl
later_later (Some g) h k = refl

module _ (ms : List Module) where
  first_append : (t : Totals) (xs ys : List Step)
      → first_refused ms t (xs ++ ys) ≡ or_later (first_refused ms t xs) (first_refused ms (all_counted t xs) ys)
  first_append t [] ys = refl
  first_append t (x ∷ xs) ys =
      ap (or_later (lowest (refusals_at ms t x))) (first_append (counted t x) xs ys)
      ∙ later_later (lowest (refusals_at ms t x)) (first_refused ms (counted t x) xs)
      (first_refused ms (all_counted (counted t x) xs) ys)

  counted_append : (t : Totals) (xs ys : List Step) → all_counted t (xs ++ ys) ≡ all_counted (all_counted t xs) ys
  counted_append t [] ys = refl
  counted_append t (x ∷ xs) ys = counted_append (counted t x) xs ys

  pub none_walked : (t : Totals) (new : kept.Totals) → AreTotals new t → AreWalked ms t new [] None
  none_walked t new h = record { fault = refl; totals = λ e. h }

  pub one_walked : (t : Totals) (new : kept.Totals) (x : Step) (g : Option ElabFault)
      → g ≡ lowest (refusals_at ms t x) → (g ≡ None → AreTotals new (counted t x)) → AreWalked ms t new (x ∷ []) g
  one_walked t new x g h k = record { fault = h ∙ later_none (lowest (refusals_at ms t x)); totals = k }

  pub stopped_walked : (t : Totals) (new : kept.Totals) (xs ys : List Step) (g : ElabFault)
      → AreWalked ms t new xs (Some g) → AreWalked ms t new (xs ++ ys) (Some g)
  stopped_walked t new xs ys g h = record {
    fault = ap (λ f. or_later f (first_refused ms (all_counted t xs) ys)) h.fault ∙ sym (first_append t xs ys);
    totals = λ e. cc;
  }

  pub passed_walked : (t : Totals) (between new : kept.Totals) (xs ys : List Step) (g : Option ElabFault)
      → AreWalked ms t between xs None → AreWalked ms (all_counted t xs) new ys g → AreWalked ms t new (xs ++ ys) g
  passed_walked t between new xs ys g h k = record {
    fault =
        k.fault ∙ ap (λ f. or_later f (first_refused ms (all_counted t xs) ys)) h.fault
        ∙ sym (first_append t xs ys);
    totals = λ e. subst (AreTotals new) (sym (counted_append t xs ys)) (k.totals e);
  }
