-- Steps of which none is refused.
use Rattle.std.specs.Prelude.{◌≡◌, refl, ℕ, ◌+◌, ◌≤◌, nat_lt, List, [], ◌∷◌}
use Rattle.std.specs.Prelude.{true, false, Option, Some, None, is_none}
use Rattle.std.proofs.Common.{ap, sym, true≢false, arith}
use Rattle.std.proofs.lemmas.Bool.Decides.{nat_tests}
use Rattle.vl_tree.specs.declared.source.Module.{Module}
use Rattle.vl_mean.specs.Walk.{Step, walk}
use Rattle.vl_elab_spec.specs.declared.elab_fault.ElabFault.{ElabFault}
use Rattle.vl_elab_spec.specs.declared.elab_fault.ElabFault.TheVariants as f
use Rattle.vl_elab_spec.specs.Counts.{step_nodes}
use Rattle.vl_elab_spec.specs.Items.{step_refusals}
use Rattle.vl_elab_spec.specs.Refused.{Totals, counted, first_refused, is_too_large, lowest}
use Rattle.vl_elab_spec.specs.Refused.{or_later, refusals_at}
use Rattle.vl_elab_accepted_laws.specs.Unrefused.{NoStepRefused}
use Rattle.vl_elab_accepted_laws.proofs.Contained.{or_first}
use Rattle.vl_elab_accepted_laws.proofs.Fresh.{NoneOf, none-front, none-back, not-refused}
use Rattle.vl_elab_accepted_laws.proofs.Loops.{AreFine, weight, weight-next, weight-none}

-- ---- no step is refused

later-first : (g h : Option ElabFault) → or_later g h ≡ None → g ≡ None
later-first None h e = refl
later-first (Some g) h e = e

later-second : (g h : Option ElabFault) → or_later g h ≡ None → h ≡ None
later-second None h e = e
later-second (Some g) h e = absurd (true≢false (sym (ap is_none e)))

lowest-none : (gs : List ElabFault) → lowest gs ≡ None → NoneOf gs
lowest-none [] e = refl
lowest-none (g ∷ gs) e = absurd (true≢false (sym (ap is_none e)))

pub record IsCounted (ms : List Module) (t : Totals) (xs : List Step) : Type 0 where
  pub fine : AreFine ms xs
  pub few : t.nodes + weight xs ≤ 4000000

not-large : (n : ℕ) → nat_lt 4000000 n ≡ false → n ≤ 4000000
not-large n h = grind (arith, nat_tests)

pub none-refused : (ms : List Module) (t : Totals) (xs : List Step) → t.nodes ≤ 4000000
    → first_refused ms t xs ≡ None
    → IsCounted ms t xs
none-refused ms t [] f e = record { fine = tt; few = omega (arith, f, weight-none) }
none-refused ms t (x ∷ xs) f e =
    let first : NoneOf (refusals_at ms t x)
    = lowest-none (refusals_at ms t x) (later-first (lowest (refusals_at ms t x))
    (first_refused ms (counted t x) xs) e) in
    let small : is_too_large (counted t x) ≡ false
    = not-refused (is_too_large (counted t x)) _ (none-back (step_refusals ms x) _ first) in
    let few : t.nodes + step_nodes x ≤ 4000000 = not-large (t.nodes + step_nodes x) (or_first _ _ small) in
    let rest : IsCounted ms (counted t x) xs = none-refused ms (counted t x) xs few
    (later-second (lowest (refusals_at ms t x)) (first_refused ms (counted t x) xs) e) in
    let more : t.nodes + step_nodes x + weight xs ≤ 4000000 = rest.few in record {
      fine = (none-front (step_refusals ms x) _ first, rest.fine);
      few = omega (arith, more, weight-next x xs);
    }

pub walk-counted : (ms : List Module) (top : List ℕ) → NoStepRefused ms top
    → IsCounted ms (record { nodes = 0; names = 0 }) (walk ms top)
walk-counted ms top e = none-refused ms (record { nodes = 0; names = 0 }) (walk ms top) (omega arith) e

pub walk-fine : (ms : List Module) (top : List ℕ) → NoStepRefused ms top → AreFine ms (walk ms top)
walk-fine ms top e = (walk-counted ms top e).fine
