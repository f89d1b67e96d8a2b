-- The head of a module, and what stands behind it.
use Rattle.std.specs.Prelude.{◌≡◌, refl, ℕ, List, ◌++◌, is_some, true, false, Option, Some, None}
use Rattle.std.proofs.Common.{ap, sym, ◌∙◌, subst, true≢false}
use Rattle.vl_tree.specs.declared.declaration.HeaderParameter.{HeaderParameter}
use Rattle.vl_tree.specs.declared.declaration.Port.{Port}
use Rattle.vl_tree.specs.declared.source.Module.{Module}
use Rattle.vl_mean.specs.Declarations.{full_ports, header_parameters, ports_of}
use Rattle.vl_mean.specs.Walk.{Place, Use, header_of, header_steps, module_parameters, module_place}
use Rattle.vl_mean.specs.Walk.{parameter_names, port_names, port_steps, with_earlier, written_ports}
use Rattle.vl_elab_spec.specs.declared.elab_fault.ElabFault.{ElabFault}
use Rattle.vl_elab_spec.specs.Items.{is_given}
use Rattle.vl_elab_spec.specs.Meanings.{meanings_at}
use Rattle.vl_elab_spec.specs.Refused.{Totals}
use Rattle.vl_elab_names.specs.Known.{AreNames}
use Rattle.vl_elab_names.specs.declared.set.NameSet.{NameSet}
use Rattle.vl_elab_scope.specs.Alike.{Alike}
use Rattle.vl_elab_const.specs.Given.{value_given}
use Rattle.vl_elab_params.specs.Reached.{AreAround, IsReached}
use Rattle.vl_elab_params.specs.declared.reached.Reached.{Reached}
use Rattle.vl_elab_decls.specs.declared.scopes.Inside.{Inside}
use Rattle.vl_elab_spec.specs.declared.totals.Totals as kept
use Rattle.vl_elab_spec.specs.Walked.{AreTotals, AreWalked}
use Rattle.vl_elab_spec.specs.Within.{behind_head, head_steps}
use Rattle.vl_elab_spec.proofs.Behind.{goes_on, stops}
use Rattle.vl_elab_check.specs.declared.scopes.Here.{Here}
use Rattle.vl_elab_check.specs.Standing.{IsHere}
use Rattle.vl_elab_check.proofs.Going.{none_of}
use Rattle.vl_elab_check.proofs.Places.{here_with}

-- where something is refused, nothing is said of what comes behind
pub none_here : {P : Type 0} (g : Option ElabFault) → is_some g ≡ true → g ≡ None → P
none_here g e f = absurd (true≢false (sym e ∙ ap is_some f))

ports_are : (ps : Option (List Port)) → full_ports None (written_ports ps) ≡ ports_of ps
ports_are None = refl
ports_are (Some ps) = refl

module _ (m : Module) (u : Use) (text : List ℕ) (modules path : List (List ℕ)) (inside : Inside) (here : Here)
    (h : IsHere inside here path (module_place m u text modules))
    (xs : List HeaderParameter) (e : xs ≡ header_of m.parameters) where
  abbrev at : Place
  at = module_place m u text modules

  abbrev ports : List Port
  ports = written_ports m.ports

  abbrev behind : Place
  behind = with_earlier at (parameter_names (module_parameters m))

  abbrev AreBefore : (Place → Type 0) → Type 0
  AreBefore P =
      (p : Place) → Alike inside.names (meanings_at p) → AreAround inside.around p
      → AreNames here.earlier p.earlier → IsReached here.reached p p.earlier
      → ((name : List ℕ) → is_given p.contents name ≡ is_some (value_given here.given name)) → P p

  before : (P : Place → Type 0) → AreBefore P → P at
  before P f = f at h.known.alike h.within.around h.known.before h.known.parameters h.known.overrides

  module _ (ms : List Module) (t : Totals) (between : kept.Totals) (f : Option ElabFault)
      (walked : AreBefore (λ p. AreWalked ms t between (header_steps p (header_parameters xs)) f)) where
    headers : AreWalked ms t between (header_steps at (module_parameters m)) f
    headers =
        subst (λ ys. AreWalked ms t between (header_steps at (header_parameters ys)) f) e
        (before (λ p. AreWalked ms t between (header_steps p (header_parameters xs)) f) walked)

    pub head_stop : is_some f ≡ true → AreWalked ms t between (head_steps at m u) f
    head_stop some =
        stops ms t between (header_steps at (module_parameters m)) (port_steps behind u None ports) f some headers

  module _ (f : Option ElabFault) (passed : is_some f ≡ false) (new : Inside) (earlier : NameSet)
      (reached : Reached) (same : new ≡ inside)
      (more : f ≡ None → AreBefore (λ p. AreNames earlier (p.earlier ++ parameter_names (header_parameters xs))))
      (on : f ≡ None
      → AreBefore (λ p. IsReached reached p (p.earlier ++ parameter_names (header_parameters xs)))) where
    names_then : AreNames earlier behind.earlier
    names_then =
        subst (λ ys. AreNames earlier (at.earlier ++ parameter_names (header_parameters ys))) e
        (before (λ p. AreNames earlier (p.earlier ++ parameter_names (header_parameters xs)))
        (more (none_of f passed)))

    reached_then : IsReached reached at behind.earlier
    reached_then =
        subst (λ ys. IsReached reached at (at.earlier ++ parameter_names (header_parameters ys))) e
        (before (λ p. IsReached reached p (p.earlier ++ parameter_names (header_parameters xs)))
        (on (none_of f passed)))

    alike_then : Alike new.names (meanings_at at)
    alike_then = subst (λ (i : Inside). Alike i.names (meanings_at at)) (sym same) h.known.alike

    module _ (ps : List Port) (k : ps ≡ written_ports m.ports) (g : Option ElabFault) where
      pub head_on : (ms : List Module) (t : Totals) (between last : kept.Totals)
          → AreBefore (λ p. AreWalked ms t between (header_steps p (header_parameters xs)) f)
          → ((p : Place) (b : Totals) → Alike new.names (meanings_at p) → AreNames earlier p.earlier
          → AreTotals between b → AreWalked ms b last (port_steps p u None ps) g)
          → AreWalked ms t last (head_steps at m u) g
      head_on ms t between last first second =
          goes_on ms t between last (header_steps at (module_parameters m)) (port_steps behind u None ports) f g passed
          (headers ms t between f first)
          (λ b totals. subst (λ qs. AreWalked ms b last (port_steps behind u None qs) g) k
          (second behind b alike_then names_then totals))

      pub head_here : g ≡ None → (last : NameSet) (further : Reached)
          → (g ≡ None → (before : List (List ℕ)) → AreNames earlier before
          → AreNames last (before ++ port_names (full_ports None ps)))
          → (g ≡ None → (p : Place) (before : List (List ℕ)) → Alike new.names (meanings_at p)
          → IsReached reached p before → IsReached further p (before ++ port_names (full_ports None ps)))
          → IsHere new (here_with here last further) path (behind_head at m)
      head_here gone last further add go =
          subst (λ i. IsHere i (here_with here last further) path (behind_head at m)) (sym same) (record {
            within = record {
              stands = h.within.stands;
              around = h.within.around;
              modules = h.within.modules;
            };
            known = record {
              alike = h.known.alike;
              constants = h.known.constants;
              shapes = h.known.shapes;
              before = subst (λ qs. AreNames last (behind.earlier ++ port_names qs)) ports_same
                  (add gone behind.earlier names_then);
              parameters = subst (λ qs. IsReached further at (behind.earlier ++ port_names qs)) ports_same
                  (go gone at behind.earlier alike_then reached_then);
              overrides = h.known.overrides;
            };
          })
        where
          ports_same : full_ports None ps ≡ ports_of m.ports
          ports_same = ap (full_ports None) k ∙ ports_are m.ports
