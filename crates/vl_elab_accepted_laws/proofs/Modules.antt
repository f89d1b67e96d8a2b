-- The full names of a module's instance differ.
use Rattle.std.specs.Prelude.{◌≡◌, refl, ℕ, zero, suc, List, [], ◌∷◌, ◌++◌}
use Rattle.std.specs.Prelude.{Option, Some, None, option_to_list, All}
use Rattle.std.proofs.Common.{ap, sym, ◌∙◌, subst, ⊎_elim}
use Rattle.vl_tree.specs.declared.declaration.FullPort.{FullPort}
use Rattle.vl_tree.specs.declared.declaration.Parameter.{Parameter}
use Rattle.vl_tree.specs.declared.declaration.Port.{Port}
use Rattle.vl_tree.specs.declared.declaration.PortKind.{PortKind}
use Rattle.vl_tree.specs.declared.declaration.PortKind.TheVariants as port
use Rattle.vl_tree.specs.declared.source.Module.{Module}
use Rattle.vl_tree.specs.DeclarationWellFormed.{IsPort, IsPortKind}
use Rattle.vl_tree.specs.ExprWellFormed.{IsName}
use Rattle.vl_tree.specs.Item.{items}
use Rattle.vl_tree.specs.WellFormed.{IsModule, AreOptionalPorts}
use Rattle.vl_mean.specs.Declarations.{all_names, full_port, full_ports, ports_of}
use Rattle.vl_mean.specs.Parts.{port_kind}
use Rattle.vl_mean.specs.Runs.{Each}
use Rattle.vl_mean.specs.Walk.{Place, Use, Step, Unfolding, header_steps, port_step, port_steps, port_names}
use Rattle.vl_mean.specs.Walk.{parameter_names, module_parameters, module_names, module_place, written_ports}
use Rattle.vl_mean.specs.Walk.{optional_name, with_earlier, items_steps, unfolded}
use Rattle.vl_mean_flat.proofs.EachOf.{front, back, each_map}
use Rattle.vl_elab_accepted_laws.proofs.Contained.{Has, clash, has-front, has-back, lacks-back, each-has, each-of}
use Rattle.vl_elab_accepted_laws.proofs.Declared.{full_names, full-append, under, optional-none}
use Rattle.vl_elab_accepted_laws.proofs.Fresh.{IsFine, AreNew, ports-new}
use Rattle.vl_elab_accepted_laws.proofs.Genblk.{is_mark}
use Rattle.vl_elab_accepted_laws.proofs.Good.{Good, good-none, good-both, Under, Any, under-map, under-apart}
use Rattle.vl_elab_accepted_laws.proofs.Good.{good-under}
use Rattle.vl_elab_accepted_laws.proofs.Items.{IsNew, IsBehind, ItemsHead, not-numbered, Given}
use Rattle.vl_elab_accepted_laws.proofs.Loops.{AreFine, IsClear, AreClear, few-back, positive-one}
use Rattle.vl_elab_accepted_laws.proofs.Plain.{Plain, name-plain, all-each}
use Rattle.vl_elab_accepted_laws.proofs.Scopes.{good-items}
use Rattle.vl_elab_accepted_laws.proofs.Texts.{until, until-free}

-- ---- ports

headers-none : (at : Place) (xs : List Parameter) → full_names (header_steps at xs) ≡ []
headers-none at [] = refl
headers-none at (x ∷ xs) = headers-none (with_earlier at (x.name ∷ [])) xs

port-under : (at : Place) (u : Use) (p : Port) (q : Option FullPort)
    → full_names (port_step at u p q) ≡ under at.path (port_names (option_to_list q))
port-under at u p None = refl
port-under at u p (Some q)
    = λ i. (at.path ++ q.name) ∷ (optional-none at.scopes (port_kind q.net) q.name q.value i ++ [])

under-append : (path : List ℕ) (ms ns : List (List ℕ)) → under path (ms ++ ns) ≡ under path ms ++ under path ns
under-append path [] ns = refl
under-append path (m ∷ ms) ns = ap (λ l. (path ++ m) ∷ l) (under-append path ms ns)

names-append : (q : Option FullPort) (qs : List FullPort)
    → port_names (option_to_list q ++ qs) ≡ port_names (option_to_list q) ++ port_names qs
names-append None qs = refl
names-append (Some q) qs = refl

ports-under : (at : Place) (u : Use) (last : Option FullPort) (ps : List Port)
    → full_names (port_steps at u last ps) ≡ under at.path (port_names (full_ports last ps))
ports-under at u last [] = refl
ports-under at u last (p ∷ ps) =
    let q : Option FullPort = full_port last p.kind in
    let more : List FullPort = full_ports q ps in
    full-append (port_step at u p q) (port_steps (with_earlier at (optional_name q)) u q ps)
    ∙ (λ i. port-under at u p q i ++ ports-under (with_earlier at (optional_name q)) u q ps i)
    ∙ sym (under-append at.path (port_names (option_to_list q)) (port_names more))
    ∙ ap (under at.path) (sym (names-append q more))

-- the names of ports are names
module _ where
  IsNamed : Option FullPort → Type 0
  IsNamed None = Unit {0}
  IsNamed (Some p) = IsName p.name

  kind-named : (last : Option FullPort) (kind : PortKind) → IsPortKind kind → IsNamed (full_port last kind)
  unfolding IsNamed
  kind-named last (port.Full p) w = w.2
  kind-named None (port.Short text value) w = tt
  kind-named (Some p) (port.Short text value) w = w.0

  port-plain : (q : Option FullPort) (ns : List (List ℕ)) → IsNamed q → Each Plain ns
      → Each Plain (port_names (option_to_list q) ++ ns)
  unfolding IsNamed
  port-plain None ns h k = k
  port-plain (Some q) ns h k = (name-plain q.name h, k)

  ports-plain : (last : Option FullPort) (ps : List Port) → Each IsPort ps
      → Each Plain (port_names (full_ports last ps))
  ports-plain last [] h = tt
  ports-plain last (p ∷ ps) h =
      let q : Option FullPort = full_port last p.kind in
      subst (Each Plain) (sym (names-append q (full_ports q ps)))
      (port-plain q (port_names (full_ports q ps)) (kind-named last p.kind h.0) (ports-plain q ps h.1))

written-ports : (ps : Option (List Port)) → full_ports None (written_ports ps) ≡ ports_of ps
written-ports None = refl
written-ports (Some ps) = refl

written-plain : (ps : Option (List Port)) → AreOptionalPorts ps → Each IsPort (written_ports ps)
written-plain None h = tt
written-plain (Some ps) h = all-each IsPort ps h.1

good-ports : (ms : List Module) (at : Place) (u : Use) (ps : Option (List Port)) → AreOptionalPorts ps
    → AreFine ms (port_steps at u None (written_ports ps))
    → Good (Under at.path (Has (port_names (ports_of ps)))) (full_names (port_steps at u None (written_ports ps)))
good-ports ms at u ps w h =
    let xs : List Port = written_ports ps in
    let ns : List (List ℕ) = port_names (full_ports None xs) in
    let H : List ℕ → Type 0 = Has (port_names (ports_of ps)) in
    let plain : Each Plain ns = ports-plain None xs (written-plain ps w) in
    let new : AreNew at.earlier ns = ports-new ms at u None xs h in
    let each : Each (λ m. H (until is_mark m)) ns = each-of (λ m. H (until is_mark m)) ns (λ m k.
    subst (λ ps. Has (port_names ps) (until is_mark m)) (written-ports ps)
    (subst (Has ns) (sym (until-free is_mark m (each-has Plain ns m plain k))) k)) in
    subst (Good (Under at.path H)) (sym (ports-under at u None xs)) (good-under at.path H ns each new.different)

-- ---- the module

module-apart : (m : Module) (h : List ℕ) → Has (port_names (ports_of m.ports)) h
    → ItemsHead (module_names m) (parameter_names (module_parameters m) ++ port_names (ports_of m.ports)) 1 h → ⊥
module-apart m h a q =
    let ports : List (List ℕ) = port_names (ports_of m.ports) in
    let parameters : List (List ℕ) = parameter_names (module_parameters m) in
    ⊎_elim (λ (b : IsNew (module_names m) (parameters ++ ports) h). clash a (lacks-back parameters ports h b.new))
    (λ (b : IsBehind (module_names m) 1 h).
    not-numbered (module_names m) b.number h b.is
    (has-front (parameters ++ ports) (all_names (items m.items)) h (has-back parameters ports h a))) q

good-front : (P : List ℕ → Type 0) (xs ys : List Step) → full_names xs ≡ [] → Good P (full_names ys)
    → Good P (full_names (xs ++ ys))
good-front P xs ys e g = subst (Good P) (sym (full-append xs ys ∙ ap (λ l. l ++ full_names ys) e)) g

module _ (ms : List Module) (formed : All IsModule ms) where
  pub good-unfolded : (n : ℕ) → Given ms (λ m u path modules before. unfolded n ms m u path modules before)
  good-unfolded zero m u path modules before w e h l = good-none (Under path Any)
  good-unfolded (suc n) m u path modules before w e h l =
      let at : Place = module_place m u path modules in
      let inner : Unfolding = λ m u path modules before. unfolded n ms m u path modules before in
      let names : List (List ℕ) = parameter_names (module_parameters m) in
      let at_ports : Place = with_earlier at names in
      let at_items : Place = with_earlier at (names ++ port_names (ports_of m.ports)) in
      let head : List Step = header_steps at (module_parameters m) in
      let ports : List Step = port_steps at_ports u None (written_ports m.ports) in
      let rest : List Step = items_steps ms inner (items m.items) at_items 1 in
      let P : List ℕ → Type 0 = Under path (Has (port_names (ports_of m.ports))) in
      let clear_ports : AreClear ms ports = back (IsClear ms) (before ++ head) ports
      (front (IsClear ms) (before ++ head ++ ports) rest h) in
      let fine_ports : AreFine ms ports = each_map (λ x k. k.0) ports clear_ports in
      let no_names : full_names (before ++ head) ≡ []
      = full-append before head ∙ (λ i. e i ++ headers-none at (module_parameters m) i) in
      let here : Each (Has (module_names m)) (all_names (items m.items))
      = each-of (Has (module_names m)) (all_names (items m.items))
      (λ text k. has-back (names ++ port_names (ports_of m.ports)) (all_names (items m.items)) text k) in
      good-both P (Under path (ItemsHead (module_names m) (names ++ port_names (ports_of m.ports)) 1)) (Under path Any)
      (before ++ head ++ ports) rest (under-apart path (module-apart m)) (under-map path (λ h p. tt))
      (under-map path (λ h p. tt))
      (good-front P (before ++ head) ports no_names (good-ports ms at_ports u m.ports w.2 fine_ports))
      (good-items ms formed inner (good-unfolded n) (items m.items) at_items 1 w.4 here positive-one
      (few-back 1 (before ++ head ++ ports) rest l) (back (IsClear ms) (before ++ head ++ ports) rest h))
