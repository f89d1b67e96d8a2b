-- An instance that gives nothing to a module that has nothing has no steps within it.
use Rattle.std.specs.Prelude.{◌≡◌, ℕ, ◌==◌, List, [], ◌∷◌, ◌++◌, length, Bool, true, false, ◌&&◌, None}
use Rattle.std.proofs.Common.{refl, arith}
use Rattle.std.proofs.lemmas.Bool.Decides.{nat_tests}
use Rattle.std.proofs.lemmas.List.{nil_from_length}
use Rattle.vl_tree.specs.declared.part.Instance.{Instance}
use Rattle.vl_tree.specs.declared.source.Module.{Module}
use Rattle.vl_tree.specs.Item.{items}
use Rattle.vl_mean.specs.Declarations.{header_parameters}
use Rattle.vl_mean.specs.Walk.{Place, Unfolding, Use, connections_of, connection_steps, header_of, header_steps}
use Rattle.vl_mean.specs.Walk.{items_walk, module_place, module_scope, override_steps, parameter_names, port_steps}
use Rattle.vl_mean.specs.Walk.{with_earlier, written_ports}
use Rattle.vl_elab_spec.specs.Items.{is_valued}
use Rattle.vl_elab_spec.specs.Within.{behind_head, front_steps, opened_walk}
use Rattle.vl_elab_check.specs.Bare.{gives_nothing, has_nothing, is_bare}

both : (a b : Bool) → (a && b) ≡ true → (a ≡ true) × (b ≡ true)
both true true e = (refl, refl)
both true false e = cc
both false b e = cc

empty : {A : Type 0} (xs : List A) → (length xs == 0) ≡ true → xs ≡ []
empty xs e = nil_from_length xs (grind (arith, nat_tests, e))

pub bare_steps : (ms : List Module) (inner : Unfolding) (at : Place) (m : Module) (u : Use) (text : List ℕ)
    (x : Instance) → is_bare m x ≡ true
    → front_steps at m u text x ++ opened_walk is_valued ms inner (module_place m u text at.modules) m u ≡ []
bare_steps ms inner at m u text x e =
    let h = both (has_nothing m) (gives_nothing x) e in
    let own = both (length m.items == 0) (length (written_ports m.ports) == 0 && length (header_of m.parameters) == 0)
    h.0 in
    let head = both (length (written_ports m.ports) == 0) (length (header_of m.parameters) == 0) own.1 in
    let given = both (length (connections_of x.overrides) == 0) (length x.connections == 0) h.1 in
    let place : Place = module_place m u text at.modules in
    let overrides = empty (connections_of x.overrides) given.0 in
    let joined = empty x.connections given.1 in
    let parameters = empty (header_of m.parameters) head.1 in
    let ports = empty (written_ports m.ports) head.0 in
    let inside = empty m.items own.0 in
    λ i. (override_steps at m u [] (overrides i)
    ++ connection_steps at m u (module_scope m u text ∷ []) [] (joined i))
    ++ ((header_steps place (header_parameters (parameters i))
    ++ port_steps (with_earlier place (parameter_names (header_parameters (parameters i)))) u None (ports i))
    ++ items_walk is_valued ms inner (items (inside i)) (behind_head place m) 1)
