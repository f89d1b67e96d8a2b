-- No simple wrapper is refused that is small enough.
use Rattle.std.specs.Prelude.{◌≡◌, refl, ℕ, ◌+◌, ◌≤◌, List, [], ◌∷◌, ◌++◌, length, Bool, true, false, Option, None}
use Rattle.std.specs.Prelude.{Some, bytes_eq, codes, if◌then◌else◌}
use Rattle.std.proofs.Common.{ap, sym, ◌∙◌, subst, arith}
use Rattle.fv_text.specs.declared.pos.Pos.{Pos}
use Rattle.vl_tree.specs.declared.declaration.Direction.{Direction}
use Rattle.vl_tree.specs.declared.declaration.Direction.TheVariants as direction
use Rattle.vl_tree.specs.declared.declaration.FullPort.{FullPort}
use Rattle.vl_tree.specs.declared.declaration.Port.{Port}
use Rattle.vl_tree.specs.declared.declaration.PortKind.{PortKind}
use Rattle.vl_tree.specs.declared.declaration.PortKind.TheVariants.{Full, Short}
use Rattle.vl_tree.specs.declared.part.Assignment.{Assignment}
use Rattle.vl_tree.specs.declared.source.Module.{Module}
use Rattle.vl_tree.specs.Item.{Item, assign, items}
use Rattle.vl_size.specs.declared.decl.Class.TheVariants as class
use Rattle.vl_mean.specs.Cells.{contains_name}
use Rattle.vl_mean.specs.Declarations.{class_of_port, full_ports, ports_of}
use Rattle.vl_mean.specs.Parts.{assignments, design, optional_value, port_kind, step_parts}
use Rattle.vl_mean.specs.Runs.{Each}
use Rattle.vl_mean.specs.Scopes.{Scope}
use Rattle.vl_mean.specs.Walk.{Place, Step, Unfolding, Valued, all_valued, items_walk, module_place, port, port_names}
use Rattle.vl_mean.specs.Walk.{port_steps, top_input, walk, walk_by, with_earlier, written_ports}
use Rattle.vl_elab_spec.specs.declared.elab_fault.ElabFault.TheVariants as f
use Rattle.vl_elab_spec.specs.Expressions.{refused_if}
use Rattle.vl_elab_spec.specs.Items.{given_value, port_net}
use Rattle.vl_elab_spec.specs.Meanings.{Names, is_variable_class}
use Rattle.vl_elab_spec.specs.Items.{is_valued}
use Rattle.vl_elab_spec.specs.Refused.{first_refused, judged_walk, or_later, refusal, state_bits, too_many_bits}
use Rattle.rvf_simple.specs.SimpleTrees.{AreNew, IsSimple, IsSimpleItem, IsSimpleKind, IsSimplePort}
use Rattle.rvf_simple.specs.SimpleTrees.{items_nodes, ports_nodes, wrapper_nodes, wrapper_ports}
use Rattle.rvf_simple.proofs.Named.{names, port_meant, top_use, wrapper}
use Rattle.rvf_simple.proofs.Steps.{HoldsNone, IsUnrefused, all_names, all_nodes, each_both, names_both, no_bits}
use Rattle.rvf_simple.proofs.Steps.{nodes_both, steps_hold_none, unrefused_steps}
use Rattle.rvf_simple.proofs.Values.{assignments_fine, range_fine, width_fine}

-- none is refused by itself, none declares a variable, and they have so many nodes and names
record AreHarmless (ms : List Module) (xs : List Step) (nodes declares : ℕ) : Type 0 where
  unrefused : Each (IsUnrefused ms) xs
  held : Each (λ x. Each HoldsNone (step_parts x)) xs
  nodes_are : all_nodes xs ≡ nodes
  names_are : all_names xs ≡ declares

-- ---- ports

not_variable : (b c : Bool)
    → is_variable_class (if b then class.Clock else if c then class.Reset else class.Input) ≡ false
not_variable true c = refl
not_variable false true = refl
not_variable false false = refl

port_class : (q : FullPort) (way : Direction) → is_variable_class (class_of_port top_input q way None) ≡ false
port_class q direction.Input = not_variable (bytes_eq q.name (codes "clock")) (bytes_eq q.name (codes "reset"))
port_class q direction.Output = refl

port_held : (q : FullPort) (ss : List Scope) → IsSimplePort q
    → (is_variable_class (class_of_port top_input q q.direction q.net) ≡ false)
    × Each HoldsNone (optional_value ss (port_kind q.net) q.name q.value)
port_held q ss h = (
  ap (λ k. is_variable_class (class_of_port top_input q q.direction k)) h.no_net ∙ port_class q q.direction,
  subst (λ v. Each HoldsNone (optional_value ss (port_kind q.net) q.name v)) (sym h.no_value) tt,
)

ports_are : (ports : Option (List Port)) → full_ports None (written_ports ports) ≡ ports_of ports
ports_are None = refl
ports_are (Some ps) = refl

-- ---- assignments

equations_hold : (ss : List Scope) (xs : List Assignment) → Each HoldsNone (assignments ss xs)
equations_hold ss [] = tt
equations_hold ss (x ∷ xs) = (tt, equations_hold ss xs)

module _ (ms : List Module) (pos : Pos) (ports : Option (List Port)) (xs : List Item) where
  -- where all of it stands, behind these names
  abbrev top_place : List (List ℕ) → Place
  top_place earlier = with_earlier (module_place (wrapper pos ports xs) top_use [] []) earlier

  port_unrefused : (earlier : List (List ℕ)) (p : Port) (q : FullPort) → IsSimplePort q
      → contains_name earlier q.name ≡ false → IsUnrefused ms (port (top_place earlier) top_use p q)
  port_unrefused earlier p q simple new =
      let ns : List Names = names pos ports xs in
      λ i. refused_if (new i) (f.Twice q.name p.pos) ++ range_fine ns q.shape.range simple.range i
      ++ width_fine ns p.pos q.shape.range simple.range i
      ++ given_value ns p.pos (port_net q.net) q.name (simple.no_value i)

  ports_harmless : (earlier : List (List ℕ)) (last : Option FullPort) (ps : List Port)
      → Each (λ p. IsSimpleKind p.kind) ps → AreNew earlier (port_names (full_ports last ps))
      → AreHarmless ms (port_steps (top_place earlier) top_use last ps) (ports_nodes (full_ports last ps))
      (length (full_ports last ps))
  ports_harmless earlier last [] h new =
      record { unrefused = tt; held = tt; nodes_are = refl; names_are = refl }
  ports_harmless earlier last (p ∷ ps) h new =
      by p.pos p.kind h.0 new (λ q new. ports_harmless (earlier ++ q.name ∷ []) (Some q) ps h.1 new)
    where
      by : (p : Pos) (kind : PortKind) → IsSimpleKind kind
          → AreNew earlier (port_names (full_ports last ((record { pos = p; kind = kind }) ∷ ps)))
          → ((q : FullPort) → AreNew (earlier ++ q.name ∷ []) (port_names (full_ports (Some q) ps))
          → AreHarmless ms (port_steps (top_place (earlier ++ q.name ∷ [])) top_use (Some q) ps)
          (ports_nodes (full_ports (Some q) ps)) (length (full_ports (Some q) ps)))
          → AreHarmless ms (port_steps (top_place earlier) top_use last ((record { pos = p; kind = kind }) ∷ ps))
          (ports_nodes (full_ports last ((record { pos = p; kind = kind }) ∷ ps)))
          (length (full_ports last ((record { pos = p; kind = kind }) ∷ ps)))
      by p (Full q) simple new rest =
          let more = rest q new.1 in
          record {
            unrefused = (port_unrefused earlier (record { pos = p; kind = Full q }) q simple new.0, more.unrefused);
            held = (port_held q (top_place earlier).scopes simple, more.held);
            nodes_are = omega (arith, more.nodes_are);
            names_are = omega (arith, more.names_are);
          }
      by p (Short text value) simple new rest = absurd simple

  module _ (each : Each (λ p. IsSimpleKind p.kind) (written_ports ports))
      (assigns : Each (IsSimpleItem (ports_of ports)) xs)
    where
      items_harmless : (valued : Valued) (inner : Unfolding) (earlier : List (List ℕ)) (n : ℕ) (ys : List Item)
          → Each (IsSimpleItem (ports_of ports)) ys
          → AreHarmless ms (items_walk valued ms inner (items ys) (top_place earlier) n) (items_nodes ys) 0
      items_harmless valued inner earlier n [] h =
          record { unrefused = tt; held = tt; nodes_are = refl; names_are = refl }
      items_harmless valued inner earlier n (assign attrs p zs ∷ ys) h =
          let more = items_harmless valued inner (earlier ++ []) (n + 0) ys h.1 in
          record {
            unrefused = (
              assignments_fine (names pos ports xs) (ports_of ports) (port_meant pos ports xs each assigns) zs h.0,
              more.unrefused,
            );
            held = (equations_hold (top_place earlier).scopes zs, more.held);
            nodes_are = omega (arith, more.nodes_are);
            names_are = omega (arith, more.names_are);
          }
      items_harmless valued inner earlier n (y ∷ ys) h = absurd h.0

      -- all steps
      all_harmless : (valued : Valued) (inner : Unfolding) → AreNew [] (port_names (ports_of ports))
          → AreHarmless ms (port_steps (top_place []) top_use None (written_ports ports)
          ++ items_walk valued ms inner (items xs) (top_place (port_names (ports_of ports))) 1)
          (ports_nodes (ports_of ports) + items_nodes xs) (length (ports_of ports))
      all_harmless valued inner new =
          let steps : List Step = port_steps (top_place []) top_use None (written_ports ports) in
          let more : List Step = items_walk valued ms inner (items xs) (top_place (port_names (ports_of ports))) 1 in
          let first : AreHarmless ms steps (ports_nodes (ports_of ports)) (length (ports_of ports))
          = subst (λ qs. AreHarmless ms steps (ports_nodes qs) (length qs)) (ports_are ports)
          (ports_harmless [] None (written_ports ports) each
          (subst (λ qs. AreNew [] (port_names qs)) (sym (ports_are ports)) new)) in
          let rest : AreHarmless ms more (items_nodes xs) 0
          = items_harmless valued inner (port_names (ports_of ports)) 1 xs assigns in
          record {
            unrefused = each_both (IsUnrefused ms) steps more first.unrefused rest.unrefused;
            held = each_both (λ x. Each HoldsNone (step_parts x)) steps more first.held rest.held;
            nodes_are = omega (arith, nodes_both steps more, first.nodes_are, rest.nodes_are);
            names_are = omega (arith, names_both steps more, first.names_are, rest.names_are);
          }

-- ---- the whole

abbrev top : List ℕ
top = codes "rvfi_wrapper"

unrefused_walk : (ms : List Module) (nodes declares : ℕ)
    → ((valued : Valued) → AreHarmless ms (walk_by valued ms top) nodes declares)
    → nodes ≤ 4000000 → declares ≤ 200000
    → or_later (first_refused ms (record { nodes = 0; names = 0 }) (judged_walk ms top))
    (too_many_bits (state_bits (design ms top) (design ms top)))
    ≡ None
unrefused_walk ms nodes declares h small few =
    let judged : AreHarmless ms (judged_walk ms top) nodes declares = h is_valued in
    let first : first_refused ms (record { nodes = 0; names = 0 }) (judged_walk ms top) ≡ None
    = unrefused_steps ms (record { nodes = 0; names = 0 }) (judged_walk ms top) judged.unrefused
    (omega (arith, judged.nodes_are, small)) (omega (arith, judged.names_are, few)) in
    let bits : state_bits (design ms top) (design ms top) ≡ 0
    = no_bits (design ms top) (design ms top) (steps_hold_none (walk ms top) (h all_valued).held) in
    λ i. or_later (first i) (too_many_bits (bits i))

wrapper_unrefused : (pos : Pos) (ports : Option (List Port)) (xs : List Item)
    → Each (λ p. IsSimpleKind p.kind) (written_ports ports) → AreNew [] (port_names (ports_of ports))
    → Each (IsSimpleItem (ports_of ports)) xs → length (ports_of ports) ≤ 200000
    → ports_nodes (ports_of ports) + items_nodes xs ≤ 4000000
    → refusal (wrapper pos ports xs ∷ []) top ≡ None
wrapper_unrefused pos ports xs each new assigns few small =
    unrefused_walk (wrapper pos ports xs ∷ []) (ports_nodes (ports_of ports) + items_nodes xs)
    (length (ports_of ports))
    (λ valued. all_harmless (wrapper pos ports xs ∷ []) pos ports xs each assigns valued
    (λ m u path modules front. []) new) small few

-- Elaboration refuses no simple wrapper with at most 200,000 ports and 4,000,000 nodes.
pub simple_unrefused : (ms : List Module) → IsSimple ms → wrapper_ports ms ≤ 200000 → wrapper_nodes ms ≤ 4000000
    → refusal ms (codes "rvfi_wrapper") ≡ None
simple_unrefused [] h few small = absurd h
simple_unrefused (m ∷ []) h few small =
    subst (λ x. refusal (x ∷ []) top ≡ None)
    (λ i. record {
      pos = m.pos;
      name = sym h.named i;
      parameters = sym h.no_parameters i;
      ports = m.ports;
      items = m.items;
    })
    (wrapper_unrefused m.pos m.ports m.items h.ports h.differ h.items (omega (arith, few)) (omega (arith, small)))
simple_unrefused (m ∷ n ∷ ms) h few small = absurd h
