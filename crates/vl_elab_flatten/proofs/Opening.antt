-- Scopes that are entered can be opened, since the steps in them can.
use Rattle.std.specs.Prelude.{◌≡◌, refl, ℕ, ◌+◌, List, [], ◌∷◌, ◌++◌, ◌⊎◌, Option, Some, None, option_to_list}
use Rattle.std.proofs.Common.{ap, sym, ◌∙◌, subst, inl, inr}
use Rattle.vl_tree.specs.declared.declaration.FullPort.{FullPort}
use Rattle.vl_tree.specs.declared.declaration.Parameter.{Parameter}
use Rattle.vl_tree.specs.declared.declaration.Port.{Port}
use Rattle.vl_tree.specs.declared.source.Module.{Module}
use Rattle.vl_tree.specs.Item.{Item, Items, items, more_items, no_items}
use Rattle.vl_mean.specs.Declarations.{constructs, declared, declared_ports, full_port, full_ports, ports_of}
use Rattle.vl_mean.specs.Declarations.{with_constants, with_items_parameters, with_parameters}
use Rattle.vl_mean.specs.Runs.{Each}
use Rattle.vl_mean.specs.Scopes.{Scope}
use Rattle.vl_mean.specs.Walk.{
  Place,
  Use,
  block_place,
  header_steps,
  items_steps,
  module_parameters,
  module_place,
  module_scope,
  optional_name,
  parameter_names,
  port_step,
  port_steps,
  unfolded,
  with_earlier,
  written_ports,
}
use Rattle.vl_mean_flat.proofs.EachOf.{back, front}
use Rattle.vl_mean_flat.specs.Seen.{seen_steps}
use Rattle.vl_elab_spec.specs.Within.{behind_head, module_steps}
use Rattle.vl_elab_const.specs.Openable.{AreOpenable, IsOpenable}
use Rattle.vl_elab_flatten.specs.Here.{block_scope}
use Rattle.vl_elab_flatten.specs.Ready.{CanBeOpened, item_seen, items_seen, scope_seen}
use Rattle.vl_elab_flatten.proofs.Items.{item_split, items_split}
use Rattle.vl_elab_flatten.proofs.Seens.{seen_append}

headers_open : (at : Place) (xs : List Parameter) → Each CanBeOpened (seen_steps (header_steps at xs))
    → (xs ≡ []) ⊎ AreOpenable at.scopes
headers_open at [] h = inl refl
headers_open at (x ∷ xs) h = inr h.0.0

ports_open : (at : Place) (u : Use) (last : Option FullPort) (ps : List Port)
    → Each CanBeOpened (seen_steps (port_steps at u last ps)) → (full_ports last ps ≡ []) ⊎ AreOpenable at.scopes
ports_open at u last [] h = inl refl
ports_open at u last (p ∷ ps) h = by (full_port last p.kind) (λ at q. ports_open at u q ps) h
  where
    by : (q : Option FullPort)
        → ((at : Place) (q : Option FullPort) → Each CanBeOpened (seen_steps (port_steps at u q ps))
        → (full_ports q ps ≡ []) ⊎ AreOpenable at.scopes)
        → Each CanBeOpened (seen_steps (port_step at u p q ++ port_steps (with_earlier at
        (optional_name q)) u q ps))
        → (option_to_list q ++ full_ports q ps ≡ []) ⊎ AreOpenable at.scopes
    by None f h = f (with_earlier at []) None h
    by (Some q) f h = inr h.0.0

module _ (ms : List Module) (depth : ℕ) where
  first_opens : (x : Item) (xs : Items) (at : Place) (n : ℕ)
      → Each CanBeOpened (items_seen ms depth (more_items x xs) at n) → AreOpenable at.scopes
  first_opens x xs at n h =
      (subst (Each CanBeOpened) (item_split ms depth x at n)
      (front CanBeOpened (item_seen ms depth x at n) (items_seen ms depth xs at (n + constructs x))
      (subst (Each CanBeOpened) (items_split ms depth x xs at n) h))).0.0

  items_open : (xs : Items) (at : Place) (n : ℕ) → Each CanBeOpened (items_seen ms depth xs at n)
      → (xs ≡ no_items) ⊎ AreOpenable at.scopes
  items_open no_items at n h = inl refl
  items_open (more_items x xs) at n h = inr (first_opens x xs at n h)

  pub block_opens : (xs : Items) (at : Place) (path : List ℕ)
      → Each CanBeOpened (scope_seen ms depth xs at path) → IsOpenable (block_scope at.scopes path xs)
  block_opens no_items at path h = record { constants = tt; decls = tt; plain = tt; in_range = tt }
  block_opens (more_items x xs) at path h =
      (first_opens x xs (block_place at path (more_items x xs)) 1 h).0

  module _ (m : Module) (u : Use) (path : List ℕ) (modules : List (List ℕ)) where
    abbrev at : Place
    at = module_place m u path modules

    abbrev scope_by : List Parameter → List FullPort → Items → Scope
    scope_by xs ps ys =
        let cs = with_items_parameters u.overrides [] (with_parameters u.overrides [] [] xs) ys in record {
          path = path;
          decls = declared_ports (with_constants cs []) u.is_top u.input ps ++ declared (with_constants cs []) ys;
          constants = cs;
        }

    ports_written : (o : Option (List Port)) → ports_of o ≡ full_ports None (written_ports o)
    ports_written None = refl
    ports_written (Some ps) = refl

    nothing_in_it : module_parameters m ≡ [] → full_ports None (written_ports m.ports) ≡ [] → items m.items ≡ no_items
        → IsOpenable (module_scope m u path)
    nothing_in_it a b c =
        let ps = ports_written m.ports ∙ b in
        let same : scope_by [] [] no_items ≡ module_scope m u path =
        λ i. scope_by (sym a i) (sym ps i) (sym c i) in
        subst IsOpenable same (record { constants = tt; decls = tt; plain = tt; in_range = tt })

    pub module_opens : Each CanBeOpened (seen_steps (module_steps ms (unfolded depth ms) at m u))
        → IsOpenable (module_scope m u path)
    module_opens h =
        let names = parameter_names (module_parameters m) in
        let headers = header_steps at (module_parameters m) in
        let ports = port_steps (with_earlier at names) u None (written_ports m.ports) in
        let rest = items_steps ms (unfolded depth ms) (items m.items) (behind_head at m) 1 in
        let all : Each CanBeOpened (seen_steps (headers ++ ports) ++ seen_steps rest) =
        subst (Each CanBeOpened) (seen_append (headers ++ ports) rest) h in
        let heads : Each CanBeOpened (seen_steps headers ++ seen_steps ports) =
        subst (Each CanBeOpened) (seen_append headers ports)
        (front CanBeOpened (seen_steps (headers ++ ports)) (seen_steps rest) all) in
        by (headers_open at (module_parameters m) (front CanBeOpened (seen_steps headers) (seen_steps ports) heads))
        (ports_open (with_earlier at names) u None (written_ports m.ports)
        (back CanBeOpened (seen_steps headers) (seen_steps ports) heads))
        (items_open (items m.items) (behind_head at m) 1
        (back CanBeOpened (seen_steps (headers ++ ports)) (seen_steps rest) all))
      where
        by : (module_parameters m ≡ []) ⊎ AreOpenable (module_scope m u path ∷ [])
            → (full_ports None (written_ports m.ports) ≡ []) ⊎ AreOpenable (module_scope m u path ∷ [])
            → (items m.items ≡ no_items) ⊎ AreOpenable (module_scope m u path ∷ [])
            → IsOpenable (module_scope m u path)
        by (inl a) (inl b) (inl c) = nothing_in_it a b c
        by (inl a) (inl b) (inr c) = c.0
        by (inl a) (inr b) c = b.0
        by (inr a) b c = a.0
