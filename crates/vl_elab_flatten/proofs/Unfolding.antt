-- What is seen of instances, and of the modules in them.
use Rattle.std.specs.Prelude.{◌≡◌, refl, ℕ, ◌-◌, ◌<◌, List, [], ◌∷◌, ◌++◌, length, codes, Option, Some, None}
use Rattle.std.proofs.Common.{ap, sym, ◌∙◌, subst}
use Rattle.vl_tree.specs.declared.declaration.Port.{Port}
use Rattle.vl_tree.specs.declared.part.Instance.{Instance}
use Rattle.vl_tree.specs.declared.source.Module.{Module}
use Rattle.vl_tree.specs.Item.{Item, items}
use Rattle.vl_size.specs.declared.decl.Decl.{Decl}
use Rattle.vl_mean.specs.Declarations.{declared, declared_ports, full_ports, ports_of}
use Rattle.vl_mean.specs.Runs.{Each}
use Rattle.vl_mean.specs.Walk.{has_any}
use Rattle.vl_mean.specs.Walk.{
  Place,
  Step,
  Use,
  all_valued,
  connection_steps,
  connections_of,
  header_steps,
  items_steps,
  module_around,
  module_named,
  module_parameters,
  module_place,
  module_scope,
  override_steps,
  parameter_names,
  port_steps,
  unfolded,
  use_of,
  with_earlier,
  with_module,
  written_ports,
}
use Rattle.vl_mean_flat.proofs.EachOf.{back}
use Rattle.vl_mean_flat.specs.Seen.{Seen, parts_of_seen, seen_steps}
use Rattle.vl_mean_flat.proofs.Places as placed
use Rattle.vl_elab_spec.specs.Within.{behind_head, front_steps, module_steps}
use Rattle.vl_elab_spec.proofs.Unfolded.{instance_found, none_unfolded, one_unfolded}
use Rattle.vl_elab_draft.specs.Written.{Written}
use Rattle.vl_elab_const.specs.Openable.{IsOpenable}
use Rattle.vl_elab_flatten.specs.declared.modules.Opened.{Opened}
use Rattle.vl_elab_flatten.specs.Here.{around_of, place_in}
use Rattle.vl_elab_flatten.specs.Modules.{IsModuleOpened}
use Rattle.vl_elab_flatten.specs.PortParts.{placed_connections, placed_ports}
use Rattle.vl_elab_flatten.proofs.StepParts.{placed_headers, placed_joins, placed_overrides, ports_parts, ports_places}
use Rattle.vl_elab_emit.specs.Behind.{MayStandBehind, Placed, StandBehind, followed_by, placed_steps}
use Rattle.vl_elab_emit.proofs.Standing.{both_behind, may_back, may_front}
use Rattle.vl_elab_flatten.specs.Ready.{CanBeOpened, IsReady, Writes, design_seen, instance_seen, items_seen}
use Rattle.vl_elab_flatten.specs.Ready.{opened_seen}
use Rattle.vl_elab_flatten.specs.Ready.{place_of, placed_seen, top_use}
use Rattle.vl_elab_flatten.proofs.Opening.{module_opens}
use Rattle.vl_elab_flatten.proofs.Seens.{placed_append, seen_append, steps_seen}

steps_append : (xs ys : List Step)
    → placed_steps (xs ++ ys) ≡ followed_by (placed_steps xs) (placed_steps ys)
steps_append xs ys =
    steps_seen (xs ++ ys) ∙ ap placed_seen (seen_append xs ys) ∙ placed_append (seen_steps xs) (seen_steps ys)
    ∙ (λ i. followed_by (sym (steps_seen xs) i) (sym (steps_seen ys) i))

ports_written : (o : Option (List Port)) → full_ports None (written_ports o) ≡ ports_of o
ports_written None = refl
ports_written (Some ps) = refl

module _ (ms : List Module) (depth : ℕ) (m : Module) (u : Use) (path : List ℕ) (modules : List (List ℕ)) where
  abbrev at : Place
  at = module_place m u path modules

  abbrev headers : List Step
  headers = header_steps at (module_parameters m)

  abbrev ports : List Step
  ports = port_steps (with_earlier at (parameter_names (module_parameters m))) u None (written_ports m.ports)

  abbrev rest : List Step
  rest = items_steps ms (unfolded depth ms) (items m.items) (behind_head at m) 1

  module _ (o : Opened) (is : IsModuleOpened m u path o) where
    items_here : seen_steps rest ≡ items_seen ms depth (items m.items) (place_of o.here) 1
    items_here =
        placed.items_seen ms depth (items m.items) (behind_head at m) 1 [] [] []
        ∙ (λ i. items_seen ms depth (items m.items)
        (place_in (sym is.scopes i) (sym is.path_is i) (sym is.names i)) 1)

    declared_here : declared_ports (module_around m u) u.is_top u.input (full_ports None (written_ports m.ports))
        ≡ o.ports
    declared_here =
        ap (declared_ports (module_around m u) u.is_top u.input) (ports_written m.ports) ∙ sym is.ports

    ports_here : placed_steps ports
        ≡ placed_ports o.here.scopes o.here.path o.ports (written_ports m.ports)
    ports_here =
        let there = with_earlier at (parameter_names (module_parameters m)) in
        (λ i. record {
          parts = ports_parts there u None (written_ports m.ports) i;
          places = ports_places there u None (written_ports m.ports) i;
        })
        ∙ (λ i. placed_ports (sym is.scopes i) (sym is.path_is i) (declared_here i) (written_ports m.ports))

    pub module_placed : placed_seen (seen_steps (module_steps ms (unfolded depth ms) at m u))
        ≡ placed_seen (opened_seen ms depth m o)
    module_placed =
        ap placed_seen (seen_append (headers ++ ports) rest)
        ∙ placed_append (seen_steps (headers ++ ports)) (seen_steps rest)
        ∙ (λ i. followed_by ((sym (steps_seen (headers ++ ports)) ∙ steps_append headers ports
        ∙ ap (λ ps. followed_by ps (placed_steps ports)) (placed_headers at (module_parameters m)) ∙ ports_here) i)
        (placed_seen (items_here i)))

    pub module_openable : Each CanBeOpened (seen_steps (module_steps ms (unfolded depth ms) at m u))
        → Each CanBeOpened (opened_seen ms depth m o)
    module_openable h = (
      tt,
      subst (Each CanBeOpened) items_here (back CanBeOpened (seen_steps (headers ++ ports)) (seen_steps rest)
          (subst (Each CanBeOpened) (seen_append (headers ++ ports) rest) h)),
    )

    pub opened_declares : o.decls ≡ declared (around_of o.here.scopes) (items m.items)
    opened_declares = is.decls ∙ ap (λ ss. declared (around_of ss) (items m.items)) (sym is.scopes)

-- ---- an instance

module _ (ms : List Module) (depth : ℕ) (x : Instance) (at : Place) where
  abbrev u : Use
  u = use_of has_any at.scopes x

  abbrev inside : List ℕ
  inside = at.path ++ x.name ++ codes "."

  pub none_found : None ≡ module_named ms x.definition → instance_seen ms depth x at ≡ []
  none_found e = ap seen_steps (sym (instance_found all_valued ms (unfolded depth ms) at x None (sym e)))

  module _ (m : Module) (found : Some m ≡ module_named ms x.definition) where
    pub too_deep : depth ≡ 0 → instance_seen ms depth x at ≡ []
    too_deep e =
        ap seen_steps (sym (instance_found all_valued ms (unfolded depth ms) at x (Some m) (sym found))
        ∙ none_unfolded all_valued ms depth m u inside at.modules (front_steps at m u inside x) e)

    module _ (positive : 0 < depth) where
      abbrev fronts : List Step
      fronts = front_steps at m u inside x

      abbrev steps : List Step
      steps = module_steps ms (unfolded (depth - 1) ms) (module_place m u inside at.modules) m u

      both : instance_seen ms depth x at ≡ seen_steps fronts ++ seen_steps steps
      both =
          ap seen_steps (sym (instance_found all_valued ms (unfolded depth ms) at x (Some m) (sym found))
          ∙ sym (one_unfolded all_valued ms depth m u inside at.modules fronts positive))
          ∙ seen_append fronts steps

      openable : (w : Written) → IsReady w (instance_seen ms depth x at) → Each CanBeOpened (seen_steps steps)
      openable w h = back CanBeOpened (seen_steps fronts) (seen_steps steps) (subst (Each CanBeOpened) both h.openable)

      pub instance_opens : (w : Written) → IsReady w (instance_seen ms depth x at)
          → IsOpenable (module_scope m u inside)
      instance_opens w h = module_opens ms (depth - 1) m u inside at.modules (openable w h)

      fronts_are : placed_steps fronts ≡ placed_connections at.scopes (module_scope m u inside ∷ []) m x.connections
      fronts_are =
          let given = override_steps at m u [] (connections_of x.overrides) in
          let joined = connection_steps at m u (module_scope m u inside ∷ []) [] x.connections in
          steps_append given joined
          ∙ ap (λ ps. followed_by ps (placed_steps joined))
          (placed_overrides at m u [] (connections_of x.overrides))
          ∙ placed_joins at m u (module_scope m u inside ∷ []) [] x.connections

      module _ (o : Opened) (is : IsModuleOpened m u inside o) where
        abbrev joins : Placed
        joins = placed_connections at.scopes o.here.scopes m x.connections

        placed_instance : placed_seen (instance_seen ms depth x at)
            ≡ followed_by joins (placed_seen (opened_seen ms (depth - 1) m o))
        placed_instance =
            ap placed_seen both ∙ placed_append (seen_steps fronts) (seen_steps steps)
            ∙ (λ i. followed_by ((sym (steps_seen fronts) ∙ fronts_are
            ∙ ap (λ ss. placed_connections at.scopes ss m x.connections) (sym is.scopes)) i)
            (module_placed ms (depth - 1) m u inside at.modules o is i))

        pub opened_ready : (w v : Written) → IsReady w (instance_seen ms depth x at) → StandBehind w joins v
            → IsReady v (opened_seen ms (depth - 1) m o)
        opened_ready w v h k = record {
          openable = module_openable ms (depth - 1) m u inside at.modules o is (openable w h);
          may = may_back w v joins (parts_of_seen (opened_seen ms (depth - 1) m o))
              (subst (MayStandBehind w) (ap (λ (xs : Placed). xs.parts) placed_instance) h.may) k;
        }

        pub instance_written : (w v t : Written) → StandBehind w joins v
            → Writes v (opened_seen ms (depth - 1) m o) t → Writes w (instance_seen ms depth x at) t
        instance_written w v t h k =
            subst (λ ps. StandBehind w ps t) (sym placed_instance)
            (both_behind w v t joins (placed_seen (opened_seen ms (depth - 1) m o)) h k)

-- ---- a module that is opened

module _ (ms : List Module) (depth : ℕ) (m : Module) (o : Opened) (ps : List Port) (ds : List Decl)
    (ps_are : ps ≡ written_ports m.ports) (ds_are : ds ≡ o.ports) where
  abbrev ports_placed : Placed
  ports_placed = placed_ports o.here.scopes o.here.path ds ps

  abbrev within : List Seen
  within = items_seen ms depth (items m.items) (place_of o.here) 1

  two : placed_seen (opened_seen ms depth m o) ≡ followed_by ports_placed (placed_seen within)
  two = λ i.
      followed_by (placed_ports o.here.scopes o.here.path (sym ds_are i) (sym ps_are i)) (placed_seen within)

  two_parts : parts_of_seen (opened_seen ms depth m o) ≡ ports_placed.parts ++ parts_of_seen within
  two_parts = ap (λ (xs : Placed). xs.parts) two

  pub ports_may : (w : Written) → IsReady w (opened_seen ms depth m o) → MayStandBehind w ports_placed.parts
  ports_may w h = may_front w ports_placed.parts (parts_of_seen within) (subst (MayStandBehind w) two_parts h.may)

  module _ (xs : List Item) (xs_are : xs ≡ m.items) where
    same_items : within ≡ items_seen ms depth (items xs) (place_of o.here) 1
    same_items = ap (λ ys. items_seen ms depth (items ys) (place_of o.here) 1) (sym xs_are)

    pub within_ready : (w v : Written) → IsReady w (opened_seen ms depth m o) → StandBehind w ports_placed v
        → IsReady v (items_seen ms depth (items xs) (place_of o.here) 1)
    within_ready w v h k = subst (IsReady v) same_items (record {
      openable = h.openable.1;
      may = may_back w v ports_placed (parts_of_seen within) (subst (MayStandBehind w) two_parts h.may) k;
    })

    pub opened_written : (w v t : Written) → StandBehind w ports_placed v
        → Writes v (items_seen ms depth (items xs) (place_of o.here) 1) t → Writes w (opened_seen ms depth m o) t
    opened_written w v t h k =
        subst (λ qs. StandBehind w qs t) (sym two)
        (both_behind w v t ports_placed (placed_seen within) h
        (subst (λ ys. Writes v ys t) (sym same_items) k))

-- ---- the top module

module _ (ms : List Module) (top : List ℕ) where
  abbrev steps_of : Option Module → List Step
  steps_of o = with_module o (λ m. unfolded (length ms) ms m top_use [] [] [])

  pub no_top : None ≡ module_named ms top → design_seen ms top ≡ []
  no_top e = ap (λ o. seen_steps (steps_of o)) (sym e)

  module _ (m : Module) (found : Some m ≡ module_named ms top) (positive : 0 < length ms) where
    abbrev top_steps : List Step
    top_steps = module_steps ms (unfolded (length ms - 1) ms) (module_place m top_use [] []) m top_use

    whole : design_seen ms top ≡ seen_steps top_steps
    whole =
        ap (λ o. seen_steps (steps_of o)) (sym found)
        ∙ ap seen_steps (sym (one_unfolded all_valued ms (length ms) m top_use [] [] [] positive))

    top_open : (w : Written) → IsReady w (design_seen ms top) → Each CanBeOpened (seen_steps top_steps)
    top_open w h = subst (Each CanBeOpened) whole h.openable

    pub top_opens : (w : Written) → IsReady w (design_seen ms top) → IsOpenable (module_scope m top_use [])
    top_opens w h = module_opens ms (length ms - 1) m top_use [] [] (top_open w h)

    module _ (o : Opened) (is : IsModuleOpened m top_use [] o) where
      placed_top : placed_seen (design_seen ms top) ≡ placed_seen (opened_seen ms (length ms - 1) m o)
      placed_top = ap placed_seen whole ∙ module_placed ms (length ms - 1) m top_use [] [] o is

      pub top_ready : (w : Written) → IsReady w (design_seen ms top) → IsReady w (opened_seen ms (length ms - 1) m o)
      top_ready w h = record {
        openable = module_openable ms (length ms - 1) m top_use [] [] o is (top_open w h);
        may = subst (MayStandBehind w) (ap (λ (xs : Placed). xs.parts) placed_top) h.may;
      }

      pub top_written : (w v : Written) → Writes w (opened_seen ms (length ms - 1) m o) v
          → Writes w (design_seen ms top) v
      top_written w v h = subst (λ ps. StandBehind w ps v) (sym placed_top) h
