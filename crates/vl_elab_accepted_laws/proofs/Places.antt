-- In each place of a walk in which nothing is refused no name is one whose own declaration is refused.
use Rattle.std.specs.Prelude.{◌≡◌, refl, ℕ, List, [], ◌∷◌, ◌++◌, map, Bool, true, false, ◌||◌, ◌&&◌, not, bytes_eq}
use Rattle.std.specs.Prelude.{Option, Some, None, option_to_list, is_none, All, if◌then◌else◌}
use Rattle.std.proofs.Common.{ap, sym, ◌∙◌, subst, true≢false}
use Rattle.fv_text.specs.declared.pos.Pos.{Pos}
use Rattle.vl_tree.specs.declared.declaration.FullPort.{FullPort}
use Rattle.vl_tree.specs.declared.declaration.HeaderParameter.{HeaderParameter}
use Rattle.vl_tree.specs.declared.declaration.Parameter.{Parameter}
use Rattle.vl_tree.specs.declared.declaration.ParameterKind.TheVariants as k
use Rattle.vl_tree.specs.declared.declaration.Port.{Port}
use Rattle.vl_tree.specs.declared.declaration.PortKind.{PortKind}
use Rattle.vl_tree.specs.declared.declaration.PortKind.TheVariants as kinds
use Rattle.vl_tree.specs.declared.declaration.Range.{Range}
use Rattle.vl_tree.specs.declared.source.Module.{Module}
use Rattle.vl_tree.specs.DeclarationWellFormed.{IsHeaderParameter, IsOptionalRange, IsParameter, IsPort, IsPortKind}
use Rattle.vl_tree.specs.ExprWellFormed.{IsName, IsValue}
use Rattle.vl_tree.specs.Item.{Items, items}
use Rattle.vl_tree.specs.WellFormed.{AreOptionalParameters, AreOptionalPorts, AreWellFormed, IsModule}
use Rattle.vl_size.specs.declared.decl.Decl.{Decl}
use Rattle.vl_size.specs.Table.{IsShaped}
use Rattle.vl_mean.specs.declared.const_number.Const.{Const}
use Rattle.vl_mean.specs.Cells.{contains_name}
use Rattle.vl_mean.specs.Constants.{Constants, constant_of}
use Rattle.vl_mean.specs.Declarations.{header_parameters, full_port, full_ports, ports_of, port_named, with_parameters}
use Rattle.vl_mean.specs.Declarations.{with_items_parameters, with_constants, declared, declared_ports, all_names}
use Rattle.vl_mean.specs.Runs.{Each}
use Rattle.vl_mean.specs.Scopes.{Scope, constant_in}
use Rattle.vl_mean.specs.Walk.{Contents, Place, Use, Step, header, port, with_earlier, module_parameters, header_of}
use Rattle.vl_mean.specs.Walk.{module_constants, module_around, module_scope, module_contents, module_place}
use Rattle.vl_mean.specs.Walk.{items_contents, module_names}
use Rattle.vl_mean.specs.Walk.{parameter_names, port_names, written_ports, header_steps, port_step, port_steps}
use Rattle.vl_mean.specs.Walk.{optional_name, turn_place, block_place}
use Rattle.vl_mean_flat.proofs.EachOf.{both, front, back, each_map}
use Rattle.vl_elab_spec.specs.Items.{parameter_refusals, parameters_refusals, range_refusals, width_refusals}
use Rattle.vl_elab_spec.specs.Items.{given_value, port_net, inner_meanings}
use Rattle.vl_elab_spec.specs.Meanings.{Meaning, undeclared, constant, Names, is_undeclared, meaning_in, all_meanings}
use Rattle.vl_elab_spec.specs.Meanings.{constants, meanings_at, meanings_before, parameters_of, is_overridden}
use Rattle.vl_elab_accepted_laws.proofs.Contained.{Has, Lacks, clash, has-first, has-back, or_right, each-has}
use Rattle.vl_elab_accepted_laws.proofs.Contained.{lacks-append}
use Rattle.vl_elab_accepted_laws.proofs.Contained.{lacks-each}
use Rattle.vl_elab_accepted_laws.proofs.Fresh.{NoneOf, IsFine, none-front, none-back, ports-new}
use Rattle.vl_elab_accepted_laws.proofs.Loops.{AreFine}
use Rattle.vl_elab_accepted_laws.proofs.Plain.{all-each}
use Rattle.vl_elab_scope.specs.Seen.{AllNamed}
use Rattle.vl_elab_accepted_laws.specs.Sized.{AreSound, IsSound}
use Rattle.vl_elab_spec.specs.Among.{AreAmong}
use Rattle.vl_elab_accepted_laws.specs.Means.{AreMeant}
use Rattle.vl_elab_accepted_laws.proofs.Level.{AreLaid, all_named, all_meant, own, own_names, ports as own_ports}
use Rattle.vl_elab_accepted_laws.proofs.Level.{objects as own_objects}
use Rattle.vl_elab_accepted_laws.proofs.Laid.{module_laid, block_laid, turn_laid, constant_names, no_constant}
use Rattle.vl_elab_accepted_laws.proofs.Laid.{parameters_list}
use Rattle.vl_elab_accepted_laws.proofs.Laid.{items_list}
use Rattle.vl_elab_accepted_laws.specs.Joined.{IsObject, PortsAreObjects}
use Rattle.vl_elab_accepted_laws.proofs.Constants.{IsNarrow}
use Rattle.vl_elab_accepted_laws.proofs.Standing.{AreItsConstants, level}
use Rattle.vl_elab_accepted_laws.proofs.Reached.{AllValued, AreConstants}
use Rattle.vl_elab_accepted_laws.proofs.Parameters.{ItemsFine, all_constant, parameters_new, fewer}
use Rattle.vl_elab_accepted_laws.proofs.Shapes.{IsShapedObject, among_bounds, shape_read, ports_shaped, ports_declared}
use Rattle.vl_elab_accepted_laws.proofs.Shapes.{items_shaped}
use Rattle.vl_elab_accepted_laws.proofs.Shapes.{lists_ports, objects_sound, items_sound, ports_sound, scope_sound}
use Rattle.vl_elab_accepted_laws.proofs.Shapes.{port_object}
use Rattle.vl_elab_accepted_laws.proofs.Shapes.{declares_front, declares_back}

-- a place in which names are sound, and stand for what its scopes are made from
pub record IsSoundPlace (at : Place) : Type 0 where
  pub sound : AreSound (meanings_at at)
  pub laid : AreLaid at.scopes at.contents

-- and over whose declarations' scopes bounds have the same numbers
pub record IsSoundScope (at : Place) : Type 0 where
  pub place : IsSoundPlace at
  pub bounds : AreAmong (constants (meanings_at at)) (constant_in at.around)

place_meant : (at : Place) → IsSoundPlace at → AreMeant (meanings_at at) at.scopes
place_meant at h text = all_meant at.scopes at.contents h.laid text (h.sound text)

listed_constant : (cs : Constants) (text : List ℕ) → contains_name (constant_names cs) text ≡ true
    → is_none (constant_of cs text) ≡ false
listed_constant [] text h = absurd (true≢false (sym h))
listed_constant (c ∷ cs) text h = by (bytes_eq text c.0) h (listed_constant cs text)
  where
    by : (b : Bool) → (b || contains_name (constant_names cs) text) ≡ true
        → (contains_name (constant_names cs) text ≡ true → is_none (constant_of cs text) ≡ false)
        → is_none (if b then Some c.1 else constant_of cs text) ≡ false
    by true h next = refl
    by false h next = next h

its_constants : (s : Scope) (c : Contents) → constant_names s.constants ≡ own_names c → AreItsConstants s c
its_constants s c e = record {
  there = λ text h. listed_constant s.constants text (ap (λ l. contains_name l text) e ∙ h);
  alone = λ text h. no_constant s.constants text (ap (λ l. contains_name l text) e ∙ h);
}

-- ---- a turn of a loop

pub turn_sound : (at : Place) (text : List ℕ) (c : Const) → IsSoundPlace at → IsSoundPlace (turn_place at text c)
turn_sound at text c h = record { sound = λ other. by other (bytes_eq other text); laid = turn_laid at text c h.laid }
  where
    by : (other : List ℕ) (b : Bool)
        → IsSound (if is_undeclared (if b then constant c true else undeclared) then meaning_in (meanings_at at) other
        else (if b then constant c true else undeclared))
    by other true = tt
    by other false = h.sound other

-- ---- a block

module _ (ms : List Module) where
  pub block_sound : (at : Place) (path : List ℕ) (xs : Items) → IsSoundPlace at → AreWellFormed xs
      → ItemsFine ms (block_place at path xs) xs → IsSoundScope (block_place at path xs)
  block_sound at path xs h w fine = record {
    place = record { sound = sound_so; laid = block_laid at path xs h.laid };
    bounds = among_bounds s at.scopes c at.contents around path (all_names xs) at.modules made outer_named h.sound
        (place_meant at h) all;
  }
    where
      cs : Constants
      cs = with_items_parameters [] at.scopes [] xs

      s : Scope
      s = record { path = path; decls = declared (with_constants cs at.scopes) xs; constants = cs }

      c : Contents
      c = items_contents at.earlier xs

      around : List Scope
      around = with_constants cs at.scopes

      made : AreItsConstants s c
      made = its_constants s c (items_list [] at.scopes xs [])

      outer_named : AllNamed (meanings_at at)
      outer_named = all_named at.scopes at.contents

      all : AreConstants (own s (meanings_before at at.earlier) (meanings_at at) c)
      all =
          all_constant s at.scopes c at.contents around path (all_names xs) at.modules made outer_named h.sound tt ms refl []
          (parameters_new ms (block_place at path xs) xs fine) fine tt w

      sound_so : AreSound (level s (meanings_before at at.earlier) (meanings_at at) c ∷ meanings_at at)
      sound_so =
          scope_sound s at.scopes c at.contents around path (all_names xs) at.modules made outer_named h.sound
          (place_meant at h) all
          (items_sound s at.scopes c at.contents around path (all_names xs) at.modules made outer_named h.sound
          (place_meant at h) all ms (declared around xs) refl
          (items_shaped s at.scopes c at.contents around path (all_names xs) at.modules made outer_named h.sound
          (place_meant at h) all ms xs [] w fine) xs [] w fine (λ text l. l))

-- ---- ports

-- with what is asked of it where it is written
abbrev pub IsFormedPort : Option FullPort → Type 0
IsFormedPort None = Unit {0}
IsFormedPort (Some p) = IsOptionalRange p.shape.range × IsName p.name × IsValue p.value

pub port_formed : (last : Option FullPort) (kind : PortKind) → IsFormedPort last → IsPortKind kind
    → IsFormedPort (full_port last kind)
port_formed last (kinds.Full p) h w = (w.1, w.2, w.3)
port_formed None (kinds.Short text value) h w = tt
port_formed (Some p) (kinds.Short text value) h w = (h.0, w.0, w.1)

pub written_formed : (ps : Option (List Port)) → AreOptionalPorts ps → Each IsPort (written_ports ps)
written_formed None h = tt
written_formed (Some ps) h = all-each IsPort ps h.1

written_full : (ps : Option (List Port)) → full_ports None (written_ports ps) ≡ ports_of ps
written_full None = refl
written_full (Some ps) = refl

parameters_formed : (xs : List HeaderParameter) → Each IsHeaderParameter xs → Each IsParameter (header_parameters xs)
parameters_formed [] h = tt
parameters_formed (x ∷ xs) h = (h.0, parameters_formed xs h.1)

header_formed : (o : Option (List HeaderParameter)) → AreOptionalParameters o
    → Each IsParameter (header_parameters (header_of o))
header_formed None h = tt
header_formed (Some xs) h = parameters_formed xs (all-each IsHeaderParameter xs h.1)

port_there : (ps : List FullPort) (text : List ℕ) (p : FullPort) → port_named ps text ≡ Some p
    → Has (port_names ps) p.name
port_there [] text p e = cc
port_there (q ∷ ps) text p e = by (bytes_eq text q.name) e (port_there ps text p)
  where
    same : Some q ≡ Some p → q ≡ p
    same e = cc

    by : (b : Bool) → (if b then Some q else port_named ps text) ≡ Some p
        → (port_named ps text ≡ Some p → Has (port_names ps) p.name) → Has (port_names (q ∷ ps)) p.name
    by true e next = subst (λ x. Has (port_names (q ∷ ps)) x.name) (same e) (has-first q.name (port_names ps))
    by false e next = or_right (bytes_eq p.name q.name) (contains_name (port_names ps) p.name) (next e)

module _ (ms : List Module) (around scopes : List Scope) (contents : List Contents) (path : List ℕ)
    (names modules : List (List ℕ)) where
  abbrev place : List (List ℕ) → Place
  place earlier = record {
    around = around;
    scopes = scopes;
    contents = contents;
    path = path;
    names = names;
    earlier = earlier;
    modules = modules;
  }

  heads_fine : (xs : List Parameter) (first earlier : List (List ℕ)) → AreFine ms (header_steps (place earlier) xs)
      → NoneOf (parameters_refusals (place first) k.Parameter earlier xs)
  heads_fine [] first earlier h = refl
  heads_fine (x ∷ xs) first earlier h =
      λ i. h.0 i ++ heads_fine xs first (earlier ++ x.name ∷ []) h.1 i

  abbrev ns : List Names
  ns = all_meanings scopes contents

  port_narrow : ((p : Pos) (r : Option Range) → IsOptionalRange r → NoneOf (range_refusals ns r)
      → NoneOf (width_refusals ns p r) → IsNarrow ns r) → (earlier : List (List ℕ)) (u : Use) (p : Port)
      (q : Option FullPort) → IsFormedPort q → Each (IsFine ms) (port_step (place earlier) u p q)
      → Each (λ p. IsNarrow ns p.shape.range) (option_to_list q)
  port_narrow f earlier u p None w h = tt
  port_narrow f earlier u p (Some q) w h =
      let front = none-front _ (given_value ns p.pos (port_net q.net) q.name q.value) h.0 in (
        f p.pos q.shape.range w.0
            (none-back _ (range_refusals ns q.shape.range) (none-front _ (width_refusals ns p.pos q.shape.range) front))
            (none-back _ (width_refusals ns p.pos q.shape.range) front),
        tt,
      )

  ports_narrow : ((p : Pos) (r : Option Range) → IsOptionalRange r → NoneOf (range_refusals ns r)
      → NoneOf (width_refusals ns p r) → IsNarrow ns r) → (earlier : List (List ℕ)) (u : Use)
      (last : Option FullPort) (ps : List Port) → IsFormedPort last → Each IsPort ps
      → AreFine ms (port_steps (place earlier) u last ps)
      → Each (λ p. IsNarrow ns p.shape.range) (full_ports last ps)
  ports_narrow f earlier u last [] l w h = tt
  ports_narrow f earlier u last (p ∷ ps) l w h =
      let q : Option FullPort = full_port last p.kind in
      let formed : IsFormedPort q = port_formed last p.kind l w.0 in
      let here : List Step = port_step (place earlier) u p q in
      let more : List Step = port_steps (place (earlier ++ optional_name q)) u q ps in
      both (λ p. IsNarrow ns p.shape.range) (option_to_list q) (full_ports q ps)
      (port_narrow f earlier u p q formed (front (IsFine ms) here more h))
      (ports_narrow f (earlier ++ optional_name q) u q ps formed w.1 (back (IsFine ms) here more h))

-- ---- a module

pub record IsSoundModule (m : Module) (u : Use) (path : List ℕ) (modules : List (List ℕ)) : Type 0 where
  pub place : IsSoundScope (module_place m u path modules)
  pub inner : AreSound (inner_meanings m u)
  pub ports : PortsAreObjects m u

abbrev pub module_ports_place : Module → Use → List ℕ → List (List ℕ) → Place
module_ports_place m u path modules =
    with_earlier (module_place m u path modules) (parameter_names (module_parameters m))

abbrev pub module_items_place : Module → Use → List ℕ → List (List ℕ) → Place
module_items_place m u path modules =
    with_earlier (module_place m u path modules) (parameter_names (module_parameters m)
    ++ port_names (ports_of m.ports))

pub module_sound : (ms : List Module) (m : Module) (u : Use) (path : List ℕ) (modules : List (List ℕ)) → IsModule m
    → AllValued u.overrides → AreFine ms (header_steps (module_place m u path modules) (module_parameters m))
    → AreFine ms (port_steps (module_ports_place m u path modules) u None (written_ports m.ports))
    → ItemsFine ms (module_items_place m u path modules) (items m.items) → IsSoundModule m u path modules
module_sound ms m u path modules w valued heads ports fine = record {
  place = record {
    place = record { sound = sound_so; laid = (module_laid m u path, tt) };
    bounds = among_bounds s [] c [] (module_around m u) path (module_names m) within made tt outer_sound meant all;
  };
  inner = sound_so;
  ports = λ text p e. ports_so p.name (port_there (ports_of m.ports) text p e);
}
  where
    s : Scope
    s = module_scope m u path

    c : Contents
    c = module_contents m u

    within : List (List ℕ)
    within = modules ++ m.name ∷ []

    parameters : List (List ℕ)
    parameters = parameter_names (module_parameters m)

    made : AreItsConstants s c
    made =
        its_constants s c
        (items_list u.overrides [] (items m.items) (with_parameters u.overrides [] [] (module_parameters m))
        ∙ ap (λ l. l ++ parameters_of (items m.items)) (parameters_list u.overrides [] (module_parameters m) []))

    outer_sound : AreSound []
    outer_sound text = tt

    meant : AreMeant [] []
    meant text = tt

    params_new : Each (Lacks (parameters ++ port_names (ports_of m.ports))) (parameters_of (items m.items))
    params_new = parameters_new ms (module_items_place m u path modules) (items m.items) fine

    all : AreConstants (own s [] [] c)
    all =
        all_constant s [] c [] (module_around m u) path (module_names m) within made tt outer_sound valued ms
        (heads_fine ms (module_around m u) (s ∷ []) (c ∷ []) path (module_names m) within (module_parameters m) [] []
        heads)
        (parameters ++ port_names (ports_of m.ports))
        (fewer parameters (port_names (ports_of m.ports)) (parameters_of (items m.items)) params_new) fine
        (header_formed m.parameters w.1) w.4

    narrow : Each (λ p. IsNarrow (level s [] [] c ∷ []) p.shape.range) (ports_of m.ports)
    narrow =
        subst (Each (λ p. IsNarrow (level s [] [] c ∷ []) p.shape.range)) (written_full m.ports)
        (ports_narrow ms (module_around m u) (s ∷ []) (c ∷ []) path (module_names m) within
        (shape_read s [] c [] (module_around m u) path (module_names m) within made tt outer_sound meant all) parameters u
        None (written_ports m.ports) tt (written_formed m.ports w.2) ports)

    of_ports : List Decl
    of_ports = declared_ports (module_around m u) u.is_top u.input (ports_of m.ports)

    of_items : List Decl
    of_items = declared (module_around m u) (items m.items)

    shaped : Each IsShaped (of_ports ++ of_items)
    shaped =
        both IsShaped of_ports of_items
        (ports_shaped s [] c [] (module_around m u) path (module_names m) within made tt outer_sound meant all u.is_top
        u.input (ports_of m.ports) narrow)
        (items_shaped s [] c [] (module_around m u) path (module_names m) within made tt outer_sound meant all ms
        (items m.items) (parameters ++ port_names (ports_of m.ports)) w.4 fine)

    port_meanings_sound : Each (λ n. IsShapedObject n.1) (own_ports s [] [] c)
    port_meanings_sound =
        ports_sound s [] c [] (module_around m u) path (module_names m) within made tt outer_sound meant all ms
        (of_ports ++ of_items) refl shaped (ports_of m.ports) narrow
        (lists_ports of_ports (of_ports ++ of_items) (λ text h. declares_front of_ports of_items text h)
        (ports_of m.ports)
        (ports_declared s [] c [] (module_around m u) path (module_names m) within made tt outer_sound meant all u.is_top
        u.input (ports_of m.ports)))

    sound_so : AreSound (level s [] [] c ∷ [])
    sound_so =
        scope_sound s [] c [] (module_around m u) path (module_names m) within made tt outer_sound meant all
        (both (λ n. IsSound n.1) (own_ports s [] [] c) (own_objects s [] [] c)
        (objects_sound (own_ports s [] [] c) port_meanings_sound)
        (items_sound s [] c [] (module_around m u) path (module_names m) within made tt outer_sound meant all ms
        (of_ports ++ of_items) refl shaped (items m.items) (parameters ++ port_names (ports_of m.ports)) w.4 fine
        (λ text l. declares_back of_ports of_items text l)))

    ports_so : (text : List ℕ) → Has (port_names (ports_of m.ports)) text
        → IsObject (meaning_in (level s [] [] c ∷ []) text)
    ports_so text h =
        port_object s [] c [] (module_around m u) path (module_names m) within made tt outer_sound meant all
        port_meanings_sound text h
        (lacks-append parameters (parameters_of (items m.items)) text
        (each-has (Lacks parameters) (port_names (ports_of m.ports)) text
        (subst (λ ps. Each (Lacks parameters) (port_names ps)) (written_full m.ports)
        (ports-new ms (module_ports_place m u path modules) u None (written_ports m.ports) ports).new) h)
        (lacks-each (Lacks (parameters ++ port_names (ports_of m.ports))) (parameters_of (items m.items)) text
        (λ l. clash (has-back parameters (port_names (ports_of m.ports)) text h) l) params_new))
