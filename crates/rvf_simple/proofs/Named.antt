-- What the names of a simple wrapper mean in it: its ports, each as it is declared.
use Rattle.std.specs.Prelude.{◌≡◌, refl, ℕ, List, [], ◌∷◌, ◌++◌, map, Bool, true, false, Option, None, Some}
use Rattle.std.specs.Prelude.{bytes_eq, codes, is_none, if◌then◌else◌}
use Rattle.std.proofs.Common.{ap, sym, ◌∙◌, subst}
use Rattle.std.proofs.lemmas.Option.{same_Some}
use Rattle.std.proofs.lemmas.Slice.Eq.{bytes_eq-Decides}
use Rattle.fv_text.specs.declared.pos.Pos.{Pos}
use Rattle.vl_tree.specs.declared.declaration.FullPort.{FullPort}
use Rattle.vl_tree.specs.declared.declaration.Port.{Port}
use Rattle.vl_tree.specs.declared.declaration.PortKind.{PortKind}
use Rattle.vl_tree.specs.declared.declaration.PortKind.TheVariants.{Full, Short}
use Rattle.vl_tree.specs.declared.source.Module.{Module}
use Rattle.vl_tree.specs.Item.{Item, assign, items}
use Rattle.vl_size.specs.declared.decl.Class.{Class}
use Rattle.vl_size.specs.declared.decl.Decl.{Decl}
use Rattle.vl_size.specs.Table.{declared_as}
use Rattle.vl_mean.specs.Declarations.{Overrides, class_of_port, declared, declared_ports, full_ports, port_decl}
use Rattle.vl_mean.specs.Declarations.{port_named, ports_of}
use Rattle.vl_mean.specs.Runs.{Each}
use Rattle.vl_mean.specs.Scopes.{Scope}
use Rattle.vl_mean.specs.Walk.{Use, module_around, module_contents, module_scope, top_input, written_ports}
use Rattle.vl_elab_spec.specs.Meanings.{Meaning, Names, all_later, all_meanings, is_known_shape, role_of_port}
use Rattle.vl_elab_spec.specs.Meanings.{is_undeclared, items_meanings, meaning_of, constant, object}
use Rattle.vl_elab_spec.specs.Meanings.{object_or, port_meanings, undeclared, with_item_constants}
use Rattle.rvf_simple.specs.SimpleTrees.{IsSimpleItem, IsSimpleKind, IsSimplePort}
use Rattle.rvf_simple.proofs.Values.{IsMeant, known_shape, vector_few}

-- ---- a simple module

abbrev pub wrapper : Pos → Option (List Port) → List Item → Module
wrapper pos ports xs =
    record { pos = pos; name = codes "rvfi_wrapper"; parameters = None; ports = ports; items = xs }

-- as the top module
abbrev pub top_use : Use
top_use = record { is_top = true; overrides = []; input = top_input }

none_some : {A : Type 0} (x : A) → None ≡ Some x → ⊥
none_some x e = cc

-- each of its ports is a simple one
simple_kinds : (last : Option FullPort) (ps : List Port) → Each (λ p. IsSimpleKind p.kind) ps
    → Each IsSimplePort (full_ports last ps)
simple_kinds last [] h = tt
simple_kinds last (p ∷ ps) h = by p.pos p.kind h.0 (λ q. simple_kinds (Some q) ps h.1)
  where
    by : (pos : Pos) (kind : PortKind) → IsSimpleKind kind
        → ((q : FullPort) → Each IsSimplePort (full_ports (Some q) ps))
        → Each IsSimplePort (full_ports last ((record { pos = pos; kind = kind }) ∷ ps))
    by pos (Full q) k rest = (k, rest q)
    by pos (Short text value) k rest = absurd k

pub simple_ports : (ports : Option (List Port)) → Each (λ p. IsSimpleKind p.kind) (written_ports ports)
    → Each IsSimplePort (ports_of ports)
simple_ports None h = tt
simple_ports (Some ps) h = simple_kinds None ps h

-- ---- the port of a name

module _ (text : List ℕ) (q : FullPort) where
  port_is : (P : FullPort → Type 0) (ps : List FullPort) → Each P ps → port_named ps text ≡ Some q → P q
  port_is P [] h e = absurd (none_some q e)
  port_is P (p ∷ ps) h e = by (bytes_eq text p.name) (port_is P ps h.1) e
    where
      by : (b : Bool) → (port_named ps text ≡ Some q → P q) → (if b then Some p else port_named ps text) ≡ Some q → P q
      by true rest e = subst P (same_Some p q e) h.0
      by false rest e = rest e

  name_is : (ps : List FullPort) → port_named ps text ≡ Some q → text ≡ q.name
  name_is [] e = absurd (none_some q e)
  name_is (p ∷ ps) e = by (bytes_eq text p.name) refl (name_is ps) e
    where
      by : (b : Bool) → bytes_eq text p.name ≡ b → (port_named ps text ≡ Some q → text ≡ q.name)
          → (if b then Some p else port_named ps text) ≡ Some q → text ≡ q.name
      by true k rest e = (bytes_eq-Decides text p.name).0 k ∙ ap (λ p. p.name) (same_Some p q e)
      by false k rest e = rest e

  declared_port : (ss : List Scope) (input : List ℕ → Class) (rest : List Decl) (ps : List FullPort)
      → port_named ps text ≡ Some q
      → declared_as (declared_ports ss true input ps ++ rest) text ≡ Some (port_decl ss true input q)
  declared_port ss input rest [] e = absurd (none_some q e)
  declared_port ss input rest (p ∷ ps) e = by (bytes_eq text p.name) (declared_port ss input rest ps) e
    where
      by : (b : Bool)
          → (port_named ps text ≡ Some q
          → declared_as (declared_ports ss true input ps ++ rest) text ≡ Some (port_decl ss true input q))
          → (if b then Some p else port_named ps text) ≡ Some q
          → (if b then Some (port_decl ss true input p)
          else declared_as (declared_ports ss true input ps ++ rest) text) ≡ Some (port_decl ss true input q)
      by true more e = ap (λ o. Some (port_decl ss true input o)) (same_Some p q e)
      by false more e = more e

  module _ (s : Scope) (outer ns : List Names) where
    -- as it is declared
    abbrev as_declared : FullPort → Meaning
    as_declared p =
        object_or (is_known_shape ns p.shape.range) (declared_as s.decls p.name) (role_of_port p.direction p.net)
        (is_none p.shape.range)

    meant_port : (more rest : Names) (ps : List FullPort) → port_named ps text ≡ Some q
        → meaning_of (port_meanings s outer ns ps ++ more ++ rest) text ≡ as_declared q
    meant_port more rest [] e = absurd (none_some q e)
    meant_port more rest (p ∷ ps) e = by (bytes_eq text p.name) (meant_port more rest ps) e
      where
        by : (b : Bool)
            → (port_named ps text ≡ Some q
            → meaning_of (port_meanings s outer ns ps ++ more ++ rest) text ≡ as_declared q)
            → (if b then Some p else port_named ps text) ≡ Some q
            → (if b then as_declared p else meaning_of (port_meanings s outer ns ps ++ more ++ rest) text)
            ≡ as_declared q
        by true here e = ap as_declared (same_Some p q e)
        by false here e = here e

-- ---- in a simple module

item_constants : (s : Scope) (outer : List Names) (os : Overrides) (behind ns : Names) (ps : List FullPort)
    (xs : List Item) → Each (IsSimpleItem ps) xs → with_item_constants s outer os behind ns (items xs) ≡ ns
item_constants s outer os behind ns ps [] h = refl
item_constants s outer os behind ns ps (assign attrs p ys ∷ xs) h = item_constants s outer os behind ns ps xs h.1
item_constants s outer os behind ns ps (x ∷ xs) h = absurd h.0

module _ (pos : Pos) (ports : Option (List Port)) (xs : List Item) where
  abbrev scope : Scope
  scope = module_scope (wrapper pos ports xs) top_use []

  abbrev pub names : List Names
  names = all_meanings (scope ∷ []) (module_contents (wrapper pos ports xs) top_use ∷ [])

  abbrev around : List Scope
  around = module_around (wrapper pos ports xs) top_use

  abbrev behind : Names
  behind = all_later (module_contents (wrapper pos ports xs) top_use)

  -- those that its items declare
  abbrev own : Names
  own = with_item_constants scope [] [] behind [] (items xs)

  abbrev outer : List Names
  outer = (own ++ behind) ∷ []

  abbrev of_items : Names
  of_items = items_meanings scope [] outer (items xs)

  abbrev of_constants : Names
  of_constants = map (λ x. (x.0, constant x.1 true)) scope.constants

  module _ (each : Each (λ p. IsSimpleKind p.kind) (written_ports ports))
      (assigns : Each (IsSimpleItem (ports_of ports)) xs)
    where
      pub port_meant : (text : List ℕ) (q : FullPort) → port_named (ports_of ports) text ≡ Some q → IsMeant names text q
      port_meant text q e =
          let simple : IsSimplePort q = port_is text q IsSimplePort (ports_of ports) (simple_ports ports each) e in
          let d : Decl = port_decl around true top_input q in
          let role = role_of_port q.direction q.net in let scalar = is_none q.shape.range in
          let found : declared_as scope.decls q.name ≡ Some d
          = ap (λ t. declared_as scope.decls t) (sym (name_is text q (ports_of ports) e))
          ∙ declared_port text q around top_input (declared around (items xs)) (ports_of ports) e in
          let meant : meaning_of (own ++ port_meanings scope [] outer (ports_of ports) ++ of_items ++ of_constants) text
          ≡ object d role scalar
          = ap (λ o. meaning_of (o ++ port_meanings scope [] outer (ports_of ports) ++ of_items ++ of_constants) text)
          (item_constants scope [] [] behind [] (ports_of ports) xs assigns)
          ∙ meant_port text q scope [] outer of_items of_constants (ports_of ports) e
          ∙ (λ i. object_or (known_shape outer q.shape.range simple.range i) (found i) role scalar) in
          record {
            decl = d;
            is = ap (λ m. if is_undeclared m then undeclared else m) meant;
            no_words = refl;
            few = vector_few around q.shape.range simple.range;
            class_is = ap (λ k. class_of_port top_input q q.direction k) simple.no_net;
          }
