-- Steps are seen alike at places that differ in what scopes are made from, in the names before and in the modules.
use Rattle.std.specs.Prelude.{◌≡◌, refl, ℕ, zero, suc, ◌+◌, List, [], ◌∷◌, ◌++◌, codes, Bool, true, false}
use Rattle.std.specs.Prelude.{Option, Some, None, if◌then◌else◌}
use Rattle.std.proofs.Common.{ap, sym, ◌∙◌}
use Rattle.std.proofs.lemmas.List.{map-append}
use Rattle.vl_tree.specs.declared.declaration.FullPort.{FullPort}
use Rattle.vl_tree.specs.declared.declaration.Parameter.{Parameter}
use Rattle.vl_tree.specs.declared.declaration.Port.{Port}
use Rattle.vl_tree.specs.declared.part.Connection.{Connection}
use Rattle.vl_tree.specs.declared.part.Instance.{Instance}
use Rattle.vl_tree.specs.declared.source.Module.{Module}
use Rattle.vl_tree.specs.Item.{
  Item,
  Items,
  Block,
  declaration,
  integer,
  genvar,
  parameter,
  assign,
  always,
  initial,
  instance,
  generate,
  for_loop,
  if_only,
  if_else,
  no_items,
  more_items,
  begin,
  region,
  single,
  items,
}
use Rattle.vl_size.specs.Size.{is_true}
use Rattle.vl_mean.specs.declared.const_number.Const.{Const}
use Rattle.vl_mean.specs.Constants.{constant_operand}
use Rattle.vl_mean.specs.Declarations.{block_name, constructs, full_port, is_if, label_of, names_of, ports_of}
use Rattle.vl_mean.specs.Parts.{parts_of_steps, step_parts}
use Rattle.vl_mean.specs.Scopes.{Scope, constant_in}
use Rattle.vl_mean.specs.Walk.{all_valued}
use Rattle.vl_mean.specs.Walk.{has_any}
use Rattle.vl_mean.specs.Walk.{Contents, Place, Step, Unfolding, Use, header, item, override, connection, block_step}
use Rattle.vl_mean.specs.Walk.{with_earlier, module_named, module_parameters, module_place, module_scope}
use Rattle.vl_mean.specs.Walk.{parameter_names}
use Rattle.vl_mean.specs.Walk.{port_names, written_ports, header_steps, port_step, optional_name, port_steps, use_of}
use Rattle.vl_mean.specs.Walk.{connections_of, override_steps, connection_steps, with_module, instance_steps}
use Rattle.vl_mean.specs.Walk.{turn_place}
use Rattle.vl_mean.specs.Walk.{no_contents, turns, goes_on, next_turn, first_turn, turn_path, block_place}
use Rattle.vl_mean.specs.Walk.{block_path, single_number, item_steps, items_steps, turn_steps, block_steps}
use Rattle.vl_mean.specs.Walk.{items_contents, module_contents}
use Rattle.vl_mean_flat.specs.DriverPlaces.{places_of_step, places_of_steps}
use Rattle.vl_mean_flat.specs.Seen.{beside, inner, parts_of_seen, places_of_seen, seen_step, seen_steps}

seen_append : (xs ys : List Step) → seen_steps (xs ++ ys) ≡ seen_steps xs ++ seen_steps ys
seen_append xs ys = map-append seen_step xs ys

-- of both together
both : (xs xs' ys ys' : List Step) → seen_steps xs ≡ seen_steps xs' → seen_steps ys ≡ seen_steps ys'
    → seen_steps (xs ++ ys) ≡ seen_steps (xs' ++ ys')
both xs xs' ys ys' h k = seen_append xs ys ∙ (λ i. h i ++ k i) ∙ sym (seen_append xs' ys')

pub parts_seen : (xs : List Step) → parts_of_steps xs ≡ parts_of_seen (seen_steps xs)
parts_seen [] = refl
parts_seen (x ∷ xs) = ap (λ ps. step_parts x ++ ps) (parts_seen xs)

pub places_seen : (xs : List Step) → places_of_steps xs ≡ places_of_seen (seen_steps xs)
places_seen [] = refl
places_seen (x ∷ xs) = ap (λ ps. places_of_step x ++ ps) (places_seen xs)

-- ---- modules that stand elsewhere

-- they are seen alike wherever they stand, behind what is seen alike
record IsAlike (f : Unfolding) : Type 0 where
  alike : (m : Module) (u : Use) (path : List ℕ) (modules modules' : List (List ℕ)) (front front' : List Step)
      → seen_steps front ≡ seen_steps front'
      → seen_steps (f m u path modules front) ≡ seen_steps (f m u path modules' front')

-- ---- turns

turns_alike : (n : ℕ) (goes : Const → Bool) (next : Const → Const) (f g : Const → List Step)
    → ((c : Const) → seen_steps (f c) ≡ seen_steps (g c)) → (c : Const)
    → seen_steps (turns n goes next f c) ≡ seen_steps (turns n goes next g c)
turns_alike zero goes next f g h c = refl
turns_alike (suc n) goes next f g h c =
    by (goes c) (both (f c) (g c) (turns n goes next f (next c)) (turns n goes next g (next c)) (h c)
    (turns_alike n goes next f g h (next c)))
  where
    by : (b : Bool)
        → seen_steps (f c ++ turns n goes next f (next c)) ≡ seen_steps (g c ++ turns n goes next g (next c))
        → seen_steps (if b then f c ++ turns n goes next f (next c) else [])
        ≡ seen_steps (if b then g c ++ turns n goes next g (next c) else [])
    by true k = k
    by false k = refl

chosen : (b : Bool) (xs xs' ys ys' : List Step) → seen_steps xs ≡ seen_steps xs' → seen_steps ys ≡ seen_steps ys'
    → seen_steps (if b then xs else ys) ≡ seen_steps (if b then xs' else ys')
chosen true xs xs' ys ys' h k = h
chosen false xs xs' ys ys' h k = k

-- ---- what an instance gives and joins

module _ (at : Place) (contents : List Contents) (earlier modules : List (List ℕ)) where
  overrides_alike : (m : Module) (u : Use) (given : List (List ℕ)) (xs : List Connection)
      → seen_steps (override_steps at m u given xs)
      ≡ seen_steps (override_steps (beside at contents earlier modules) m u given xs)
  overrides_alike m u given [] = refl
  overrides_alike m u given (x ∷ xs) =
      ap (λ ys. seen_step (override at m u given x) ∷ ys) (overrides_alike m u (given ++ x.port ∷ []) xs)

  connections_alike : (m : Module) (u : Use) (inside : List Scope) (given : List (List ℕ)) (xs : List Connection)
      → seen_steps (connection_steps at m u inside given xs)
      ≡ seen_steps (connection_steps (beside at contents earlier modules) m u inside given xs)
  connections_alike m u inside given [] = refl
  connections_alike m u inside given (x ∷ xs) =
      ap (λ ys. seen_step (connection at m u inside given x) ∷ ys)
      (connections_alike m u inside (given ++ x.port ∷ []) xs)

  instance_alike : (ms : List Module) (f : Unfolding) → IsAlike f → (x : Instance)
      → seen_steps (instance_steps all_valued ms f at x) ≡ seen_steps (instance_steps all_valued ms f (beside at contents earlier modules) x)
  instance_alike ms f a x = by (module_named ms x.definition)
    where
      by : (o : Option Module)
          → seen_steps (with_module o (λ m.
          f m (use_of has_any at.scopes x) (at.path ++ x.name ++ codes ".") at.modules
          (override_steps at m (use_of has_any at.scopes x) [] (connections_of x.overrides)
          ++ connection_steps at m (use_of has_any at.scopes x)
          (module_scope m (use_of has_any at.scopes x) (at.path ++ x.name ++ codes ".") ∷ []) [] x.connections)))
          ≡ seen_steps (with_module o (λ m.
          f m (use_of has_any at.scopes x) (at.path ++ x.name ++ codes ".") modules
          (override_steps (beside at contents earlier modules) m (use_of has_any at.scopes x) [] (connections_of x.overrides)
          ++ connection_steps (beside at contents earlier modules) m (use_of has_any at.scopes x)
          (module_scope m (use_of has_any at.scopes x) (at.path ++ x.name ++ codes ".") ∷ []) [] x.connections)))
      by None = refl
      by (Some m) =
          let u : Use = use_of has_any at.scopes x in
          let inside : List Scope = module_scope m u (at.path ++ x.name ++ codes ".") ∷ [] in
          a.alike m u (at.path ++ x.name ++ codes ".") at.modules modules _ _
          (both (override_steps at m u [] (connections_of x.overrides))
          (override_steps (beside at contents earlier modules) m u [] (connections_of x.overrides))
          (connection_steps at m u inside [] x.connections)
          (connection_steps (beside at contents earlier modules) m u inside [] x.connections)
          (overrides_alike m u [] (connections_of x.overrides)) (connections_alike m u inside [] x.connections))

-- ---- items

module _ (ms : List Module) (f : Unfolding) (a : IsAlike f) where
  -- an item alone in a block of an `if`
  single_alike : (x : Item) (b : Bool) (at inside at' inside' : Place) (n : ℕ)
      → seen_steps (item_steps ms f x at n) ≡ seen_steps (item_steps ms f x at' n)
      → seen_steps (item_steps ms f x inside n) ≡ seen_steps (item_steps ms f x inside' n)
      → seen_steps (item_steps ms f x (if b then at else inside) n)
      ≡ seen_steps (item_steps ms f x (if b then at' else inside') n)
  single_alike x true at inside at' inside' n h k = h
  single_alike x false at inside at' inside' n h k = k

  mutual
    item_alike : (x : Item) (at : Place) (n : ℕ) (contents : List Contents) (earlier modules : List (List ℕ))
        → seen_steps (item_steps ms f x at n)
        ≡ seen_steps (item_steps ms f x (beside at contents earlier modules) n)
    item_alike (declaration attrs p d) at n contents earlier modules = refl
    item_alike (integer attrs p xs) at n contents earlier modules = refl
    item_alike (genvar attrs p xs) at n contents earlier modules = refl
    item_alike (parameter attrs p kind xs) at n contents earlier modules = refl
    item_alike (assign attrs p xs) at n contents earlier modules = refl
    item_alike (always attrs p event s) at n contents earlier modules = refl
    item_alike (initial attrs p s) at n contents earlier modules = refl
    item_alike (instance attrs p x) at n contents earlier modules =
        ap (λ ys. seen_step (item at (instance attrs p x)) ∷ ys) (instance_alike at contents earlier modules ms f a x)
    item_alike (generate attrs p mark) at n contents earlier modules = refl
    item_alike (for_loop attrs p head b) at n contents earlier modules =
        let label : List ℕ = block_name at.names n (label_of b) in
        let there : Place = beside at contents earlier modules in
        ap (λ ys. seen_step (item at (for_loop attrs p head b)) ∷ ys)
        (turns_alike 4096 (goes_on head at.scopes) (next_turn head at.scopes)
        (λ c. turn_steps ms f b (turn_place at head.variable c) (turn_path at.path label c))
        (λ c. turn_steps ms f b (turn_place there head.variable c) (turn_path at.path label c))
        (λ c. turn_alike b (turn_place at head.variable c) (turn_path at.path label c) (no_contents earlier ∷ contents)
        earlier modules) (first_turn head at.scopes))
    item_alike (if_only attrs p c b) at n contents earlier modules =
        ap (λ ys. seen_step (item at (if_only attrs p c b)) ∷ ys)
        (chosen (is_true (constant_operand (constant_in at.scopes) c)) (block_steps ms f b at n)
        (block_steps ms f b (beside at contents earlier modules) n) [] []
        (block_alike b at n contents earlier modules) refl)
    item_alike (if_else attrs p c b d) at n contents earlier modules =
        ap (λ ys. seen_step (item at (if_else attrs p c b d)) ∷ ys)
        (chosen (is_true (constant_operand (constant_in at.scopes) c)) (block_steps ms f b at n)
        (block_steps ms f b (beside at contents earlier modules) n) (block_steps ms f d at n)
        (block_steps ms f d (beside at contents earlier modules) n)
        (block_alike b at n contents earlier modules) (block_alike d at n contents earlier modules))

    items_alike : (xs : Items) (at : Place) (n : ℕ) (contents : List Contents) (earlier modules : List (List ℕ))
        → seen_steps (items_steps ms f xs at n)
        ≡ seen_steps (items_steps ms f xs (beside at contents earlier modules) n)
    items_alike no_items at n contents earlier modules = refl
    items_alike (more_items x xs) at n contents earlier modules =
        both (item_steps ms f x at n) (item_steps ms f x (beside at contents earlier modules) n)
        (items_steps ms f xs (with_earlier at (names_of x)) (n + constructs x))
        (items_steps ms f xs (with_earlier (beside at contents earlier modules) (names_of x)) (n + constructs x))
        (item_alike x at n contents earlier modules)
        (items_alike xs (with_earlier at (names_of x)) (n + constructs x) contents (earlier ++ names_of x) modules)

    turn_alike : (b : Block) (at : Place) (path : List ℕ) (contents : List Contents) (earlier modules : List (List ℕ))
        → seen_steps (turn_steps ms f b at path)
        ≡ seen_steps (turn_steps ms f b (beside at contents earlier modules) path)
    turn_alike (begin p label xs) at path contents earlier modules =
        ap (λ ys. seen_step (block_step at (begin p label xs)) ∷ ys)
        (items_alike xs (block_place at path xs) 1 (items_contents earlier xs ∷ contents) [] modules)
    turn_alike (region p xs) at path contents earlier modules =
        ap (λ ys. seen_step (block_step at (region p xs)) ∷ ys)
        (items_alike xs (block_place at path xs) 1 (items_contents earlier xs ∷ contents) [] modules)
    turn_alike (single x) at path contents earlier modules =
        let xs : Items = more_items x no_items in
        ap (λ ys. seen_step (block_step at (single x)) ∷ ys)
        (item_alike x (block_place at path xs) 1 (items_contents earlier xs ∷ contents) [] modules)

    block_alike : (b : Block) (at : Place) (n : ℕ) (contents : List Contents) (earlier modules : List (List ℕ))
        → seen_steps (block_steps ms f b at n)
        ≡ seen_steps (block_steps ms f b (beside at contents earlier modules) n)
    block_alike (begin p label xs) at n contents earlier modules =
        ap (λ ys. seen_step (block_step at (begin p label xs)) ∷ ys)
        (items_alike xs (block_place at (block_path at (block_name at.names n label)) xs) 1
        (items_contents earlier xs ∷ contents) [] modules)
    block_alike (region p xs) at n contents earlier modules =
        ap (λ ys. seen_step (block_step at (region p xs)) ∷ ys)
        (items_alike xs (block_place at (block_path at (block_name at.names n None)) xs) 1
        (items_contents earlier xs ∷ contents) [] modules)
    block_alike (single x) at n contents earlier modules =
        let xs : Items = more_items x no_items in
        let path : List ℕ = block_path at (block_name at.names n None) in
        ap (λ ys. seen_step (block_step at (single x)) ∷ ys)
        (single_alike x (is_if x) at (block_place at path xs) (beside at contents earlier modules)
        (block_place (beside at contents earlier modules) path xs) (single_number n x)
        (item_alike x at (single_number n x) contents earlier modules)
        (item_alike x (block_place at path xs) (single_number n x) (items_contents earlier xs ∷ contents) [] modules))

-- ---- modules

headers_alike : (at : Place) (contents : List Contents) (earlier modules : List (List ℕ)) (xs : List Parameter)
    → seen_steps (header_steps at xs) ≡ seen_steps (header_steps (beside at contents earlier modules) xs)
headers_alike at contents earlier modules [] = refl
headers_alike at contents earlier modules (x ∷ xs) =
    ap (λ ys. seen_step (header at x) ∷ ys)
    (headers_alike (with_earlier at (x.name ∷ [])) contents (earlier ++ x.name ∷ []) modules xs)

port_alike : (at : Place) (contents : List Contents) (earlier modules : List (List ℕ)) (u : Use) (p : Port)
    (q : Option FullPort) → seen_steps (port_step at u p q)
    ≡ seen_steps (port_step (beside at contents earlier modules) u p q)
port_alike at contents earlier modules u p None = refl
port_alike at contents earlier modules u p (Some q) = refl

ports_alike : (at : Place) (contents : List Contents) (earlier modules : List (List ℕ)) (u : Use)
    (last : Option FullPort) (ps : List Port) → seen_steps (port_steps at u last ps)
    ≡ seen_steps (port_steps (beside at contents earlier modules) u last ps)
ports_alike at contents earlier modules u last [] = refl
ports_alike at contents earlier modules u last (p ∷ ps) =
    let q : Option FullPort = full_port last p.kind in
    both (port_step at u p q) (port_step (beside at contents earlier modules) u p q)
    (port_steps (with_earlier at (optional_name q)) u q ps)
    (port_steps (with_earlier (beside at contents earlier modules) (optional_name q)) u q ps)
    (port_alike at contents earlier modules u p q)
    (ports_alike (with_earlier at (optional_name q)) contents (earlier ++ optional_name q) modules u q ps)

unfolded_alike : (n : ℕ) (ms : List Module) → IsAlike (inner n ms)
unfolded_alike zero ms = record { alike = λ m u path modules modules' front front' h. refl }
unfolded_alike (suc n) ms = record {
  alike = λ m u path modules modules' front front' h.
      let at : Place = module_place m u path modules in
      let there : Place = module_place m u path modules' in
      let parameters : List (List ℕ) = parameter_names (module_parameters m) in
      let all : List (List ℕ) = parameters ++ port_names (ports_of m.ports) in
      let behind : List (List ℕ) = modules' ++ m.name ∷ [] in
      let made_from : List Contents = module_contents m u ∷ [] in
      both (front ++ header_steps at (module_parameters m)
      ++ port_steps (with_earlier at parameters) u None (written_ports m.ports))
      (front' ++ header_steps there (module_parameters m)
      ++ port_steps (with_earlier there parameters) u None (written_ports m.ports))
      (items_steps ms (inner n ms) (items m.items) (with_earlier at all) 1)
      (items_steps ms (inner n ms) (items m.items) (with_earlier there all) 1)
      (both (front ++ header_steps at (module_parameters m)) (front' ++ header_steps there (module_parameters m))
      (port_steps (with_earlier at parameters) u None (written_ports m.ports))
      (port_steps (with_earlier there parameters) u None (written_ports m.ports))
      (both front front' (header_steps at (module_parameters m)) (header_steps there (module_parameters m)) h
      (headers_alike at made_from [] behind (module_parameters m)))
      (ports_alike (with_earlier at parameters) made_from ([] ++ parameters) behind u None (written_ports m.ports)))
      (items_alike ms (inner n ms) (unfolded_alike n ms) (items m.items) (with_earlier at all) 1 made_from ([] ++ all)
      behind);
}

pub item_seen : (ms : List Module) (depth : ℕ) (x : Item) (at : Place) (n : ℕ) (contents : List Contents)
    (earlier modules : List (List ℕ)) → seen_steps (item_steps ms (inner depth ms) x at n)
    ≡ seen_steps (item_steps ms (inner depth ms) x (beside at contents earlier modules) n)
item_seen ms depth x at n contents earlier modules =
    item_alike ms (inner depth ms) (unfolded_alike depth ms) x at n contents earlier modules

pub items_seen : (ms : List Module) (depth : ℕ) (xs : Items) (at : Place) (n : ℕ) (contents : List Contents)
    (earlier modules : List (List ℕ)) → seen_steps (items_steps ms (inner depth ms) xs at n)
    ≡ seen_steps (items_steps ms (inner depth ms) xs (beside at contents earlier modules) n)
items_seen ms depth xs at n contents earlier modules =
    items_alike ms (inner depth ms) (unfolded_alike depth ms) xs at n contents earlier modules
