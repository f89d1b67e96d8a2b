-- In each step of a walk in which nothing is refused no name is one whose own declaration is refused.
use Rattle.std.specs.Prelude.{◌≡◌, refl, ℕ, zero, suc, ◌+◌, List, [], ◌∷◌, ◌++◌, map, length, codes, ◌||◌, bytes_eq}
use Rattle.std.specs.Prelude.{Bool, true, false, Option, Some, None, All, if◌then◌else◌, is_none}
use Rattle.std.proofs.Common.{ap, sym, ◌∙◌, subst}
use Rattle.vl_tree.specs.declared.declaration.FullPort.{FullPort}
use Rattle.vl_tree.specs.declared.declaration.Parameter.{Parameter}
use Rattle.vl_tree.specs.declared.declaration.Port.{Port}
use Rattle.vl_tree.specs.declared.part.Connection.{Connection}
use Rattle.vl_tree.specs.declared.part.Instance.{Instance}
use Rattle.vl_tree.specs.declared.part.LoopHead.{LoopHead}
use Rattle.vl_tree.specs.declared.source.Module.{Module}
use Rattle.vl_tree.specs.DeclarationWellFormed.{IsPort}
use Rattle.vl_tree.specs.Item.{
  Item,
  Items,
  Block,
  declaration,
  integer,
  genvar,
  parameter,
  assign,
  always,
  initial,
  instance,
  generate,
  for_loop,
  if_only,
  if_else,
  no_items,
  more_items,
  begin,
  region,
  single,
  items,
}
use Rattle.vl_tree.specs.WellFormed.{AreWellFormed, IsBlock, IsConnection, IsModule, IsWellFormed}
use Rattle.vl_size.specs.declared.decl.Class.TheVariants as class
use Rattle.vl_size.specs.Size.{is_true}
use Rattle.vl_mean.specs.declared.const_number.Const.{Const}
use Rattle.vl_mean.specs.Cells.{contains_name}
use Rattle.vl_mean.specs.Constants.{constant_operand}
use Rattle.vl_mean.specs.Declarations.{constructs, names_of, is_if, label_of, block_name, full_port, ports_of}
use Rattle.vl_mean.specs.Runs.{Each}
use Rattle.vl_mean.specs.Scopes.{Scope, constant_in, is_clock}
use Rattle.vl_mean.specs.Walk.{all_valued}
use Rattle.vl_mean.specs.Walk.{has_any}
use Rattle.vl_mean.specs.Walk.{Place, Use, Step, Unfolding, item, with_earlier, module_named, module_parameters}
use Rattle.vl_mean.specs.Walk.{module_place, module_scope, parameter_names, port_names, written_ports}
use Rattle.vl_mean.specs.Walk.{header_steps, port_step, optional_name, port_steps, use_of, connections_of}
use Rattle.vl_mean.specs.Walk.{override_steps, connection_steps, with_module, instance_steps, turn_place, turns}
use Rattle.vl_mean.specs.Walk.{goes_on, next_turn, first_turn, loop_turns, turn_path, block_place, block_path}
use Rattle.vl_mean.specs.Walk.{single_place, single_number, item_steps, items_steps, turn_steps, block_steps, unfolded}
use Rattle.vl_mean.specs.Walk.{walk, top_input, connected, class_by_connection}
use Rattle.vl_mean_flat.proofs.EachOf.{both, front, back, each_map}
use Rattle.vl_elab_spec.specs.declared.elab_fault.ElabFault.{ElabFault}
use Rattle.vl_elab_spec.specs.Items.{inner_meanings}
use Rattle.vl_elab_accepted_laws.specs.Unrefused.{NoStepRefused}
use Rattle.vl_elab_accepted_laws.proofs.Contained.{Lacks, or_first, or_second, text_same}
use Rattle.vl_elab_accepted_laws.proofs.Fresh.{IsFine, none-front, not-refused}
use Rattle.vl_elab_accepted_laws.proofs.Items.{found-module}
use Rattle.vl_elab_accepted_laws.proofs.Loops.{AreFine}
use Rattle.vl_elab_accepted_laws.proofs.NoneRefused.{walk-fine}
use Rattle.vl_elab_accepted_laws.proofs.Plain.{all-each}
use Rattle.vl_elab_accepted_laws.specs.Sized.{AreSound}
use Rattle.vl_elab_accepted_laws.specs.Joined.{PortsAreObjects}
use Rattle.vl_elab_accepted_laws.specs.SoundSteps.{HasSoundNames, HasSoundBounds, HasOwnInput, IsFormedStep}
use Rattle.vl_elab_accepted_laws.proofs.Parameters.{ItemsFine}
use Rattle.vl_elab_accepted_laws.proofs.Reached.{AllValued, all_valued_of}
use Rattle.vl_elab_accepted_laws.proofs.Places.{IsSoundPlace, IsSoundScope, turn_sound, block_sound, IsFormedPort}
use Rattle.vl_elab_accepted_laws.proofs.Places.{port_formed}
use Rattle.vl_elab_accepted_laws.proofs.Places.{written_formed, IsSoundModule, module_ports_place, module_items_place}
use Rattle.vl_elab_accepted_laws.proofs.Places.{module_sound}

abbrev IsGood : Step → Type 0
IsGood x = HasSoundNames x × IsFormedStep x × HasSoundBounds x × HasOwnInput x

-- the place of a step further on in its scope
further : (at : Place) (names : List (List ℕ)) → IsSoundScope at → IsSoundScope (with_earlier at names)
further at names h = record { place = record { sound = h.place.sound; laid = h.place.laid }; bounds = h.bounds }

abbrev Good : List Step → Type 0
Good xs = Each IsGood xs

abbrev connected_ports : List Connection → List (List ℕ)
connected_ports xs = map (λ x. x.port) xs

join : (xs ys : List Step) → Good xs → Good ys → Good (xs ++ ys)
join xs ys h k = both IsGood xs ys h k

headers : (at : Place) (xs : List Parameter) → IsSoundScope at → Good (header_steps at xs)
headers at [] h = tt
headers at (x ∷ xs) h =
    ((h.place.sound, tt, tt, tt), headers (with_earlier at (x.name ∷ [])) xs (further at (x.name ∷ []) h))

port_good : (at : Place) (u : Use) (p : Port) (q : Option FullPort) → IsSoundScope at → IsFormedPort q
    → Good (port_step at u p q)
port_good at u p None h w = tt
port_good at u p (Some q) h w = ((h.place.sound, (w.1, w.2), h.bounds, tt), tt)

ports_good : (at : Place) (u : Use) (last : Option FullPort) (ps : List Port) → IsSoundScope at → IsFormedPort last
    → Each IsPort ps → Good (port_steps at u last ps)
ports_good at u last [] h l w = tt
ports_good at u last (p ∷ ps) h l w =
    let q : Option FullPort = full_port last p.kind in
    let formed : IsFormedPort q = port_formed last p.kind l w.0 in
    join (port_step at u p q) (port_steps (with_earlier at (optional_name q)) u q ps)
    (port_good at u p q h formed)
    (ports_good (with_earlier at (optional_name q)) u q ps (further at (optional_name q) h) formed w.1)

overrides_good : (at : Place) (m : Module) (u : Use) (given : List (List ℕ)) (xs : List Connection)
    → IsSoundPlace at → Good (override_steps at m u given xs)
overrides_good at m u given [] h = tt
overrides_good at m u given (x ∷ xs) h =
    ((h.sound, tt, tt, tt), overrides_good at m u (given ++ x.port ∷ []) xs h)

-- of several connections, none before has the name of the one at hand
connected_here : (before : List Connection) (x : Connection) (rest : List Connection)
    → Lacks (connected_ports before) x.port → connected (before ++ x ∷ rest) x.port ≡ x.value
connected_here [] x rest l =
    ap (λ b. if b then x.value else connected rest x.port) (text_same x.port x.port refl)
connected_here (y ∷ before) x rest l =
    ap (λ b. if b then y.value else connected (before ++ x ∷ rest) x.port)
    (or_first (bytes_eq x.port y.port) (contains_name (connected_ports before) x.port) l)
    ∙ connected_here before x rest (or_second (bytes_eq x.port y.port) (contains_name (connected_ports before) x.port) l)

append-connections : (xs ys zs : List Connection) → (xs ++ ys) ++ zs ≡ xs ++ (ys ++ zs)
append-connections [] ys zs = refl
append-connections (x ∷ xs) ys zs = ap (λ l. x ∷ l) (append-connections xs ys zs)

ports-append : (xs ys : List Connection) → connected_ports (xs ++ ys) ≡ connected_ports xs ++ connected_ports ys
ports-append [] ys = refl
ports-append (x ∷ xs) ys = ap (λ l. x.port ∷ l) (ports-append xs ys)

module _ (ms : List Module) where
  connections_good : (at : Place) (m : Module) (u : Use) (inside : List Scope) (all before xs : List Connection)
      → all ≡ before ++ xs → u.input ≡ class_by_connection at.scopes all → IsSoundPlace at
      → AreSound (inner_meanings m u) → PortsAreObjects m u → Each IsConnection xs
      → AreFine ms (connection_steps at m u inside (connected_ports before) xs)
      → Good (connection_steps at m u inside (connected_ports before) xs)
  connections_good at m u inside all before [] e i h s p w fine = tt
  connections_good at m u inside all before (x ∷ xs) e i h s p w fine =
      let new : Lacks (connected_ports before) x.port
      = not-refused (contains_name (connected_ports before) x.port) _ (none-front _ _ fine.0) in
      let is : connected all x.port ≡ x.value
      = ap (λ l. connected l x.port) e ∙ connected_here before x xs new in
      let own : u.input x.port ≡ (if is_clock at.scopes x.value then class.Clock else class.Net)
      = ap (λ f. f x.port) i ∙ ap (λ v. if is_clock at.scopes v then class.Clock else class.Net) is in
      let next : connected_ports (before ++ x ∷ []) ≡ connected_ports before ++ x.port ∷ []
      = ports-append before (x ∷ []) in (
        ((h.sound, s, p), w.0.1, tt, own),
        subst (λ given. Good (connection_steps at m u inside given xs)) next
            (connections_good at m u inside all (before ++ x ∷ []) xs
            (e ∙ sym (append-connections before (x ∷ []) xs)) i h s p w.1
            (subst (λ given. AreFine ms (connection_steps at m u inside given xs)) (sym next) fine.1)),
      )

  -- steps are good where they aren't refused
  abbrev Follows : List Step → Type 0
  Follows xs = AreFine ms xs → Good xs

  choice_good : (b : Bool) (xs ys : List Step) → Follows xs → Follows ys → Follows (if b then xs else ys)
  choice_good true xs ys f g h = f h
  choice_good false xs ys f g h = g h

  turns_good : (n : ℕ) (goes : Const → Bool) (next : Const → Const) (body : Const → List Step)
      → ((c : Const) → Follows (body c)) → (c : Const) → Follows (turns n goes next body c)
  turns_good zero goes next body f c h = tt
  turns_good (suc n) goes next body f c h =
      choice_good (goes c) (body c ++ turns n goes next body (next c)) []
      (λ k. join (body c) (turns n goes next body (next c))
      (f c (front (IsFine ms) (body c) (turns n goes next body (next c)) k))
      (turns_good n goes next body f (next c) (back (IsFine ms) (body c) (turns n goes next body (next c)) k)))
      (λ k. tt) h

  loop_good : (head : LoopHead) (ss : List Scope) (body : Const → List Step) → ((c : Const) → Follows (body c))
      → Follows (loop_turns head ss body)
  loop_good head ss body f h = turns_good 4096 (goes_on head ss) (next_turn head ss) body f (first_turn head ss) h

  -- whatever a module is unfolded behind
  abbrev Unfolds : Unfolding → Type 0
  Unfolds inner =
      (m : Module) (u : Use) (path : List ℕ) (modules : List (List ℕ)) (before : List Step) → IsModule m
      → AllValued u.overrides → (AreSound (inner_meanings m u) → PortsAreObjects m u → Follows before)
      → Follows (inner m u path modules before)

  found_module : (o : Option Module) (g : Module → List Step) → ((m : Module) → o ≡ Some m → Follows (g m))
      → Follows (with_module o g)
  found_module None g f h = tt
  found_module (Some m) g f h = f m refl h

  module _ (formed : All IsModule ms) (inner : Unfolding) (unfolds : Unfolds inner) where
    abbrev Steps : Item → Place → ℕ → List Step
    Steps x at n = item_steps ms inner x at n

    instance_good : (at : Place) (x : Instance) → IsSoundPlace at → All IsConnection x.connections
        → Follows (instance_steps all_valued ms inner at x)
    instance_good at x h w fine =
        let u : Use = use_of has_any at.scopes x in
        let inside : List ℕ = at.path ++ x.name ++ codes "." in
        found_module (module_named ms x.definition) _
        (λ m e. unfolds m u inside at.modules _ (found-module ms x.definition m formed e)
        (all_valued_of at.scopes (connections_of x.overrides))
        (λ s p k.
        let overrides : List Step = override_steps at m u [] (connections_of x.overrides) in
        let connections : List Step = connection_steps at m u (module_scope m u inside ∷ []) [] x.connections in
        join overrides connections (overrides_good at m u [] (connections_of x.overrides) h)
        (connections_good at m u (module_scope m u inside ∷ []) x.connections [] x.connections refl refl h s p
        (all-each IsConnection x.connections w) (back (IsFine ms) overrides connections k)))) fine

    first_fine : (x : Item) (at : Place) (n : ℕ) → AreFine ms (Steps x at n) → IsFine ms (item at x)
    first_fine (declaration attrs p d) at n h = h.0
    first_fine (integer attrs p xs) at n h = h.0
    first_fine (genvar attrs p xs) at n h = h.0
    first_fine (parameter attrs p kind xs) at n h = h.0
    first_fine (assign attrs p xs) at n h = h.0
    first_fine (always attrs p event s) at n h = h.0
    first_fine (initial attrs p s) at n h = h.0
    first_fine (instance attrs p x) at n h = h.0
    first_fine (generate attrs p mark) at n h = h.0
    first_fine (for_loop attrs p head b) at n h = h.0
    first_fine (if_only attrs p c b) at n h = h.0
    first_fine (if_else attrs p c b d) at n h = h.0

    items_fine : (xs : Items) (at : Place) (n : ℕ) → AreFine ms (items_steps ms inner xs at n) → ItemsFine ms at xs
    items_fine no_items at n h = tt
    items_fine (more_items x xs) at n h =
        let here : List Step = Steps x at n in
        let more : List Step = items_steps ms inner xs (with_earlier at (names_of x)) (n + constructs x) in (
          first_fine x at n (front (IsFine ms) here more h),
          items_fine xs (with_earlier at (names_of x)) (n + constructs x) (back (IsFine ms) here more h),
        )

    -- the item of a block without `begin`
    single_good : (b : Bool) (x : Item) (at inside : Place) (n : ℕ) → Follows (Steps x at n)
        → Follows (Steps x inside 1) → Follows (Steps x (if b then at else inside) (if b then n else 1))
    single_good true x at inside n f g h = f h
    single_good false x at inside n f g h = g h

    mutual
      item_good : (x : Item) (at : Place) (n : ℕ) → IsWellFormed x → IsSoundScope at → Follows (Steps x at n)
      item_good (declaration attrs p d) at n w h fine = ((h.place.sound, w, h.bounds, tt), tt)
      item_good (integer attrs p xs) at n w h fine = ((h.place.sound, w, h.bounds, tt), tt)
      item_good (genvar attrs p xs) at n w h fine = ((h.place.sound, w, h.bounds, tt), tt)
      item_good (parameter attrs p kind xs) at n w h fine = ((h.place.sound, w, h.bounds, tt), tt)
      item_good (assign attrs p xs) at n w h fine = ((h.place.sound, w, h.bounds, tt), tt)
      item_good (always attrs p event s) at n w h fine = ((h.place.sound, w, h.bounds, tt), tt)
      item_good (initial attrs p s) at n w h fine = ((h.place.sound, w, h.bounds, tt), tt)
      item_good (instance attrs p x) at n w h fine = ((h.place.sound, w, h.bounds, tt), instance_good at x h.place w.1.3 fine.1)
      item_good (generate attrs p mark) at n w h fine = ((h.place.sound, w, h.bounds, tt), tt)
      item_good (for_loop attrs p head b) at n w h fine =
          let label : List ℕ = block_name at.names n (label_of b) in (
            (h.place.sound, w, h.bounds, tt),
            loop_good head at.scopes
                (λ c. turn_steps ms inner b (turn_place at head.variable c) (turn_path at.path label c))
                (λ c. turn_good b (turn_place at head.variable c) (turn_path at.path label c) w.2
                (turn_sound at head.variable c h.place)) fine.1,
          )
      item_good (if_only attrs p c b) at n w h fine = (
        (h.place.sound, w, h.bounds, tt),
        choice_good (is_true (constant_operand (constant_in at.scopes) c)) (block_steps ms inner b at n) []
            (block_good b at n w.2 h) (λ k. tt) fine.1,
      )
      item_good (if_else attrs p c b d) at n w h fine = (
        (h.place.sound, w, h.bounds, tt),
        choice_good (is_true (constant_operand (constant_in at.scopes) c)) (block_steps ms inner b at n)
            (block_steps ms inner d at n) (block_good b at n w.3 h) (block_good d at n w.4 h) fine.1,
      )

      pub items_good : (xs : Items) (at : Place) (n : ℕ) → AreWellFormed xs → IsSoundScope at
          → Follows (items_steps ms inner xs at n)
      items_good no_items at n w h fine = tt
      items_good (more_items x xs) at n w h fine =
          let here : List Step = Steps x at n in
          let more : List Step = items_steps ms inner xs (with_earlier at (names_of x)) (n + constructs x) in
          join here more (item_good x at n w.0 h (front (IsFine ms) here more fine))
          (items_good xs (with_earlier at (names_of x)) (n + constructs x) w.1
          (further at (names_of x) h) (back (IsFine ms) here more fine))

      turn_good : (b : Block) (at : Place) (path : List ℕ) → IsBlock b → IsSoundPlace at
          → Follows (turn_steps ms inner b at path)
      turn_good (begin p label xs) at path w h fine = (
        (h.sound, tt, tt, tt),
        items_good xs (block_place at path xs) 1 w.2
            (block_sound ms at path xs h w.2 (items_fine xs (block_place at path xs) 1 fine.1)) fine.1,
      )
      turn_good (region p xs) at path w h fine = (
        (h.sound, tt, tt, tt),
        items_good xs (block_place at path xs) 1 w.1
            (block_sound ms at path xs h w.1 (items_fine xs (block_place at path xs) 1 fine.1)) fine.1,
      )
      turn_good (single x) at path w h fine =
          let inside : Place = block_place at path (more_items x no_items) in (
            (h.sound, tt, tt, tt),
            item_good x inside 1 w.2
                (block_sound ms at path (more_items x no_items) h (w.2, tt) (first_fine x inside 1 fine.1, tt)) fine.1,
          )

      block_good : (b : Block) (at : Place) (n : ℕ) → IsBlock b → IsSoundScope at
          → Follows (block_steps ms inner b at n)
      block_good (begin p label xs) at n w h fine =
          let path : List ℕ = block_path at (block_name at.names n label) in (
            (h.place.sound, tt, tt, tt),
            items_good xs (block_place at path xs) 1 w.2
                (block_sound ms at path xs h.place w.2 (items_fine xs (block_place at path xs) 1 fine.1)) fine.1,
          )
      block_good (region p xs) at n w h fine =
          let path : List ℕ = block_path at (block_name at.names n None) in (
            (h.place.sound, tt, tt, tt),
            items_good xs (block_place at path xs) 1 w.1
                (block_sound ms at path xs h.place w.1 (items_fine xs (block_place at path xs) 1 fine.1)) fine.1,
          )
      block_good (single x) at n w h fine =
          let path : List ℕ = block_path at (block_name at.names n None) in
          let inside : Place = block_place at path (more_items x no_items) in (
            (h.place.sound, tt, tt, tt),
            single_good (is_if x) x at inside n (λ k. item_good x at n w.2 h k)
                (λ k. item_good x inside 1 w.2
                (block_sound ms at path (more_items x no_items) h.place (w.2, tt) (first_fine x inside 1 k, tt)) k) fine.1,
          )

  module _ (formed : All IsModule ms) where
    unfolded_good : (n : ℕ) → Unfolds (λ m u path modules before. unfolded n ms m u path modules before)
    unfolded_good zero m u path modules before w valued f fine = tt
    unfolded_good (suc n) m u path modules before w valued f fine =
        let at : Place = module_place m u path modules in
        let inner : Unfolding = λ m u path modules before. unfolded n ms m u path modules before in
        let heads : List Step = header_steps at (module_parameters m) in
        let ports : List Step = port_steps (module_ports_place m u path modules) u None (written_ports m.ports) in
        let at_items : Place = module_items_place m u path modules in
        let rest : List Step = items_steps ms inner (items m.items) at_items 1 in
        let first : AreFine ms (before ++ heads ++ ports) = front (IsFine ms) (before ++ heads ++ ports) rest fine in
        let fine_items : AreFine ms rest = back (IsFine ms) (before ++ heads ++ ports) rest fine in
        let fine_ports : AreFine ms ports = back (IsFine ms) (before ++ heads) ports first in
        let fine_heads : AreFine ms heads
        = back (IsFine ms) before heads (front (IsFine ms) (before ++ heads) ports first) in
        let x : IsSoundModule m u path modules
        = module_sound ms m u path modules w valued fine_heads fine_ports
        (items_fine formed inner (unfolded_good n) (items m.items) at_items 1 fine_items) in
        join (before ++ heads ++ ports) rest
        (join (before ++ heads) ports
        (join before heads (f x.inner x.ports (front (IsFine ms) before heads (front (IsFine ms) (before ++ heads) ports
        first))) (headers at (module_parameters m) x.place))
        (ports_good (module_ports_place m u path modules) u None (written_ports m.ports)
        (further at (parameter_names (module_parameters m)) x.place) tt (written_formed m.ports w.2)))
        (items_good formed inner (unfolded_good n) (items m.items) at_items 1 w.4
        (further at (parameter_names (module_parameters m) ++ port_names (ports_of m.ports)) x.place) fine_items)

walk_good : (ms : List Module) (top : List ℕ) → All IsModule ms → NoStepRefused ms top → Good (walk ms top)
walk_good ms top formed e =
    found_module ms (module_named ms top) _
    (λ m k. unfolded_good ms formed (length ms) m (record { is_top = true; overrides = []; input = top_input }) [] [] []
    (found-module ms top m formed k) tt (λ s p k. tt)) (walk-fine ms top e)

pub walk_sound : (ms : List Module) (top : List ℕ) → All IsModule ms → NoStepRefused ms top
    → Each HasSoundNames (walk ms top)
walk_sound ms top formed e = each_map (λ x h. h.0) (walk ms top) (walk_good ms top formed e)

pub walk_bounds : (ms : List Module) (top : List ℕ) → All IsModule ms → NoStepRefused ms top
    → Each HasSoundBounds (walk ms top)
walk_bounds ms top formed e = each_map (λ x h. h.2) (walk ms top) (walk_good ms top formed e)

pub walk_inputs : (ms : List Module) (top : List ℕ) → All IsModule ms → NoStepRefused ms top
    → Each HasOwnInput (walk ms top)
walk_inputs ms top formed e = each_map (λ x h. h.3) (walk ms top) (walk_good ms top formed e)

pub walk_formed : (ms : List Module) (top : List ℕ) → All IsModule ms → NoStepRefused ms top
    → Each IsFormedStep (walk ms top)
walk_formed ms top formed e = each_map (λ x h. h.1) (walk ms top) (walk_good ms top formed e)

pub ruleset walked = (walk_sound, walk_bounds, walk_inputs, walk_formed)
