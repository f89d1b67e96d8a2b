-- Each scope of a walk in which nothing is refused can be opened.
use Rattle.std.specs.Prelude.{refl, ℕ, zero, suc, ◌+◌, List, [], ◌∷◌, ◌++◌, length, codes}
use Rattle.std.specs.Prelude.{Bool, true, false, Option, Some, None, All, if◌then◌else◌}
use Rattle.vl_tree.specs.declared.declaration.FullPort.{FullPort}
use Rattle.vl_tree.specs.declared.declaration.Parameter.{Parameter}
use Rattle.vl_tree.specs.declared.declaration.Port.{Port}
use Rattle.vl_tree.specs.declared.part.Connection.{Connection}
use Rattle.vl_tree.specs.declared.part.Instance.{Instance}
use Rattle.vl_tree.specs.declared.part.LoopHead.{LoopHead}
use Rattle.vl_tree.specs.declared.source.Module.{Module}
use Rattle.vl_tree.specs.Item.{
  Item,
  Items,
  Block,
  declaration,
  integer,
  genvar,
  parameter,
  assign,
  always,
  initial,
  instance,
  generate,
  for_loop,
  if_only,
  if_else,
  no_items,
  more_items,
  begin,
  region,
  single,
  items,
}
use Rattle.vl_tree.specs.WellFormed.{IsModule}
use Rattle.vl_size.specs.Size.{is_true}
use Rattle.vl_mean.specs.declared.const_number.Const.{Const}
use Rattle.vl_mean.specs.Constants.{constant_operand}
use Rattle.vl_mean.specs.Declarations.{block_name, constructs, full_port, is_if, label_of, names_of, ports_of}
use Rattle.vl_mean.specs.Runs.{Each}
use Rattle.vl_mean.specs.Scopes.{Scope, constant_in}
use Rattle.vl_mean.specs.Walk.{all_valued}
use Rattle.vl_mean.specs.Walk.{has_any}
use Rattle.vl_mean.specs.Walk.{Place, Step, Unfolding, Use, block_path, block_place, block_steps, connection_steps}
use Rattle.vl_mean.specs.Walk.{connections_of, first_turn, goes_on, header_steps, instance_steps, item, item_steps}
use Rattle.vl_mean.specs.Walk.{items_steps, loop_turns, module_named, module_parameters, module_place, module_scope}
use Rattle.vl_mean.specs.Walk.{next_turn, optional_name, override_steps, parameter_names, port_names, port_step}
use Rattle.vl_mean.specs.Walk.{port_steps, top_input, turn_path, turn_place, turn_steps, turns, unfolded, use_of, walk}
use Rattle.vl_mean.specs.Walk.{with_earlier, with_genvar, with_module, written_ports}
use Rattle.vl_mean_flat.specs.StepScopes.{StepScopes}
use Rattle.vl_mean_flat.proofs.EachOf.{both, front, back}
use Rattle.vl_elab_accepted_laws.specs.Unrefused.{NoStepRefused}
use Rattle.vl_elab_const.specs.Openable.{AreOpenable, IsOpenable}
use Rattle.vl_elab_flatten_laws.proofs.Ranges.{IsKnown, walk_known}
use Rattle.vl_elab_flatten_laws.proofs.Scopes.{KnownItems, block_openable, module_openable}

abbrev Good : List Step → Type 0
Good xs = Each (StepScopes AreOpenable) xs

join : (xs ys : List Step) → Good xs → Good ys → Good (xs ++ ys)
join xs ys h k = both (StepScopes AreOpenable) xs ys h k

-- ---- steps of one scope

headers : (at : Place) (xs : List Parameter) → AreOpenable at.scopes → Good (header_steps at xs)
headers at [] h = tt
headers at (x ∷ xs) h = (h, headers (with_earlier at (x.name ∷ [])) xs h)

one_port : (at : Place) (u : Use) (p : Port) (q : Option FullPort) → AreOpenable at.scopes → Good (port_step at u p q)
one_port at u p None h = tt
one_port at u p (Some q) h = (h, tt)

all_ports : (at : Place) (u : Use) (last : Option FullPort) (ps : List Port) → AreOpenable at.scopes
    → Good (port_steps at u last ps)
all_ports at u last [] h = tt
all_ports at u last (p ∷ ps) h =
    let q : Option FullPort = full_port last p.kind in
    join (port_step at u p q) (port_steps (with_earlier at (optional_name q)) u q ps) (one_port at u p q h)
    (all_ports (with_earlier at (optional_name q)) u q ps h)

overrides : (at : Place) (m : Module) (u : Use) (given : List (List ℕ)) (xs : List Connection)
    → AreOpenable at.scopes → Good (override_steps at m u given xs)
overrides at m u given [] h = tt
overrides at m u given (x ∷ xs) h = (h, overrides at m u (given ++ x.port ∷ []) xs h)

connections : (at : Place) (m : Module) (u : Use) (inside : List Scope) (given : List (List ℕ)) (xs : List Connection)
    → AreOpenable at.scopes → AreOpenable inside → Good (connection_steps at m u inside given xs)
connections at m u inside given [] h k = tt
connections at m u inside given (x ∷ xs) h k =
    ((h, k), connections at m u inside (given ++ x.port ∷ []) xs h k)

-- a loop's variable alone
turn_open : (text : List ℕ) (c : Const) (ss : List Scope) → AreOpenable ss → AreOpenable (with_genvar text c ss)
turn_open text c ss h = (record { constants = (refl, tt); decls = tt; plain = tt; in_range = tt }, h)

-- ---- the walk

module _ (ms : List Module) where
  -- steps that are known have scopes that can be opened
  abbrev Follows : List Step → Type 0
  Follows xs = Each (IsKnown ms) xs → Good xs

  choice : (b : Bool) (xs ys : List Step) → Follows xs → Follows ys → Follows (if b then xs else ys)
  choice true xs ys f g h = f h
  choice false xs ys f g h = g h

  all_turns : (n : ℕ) (goes : Const → Bool) (next : Const → Const) (body : Const → List Step)
      → ((c : Const) → Follows (body c)) → (c : Const) → Follows (turns n goes next body c)
  all_turns zero goes next body f c h = tt
  all_turns (suc n) goes next body f c h =
      choice (goes c) (body c ++ turns n goes next body (next c)) []
      (λ k. join (body c) (turns n goes next body (next c))
      (f c (front (IsKnown ms) (body c) (turns n goes next body (next c)) k))
      (all_turns n goes next body f (next c) (back (IsKnown ms) (body c) (turns n goes next body (next c)) k)))
      (λ k. tt) h

  whole_loop : (head : LoopHead) (ss : List Scope) (body : Const → List Step) → ((c : Const) → Follows (body c))
      → Follows (loop_turns head ss body)
  whole_loop head ss body f h = all_turns 4096 (goes_on head ss) (next_turn head ss) body f (first_turn head ss) h

  -- whatever a module is unfolded behind
  abbrev Unfolds : Unfolding → Type 0
  Unfolds inner =
      (m : Module) (u : Use) (path : List ℕ) (modules : List (List ℕ)) (before : List Step)
      → (IsOpenable (module_scope m u path) → Follows before) → Follows (inner m u path modules before)

  found : (o : Option Module) (g : Module → List Step) → ((m : Module) → Follows (g m)) → Follows (with_module o g)
  found None g f h = tt
  found (Some m) g f h = f m h

  module _ (inner : Unfolding) (unfolds : Unfolds inner) where
    abbrev Steps : Item → Place → ℕ → List Step
    Steps x at n = item_steps ms inner x at n

    one_instance : (at : Place) (x : Instance) → AreOpenable at.scopes → Follows (instance_steps all_valued ms inner at x)
    one_instance at x h known =
        let u : Use = use_of has_any at.scopes x in
        let inside : List ℕ = at.path ++ x.name ++ codes "." in
        found (module_named ms x.definition) _
        (λ m. unfolds m u inside at.modules _ (λ s k.
        join (override_steps at m u [] (connections_of x.overrides))
        (connection_steps at m u (module_scope m u inside ∷ []) [] x.connections)
        (overrides at m u [] (connections_of x.overrides) h)
        (connections at m u (module_scope m u inside ∷ []) [] x.connections h (s, tt)))) known

    first_known : (x : Item) (at : Place) (n : ℕ) → Each (IsKnown ms) (Steps x at n) → IsKnown ms (item at x)
    first_known (declaration attrs p d) at n h = h.0
    first_known (integer attrs p xs) at n h = h.0
    first_known (genvar attrs p xs) at n h = h.0
    first_known (parameter attrs p kind xs) at n h = h.0
    first_known (assign attrs p xs) at n h = h.0
    first_known (always attrs p event s) at n h = h.0
    first_known (initial attrs p s) at n h = h.0
    first_known (instance attrs p x) at n h = h.0
    first_known (generate attrs p mark) at n h = h.0
    first_known (for_loop attrs p head b) at n h = h.0
    first_known (if_only attrs p c b) at n h = h.0
    first_known (if_else attrs p c b d) at n h = h.0

    items_known : (xs : Items) (at : Place) (n : ℕ) → Each (IsKnown ms) (items_steps ms inner xs at n)
        → KnownItems ms at xs
    items_known no_items at n h = tt
    items_known (more_items x xs) at n h =
        let here : List Step = Steps x at n in
        let more : List Step = items_steps ms inner xs (with_earlier at (names_of x)) (n + constructs x) in (
          first_known x at n (front (IsKnown ms) here more h),
          items_known xs (with_earlier at (names_of x)) (n + constructs x) (back (IsKnown ms) here more h),
        )

    -- the scopes in a block with these items
    inside_block : (at : Place) (path : List ℕ) (xs : Items) → AreOpenable at.scopes
        → KnownItems ms (block_place at path xs) xs → AreOpenable (block_place at path xs).scopes
    inside_block at path xs h k = (block_openable ms at path xs k, h)

    -- the item of a block without `begin`
    one_single : (b : Bool) (x : Item) (at inside : Place) (n : ℕ) → Follows (Steps x at n)
        → Follows (Steps x inside 1) → Follows (Steps x (if b then at else inside) (if b then n else 1))
    one_single true x at inside n f g h = f h
    one_single false x at inside n f g h = g h

    mutual
      one_item : (x : Item) (at : Place) (n : ℕ) → AreOpenable at.scopes → Follows (Steps x at n)
      one_item (declaration attrs p d) at n h k = (h, tt)
      one_item (integer attrs p xs) at n h k = (h, tt)
      one_item (genvar attrs p xs) at n h k = (h, tt)
      one_item (parameter attrs p kind xs) at n h k = (h, tt)
      one_item (assign attrs p xs) at n h k = (h, tt)
      one_item (always attrs p event s) at n h k = (h, tt)
      one_item (initial attrs p s) at n h k = (h, tt)
      one_item (instance attrs p x) at n h k = (h, one_instance at x h k.1)
      one_item (generate attrs p mark) at n h k = (h, tt)
      one_item (for_loop attrs p head b) at n h k =
          let label : List ℕ = block_name at.names n (label_of b) in (
            h,
            whole_loop head at.scopes
                (λ c. turn_steps ms inner b (turn_place at head.variable c) (turn_path at.path label c))
                (λ c. one_turn b (turn_place at head.variable c) (turn_path at.path label c)
                (turn_open head.variable c at.scopes h)) k.1,
          )
      one_item (if_only attrs p c b) at n h k = (
        h,
        choice (is_true (constant_operand (constant_in at.scopes) c)) (block_steps ms inner b at n) []
            (one_block b at n h) (λ k. tt) k.1,
      )
      one_item (if_else attrs p c b d) at n h k = (
        h,
        choice (is_true (constant_operand (constant_in at.scopes) c)) (block_steps ms inner b at n)
            (block_steps ms inner d at n) (one_block b at n h) (one_block d at n h) k.1,
      )

      pub all_items : (xs : Items) (at : Place) (n : ℕ) → AreOpenable at.scopes
          → Follows (items_steps ms inner xs at n)
      all_items no_items at n h k = tt
      all_items (more_items x xs) at n h k =
          let here : List Step = Steps x at n in
          let more : List Step = items_steps ms inner xs (with_earlier at (names_of x)) (n + constructs x) in
          join here more (one_item x at n h (front (IsKnown ms) here more k))
          (all_items xs (with_earlier at (names_of x)) (n + constructs x) h (back (IsKnown ms) here more k))

      one_turn : (b : Block) (at : Place) (path : List ℕ) → AreOpenable at.scopes
          → Follows (turn_steps ms inner b at path)
      one_turn (begin p label xs) at path h k = (
        h,
        all_items xs (block_place at path xs) 1
            (inside_block at path xs h (items_known xs (block_place at path xs) 1 k.1)) k.1,
      )
      one_turn (region p xs) at path h k = (
        h,
        all_items xs (block_place at path xs) 1
            (inside_block at path xs h (items_known xs (block_place at path xs) 1 k.1)) k.1,
      )
      one_turn (single x) at path h k =
          let xs : Items = more_items x no_items in
          let inside : Place = block_place at path xs in
          (h, one_item x inside 1 (inside_block at path xs h (first_known x inside 1 k.1, tt)) k.1)

      one_block : (b : Block) (at : Place) (n : ℕ) → AreOpenable at.scopes → Follows (block_steps ms inner b at n)
      one_block (begin p label xs) at n h k =
          let path : List ℕ = block_path at (block_name at.names n label) in (
            h,
            all_items xs (block_place at path xs) 1
                (inside_block at path xs h (items_known xs (block_place at path xs) 1 k.1)) k.1,
          )
      one_block (region p xs) at n h k =
          let path : List ℕ = block_path at (block_name at.names n None) in (
            h,
            all_items xs (block_place at path xs) 1
                (inside_block at path xs h (items_known xs (block_place at path xs) 1 k.1)) k.1,
          )
      one_block (single x) at n h k =
          let path : List ℕ = block_path at (block_name at.names n None) in
          let xs : Items = more_items x no_items in
          let inside : Place = block_place at path xs in (
            h,
            one_single (is_if x) x at inside n (λ k. one_item x at n h k)
                (λ k. one_item x inside 1 (inside_block at path xs h (first_known x inside 1 k, tt)) k) k.1,
          )

  one_module : (n : ℕ) → Unfolds (λ m u path modules before. unfolded n ms m u path modules before)
  one_module zero m u path modules before f k = tt
  one_module (suc n) m u path modules before f k =
      let at : Place = module_place m u path modules in
      let inner : Unfolding = λ m u path modules before. unfolded n ms m u path modules before in
      let parameters : List (List ℕ) = parameter_names (module_parameters m) in
      let at_ports : Place = with_earlier at parameters in
      let at_items : Place = with_earlier at (parameters ++ port_names (ports_of m.ports)) in
      let heads : List Step = header_steps at (module_parameters m) in
      let ports : List Step = port_steps at_ports u None (written_ports m.ports) in
      let rest : List Step = items_steps ms inner (items m.items) at_items 1 in
      let first : Each (IsKnown ms) (before ++ heads ++ ports) = front (IsKnown ms) (before ++ heads ++ ports) rest k in
      let known_items : Each (IsKnown ms) rest = back (IsKnown ms) (before ++ heads ++ ports) rest k in
      let known_ports : Each (IsKnown ms) ports = back (IsKnown ms) (before ++ heads) ports first in
      let front_steps : Each (IsKnown ms) (before ++ heads) = front (IsKnown ms) (before ++ heads) ports first in
      let known_heads : Each (IsKnown ms) heads = back (IsKnown ms) before heads front_steps in
      let s : IsOpenable (module_scope m u path)
      = module_openable ms m u path modules known_heads known_ports
      (items_known inner (one_module n) (items m.items) at_items 1 known_items) in
      join (before ++ heads ++ ports) rest
      (join (before ++ heads) ports
      (join before heads (f s (front (IsKnown ms) before heads front_steps))
      (headers at (module_parameters m) (s, tt)))
      (all_ports at_ports u None (written_ports m.ports) (s, tt)))
      (all_items inner (one_module n) (items m.items) at_items 1 (s, tt) known_items)

pub walk_open : (ms : List Module) (top : List ℕ) → All IsModule ms → NoStepRefused ms top
    → Each (StepScopes AreOpenable) (walk ms top)
walk_open ms top formed e =
    found ms (module_named ms top) _
    (λ m. one_module ms (length ms) m (record { is_top = true; overrides = []; input = top_input }) [] [] []
    (λ s k. tt)) (walk_known ms top formed e)
