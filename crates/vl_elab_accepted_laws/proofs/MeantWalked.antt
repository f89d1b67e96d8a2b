-- Names mean what they stand for in each step of a walk.
use Rattle.std.specs.Prelude.{ℕ, zero, suc, ◌+◌, List, [], ◌∷◌, ◌++◌, length, Bool, true, false}
use Rattle.std.specs.Prelude.{Option, Some, None, if◌then◌else◌, codes}
use Rattle.vl_tree.specs.declared.declaration.FullPort.{FullPort}
use Rattle.vl_tree.specs.declared.declaration.Parameter.{Parameter}
use Rattle.vl_tree.specs.declared.declaration.Port.{Port}
use Rattle.vl_tree.specs.declared.part.Connection.{Connection}
use Rattle.vl_tree.specs.declared.part.Instance.{Instance}
use Rattle.vl_tree.specs.declared.part.LoopHead.{LoopHead}
use Rattle.vl_tree.specs.declared.source.Module.{Module}
use Rattle.vl_tree.specs.Item.{
  Item,
  Items,
  Block,
  declaration,
  integer,
  genvar,
  parameter,
  assign,
  always,
  initial,
  instance,
  generate,
  for_loop,
  if_only,
  if_else,
  no_items,
  more_items,
  begin,
  region,
  single,
  items,
}
use Rattle.vl_size.specs.Size.{is_true}
use Rattle.vl_mean.specs.declared.const_number.Const.{Const}
use Rattle.vl_mean.specs.Constants.{constant_operand}
use Rattle.vl_mean.specs.Declarations.{constructs, names_of, is_if, label_of, block_name, full_port, ports_of}
use Rattle.vl_mean.specs.Runs.{Each}
use Rattle.vl_mean.specs.Scopes.{Scope, constant_in}
use Rattle.vl_mean.specs.Walk.{all_valued}
use Rattle.vl_mean.specs.Walk.{has_any}
use Rattle.vl_mean.specs.Walk.{Place, Use, Step, Unfolding, with_earlier, module_named, module_parameters}
use Rattle.vl_mean.specs.Walk.{module_place, module_scope, module_contents, parameter_names, port_names, written_ports}
use Rattle.vl_mean.specs.Walk.{header_steps, port_step, optional_name, port_steps, use_of, connections_of}
use Rattle.vl_mean.specs.Walk.{override_steps, connection_steps, with_module, instance_steps, turn_place, turns}
use Rattle.vl_mean.specs.Walk.{goes_on}
use Rattle.vl_mean.specs.Walk.{next_turn, first_turn, loop_turns, turn_path, block_place, block_path, single_place}
use Rattle.vl_mean.specs.Walk.{single_number, item_steps, items_steps, turn_steps, block_steps, unfolded, walk}
use Rattle.vl_mean.specs.Walk.{top_input}
use Rattle.vl_mean_flat.proofs.EachOf.{both}
use Rattle.vl_elab_spec.specs.Meanings.{all_meanings}
use Rattle.vl_elab_accepted_laws.specs.Right.{AreRight, IsRight}
use Rattle.vl_elab_accepted_laws.proofs.Level.{AreLaid, all_named, all_meant}
use Rattle.vl_elab_accepted_laws.proofs.Laid.{module_laid, block_laid, turn_laid}

right_here : (at : Place) → AreLaid at.scopes at.contents → AreRight (all_meanings at.scopes at.contents) at.scopes
right_here at h =
    (all_named at.scopes at.contents, λ sound text. all_meant at.scopes at.contents h text (sound text))

abbrev Right : List Step → Type 0
Right xs = Each IsRight xs

join : (xs ys : List Step) → Right xs → Right ys → Right (xs ++ ys)
join xs ys h k = both IsRight xs ys h k

headers : (at : Place) (xs : List Parameter) → AreLaid at.scopes at.contents → Right (header_steps at xs)
headers at [] h = tt
headers at (x ∷ xs) h = (right_here at h, headers (with_earlier at (x.name ∷ [])) xs h)

port_right : (at : Place) (u : Use) (p : Port) (q : Option FullPort) → AreLaid at.scopes at.contents
    → Right (port_step at u p q)
port_right at u p None h = tt
port_right at u p (Some q) h = (right_here at h, tt)

ports_right : (at : Place) (u : Use) (last : Option FullPort) (ps : List Port) → AreLaid at.scopes at.contents
    → Right (port_steps at u last ps)
ports_right at u last [] h = tt
ports_right at u last (p ∷ ps) h =
    let q : Option FullPort = full_port last p.kind in
    join (port_step at u p q) (port_steps (with_earlier at (optional_name q)) u q ps) (port_right at u p q h)
    (ports_right (with_earlier at (optional_name q)) u q ps h)

overrides_right : (at : Place) (m : Module) (u : Use) (given : List (List ℕ)) (xs : List Connection)
    → AreLaid at.scopes at.contents → Right (override_steps at m u given xs)
overrides_right at m u given [] h = tt
overrides_right at m u given (x ∷ xs) h =
    (right_here at h, overrides_right at m u (given ++ x.port ∷ []) xs h)

inside_right : (m : Module) (u : Use) (path : List ℕ)
    → AreRight (all_meanings (module_scope m u [] ∷ []) (module_contents m u ∷ [])) (module_scope m u path ∷ [])
inside_right m u path = (
  all_named (module_scope m u path ∷ []) (module_contents m u ∷ []),
  λ sound text. all_meant (module_scope m u path ∷ []) (module_contents m u ∷ []) (module_laid m u path, tt) text
      (sound text),
)

connections_right : (at : Place) (m : Module) (u : Use) (path : List ℕ) (given : List (List ℕ))
    (xs : List Connection) → AreLaid at.scopes at.contents
    → Right (connection_steps at m u (module_scope m u path ∷ []) given xs)
connections_right at m u path given [] h = tt
connections_right at m u path given (x ∷ xs) h = (
  (right_here at h, inside_right m u path),
  connections_right at m u path (given ++ x.port ∷ []) xs h,
)

choice_right : (b : Bool) (xs ys : List Step) → Right xs → Right ys → Right (if b then xs else ys)
choice_right true xs ys h k = h
choice_right false xs ys h k = k

turns_right : (n : ℕ) (goes : Const → Bool) (next : Const → Const) (body : Const → List Step)
    → ((c : Const) → Right (body c)) → (c : Const) → Right (turns n goes next body c)
turns_right zero goes next body f c = tt
turns_right (suc n) goes next body f c =
    choice_right (goes c) (body c ++ turns n goes next body (next c)) []
    (join (body c) (turns n goes next body (next c)) (f c) (turns_right n goes next body f (next c))) tt

loop_right : (head : LoopHead) (ss : List Scope) (body : Const → List Step) → ((c : Const) → Right (body c))
    → Right (loop_turns head ss body)
loop_right head ss body f = turns_right 4096 (goes_on head ss) (next_turn head ss) body f (first_turn head ss)

-- whatever a module is unfolded behind
abbrev Unfolds : Unfolding → Type 0
Unfolds inner =
    (m : Module) (u : Use) (path : List ℕ) (modules : List (List ℕ)) (front : List Step) → Right front
    → Right (inner m u path modules front)

found_module : (o : Option Module) (f : Module → List Step) → ((m : Module) → Right (f m)) → Right (with_module o f)
found_module None f h = tt
found_module (Some m) f h = h m

module _ (ms : List Module) (inner : Unfolding) (unfolds : Unfolds inner) where
  instance_right : (at : Place) (x : Instance) → AreLaid at.scopes at.contents
      → Right (instance_steps all_valued ms inner at x)
  instance_right at x h =
      let u : Use = use_of has_any at.scopes x in
      let inside : List ℕ = at.path ++ x.name ++ codes "." in
      found_module (module_named ms x.definition) _ (λ m.
      unfolds m u inside at.modules _
      (join (override_steps at m u [] (connections_of x.overrides))
      (connection_steps at m u (module_scope m u inside ∷ []) [] x.connections)
      (overrides_right at m u [] (connections_of x.overrides) h)
      (connections_right at m u inside [] x.connections h)))

  single_laid : (b : Bool) (at : Place) (inside : Place) → AreLaid at.scopes at.contents
      → AreLaid inside.scopes inside.contents
      → AreLaid (if b then at else inside).scopes (if b then at else inside).contents
  single_laid true at inside h k = h
  single_laid false at inside h k = k

  mutual
    item_right : (x : Item) (at : Place) (n : ℕ) → AreLaid at.scopes at.contents
        → Right (item_steps ms inner x at n)
    item_right (declaration attrs p d) at n h = (right_here at h, tt)
    item_right (integer attrs p xs) at n h = (right_here at h, tt)
    item_right (genvar attrs p xs) at n h = (right_here at h, tt)
    item_right (parameter attrs p kind xs) at n h = (right_here at h, tt)
    item_right (assign attrs p xs) at n h = (right_here at h, tt)
    item_right (always attrs p event s) at n h = (right_here at h, tt)
    item_right (initial attrs p s) at n h = (right_here at h, tt)
    item_right (instance attrs p x) at n h = (right_here at h, instance_right at x h)
    item_right (generate attrs p mark) at n h = (right_here at h, tt)
    item_right (for_loop attrs p head b) at n h =
        let label : List ℕ = block_name at.names n (label_of b) in (
          right_here at h,
          loop_right head at.scopes
              (λ c. turn_steps ms inner b (turn_place at head.variable c) (turn_path at.path label c))
              (λ c. turn_right b (turn_place at head.variable c) (turn_path at.path label c)
              (turn_laid at head.variable c h)),
        )
    item_right (if_only attrs p c b) at n h = (
      right_here at h,
      choice_right (is_true (constant_operand (constant_in at.scopes) c)) (block_steps ms inner b at n) []
          (block_right b at n h) tt,
    )
    item_right (if_else attrs p c b d) at n h = (
      right_here at h,
      choice_right (is_true (constant_operand (constant_in at.scopes) c)) (block_steps ms inner b at n)
          (block_steps ms inner d at n) (block_right b at n h) (block_right d at n h),
    )

    pub items_right : (xs : Items) (at : Place) (n : ℕ) → AreLaid at.scopes at.contents
        → Right (items_steps ms inner xs at n)
    items_right no_items at n h = tt
    items_right (more_items x xs) at n h =
        join (item_steps ms inner x at n) (items_steps ms inner xs (with_earlier at (names_of x)) (n + constructs x))
        (item_right x at n h) (items_right xs (with_earlier at (names_of x)) (n + constructs x) h)

    turn_right : (b : Block) (at : Place) (path : List ℕ) → AreLaid at.scopes at.contents
        → Right (turn_steps ms inner b at path)
    turn_right (begin p label xs) at path h =
        (right_here at h, items_right xs (block_place at path xs) 1 (block_laid at path xs h))
    turn_right (region p xs) at path h =
        (right_here at h, items_right xs (block_place at path xs) 1 (block_laid at path xs h))
    turn_right (single x) at path h = (
      right_here at h,
      item_right x (block_place at path (more_items x no_items)) 1 (block_laid at path (more_items x no_items) h),
    )

    block_right : (b : Block) (at : Place) (n : ℕ) → AreLaid at.scopes at.contents
        → Right (block_steps ms inner b at n)
    block_right (begin p label xs) at n h =
        let path : List ℕ = block_path at (block_name at.names n label) in
        (right_here at h, items_right xs (block_place at path xs) 1 (block_laid at path xs h))
    block_right (region p xs) at n h =
        let path : List ℕ = block_path at (block_name at.names n None) in
        (right_here at h, items_right xs (block_place at path xs) 1 (block_laid at path xs h))
    block_right (single x) at n h = (
      right_here at h,
      item_right x (single_place at n x) (single_number n x)
          (single_laid (is_if x) at
          (block_place at (block_path at (block_name at.names n None)) (more_items x no_items)) h
          (block_laid at (block_path at (block_name at.names n None)) (more_items x no_items) h)),
    )

unfolded_right : (n : ℕ) (ms : List Module) → Unfolds (λ m u path modules front. unfolded n ms m u path modules front)
unfolded_right zero ms m u path modules front h = tt
unfolded_right (suc n) ms m u path modules front h =
    let at : Place = module_place m u path modules in
    let parameters : List (List ℕ) = parameter_names (module_parameters m) in
    let laid : AreLaid at.scopes at.contents = (module_laid m u path, tt) in
    join (front ++ header_steps at (module_parameters m)
    ++ port_steps (with_earlier at parameters) u None (written_ports m.ports)) _
    (join (front ++ header_steps at (module_parameters m)) _
    (join front (header_steps at (module_parameters m)) h (headers at (module_parameters m) laid))
    (ports_right (with_earlier at parameters) u None (written_ports m.ports) laid))
    (items_right ms (λ m u path modules front. unfolded n ms m u path modules front) (unfolded_right n ms)
    (items m.items) (with_earlier at (parameters ++ port_names (ports_of m.ports))) 1 laid)

pub walk_is_right : (ms : List Module) (top : List ℕ) → Each IsRight (walk ms top)
walk_is_right ms top =
    found_module (module_named ms top) _ (λ m.
    unfolded_right (length ms) ms m (record { is_top = true; overrides = []; input = top_input }) [] [] [] tt)
