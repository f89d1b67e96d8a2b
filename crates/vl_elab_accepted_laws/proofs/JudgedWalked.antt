-- The judged steps of a design in which none is refused are all steps of its walk.
use Rattle.std.specs.Prelude.{◌≡◌, refl, ℕ, zero, suc, ◌+◌, List, [], ◌∷◌, ◌++◌, length, codes, ◌&&◌}
use Rattle.std.specs.Prelude.{Bool, true, false, Option, Some, None, is_none, All, if◌then◌else◌}
use Rattle.std.proofs.Common.{ap, sym, ◌∙◌, subst, arith, true≢false}
use Rattle.vl_tree.specs.declared.declaration.Parameter.{Parameter}
use Rattle.vl_tree.specs.declared.part.Connection.{Connection}
use Rattle.vl_tree.specs.declared.part.Instance.{Instance}
use Rattle.vl_tree.specs.declared.part.LoopHead.{LoopHead}
use Rattle.vl_tree.specs.declared.source.Module.{Module}
use Rattle.vl_tree.specs.Expr.{Expr}
use Rattle.vl_tree.specs.ExprWellFormed as expr
use Rattle.vl_tree.specs.Item.{Item, Items, Block, declaration, integer, genvar, parameter, assign, always, initial}
use Rattle.vl_tree.specs.Item.{instance, generate, for_loop, if_only, if_else, no_items, more_items, begin, region}
use Rattle.vl_tree.specs.Item.{single, items}
use Rattle.vl_tree.specs.WellFormed.{AreOverrides, AreWellFormed, IsBlock, IsConnection, IsModule, IsWellFormed}
use Rattle.vl_size.specs.declared.decl.Class.TheVariants as class
use Rattle.vl_size.specs.Size.{is_true}
use Rattle.vl_mean.specs.declared.const_number.Const.{Const}
use Rattle.vl_mean.specs.Cells.{contains_name}
use Rattle.vl_mean.specs.Constants.{constant_operand}
use Rattle.vl_mean.specs.Declarations.{constructs, names_of, is_if, label_of, block_name, ports_of}
use Rattle.vl_mean.specs.Runs.{Each}
use Rattle.vl_mean.specs.Scopes.{constant_in}
use Rattle.vl_mean.specs.Walk.{block_step, single_number, single_place, class_by_connection, connections_of, has_any}
use Rattle.vl_mean.specs.Walk.{override_of, override_steps, overrides_of}
use Rattle.vl_mean.specs.Walk.{Place, Use, Step, Unfolding, item, with_earlier, module_named, module_parameters}
use Rattle.vl_mean.specs.Walk.{module_place, parameter_names, port_names, written_ports}
use Rattle.vl_mean.specs.Walk.{header_steps, port_steps, use_of}
use Rattle.vl_mean.specs.Walk.{with_module, instance_steps, turn_place, turns}
use Rattle.vl_mean.specs.Walk.{goes_on, next_turn, first_turn, turn_path, block_place, block_path}
use Rattle.vl_mean.specs.Walk.{walk, top_input, all_valued, item_walk, items_walk, turn_walk, block_walk, loop_walk}
use Rattle.vl_mean.specs.Walk.{turn_limit}
use Rattle.vl_mean.specs.Walk.{module_walk}
use Rattle.vl_mean_flat.proofs.EachOf.{front, back}
use Rattle.vl_elab_spec.specs.declared.elab_fault.ElabFault.TheVariants as fault
use Rattle.vl_elab_spec.specs.Expressions.{refused_if}
use Rattle.vl_elab_spec.specs.Items.{given_parameter, inner_meanings, is_valued, override_value}
use Rattle.vl_elab_spec.specs.Meanings.{meanings_at}
use Rattle.vl_elab_spec.specs.Refused.{first_refused, judged_walk}
use Rattle.vl_elab_spec.specs.Within.{front_steps}
use Rattle.vl_elab_accepted_laws.specs.Sized.{AreSound}
use Rattle.vl_elab_accepted_laws.specs.Unrefused.{NoStepRefused}
use Rattle.vl_elab_accepted_laws.proofs.Fresh.{IsFine, NoneOf, none-back, none-front, not-refused}
use Rattle.vl_elab_accepted_laws.proofs.Items.{found-module}
use Rattle.vl_elab_accepted_laws.proofs.Loops.{AreFine}
use Rattle.vl_elab_accepted_laws.proofs.NoneRefused.{none-refused}
use Rattle.vl_elab_accepted_laws.proofs.Ends.{HaveValues, loop-valued, valued}
use Rattle.vl_elab_accepted_laws.proofs.Parameters.{ItemsFine}
use Rattle.vl_elab_accepted_laws.proofs.Places.{IsSoundPlace, IsSoundScope, turn_sound, block_sound}
use Rattle.vl_elab_accepted_laws.proofs.Places.{IsSoundModule, module_ports_place, module_items_place}
use Rattle.vl_elab_accepted_laws.proofs.Places.{module_sound}
use Rattle.vl_elab_accepted_laws.proofs.Plain.{all-each}
use Rattle.vl_elab_accepted_laws.proofs.Reached.{AllValued, all_valued_of}

-- the place of a step further on in its scope
further : (at : Place) (names : List (List ℕ)) → IsSoundScope at → IsSoundScope (with_earlier at names)
further at names h = record { place = record { sound = h.place.sound; laid = h.place.laid }; bounds = h.bounds }

module _ (ms : List Module) where
  -- the judged steps are those of the walk where they aren't refused
  abbrev Same : List Step → List Step → Type 0
  Same xs ys = AreFine ms xs → xs ≡ ys

  choice_same : (b : Bool) (xs more ys others : List Step) → Same xs ys → Same more others
      → Same (if b then xs else more) (if b then ys else others)
  choice_same true xs more ys others f g h = f h
  choice_same false xs more ys others f g h = g h

  -- by what has a value
  valued_same : (v : Bool) (xs ys : List Step) → v ≡ true → Same xs ys → Same (if v then xs else []) ys
  valued_same true xs ys e f h = f h
  valued_same false xs ys e f h = cc

  both_same : (xs more ys others : List Step) → Same xs ys → Same more others → Same (xs ++ more) (ys ++ others)
  both_same xs more ys others f g h =
      λ i. f (front (IsFine ms) xs more h) i ++ g (back (IsFine ms) xs more h) i

  behind_same : (x : Step) (xs ys : List Step) → Same xs ys → Same (x ∷ xs) (x ∷ ys)
  behind_same x xs ys f h = ap (λ l. x ∷ l) (f h.1)

  none_same : Same [] []
  none_same h = refl

  turns_same : (n : ℕ) (goes : Const → Bool) (next : Const → Const) (body other : Const → List Step)
      → ((c : Const) → Same (body c) (other c)) → (c : Const)
      → Same (turns n goes next body c) (turns n goes next other c)
  turns_same zero goes next body other f c h = refl
  turns_same (suc n) goes next body other f c h =
      choice_same (goes c) (body c ++ turns n goes next body (next c)) [] (other c ++ turns n goes next other (next c)) []
      (both_same (body c) (turns n goes next body (next c)) (other c) (turns n goes next other (next c)) (f c)
      (turns_same n goes next body other f (next c))) none_same h

  loop_same : (head : LoopHead) (at : Place) (body other : Const → List Step) → is_valued at head.start ≡ true
      → is_valued (turn_place at head.variable (first_turn head at.scopes)) head.condition ≡ true
      → is_valued (turn_place at head.variable (first_turn head at.scopes)) head.next ≡ true
      → ((c : Const) → Same (body c) (other c))
      → Same (loop_walk is_valued head at body) (loop_walk all_valued head at other)
  loop_same head at body other start condition next f =
      let goes : Const → Bool = goes_on head at.scopes in
      let leads : Const → Const = next_turn head at.scopes in
      let first : Const = first_turn head at.scopes in
      let limit : turn_limit is_valued head at ≡ 4096 =
      λ i. if start i && condition i then (if next i then 4096 else 1) else 0 in
      subst (λ k. Same (turns k goes leads body first) (turns 4096 goes leads other first)) (sym limit)
      (turns_same 4096 goes leads body other f first)

  -- modules within modules
  abbrev Unfolds : Unfolding → Unfolding → Type 0
  Unfolds judged plain =
      (m : Module) (u v : Use) (path : List ℕ) (modules : List (List ℕ)) (before others : List Step) → IsModule m
      → (AreFine ms before → (u ≡ v) × (before ≡ others)) → AllValued v.overrides
      → Same (judged m u path modules before) (plain m v path modules others)

  -- what is given to a module has values where it isn't refused
  given_valued : (at : Place) (m : Module) (u : Use) (given : List (List ℕ)) (xs : List Connection)
      → AreSound (meanings_at at) → Each IsConnection xs → AreFine ms (override_steps at m u given xs)
      → overrides_of (is_valued at) at.scopes xs ≡ overrides_of has_any at.scopes xs
  given_valued at m u given [] s w h = refl
  given_valued at m u given (x ∷ xs) s w h =
      λ i. one x.value w.0.1 named (none-back _ _ h.0) i ++ given_valued at m u (given ++ x.port ∷ []) xs s w.1 h.1 i
    where
      named : is_none (given_parameter m x.port) ≡ false
      named =
          not-refused (is_none (given_parameter m x.port)) (fault.Param x.port x.pos)
          (none-back (refused_if (contains_name given x.port) (fault.Twice x.port x.pos))
          (refused_if (is_none (given_parameter m x.port)) (fault.Param x.port x.pos))
          (none-front (refused_if (contains_name given x.port) (fault.Twice x.port x.pos)
          ++ refused_if (is_none (given_parameter m x.port)) (fault.Param x.port x.pos))
          (override_value (meanings_at at) (inner_meanings m u) (given_parameter m x.port) x.value) h.0))

      has_one : (y : Option Parameter) (e : Expr) → expr.IsWellFormed e → is_none y ≡ false
          → NoneOf (override_value (meanings_at at) (inner_meanings m u) y (Some e)) → is_valued at e ≡ true
      has_one None e w n h = absurd (true≢false n)
      has_one (Some y) e w n h = valued at _ e s w h

      one : (o : Option Expr) → expr.IsValue o → is_none (given_parameter m x.port) ≡ false
          → NoneOf (override_value (meanings_at at) (inner_meanings m u) (given_parameter m x.port) o)
          → override_of (is_valued at) at.scopes x.port o ≡ override_of has_any at.scopes x.port o
      one None w n h = refl
      one (Some e) w n h =
          ap (λ b. record { name = x.port; operand = constant_operand (constant_in at.scopes) e; has_value = b } ∷ [])
          (has_one (given_parameter m x.port) e w n h)

  overrides_formed : (o : Option (List Connection)) → AreOverrides o → Each IsConnection (connections_of o)
  overrides_formed None w = tt
  overrides_formed (Some xs) w = all-each IsConnection xs w

  same_use : (at : Place) (m : Module) (x : Instance) (path : List ℕ) → AreSound (meanings_at at)
      → AreOverrides x.overrides → AreFine ms (front_steps at m (use_of (is_valued at) at.scopes x) path x)
      → use_of (is_valued at) at.scopes x ≡ use_of has_any at.scopes x
  same_use at m x path s w h =
      let u : Use = use_of (is_valued at) at.scopes x in
      let overrides : List Step = override_steps at m u [] (connections_of x.overrides) in
      let fine : AreFine ms overrides = front (IsFine ms) overrides _ h in
      λ i. record {
        is_top = false;
        overrides = given_valued at m u [] (connections_of x.overrides) s (overrides_formed x.overrides w) fine i;
        input = class_by_connection at.scopes x.connections;
      }

  found_same : (o : Option Module) (f g : Module → List Step) → ((m : Module) → o ≡ Some m → Same (f m) (g m))
      → Same (with_module o f) (with_module o g)
  found_same None f g h k = refl
  found_same (Some m) f g h k = h m refl k

  module _ (formed : All IsModule ms) (judged plain : Unfolding) (unfolds : Unfolds judged plain) where
    abbrev Judged : Item → Place → ℕ → List Step
    Judged x at n = item_walk is_valued ms judged x at n

    abbrev Walked : Item → Place → ℕ → List Step
    Walked x at n = item_walk all_valued ms plain x at n

    instance_same : (at : Place) (x : Instance) → IsSoundPlace at → AreOverrides x.overrides
        → Same (instance_steps is_valued ms judged at x) (instance_steps all_valued ms plain at x)
    instance_same at x h w =
        let u : Use = use_of (is_valued at) at.scopes x in
        let v : Use = use_of has_any at.scopes x in
        let inside : List ℕ = at.path ++ x.name ++ codes "." in
        found_same (module_named ms x.definition) _ _
        (λ m e. unfolds m u v inside at.modules (front_steps at m u inside x) (front_steps at m v inside x)
        (found-module ms x.definition m formed e)
        (λ fine.
        (same_use at m x inside h.sound w fine, ap (λ o. front_steps at m o inside x) (same_use at m x inside h.sound w fine)))
        (all_valued_of at.scopes (connections_of x.overrides)))

    first_fine : (x : Item) (at : Place) (n : ℕ) → AreFine ms (Judged x at n) → IsFine ms (item at x)
    first_fine (declaration attrs p d) at n h = h.0
    first_fine (integer attrs p xs) at n h = h.0
    first_fine (genvar attrs p xs) at n h = h.0
    first_fine (parameter attrs p kind xs) at n h = h.0
    first_fine (assign attrs p xs) at n h = h.0
    first_fine (always attrs p event s) at n h = h.0
    first_fine (initial attrs p s) at n h = h.0
    first_fine (instance attrs p x) at n h = h.0
    first_fine (generate attrs p mark) at n h = h.0
    first_fine (for_loop attrs p head b) at n h = h.0
    first_fine (if_only attrs p c b) at n h = h.0
    first_fine (if_else attrs p c b d) at n h = h.0

    items_fine : (xs : Items) (at : Place) (n : ℕ) → AreFine ms (items_walk is_valued ms judged xs at n)
        → ItemsFine ms at xs
    items_fine no_items at n h = tt
    items_fine (more_items x xs) at n h =
        let here : List Step = Judged x at n in
        let more : List Step = items_walk is_valued ms judged xs (with_earlier at (names_of x)) (n + constructs x) in (
          first_fine x at n (front (IsFine ms) here more h),
          items_fine xs (with_earlier at (names_of x)) (n + constructs x) (back (IsFine ms) here more h),
        )

    -- the item of a block without `begin`
    single_same : (b : Bool) (x : Item) (at inside : Place) (n : ℕ) → Same (Judged x at n) (Walked x at n)
        → Same (Judged x inside 1) (Walked x inside 1)
        → Same (Judged x (if b then at else inside) (if b then n else 1))
        (Walked x (if b then at else inside) (if b then n else 1))
    single_same true x at inside n f g h = f h
    single_same false x at inside n f g h = g h

    mutual
      item_same : (x : Item) (at : Place) (n : ℕ) → IsWellFormed x → IsSoundScope at
          → Same (Judged x at n) (Walked x at n)
      item_same (declaration attrs p d) at n w h fine = refl
      item_same (integer attrs p xs) at n w h fine = refl
      item_same (genvar attrs p xs) at n w h fine = refl
      item_same (parameter attrs p kind xs) at n w h fine = refl
      item_same (assign attrs p xs) at n w h fine = refl
      item_same (always attrs p event s) at n w h fine = refl
      item_same (initial attrs p s) at n w h fine = refl
      item_same (instance attrs p x) at n w h fine =
          behind_same (item at (instance attrs p x)) (instance_steps is_valued ms judged at x)
          (instance_steps all_valued ms plain at x) (instance_same at x h.place w.1.1) fine
      item_same (generate attrs p mark) at n w h fine = refl
      item_same (for_loop attrs p head b) at n w h fine =
          let label : List ℕ = block_name at.names n (label_of b) in
          let values : HaveValues head at h.place.sound w.1 = loop-valued ms at attrs p head b h.place.sound w.1 fine.0 in
          let body : Const → List Step =
          λ c. turn_walk is_valued ms judged b (turn_place at head.variable c) (turn_path at.path label c) in
          let other : Const → List Step =
          λ c. turn_walk all_valued ms plain b (turn_place at head.variable c) (turn_path at.path label c) in
          behind_same (item at (for_loop attrs p head b)) (loop_walk is_valued head at body)
          (loop_walk all_valued head at other)
          (loop_same head at body other values.start values.condition values.next
          (λ c. turn_same b (turn_place at head.variable c) (turn_path at.path label c) w.2
          (turn_sound at head.variable c h.place))) fine
      item_same (if_only attrs p c b) at n w h fine =
          let holds : Bool = is_true (constant_operand (constant_in at.scopes) c) in
          let xs : List Step = block_walk is_valued ms judged b at n in
          let ys : List Step = block_walk all_valued ms plain b at n in
          behind_same (item at (if_only attrs p c b)) (if is_valued at c then (if holds then xs else []) else [])
          (if holds then ys else [])
          (valued_same (is_valued at c) (if holds then xs else []) (if holds then ys else [])
          (valued at _ c h.place.sound w.1 (none-back _ _ fine.0))
          (choice_same holds xs [] ys [] (block_same b at n w.2 h) none_same)) fine
      item_same (if_else attrs p c b d) at n w h fine =
          let holds : Bool = is_true (constant_operand (constant_in at.scopes) c) in
          let xs : List Step = block_walk is_valued ms judged b at n in
          let more : List Step = block_walk is_valued ms judged d at n in
          let ys : List Step = block_walk all_valued ms plain b at n in
          let others : List Step = block_walk all_valued ms plain d at n in
          behind_same (item at (if_else attrs p c b d)) (if is_valued at c then (if holds then xs else more) else [])
          (if holds then ys else others)
          (valued_same (is_valued at c) (if holds then xs else more) (if holds then ys else others)
          (valued at _ c h.place.sound w.1 (none-back _ _ fine.0))
          (choice_same holds xs more ys others (block_same b at n w.3 h) (block_same d at n w.4 h))) fine

      pub items_same : (xs : Items) (at : Place) (n : ℕ) → AreWellFormed xs → IsSoundScope at
          → Same (items_walk is_valued ms judged xs at n) (items_walk all_valued ms plain xs at n)
      items_same no_items at n w h fine = refl
      items_same (more_items x xs) at n w h fine =
          let next : Place = with_earlier at (names_of x) in
          both_same (Judged x at n) (items_walk is_valued ms judged xs next (n + constructs x)) (Walked x at n)
          (items_walk all_valued ms plain xs next (n + constructs x)) (item_same x at n w.0 h)
          (items_same xs next (n + constructs x) w.1 (further at (names_of x) h)) fine

      turn_same : (b : Block) (at : Place) (path : List ℕ) → IsBlock b → IsSoundPlace at
          → Same (turn_walk is_valued ms judged b at path) (turn_walk all_valued ms plain b at path)
      turn_same (begin p label xs) at path w h fine =
          let inside : Place = block_place at path xs in
          behind_same (block_step at (begin p label xs)) (items_walk is_valued ms judged xs inside 1)
          (items_walk all_valued ms plain xs inside 1)
          (λ k. items_same xs inside 1 w.2 (block_sound ms at path xs h w.2 (items_fine xs inside 1 k)) k) fine
      turn_same (region p xs) at path w h fine =
          let inside : Place = block_place at path xs in
          behind_same (block_step at (region p xs)) (items_walk is_valued ms judged xs inside 1)
          (items_walk all_valued ms plain xs inside 1)
          (λ k. items_same xs inside 1 w.1 (block_sound ms at path xs h w.1 (items_fine xs inside 1 k)) k) fine
      turn_same (single x) at path w h fine =
          let inside : Place = block_place at path (more_items x no_items) in
          behind_same (block_step at (single x)) (Judged x inside 1) (Walked x inside 1)
          (λ k. item_same x inside 1 w.2
          (block_sound ms at path (more_items x no_items) h (w.2, tt) (first_fine x inside 1 k, tt)) k) fine

      block_same : (b : Block) (at : Place) (n : ℕ) → IsBlock b → IsSoundScope at
          → Same (block_walk is_valued ms judged b at n) (block_walk all_valued ms plain b at n)
      block_same (begin p label xs) at n w h fine =
          let path : List ℕ = block_path at (block_name at.names n label) in
          let inside : Place = block_place at path xs in
          behind_same (block_step at (begin p label xs)) (items_walk is_valued ms judged xs inside 1)
          (items_walk all_valued ms plain xs inside 1)
          (λ k. items_same xs inside 1 w.2 (block_sound ms at path xs h.place w.2 (items_fine xs inside 1 k)) k) fine
      block_same (region p xs) at n w h fine =
          let path : List ℕ = block_path at (block_name at.names n None) in
          let inside : Place = block_place at path xs in
          behind_same (block_step at (region p xs)) (items_walk is_valued ms judged xs inside 1)
          (items_walk all_valued ms plain xs inside 1)
          (λ k. items_same xs inside 1 w.1 (block_sound ms at path xs h.place w.1 (items_fine xs inside 1 k)) k) fine
      block_same (single x) at n w h fine =
          let path : List ℕ = block_path at (block_name at.names n None) in
          let inside : Place = block_place at path (more_items x no_items) in
          behind_same (block_step at (single x)) (Judged x (single_place at n x) (single_number n x))
          (Walked x (single_place at n x) (single_number n x))
          (single_same (is_if x) x at inside n (λ k. item_same x at n w.2 h k)
          (λ k. item_same x inside 1 w.2
          (block_sound ms at path (more_items x no_items) h.place (w.2, tt) (first_fine x inside 1 k, tt)) k)) fine

  module _ (formed : All IsModule ms) where
    unfolded_same : (n : ℕ)
        → Unfolds (λ m u path modules before. module_walk is_valued n ms m u path modules before)
        (λ m u path modules before. module_walk all_valued n ms m u path modules before)
    unfolded_same zero m u v path modules before others w same valued fine = refl
    unfolded_same (suc n) m u v path modules before others w same valued fine =
        let at : Place = module_place m u path modules in
        let judged : Unfolding = λ m u path modules before. module_walk is_valued n ms m u path modules before in
        let plain : Unfolding = λ m u path modules before. module_walk all_valued n ms m u path modules before in
        let heads : List Step = header_steps at (module_parameters m) in
        let ports : List Step = port_steps (module_ports_place m u path modules) u None (written_ports m.ports) in
        let at_items : Place = module_items_place m u path modules in
        let rest : List Step = items_walk is_valued ms judged (items m.items) at_items 1 in
        let first : AreFine ms (before ++ heads ++ ports) = front (IsFine ms) (before ++ heads ++ ports) rest fine in
        let fine_items : AreFine ms rest = back (IsFine ms) (before ++ heads ++ ports) rest fine in
        let fine_ports : AreFine ms ports = back (IsFine ms) (before ++ heads) ports first in
        let fine_heads : AreFine ms heads
        = back (IsFine ms) before heads (front (IsFine ms) (before ++ heads) ports first) in
        let fine_before : AreFine ms before = front (IsFine ms) before heads (front (IsFine ms) (before ++ heads) ports first) in
        let used : u ≡ v = (same fine_before).0 in
        let fronts : before ≡ others = (same fine_before).1 in
        let x : IsSoundModule m u path modules
        = module_sound ms m u path modules w (subst (λ (o : Use). AllValued o.overrides) (sym used) valued) fine_heads
        fine_ports
        (items_fine formed judged plain (unfolded_same n) (items m.items) at_items 1 fine_items) in
        ap (λ l. before ++ heads ++ ports ++ l)
        (items_same formed judged plain (unfolded_same n) (items m.items) at_items 1 w.4
        (further at (parameter_names (module_parameters m) ++ port_names (ports_of m.ports)) x.place) fine_items)
        ∙ (λ i. module_walk all_valued (suc n) ms m (used i) path modules (fronts i))

-- where no judged step is refused, all steps of the walk are judged
pub all_judged : (ms : List Module) (top : List ℕ) → All IsModule ms
    → first_refused ms (record { nodes = 0; names = 0 }) (judged_walk ms top) ≡ None → judged_walk ms top ≡ walk ms top
all_judged ms top formed e =
    found_same ms (module_named ms top) _ _
    (λ m k.
    let u : Use = record { is_top = true; overrides = []; input = top_input } in
    unfolded_same ms formed (length ms) m u u [] [] [] [] (found-module ms top m formed k) (λ fine. (refl, refl)) tt)
    (none-refused ms (record { nodes = 0; names = 0 }) (judged_walk ms top) (omega arith) e).fine

pub all_steps_judged : (ms : List Module) (top : List ℕ) → All IsModule ms
    → first_refused ms (record { nodes = 0; names = 0 }) (judged_walk ms top) ≡ None → NoStepRefused ms top
all_steps_judged ms top formed e =
    subst (λ xs. first_refused ms (record { nodes = 0; names = 0 }) xs ≡ None) (all_judged ms top formed e) e
