-- How the steps of items and blocks are walked, by the functions that go through them.
use Rattle.std.specs.Prelude.{◌≡◌, refl, ℕ, ◌-◌, ◌<◌, List, [], ◌∷◌, ◌++◌, Bool, true, is_some, false, codes}
use Rattle.std.specs.Prelude.{if◌then◌else◌}
use Rattle.std.specs.Prelude.{Option, Some, None}
use Rattle.std.specs.Option.{option_map}
use Rattle.std.proofs.Common.{ap, sym, ◌∙◌, subst, true≢false}
use Rattle.std.proofs.lemmas.List.{append_assoc}
use Rattle.fv_text.specs.declared.pos.Pos.{Pos}
use Rattle.vl_tree.specs.declared.item.Block as declared
use Rattle.vl_tree.specs.declared.item.ItemKind.TheVariants as kind
use Rattle.vl_tree.specs.declared.part.Instance.{Instance}
use Rattle.vl_tree.specs.declared.part.LoopHead.{LoopHead}
use Rattle.vl_tree.specs.declared.source.Module.{Module}
use Rattle.vl_tree.specs.Attributes.{Attributes}
use Rattle.vl_tree.specs.Expr.{Expr}
use Rattle.vl_tree.specs.Item.{Item, Items, Block, begin, region, single, no_items, more_items, depth, items}
use Rattle.vl_tree.specs.ItemView.{block, shown}
use Rattle.vl_tree.specs.WellFormed.{AreWellFormed, IsBlock}
use Rattle.vl_size.specs.Size.{is_true}
use Rattle.vl_mean.specs.declared.const_number.Const.{Const}
use Rattle.vl_mean.specs.Cells.{contains_name}
use Rattle.vl_mean.specs.Constants.{constant_operand}
use Rattle.vl_mean.specs.Declarations.{block_name, label_of}
use Rattle.vl_mean.specs.Scopes.{constant_in}
use Rattle.vl_mean.specs.Walk.{Place, Step, Unfolding, Use, item, block_step, block_path, block_place, block_walk}
use Rattle.vl_mean.specs.Walk.{item_walk, single_number, single_place}
use Rattle.vl_mean.specs.Walk as walk
use Rattle.vl_mean.specs.Walk.{first_turn, loop_walk, next_turn, turn_limit, turn_place, turns}
use Rattle.vl_mean.specs.Walk.{items_walk, turn_walk, instance_steps, module_named, module_place, module_walk, use_of}
use Rattle.vl_elab_spec.specs.declared.elab_fault.ElabFault.{ElabFault}
use Rattle.vl_elab_spec.specs.Items.{has_value, is_valued}
use Rattle.vl_elab_spec.specs.Meanings.{Names, item_names, meanings_at}
use Rattle.vl_elab_scope.specs.Alike.{Alike}
use Rattle.vl_elab_scope.proofs.Sizes.{same_context}
use Rattle.vl_elab_spec.specs.Refused.{Totals, nowhere}
use Rattle.vl_elab_const.specs.Numbers.{HaveNumbers, holds}
use Rattle.vl_elab_decls.specs.declared.scopes.Inside.{Inside}
use Rattle.vl_elab_spec.specs.declared.totals.Totals as kept
use Rattle.vl_elab_spec.specs.Walked.{AreTotals, AreWalked}
use Rattle.vl_elab_spec.proofs.Passed.{none_walked}
use Rattle.vl_elab_spec.specs.Left.{AreLeft, ItemsAreLeft}
use Rattle.vl_elab_spec.specs.Within.{IsNotRecursive, behind_head, block_items, chosen_by, chosen_walk, front_steps}
use Rattle.vl_elab_spec.specs.Within.{head_steps, inner_walk, opened_walk, nested_if}
use Rattle.vl_elab_spec.proofs.Behind.{WalkedFrom, goes_on, left_all, stops}
use Rattle.vl_elab_spec.proofs.Inner.{block_formed, if_by, nested_item, not_recursive, own_and_inner}
use Rattle.vl_elab_spec.proofs.Inner.{scope_items, turn_items}
use Rattle.vl_elab_spec.proofs.Unfolded.{instance_found, named_is, none_unfolded, one_unfolded}
use Rattle.vl_elab_check.specs.declared.scopes.Here.{Here}
use Rattle.vl_elab_check.specs.Bare.{is_bare}
use Rattle.vl_elab_check.specs.Standing.{IsHere, IsSoFar}
use Rattle.vl_elab_check.proofs.NoSteps.{bare_steps}

pub none_of : (g : Option ElabFault) → is_some g ≡ false → g ≡ None
none_of None e = refl
none_of (Some g) e = absurd (true≢false e)

-- before the first item
pub all_items : (ms : List Module) (n : ℕ) (inside : Inside) (here : Here) (path : List (List ℕ)) (xs : Items)
    (walked : kept.Totals) (t : Totals) (at : Place) (k : ℕ) → IsSoFar ms walked t → IsHere inside here path at
    → ItemsAreLeft ms (module_walk is_valued n ms) t (items_walk is_valued ms (module_walk is_valued n ms) xs at k) (IsHere inside here path) walked xs
all_items ms n inside here path xs walked t at k so h = record {
  at = at;
  number = k;
  here = h;
  steps = left_all ms t (items_walk is_valued ms (module_walk is_valued n ms) xs at k) walked so.totals;
}

-- before the first turn
pub first_turn_left : (ms : List Module) (n : ℕ) (b : Block) (head : LoopHead) (at : Place) (paths : Const → List ℕ)
    (walked : kept.Totals) (t : Totals) (c : Const) (k : ℕ) → AreTotals walked t → c ≡ first_turn head at.scopes
    → k ≡ turn_limit is_valued head at
    → let body : Const → List Step =
    λ v. turn_walk is_valued ms (module_walk is_valued n ms) b (turn_place at head.variable v) (paths v) in
    AreLeft ms t (loop_walk is_valued head at body) walked
    (turns k (walk.goes_on head at.scopes) (next_turn head at.scopes) body c)
first_turn_left ms n b head at paths walked t c k totals e most =
    let body : Const → List Step =
    λ v. turn_walk is_valued ms (module_walk is_valued n ms) b (turn_place at head.variable v) (paths v) in
    subst (AreLeft ms t (loop_walk is_valued head at body) walked)
    (sym (λ i. turns (most i) (walk.goes_on head at.scopes) (next_turn head at.scopes) body (e i)))
    (left_all ms t (loop_walk is_valued head at body) walked totals)

-- an `if` declares no names itself
pub if_names : (attrs : Attributes) (p : Pos) (c : Expr) (first : declared.Block) (second : Option declared.Block)
    → item_names (shown attrs p (kind.If c first second)) ≡ []
if_names attrs p c first None = refl
if_names attrs p c first (Some second) = refl

-- how deep an `if` is doesn't depend on where it stands
pub if_depth : (attrs : Attributes) (p : Pos) (c : Expr) (first : declared.Block) (second : Option declared.Block)
    → depth (shown attrs p (kind.If c first second)) ≡ depth (shown [] nowhere (kind.If c first second))
if_depth attrs p c first None = refl
if_depth attrs p c first (Some second) = refl

-- ---- items

module _ (ms : List Module) (n : ℕ) where
  abbrev inner : Unfolding
  inner = module_walk is_valued n ms

  -- an item by itself, and what is in it
  pub own_stops : (x : Item) (at : Place) (k : ℕ) (t : Totals) (new : kept.Totals) (g : Option ElabFault)
      → is_some g ≡ true → AreWalked ms t new (item at x ∷ []) g
      → AreWalked ms t new (item_walk is_valued ms inner x at k) g
  own_stops x at k t new g e h =
      subst (λ xs. AreWalked ms t new xs g) (own_and_inner is_valued ms inner x at k)
      (stops ms t new (item at x ∷ []) (inner_walk is_valued ms inner x at k) g e h)

  pub own_passes : (x : Item) (at : Place) (k : ℕ) (t : Totals) (between new : kept.Totals) (f g : Option ElabFault)
      → is_some f ≡ false → AreWalked ms t between (item at x ∷ []) f
      → (IsNotRecursive x at → WalkedFrom ms between new (inner_walk is_valued ms inner x at k) g)
      → AreWalked ms t new (item_walk is_valued ms inner x at k) g
  own_passes x at k t between new f g e h more =
      let passed : AreWalked ms t between (item at x ∷ []) None =
      subst (AreWalked ms t between (item at x ∷ [])) (none_of f e) h in
      subst (λ xs. AreWalked ms t new xs g) (own_and_inner is_valued ms inner x at k)
      (goes_on ms t between new (item at x ∷ []) (inner_walk is_valued ms inner x at k) f g e h
      (more (not_recursive ms t between at x passed)))

  -- nothing is in another item
  pub none_within : (x y : Item) → y ≡ x → ((at : Place) (k : ℕ) → inner_walk is_valued ms inner y at k ≡ [])
      → (at : Place) (k : ℕ) → inner_walk is_valued ms inner x at k ≡ []
  none_within x y e none at k = subst (λ z. inner_walk is_valued ms inner z at k ≡ []) e (none at k)

  pub leaf_walked : (x : Item) → ((at : Place) (k : ℕ) → inner_walk is_valued ms inner x at k ≡ [])
      → (at : Place) (k : ℕ) (t : Totals) (new : kept.Totals) → AreTotals new t
      → AreWalked ms t new (inner_walk is_valued ms inner x at k) None
  leaf_walked x none at k t new totals =
      subst (λ xs. AreWalked ms t new xs None) (sym (none at k)) (none_walked ms t new totals)

  -- ---- an `if`

  module _ (attrs : Attributes) (p : Pos) (c : Expr) (first : declared.Block) (second : Option declared.Block)
      (o : Option Bool) (names numbers : List Names)
      (e : o ≡ (if has_value names c then Some (holds numbers c) else None)) (at : Place)
      (alike : Alike names (meanings_at at)) (h : HaveNumbers numbers at.scopes) (k : ℕ) where
    abbrev whole : Item
    whole = shown attrs p (kind.If c first second)

    condition : o ≡ (if is_valued at c then Some (is_true (constant_operand (constant_in at.scopes) c)) else None)
    condition =
        e ∙ (λ i. if is_some (same_context names (meanings_at at) alike c i).size
        then Some (is_true (constant_operand (λ text. h text i) c)) else None)

    pub none_chosen : (t : Totals) (new : kept.Totals)
        → None ≡ chosen_by o (block first) (option_map block second) → AreTotals new t
        → AreWalked ms t new (inner_walk is_valued ms inner whole at k) None
    none_chosen t new gone totals =
        subst (λ xs. AreWalked ms t new xs None)
        (ap (λ o. chosen_walk is_valued ms inner o at k) gone
        ∙ if_by is_valued ms inner attrs p c first second at k o condition)
        (none_walked ms t new totals)

    pub some_chosen : (x : Block) (t : Totals) (new : kept.Totals) (g : Option ElabFault)
        → Some x ≡ chosen_by o (block first) (option_map block second)
        → AreWalked ms t new (block_walk is_valued ms inner x at k) g
        → AreWalked ms t new (inner_walk is_valued ms inner whole at k) g
    some_chosen x t new g some walked =
        subst (λ xs. AreWalked ms t new xs g)
        (ap (λ o. chosen_walk is_valued ms inner o at k) some
        ∙ if_by is_valued ms inner attrs p c first second at k o condition)
        walked

  -- ---- blocks

  -- one that isn't passed
  pub block_stops : (b : Block) (at : Place) (k : ℕ) (t : Totals) (new : kept.Totals) (g : Option ElabFault)
      → is_some g ≡ true → AreWalked ms t new (block_step at b ∷ []) g
      → AreWalked ms t new (block_walk is_valued ms inner b at k) g
  block_stops (begin p label xs) at k t new g e h =
      stops ms t new (block_step at (begin p label xs) ∷ [])
      (items_walk is_valued ms inner xs (block_place at (block_path at (block_name at.names k label)) xs) 1) g e h
  block_stops (region p xs) at k t new g e h =
      stops ms t new (block_step at (region p xs) ∷ [])
      (items_walk is_valued ms inner xs (block_place at (block_path at (block_name at.names k None)) xs) 1) g e h
  block_stops (single x) at k t new g e h =
      stops ms t new (block_step at (single x) ∷ [])
      (item_walk is_valued ms inner x (single_place at k x) (single_number k x)) g e h

  pub turn_stops : (b : Block) (at : Place) (text : List ℕ) (t : Totals) (new : kept.Totals) (g : Option ElabFault)
      → is_some g ≡ true → AreWalked ms t new (block_step at b ∷ []) g
      → AreWalked ms t new (turn_walk is_valued ms inner b at text) g
  turn_stops (begin p label xs) at text t new g e h =
      stops ms t new (block_step at (begin p label xs) ∷ []) (items_walk is_valued ms inner xs (block_place at text xs) 1)
      g e h
  turn_stops (region p xs) at text t new g e h =
      stops ms t new (block_step at (region p xs) ∷ []) (items_walk is_valued ms inner xs (block_place at text xs) 1) g e h
  turn_stops (single x) at text t new g e h =
      stops ms t new (block_step at (single x) ∷ [])
      (item_walk is_valued ms inner x (block_place at text (more_items x no_items)) 1) g e h

  -- one that is passed, and what is in it
  module _ (b : Block) (at : Place) (t : Totals) (between new : kept.Totals) (f g : Option ElabFault)
      (passes : is_some f ≡ false) (own : AreWalked ms t between (block_step at b ∷ []) f) where
    behind_own : (ys zs : List Step) → (block_step at b ∷ []) ++ ys ≡ zs → WalkedFrom ms between new ys g
        → AreWalked ms t new zs g
    behind_own ys zs e walked =
        subst (λ xs. AreWalked ms t new xs g) e (goes_on ms t between new (block_step at b ∷ []) ys f g passes own walked)

    pub scope_walked : (xs : Items) (k : ℕ) → xs ≡ block_items b → nested_if b ≡ None
        → ((text : List ℕ) → WalkedFrom ms between new (items_walk is_valued ms inner xs (block_place at text xs) 1) g)
        → AreWalked ms t new (block_walk is_valued ms inner b at k) g
    scope_walked xs k e gone walked =
        let text : List ℕ = block_path at (block_name at.names k (label_of b)) in
        behind_own (items_walk is_valued ms inner xs (block_place at text xs) 1) (block_walk is_valued ms inner b at k)
        (ap (λ ys. (block_step at b ∷ []) ++ items_walk is_valued ms inner ys (block_place at text ys) 1) e
        ∙ scope_items is_valued ms inner b at k gone)
        (walked text)

    pub turn_walked : (xs : Items) (text : List ℕ) → xs ≡ block_items b
        → WalkedFrom ms between new (items_walk is_valued ms inner xs (block_place at text xs) 1) g
        → AreWalked ms t new (turn_walk is_valued ms inner b at text) g
    turn_walked xs text e walked =
        behind_own (items_walk is_valued ms inner xs (block_place at text xs) 1) (turn_walk is_valued ms inner b at text)
        (ap (λ ys. (block_step at b ∷ []) ++ items_walk is_valued ms inner ys (block_place at text ys) 1) e
        ∙ turn_items is_valued ms inner b at text)
        walked

    pub nested_walked : (x : Item) (k : ℕ) → nested_if b ≡ Some x
        → WalkedFrom ms between new (item_walk is_valued ms inner x at k) g
        → AreWalked ms t new (block_walk is_valued ms inner b at k) g
    nested_walked x k e walked =
        behind_own (item_walk is_valued ms inner x at k) (block_walk is_valued ms inner b at k)
        (nested_item is_valued ms inner b x at k e) walked

  pub items_formed : (b : Block) (xs : Items) → xs ≡ block_items b → IsBlock b → AreWellFormed xs
  items_formed b xs e w = subst AreWellFormed (sym e) (block_formed b w)

-- ---- modules

-- where no module has the name
pub unnamed_walked : (ms : List Module) (n : ℕ) (at : Place) (x : Instance) (t : Totals) (new : kept.Totals)
    → module_named ms x.definition ≡ None → AreTotals new t
    → AreWalked ms t new (instance_steps is_valued ms (module_walk is_valued n ms) at x) None
unnamed_walked ms n at x t new e totals =
    subst (λ xs. AreWalked ms t new xs None) (instance_found is_valued ms (module_walk is_valued n ms) at x None e)
    (none_walked ms t new totals)

module _ (ms : List Module) (n : ℕ) (at : Place) (x : Instance) (m : Module) (e : module_named ms x.definition ≡ Some m)
  where
    -- where modules are as deep in one another as they may be
    pub deep_walked : (t : Totals) (new : kept.Totals) → n ≡ 0 → AreTotals new t
        → AreWalked ms t new (instance_steps is_valued ms (module_walk is_valued n ms) at x) None
    deep_walked t new none totals =
        subst (λ xs. AreWalked ms t new xs None)
        (sym (none_unfolded is_valued ms n m (use_of (is_valued at) at.scopes x) (at.path ++ x.name ++ codes ".") at.modules
        (front_steps at m (use_of (is_valued at) at.scopes x) (at.path ++ x.name ++ codes ".") x) none)
        ∙ instance_found is_valued ms (module_walk is_valued n ms) at x (Some m) e) (none_walked ms t new totals)

    -- one that stands in its own module was refused
    pub not_around : contains_name at.modules x.definition ≡ false → contains_name at.modules m.name ≡ false
    not_around h = ap (contains_name at.modules) (named_is ms x.definition m e).name ∙ h

    pub module_walked : (t : Totals) (new : kept.Totals) (g : Option ElabFault) → 0 < n
        → ((text : List ℕ) → let u = use_of (is_valued at) at.scopes x in AreWalked ms t new (front_steps at m u text x
        ++ opened_walk is_valued ms (module_walk is_valued (n - 1) ms) (module_place m u text at.modules) m u) g)
        → AreWalked ms t new (instance_steps is_valued ms (module_walk is_valued n ms) at x) g
    module_walked t new g positive walked =
        let text : List ℕ = at.path ++ x.name ++ codes "." in
        let u : Use = use_of (is_valued at) at.scopes x in
        subst (λ xs. AreWalked ms t new xs g)
        (one_unfolded is_valued ms n m u text at.modules (front_steps at m u text x) positive
        ∙ instance_found is_valued ms (module_walk is_valued n ms) at x (Some m) e) (walked text)

    -- where nothing is within it
    pub bare_walked : (t : Totals) (new : kept.Totals) (b : Bool) → 0 < n → b ≡ is_bare m x → b ≡ true
        → AreTotals new t → AreWalked ms t new (instance_steps is_valued ms (module_walk is_valued n ms) at x) None
    bare_walked t new b positive same bare totals =
        module_walked t new None positive (λ text. subst (λ xs. AreWalked ms t new xs None)
        (sym (bare_steps ms (module_walk is_valued (n - 1) ms) at m (use_of (is_valued at) at.scopes x) text x (sym same ∙ bare)))
        (none_walked ms t new totals))

-- ---- what is given and joined, with the head of the module, and behind it the items

module _ (ms : List Module) (n : ℕ) (at : Place) (x : Instance) (m : Module) (u : Use) (text : List ℕ) where
  abbrev place : Place
  place = module_place m u text at.modules

  abbrev opening : List Step
  opening = front_steps at m u text x ++ head_steps place m u

  abbrev rest : List Step
  rest = items_walk is_valued ms (module_walk is_valued n ms) (items m.items) (behind_head place m) 1

  together : opening ++ rest ≡ front_steps at m u text x ++ opened_walk is_valued ms (module_walk is_valued n ms) place m u
  together = append_assoc (front_steps at m u text x) (head_steps place m u) rest

  pub opening_stops : (t : Totals) (new : kept.Totals) (g : Option ElabFault) → is_some g ≡ true
      → AreWalked ms t new opening g
      → AreWalked ms t new (front_steps at m u text x ++ opened_walk is_valued ms (module_walk is_valued n ms) place m u) g
  opening_stops t new g some walked =
      subst (λ xs. AreWalked ms t new xs g) together (stops ms t new opening rest g some walked)

  pub opening_passes : (t : Totals) (between new : kept.Totals) (f g : Option ElabFault) → is_some f ≡ false
      → AreWalked ms t between opening f → WalkedFrom ms between new rest g
      → AreWalked ms t new (front_steps at m u text x ++ opened_walk is_valued ms (module_walk is_valued n ms) place m u) g
  opening_passes t between new f g passed walked more =
      subst (λ xs. AreWalked ms t new xs g) together (goes_on ms t between new opening rest f g passed walked more)
