-- Constants that are added to a scope one behind the other.
use Rattle.std.specs.Prelude.{◌≡◌, refl, ℕ, List, [], ◌∷◌, ◌++◌, drop, true, false, Option, Some, None, is_some}
use Rattle.std.specs.Prelude.{if◌then◌else◌}
use Rattle.std.specs.Option.{option_copied}
use Rattle.std.proofs.Common.{ap, sym, ◌∙◌, subst, Bor, true≢false, append_assoc}
use Rattle.fv_text.specs.declared.pos.Pos.{Pos}
use Rattle.vl_tree.specs.declared.declaration.Parameter.{Parameter}
use Rattle.vl_tree.specs.declared.declaration.ParameterKind.{ParameterKind}
use Rattle.vl_tree.specs.declared.declaration.ParameterKind.TheVariants as k
use Rattle.vl_tree.specs.Attributes.{Attributes}
use Rattle.vl_tree.specs.Expr.{Expr}
use Rattle.vl_tree.specs.Item.{Item, items, parameter}
use Rattle.vl_mean.specs.declared.const_number.Const.{Const}
use Rattle.vl_mean.specs.Cells.{contains_name}
use Rattle.vl_mean.specs.Constants.{Constants, constant_of}
use Rattle.vl_mean.specs.Declarations.{Overrides, parameter_value, with_constants, with_item_parameters}
use Rattle.vl_mean.specs.Declarations.{with_items_parameters, with_parameters}
use Rattle.vl_mean.specs.Scopes.{Scope}
use Rattle.vl_mean.specs.Walk.{parameter_names}
use Rattle.vl_elab_spec.specs.Meanings.{Names, constant, is_undeclared, meaning_of}
use Rattle.vl_elab_scope.specs.Seen.{innermost, with_name}
use Rattle.vl_elab_draft.specs.Kept.{with_constant}
use Rattle.vl_elab_const.specs.declared.given.Value.{Value}
use Rattle.vl_elab_const.specs.Given.{IsGiven, known_or, operand_or}
use Rattle.vl_elab_const.specs.Numbers.{HaveNumbers}
use Rattle.vl_elab_const.specs.Openable.{Different, constant_names, item_constants, items_constants}
use Rattle.vl_elab_flatten.specs.Levels.{Adds, HasConstants, constants_level, with_declared}
use Rattle.vl_elab_flatten.proofs.Distinct.{different_front, fresh, names_with_item, one_more, unknown}
use Rattle.vl_elab_flatten.proofs.Numbered.{level_append, level_meaning, level_numbers, meant}

-- ---- one constant

abbrev Fresh : Constants → List ℕ → Type 0
Fresh cs name = contains_name (constant_names cs) name ≡ false

module _ (path : List ℕ) (cs : Constants) (outer : List Names) (s : Scope) (ns : List Names)
    (has : HasConstants path cs outer s ns) (name : List ℕ) (new : Fresh cs name) where
  no_constant : constant_of s.constants name ≡ None
  no_constant = ap (λ t. constant_of t.constants name) has.scope ∙ unknown cs name new

  -- which isn't there already
  pub not_there : (o : Option (Bor Const)) → is_some o ≡ true → option_copied o ≡ constant_of s.constants name → ⊥
  not_there None h e = true≢false (sym h)
  not_there (Some c) h e = true≢false (ap is_some (e ∙ no_constant))

  level_more : (value : Const) → with_name (constants_level cs) name (constant value true)
      ≡ constants_level (cs ++ (name, value) ∷ [])
  level_more value =
      let l = constants_level cs in
      ap (λ b. if b then l ++ (name, constant value true) ∷ [] else l)
      (ap is_undeclared (level_meaning cs name ∙ ap meant (unknown cs name new)))
      ∙ sym (level_append cs ((name, value) ∷ []))

  pub constant_added : (value : Const) (t : Scope) (ms : List Names)
      → ms ≡ with_name (innermost ns) name (constant value true) ∷ drop 1 ns → t ≡ with_constant s name value
      → HasConstants path (cs ++ (name, value) ∷ []) outer t ms
  constant_added value t ms h e = record {
    scope = e ∙ ap (λ u. with_constant u name value) has.scope;
    numbers =
        h
        ∙ ap (λ ls. with_name (innermost ls) name (constant value true) ∷ drop 1 ls) has.numbers
        ∙ ap (λ l. l ∷ outer) (level_more value);
  }

pub none_known : (o : Option (Bor Const)) (known : Option Const) → is_some o ≡ false → option_copied o ≡ known
    → known ≡ None
none_known None known h e = sym e
none_known (Some c) known h e = absurd (true≢false h)

-- ---- a parameter

pub parameter_added : (given : List ℕ → Option Value) (x : Parameter) (value : Const) (s t : Scope) (ns ms : List Names)
    → ((os : Overrides) (ss : List Scope) → IsGiven given os → HaveNumbers ns ss → value ≡ parameter_value os ss x)
    → ((path : List ℕ) (cs : Constants) (outer : List Names) → Fresh cs x.name → HasConstants path cs outer s ns
    → HasConstants path (cs ++ (x.name, value) ∷ []) outer t ms)
    → Adds given (λ os ss cs. with_parameters os ss cs (x ∷ [])) (x.name ∷ []) s ns t ms
parameter_added given x value s t ns ms valued added os ss path cs outer g h d has =
    let here : HaveNumbers ns (with_constants cs ss) =
    subst (λ ls. HaveNumbers ls (with_constants cs ss)) (sym has.numbers) (level_numbers outer ss h cs) in
    subst (λ v. HasConstants path (cs ++ (x.name, v) ∷ []) outer t ms) (valued os (with_constants cs ss) g here)
    (added path cs outer (fresh (constant_names cs) [] x.name d) has)

-- what isn't given anything
pub given_nothing : (given : List ℕ → Option Value) → ((name : List ℕ) → given name ≡ None) → IsGiven given []
given_nothing given h = record {
  value = λ text x. sym (ap (λ o. operand_or o x) (h text));
  known = λ text b. sym (ap (λ o. known_or o b) (h text));
  there = λ text. sym (ap is_some (h text));
}

pub local_added : (given nothing : List ℕ → Option Value) → ((name : List ℕ) → nothing name ≡ None)
    → (xs : List Parameter) (s t : Scope) (ns ms : List Names)
    → Adds nothing (λ os ss cs. with_parameters os ss cs xs) (parameter_names xs) s ns t ms
    → Adds given (λ os ss cs. with_parameters [] ss cs xs) (parameter_names xs) s ns t ms
local_added given nothing none xs s t ns ms a os ss path cs outer g h d has =
    a [] ss path cs outer (given_nothing nothing none) h d has

-- ---- one behind the other

module _ (given : List ℕ → Option Value) (os : Overrides) (ss : List Scope) (path : List ℕ) (outer : List Names)
    (g : IsGiven given os) (h : HaveNumbers outer ss) where
  pub record ParametersGo (whole : Constants) (s : Scope) (ns : List Names) (left : List Parameter) : Type 0 where
    pub so_far : Constants
    pub has : HasConstants path so_far outer s ns
    pub different : Different (constant_names so_far ++ parameter_names left)
    pub same : with_parameters os ss so_far left ≡ whole

  pub parameters_first : (cs : Constants) (all : List Parameter) (s : Scope) (ns : List Names)
      → Different (constant_names cs ++ parameter_names all) → HasConstants path cs outer s ns
      → ParametersGo (with_parameters os ss cs all) s ns all
  parameters_first cs all s ns d has = record {
    so_far = cs;
    has = has;
    different = d;
    same = refl;
  }

  pub parameters_on : (whole : Constants) (s t : Scope) (ns ms : List Names) (x : Parameter)
      (rest left : List Parameter) → left ≡ x ∷ rest
      → Adds given (λ os ss cs. with_parameters os ss cs (x ∷ [])) (x.name ∷ []) s ns t ms
      → ParametersGo whole s ns left → ParametersGo whole t ms rest
  parameters_on whole s t ns ms x rest left e a go =
      let cs = go.so_far in
      let value = parameter_value os (with_constants cs ss) x in
      let different : Different (constant_names cs ++ x.name ∷ parameter_names rest) =
      subst (λ xs. Different (constant_names cs ++ parameter_names xs)) e go.different in
      let first : Different (constant_names cs ++ x.name ∷ []) =
      different_front (constant_names cs ++ x.name ∷ []) (parameter_names rest)
      (subst Different (sym (append_assoc (constant_names cs) (x.name ∷ []) (parameter_names rest))) different) in
      record {
        so_far = cs ++ (x.name, value) ∷ [];
        has = a os ss path cs outer g h first go.has;
        different = subst Different (sym (one_more os ss cs x (parameter_names rest))) different;
        same = sym (ap (with_parameters os ss cs) e) ∙ go.same;
      }

  pub parameters_last : (whole : Constants) (s : Scope) (ns : List Names) (left : List Parameter) → left ≡ []
      → ParametersGo whole s ns left → HasConstants path whole outer s ns
  parameters_last whole s ns left e go =
      subst (λ cs. HasConstants path cs outer s ns) (sym (ap (with_parameters os ss go.so_far) e) ∙ go.same) go.has

  pub record ItemsGo (whole : Constants) (s : Scope) (ns : List Names) (left : List Item) : Type 0 where
    pub so_far : Constants
    pub has : HasConstants path so_far outer s ns
    pub different : Different (constant_names so_far ++ items_constants (items left))
    pub same : with_items_parameters os ss so_far (items left) ≡ whole

  pub items_first : (cs : Constants) (all : List Item) (s : Scope) (ns : List Names)
      → Different (constant_names cs ++ items_constants (items all)) → HasConstants path cs outer s ns
      → ItemsGo (with_items_parameters os ss cs (items all)) s ns all
  items_first cs all s ns d has = record {
    so_far = cs;
    has = has;
    different = d;
    same = refl;
  }

  pub items_on : (whole : Constants) (s t : Scope) (ns ms : List Names) (x : Item) (rest left : List Item)
      → left ≡ x ∷ rest
      → Adds given (λ os ss cs. with_item_parameters os ss cs x) (item_constants x) s ns t ms
      → ItemsGo whole s ns left → ItemsGo whole t ms rest
  items_on whole s t ns ms x rest left e a go =
      let cs = go.so_far in
      let names = constant_names cs in
      let more = items_constants (items rest) in
      let different : Different ((names ++ item_constants x) ++ more) =
      subst Different (sym (append_assoc names (item_constants x) more))
      (subst (λ xs. Different (names ++ items_constants (items xs))) e go.different) in
      record {
        so_far = with_item_parameters os ss cs x;
        has = a os ss path cs outer g h (different_front (names ++ item_constants x) more different) go.has;
        different = subst (λ ns. Different (ns ++ more)) (sym (names_with_item os ss cs x)) different;
        same = sym (ap (λ xs. with_items_parameters os ss cs (items xs)) e) ∙ go.same;
      }

  pub items_last : (whole : Constants) (s : Scope) (ns : List Names) (left : List Item) → left ≡ []
      → ItemsGo whole s ns left → HasConstants path whole outer s ns
  items_last whole s ns left e go =
      subst (λ cs. HasConstants path cs outer s ns)
      (sym (ap (λ xs. with_items_parameters os ss go.so_far (items xs)) e) ∙ go.same) go.has

-- ---- the parameters of an item

same_kind : (kind : ParameterKind) (a : Attributes) (p : Pos) (os : Overrides) (ss : List Scope) (cs : Constants)
    (xs : List Parameter)
    → with_declared kind os ss cs xs ≡ with_item_parameters os ss cs (parameter a p kind xs)
same_kind k.Parameter a p os ss cs xs = refl
same_kind k.Localparam a p os ss cs xs = refl

pub item_added : (given : List ℕ → Option Value) (a : Attributes) (p : Pos) (kind : ParameterKind)
    (xs ys : List Parameter) (x : Item) (s t : Scope) (ns ms : List Names) → parameter a p kind xs ≡ x → ys ≡ xs
    → Adds given (λ os ss cs. with_declared kind os ss cs ys) (parameter_names ys) s ns t ms
    → Adds given (λ os ss cs. with_item_parameters os ss cs x) (item_constants x) s ns t ms
item_added given a p kind xs ys x s t ns ms same all h =
    subst (λ y. Adds given (λ os ss cs. with_item_parameters os ss cs y) (item_constants y) s ns t ms) same
    (λ os ss path cs outer g n d has. subst (λ ds. HasConstants path ds outer t ms)
    (same_kind kind a p os ss cs xs)
    (subst (λ zs. Adds given (λ os ss cs. with_declared kind os ss cs zs) (parameter_names zs) s ns t ms) all h
    os ss path cs outer g n d has))
