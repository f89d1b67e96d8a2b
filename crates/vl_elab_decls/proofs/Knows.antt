-- What is known of the constants of a scope is right.
use Rattle.std.specs.Prelude.{◌≡◌, refl, ℕ, List, [], ◌∷◌, ◌++◌, map, Bool, true, false, ◌&&◌, bytes_eq, is_none}
use Rattle.std.specs.Prelude.{is_some, Option, Some, None, if◌then◌else◌}
use Rattle.std.proofs.Common.{ap, sym, ◌∙◌}
use Rattle.std.proofs.lemmas.Slice.Eq.{bytes_eq-Decides}
use Rattle.vl_tree.specs.declared.declaration.DeclaredName.{DeclaredName}
use Rattle.vl_tree.specs.declared.declaration.FullPort.{FullPort}
use Rattle.vl_tree.specs.declared.declaration.Parameter.{Parameter}
use Rattle.vl_tree.specs.declared.declaration.ParameterKind.TheVariants as k
use Rattle.vl_tree.specs.Item.{
  Item,
  Items,
  declaration,
  integer,
  genvar,
  parameter,
  assign,
  always,
  initial,
  instance,
  generate,
  for_loop,
  if_only,
  if_else,
  no_items,
  more_items,
}
use Rattle.vl_size.specs.declared.decl.Class.{Class}
use Rattle.vl_size.specs.declared.decl.Class.TheVariants as class
use Rattle.vl_size.specs.declared.decl.Decl.{Decl}
use Rattle.vl_size.specs.Table.{declared_as}
use Rattle.vl_mean.specs.declared.const_number.Const.{Const}
use Rattle.vl_mean.specs.Constants.{Constants, constant_of}
use Rattle.vl_mean.specs.Declarations.{Overrides, class_of_attributes, class_of_kind, joined_attributes}
use Rattle.vl_mean.specs.Scopes.{Scope}
use Rattle.vl_elab_spec.specs.declared.role.Role.{Role}
use Rattle.vl_elab_spec.specs.declared.role.Role.TheVariants as roles
use Rattle.vl_elab_spec.specs.Meanings.{Meaning, undeclared, constant, loop_variable, object, faulty, shapeless, later}
use Rattle.vl_elab_spec.specs.Meanings.{Names, is_undeclared, meaning_of, value_of, is_known_parameter, may_be_selected}
use Rattle.vl_elab_spec.specs.Meanings.{constant_or, object_or, with_parameter_meanings, with_item_constants}
use Rattle.vl_elab_spec.specs.Meanings.{port_meanings, name_meanings, item_meanings, items_meanings, is_known_shape}
use Rattle.vl_elab_spec.specs.Meanings.{is_known_range, may_have_words, role_of_kind, role_of_port}

module _ (s : Scope) where
  -- each name that means a constant has the scope's
  abbrev pub EachRight : Names → Type 0
  EachRight [] = Unit {0}
  EachRight (n ∷ ns) =
      ((c : Const) → value_of n.1 ≡ Some c → constant_of s.constants n.0 ≡ Some c) × EachRight ns

  right_append : (ns ms : Names) → EachRight ns → EachRight ms → EachRight (ns ++ ms)
  right_append [] ms h k = k
  right_append (n ∷ ns) ms h k = (h.0, right_append ns ms h.1 k)

  pub right_of : (ns : Names) → EachRight ns → (text : List ℕ) (c : Const) → value_of (meaning_of ns text) ≡ Some c
      → constant_of s.constants text ≡ Some c
  right_of [] h text c e = cc
  right_of (n ∷ ns) h text c e = by (bytes_eq text n.0) refl e (right_of ns h.1 text c)
    where
      by : (b : Bool) → bytes_eq text n.0 ≡ b → value_of (if b then n.1 else meaning_of ns text) ≡ Some c
          → (value_of (meaning_of ns text) ≡ Some c → constant_of s.constants text ≡ Some c)
          → constant_of s.constants text ≡ Some c
      by true q e f = ap (constant_of s.constants) ((bytes_eq-Decides text n.0).0 q) ∙ h.0 c e
      by false q e f = f e

  or_right : (known : Bool) (o : Option Const) (selected : Bool) (c : Const)
      → value_of (constant_or known o selected) ≡ Some c → o ≡ Some c
  or_right true None selected c e = cc
  or_right true (Some b) selected c e = e
  or_right false None selected c e = cc
  or_right false (Some b) selected c e = cc

  no_value : (known : Bool) (o : Option Decl) (role : Role) (scalar : Bool)
      → value_of (object_or known o role scalar) ≡ None
  no_value true None role scalar = refl
  no_value true (Some d) role scalar = refl
  no_value false None role scalar = refl
  no_value false (Some d) role scalar = refl

  not_there : (o : Option Const) (c : Const) → o ≡ None → o ≡ Some c → (p : Option Const) → p ≡ Some c
  not_there o c e f p = cc

  module _ (outer : List Names) (behind : Names) where
    parameters_right : (os : Overrides) (ns : Names) (xs : List Parameter) → EachRight ns
        → EachRight (with_parameter_meanings s outer os behind ns xs)
    parameters_right os ns [] h = h
    parameters_right os ns (x ∷ xs) h =
        let around = (ns ++ behind) ∷ outer in
        let known = is_known_parameter os around x in
        let selected = may_be_selected around x.shape.range in
        let found = constant_of s.constants x.name in
        let more : Names = (x.name, constant_or known found selected) ∷ [] in
        parameters_right os (ns ++ more) xs (right_append ns more h
        ((λ c e. or_right known found selected c e), tt))

    pub items_right : (os : Overrides) (ns : Names) (xs : Items) → EachRight ns
        → EachRight (with_item_constants s outer os behind ns xs)
    items_right os ns no_items h = h
    items_right os ns (more_items (parameter attrs p k.Parameter xs) more) h =
        items_right os (with_parameter_meanings s outer os behind ns xs) more (parameters_right os ns xs h)
    items_right os ns (more_items (parameter attrs p k.Localparam xs) more) h =
        items_right os (with_parameter_meanings s outer [] behind ns xs) more (parameters_right [] ns xs h)
    items_right os ns (more_items (declaration attrs p x) more) h = items_right os ns more h
    items_right os ns (more_items (integer attrs p xs) more) h = items_right os ns more h
    items_right os ns (more_items (genvar attrs p xs) more) h = items_right os ns more h
    items_right os ns (more_items (assign attrs p xs) more) h = items_right os ns more h
    items_right os ns (more_items (always attrs p event x) more) h = items_right os ns more h
    items_right os ns (more_items (initial attrs p x) more) h = items_right os ns more h
    items_right os ns (more_items (instance attrs p x) more) h = items_right os ns more h
    items_right os ns (more_items (generate attrs p mark) more) h = items_right os ns more h
    items_right os ns (more_items (for_loop attrs p head b) more) h = items_right os ns more h
    items_right os ns (more_items (if_only attrs p x b) more) h = items_right os ns more h
    items_right os ns (more_items (if_else attrs p x b b') more) h = items_right os ns more h

    pub own_right : (os : Overrides) (ps : List Parameter) (xs : Items)
        → EachRight (with_item_constants s outer os behind (with_parameter_meanings s outer os behind [] ps) xs)
    own_right os ps xs =
        items_right os (with_parameter_meanings s outer os behind [] ps) xs (parameters_right os [] ps tt)

  -- ---- ports, nets, variables and genvars mean no constant

  abbrev pub NoValue : Names → Type 0
  NoValue ns = (text : List ℕ) → value_of (meaning_of ns text) ≡ None

  one_more : (x : List ℕ) (m : Meaning) (ns : Names) → value_of m ≡ None → NoValue ns → NoValue ((x, m) ∷ ns)
  one_more x m ns h k text = by (bytes_eq text x)
    where
      by : (b : Bool) → value_of (if b then m else meaning_of ns text) ≡ None
      by true = h
      by false = k text

  module _ (outer known : List Names) where
    names_before : (c : Class) (role : Role) (k scalar : Bool) (xs : List DeclaredName) (more : Names) → NoValue more
        → NoValue (name_meanings s outer known c role k scalar xs ++ more)
    names_before c role k scalar [] more h = h
    names_before c role k scalar (x ∷ xs) more h =
        let right = k && (is_known_range known x.words && may_have_words c x.words x.value) in
        let found = declared_as s.decls x.name in
        one_more x.name (object_or right found role scalar) (name_meanings s outer known c role k scalar xs ++ more)
        (no_value right found role scalar) (names_before c role k scalar xs more h)

    genvars_before : (xs : List (List ℕ)) (more : Names) → NoValue more
        → NoValue (map (λ text. (text, loop_variable)) xs ++ more)
    genvars_before [] more h = h
    genvars_before (x ∷ xs) more h =
        one_more x loop_variable (map (λ text. (text, loop_variable)) xs ++ more) refl (genvars_before xs more h)

    item_before : (x : Item) (more : Names) → NoValue more → NoValue (item_meanings s outer known x ++ more)
    item_before (declaration attrs p d) more h =
        names_before (class_of_attributes (class_of_kind d.net) (joined_attributes attrs)) (role_of_kind d.net)
        (is_known_shape known d.shape.range) (is_none d.shape.range) d.names more h
    item_before (integer attrs p xs) more h =
        names_before (class_of_attributes class.Variable (joined_attributes attrs)) roles.Variable true false xs more h
    item_before (genvar attrs p xs) more h = genvars_before xs more h
    item_before (parameter attrs p kind xs) more h = h
    item_before (assign attrs p xs) more h = h
    item_before (always attrs p event x) more h = h
    item_before (initial attrs p x) more h = h
    item_before (instance attrs p x) more h = h
    item_before (generate attrs p mark) more h = h
    item_before (for_loop attrs p head b) more h = h
    item_before (if_only attrs p x b) more h = h
    item_before (if_else attrs p x b b') more h = h

    items_no_value : (xs : Items) → NoValue (items_meanings s outer known xs)
    items_no_value no_items = λ text. refl
    items_no_value (more_items x xs) = item_before x (items_meanings s outer known xs) (items_no_value xs)

    pub objects_no_value : (ps : List FullPort) (xs : Items)
        → NoValue (port_meanings s outer known ps ++ items_meanings s outer known xs)
    objects_no_value [] xs = items_no_value xs
    objects_no_value (p ∷ ps) xs =
        let right = is_known_shape known p.shape.range in
        let found = declared_as s.decls p.name in
        one_more p.name (object_or right found (role_of_port p.direction p.net) (is_none p.shape.range))
        (port_meanings s outer known ps ++ items_meanings s outer known xs)
        (no_value right found (role_of_port p.direction p.net) (is_none p.shape.range)) (objects_no_value ps xs)

-- ---- constants as names

pub constants_meaning : (cs : Constants) (text : List ℕ)
    → value_of (meaning_of (map (λ x. (x.0, constant x.1 true)) cs) text) ≡ constant_of cs text
constants_meaning [] text = refl
constants_meaning (c ∷ cs) text = by (bytes_eq text c.0) (constants_meaning cs text)
  where
    by : (b : Bool) → value_of (meaning_of (map (λ x. (x.0, constant x.1 true)) cs) text) ≡ constant_of cs text
        → value_of (if b then constant c.1 true else meaning_of (map (λ x. (x.0, constant x.1 true)) cs) text)
        ≡ (if b then Some c.1 else constant_of cs text)
    by true h = refl
    by false h = h

pub constants_undeclared : (cs : Constants) (text : List ℕ) → constant_of cs text ≡ None
    → meaning_of (map (λ x. (x.0, constant x.1 true)) cs) text ≡ undeclared
constants_undeclared [] text e = refl
constants_undeclared (c ∷ cs) text e = by (bytes_eq text c.0) e (constants_undeclared cs text)
  where
    by : (b : Bool) → (if b then Some c.1 else constant_of cs text) ≡ None
        → (constant_of cs text ≡ None → meaning_of (map (λ x. (x.0, constant x.1 true)) cs) text ≡ undeclared)
        → (if b then constant c.1 true else meaning_of (map (λ x. (x.0, constant x.1 true)) cs) text) ≡ undeclared
    by true e f = cc
    by false e f = f e
