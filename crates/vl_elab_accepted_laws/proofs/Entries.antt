-- The names of a scope with their meanings, one by one.
use Rattle.std.specs.Prelude.{◌≡◌, refl, ℕ, List, [], ◌∷◌, ◌++◌, map, Bool, true, false, cond, bytes_eq}
use Rattle.std.specs.Prelude.{Option, Some, None}
use Rattle.std.proofs.Common.{ap, sym, ◌∙◌}
use Rattle.std.proofs.lemmas.Option.{same_Some}
use Rattle.std.proofs.lemmas.Slice.Eq.{bytes_eq-Decides}
use Rattle.vl_tree.specs.declared.declaration.DeclaredName.{DeclaredName}
use Rattle.vl_tree.specs.declared.declaration.FullPort.{FullPort}
use Rattle.vl_tree.specs.declared.declaration.Parameter.{Parameter}
use Rattle.vl_tree.specs.declared.declaration.ParameterKind.TheVariants as k
use Rattle.vl_tree.specs.Item.{Item, Items, declaration, integer, genvar, parameter, assign, always, initial}
use Rattle.vl_tree.specs.Item.{instance, generate, for_loop, if_only, if_else, no_items, more_items}
use Rattle.vl_size.specs.declared.decl.Class.{Class}
use Rattle.vl_size.specs.declared.decl.Class.TheVariants as class
use Rattle.vl_size.specs.declared.decl.Decl.{Decl}
use Rattle.vl_size.specs.Table.{declared_as}
use Rattle.vl_mean.specs.declared.const_number.Const.{Const}
use Rattle.vl_mean.specs.Constants.{constant_of}
use Rattle.vl_mean.specs.Declarations.{Overrides, class_of_attributes, joined_attributes}
use Rattle.vl_mean.specs.Runs.{Each}
use Rattle.vl_mean.specs.Scopes.{Scope}
use Rattle.vl_mean.specs.Walk.{parameter_names, port_names}
use Rattle.vl_mean_flat.proofs.EachOf.{both}
use Rattle.vl_elab_spec.specs.declared.role.Role.{Role}
use Rattle.vl_elab_spec.specs.declared.role.Role.TheVariants as roles
use Rattle.vl_elab_spec.specs.Meanings.{Meaning, undeclared, constant, loop_variable, object, faulty, shapeless, later}
use Rattle.vl_elab_spec.specs.Meanings.{Names, is_undeclared, constant_or, object_or, parameters_of}
use Rattle.vl_elab_spec.specs.Meanings.{with_parameter_meanings, with_item_constants, port_meanings, name_meanings}
use Rattle.vl_elab_spec.specs.Meanings.{item_meanings, items_meanings, is_known_parameter, may_be_selected}
use Rattle.vl_elab_scope.specs.Seen.{IsNamed}

abbrev pub names_in : Names → List (List ℕ)
names_in ns = map (λ n. n.0) ns

abbrev pub declared_list : List DeclaredName → List (List ℕ)
declared_list xs = map (λ x. x.name) xs

-- the names of nets, variables and genvars that items declare
abbrev pub item_objects : Item → List (List ℕ)
item_objects (declaration attrs p d) = declared_list d.names
item_objects (integer attrs p xs) = declared_list xs
item_objects (genvar attrs p xs) = xs
item_objects x = []

abbrev pub object_names : Items → List (List ℕ)
object_names no_items = []
object_names (more_items x xs) = item_objects x ++ object_names xs

pub own_name : (ds : List Decl) (text : List ℕ) (d : Decl) → declared_as ds text ≡ Some d → d.name ≡ text
own_name [] text d h = cc
own_name (x ∷ ds) text d h = by (bytes_eq text x.name) refl h (own_name ds text d)
  where
    by : (b : Bool) → bytes_eq text x.name ≡ b → cond b (Some x) (declared_as ds text) ≡ Some d
        → (declared_as ds text ≡ Some d → d.name ≡ text) → d.name ≡ text
    by true e h next = sym (ap (λ y. y.name) (same_Some x d h)) ∙ sym ((bytes_eq-Decides text x.name).0 e)
    by false e h next = next h

map-append : (xs ys : Names) → names_in (xs ++ ys) ≡ names_in xs ++ names_in ys
map-append [] ys = refl
map-append (x ∷ xs) ys = ap (λ l. x.0 ∷ l) (map-append xs ys)

append-list : (xs ys zs : List (List ℕ)) → (xs ++ ys) ++ zs ≡ xs ++ (ys ++ zs)
append-list [] ys zs = refl
append-list (x ∷ xs) ys zs = ap (λ l. x ∷ l) (append-list xs ys zs)

append-none : (xs : List (List ℕ)) → xs ++ [] ≡ xs
append-none [] = refl
append-none (x ∷ xs) = ap (λ l. x ∷ l) (append-none xs)

-- one name more, and names of a list more
list_step : (ns : Names) (text : List ℕ) (m : Meaning) (rest whole : List (List ℕ))
    → whole ≡ names_in (ns ++ (text, m) ∷ []) ++ rest → whole ≡ names_in ns ++ (text ∷ rest)
list_step ns text m rest whole h =
    h ∙ ap (λ l. l ++ rest) (map-append ns ((text, m) ∷ [])) ∙ append-list (names_in ns) (text ∷ []) rest

lists_step : (before now more rest : List (List ℕ)) → now ≡ before ++ more → (whole : List (List ℕ))
    → whole ≡ now ++ rest → whole ≡ before ++ (more ++ rest)
lists_step before now more rest e whole h = h ∙ ap (λ l. l ++ rest) e ∙ append-list before more rest

module _ (s : Scope) where
  -- a meaning is that of the scope
  abbrev pub FoundMeans : List ℕ → Meaning → Type 0
  FoundMeans text undeclared = Unit {0}
  FoundMeans text (constant c selected) = constant_of s.constants text ≡ Some c
  FoundMeans text loop_variable = Unit {0}
  FoundMeans text (object d role scalar) = declared_as s.decls text ≡ Some d
  FoundMeans text faulty = Unit {0}
  FoundMeans text shapeless = Unit {0}
  FoundMeans text later = ⊥

  -- what each name of the scope keeps
  pub record IsEntry (n : List ℕ × Meaning) : Type 0 where
    pub means : FoundMeans n.0 n.1
    pub there : is_undeclared n.1 ≡ false
    pub named : IsNamed (n.0, n.1)

  -- a parameter is no net and no variable
  abbrev pub IsParameter : Meaning → Type 0
  IsParameter (constant c selected) = Unit {0}
  IsParameter faulty = Unit {0}
  IsParameter m = ⊥

  constant_entry : (text : List ℕ) (known : Bool) (o : Option Const) (selected : Bool)
      → o ≡ constant_of s.constants text → IsEntry (text, constant_or known o selected)
  constant_entry text true None selected e = record { means = tt; there = refl; named = tt }
  constant_entry text true (Some c) selected e = record { means = sym e; there = refl; named = tt }
  constant_entry text false None selected e = record { means = tt; there = refl; named = tt }
  constant_entry text false (Some c) selected e = record { means = tt; there = refl; named = tt }

  constant_kind : (known : Bool) (o : Option Const) (selected : Bool) → IsParameter (constant_or known o selected)
  constant_kind true None selected = tt
  constant_kind true (Some c) selected = tt
  constant_kind false None selected = tt
  constant_kind false (Some c) selected = tt

  object_entry : (text : List ℕ) (known : Bool) (o : Option Decl) (role : Role) (scalar : Bool)
      → o ≡ declared_as s.decls text → IsEntry (text, object_or known o role scalar)
  object_entry text true None role scalar e = record { means = tt; there = refl; named = tt }
  object_entry text true (Some d) role scalar e =
      record { means = sym e; there = refl; named = own_name s.decls text d (sym e) }
  object_entry text false None role scalar e = record { means = tt; there = refl; named = tt }
  object_entry text false (Some d) role scalar e = record { means = tt; there = refl; named = tt }

  -- ---- parameters

  pub record AreParameters (ns : Names) : Type 0 where
    pub entries : Each IsEntry ns
    pub kinds : Each (λ n. IsParameter n.1) ns

  one_more : (ns : Names) (text : List ℕ) (m : Meaning) → AreParameters ns → IsEntry (text, m) → IsParameter m
      → AreParameters (ns ++ (text, m) ∷ [])
  one_more ns text m h e k = record {
    entries = both IsEntry ns ((text, m) ∷ []) h.entries (e, tt);
    kinds = both (λ n. IsParameter n.1) ns ((text, m) ∷ []) h.kinds (k, tt);
  }

  module _ (outer : List Names) (behind : Names) where
    -- what a parameter means behind those before it
    abbrev meaning_now : Overrides → Names → Parameter → Meaning
    meaning_now os ns x =
        constant_or (is_known_parameter os ((ns ++ behind) ∷ outer) x) (constant_of s.constants x.name)
        (may_be_selected ((ns ++ behind) ∷ outer) x.shape.range)

    pub parameter_entries : (os : Overrides) (xs : List Parameter) (ns : Names) → AreParameters ns
        → AreParameters (with_parameter_meanings s outer os behind ns xs)
    parameter_entries os [] ns h = h
    parameter_entries os (x ∷ xs) ns h =
        parameter_entries os xs (ns ++ (x.name, meaning_now os ns x) ∷ [])
        (one_more ns x.name (meaning_now os ns x) h
        (constant_entry x.name (is_known_parameter os ((ns ++ behind) ∷ outer) x) (constant_of s.constants x.name)
        (may_be_selected ((ns ++ behind) ∷ outer) x.shape.range) refl)
        (constant_kind (is_known_parameter os ((ns ++ behind) ∷ outer) x) (constant_of s.constants x.name)
        (may_be_selected ((ns ++ behind) ∷ outer) x.shape.range)))

    pub item_constant_entries : (os : Overrides) (xs : Items) (ns : Names) → AreParameters ns
        → AreParameters (with_item_constants s outer os behind ns xs)
    item_constant_entries os no_items ns h = h
    item_constant_entries os (more_items (parameter attrs p k.Parameter ys) xs) ns h =
        item_constant_entries os xs (with_parameter_meanings s outer os behind ns ys) (parameter_entries os ys ns h)
    item_constant_entries os (more_items (parameter attrs p k.Localparam ys) xs) ns h =
        item_constant_entries os xs (with_parameter_meanings s outer [] behind ns ys) (parameter_entries [] ys ns h)
    item_constant_entries os (more_items (declaration attrs p d) xs) ns h = item_constant_entries os xs ns h
    item_constant_entries os (more_items (integer attrs p ys) xs) ns h = item_constant_entries os xs ns h
    item_constant_entries os (more_items (genvar attrs p ys) xs) ns h = item_constant_entries os xs ns h
    item_constant_entries os (more_items (assign attrs p ys) xs) ns h = item_constant_entries os xs ns h
    item_constant_entries os (more_items (always attrs p e y) xs) ns h = item_constant_entries os xs ns h
    item_constant_entries os (more_items (initial attrs p y) xs) ns h = item_constant_entries os xs ns h
    item_constant_entries os (more_items (instance attrs p y) xs) ns h = item_constant_entries os xs ns h
    item_constant_entries os (more_items (generate attrs p y) xs) ns h = item_constant_entries os xs ns h
    item_constant_entries os (more_items (for_loop attrs p y b) xs) ns h = item_constant_entries os xs ns h
    item_constant_entries os (more_items (if_only attrs p c b) xs) ns h = item_constant_entries os xs ns h
    item_constant_entries os (more_items (if_else attrs p c b d) xs) ns h = item_constant_entries os xs ns h

    pub parameter_list : (os : Overrides) (xs : List Parameter) (ns : Names)
        → names_in (with_parameter_meanings s outer os behind ns xs) ≡ names_in ns ++ parameter_names xs
    parameter_list os [] ns = sym (append-none (names_in ns))
    parameter_list os (x ∷ xs) ns =
        list_step ns x.name (meaning_now os ns x) (parameter_names xs)
        (names_in (with_parameter_meanings s outer os behind (ns ++ (x.name, meaning_now os ns x) ∷ []) xs))
        (parameter_list os xs (ns ++ (x.name, meaning_now os ns x) ∷ []))

    pub item_constant_list : (os : Overrides) (xs : Items) (ns : Names)
        → names_in (with_item_constants s outer os behind ns xs) ≡ names_in ns ++ parameters_of xs
    item_constant_list os no_items ns = sym (append-none (names_in ns))
    item_constant_list os (more_items (parameter attrs p k.Parameter ys) xs) ns =
        lists_step (names_in ns) (names_in (with_parameter_meanings s outer os behind ns ys)) (parameter_names ys)
        (parameters_of xs) (parameter_list os ys ns) _
        (item_constant_list os xs (with_parameter_meanings s outer os behind ns ys))
    item_constant_list os (more_items (parameter attrs p k.Localparam ys) xs) ns =
        lists_step (names_in ns) (names_in (with_parameter_meanings s outer [] behind ns ys)) (parameter_names ys)
        (parameters_of xs) (parameter_list [] ys ns) _
        (item_constant_list os xs (with_parameter_meanings s outer [] behind ns ys))
    item_constant_list os (more_items (declaration attrs p d) xs) ns = item_constant_list os xs ns
    item_constant_list os (more_items (integer attrs p ys) xs) ns = item_constant_list os xs ns
    item_constant_list os (more_items (genvar attrs p ys) xs) ns = item_constant_list os xs ns
    item_constant_list os (more_items (assign attrs p ys) xs) ns = item_constant_list os xs ns
    item_constant_list os (more_items (always attrs p e y) xs) ns = item_constant_list os xs ns
    item_constant_list os (more_items (initial attrs p y) xs) ns = item_constant_list os xs ns
    item_constant_list os (more_items (instance attrs p y) xs) ns = item_constant_list os xs ns
    item_constant_list os (more_items (generate attrs p y) xs) ns = item_constant_list os xs ns
    item_constant_list os (more_items (for_loop attrs p y b) xs) ns = item_constant_list os xs ns
    item_constant_list os (more_items (if_only attrs p c b) xs) ns = item_constant_list os xs ns
    item_constant_list os (more_items (if_else attrs p c b d) xs) ns = item_constant_list os xs ns

    -- ---- ports, nets and variables

    pub port_entries : (ns : List Names) (ps : List FullPort) → Each IsEntry (port_meanings s outer ns ps)
    port_entries ns [] = tt
    port_entries ns (p ∷ ps) =
        (object_entry p.name _ (declared_as s.decls p.name) _ _ refl, port_entries ns ps)

    pub port_list : (ns : List Names) (ps : List FullPort) → names_in (port_meanings s outer ns ps) ≡ port_names ps
    port_list ns [] = refl
    port_list ns (p ∷ ps) = ap (λ l. p.name ∷ l) (port_list ns ps)

    name_entries : (ns : List Names) (c : Class) (role : Role) (known scalar : Bool) (xs : List DeclaredName)
        → Each IsEntry (name_meanings s outer ns c role known scalar xs)
    name_entries ns c role known scalar [] = tt
    name_entries ns c role known scalar (x ∷ xs) =
        (object_entry x.name _ (declared_as s.decls x.name) _ _ refl, name_entries ns c role known scalar xs)

    name_list : (ns : List Names) (c : Class) (role : Role) (known scalar : Bool) (xs : List DeclaredName)
        → names_in (name_meanings s outer ns c role known scalar xs) ≡ declared_list xs
    name_list ns c role known scalar [] = refl
    name_list ns c role known scalar (x ∷ xs) = ap (λ l. x.name ∷ l) (name_list ns c role known scalar xs)

    genvar_entries : (xs : List (List ℕ)) → Each IsEntry (map (λ text. (text, loop_variable)) xs)
    genvar_entries [] = tt
    genvar_entries (x ∷ xs) = (record { means = tt; there = refl; named = tt }, genvar_entries xs)

    genvar_list : (xs : List (List ℕ)) → names_in (map (λ text. (text, loop_variable)) xs) ≡ xs
    genvar_list [] = refl
    genvar_list (x ∷ xs) = ap (λ l. x ∷ l) (genvar_list xs)

    item_entries : (ns : List Names) (x : Item) → Each IsEntry (item_meanings s outer ns x)
    item_entries ns (declaration attrs p d) = name_entries ns _ _ _ _ d.names
    item_entries ns (integer attrs p xs) =
        name_entries ns (class_of_attributes class.Variable (joined_attributes attrs)) roles.Variable true false xs
    item_entries ns (genvar attrs p xs) = genvar_entries xs
    item_entries ns (parameter attrs p kind xs) = tt
    item_entries ns (assign attrs p xs) = tt
    item_entries ns (always attrs p e y) = tt
    item_entries ns (initial attrs p y) = tt
    item_entries ns (instance attrs p y) = tt
    item_entries ns (generate attrs p y) = tt
    item_entries ns (for_loop attrs p y b) = tt
    item_entries ns (if_only attrs p c b) = tt
    item_entries ns (if_else attrs p c b d) = tt

    item_list : (ns : List Names) (x : Item) → names_in (item_meanings s outer ns x) ≡ item_objects x
    item_list ns (declaration attrs p d) = name_list ns _ _ _ _ d.names
    item_list ns (integer attrs p xs) =
        name_list ns (class_of_attributes class.Variable (joined_attributes attrs)) roles.Variable true false xs
    item_list ns (genvar attrs p xs) = genvar_list xs
    item_list ns (parameter attrs p kind xs) = refl
    item_list ns (assign attrs p xs) = refl
    item_list ns (always attrs p e y) = refl
    item_list ns (initial attrs p y) = refl
    item_list ns (instance attrs p y) = refl
    item_list ns (generate attrs p y) = refl
    item_list ns (for_loop attrs p y b) = refl
    item_list ns (if_only attrs p c b) = refl
    item_list ns (if_else attrs p c b d) = refl

    pub items_entries : (ns : List Names) (xs : Items) → Each IsEntry (items_meanings s outer ns xs)
    items_entries ns no_items = tt
    items_entries ns (more_items x xs) =
        both IsEntry (item_meanings s outer ns x) (items_meanings s outer ns xs) (item_entries ns x)
        (items_entries ns xs)

    pub items_list : (ns : List Names) (xs : Items) → names_in (items_meanings s outer ns xs) ≡ object_names xs
    items_list ns no_items = refl
    items_list ns (more_items x xs) =
        map-append (item_meanings s outer ns x) (items_meanings s outer ns xs)
        ∙ (λ i. item_list ns x i ++ items_list ns xs i)
