-- Scopes are laid out as what they are made from says.
use Rattle.std.specs.Prelude.{◌≡◌, refl, ℕ, List, [], ◌∷◌, ◌++◌, map, Bool, true, false, ◌||◌, bytes_eq}
use Rattle.std.specs.Prelude.{Some, None, if◌then◌else◌}
use Rattle.std.proofs.Common.{ap, sym, ◌∙◌, true≢false}
use Rattle.vl_tree.specs.declared.declaration.DeclaredName.{DeclaredName}
use Rattle.vl_tree.specs.declared.declaration.FullPort.{FullPort}
use Rattle.vl_tree.specs.declared.declaration.Parameter.{Parameter}
use Rattle.vl_tree.specs.declared.declaration.ParameterKind.TheVariants as k
use Rattle.vl_tree.specs.declared.declaration.Shape.{Shape}
use Rattle.vl_tree.specs.declared.source.Module.{Module}
use Rattle.vl_tree.specs.Item.{Item, Items, declaration, integer, genvar, parameter, assign, always, initial}
use Rattle.vl_tree.specs.Item.{instance, generate, for_loop, if_only, if_else, no_items, more_items, items}
use Rattle.vl_size.specs.declared.decl.Class.{Class}
use Rattle.vl_size.specs.declared.decl.Decl.{Decl}
use Rattle.vl_size.specs.Table.{is_declared}
use Rattle.vl_mean.specs.declared.const_number.Const.{Const}
use Rattle.vl_mean.specs.Cells.{contains_name}
use Rattle.vl_mean.specs.Constants.{Constants, constant_of}
use Rattle.vl_mean.specs.Declarations.{Overrides, with_constants, with_parameters}
use Rattle.vl_mean.specs.Declarations.{with_items_parameters, declared_names, declared_integers, declared_by, declared}
use Rattle.vl_mean.specs.Declarations.{declared_ports, parameter_value, ports_of}
use Rattle.vl_mean.specs.Scopes.{Scope}
use Rattle.vl_mean.specs.Walk.{Place, Use, parameter_names, port_names, module_parameters}
use Rattle.vl_mean.specs.Walk.{module_constants, module_scope, module_contents, module_around, block_place, turn_place}
use Rattle.vl_elab_spec.specs.Meanings.{parameters_of}
use Rattle.vl_elab_accepted_laws.proofs.Entries.{item_objects, object_names, declared_list}
use Rattle.vl_elab_accepted_laws.proofs.Level.{IsLaid, AreLaid}

or_first : (a b : Bool) → (a || b) ≡ false → a ≡ false
or_first true b h = h
or_first false b h = refl

or_second : (a b : Bool) → (a || b) ≡ false → b ≡ false
or_second true b h = absurd (true≢false h)
or_second false b h = h

lacks_first : (xs ys : List (List ℕ)) (text : List ℕ) → contains_name (xs ++ ys) text ≡ false
    → contains_name xs text ≡ false
lacks_first [] ys text h = refl
lacks_first (x ∷ xs) ys text h =
    (λ i. or_first (bytes_eq text x) (contains_name (xs ++ ys) text) h i || lacks_first xs ys text
    (or_second (bytes_eq text x) (contains_name (xs ++ ys) text) h) i)

lacks_second : (xs ys : List (List ℕ)) (text : List ℕ) → contains_name (xs ++ ys) text ≡ false
    → contains_name ys text ≡ false
lacks_second [] ys text h = h
lacks_second (x ∷ xs) ys text h =
    lacks_second xs ys text (or_second (bytes_eq text x) (contains_name (xs ++ ys) text) h)

append-list : (xs ys zs : List (List ℕ)) → (xs ++ ys) ++ zs ≡ xs ++ (ys ++ zs)
append-list [] ys zs = refl
append-list (x ∷ xs) ys zs = ap (λ l. x ∷ l) (append-list xs ys zs)

append-none : (xs : List (List ℕ)) → xs ++ [] ≡ xs
append-none [] = refl
append-none (x ∷ xs) = ap (λ l. x ∷ l) (append-none xs)

-- ---- constants

abbrev pub constant_names : Constants → List (List ℕ)
constant_names cs = map (λ c. c.0) cs

append-constants : (cs ds : Constants) → constant_names (cs ++ ds) ≡ constant_names cs ++ constant_names ds
append-constants [] ds = refl
append-constants (c ∷ cs) ds = ap (λ l. c.0 ∷ l) (append-constants cs ds)

pub no_constant : (cs : Constants) (text : List ℕ) → contains_name (constant_names cs) text ≡ false
    → constant_of cs text ≡ None
no_constant [] text h = refl
no_constant (c ∷ cs) text h =
    (λ i. if or_first (bytes_eq text c.0) (contains_name (constant_names cs) text) h i then Some c.1
    else no_constant cs text (or_second (bytes_eq text c.0) (contains_name (constant_names cs) text) h) i)

list_step : (cs : Constants) (text : List ℕ) (c : Const) (rest whole : List (List ℕ))
    → whole ≡ constant_names (cs ++ (text, c) ∷ []) ++ rest → whole ≡ constant_names cs ++ (text ∷ rest)
list_step cs text c rest whole h =
    h ∙ ap (λ l. l ++ rest) (append-constants cs ((text, c) ∷ [])) ∙ append-list (constant_names cs) (text ∷ []) rest

lists_step : (before now more rest : List (List ℕ)) → now ≡ before ++ more → (whole : List (List ℕ))
    → whole ≡ now ++ rest → whole ≡ before ++ (more ++ rest)
lists_step before now more rest e whole h = h ∙ ap (λ l. l ++ rest) e ∙ append-list before more rest

abbrev value_now : Overrides → List Scope → Constants → Parameter → Const
value_now os ss cs x = parameter_value os (with_constants cs ss) x

pub parameters_list : (os : Overrides) (ss : List Scope) (xs : List Parameter) (cs : Constants)
    → constant_names (with_parameters os ss cs xs) ≡ constant_names cs ++ parameter_names xs
parameters_list os ss [] cs = sym (append-none (constant_names cs))
parameters_list os ss (x ∷ xs) cs =
    list_step cs x.name (value_now os ss cs x) (parameter_names xs)
    (constant_names (with_parameters os ss (cs ++ (x.name, value_now os ss cs x) ∷ []) xs))
    (parameters_list os ss xs (cs ++ (x.name, value_now os ss cs x) ∷ []))

pub items_list : (os : Overrides) (ss : List Scope) (xs : Items) (cs : Constants)
    → constant_names (with_items_parameters os ss cs xs) ≡ constant_names cs ++ parameters_of xs
items_list os ss no_items cs = sym (append-none (constant_names cs))
items_list os ss (more_items (parameter attrs p k.Parameter ys) xs) cs =
    lists_step (constant_names cs) (constant_names (with_parameters os ss cs ys)) (parameter_names ys)
    (parameters_of xs) (parameters_list os ss ys cs) _ (items_list os ss xs (with_parameters os ss cs ys))
items_list os ss (more_items (parameter attrs p k.Localparam ys) xs) cs =
    lists_step (constant_names cs) (constant_names (with_parameters [] ss cs ys)) (parameter_names ys)
    (parameters_of xs) (parameters_list [] ss ys cs) _ (items_list os ss xs (with_parameters [] ss cs ys))
items_list os ss (more_items (declaration attrs p d) xs) cs = items_list os ss xs cs
items_list os ss (more_items (integer attrs p ys) xs) cs = items_list os ss xs cs
items_list os ss (more_items (genvar attrs p ys) xs) cs = items_list os ss xs cs
items_list os ss (more_items (assign attrs p ys) xs) cs = items_list os ss xs cs
items_list os ss (more_items (always attrs p e y) xs) cs = items_list os ss xs cs
items_list os ss (more_items (initial attrs p y) xs) cs = items_list os ss xs cs
items_list os ss (more_items (instance attrs p y) xs) cs = items_list os ss xs cs
items_list os ss (more_items (generate attrs p y) xs) cs = items_list os ss xs cs
items_list os ss (more_items (for_loop attrs p y b) xs) cs = items_list os ss xs cs
items_list os ss (more_items (if_only attrs p c b) xs) cs = items_list os ss xs cs
items_list os ss (more_items (if_else attrs p c b d) xs) cs = items_list os ss xs cs

-- ---- declarations

undeclared_append : (ds es : List Decl) (text : List ℕ) → is_declared ds text ≡ false → is_declared es text ≡ false
    → is_declared (ds ++ es) text ≡ false
undeclared_append [] es text h k = k
undeclared_append (d ∷ ds) es text h k =
    (λ i. or_first (bytes_eq text d.name) (is_declared ds text) h i || undeclared_append ds es text
    (or_second (bytes_eq text d.name) (is_declared ds text) h) k i)

module _ (ss : List Scope) (text : List ℕ) where
  no_vector : (c : Class) (shape : Shape) (xs : List DeclaredName) → contains_name (declared_list xs) text ≡ false
      → is_declared (declared_names ss c shape xs) text ≡ false
  no_vector c shape [] h = refl
  no_vector c shape (x ∷ xs) h =
      (λ i. or_first (bytes_eq text x.name) (contains_name (declared_list xs) text) h i || no_vector c shape xs
      (or_second (bytes_eq text x.name) (contains_name (declared_list xs) text) h) i)

  no_integer : (c : Class) (xs : List DeclaredName) → contains_name (declared_list xs) text ≡ false
      → is_declared (declared_integers ss c xs) text ≡ false
  no_integer c [] h = refl
  no_integer c (x ∷ xs) h =
      (λ i. or_first (bytes_eq text x.name) (contains_name (declared_list xs) text) h i || no_integer c xs
      (or_second (bytes_eq text x.name) (contains_name (declared_list xs) text) h) i)

  no_item : (x : Item) → contains_name (item_objects x) text ≡ false → is_declared (declared_by ss x) text ≡ false
  no_item (declaration attrs p d) h = no_vector _ d.shape d.names h
  no_item (integer attrs p xs) h = no_integer _ xs h
  no_item (genvar attrs p xs) h = refl
  no_item (parameter attrs p kind xs) h = refl
  no_item (assign attrs p xs) h = refl
  no_item (always attrs p e y) h = refl
  no_item (initial attrs p y) h = refl
  no_item (instance attrs p y) h = refl
  no_item (generate attrs p y) h = refl
  no_item (for_loop attrs p y b) h = refl
  no_item (if_only attrs p c b) h = refl
  no_item (if_else attrs p c b d) h = refl

  no_items_of : (xs : Items) → contains_name (object_names xs) text ≡ false → is_declared (declared ss xs) text ≡ false
  no_items_of no_items h = refl
  no_items_of (more_items x xs) h =
      undeclared_append (declared_by ss x) (declared ss xs) text
      (no_item x (lacks_first (item_objects x) (object_names xs) text h))
      (no_items_of xs (lacks_second (item_objects x) (object_names xs) text h))

  no_port : (top : Bool) (input : List ℕ → Class) (ps : List FullPort) → contains_name (port_names ps) text ≡ false
      → is_declared (declared_ports ss top input ps) text ≡ false
  no_port top input [] h = refl
  no_port top input (p ∷ ps) h =
      (λ i. or_first (bytes_eq text p.name) (contains_name (port_names ps) text) h i || no_port top input ps
      (or_second (bytes_eq text p.name) (contains_name (port_names ps) text) h) i)

-- ---- scopes

pub module_laid : (m : Module) (u : Use) (path : List ℕ) → IsLaid (module_scope m u path) (module_contents m u)
module_laid m u path = record {
  constants_named = λ text h l. no_constant (module_constants m u) text
      (ap (λ l. contains_name l text) (items_list u.overrides [] (items m.items)
      (with_parameters u.overrides [] [] (module_parameters m))
      ∙ ap (λ l. l ++ parameters_of (items m.items)) (parameters_list u.overrides [] (module_parameters m) [])) ∙ h);
  decls_named = λ text h. undeclared_append _ _ text
      (no_port (module_around m u) text u.is_top u.input (ports_of m.ports)
      (lacks_first (port_names (ports_of m.ports)) (object_names (items m.items)) text h))
      (no_items_of (module_around m u) text (items m.items)
      (lacks_second (port_names (ports_of m.ports)) (object_names (items m.items)) text h));
}

pub block_laid : (at : Place) (path : List ℕ) (xs : Items) → AreLaid at.scopes at.contents
    → AreLaid (block_place at path xs).scopes (block_place at path xs).contents
block_laid at path xs h = (
  record {
    constants_named = λ text n l. no_constant (with_items_parameters [] at.scopes [] xs) text
        (ap (λ l. contains_name l text) (items_list [] at.scopes xs []) ∙ n);
    decls_named = λ text n.
        no_items_of (with_constants (with_items_parameters [] at.scopes [] xs) at.scopes) text xs n;
  },
  h,
)

pub turn_laid : (at : Place) (text : List ℕ) (c : Const) → AreLaid at.scopes at.contents
    → AreLaid (turn_place at text c).scopes (turn_place at text c).contents
turn_laid at text c h = (
  record { constants_named = λ t n l. absurd (true≢false (sym l)); decls_named = λ t n. refl },
  h,
)
