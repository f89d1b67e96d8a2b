-- What is said of the parameters of the scopes around, within a block.
use Rattle.std.specs.Prelude.{◌≡◌, refl, ℕ, List, [], ◌∷◌, ◌++◌, map, Bool, true, false, ◌&&◌, ◌||◌, not, bytes_eq}
use Rattle.std.specs.Prelude.{if◌then◌else◌}
use Rattle.std.proofs.Common.{ap, sym, ◌∙◌, subst, true≢false}
use Rattle.std.proofs.lemmas.List.{map-append}
use Rattle.vl_tree.specs.declared.declaration.DeclaredName.{DeclaredName}
use Rattle.vl_tree.specs.Item.{
  Item,
  Items,
  declaration,
  integer,
  genvar,
  parameter,
  assign,
  always,
  initial,
  instance,
  generate,
  for_loop,
  if_only,
  if_else,
  no_items,
  more_items,
}
use Rattle.vl_size.specs.declared.decl.Class.{Class}
use Rattle.vl_size.specs.declared.decl.Class.TheVariants as class
use Rattle.vl_mean.specs.Cells.{contains_name}
use Rattle.vl_mean.specs.Declarations.{class_of_attributes, class_of_kind, joined_attributes}
use Rattle.vl_mean.specs.Scopes.{Scope}
use Rattle.vl_mean.specs.Walk.{Place, block_place, parameter_names}
use Rattle.vl_elab_spec.specs.declared.role.Role.{Role}
use Rattle.vl_elab_spec.specs.declared.role.Role.TheVariants as roles
use Rattle.vl_elab_spec.specs.Meanings.{Meaning, undeclared, constant, loop_variable, object, faulty, shapeless, later}
use Rattle.vl_elab_spec.specs.Meanings.{Names, is_undeclared, meaning_of, meaning_in, name_meanings, item_meanings}
use Rattle.vl_elab_spec.specs.Meanings.{items_meanings, item_names, items_names, parameters_of, scope_meanings}
use Rattle.vl_elab_spec.specs.Meanings.{role_of_kind, is_known_shape, meanings_at, meanings_before}
use Rattle.vl_elab_scope.specs.Seen.{AreNamed, AllNamed}
use Rattle.vl_elab_scope.specs.Alike.{Alike}
use Rattle.vl_elab_params.specs.Own.{AreOwn}
use Rattle.vl_elab_params.specs.Reached.{AreAround, AreBefore, is_parameter_of}
use Rattle.vl_elab_params.specs.Shadows.{with_shadows}
use Rattle.vl_elab_params.proofs.Listed.{inner_or, named_there}
use Rattle.vl_elab_params.proofs.Listing.{of_scope, texts}
use Rattle.vl_elab_params.proofs.Shadowing.{shadow, shadows_mean, shadows_named}
use Rattle.vl_elab_decls.specs.Shaped.{AreShaped}
use Rattle.vl_elab_decls.proofs.Standing.{scope_meaning}
use Rattle.vl_elab_decls.proofs.StandWhole.{block_contents, block_scope, own_meant, objects_meant, shapes_meant}

-- ---- names are declared where they stand in the list

pub declared_among : (ns : Names) → AreNamed ns → (text : List ℕ)
    → is_undeclared (meaning_of ns text) ≡ not (contains_name (texts ns) text)
declared_among [] h text = refl
declared_among (n ∷ ns) h text = by (bytes_eq text n.0) (declared_among ns h.1 text)
  where
    by : (b : Bool) → is_undeclared (meaning_of ns text) ≡ not (contains_name (texts ns) text)
        → is_undeclared (if b then n.1 else meaning_of ns text) ≡ not (b || contains_name (texts ns) text)
    by true k = named_there n.0 n.1 h.0
    by false k = k

contains_append : (xs ys : List (List ℕ)) (text : List ℕ)
    → contains_name (xs ++ ys) text ≡ (contains_name xs text || contains_name ys text)
contains_append [] ys text = refl
contains_append (x ∷ xs) ys text =
    ap (λ b. bytes_eq text x || b) (contains_append xs ys text)
    ∙ assoc (bytes_eq text x) (contains_name xs text) (contains_name ys text)
  where
    assoc : (a b c : Bool) → (a || (b || c)) ≡ ((a || b) || c)
    assoc true b c = refl
    assoc false b c = refl

-- ---- the nets, variables and genvars of items

abbrev other_names : Item → List (List ℕ)
other_names (declaration attrs p d) = map (λ x. x.name) d.names
other_names (integer attrs p xs) = map (λ x. x.name) xs
other_names (genvar attrs p xs) = xs
other_names x = []

abbrev others : Items → List (List ℕ)
others no_items = []
others (more_items x xs) = other_names x ++ others xs

module _ (s : Scope) (outer known : List Names) where
  names_listed : (c : Class) (role : Role) (k scalar : Bool) (xs : List DeclaredName)
      → texts (name_meanings s outer known c role k scalar xs) ≡ map (λ x. x.name) xs
  names_listed c role k scalar [] = refl
  names_listed c role k scalar (x ∷ xs) = ap (λ l. x.name ∷ l) (names_listed c role k scalar xs)

  genvars_listed : (xs : List (List ℕ)) → texts (map (λ text. (text, loop_variable)) xs) ≡ xs
  genvars_listed [] = refl
  genvars_listed (x ∷ xs) = ap (λ l. x ∷ l) (genvars_listed xs)

  item_listed : (x : Item) → texts (item_meanings s outer known x) ≡ other_names x
  item_listed (declaration attrs p d) =
      names_listed (class_of_attributes (class_of_kind d.net) (joined_attributes attrs)) (role_of_kind d.net)
      (is_known_shape known d.shape.range) _ d.names
  item_listed (integer attrs p xs) =
      names_listed (class_of_attributes class.Variable (joined_attributes attrs)) roles.Variable true false xs
  item_listed (genvar attrs p xs) = genvars_listed xs
  item_listed (parameter attrs p kind xs) = refl
  item_listed (assign attrs p xs) = refl
  item_listed (always attrs p event t) = refl
  item_listed (initial attrs p t) = refl
  item_listed (instance attrs p x) = refl
  item_listed (generate attrs p mark) = refl
  item_listed (for_loop attrs p head b) = refl
  item_listed (if_only attrs p e b) = refl
  item_listed (if_else attrs p e b d) = refl

  items_listed : (xs : Items) → texts (items_meanings s outer known xs) ≡ others xs
  items_listed no_items = refl
  items_listed (more_items x xs) =
      map-append (λ (n : List ℕ × Meaning). n.0) (item_meanings s outer known x) (items_meanings s outer known xs)
      ∙ (λ i. item_listed x i ++ items_listed xs i)

-- each name of an item is a parameter's or another one's
either_after : (n p q rest : Bool) → rest ≡ (p || q) → (n || rest) ≡ ((n || p) || q)
either_after true p q rest e = refl
either_after false p q rest e = e

either_between : (n p q rest : Bool) → rest ≡ (p || q) → (n || rest) ≡ (p || (n || q))
either_between true true q rest e = refl
either_between true false q rest e = refl
either_between false p q rest e = e

module _ (text : List ℕ) where
  abbrev among : List (List ℕ) → Bool
  among names = contains_name names text

  parameters_first : (names : List (List ℕ)) (xs : Items)
      → among (items_names xs) ≡ (among (parameters_of xs) || among (others xs))
      → among (names ++ items_names xs) ≡ (among (names ++ parameters_of xs) || among (others xs))
  parameters_first names xs e =
      contains_append names (items_names xs) text
      ∙ either_after (among names) (among (parameters_of xs)) (among (others xs)) (among (items_names xs)) e
      ∙ ap (λ b. b || among (others xs)) (sym (contains_append names (parameters_of xs) text))

  others_first : (names : List (List ℕ)) (xs : Items)
      → among (items_names xs) ≡ (among (parameters_of xs) || among (others xs))
      → among (names ++ items_names xs) ≡ (among (parameters_of xs) || among (names ++ others xs))
  others_first names xs e =
      contains_append names (items_names xs) text
      ∙ either_between (among names) (among (parameters_of xs)) (among (others xs)) (among (items_names xs)) e
      ∙ ap (λ b. among (parameters_of xs) || b) (sym (contains_append names (others xs) text))

  either_listed : (xs : Items) → among (items_names xs) ≡ (among (parameters_of xs) || among (others xs))
  either_listed no_items = refl
  either_listed (more_items (declaration attrs p d) xs) =
      others_first (map (λ x. x.name) d.names) xs (either_listed xs)
  either_listed (more_items (integer attrs p names) xs) =
      others_first (map (λ x. x.name) names) xs (either_listed xs)
  either_listed (more_items (genvar attrs p names) xs) = others_first names xs (either_listed xs)
  either_listed (more_items (parameter attrs p kind ps) xs) =
      parameters_first (parameter_names ps) xs (either_listed xs)
  either_listed (more_items (assign attrs p all) xs) = either_listed xs
  either_listed (more_items (always attrs p event t) xs) = either_listed xs
  either_listed (more_items (initial attrs p t) xs) = either_listed xs
  either_listed (more_items (instance attrs p x) xs) = either_listed xs
  either_listed (more_items (generate attrs p mark) xs) = either_listed xs
  either_listed (more_items (for_loop attrs p head b) xs) = either_listed xs
  either_listed (more_items (if_only attrs p e b) xs) = either_listed xs
  either_listed (more_items (if_else attrs p e b d) xs) = either_listed xs

-- ---- a block declares the names of its items, and no others

both_undeclared : (a b : Meaning) → is_undeclared (inner_or a b) ≡ (is_undeclared a && is_undeclared b)
both_undeclared undeclared b = refl
both_undeclared (constant c selected) b = refl
both_undeclared loop_variable b = refl
both_undeclared (object d role scalar) b = refl
both_undeclared faulty b = refl
both_undeclared shapeless b = refl
both_undeclared later b = refl

neither : (p q : Bool) → (not p && not q) ≡ not (p || q)
neither true q = refl
neither false q = refl

module _ (at : Place) (path : List ℕ) (xs : Items) (own values rest : Names)
    (h : AreOwn own values (own_meant at path xs) (block_scope at path xs).constants)
    (r : AreShaped rest (objects_meant at path xs) (block_scope at path xs).decls) where
  abbrev s : Scope
  s = block_scope at path xs

  abbrev before : List Names
  before = meanings_before at at.earlier

  abbrev outer : List Names
  outer = meanings_at at

  abbrev here : Names
  here = scope_meanings s before outer (block_contents at path xs)

  own_declared : (text : List ℕ)
      → is_undeclared (meaning_of (own_meant at path xs) text) ≡ not (contains_name (parameters_of xs) text)
  own_declared text =
      declared_among (own_meant at path xs) h.also_named text
      ∙ ap (λ l. not (contains_name l text)) (of_scope s before (block_contents at path xs)).named

  objects_declared : (text : List ℕ)
      → is_undeclared (meaning_of (objects_meant at path xs) text) ≡ not (contains_name (others xs) text)
  objects_declared text =
      declared_among (objects_meant at path xs) r.also_named text
      ∙ ap (λ l. not (contains_name l text)) (items_listed s outer (shapes_meant at path xs) xs)

  block_declares : (text : List ℕ)
      → is_undeclared (meaning_of here text) ≡ not (contains_name (items_names xs) text)
  block_declares text =
      ap is_undeclared (scope_meaning s before outer (block_contents at path xs) own values rest h r text)
      ∙ both_undeclared (meaning_of (own_meant at path xs) text) (meaning_of (objects_meant at path xs) text)
      ∙ (λ i. own_declared text i && objects_declared text i)
      ∙ neither (contains_name (parameters_of xs) text) (contains_name (others xs) text)
      ∙ ap not (sym (either_listed text xs))

  -- ---- what is said around, within the block: of a name whether the block declares it, and whether something is said
  -- of it around; what it means in the block, around, around as far as that is reached, and what is said

  not_true : true ≡ false → ⊥
  not_true e = absurd (true≢false e)

  said_all : (l k : Meaning) → is_undeclared k ≡ false → is_undeclared (inner_or l k) ≡ false
  said_all undeclared k e = e
  said_all (constant c selected) k e = refl
  said_all loop_variable k e = refl
  said_all (object d role scalar) k e = refl
  said_all faulty k e = refl
  said_all shapeless k e = refl
  said_all later k e = refl

  said_here : (m out rout k : Meaning) → is_undeclared m ≡ false
      → inner_or (inner_or m out) k ≡ inner_or m rout
  said_here undeclared out rout k e = absurd (not_true e)
  said_here (constant c selected) out rout k e = refl
  said_here loop_variable out rout k e = refl
  said_here (object d role scalar) out rout k e = refl
  said_here faulty out rout k e = refl
  said_here shapeless out rout k e = refl
  said_here later out rout k e = refl

  said_around : (m rout k : Meaning) → is_undeclared m ≡ true → k ≡ rout → k ≡ inner_or m rout
  said_around undeclared rout k e f = f
  said_around (constant c selected) rout k e f = absurd (not_true (sym e))
  said_around loop_variable rout k e f = absurd (not_true (sym e))
  said_around (object d role scalar) rout k e f = absurd (not_true (sym e))
  said_around faulty rout k e f = absurd (not_true (sym e))
  said_around shapeless rout k e f = absurd (not_true (sym e))
  said_around later rout k e f = absurd (not_true (sym e))

  said_right : (q u : Bool) (m out rout k : Meaning) → is_undeclared m ≡ not q → is_undeclared k ≡ u
      → (is_undeclared k ≡ false → k ≡ rout)
      → is_undeclared (inner_or (if q then (if u then undeclared else inner_or m out) else undeclared) k) ≡ false
      → inner_or (if q then (if u then undeclared else inner_or m out) else undeclared) k ≡ inner_or m rout
  said_right true true m out rout k e f g d = absurd (not_true (sym f ∙ d))
  said_right true false m out rout k e f g d = said_here m out rout k e
  said_right false u m out rout k e f g d = said_around m rout k e (g d)

  module _ (two kept : List Names) (level : Names) (b : AreBefore kept at at.earlier)
      (alike : Alike two (here ∷ outer)) (is : level ≡ with_shadows two kept [] (items_names xs)) where
    level_means : (text : List ℕ) → meaning_of level text
        ≡ (if contains_name (items_names xs) text then (if is_undeclared (meaning_in kept text) then undeclared
        else inner_or (meaning_of here text) (meaning_in outer text)) else undeclared)
    level_means text =
        ap (λ l. meaning_of l text) is
        ∙ shadows_mean two kept alike.named [] (items_names xs) tt text
        ∙ ap (λ m. if contains_name (items_names xs) text then (if is_undeclared (meaning_in kept text) then undeclared
        else m) else undeclared) (alike.meaning text)

    pub block_said : AreAround (level ∷ kept) (block_place at path xs)
    block_said = record {
      named =
          (subst AreNamed (sym is) (shadows_named two kept alike.named [] (items_names xs) tt), b.named);
      all = λ text e. said_all (meaning_of level text) (meaning_in kept text) (b.all text e);
      right = λ text d.
          let k = meaning_in kept text in
          let same = ap (λ m. inner_or m k) (level_means text) in
          same
          ∙ said_right (contains_name (items_names xs) text) (is_undeclared k) (meaning_of here text)
          (meaning_in outer text) (meaning_in before text) k (block_declares text) refl (b.right text)
          (sym (ap is_undeclared same) ∙ d);
    }
