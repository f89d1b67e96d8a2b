-- What a name of a scope is: a parameter, what else the scope declares, or none of it.
use Rattle.std.specs.Prelude.{◌≡◌, refl, ℕ, List, [], ◌∷◌, ◌++◌, map, Bool, true, false, ◌||◌, ◌&&◌, not, bytes_eq}
use Rattle.std.specs.Prelude.{Option, Some, None, is_none, if◌then◌else◌}
use Rattle.std.proofs.Common.{ap, sym, ◌∙◌, subst, true≢false}
use Rattle.std.proofs.lemmas.Slice.Eq.{bytes_eq-Decides}
use Rattle.vl_tree.specs.declared.declaration.DeclaredName.{DeclaredName}
use Rattle.vl_tree.specs.declared.declaration.FullPort.{FullPort}
use Rattle.vl_tree.specs.Item.{Item, Items, declaration, integer, genvar, parameter, assign, always, initial}
use Rattle.vl_tree.specs.Item.{instance, generate, for_loop, if_only, if_else, no_items, more_items}
use Rattle.vl_size.specs.declared.decl.Class.{Class}
use Rattle.vl_size.specs.declared.decl.Class.TheVariants as class
use Rattle.vl_size.specs.declared.decl.Decl.{Decl}
use Rattle.vl_mean.specs.declared.const_number.Const.{Const}
use Rattle.vl_mean.specs.Cells.{contains_name}
use Rattle.vl_mean.specs.Constants.{constant_of}
use Rattle.vl_mean.specs.Declarations.{class_of_attributes, joined_attributes}
use Rattle.vl_mean.specs.Runs.{Each}
use Rattle.vl_mean.specs.Scopes.{Scope}
use Rattle.vl_mean.specs.Walk.{Contents, parameter_names, port_names}
use Rattle.vl_mean_flat.proofs.EachOf.{both}
use Rattle.vl_elab_spec.specs.declared.role.Role.{Role}
use Rattle.vl_elab_spec.specs.declared.role.Role.TheVariants as roles
use Rattle.vl_elab_spec.specs.Meanings.{Meaning, undeclared, constant, loop_variable, object, faulty, shapeless, later}
use Rattle.vl_elab_spec.specs.Meanings.{Names, is_undeclared, meaning_of, object_or, parameters_of, all_later}
use Rattle.vl_elab_spec.specs.Meanings.{port_meanings, name_meanings, item_meanings, items_meanings, scope_meanings}
use Rattle.vl_elab_spec.specs.Meanings.{item_names, items_names}
use Rattle.vl_elab_accepted_laws.proofs.Contained.{lacks-append, lacks-front, lacks-back}
use Rattle.vl_elab_accepted_laws.proofs.Entries.{IsEntry, item_objects, object_names}
use Rattle.vl_elab_accepted_laws.proofs.Level.{own, around, ports, objects, own_parameters, own_list, others}
use Rattle.vl_elab_accepted_laws.proofs.Level.{others_list}
use Rattle.vl_elab_accepted_laws.proofs.Level.{steps_are, unlisted, listed, own_names, other_names, of_constant}

-- a net, a variable or a genvar
abbrev pub IsThing : Meaning → Type 0
IsThing (object d role scalar) = Unit {0}
IsThing shapeless = Unit {0}
IsThing loop_variable = Unit {0}
IsThing m = ⊥

thing_object : (known : Bool) (o : Option Decl) (role : Role) (scalar : Bool) → IsThing (object_or known o role scalar)
thing_object true (Some d) role scalar = tt
thing_object true None role scalar = tt
thing_object false (Some d) role scalar = tt
thing_object false None role scalar = tt

abbrev Things : Names → Type 0
Things ns = Each (λ n. IsThing n.1) ns

module _ (s : Scope) (outer : List Names) where
  thing_ports : (ns : List Names) (ps : List FullPort) → Things (port_meanings s outer ns ps)
  thing_ports ns [] = tt
  thing_ports ns (p ∷ ps) = (thing_object _ _ _ _, thing_ports ns ps)

  thing_names : (ns : List Names) (c : Class) (role : Role) (known scalar : Bool) (xs : List DeclaredName)
      → Things (name_meanings s outer ns c role known scalar xs)
  thing_names ns c role known scalar [] = tt
  thing_names ns c role known scalar (x ∷ xs) = (thing_object _ _ _ _, thing_names ns c role known scalar xs)

  thing_genvars : (xs : List (List ℕ)) → Things (map (λ text. (text, loop_variable)) xs)
  thing_genvars [] = tt
  thing_genvars (x ∷ xs) = (tt, thing_genvars xs)

  thing_item : (ns : List Names) (x : Item) → Things (item_meanings s outer ns x)
  thing_item ns (declaration attrs p d) = thing_names ns _ _ _ _ d.names
  thing_item ns (integer attrs p xs) =
      thing_names ns (class_of_attributes class.Variable (joined_attributes attrs)) roles.Variable true false xs
  thing_item ns (genvar attrs p xs) = thing_genvars xs
  thing_item ns (parameter attrs p kind xs) = tt
  thing_item ns (assign attrs p xs) = tt
  thing_item ns (always attrs p e y) = tt
  thing_item ns (initial attrs p y) = tt
  thing_item ns (instance attrs p y) = tt
  thing_item ns (generate attrs p y) = tt
  thing_item ns (for_loop attrs p y b) = tt
  thing_item ns (if_only attrs p c b) = tt
  thing_item ns (if_else attrs p c b d) = tt

  thing_items : (ns : List Names) (xs : Items) → Things (items_meanings s outer ns xs)
  thing_items ns no_items = tt
  thing_items ns (more_items x xs) =
      both (λ n. IsThing n.1) (item_meanings s outer ns x) (items_meanings s outer ns xs) (thing_item ns x)
      (thing_items ns xs)

-- what each name of a list is, one that is found there is too
pub each_found : (P : Meaning → Type 0) (text : List ℕ) (xs : Names) → Each (λ n. P n.1) xs
    → is_undeclared (meaning_of xs text) ≡ false → P (meaning_of xs text)
each_found P text [] h k = absurd (true≢false k)
each_found P text (x ∷ xs) h k = by (bytes_eq text x.0) k (each_found P text xs h.1)
  where
    by : (b : Bool) → is_undeclared (if b then x.1 else meaning_of xs text) ≡ false
        → (is_undeclared (meaning_of xs text) ≡ false → P (meaning_of xs text))
        → P (if b then x.1 else meaning_of xs text)
    by true k next = h.0
    by false k next = next k

-- ---- the names of items

lacks_item : (text : List ℕ) (x : Item) (xs : Items) → contains_name (parameters_of (more_items x xs)) text ≡ false
    → contains_name (item_objects x) text ≡ false → contains_name (item_names x) text ≡ false
lacks_item text (declaration attrs p d) xs h k = k
lacks_item text (integer attrs p ys) xs h k = k
lacks_item text (genvar attrs p ys) xs h k = k
lacks_item text (parameter attrs p kind ys) xs h k = lacks-front (parameter_names ys) (parameters_of xs) text h
lacks_item text (assign attrs p ys) xs h k = refl
lacks_item text (always attrs p e y) xs h k = refl
lacks_item text (initial attrs p y) xs h k = refl
lacks_item text (instance attrs p y) xs h k = refl
lacks_item text (generate attrs p y) xs h k = refl
lacks_item text (for_loop attrs p y b) xs h k = refl
lacks_item text (if_only attrs p c b) xs h k = refl
lacks_item text (if_else attrs p c b d) xs h k = refl

pub rest_lacks : (text : List ℕ) (x : Item) (xs : Items) → contains_name (parameters_of (more_items x xs)) text ≡ false
    → contains_name (parameters_of xs) text ≡ false
rest_lacks text (declaration attrs p d) xs h = h
rest_lacks text (integer attrs p ys) xs h = h
rest_lacks text (genvar attrs p ys) xs h = h
rest_lacks text (parameter attrs p kind ys) xs h = lacks-back (parameter_names ys) (parameters_of xs) text h
rest_lacks text (assign attrs p ys) xs h = h
rest_lacks text (always attrs p e y) xs h = h
rest_lacks text (initial attrs p y) xs h = h
rest_lacks text (instance attrs p y) xs h = h
rest_lacks text (generate attrs p y) xs h = h
rest_lacks text (for_loop attrs p y b) xs h = h
rest_lacks text (if_only attrs p c b) xs h = h
rest_lacks text (if_else attrs p c b d) xs h = h

lacks_items : (text : List ℕ) (xs : Items) → contains_name (parameters_of xs) text ≡ false
    → contains_name (object_names xs) text ≡ false → contains_name (items_names xs) text ≡ false
lacks_items text no_items h k = refl
lacks_items text (more_items x xs) h k =
    lacks-append (item_names x) (items_names xs) text
    (lacks_item text x xs h (lacks-front (item_objects x) (object_names xs) text k))
    (lacks_items text xs (rest_lacks text x xs h) (lacks-back (item_objects x) (object_names xs) text k))

-- ---- one scope

-- whose constants are its parameters, each of them
pub record AreItsConstants (s : Scope) (c : Contents) : Type 0 where
  pub there : (text : List ℕ) → contains_name (own_names c) text ≡ true
      → is_none (constant_of s.constants text) ≡ false
  pub alone : (text : List ℕ) → contains_name (own_names c) text ≡ false → constant_of s.constants text ≡ None

module _ (s : Scope) (beyond outer : List Names) (c : Contents) where
  abbrev pub level : Names
  level = scope_meanings s beyond outer c

  abbrev pub own_meaning : List ℕ → Meaning
  own_meaning text = meaning_of (own s beyond outer c) text

  abbrev pub other_meaning : List ℕ → Meaning
  other_meaning text = meaning_of (ports s beyond outer c ++ objects s beyond outer c) text

  pub data Standing (text : List ℕ) : Type 0 where
    named_own : contains_name (own_names c) text ≡ true → is_undeclared (own_meaning text) ≡ false
        → meaning_of level text ≡ own_meaning text → Standing text
    named_other : contains_name (own_names c) text ≡ false → is_undeclared (other_meaning text) ≡ false
        → IsThing (other_meaning text) → meaning_of level text ≡ other_meaning text → Standing text
    not_named : contains_name (own_names c) text ≡ false → contains_name (other_names c) text ≡ false
        → is_undeclared (own_meaning text) ≡ true → meaning_of level text ≡ undeclared → Standing text

  not_own : (text : List ℕ) → is_undeclared (own_meaning text) ≡ true → contains_name (own_names c) text ≡ false
  not_own text e =
      ap (λ l. contains_name l text) (sym (own_list s beyond outer c))
      ∙ unlisted s text (own s beyond outer c) (own_parameters s beyond outer c).entries e

  is_its_own : (text : List ℕ) → is_undeclared (own_meaning text) ≡ false → contains_name (own_names c) text ≡ true
  is_its_own text e =
      ap (λ l. contains_name l text) (sym (own_list s beyond outer c))
      ∙ listed s text (own s beyond outer c) (own_parameters s beyond outer c).entries e

  things : Things (ports s beyond outer c ++ objects s beyond outer c)
  things =
      both (λ n. IsThing n.1) (ports s beyond outer c) (objects s beyond outer c) (thing_ports s outer (around s beyond outer c) c.ports)
      (thing_items s outer (around s beyond outer c) c.items)

  pub standing : AreItsConstants s c → (text : List ℕ) → Standing text
  standing made text =
      by (is_undeclared (own_meaning text)) (is_undeclared (other_meaning text)) refl refl (steps_are s beyond outer c text)
    where
      by : (a b : Bool) → is_undeclared (own_meaning text) ≡ a → is_undeclared (other_meaning text) ≡ b
          → meaning_of level text ≡ (if a then (if b then of_constant (constant_of s.constants text)
          else other_meaning text) else own_meaning text) → Standing text
      by false b e f h = named_own (is_its_own text e) e h
      by true false e f h =
          named_other (not_own text e) f (each_found IsThing text (ports s beyond outer c ++ objects s beyond outer c) things f) h
      by true true e f h =
          not_named (not_own text e)
          (ap (λ l. contains_name l text) (sym (others_list s beyond outer c))
          ∙ unlisted s text (ports s beyond outer c ++ objects s beyond outer c) (others s beyond outer c) f) e
          (h ∙ ap of_constant (made.alone text (not_own text e)))

  -- a name that is listed behind the parameters so far
  pub own_listed : (text : List ℕ) → contains_name (own_names c) text ≡ true → is_undeclared (own_meaning text) ≡ false
  own_listed text h = by (is_undeclared (own_meaning text)) refl
    where
      by : (b : Bool) → is_undeclared (own_meaning text) ≡ b → is_undeclared (own_meaning text) ≡ false
      by true e = absurd (true≢false (sym h ∙ not_own text e))
      by false e = e

  abbrev behind_names : List (List ℕ)
  behind_names = parameter_names c.parameters ++ port_names c.ports ++ items_names c.items

  all_alike : (texts : List (List ℕ)) (text : List ℕ) → contains_name texts text ≡ false
      → meaning_of (map (λ t. (t, later)) texts) text ≡ undeclared
  all_alike [] text h = refl
  all_alike (t ∷ ts) text h = by (bytes_eq text t) h (all_alike ts text)
    where
      by : (b : Bool) → (b || contains_name ts text) ≡ false
          → (contains_name ts text ≡ false → meaning_of (map (λ t. (t, later)) ts) text ≡ undeclared)
          → (if b then later else meaning_of (map (λ t. (t, later)) ts) text) ≡ undeclared
      by true h next = absurd (true≢false h)
      by false h next = next h

  pub none_behind : (text : List ℕ) → contains_name (own_names c) text ≡ false
      → contains_name (other_names c) text ≡ false → meaning_of (all_later c) text ≡ undeclared
  none_behind text h k =
      all_alike behind_names text
      (lacks-append (parameter_names c.parameters ++ port_names c.ports) (items_names c.items) text
      (lacks-append (parameter_names c.parameters) (port_names c.ports) text
      (lacks-front (parameter_names c.parameters) (parameters_of c.items) text h)
      (lacks-front (port_names c.ports) (object_names c.items) text k))
      (lacks_items text c.items (lacks-back (parameter_names c.parameters) (parameters_of c.items) text h)
      (lacks-back (port_names c.ports) (object_names c.items) text k)))
