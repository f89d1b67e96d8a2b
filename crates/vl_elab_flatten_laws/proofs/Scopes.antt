-- The scopes of modules and blocks in which nothing is refused can be opened.
use Rattle.std.specs.Prelude.{◌≡◌, refl, ℕ, List, [], ◌∷◌, ◌++◌, Bool, Option, Some, None, option_to_list}
use Rattle.std.proofs.Common.{ap, sym, ◌∙◌, subst}
use Rattle.vl_tree.specs.declared.declaration.DeclaredName.{DeclaredName}
use Rattle.vl_tree.specs.declared.declaration.FullPort.{FullPort}
use Rattle.vl_tree.specs.declared.declaration.NetKind.TheVariants as net
use Rattle.vl_tree.specs.declared.declaration.Parameter.{Parameter}
use Rattle.vl_tree.specs.declared.declaration.Port.{Port}
use Rattle.vl_tree.specs.declared.declaration.Shape.{Shape}
use Rattle.vl_tree.specs.declared.source.Module.{Module}
use Rattle.vl_tree.specs.DeclarationWellFormed.{IsDeclaredName}
use Rattle.vl_tree.specs.Item.{
  Item,
  Items,
  declaration,
  integer,
  genvar,
  parameter,
  assign,
  always,
  initial,
  instance,
  generate,
  for_loop,
  if_only,
  if_else,
  no_items,
  more_items,
  items,
}
use Rattle.vl_size.specs.declared.decl.Class.{Class}
use Rattle.vl_size.specs.declared.decl.Class.TheVariants as class
use Rattle.vl_size.specs.declared.decl.Decl.{Decl}
use Rattle.vl_size.specs.Table.{IsPlain}
use Rattle.vl_mean.specs.Cells.{contains_name}
use Rattle.vl_mean.specs.Constants.{Constants}
use Rattle.vl_mean.specs.Declarations.{class_of_attributes, class_of_kind, declared, declared_by, declared_integers}
use Rattle.vl_mean.specs.Declarations.{declared_names, declared_ports, full_port, full_ports, joined_attributes}
use Rattle.vl_mean.specs.Declarations.{names_of, port_decl, ports_of, with_constants, with_items_parameters}
use Rattle.vl_mean.specs.Declarations.{with_parameters}
use Rattle.vl_mean.specs.Parts.{values_of}
use Rattle.vl_mean.specs.Runs.{Each}
use Rattle.vl_mean.specs.Scopes.{Scope}
use Rattle.vl_mean.specs.Walk.{Place, Step, Use, block_place, header_steps, item, module_constants, module_parameters}
use Rattle.vl_mean.specs.Walk.{module_place, module_scope, optional_name, parameter_names, port_names, port_step}
use Rattle.vl_mean.specs.Walk.{port_steps, with_earlier, written_ports}
use Rattle.vl_mean_flat.proofs.EachOf.{both, each_map, front, back}
use Rattle.vl_elab_spec.specs.Meanings.{parameters_of}
use Rattle.vl_elab_accepted_laws.proofs.Declared.{name_list}
use Rattle.vl_elab_accepted_laws.proofs.Fresh.{AreNew, names-new, none-front, not-refused, ports-new}
use Rattle.vl_elab_accepted_laws.proofs.Loops.{AreFine}
use Rattle.vl_elab_accepted_laws.proofs.Plain.{all-each}
use Rattle.vl_elab_accepted_laws.proofs.Laid.{items_list, parameters_list}
use Rattle.vl_elab_const.specs.Openable.{IsInRange, IsOpenable, constant_names, item_constants, items_constants}
use Rattle.vl_elab_flatten_laws.proofs.OpensNames.{decl_names, decls_differ, differ, names_append, new_both, new_fewer}
use Rattle.vl_elab_flatten_laws.proofs.OpensNames.{new_none}
use Rattle.vl_elab_flatten_laws.proofs.OpensNames.{new_one}
use Rattle.vl_elab_flatten_laws.proofs.OpensNames.{parameters_new, plain_name}
use Rattle.vl_elab_flatten_laws.proofs.Ranges.{IsKnown, own_range, own_ranges}

-- nets and variables that may be declared behind these names
pub record AreDeclarable (earlier : List (List ℕ)) (ds : List Decl) : Type 0 where
  pub new : AreNew earlier (decl_names ds)
  pub plain : Each IsPlain ds
  pub in_range : Each IsInRange ds

declares_none : (earlier : List (List ℕ)) → AreDeclarable earlier []
declares_none earlier = record { new = new_none earlier; plain = tt; in_range = tt }

declares_fewer : (earlier more : List (List ℕ)) (ds : List Decl) → AreDeclarable (earlier ++ more) ds
    → AreDeclarable earlier ds
declares_fewer earlier more ds h =
    record { new = new_fewer earlier more (decl_names ds) h.new; plain = h.plain; in_range = h.in_range }

declares_both : (earlier names : List (List ℕ)) (ds es : List Decl) → decl_names ds ≡ names
    → AreDeclarable earlier ds → AreDeclarable (earlier ++ names) es → AreDeclarable earlier (ds ++ es)
declares_both earlier names ds es e h k = record {
  new = subst (AreNew earlier) (sym (names_append ds es))
      (new_both earlier (decl_names ds) (decl_names es) h.new
      (subst (λ l. AreNew (earlier ++ l) (decl_names es)) (sym e) k.new));
  plain = both IsPlain ds es h.plain k.plain;
  in_range = both IsInRange ds es h.in_range k.in_range;
}

-- ---- declared names

module _ (ss : List Scope) (c : Class) where
  vector_names : (shape : Shape) (xs : List DeclaredName) → decl_names (declared_names ss c shape xs) ≡ name_list xs
  vector_names shape [] = refl
  vector_names shape (x ∷ xs) = ap (λ l. x.name ∷ l) (vector_names shape xs)

  vectors_plain : (shape : Shape) (xs : List DeclaredName) → Each IsDeclaredName xs
      → Each IsPlain (declared_names ss c shape xs)
  vectors_plain shape [] w = tt
  vectors_plain shape (x ∷ xs) w = (plain_name x.name w.0.0, vectors_plain shape xs w.1)

  integer_names : (xs : List DeclaredName) → decl_names (declared_integers ss c xs) ≡ name_list xs
  integer_names [] = refl
  integer_names (x ∷ xs) = ap (λ l. x.name ∷ l) (integer_names xs)

  integers_plain : (xs : List DeclaredName) → Each IsDeclaredName xs → Each IsPlain (declared_integers ss c xs)
  integers_plain [] w = tt
  integers_plain (x ∷ xs) w = (plain_name x.name w.0.0, integers_plain xs w.1)

module _ (ms : List Module) where
  -- ---- items

  -- what an item declares, before what is declared behind it
  item_declares : (at : Place) (x : Item) (es : List Decl) → IsKnown ms (item at x)
      → AreDeclarable (at.earlier ++ names_of x) es → AreDeclarable at.earlier (declared_by at.around x ++ es)
  item_declares at (declaration attrs p d) es h k =
      let c : Class = class_of_attributes (class_of_kind d.net) (joined_attributes attrs) in
      let ds : List Decl = declared_names at.around c d.shape d.names in
      declares_both at.earlier (name_list d.names) ds es (vector_names at.around c d.shape d.names) (record {
        new = subst (AreNew at.earlier) (sym (vector_names at.around c d.shape d.names))
            (names-new at.earlier d.names (none-front _ _ (none-front _ _ h.fine)));
        plain = vectors_plain at.around c d.shape d.names (all-each IsDeclaredName d.names h.formed.1.1.1);
        in_range = own_ranges at.path ds (values_of at.scopes d.net d.names) h.within;
      }) k
  item_declares at (integer attrs p xs) es h k =
      let c : Class = class_of_attributes class.Variable (joined_attributes attrs) in
      let ds : List Decl = declared_integers at.around c xs in
      declares_both at.earlier (name_list xs) ds es (integer_names at.around c xs) (record {
        new = subst (AreNew at.earlier) (sym (integer_names at.around c xs))
            (names-new at.earlier xs (none-front _ _ h.fine));
        plain = integers_plain at.around c xs (all-each IsDeclaredName xs h.formed.1.1);
        in_range = own_ranges at.path ds (values_of at.scopes net.Reg xs) h.within;
      }) k
  item_declares at (genvar attrs p xs) es h k = declares_fewer at.earlier (names_of (genvar attrs p xs)) es k
  item_declares at (parameter attrs p kind xs) es h k =
      declares_fewer at.earlier (names_of (parameter attrs p kind xs)) es k
  item_declares at (assign attrs p xs) es h k = declares_fewer at.earlier (names_of (assign attrs p xs)) es k
  item_declares at (always attrs p e y) es h k = declares_fewer at.earlier (names_of (always attrs p e y)) es k
  item_declares at (initial attrs p y) es h k = declares_fewer at.earlier (names_of (initial attrs p y)) es k
  item_declares at (instance attrs p y) es h k = declares_fewer at.earlier (names_of (instance attrs p y)) es k
  item_declares at (generate attrs p y) es h k = declares_fewer at.earlier (names_of (generate attrs p y)) es k
  item_declares at (for_loop attrs p y b) es h k = declares_fewer at.earlier (names_of (for_loop attrs p y b)) es k
  item_declares at (if_only attrs p c b) es h k = declares_fewer at.earlier (names_of (if_only attrs p c b)) es k
  item_declares at (if_else attrs p c b d) es h k = declares_fewer at.earlier (names_of (if_else attrs p c b d)) es k

  -- the constants of an item, before those behind it
  item_constants_new : (at : Place) (x : Item) (ns : List (List ℕ)) → IsKnown ms (item at x)
      → AreNew (at.earlier ++ names_of x) ns → AreNew at.earlier (item_constants x ++ ns)
  item_constants_new at (parameter attrs p kind xs) ns h k =
      new_both at.earlier (parameter_names xs) ns (parameters_new at kind at.earlier xs h.fine) k
  item_constants_new at (declaration attrs p d) ns h k =
      new_fewer at.earlier (names_of (declaration attrs p d)) ns k
  item_constants_new at (integer attrs p xs) ns h k = new_fewer at.earlier (names_of (integer attrs p xs)) ns k
  item_constants_new at (genvar attrs p xs) ns h k = new_fewer at.earlier (names_of (genvar attrs p xs)) ns k
  item_constants_new at (assign attrs p xs) ns h k = new_fewer at.earlier (names_of (assign attrs p xs)) ns k
  item_constants_new at (always attrs p e y) ns h k = new_fewer at.earlier (names_of (always attrs p e y)) ns k
  item_constants_new at (initial attrs p y) ns h k = new_fewer at.earlier (names_of (initial attrs p y)) ns k
  item_constants_new at (instance attrs p y) ns h k = new_fewer at.earlier (names_of (instance attrs p y)) ns k
  item_constants_new at (generate attrs p y) ns h k = new_fewer at.earlier (names_of (generate attrs p y)) ns k
  item_constants_new at (for_loop attrs p y b) ns h k = new_fewer at.earlier (names_of (for_loop attrs p y b)) ns k
  item_constants_new at (if_only attrs p c b) ns h k = new_fewer at.earlier (names_of (if_only attrs p c b)) ns k
  item_constants_new at (if_else attrs p c b d) ns h k = new_fewer at.earlier (names_of (if_else attrs p c b d)) ns k

  -- the items of a scope, each of them a step
  abbrev pub KnownItems : Place → Items → Type 0
  KnownItems at no_items = Unit {0}
  KnownItems at (more_items x xs) = IsKnown ms (item at x) × KnownItems (with_earlier at (names_of x)) xs

  items_declare : (at : Place) (xs : Items) → KnownItems at xs → AreDeclarable at.earlier (declared at.around xs)
  items_declare at no_items h = declares_none at.earlier
  items_declare at (more_items x xs) h =
      item_declares at x (declared at.around xs) h.0 (items_declare (with_earlier at (names_of x)) xs h.1)

  items_constants_new : (at : Place) (xs : Items) → KnownItems at xs → AreNew at.earlier (items_constants xs)
  items_constants_new at no_items h = new_none at.earlier
  items_constants_new at (more_items x xs) h =
      item_constants_new at x (items_constants xs) h.0 (items_constants_new (with_earlier at (names_of x)) xs h.1)

  same_parameters : (xs : Items) → parameters_of xs ≡ items_constants xs
  same_parameters no_items = refl
  same_parameters (more_items (declaration attrs p d) xs) = same_parameters xs
  same_parameters (more_items (integer attrs p ys) xs) = same_parameters xs
  same_parameters (more_items (genvar attrs p ys) xs) = same_parameters xs
  same_parameters (more_items (parameter attrs p kind ys) xs) = ap (λ l. parameter_names ys ++ l) (same_parameters xs)
  same_parameters (more_items (assign attrs p ys) xs) = same_parameters xs
  same_parameters (more_items (always attrs p e y) xs) = same_parameters xs
  same_parameters (more_items (initial attrs p y) xs) = same_parameters xs
  same_parameters (more_items (instance attrs p y) xs) = same_parameters xs
  same_parameters (more_items (generate attrs p y) xs) = same_parameters xs
  same_parameters (more_items (for_loop attrs p y b) xs) = same_parameters xs
  same_parameters (more_items (if_only attrs p c b) xs) = same_parameters xs
  same_parameters (more_items (if_else attrs p c b d) xs) = same_parameters xs

  -- ---- headers

  headers_new : (at : Place) (xs : List Parameter) → Each (IsKnown ms) (header_steps at xs)
      → AreNew at.earlier (parameter_names xs)
  headers_new at [] h = new_none at.earlier
  headers_new at (x ∷ xs) h =
      new_both at.earlier (x.name ∷ []) (parameter_names xs)
      (new_one at.earlier x.name (not-refused (contains_name at.earlier x.name) _
      (none-front _ _ (none-front _ _ (none-front _ _ h.0.fine)))))
      (headers_new (with_earlier at (x.name ∷ [])) xs h.1)

  -- ---- ports

  module _ (bounds : List Scope) (top : Bool) (input : List ℕ → Class) where
    port_decl_names : (ps : List FullPort) → decl_names (declared_ports bounds top input ps) ≡ port_names ps
    port_decl_names [] = refl
    port_decl_names (p ∷ ps) = ap (λ l. p.name ∷ l) (port_decl_names ps)

    each_port : (P : Decl → Type 0) (q : Option FullPort) (qs : List FullPort)
        → Each P (declared_ports bounds top input (option_to_list q))
        → Each P (declared_ports bounds top input qs) → Each P (declared_ports bounds top input (option_to_list q ++ qs))
    each_port P None qs h k = k
    each_port P (Some q) qs h k = (h.0, k)

  port_in_range : (at : Place) (u : Use) (p : Port) (q : Option FullPort) → Each (IsKnown ms) (port_step at u p q)
      → Each IsInRange (declared_ports at.around u.is_top u.input (option_to_list q))
  port_in_range at u p None h = tt
  port_in_range at u p (Some q) h =
      (own_range (port_decl at.around u.is_top u.input q) (at.path ++ q.name) h.0.within.0, tt)

  port_plain : (at : Place) (u : Use) (p : Port) (q : Option FullPort) → Each (IsKnown ms) (port_step at u p q)
      → Each IsPlain (declared_ports at.around u.is_top u.input (option_to_list q))
  port_plain at u p None h = tt
  port_plain at u p (Some q) h = (plain_name q.name h.0.formed.0, tt)

  ports_in_range : (at : Place) (u : Use) (last : Option FullPort) (ps : List Port)
      → Each (IsKnown ms) (port_steps at u last ps)
      → Each IsInRange (declared_ports at.around u.is_top u.input (full_ports last ps))
  ports_in_range at u last [] h = tt
  ports_in_range at u last (p ∷ ps) h =
      let q : Option FullPort = full_port last p.kind in
      let more : List Step = port_steps (with_earlier at (optional_name q)) u q ps in
      each_port at.around u.is_top u.input IsInRange q (full_ports q ps)
      (port_in_range at u p q (front (IsKnown ms) (port_step at u p q) more h))
      (ports_in_range (with_earlier at (optional_name q)) u q ps
      (back (IsKnown ms) (port_step at u p q) more h))

  ports_plain : (at : Place) (u : Use) (last : Option FullPort) (ps : List Port)
      → Each (IsKnown ms) (port_steps at u last ps)
      → Each IsPlain (declared_ports at.around u.is_top u.input (full_ports last ps))
  ports_plain at u last [] h = tt
  ports_plain at u last (p ∷ ps) h =
      let q : Option FullPort = full_port last p.kind in
      let more : List Step = port_steps (with_earlier at (optional_name q)) u q ps in
      each_port at.around u.is_top u.input IsPlain q (full_ports q ps)
      (port_plain at u p q (front (IsKnown ms) (port_step at u p q) more h))
      (ports_plain (with_earlier at (optional_name q)) u q ps (back (IsKnown ms) (port_step at u p q) more h))

  all_fine : (xs : List Step) → Each (IsKnown ms) xs → AreFine ms xs
  all_fine xs h = each_map (λ x k. k.fine) xs h

  ports_declare : (at : Place) (u : Use) (last : Option FullPort) (ps : List Port)
      → Each (IsKnown ms) (port_steps at u last ps)
      → AreDeclarable at.earlier (declared_ports at.around u.is_top u.input (full_ports last ps))
  ports_declare at u last ps h = record {
    new = subst (AreNew at.earlier) (sym (port_decl_names at.around u.is_top u.input (full_ports last ps)))
        (ports-new ms at u last ps (all_fine (port_steps at u last ps) h));
    plain = ports_plain at u last ps h;
    in_range = ports_in_range at u last ps h;
  }

  -- ---- whole scopes

  opened : (earlier : List (List ℕ)) (path : List ℕ) (ds : List Decl) (cs : Constants) (names : List (List ℕ))
      → constant_names cs ≡ names → AreNew [] names → AreDeclarable earlier ds
      → IsOpenable (record { path = path; decls = ds; constants = cs })
  opened earlier path ds cs names e new all = record {
    constants = differ (constant_names cs) (subst (AreNew []) (sym e) new).different;
    decls = decls_differ ds all.new.different;
    plain = all.plain;
    in_range = all.in_range;
  }

  pub block_openable : (at : Place) (path : List ℕ) (xs : Items) → KnownItems (block_place at path xs) xs
      → IsOpenable (record {
        path = path;
        decls = declared (with_constants (with_items_parameters [] at.scopes [] xs) at.scopes) xs;
        constants = with_items_parameters [] at.scopes [] xs;
      })
  block_openable at path xs h =
      let inside : Place = block_place at path xs in
      opened [] path (declared inside.around xs) (with_items_parameters [] at.scopes [] xs) (items_constants xs)
      (items_list [] at.scopes xs [] ∙ same_parameters xs) (items_constants_new inside xs h) (items_declare inside xs h)

  written_full : (ps : Option (List Port)) → full_ports None (written_ports ps) ≡ ports_of ps
  written_full None = refl
  written_full (Some ps) = refl

  pub module_openable : (m : Module) (u : Use) (path : List ℕ) (modules : List (List ℕ))
      → Each (IsKnown ms) (header_steps (module_place m u path modules) (module_parameters m))
      → Each (IsKnown ms) (port_steps (with_earlier (module_place m u path modules)
      (parameter_names (module_parameters m))) u None (written_ports m.ports))
      → KnownItems (with_earlier (module_place m u path modules)
      (parameter_names (module_parameters m) ++ port_names (ports_of m.ports))) (items m.items)
      → IsOpenable (module_scope m u path)
  module_openable m u path modules heads ports rest =
      let at : Place = module_place m u path modules in
      let parameters : List (List ℕ) = parameter_names (module_parameters m) in
      let front_names : List (List ℕ) = parameters ++ port_names (ports_of m.ports) in
      let of_ports : List Decl = declared_ports at.around u.is_top u.input (ports_of m.ports) in
      let new : AreNew [] (parameters ++ items_constants (items m.items))
      = new_both [] parameters (items_constants (items m.items)) (headers_new at (module_parameters m) heads)
      (new_fewer parameters (port_names (ports_of m.ports)) (items_constants (items m.items))
      (items_constants_new (with_earlier at front_names) (items m.items) rest)) in
      let names : constant_names (module_constants m u) ≡ parameters ++ items_constants (items m.items)
      = items_list u.overrides [] (items m.items) (with_parameters u.overrides [] [] (module_parameters m))
      ∙ (λ i. parameters_list u.overrides [] (module_parameters m) [] i ++ same_parameters (items m.items) i) in
      let first : AreDeclarable parameters of_ports
      = subst (λ ps. AreDeclarable parameters (declared_ports at.around u.is_top u.input ps)) (written_full m.ports)
      (ports_declare (with_earlier at parameters) u None (written_ports m.ports) ports) in
      opened parameters path (of_ports ++ declared at.around (items m.items)) (module_constants m u)
      (parameters ++ items_constants (items m.items)) names new
      (declares_both parameters (port_names (ports_of m.ports)) of_ports (declared at.around (items m.items))
      (port_decl_names at.around u.is_top u.input (ports_of m.ports)) first
      (items_declare (with_earlier at front_names) (items m.items) rest))
