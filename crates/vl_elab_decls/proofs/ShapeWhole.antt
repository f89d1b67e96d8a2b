-- All ports, nets and variables of a scope.
use Rattle.std.specs.Prelude.{◌≡◌, refl, ℕ, List, [], ◌∷◌, ◌++◌, map, Bool, true, false, ◌&&◌, is_none}
use Rattle.std.specs.Prelude.{ℤ, pos, Option, Some, None, if◌then◌else◌, option_to_list}
use Rattle.std.proofs.Common.{ap, sym, ◌∙◌, subst}
use Rattle.std.proofs.lemmas.List.{append_assoc, append-nil}
use Rattle.vl_tree.specs.declared.declaration.Declaration.{Declaration}
use Rattle.vl_tree.specs.declared.declaration.DeclaredName.{DeclaredName}
use Rattle.vl_tree.specs.declared.declaration.Direction.{Direction}
use Rattle.vl_tree.specs.declared.declaration.Direction.TheVariants as direction
use Rattle.vl_tree.specs.declared.declaration.FullPort.{FullPort}
use Rattle.vl_tree.specs.declared.declaration.NetKind.{NetKind}
use Rattle.vl_tree.specs.declared.declaration.Port.{Port}
use Rattle.vl_tree.specs.declared.declaration.PortKind.{PortKind}
use Rattle.vl_tree.specs.declared.declaration.PortKind.TheVariants as port
use Rattle.vl_tree.specs.declared.declaration.Range.{Range}
use Rattle.vl_tree.specs.declared.declaration.Shape.{Shape}
use Rattle.vl_tree.specs.Attributes.{Attributes}
use Rattle.vl_tree.specs.Item.{
  Item,
  Items,
  declaration,
  integer,
  genvar,
  parameter,
  assign,
  always,
  initial,
  instance,
  generate,
  for_loop,
  if_only,
  if_else,
  no_items,
  more_items,
}
use Rattle.vl_size.specs.declared.decl.Class.{Class}
use Rattle.vl_size.specs.declared.decl.Class.TheVariants as class
use Rattle.vl_size.specs.declared.decl.Decl.{Decl}
use Rattle.vl_size.specs.Table.{declared_as, is_plain}
use Rattle.vl_mean.specs.declared.const_number.Const.{Const}
use Rattle.vl_mean.specs.Declarations.{class_of_attributes, class_of_kind, joined_attributes, declared_names}
use Rattle.vl_mean.specs.Declarations.{declared_integers, declared_by, declared, declared_ports, vector, integer_decl}
use Rattle.vl_mean.specs.Declarations.{port_decl, full_port, full_ports, is_output, class_of_port, word_bounds}
use Rattle.vl_mean.specs.Scopes.{Scope, constant_in}
use Rattle.vl_mean.specs.Walk.{Use, port_names}
use Rattle.vl_elab_spec.specs.declared.role.Role.{Role}
use Rattle.vl_elab_spec.specs.declared.role.Role.TheVariants as roles
use Rattle.vl_elab_spec.specs.Meanings.{value_of, Names, constants, object_or}
use Rattle.vl_elab_spec.specs.Meanings.{is_known_range, is_known_shape, may_have_words, item_names}
use Rattle.vl_elab_spec.specs.Meanings.{items_names, port_meanings, name_meanings, item_meanings}
use Rattle.vl_elab_spec.specs.Meanings.{role_of_kind, role_of_port}
use Rattle.vl_elab_spec.specs.Meanings.{items_meanings}
use Rattle.vl_elab_scope.specs.Alike.{Alike}
use Rattle.vl_elab_scope.proofs.Items.{same_known_range}
use Rattle.vl_elab_spec.specs.Among.{AreAmong}
use Rattle.vl_elab_params.specs.Known.{known_extent, extent_of}
use Rattle.vl_elab_decls.specs.declared.shape_forms.Form.{Form}
use Rattle.vl_elab_decls.specs.declared.shape_forms.PortForm.{PortForm}
use Rattle.vl_elab_decls.specs.declared.inputs.Inputs.{Inputs}
use Rattle.vl_elab_decls.specs.Inputs.{AreInputs}
use Rattle.vl_elab_decls.specs.Objects.{object_with, words_if_known, declaration_form, integer_form, with_one}
use Rattle.vl_elab_decls.specs.Objects.{with_declared, with_genvars, with_item, with_items, port_form, next_form}
use Rattle.vl_elab_decls.specs.Objects.{port_text}
use Rattle.vl_elab_decls.specs.Objects.{output_class, port_class, form_of_port, with_port, with_ports, scope_objects}
use Rattle.vl_elab_decls.specs.Shaped.{ArePlain, IsDeclared, AreShaped}
use Rattle.vl_elab_params.proofs.KeptParameters.{same_shape}
use Rattle.vl_elab_decls.proofs.Bounded.{extent_is, words_known, object_is, object_named}
use Rattle.vl_elab_decls.proofs.Shaped.{none_shaped, object_shaped, shaped_to, genvars_shaped}

pub plain_front : (xs ys : List (List ℕ)) → ArePlain (xs ++ ys) → ArePlain xs
plain_front [] ys h = tt
plain_front (x ∷ xs) ys h = (h.0, plain_front xs ys h.1)

pub plain_behind : (xs ys : List (List ℕ)) → ArePlain (xs ++ ys) → ArePlain ys
plain_behind [] ys h = h
plain_behind (x ∷ xs) ys h = plain_behind xs ys h.1

true_behind : (b : Bool) → b && true ≡ b
true_behind true = refl
true_behind false = refl

among_alike : (ns ms : List Names) → Alike ns ms → (all : List ℕ → Option Const) → AreAmong (constants ms) all
    → AreAmong (constants ns) all
among_alike ns ms h all among text c e = among text c (sym (ap value_of (h.meaning text)) ∙ e)

module _ (s : Scope) (outer ns ms : List Names) (h : Alike ns ms) (ss : List Scope)
    (among : AreAmong (constants ms) (constant_in ss)) where
  -- ---- a name

  abbrev also_among : AreAmong (constants ns) (constant_in ss)
  also_among = among_alike ns ms h (constant_in ss) among

  -- a vector, of a form whose extent is that of a range
  vector_is : (f : Form) (shape : Shape) (text : List ℕ) (k : Bool) (words : Option Range) → is_plain text ≡ true
      → f.signed ≡ shape.signed
      → object_with f text (known_extent ns shape.range) (if k then Some (word_bounds ss words) else None)
      ≡ object_or (is_known_shape ms shape.range && k) (Some (vector ss f.class f.output shape text words)) f.role
      f.scalar
  vector_is f shape text k words p same =
      object_is (is_known_shape ns shape.range) k f (extent_of ns shape.range) (word_bounds ss words) text
      (vector ss f.class f.output shape text words) p (λ known j i.
      let e = extent_is ns ss also_among shape.range known in record {
        name = text;
        width = (e i).bits;
        signed = same i;
        left = (e i).left;
        right = (e i).right;
        words = word_bounds ss words;
        class = f.class;
        output = f.output;
      })
      ∙ ap (λ known. object_or (known && k) (Some (vector ss f.class f.output shape text words)) f.role f.scalar)
      (same_shape ns ms h shape.range)

  abbrev may : Class → DeclaredName → Bool
  may c x = is_known_range ms x.words && may_have_words c x.words x.value

  words_are : (c : Class) (x : DeclaredName)
      → words_if_known ns c x ≡ (if may c x then Some (word_bounds ss x.words) else None)
  words_are c x =
      words_known ns ss also_among c x
      ∙ ap (λ k. if k && may_have_words c x.words x.value then Some (word_bounds ss x.words) else None)
      (same_known_range ns ms h x.words)

  -- ---- names that are declared together

  module _ (f : Form) (c : Class) (role : Role) (known scalar : Bool) (dec : DeclaredName → Decl)
      (named : (x : DeclaredName) → (dec x).name ≡ x.name)
      (one : (x : DeclaredName) → is_plain x.name ≡ true
      → object_with f x.name f.extent (words_if_known ns f.class x)
      ≡ object_or (known && may c x) (Some (dec x)) role scalar) where
    all_shaped : (xs : List DeclaredName) (l m : Names) (before more : List Decl) → ArePlain (map (λ x. x.name) xs)
        → s.decls ≡ before ++ map dec xs ++ more → AreShaped l m before
        → AreShaped (with_declared ns f l xs) (m ++ name_meanings s outer ms c role known scalar xs)
        (before ++ map dec xs)
    all_shaped [] l m before more p e k =
        shaped_to s l m _ before _ (sym (append-nil m)) (sym (append-nil before)) k
    all_shaped (x ∷ xs) l m before more p e k =
        let d = dec x in
        let ds = map dec xs in
        let kept = object_with f x.name f.extent (words_if_known ns f.class x) in
        let meant = object_or (known && may c x) (declared_as s.decls x.name) role scalar in
        shaped_to s (with_declared ns f l (x ∷ xs)) _ _ _ _
        (append_assoc m ((x.name, meant) ∷ []) (name_meanings s outer ms c role known scalar xs))
        (append_assoc before (d ∷ []) ds)
        (all_shaped xs (with_one ns f l x) (m ++ (x.name, meant) ∷ []) (before ++ d ∷ []) more p.1
        (e ∙ ap (λ b. b ++ more) (sym (append_assoc before (d ∷ []) ds)))
        (object_shaped s l m before k x.name d (named x) (ds ++ more) kept (known && may c x) role scalar
        (e ∙ append_assoc before (d ∷ ds) more) (object_named f x.name f.extent (words_if_known ns f.class x))
        (one x p.0)))

  -- ---- items

  names_map : (c : Class) (shape : Shape) (xs : List DeclaredName)
      → map (λ x. vector ss c false shape x.name x.words) xs ≡ declared_names ss c shape xs
  names_map c shape [] = refl
  names_map c shape (x ∷ xs) = ap (λ ds. vector ss c false shape x.name x.words ∷ ds) (names_map c shape xs)

  integers_map : (c : Class) (xs : List DeclaredName)
      → map (λ x. integer_decl ss c x) xs ≡ declared_integers ss c xs
  integers_map c [] = refl
  integers_map c (x ∷ xs) = ap (λ ds. integer_decl ss c x ∷ ds) (integers_map c xs)

  declaration_shaped : (attrs : Attributes) (d : Declaration) (l m : Names) (before more : List Decl)
      → ArePlain (map (λ x. x.name) d.names)
      → s.decls ≡ before ++ declared_names ss (class_of_attributes (class_of_kind d.net) (joined_attributes attrs))
      d.shape d.names ++ more
      → AreShaped l m before
      → AreShaped (with_declared ns (declaration_form ns attrs d) l d.names)
      (m ++ name_meanings s outer ms (class_of_attributes (class_of_kind d.net) (joined_attributes attrs))
      (role_of_kind d.net) (is_known_shape ms d.shape.range) (is_none d.shape.range) d.names)
      (before ++ declared_names ss (class_of_attributes (class_of_kind d.net) (joined_attributes attrs)) d.shape
      d.names)
  declaration_shaped attrs d l m before more p e k =
      let c = class_of_attributes (class_of_kind d.net) (joined_attributes attrs) in
      let f = declaration_form ns attrs d in
      shaped_to s (with_declared ns f l d.names) _ _ _ _ refl (ap (λ ds. before ++ ds) (names_map c d.shape d.names))
      (all_shaped f c (role_of_kind d.net) (is_known_shape ms d.shape.range) (is_none d.shape.range)
      (λ x. vector ss c false d.shape x.name x.words) (λ x. refl)
      (λ x q. ap (object_with f x.name f.extent) (words_are c x) ∙ vector_is f d.shape x.name (may c x) x.words q refl)
      d.names l m before more p (e ∙ ap (λ ds. before ++ ds ++ more) (sym (names_map c d.shape d.names))) k)

  integer_is : (attrs : Attributes) (x : DeclaredName) → is_plain x.name ≡ true
      → (c : Class) → c ≡ class_of_attributes class.Variable (joined_attributes attrs)
      → object_with (integer_form attrs) x.name (integer_form attrs).extent (words_if_known ns c x)
      ≡ object_or (may c x) (Some (integer_decl ss c x)) roles.Variable false
  integer_is attrs x q c e =
      let f = integer_form attrs in
      ap (object_with f x.name f.extent) (words_are c x)
      ∙ object_is true (may c x) f (record { bits = 32; left = pos 31; right = pos 0 }) (word_bounds ss x.words) x.name
      (integer_decl ss c x) q (λ a b i. record {
        name = x.name;
        width = 32;
        signed = true;
        left = pos 31;
        right = pos 0;
        words = word_bounds ss x.words;
        class = sym e i;
        output = false;
      })

  integer_shaped : (attrs : Attributes) (xs : List DeclaredName) (l m : Names) (before more : List Decl)
      → ArePlain (map (λ x. x.name) xs)
      → s.decls ≡ before ++ declared_integers ss (class_of_attributes class.Variable (joined_attributes attrs)) xs
      ++ more
      → AreShaped l m before
      → AreShaped (with_declared ns (integer_form attrs) l xs)
      (m ++ name_meanings s outer ms (class_of_attributes class.Variable (joined_attributes attrs)) roles.Variable true
      false xs)
      (before ++ declared_integers ss (class_of_attributes class.Variable (joined_attributes attrs)) xs)
  integer_shaped attrs xs l m before more p e k =
      let c = class_of_attributes class.Variable (joined_attributes attrs) in
      let f = integer_form attrs in
      shaped_to s (with_declared ns f l xs) _ _ _ _ refl (ap (λ ds. before ++ ds) (integers_map c xs))
      (all_shaped f c roles.Variable true false (λ x. integer_decl ss c x) (λ x. refl)
      (λ x q. integer_is attrs x q c refl)
      xs l m before more p (e ∙ ap (λ ds. before ++ ds ++ more) (sym (integers_map c xs))) k)

  -- what declares no net and no variable, and no genvar
  abbrev Same : Names → Names → List Decl → Type 0
  Same l m before = AreShaped l (m ++ []) (before ++ [])

  same : (l m : Names) (before : List Decl) → AreShaped l m before → Same l m before
  same l m before k = shaped_to s l m _ before _ (sym (append-nil m)) (sym (append-nil before)) k

  item_shaped : (x : Item) (l m : Names) (before more : List Decl) → ArePlain (item_names x)
      → s.decls ≡ before ++ declared_by ss x ++ more → AreShaped l m before
      → AreShaped (with_item ns l x) (m ++ item_meanings s outer ms x) (before ++ declared_by ss x)
  item_shaped (declaration attrs p d) l m before more q e k = declaration_shaped attrs d l m before more q e k
  item_shaped (integer attrs p xs) l m before more q e k = integer_shaped attrs xs l m before more q e k
  item_shaped (genvar attrs p xs) l m before more q e k =
      shaped_to s (with_genvars l xs) _ _ before _ refl (sym (append-nil before)) (genvars_shaped s xs l m before k)
  item_shaped (parameter attrs p kind xs) l m before more q e k = same l m before k
  item_shaped (assign attrs p xs) l m before more q e k = same l m before k
  item_shaped (always attrs p event x) l m before more q e k = same l m before k
  item_shaped (initial attrs p x) l m before more q e k = same l m before k
  item_shaped (instance attrs p x) l m before more q e k = same l m before k
  item_shaped (generate attrs p mark) l m before more q e k = same l m before k
  item_shaped (for_loop attrs p head b) l m before more q e k = same l m before k
  item_shaped (if_only attrs p x b) l m before more q e k = same l m before k
  item_shaped (if_else attrs p x b b') l m before more q e k = same l m before k

  pub items_shaped : (xs : Items) (l m : Names) (before more : List Decl) → ArePlain (items_names xs)
      → s.decls ≡ before ++ declared ss xs ++ more → AreShaped l m before
      → AreShaped (with_items ns l xs) (m ++ items_meanings s outer ms xs) (before ++ declared ss xs)
  items_shaped no_items l m before more q e k = same l m before k
  items_shaped (more_items x xs) l m before more q e k =
      let d = declared_by ss x in
      let ds = declared ss xs in
      shaped_to s (with_items ns l (more_items x xs)) _ _ _ _
      (append_assoc m (item_meanings s outer ms x) (items_meanings s outer ms xs)) (append_assoc before d ds)
      (items_shaped xs (with_item ns l x) (m ++ item_meanings s outer ms x) (before ++ d) more
      (plain_behind (item_names x) (items_names xs) q)
      (e ∙ ap (λ b. b ++ more) (sym (append_assoc before d ds)))
      (item_shaped x l m before (ds ++ more) (plain_front (item_names x) (items_names xs) q)
      (e ∙ ap (λ b. b ++ more) (sym (append_assoc before d ds)) ∙ append_assoc (before ++ d) ds more) k))

  -- ---- ports

  module _ (inputs : Inputs) (u : Use) (g : AreInputs inputs u) where
    class_is : (p : FullPort) (to : Direction) (kind : Option NetKind)
        → port_class inputs to kind p.name ≡ class_of_port u.input p to kind
    class_is p direction.Input kind = sym (g.stands p.name)
    class_is p direction.Output None = refl
    class_is p direction.Output (Some kind) = refl

    port_is : (p : FullPort) → is_plain p.name ≡ true
        → object_with (form_of_port inputs (port_form ns p) p.name) p.name (known_extent ns p.shape.range) (Some None)
        ≡ object_or (is_known_shape ms p.shape.range) (Some (port_decl ss u.is_top u.input p))
        (role_of_port p.direction p.net)
        (is_none p.shape.range)
    port_is p q =
        vector_is (form_of_port inputs (port_form ns p) p.name) p.shape p.name true None q refl
        ∙ (λ i. object_or (true_behind (is_known_shape ms p.shape.range) i)
        (Some (vector ss (class_is p p.direction p.net i) (sym g.top i && is_output p.direction) p.shape p.name None))
        (role_of_port p.direction p.net) (is_none p.shape.range))

    abbrev form_behind : Option FullPort → Option PortForm
    form_behind None = None
    form_behind (Some p) = Some (port_form ns p)

    abbrev decls : List FullPort → List Decl
    decls ps = declared_ports ss u.is_top u.input ps

    pub ports_shaped : (ps : List Port) (last : Option FullPort) (l m : Names) (before more : List Decl)
        → ArePlain (port_names (full_ports last ps))
        → s.decls ≡ before ++ decls (full_ports last ps) ++ more → AreShaped l m before
        → AreShaped (with_ports ns inputs l (form_behind last) ps) (m ++ port_meanings s outer ms (full_ports last ps))
        (before ++ decls (full_ports last ps))
    ports_shaped [] last l m before more q e k = same l m before k
    ports_shaped (p ∷ ps) last l m before more q e k =
        by last p.kind q e (λ last l m before q e k. ports_shaped ps last l m before more q e k)
      where
        -- one port before others
        front : (p : FullPort)
            → ((l m : Names) (before : List Decl) → ArePlain (port_names (full_ports (Some p) ps))
            → s.decls ≡ before ++ decls (full_ports (Some p) ps) ++ more → AreShaped l m before
            → AreShaped (with_ports ns inputs l (Some (port_form ns p)) ps)
            (m ++ port_meanings s outer ms (full_ports (Some p) ps)) (before ++ decls (full_ports (Some p) ps)))
            → ArePlain (p.name ∷ port_names (full_ports (Some p) ps))
            → s.decls ≡ before ++ decls (p ∷ full_ports (Some p) ps) ++ more
            → AreShaped
            (with_ports ns inputs (with_port inputs l (Some (port_form ns p)) p.name) (Some (port_form ns p)) ps)
            (m ++ port_meanings s outer ms (p ∷ full_ports (Some p) ps)) (before ++ decls (p ∷ full_ports (Some p) ps))
        front p f q e =
            let d = port_decl ss u.is_top u.input p in
            let qs = full_ports (Some p) ps in
            let known = is_known_shape ms p.shape.range in
            let role = role_of_port p.direction p.net in
            let scalar = is_none p.shape.range in
            let meant = object_or known (declared_as s.decls p.name) role scalar in
            let form = form_of_port inputs (port_form ns p) p.name in
            let kept = object_with form p.name (known_extent ns p.shape.range) (Some None) in
            shaped_to s _ _ _ _ _
            (append_assoc m ((p.name, meant) ∷ []) (port_meanings s outer ms qs))
            (append_assoc before (d ∷ []) (decls qs))
            (f (with_port inputs l (Some (port_form ns p)) p.name) (m ++ (p.name, meant) ∷ []) (before ++ d ∷ []) q.1
            (e ∙ ap (λ b. b ++ more) (sym (append_assoc before (d ∷ []) (decls qs))))
            (object_shaped s l m before k p.name d refl (decls qs ++ more) kept known role scalar
            (e ∙ append_assoc before (d ∷ decls qs) more)
            (object_named form p.name (known_extent ns p.shape.range) (Some None)) (port_is p q.0)))

        by : (last : Option FullPort) (kind : PortKind)
            → ArePlain (port_names (option_to_list (full_port last kind) ++ full_ports (full_port last kind) ps))
            → s.decls ≡ before ++ decls (option_to_list (full_port last kind) ++ full_ports (full_port last kind) ps)
            ++ more
            → ((last : Option FullPort) (l m : Names) (before : List Decl) → ArePlain (port_names (full_ports last ps))
            → s.decls ≡ before ++ decls (full_ports last ps) ++ more → AreShaped l m before
            → AreShaped (with_ports ns inputs l (form_behind last) ps)
            (m ++ port_meanings s outer ms (full_ports last ps)) (before ++ decls (full_ports last ps)))
            → AreShaped
            (with_ports ns inputs (with_port inputs l (next_form ns (form_behind last) kind) (port_text kind))
            (next_form ns (form_behind last) kind) ps)
            (m ++ port_meanings s outer ms
            (option_to_list (full_port last kind) ++ full_ports (full_port last kind) ps))
            (before ++ decls (option_to_list (full_port last kind) ++ full_ports (full_port last kind) ps))
        by last (port.Full p) q e f = front p (λ l m before q e k. f (Some p) l m before q e k) q e
        by None (port.Short text value) q e f = f None l m before q e k
        by (Some p) (port.Short text value) q e f =
            let short : FullPort = record p { name = text; value = value } in
            front short (λ l m before q e k. f (Some short) l m before q e k) q e

    -- ---- the whole

    pub scope_shaped : (ps : List Port) (xs : Items) → ArePlain (port_names (full_ports None ps) ++ items_names xs)
        → s.decls ≡ decls (full_ports None ps) ++ declared ss xs
        → AreShaped (scope_objects ns inputs ps xs)
        (port_meanings s outer ms (full_ports None ps) ++ items_meanings s outer ms xs)
        (decls (full_ports None ps) ++ declared ss xs)
    scope_shaped ps xs q e =
        let qs = full_ports None ps in
        items_shaped xs (with_ports ns inputs [] None ps) (port_meanings s outer ms qs) (decls qs) []
        (plain_behind (port_names qs) (items_names xs) q) (e ∙ sym (append-nil (decls qs ++ declared ss xs)))
        (ports_shaped ps None [] [] [] (declared ss xs) (plain_front (port_names qs) (items_names xs) q) e
        (none_shaped s))

pub all_objects_shaped : (s : Scope) (outer ns known : List Names) (ss : List Scope) (inputs : Inputs) (u : Use)
    (ps : List Port) (xs : Items) → AreInputs inputs u → Alike ns known
    → IsDeclared s known ss u (full_ports None ps) xs
    → AreShaped (scope_objects ns inputs ps xs)
    (port_meanings s outer known (full_ports None ps) ++ items_meanings s outer known xs) s.decls
all_objects_shaped s outer ns known ss inputs u ps xs g h d =
    shaped_to s _ _ _ _ _ refl (sym d.decls)
    (scope_shaped s outer ns known h ss d.among inputs u g ps xs d.plain d.decls)
