-- The clock among the ports of a module.
use Rattle.std.specs.Prelude.{◌≡◌, refl, ℕ, List, [], ◌∷◌, ◌++◌, Bool, true, false, ◌&&◌, ◌||◌, not, bytes_eq}
use Rattle.std.specs.Prelude.{is_some, Option, Some, None, if◌then◌else◌, option_to_list, codes}
use Rattle.std.proofs.Common.{ap, sym, ◌∙◌}
use Rattle.std.proofs.lemmas.Slice.Eq.{bytes_eq-Decides}
use Rattle.vl_tree.specs.declared.attribute.Attribute.{Attribute}
use Rattle.vl_tree.specs.declared.declaration.DeclaredName.{DeclaredName}
use Rattle.vl_tree.specs.declared.declaration.Direction.{Direction}
use Rattle.vl_tree.specs.declared.declaration.Direction.TheVariants as direction
use Rattle.vl_tree.specs.declared.declaration.FullPort.{FullPort}
use Rattle.vl_tree.specs.declared.declaration.NetKind.{NetKind}
use Rattle.vl_tree.specs.declared.declaration.NetKind.TheVariants as net
use Rattle.vl_tree.specs.declared.declaration.Port.{Port}
use Rattle.vl_tree.specs.declared.declaration.PortKind.{PortKind}
use Rattle.vl_tree.specs.declared.declaration.PortKind.TheVariants as port
use Rattle.vl_tree.specs.declared.declaration.Shape.{Shape}
use Rattle.vl_tree.specs.Item.{
  Item,
  Items,
  declaration,
  integer,
  genvar,
  parameter,
  assign,
  always,
  initial,
  instance,
  generate,
  for_loop,
  if_only,
  if_else,
  no_items,
  more_items,
}
use Rattle.vl_size.specs.declared.decl.Class.{Class}
use Rattle.vl_size.specs.declared.decl.Class.TheVariants as class
use Rattle.vl_size.specs.declared.decl.Decl.{Decl}
use Rattle.vl_size.specs.Table.{declared_as}
use Rattle.vl_mean.specs.Declarations.{class_of_attributes, class_of_kind, class_of_port, declared, declared_by}
use Rattle.vl_mean.specs.Declarations.{vector, integer_decl}
use Rattle.vl_mean.specs.Declarations.{joined_attributes}
use Rattle.vl_mean.specs.Declarations.{declared_names, declared_integers, declared_ports, port_decl, full_port}
use Rattle.vl_mean.specs.Declarations.{full_ports}
use Rattle.vl_mean.specs.Scopes.{Scope, is_clock_class, is_clock_decl}
use Rattle.vl_mean.specs.Walk.{Use}
use Rattle.vl_elab_decls.specs.declared.inputs.Inputs.{Inputs}
use Rattle.vl_elab_decls.specs.Inputs.{AreInputs, class_of}
use Rattle.vl_elab_decls.specs.Clocks.{next_direction, port_text, is_clock_port, with_port, with_clock, clocks_of}

module _ (inputs : Inputs) (ss : List Scope) (u : Use) (g : AreInputs inputs u) where
  abbrev decls : List FullPort → List Decl
  decls ps = declared_ports ss u.is_top u.input ps

  kind_not : (kind : NetKind) → is_clock_class (class_of_kind kind) ≡ false
  kind_not net.Wire = refl
  kind_not net.Reg = refl

  port_clock : (p : FullPort) (to : Direction) (kind : Option NetKind)
      → is_clock_port inputs to p.name ≡ is_clock_class (class_of_port u.input p to kind)
  port_clock p direction.Input kind = ap is_clock_class (sym (g.stands p.name))
  port_clock p direction.Output None = refl
  port_clock p direction.Output (Some kind) = sym (kind_not kind)

  abbrev direction_of : Option FullPort → Option Direction
  direction_of None = None
  direction_of (Some p) = Some p.direction

  or_false : (a : Bool) → a ≡ (a || false)
  or_false true = refl
  or_false false = refl

  and_false : (a : Bool) → (a && false) ≡ false
  and_false true = refl
  and_false false = refl

  module _ (text : List ℕ) where
    abbrev Says : List Port → Option FullPort → (List ℕ → Bool) → (List ℕ → Bool) → Type 0
    Says ps last ports clocks =
        clocks_of inputs (direction_of last) ps ports clocks text
        ≡ (clocks text || (not (ports text) && is_clock_decl (declared_as (decls (full_ports last ps)) text)))

    -- a port before others; r: the clock is among those
    one : (eq ports clock here r : Bool) → ((eq && (not ports && here)) || clock) || (not (eq || ports) && r)
        ≡ clock || (not ports && (if eq then here else r))
    one true true true here r = refl
    one true true false here r = refl
    one true false true true r = refl
    one true false true false r = refl
    one true false false true r = refl
    one true false false false r = refl
    one false true true here r = refl
    one false true false here r = refl
    one false false true here r = refl
    one false false false here r = refl

    -- the test of a name that is this one asks for the same name
    front : (p : FullPort) (ps : List FullPort) (ports clocks : List ℕ → Bool)
        → (with_clock inputs (Some p.direction) p.name ports clocks text
        || (not (with_port (Some p.direction) p.name ports text) && is_clock_decl (declared_as (decls ps) text)))
        ≡ (clocks text || (not (ports text) && is_clock_decl (declared_as (decls (p ∷ ps)) text)))
    front p ps ports clocks = by (bytes_eq text p.name) refl
      where
        r : Bool
        r = is_clock_decl (declared_as (decls ps) text)

        here : Bool
        here = is_clock_class (class_of_port u.input p p.direction p.net)

        found : (b : Bool) → is_clock_decl (if b then Some (port_decl ss u.is_top u.input p) else declared_as (decls ps) text)
            ≡ (if b then here else r)
        found true = refl
        found false = refl

        by : (b : Bool) → bytes_eq text p.name ≡ b
            → (((b && (not (ports p.name) && is_clock_port inputs p.direction p.name)) || clocks text)
            || (not (b || ports text) && r))
            ≡ (clocks text
            || (not (ports text) && is_clock_decl (if b then Some (port_decl ss u.is_top u.input p) else declared_as (decls ps) text)))
        by true e =
            (λ i. ((true && (not (ports (sym ((bytes_eq-Decides text p.name).0 e) i))
            && port_clock p p.direction p.net i)) || clocks text) || (not (true || ports text) && r))
            ∙ one true (ports text) (clocks text) here r
            ∙ ap (λ k. clocks text || (not (ports text) && k)) (sym (found true))
        by false e = one false (ports text) (clocks text) here r
            ∙ ap (λ k. clocks text || (not (ports text) && k)) (sym (found false))

    all_say : (ps : List Port) (last : Option FullPort) (ports clocks : List ℕ → Bool) → Says ps last ports clocks
    all_say [] last ports clocks = or_false (clocks text) ∙ ap (λ k. clocks text || k) (sym (and_false (not (ports text))))
    all_say (p ∷ ps) last ports clocks =
        by last p.kind (λ last ports clocks. all_say ps last ports clocks)
      where
        by : (last : Option FullPort) (kind : PortKind)
            → ((last : Option FullPort) (ports clocks : List ℕ → Bool) → Says ps last ports clocks)
            → clocks_of inputs (next_direction (direction_of last) kind) ps
            (with_port (next_direction (direction_of last) kind) (port_text kind) ports)
            (with_clock inputs (next_direction (direction_of last) kind) (port_text kind) ports clocks) text
            ≡ (clocks text || (not (ports text) && is_clock_decl (declared_as
            (decls (option_to_list (full_port last kind) ++ full_ports (full_port last kind) ps)) text)))
        by last (port.Full p) f =
            f (Some p) (with_port (Some p.direction) p.name ports)
            (with_clock inputs (Some p.direction) p.name ports clocks) ∙ front p (full_ports (Some p) ps) ports clocks
        by None (port.Short name value) f = f None ports clocks
        by (Some p) (port.Short name value) f =
            let short : FullPort = record p { name = name; value = value } in
            f (Some short) (with_port (Some p.direction) name ports)
            (with_clock inputs (Some p.direction) name ports clocks) ∙ front short (full_ports (Some short) ps) ports clocks

  pub clocks_are : (ps : List Port) (text : List ℕ)
      → clocks_of inputs None ps (λ text. false) (λ text. false) text
      ≡ is_clock_decl (declared_as (decls (full_ports None ps)) text)
  clocks_are ps text = all_say text ps None (λ text. false) (λ text. false)

-- ---- no item declares the clock

module _ (ss : List Scope) (text : List ℕ) where
  not_clock : (c : Class) → is_clock_class c ≡ false → (xs : List Attribute)
      → is_clock_class (class_of_attributes c xs) ≡ false
  not_clock c h [] = h
  not_clock c h (x ∷ xs) = by (bytes_eq x.name (codes "anyseq")) (bytes_eq x.name (codes "anyconst")) (not_clock c h xs)
    where
      by : (a b : Bool) → is_clock_class (class_of_attributes c xs) ≡ false
          → is_clock_class (if a then class.EachCycle else if b then class.Once else class_of_attributes c xs) ≡ false
      by true b k = refl
      by false true k = refl
      by false false k = k

  kind_no_clock : (kind : NetKind) → is_clock_class (class_of_kind kind) ≡ false
  kind_no_clock net.Wire = refl
  kind_no_clock net.Reg = refl

  before : (ds es : List Decl) → is_clock_decl (declared_as ds text) ≡ false
      → is_clock_decl (declared_as es text) ≡ false → is_clock_decl (declared_as (ds ++ es) text) ≡ false
  before [] es h k = k
  before (d ∷ ds) es h k = by (bytes_eq text d.name) h (λ h. before ds es h k)
    where
      by : (b : Bool) → is_clock_decl (if b then Some d else declared_as ds text) ≡ false
          → (is_clock_decl (declared_as ds text) ≡ false → is_clock_decl (declared_as (ds ++ es) text) ≡ false)
          → is_clock_decl (if b then Some d else declared_as (ds ++ es) text) ≡ false
      by true h f = h
      by false h f = f h

  one_more : (d : Decl) (ds : List Decl) → is_clock_class d.class ≡ false
      → is_clock_decl (declared_as ds text) ≡ false → is_clock_decl (declared_as (d ∷ ds) text) ≡ false
  one_more d ds h k = by (bytes_eq text d.name)
    where
      by : (b : Bool) → is_clock_decl (if b then Some d else declared_as ds text) ≡ false
      by true = h
      by false = k

  names_no_clock : (c : Class) → is_clock_class c ≡ false → (shape : Shape) (xs : List DeclaredName)
      → is_clock_decl (declared_as (declared_names ss c shape xs) text) ≡ false
  names_no_clock c h shape [] = refl
  names_no_clock c h shape (x ∷ xs) =
      one_more (vector ss c false shape x.name x.words) (declared_names ss c shape xs) h
      (names_no_clock c h shape xs)

  integers_no_clock : (c : Class) → is_clock_class c ≡ false → (xs : List DeclaredName)
      → is_clock_decl (declared_as (declared_integers ss c xs) text) ≡ false
  integers_no_clock c h [] = refl
  integers_no_clock c h (x ∷ xs) =
      one_more (integer_decl ss c x) (declared_integers ss c xs) h (integers_no_clock c h xs)

  item_no_clock : (x : Item) → is_clock_decl (declared_as (declared_by ss x) text) ≡ false
  item_no_clock (declaration attrs p d) =
      let all = joined_attributes attrs in
      let kind = class_of_kind d.net in
      names_no_clock (class_of_attributes kind all) (not_clock kind (kind_no_clock d.net) all) d.shape d.names
  item_no_clock (integer attrs p xs) =
      let all = joined_attributes attrs in
      integers_no_clock (class_of_attributes class.Variable all) (not_clock class.Variable refl all) xs
  item_no_clock (genvar attrs p xs) = refl
  item_no_clock (parameter attrs p kind xs) = refl
  item_no_clock (assign attrs p xs) = refl
  item_no_clock (always attrs p event x) = refl
  item_no_clock (initial attrs p x) = refl
  item_no_clock (instance attrs p x) = refl
  item_no_clock (generate attrs p mark) = refl
  item_no_clock (for_loop attrs p head b) = refl
  item_no_clock (if_only attrs p x b) = refl
  item_no_clock (if_else attrs p x b b') = refl

  pub items_no_clock : (xs : Items) → is_clock_decl (declared_as (declared ss xs) text) ≡ false
  items_no_clock no_items = refl
  items_no_clock (more_items x xs) = before (declared_by ss x) (declared ss xs) (item_no_clock x) (items_no_clock xs)

  -- behind ports
  pub ports_clock : (ps : List Decl) (xs : Items)
      → is_clock_decl (declared_as (ps ++ declared ss xs) text) ≡ is_clock_decl (declared_as ps text)
  ports_clock [] xs = items_no_clock xs
  ports_clock (p ∷ ps) xs = by (bytes_eq text p.name) (ports_clock ps xs)
    where
      by : (b : Bool)
          → is_clock_decl (declared_as (ps ++ declared ss xs) text) ≡ is_clock_decl (declared_as ps text)
          → is_clock_decl (if b then Some p else declared_as (ps ++ declared ss xs) text)
          ≡ is_clock_decl (if b then Some p else declared_as ps text)
      by true h = refl
      by false h = h

  -- around a block
  pub block_clock : (xs : Items) (around : List Decl) → is_some (declared_as (declared ss xs) text) ≡ true
      → is_clock_decl (declared_as (declared ss xs ++ around) text) ≡ false
  block_clock xs around h =
      there (declared ss xs) h ∙ items_no_clock xs
    where
      there : (ds : List Decl) → is_some (declared_as ds text) ≡ true
          → is_clock_decl (declared_as (ds ++ around) text) ≡ is_clock_decl (declared_as ds text)
      there [] h = cc
      there (d ∷ ds) h = by (bytes_eq text d.name) h (there ds)
        where
          by : (b : Bool) → is_some (if b then Some d else declared_as ds text) ≡ true
              → (is_some (declared_as ds text) ≡ true
              → is_clock_decl (declared_as (ds ++ around) text) ≡ is_clock_decl (declared_as ds text))
              → is_clock_decl (if b then Some d else declared_as (ds ++ around) text)
              ≡ is_clock_decl (if b then Some d else declared_as ds text)
          by true h f = refl
          by false h f = f h

  pub block_around : (xs : Items) (around : List Decl) → is_some (declared_as (declared ss xs) text) ≡ false
      → declared_as (declared ss xs ++ around) text ≡ declared_as around text
  block_around xs around h = not_there (declared ss xs) h
    where
      not_there : (ds : List Decl) → is_some (declared_as ds text) ≡ false
          → declared_as (ds ++ around) text ≡ declared_as around text
      not_there [] h = refl
      not_there (d ∷ ds) h = by (bytes_eq text d.name) h (not_there ds)
        where
          by : (b : Bool) → is_some (if b then Some d else declared_as ds text) ≡ false
              → (is_some (declared_as ds text) ≡ false → declared_as (ds ++ around) text ≡ declared_as around text)
              → (if b then Some d else declared_as (ds ++ around) text) ≡ declared_as around text
          by true h f = cc
          by false h f = f h
