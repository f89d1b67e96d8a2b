-- Each net and variable of a scope in which nothing is refused has a known shape.
use Rattle.std.specs.Prelude.{◌≡◌, refl, ℕ, ◌≤◌, List, [], ◌∷◌, ◌++◌, map, Bool, true, false, ◌||◌, ◌&&◌, not}
use Rattle.std.specs.Prelude.{Option, Some, None, is_none, if◌then◌else◌, bytes_eq, ℤ}
use Rattle.std.proofs.Common.{ap, sym, ◌∙◌, subst, true≢false, arith}
use Rattle.fv_text.specs.declared.pos.Pos.{Pos}
use Rattle.vl_tree.specs.declared.declaration.DeclaredName.{DeclaredName}
use Rattle.vl_tree.specs.declared.declaration.FullPort.{FullPort}
use Rattle.vl_tree.specs.declared.declaration.NetKind.{NetKind}
use Rattle.vl_tree.specs.declared.declaration.NetKind.TheVariants as net
use Rattle.vl_tree.specs.declared.declaration.Range.{Range}
use Rattle.vl_tree.specs.declared.declaration.Shape.{Shape}
use Rattle.vl_tree.specs.declared.source.Module.{Module}
use Rattle.vl_tree.specs.DeclarationWellFormed.{IsDeclaredName, IsOptionalRange}
use Rattle.vl_tree.specs.Item.{Item, Items, declaration, integer, genvar, parameter, assign, always, initial}
use Rattle.vl_tree.specs.Item.{instance, generate, for_loop, if_only, if_else, no_items, more_items}
use Rattle.vl_tree.specs.WellFormed.{AreWellFormed, IsWellFormed}
use Rattle.vl_size.specs.declared.decl.Class.{Class}
use Rattle.vl_size.specs.declared.decl.Class.TheVariants as class
use Rattle.vl_size.specs.declared.decl.Decl.{Decl}
use Rattle.vl_size.specs.Table.{IsShaped, declared_as, is_declared, span}
use Rattle.vl_mean.specs.declared.const_number.Const.{Const}
use Rattle.vl_mean.specs.Cells.{contains_name}
use Rattle.vl_mean.specs.Constants.{constant_of}
use Rattle.vl_mean.specs.Declarations.{bound_of, vector_bounds, with_constants, class_of_attributes, joined_attributes}
use Rattle.vl_mean.specs.Declarations.{class_of_kind, declared_names, declared_integers, declared_by, declared}
use Rattle.vl_mean.specs.Declarations.{declared_ports, integer_decl, names_of, port_decl, vector}
use Rattle.vl_mean.specs.Runs.{Each}
use Rattle.vl_mean.specs.Scopes.{Scope, constant_in, constant_unless}
use Rattle.vl_mean.specs.Walk.{Contents, Place, port_names}
use Rattle.vl_mean_flat.proofs.EachOf.{both, each_map}
use Rattle.vl_elab_spec.specs.declared.elab_fault.ElabFault.{ElabFault}
use Rattle.vl_elab_spec.specs.declared.elab_fault.ElabFault.TheVariants as f
use Rattle.vl_elab_spec.specs.declared.role.Role.{Role}
use Rattle.vl_elab_spec.specs.declared.role.Role.TheVariants as roles
use Rattle.vl_elab_spec.specs.Expressions.{refused_if}
use Rattle.vl_elab_spec.specs.Items.{twice, placed_names, range_refusals, width_refusals, name_refusals, names_refusals}
use Rattle.vl_elab_spec.specs.Items.{declared_value, item_refusals}
use Rattle.vl_elab_spec.specs.Meanings.{Meaning, undeclared, constant, loop_variable, object, faulty, shapeless, later}
use Rattle.vl_elab_spec.specs.Meanings.{Names, is_undeclared, meaning_of, meaning_in, value_of, constants, object_or}
use Rattle.vl_elab_spec.specs.Meanings.{all_meanings, is_known_range, is_known_shape, declared_width, may_have_words}
use Rattle.vl_elab_spec.specs.Meanings.{port_meanings, name_meanings, item_meanings, items_meanings, role_of_kind}
use Rattle.vl_elab_spec.specs.Meanings.{role_of_port}
use Rattle.vl_elab_spec.specs.Meanings.{reached}
use Rattle.vl_elab_accepted_laws.proofs.Contained.{Has, Lacks, clash, or_right, text_same, has-front, has-back}
use Rattle.vl_elab_accepted_laws.proofs.Contained.{lacks-front}
use Rattle.vl_elab_accepted_laws.proofs.Fresh.{NoneOf, none-front, none-back, not-refused}
use Rattle.vl_elab_accepted_laws.proofs.Plain.{all-each}
use Rattle.vl_elab_scope.specs.Seen.{AllNamed}
use Rattle.vl_elab_accepted_laws.specs.Sized.{IsSound, AreSound}
use Rattle.vl_elab_spec.specs.Among.{AreAmong}
use Rattle.vl_elab_spec.proofs.Stays.{known_bound}
use Rattle.vl_elab_accepted_laws.specs.Means.{MeansIn, AreMeant}
use Rattle.vl_elab_accepted_laws.proofs.Entries.{FoundMeans, names_in, object_names, port_list}
use Rattle.vl_elab_accepted_laws.proofs.Level.{own, ports, objects, own_parameters, others, own_names, other_names}
use Rattle.vl_elab_accepted_laws.proofs.Level.{entry_found}
use Rattle.vl_elab_accepted_laws.proofs.Level.{level_named, append_meaning, around as around_own}
use Rattle.vl_elab_accepted_laws.specs.Joined.{IsObject}
use Rattle.vl_elab_accepted_laws.proofs.Constants.{IsNarrow, shape_known, shape_there, range_known, range_there}
use Rattle.vl_elab_accepted_laws.proofs.Constants.{first_true}
use Rattle.vl_elab_accepted_laws.proofs.Constants.{second_true}
use Rattle.vl_elab_accepted_laws.proofs.Standing.{AreItsConstants, Standing, named_own, named_other, not_named}
use Rattle.vl_elab_accepted_laws.proofs.Standing.{standing, level}
use Rattle.vl_elab_accepted_laws.proofs.Standing.{own_meaning, other_meaning, each_found}
use Rattle.vl_elab_accepted_laws.proofs.Reached.{AreConstants, IsConstant, AreThere, there_append, behind_sure}
use Rattle.vl_elab_accepted_laws.proofs.Reached.{behind_among}
use Rattle.vl_elab_accepted_laws.proofs.Reached.{reached_named, reached_sound}
use Rattle.vl_elab_accepted_laws.proofs.Reached.{inner_meaning, outer_meaning, no_value}
use Rattle.vl_elab_accepted_laws.proofs.Parameters.{ItemsFine, at}

-- ---- declared names

pub declares_front : (ds es : List Decl) (text : List ℕ) → is_declared ds text ≡ true → is_declared (ds ++ es) text ≡ true
declares_front [] es text h = absurd (true≢false (sym h))
declares_front (d ∷ ds) es text h = by (bytes_eq text d.name) h (declares_front ds es text)
  where
    by : (b : Bool) → (b || is_declared ds text) ≡ true → (is_declared ds text ≡ true → is_declared (ds ++ es) text ≡ true)
        → (b || is_declared (ds ++ es) text) ≡ true
    by true h next = refl
    by false h next = next h

pub declares_back : (ds es : List Decl) (text : List ℕ) → is_declared es text ≡ true → is_declared (ds ++ es) text ≡ true
declares_back [] es text h = h
declares_back (d ∷ ds) es text h =
    or_right (bytes_eq text d.name) (is_declared (ds ++ es) text) (declares_back ds es text h)

declared_here : (d : Decl) (ds : List Decl) (text : List ℕ) → text ≡ d.name → is_declared (d ∷ ds) text ≡ true
declared_here d ds text e = ap (λ b. b || is_declared ds text) (text_same text d.name e)

found_declared : (ds : List Decl) (text : List ℕ) → is_declared ds text ≡ true → is_none (declared_as ds text) ≡ false
found_declared [] text h = absurd (true≢false (sym h))
found_declared (d ∷ ds) text h = by (bytes_eq text d.name) h (found_declared ds text)
  where
    by : (b : Bool) → (b || is_declared ds text) ≡ true
        → (is_declared ds text ≡ true → is_none (declared_as ds text) ≡ false)
        → is_none (if b then Some d else declared_as ds text) ≡ false
    by true h next = refl
    by false h next = next h

found_shaped : (ds : List Decl) (text : List ℕ) (d : Decl) → Each IsShaped ds → declared_as ds text ≡ Some d → IsShaped d
found_shaped [] text d h e = cc
found_shaped (x ∷ ds) text d h e = by (bytes_eq text x.name) e (found_shaped ds text d h.1)
  where
    same : Some x ≡ Some d → x ≡ d
    same e = cc

    by : (b : Bool) → (if b then Some x else declared_as ds text) ≡ Some d
        → (declared_as ds text ≡ Some d → IsShaped d) → IsShaped d
    by true e next = subst IsShaped (same e) h.0
    by false e next = next e

-- each of the ports, or of the names, is declared
abbrev pub ListsPorts : List Decl → List FullPort → Type 0
ListsPorts ds ps = Each (λ p. is_declared ds p.name ≡ true) ps

abbrev pub ListsNames : List Decl → List DeclaredName → Type 0
ListsNames ds xs = Each (λ x. is_declared ds x.name ≡ true) xs

-- the second declares what the first does
abbrev pub Declares : List Decl → List Decl → Type 0
Declares ds es = (text : List ℕ) → is_declared ds text ≡ true → is_declared es text ≡ true

one_more : (d : Decl) (ds : List Decl) → Declares ds (d ∷ ds)
one_more d ds text h = or_right (bytes_eq text d.name) (is_declared ds text) h

pub lists_ports : (ds es : List Decl) → Declares ds es → (ps : List FullPort) → ListsPorts ds ps → ListsPorts es ps
lists_ports ds es f [] h = tt
lists_ports ds es f (p ∷ ps) h = (f p.name h.0, lists_ports ds es f ps h.1)

lists_names : (ds es : List Decl) → Declares ds es → (xs : List DeclaredName) → ListsNames ds xs → ListsNames es xs
lists_names ds es f [] h = tt
lists_names ds es f (x ∷ xs) h = (f x.name h.0, lists_names ds es f xs h.1)

-- a net or a variable with its shape
pub record IsShapedObject (m : Meaning) : Type 0 where
  pub is_object : IsObject m
  pub is_sound : IsSound m

abbrev pub AreSoundNames : Names → Type 0
AreSoundNames ns = Each (λ n. IsSound n.1) ns

object_shaped : (known : Bool) (o : Option Decl) (role : Role) (scalar : Bool) → known ≡ true → is_none o ≡ false
    → ((d : Decl) → o ≡ Some d → IsShaped d) → IsShapedObject (object_or known o role scalar)
object_shaped true (Some d) role scalar e h s = record { is_object = tt; is_sound = s d refl }
object_shaped true None role scalar e h s = absurd (true≢false h)
object_shaped false o role scalar e h s = absurd (true≢false (sym e))

sound_constant : (m : Meaning) → IsConstant m → IsSound m
sound_constant undeclared h = absurd h
sound_constant (constant c selected) h = tt
sound_constant loop_variable h = absurd h
sound_constant (object d role scalar) h = absurd h
sound_constant faulty h = absurd h
sound_constant shapeless h = absurd h
sound_constant later h = absurd h

found_constant : (s : Scope) (text : List ℕ) (m : Meaning) (k : Const) → FoundMeans s text m → value_of m ≡ Some k
    → constant_of s.constants text ≡ Some k
found_constant s text undeclared k h e = cc
found_constant s text (constant c selected) k h e = h ∙ e
found_constant s text loop_variable k h e = cc
found_constant s text (object d role scalar) k h e = cc
found_constant s text faulty k h e = cc
found_constant s text shapeless k h e = cc
found_constant s text later k h e = cc

meant_constant : (ss : List Scope) (text : List ℕ) (m : Meaning) (k : Const) → MeansIn ss text m
    → value_of m ≡ Some k → constant_in ss text ≡ Some k
meant_constant ss text undeclared k h e = cc
meant_constant ss text (constant c selected) k h e = h ∙ e
meant_constant ss text loop_variable k h e = cc
meant_constant ss text (object d role scalar) k h e = cc
meant_constant ss text faulty k h e = cc
meant_constant ss text shapeless k h e = cc
meant_constant ss text later k h e = cc

declared_object : (m : Meaning) → IsObject m → is_undeclared m ≡ false
declared_object undeclared h = absurd h
declared_object (constant c selected) h = refl
declared_object loop_variable h = refl
declared_object (object d role scalar) h = refl
declared_object faulty h = refl
declared_object shapeless h = refl
declared_object later h = refl

objects_there : (ns : Names) → Each (λ n. IsShapedObject n.1) ns → AreThere ns
objects_there ns h = each_map (λ n k. declared_object n.1 k.is_object) ns h

pub objects_sound : (ns : Names) → Each (λ n. IsShapedObject n.1) ns → AreSoundNames ns
objects_sound [] h = tt
objects_sound (n ∷ ns) h = (h.0.is_sound, objects_sound ns h.1)

objects_listed : (text : List ℕ) (ns : Names) → Each (λ n. IsShapedObject n.1) ns
    → contains_name (names_in ns) text ≡ true → is_undeclared (meaning_of ns text) ≡ false
objects_listed text [] h k = absurd (true≢false (sym k))
objects_listed text (n ∷ ns) h k = by (bytes_eq text n.0) k (objects_listed text ns h.1)
  where
    by : (b : Bool) → (b || contains_name (names_in ns) text) ≡ true
        → (contains_name (names_in ns) text ≡ true → is_undeclared (meaning_of ns text) ≡ false)
        → is_undeclared (if b then n.1 else meaning_of ns text) ≡ false
    by true k next = declared_object n.1 h.0.is_object
    by false k next = next k

-- ---- one scope

module _ (s : Scope) (ss : List Scope) (c : Contents) (cs : List Contents) (around : List Scope) (path : List ℕ)
    (names modules : List (List ℕ)) (made : AreItsConstants s c) (outer_named : AllNamed (all_meanings ss cs))
    (outer_sound : AreSound (all_meanings ss cs)) (meant : AreMeant (all_meanings ss cs) ss)
    (all : AreConstants (own s (reached cs c.earlier (all_meanings ss cs)) (all_meanings ss cs) c)) where
  abbrev outer : List Names
  outer = all_meanings ss cs

  -- what is reached of the scopes around
  abbrev beyond : List Names
  beyond = reached cs c.earlier outer

  beyond_named : AllNamed beyond
  beyond_named = reached_named cs c.earlier outer outer_named

  beyond_sound : AreSound beyond
  beyond_sound text = reached_sound cs c.earlier outer text (outer_sound text)

  abbrev ns : List Names
  ns = level s beyond outer c ∷ outer

  abbrev pub place : List (List ℕ) → Place
  place earlier = at s ss c cs around path names modules made outer_named outer_sound earlier

  -- over which the bounds of its declarations are read
  abbrev bounds : List Scope
  bounds = with_constants s.constants ss

  abbrev known_names : List Names
  known_names = around_own s beyond outer c

  among_known : AreAmong (constants ns) (constants known_names)
  among_known = behind_among s beyond outer c made outer_named outer_sound beyond_named beyond_sound all

  named : AllNamed ns
  named = (level_named s beyond outer c, outer_named)

  pub among_bounds : AreAmong (constants ns) (constant_in bounds)
  among_bounds text k h = by (standing s beyond outer c made text)
    where
      by : Standing s beyond outer c text
          → constant_unless (constant_of s.constants text) false (constant_in ss text) ≡ Some k
      by (named_own is_own d is) =
          let e = inner_meaning (meaning_of (level s beyond outer c) text) (own_meaning s beyond outer c text)
          (meaning_in outer text) is d in
          ap (λ o. constant_unless o false (constant_in ss text))
          (found_constant s text (own_meaning s beyond outer c text) k
          (entry_found s text (own s beyond outer c) (own_parameters s beyond outer c).entries) (sym (ap value_of e) ∙ h))
      by (named_other is_own d is_thing is) =
          let e = inner_meaning (meaning_of (level s beyond outer c) text) (other_meaning s beyond outer c text)
          (meaning_in outer text) is d in
          absurd (no_value (other_meaning s beyond outer c text) k is_thing (sym (ap value_of e) ∙ h))
      by (not_named is_own other d is) =
          let e = outer_meaning (meaning_of (level s beyond outer c) text) (meaning_in outer text) is in
          ap (λ o. constant_unless o false (constant_in ss text)) (made.alone text is_own)
          ∙ meant_constant ss text (meaning_in outer text) k (meant text) (sym (ap value_of e) ∙ h)

  -- ---- shapes

  pub shape_read : (p : Pos) (r : Option Range) → IsOptionalRange r → NoneOf (range_refusals ns r)
      → NoneOf (width_refusals ns p r) → IsNarrow ns r
  shape_read p r w h k = shape_known ns named (behind_sure s beyond outer c made outer_named outer_sound beyond_named beyond_sound all) p r w h k

  pub shape_so : (r : Option Range) → IsNarrow ns r → is_known_shape known_names r ≡ true
  shape_so r h =
      shape_there ns named (behind_sure s beyond outer c made outer_named outer_sound beyond_named beyond_sound all) known_names among_known r h

  width_is : (r : Option Range) → is_known_range ns r ≡ true
      → span (vector_bounds bounds r).0 (vector_bounds bounds r).1 ≡ declared_width ns r
  width_is None h = refl
  width_is (Some r) h =
      let left = first_true _ _ (first_true _ _ h) in
      let right = first_true _ _ (second_true _ _ h) in
      λ i. span (sym (known_bound ns (constant_in bounds) among_bounds r.left left) i)
      (sym (known_bound ns (constant_in bounds) among_bounds r.right right) i)

  vector_shaped : (k : Class) (shape : Shape) (text : List ℕ) (words : Option Range) (output : Bool)
      → IsNarrow ns shape.range → IsShaped (vector bounds k output shape text words)
  vector_shaped k shape text words output h =
      let few = h.few in
      let is = width_is shape.range h.known_so in
      record {
        some_bits = omega arith;
        few_bits = subst (λ n. n ≤ 128) (sym is) few;
        spans = refl;
      }

  integer_shaped : (k : Class) (x : DeclaredName) → IsShaped (integer_decl bounds k x)
  integer_shaped k x = record { some_bits = omega arith; few_bits = omega arith; spans = refl }

  -- ---- what is declared

  pub ports_shaped : (top : Bool) (input : List ℕ → Class) (ps : List FullPort)
      → Each (λ p. IsNarrow ns p.shape.range) ps → Each IsShaped (declared_ports bounds top input ps)
  ports_shaped top input [] h = tt
  ports_shaped top input (p ∷ ps) h =
      (vector_shaped _ p.shape p.name None _ h.0, ports_shaped top input ps h.1)

  pub ports_declared : (top : Bool) (input : List ℕ → Class) (ps : List FullPort)
      → ListsPorts (declared_ports bounds top input ps) ps
  ports_declared top input [] = tt
  ports_declared top input (p ∷ ps) = (
    declared_here (port_decl bounds top input p) (declared_ports bounds top input ps) p.name refl,
    lists_ports (declared_ports bounds top input ps) (declared_ports bounds top input (p ∷ ps))
        (one_more (port_decl bounds top input p) (declared_ports bounds top input ps)) ps (ports_declared top input ps),
  )

  vectors_declared : (k : Class) (shape : Shape) (xs : List DeclaredName)
      → ListsNames (declared_names bounds k shape xs) xs
  vectors_declared k shape [] = tt
  vectors_declared k shape (x ∷ xs) = (
    declared_here (vector bounds k false shape x.name x.words) (declared_names bounds k shape xs) x.name refl,
    lists_names (declared_names bounds k shape xs) (declared_names bounds k shape (x ∷ xs))
        (one_more (vector bounds k false shape x.name x.words) (declared_names bounds k shape xs)) xs
        (vectors_declared k shape xs),
  )

  integers_declared : (k : Class) (xs : List DeclaredName) → ListsNames (declared_integers bounds k xs) xs
  integers_declared k [] = tt
  integers_declared k (x ∷ xs) = (
    declared_here (integer_decl bounds k x) (declared_integers bounds k xs) x.name refl,
    lists_names (declared_integers bounds k xs) (declared_integers bounds k (x ∷ xs))
        (one_more (integer_decl bounds k x) (declared_integers bounds k xs)) xs (integers_declared k xs),
  )

  -- ---- names that an item declares

  -- of a name that isn't refused
  record IsFineName (shape : Option Range) (x : DeclaredName) (k : Class) : Type 0 where
    narrow : IsNarrow ns shape
    words : is_known_range known_names x.words ≡ true
    may : may_have_words k x.words x.value ≡ true

  allowed : (b : Bool) (g : ElabFault) → NoneOf (refused_if (not b) g) → b ≡ true
  allowed true g h = refl
  allowed false g h = absurd (true≢false (not-refused true g h))

  fine_names : (kind : NetKind) (k : Class) (shape : Option Range) (xs : List DeclaredName) → IsOptionalRange shape
      → NoneOf (range_refusals ns shape) → Each IsDeclaredName xs → NoneOf (names_refusals ns kind k shape xs)
      → Each (λ x. IsFineName shape x k) xs
  fine_names kind k shape [] wr r w h = tt
  fine_names kind k shape (x ∷ xs) wr r w h =
      let here = none-front (name_refusals ns kind k shape x) (names_refusals ns kind k shape xs) h in
      let front = none-front _ (declared_value ns x.pos kind x.name x.words x.value) here in
      let sizes = none-front (range_refusals ns x.words ++ width_refusals ns x.pos shape) _ front in (
        record {
          narrow = shape_read x.pos shape wr r
              (none-back (range_refusals ns x.words) (width_refusals ns x.pos shape) sizes);
          words = range_there ns named (behind_sure s beyond outer c made outer_named outer_sound beyond_named beyond_sound all) known_names among_known
              x.words (range_known ns named (behind_sure s beyond outer c made outer_named outer_sound beyond_named beyond_sound all) x.words w.0.1
              (none-front (range_refusals ns x.words) (width_refusals ns x.pos shape) sizes));
          may = allowed (may_have_words k x.words x.value) _
              (none-back (range_refusals ns x.words ++ width_refusals ns x.pos shape) _ front);
        },
        fine_names kind k shape xs wr r w.1
            (none-back (name_refusals ns kind k shape x) (names_refusals ns kind k shape xs) h),
      )

  vectors_shaped : (k : Class) (shape : Shape) (xs : List DeclaredName) → Each (λ x. IsFineName shape.range x k) xs
      → Each IsShaped (declared_names bounds k shape xs)
  vectors_shaped k shape [] h = tt
  vectors_shaped k shape (x ∷ xs) h =
      (vector_shaped k shape x.name x.words false h.0.narrow, vectors_shaped k shape xs h.1)

  integers_shaped : (k : Class) (xs : List DeclaredName) → Each IsShaped (declared_integers bounds k xs)
  integers_shaped k [] = tt
  integers_shaped k (x ∷ xs) = (integer_shaped k x, integers_shaped k xs)

  module _ (ms : List Module) where
    pub items_shaped : (xs : Items) (earlier : List (List ℕ)) → AreWellFormed xs → ItemsFine ms (place earlier) xs
        → Each IsShaped (declared bounds xs)
    items_shaped no_items earlier w h = tt
    items_shaped (more_items (declaration attrs p d) xs) earlier w h =
        let front = none-front _ (names_refusals ns d.net
        (class_of_attributes (class_of_kind d.net) (joined_attributes attrs)) d.shape.range d.names) h.0 in
        both IsShaped (declared_by bounds (declaration attrs p d)) (declared bounds xs)
        (vectors_shaped (class_of_attributes (class_of_kind d.net) (joined_attributes attrs)) d.shape d.names
        (fine_names d.net (class_of_attributes (class_of_kind d.net) (joined_attributes attrs)) d.shape.range d.names
        w.0.1.0 (none-back _ (range_refusals ns d.shape.range) front) (all-each IsDeclaredName d.names w.0.1.1.1)
        (none-back _ (names_refusals ns d.net
        (class_of_attributes (class_of_kind d.net) (joined_attributes attrs)) d.shape.range d.names) h.0)))
        (items_shaped xs (earlier ++ names_of (declaration attrs p d)) w.1 h.1)
    items_shaped (more_items (integer attrs p ys) xs) earlier w h =
        both IsShaped (declared_by bounds (integer attrs p ys)) (declared bounds xs)
        (integers_shaped (class_of_attributes class.Variable (joined_attributes attrs)) ys)
        (items_shaped xs (earlier ++ names_of (integer attrs p ys)) w.1 h.1)
    items_shaped (more_items (genvar attrs p ys) xs) earlier w h = items_shaped xs (earlier ++ names_of (genvar attrs p ys)) w.1 h.1
    items_shaped (more_items (parameter attrs p kind ys) xs) earlier w h = items_shaped xs (earlier ++ names_of (parameter attrs p kind ys)) w.1 h.1
    items_shaped (more_items (assign attrs p ys) xs) earlier w h = items_shaped xs (earlier ++ names_of (assign attrs p ys)) w.1 h.1
    items_shaped (more_items (always attrs p e y) xs) earlier w h = items_shaped xs (earlier ++ names_of (always attrs p e y)) w.1 h.1
    items_shaped (more_items (initial attrs p y) xs) earlier w h = items_shaped xs (earlier ++ names_of (initial attrs p y)) w.1 h.1
    items_shaped (more_items (instance attrs p y) xs) earlier w h = items_shaped xs (earlier ++ names_of (instance attrs p y)) w.1 h.1
    items_shaped (more_items (generate attrs p y) xs) earlier w h = items_shaped xs (earlier ++ names_of (generate attrs p y)) w.1 h.1
    items_shaped (more_items (for_loop attrs p y b) xs) earlier w h = items_shaped xs (earlier ++ names_of (for_loop attrs p y b)) w.1 h.1
    items_shaped (more_items (if_only attrs p e b) xs) earlier w h = items_shaped xs (earlier ++ names_of (if_only attrs p e b)) w.1 h.1
    items_shaped (more_items (if_else attrs p e b d) xs) earlier w h = items_shaped xs (earlier ++ names_of (if_else attrs p e b d)) w.1 h.1

    -- ---- what they mean

    module _ (ds : List Decl) (is : s.decls ≡ ds) (shaped : Each IsShaped ds) where
      object_so : (known : Bool) (text : List ℕ) (role : Role) (scalar : Bool) → known ≡ true
          → is_declared ds text ≡ true
          → IsShapedObject (object_or known (declared_as s.decls text) role scalar)
      object_so known text role scalar e h =
          object_shaped known (declared_as s.decls text) role scalar e
          (ap (λ l. is_none (declared_as l text)) is ∙ found_declared ds text h)
          (λ d k. found_shaped ds text d shaped (ap (λ l. declared_as l text) (sym is) ∙ k))

      pub ports_sound : (ps : List FullPort) → Each (λ p. IsNarrow ns p.shape.range) ps
          → Each (λ p. is_declared ds p.name ≡ true) ps
          → Each (λ n. IsShapedObject n.1) (port_meanings s outer known_names ps)
      ports_sound [] n h = tt
      ports_sound (p ∷ ps) n h = (
        object_so (is_known_shape known_names p.shape.range) p.name (role_of_port p.direction p.net)
            (is_none p.shape.range)
            (shape_so p.shape.range n.0) h.0,
        ports_sound ps n.1 h.1,
      )

      names_sound : (k : Class) (role : Role) (known scalar : Bool) (shape : Option Range) (xs : List DeclaredName)
          → (is_known_shape known_names shape ≡ true → known ≡ true) → Each (λ x. IsFineName shape x k) xs
          → Each (λ x. is_declared ds x.name ≡ true) xs
          → Each (λ n. IsSound n.1) (name_meanings s outer known_names k role known scalar xs)
      names_sound k role known scalar shape [] e n h = tt
      names_sound k role known scalar shape (x ∷ xs) e n h =
          let whole = e (shape_so shape n.0.narrow) in
          let words = n.0.words in
          let may = n.0.may in (
            (object_so (known && (is_known_range known_names x.words && may_have_words k x.words x.value)) x.name role
                scalar (λ i. whole i && (words i && may i)) h.0).is_sound,
            names_sound k role known scalar shape xs e n.1 h.1,
          )

      genvars_sound : (xs : List (List ℕ)) → AreSoundNames (map (λ text. (text, loop_variable)) xs)
      genvars_sound [] = tt
      genvars_sound (x ∷ xs) = (tt, genvars_sound xs)

      pub items_sound : (xs : Items) (earlier : List (List ℕ)) → AreWellFormed xs → ItemsFine ms (place earlier) xs
          → Declares (declared bounds xs) ds
          → Each (λ n. IsSound n.1) (items_meanings s outer known_names xs)
      items_sound no_items earlier w h f = tt
      items_sound (more_items (declaration attrs p d) xs) earlier w h f =
          let k = class_of_attributes (class_of_kind d.net) (joined_attributes attrs) in
          let names = names_refusals ns d.net k d.shape.range d.names in
          let front = none-front _ names h.0 in
          both (λ n. IsSound n.1) (item_meanings s outer known_names (declaration attrs p d))
          (items_meanings s outer known_names xs)
          (names_sound k (role_of_kind d.net) (is_known_shape known_names d.shape.range) (is_none d.shape.range)
          d.shape.range d.names
          (λ e. e) (fine_names d.net k d.shape.range d.names w.0.1.0
          (none-back _ (range_refusals ns d.shape.range) front) (all-each IsDeclaredName d.names w.0.1.1.1)
          (none-back _ names h.0))
          (lists_names (declared_names bounds k d.shape d.names) ds
          (λ text l. f text (declares_front (declared_names bounds k d.shape d.names) (declared bounds xs) text l))
          d.names (vectors_declared k d.shape d.names)))
          (items_sound xs (earlier ++ names_of (declaration attrs p d)) w.1 h.1
          (λ text l. f text (declares_back (declared_names bounds k d.shape d.names) (declared bounds xs) text l)))
      items_sound (more_items (integer attrs p ys) xs) earlier w h f =
          let k = class_of_attributes class.Variable (joined_attributes attrs) in
          let names = names_refusals ns net.Reg k None ys in
          both (λ n. IsSound n.1) (item_meanings s outer known_names (integer attrs p ys))
          (items_meanings s outer known_names xs)
          (names_sound k roles.Variable true false None ys (λ e. refl)
          (fine_names net.Reg k None ys tt refl (all-each IsDeclaredName ys w.0.1.1) (none-back _ names h.0))
          (lists_names (declared_integers bounds k ys) ds
          (λ text l. f text (declares_front (declared_integers bounds k ys) (declared bounds xs) text l)) ys
          (integers_declared k ys)))
          (items_sound xs (earlier ++ names_of (integer attrs p ys)) w.1 h.1
          (λ text l. f text (declares_back (declared_integers bounds k ys) (declared bounds xs) text l)))
      items_sound (more_items (genvar attrs p ys) xs) earlier w h f =
          both (λ n. IsSound n.1) (item_meanings s outer known_names (genvar attrs p ys))
          (items_meanings s outer known_names xs)
          (genvars_sound ys) (items_sound xs (earlier ++ names_of (genvar attrs p ys)) w.1 h.1 f)
      items_sound (more_items (parameter attrs p kind ys) xs) earlier w h f = items_sound xs (earlier ++ names_of (parameter attrs p kind ys)) w.1 h.1 f
      items_sound (more_items (assign attrs p ys) xs) earlier w h f = items_sound xs (earlier ++ names_of (assign attrs p ys)) w.1 h.1 f
      items_sound (more_items (always attrs p e y) xs) earlier w h f = items_sound xs (earlier ++ names_of (always attrs p e y)) w.1 h.1 f
      items_sound (more_items (initial attrs p y) xs) earlier w h f = items_sound xs (earlier ++ names_of (initial attrs p y)) w.1 h.1 f
      items_sound (more_items (instance attrs p y) xs) earlier w h f = items_sound xs (earlier ++ names_of (instance attrs p y)) w.1 h.1 f
      items_sound (more_items (generate attrs p y) xs) earlier w h f = items_sound xs (earlier ++ names_of (generate attrs p y)) w.1 h.1 f
      items_sound (more_items (for_loop attrs p y b) xs) earlier w h f = items_sound xs (earlier ++ names_of (for_loop attrs p y b)) w.1 h.1 f
      items_sound (more_items (if_only attrs p e b) xs) earlier w h f = items_sound xs (earlier ++ names_of (if_only attrs p e b)) w.1 h.1 f
      items_sound (more_items (if_else attrs p e b d) xs) earlier w h f = items_sound xs (earlier ++ names_of (if_else attrs p e b d)) w.1 h.1 f

  -- ---- the whole scope

  module _ (sound : Each (λ n. IsSound n.1) (ports s beyond outer c ++ objects s beyond outer c)) where
    pub scope_sound : AreSound ns
    scope_sound text = by (standing s beyond outer c made text)
      where
        by : Standing s beyond outer c text → IsSound (meaning_in ns text)
        by (named_own is_own d is) =
            subst IsSound (sym (inner_meaning (meaning_of (level s beyond outer c) text) (own_meaning s beyond outer c text)
            (meaning_in outer text) is d))
            (sound_constant (own_meaning s beyond outer c text) (each_found IsConstant text (own s beyond outer c) all d))
        by (named_other is_own d is_thing is) =
            subst IsSound (sym (inner_meaning (meaning_of (level s beyond outer c) text) (other_meaning s beyond outer c text)
            (meaning_in outer text) is d))
            (each_found IsSound text (ports s beyond outer c ++ objects s beyond outer c) sound d)
        by (not_named is_own other d is) =
            subst IsSound (sym (outer_meaning (meaning_of (level s beyond outer c) text) (meaning_in outer text) is))
            (outer_sound text)

  -- a port that no parameter has the name of
  pub port_object : Each (λ n. IsShapedObject n.1) (ports s beyond outer c) → (text : List ℕ) → Has (port_names c.ports) text
      → Lacks (own_names c) text → IsObject (meaning_in ns text)
  port_object sound text h l = by (standing s beyond outer c made text)
    where
      listed_port : is_undeclared (meaning_of (ports s beyond outer c) text) ≡ false
      listed_port =
          objects_listed text (ports s beyond outer c) sound
          (ap (λ l. contains_name l text) (port_list s outer [] known_names c.ports) ∙ h)

      first_port : other_meaning s beyond outer c text ≡ meaning_of (ports s beyond outer c) text
      first_port =
          there_append text (ports s beyond outer c) (objects s beyond outer c) (objects_there (ports s beyond outer c) sound)
          ∙ ap (λ b. if b then meaning_of (objects s beyond outer c) text else meaning_of (ports s beyond outer c) text) listed_port

      by : Standing s beyond outer c text → IsObject (meaning_in ns text)
      by (named_own is_own d is) = absurd (clash is_own l)
      by (named_other is_own d is_thing is) =
          subst IsObject (sym first_port ∙ sym (inner_meaning (meaning_of (level s beyond outer c) text)
          (other_meaning s beyond outer c text) (meaning_in outer text) is d))
          (each_found IsShapedObject text (ports s beyond outer c) sound listed_port).is_object
      by (not_named is_own other d is) =
          absurd (clash (has-front (port_names c.ports) (object_names c.items) text h) other)
