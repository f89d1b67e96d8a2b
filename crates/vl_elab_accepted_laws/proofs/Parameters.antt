-- Each parameter of a scope in which nothing is refused is a constant.
use Rattle.std.specs.Prelude.{◌≡◌, refl, ℕ, List, [], ◌∷◌, ◌++◌, map, Bool, true, false, ◌||◌, ◌&&◌, not, bytes_eq}
use Rattle.std.specs.Prelude.{Option, Some, None, is_none, if◌then◌else◌, All}
use Rattle.std.proofs.Common.{ap, sym, ◌∙◌, subst, true≢false}
use Rattle.vl_tree.specs.declared.declaration.Parameter.{Parameter}
use Rattle.vl_tree.specs.declared.declaration.ParameterKind.{ParameterKind}
use Rattle.vl_tree.specs.declared.declaration.ParameterKind.TheVariants as k
use Rattle.vl_tree.specs.declared.source.Module.{Module}
use Rattle.vl_tree.specs.DeclarationWellFormed.{IsParameter}
use Rattle.vl_tree.specs.Item.{Item, Items, declaration, integer, genvar, parameter, assign, always, initial}
use Rattle.vl_tree.specs.Item.{instance, generate, for_loop, if_only, if_else, no_items, more_items}
use Rattle.vl_tree.specs.WellFormed.{AreWellFormed}
use Rattle.vl_mean.specs.declared.const_number.Const.{Const}
use Rattle.vl_mean.specs.Cells.{contains_name}
use Rattle.vl_mean.specs.Constants.{constant_of}
use Rattle.vl_mean.specs.Declarations.{Overrides, names_of}
use Rattle.vl_mean.specs.Runs.{Each}
use Rattle.vl_mean.specs.Scopes.{Scope}
use Rattle.vl_mean.specs.Walk.{Contents, Place, parameter_names}
use Rattle.vl_mean_flat.proofs.EachOf.{both, each_map}
use Rattle.vl_elab_spec.specs.declared.elab_fault.ElabFault.{ElabFault}
use Rattle.vl_elab_spec.specs.Expressions.{expr_refusals}
use Rattle.vl_elab_spec.specs.Items.{range_refusals, width_refusals, value_context, parameter_refusals, is_given}
use Rattle.vl_elab_spec.specs.Items.{is_localparam, parameters_refusals, item_refusals}
use Rattle.vl_elab_spec.specs.Meanings.{Meaning, Names, is_undeclared, meaning_of, constant_or, all_later, all_meanings}
use Rattle.vl_elab_spec.specs.Meanings.{is_overridden, is_known_parameter, may_be_selected, parameters_of}
use Rattle.vl_elab_spec.specs.Meanings.{with_parameter_meanings, with_item_constants}
use Rattle.vl_elab_spec.specs.Meanings.{reached}
use Rattle.vl_elab_accepted_laws.proofs.Contained.{Has, Lacks, clash, has-first, has-back, lacks-front, each-has}
use Rattle.vl_elab_accepted_laws.proofs.Fresh.{NoneOf, none-front, none-back, parameters-new, item-new}
use Rattle.vl_elab_accepted_laws.proofs.Plain.{all-each}
use Rattle.vl_elab_scope.specs.Seen.{AllNamed}
use Rattle.vl_elab_accepted_laws.specs.Sized.{AreSound}
use Rattle.vl_elab_accepted_laws.proofs.Entries.{names_in, parameter_list}
use Rattle.vl_elab_accepted_laws.proofs.Level.{own, own_names}
use Rattle.vl_elab_accepted_laws.proofs.Standing.{AreItsConstants, own_meaning}
use Rattle.vl_elab_accepted_laws.proofs.Reached.{AreConstants, IsConstant, AreThere, constant_there, constants_listed}
use Rattle.vl_elab_accepted_laws.proofs.Reached.{constants_there, there_append, AreSoFar, around_now, before}
use Rattle.vl_elab_accepted_laws.proofs.Reached.{AllValued, known_parameter}
use Rattle.vl_elab_accepted_laws.proofs.Reached.{reached_named, reached_sound}

append-list : (xs ys zs : List (List ℕ)) → (xs ++ ys) ++ zs ≡ xs ++ (ys ++ zs)
append-list [] ys zs = refl
append-list (x ∷ xs) ys zs = ap (λ l. x ∷ l) (append-list xs ys zs)

append-none : (xs : List (List ℕ)) → xs ++ [] ≡ xs
append-none [] = refl
append-none (x ∷ xs) = ap (λ l. x ∷ l) (append-none xs)

map-append : (xs ys : Names) → names_in (xs ++ ys) ≡ names_in xs ++ names_in ys
map-append [] ys = refl
map-append (x ∷ xs) ys = ap (λ l. x.0 ∷ l) (map-append xs ys)

has-or : (xs ys : List (List ℕ)) (text : List ℕ) → Has (xs ++ ys) text → Lacks ys text → Has xs text
has-or [] ys text h k = absurd (clash h k)
has-or (x ∷ xs) ys text h k = by (bytes_eq text x) h (has-or xs ys text)
  where
    by : (b : Bool) → (b || contains_name (xs ++ ys) text) ≡ true
        → (Has (xs ++ ys) text → Lacks ys text → Has xs text) → (b || contains_name xs text) ≡ true
    by true h next = refl
    by false h next = next h k

-- of names none of which is there, one that is there is none
not-there : (earlier ns : List (List ℕ)) (text : List ℕ) → Each (Lacks earlier) ns → Has earlier text
    → Lacks ns text
not-there earlier [] text h k = refl
not-there earlier (n ∷ ns) text h k = by (contains_name (n ∷ ns) text) refl
  where
    by : (b : Bool) → contains_name (n ∷ ns) text ≡ b → Lacks (n ∷ ns) text
    by true e = absurd (clash k (each-has (Lacks earlier) (n ∷ ns) text h e))
    by false e = e

-- nothing of the items in a place is refused
abbrev pub ItemsFine : List Module → Place → Items → Type 0
ItemsFine ms at no_items = Unit {0}
ItemsFine ms at (more_items x xs) =
    NoneOf (item_refusals ms at x) × ItemsFine ms (record at { earlier = at.earlier ++ names_of x }) xs

pub fewer : (earlier more ns : List (List ℕ)) → Each (Lacks (earlier ++ more)) ns → Each (Lacks earlier) ns
fewer earlier more ns h = each_map (λ n l. lacks-front earlier more n l) ns h

module _ (ms : List Module) where
  pub parameters_new : (at : Place) (xs : Items) → ItemsFine ms at xs
      → Each (Lacks at.earlier) (parameters_of xs)
  parameters_new at no_items h = tt
  parameters_new at (more_items (parameter attrs p kind ys) xs) h =
      both (Lacks at.earlier) (parameter_names ys) (parameters_of xs) (parameters-new at kind at.earlier ys h.0)
      (fewer at.earlier (parameter_names ys) (parameters_of xs) (parameters_new _ xs h.1))
  parameters_new at (more_items (declaration attrs p d) xs) h =
      fewer at.earlier _ (parameters_of xs) (parameters_new _ xs h.1)
  parameters_new at (more_items (integer attrs p ys) xs) h =
      fewer at.earlier _ (parameters_of xs) (parameters_new _ xs h.1)
  parameters_new at (more_items (genvar attrs p ys) xs) h =
      fewer at.earlier _ (parameters_of xs) (parameters_new _ xs h.1)
  parameters_new at (more_items (assign attrs p ys) xs) h =
      fewer at.earlier _ (parameters_of xs) (parameters_new _ xs h.1)
  parameters_new at (more_items (always attrs p e y) xs) h =
      fewer at.earlier _ (parameters_of xs) (parameters_new _ xs h.1)
  parameters_new at (more_items (initial attrs p y) xs) h =
      fewer at.earlier _ (parameters_of xs) (parameters_new _ xs h.1)
  parameters_new at (more_items (instance attrs p y) xs) h =
      fewer at.earlier _ (parameters_of xs) (parameters_new _ xs h.1)
  parameters_new at (more_items (generate attrs p y) xs) h =
      fewer at.earlier _ (parameters_of xs) (parameters_new _ xs h.1)
  parameters_new at (more_items (for_loop attrs p y b) xs) h =
      fewer at.earlier _ (parameters_of xs) (parameters_new _ xs h.1)
  parameters_new at (more_items (if_only attrs p c b) xs) h =
      fewer at.earlier _ (parameters_of xs) (parameters_new _ xs h.1)
  parameters_new at (more_items (if_else attrs p c b d) xs) h =
      fewer at.earlier _ (parameters_of xs) (parameters_new _ xs h.1)

module _ (s : Scope) (ss : List Scope) (c : Contents) (cs : List Contents) (around : List Scope) (path : List ℕ)
    (names modules : List (List ℕ)) (made : AreItsConstants s c) (outer_named : AllNamed (all_meanings ss cs))
    (outer_sound : AreSound (all_meanings ss cs)) where
  abbrev outer : List Names
  outer = all_meanings ss cs

  -- what is reached of the scopes around
  abbrev beyond : List Names
  beyond = reached cs c.earlier outer

  beyond_named : AllNamed beyond
  beyond_named = reached_named cs c.earlier outer outer_named

  beyond_sound : AreSound beyond
  beyond_sound text = reached_sound cs c.earlier outer text (outer_sound text)

  -- the place behind the names that stand before
  abbrev pub at : List (List ℕ) → Place
  at earlier = record {
    around = around;
    scopes = s ∷ ss;
    contents = c ∷ cs;
    path = path;
    names = names;
    earlier = earlier;
    modules = modules;
  }

  -- the names so far are the first of all parameters
  abbrev Begins : Names → Type 0
  Begins ns = (text : List ℕ) → is_undeclared (meaning_of ns text) ≡ false
      → own_meaning s beyond outer c text ≡ meaning_of ns text

  begins_less : (ns ms : Names) → AreThere ns → Begins (ns ++ ms) → Begins ns
  begins_less ns ms all h text d =
      let same = there_append text ns ms all ∙ ap (λ b. if b then meaning_of ms text else meaning_of ns text) d in
      h text (ap is_undeclared same ∙ d) ∙ same

  there_or : (known : Bool) (o : Option Const) (selected : Bool) → is_undeclared (constant_or known o selected) ≡ false
  there_or true None selected = refl
  there_or true (Some k) selected = refl
  there_or false None selected = refl
  there_or false (Some k) selected = refl

  -- names behind others
  record Grown (ns whole : Names) : Type 0 where
    more : Names
    is : whole ≡ ns ++ more

  append-names : (ns ms ls : Names) → (ns ++ ms) ++ ls ≡ ns ++ (ms ++ ls)
  append-names [] ms ls = refl
  append-names (n ∷ ns) ms ls = ap (λ l. n ∷ l) (append-names ns ms ls)

  none_more : (ns : Names) → ns ≡ ns ++ []
  none_more [] = refl
  none_more (n ∷ ns) = ap (λ l. n ∷ l) (none_more ns)

  grown_twice : (ns ms whole : Names) → Grown (ns ++ ms) whole → Grown ns whole
  grown_twice ns ms whole h = record { more = ms ++ h.more; is = h.is ∙ append-names ns ms h.more }

  begins_so_far : (ns whole : Names) → AreThere ns → Grown ns whole → Begins whole → Begins ns
  begins_so_far ns whole all g h = begins_less ns g.more all (subst Begins g.is h)

  module _ (os : Overrides) where
    abbrev now : Names → Parameter → Meaning
    now ns x = constant_or (is_known_parameter os (around_now s beyond outer c made outer_named outer_sound beyond_named beyond_sound ns) x)
        (constant_of s.constants x.name)
        (may_be_selected (around_now s beyond outer c made outer_named outer_sound beyond_named beyond_sound ns) x.shape.range)

    abbrev with_these : Names → List Parameter → Names
    with_these ns xs = with_parameter_meanings s beyond os (all_later c) ns xs

    grows : (xs : List Parameter) (ns : Names) → Grown ns (with_these ns xs)
    grows [] ns = record { more = []; is = none_more ns }
    grows (x ∷ xs) ns =
        grown_twice ns ((x.name, now ns x) ∷ []) (with_these ns (x ∷ xs))
        (grows xs (ns ++ (x.name, now ns x) ∷ []))

    stays_there : (xs : List Parameter) (ns : Names) → AreThere ns → AreThere (with_these ns xs)
    stays_there [] ns h = h
    stays_there (x ∷ xs) ns h =
        stays_there xs (ns ++ (x.name, now ns x) ∷ [])
        (both (λ n. is_undeclared n.1 ≡ false) ns ((x.name, now ns x) ∷ []) h (
          there_or (is_known_parameter os (around_now s beyond outer c made outer_named outer_sound beyond_named beyond_sound ns) x)
              (constant_of s.constants x.name)
              (may_be_selected (around_now s beyond outer c made outer_named outer_sound beyond_named beyond_sound ns) x.shape.range),
          tt,
        ))

    module _ (kind : ParameterKind)
        (same : (text : List ℕ) → (not (is_localparam kind) && is_overridden c.overrides text) ≡ is_overridden os text)
        (valued : AllValued os)
      where
        parameters_constant : (xs : List Parameter) (ns : Names) (first earlier rest : List (List ℕ)) → AreConstants ns
            → Begins (with_these ns xs) → names_in ns ++ (parameter_names xs ++ rest) ≡ own_names c
            → NoneOf (parameters_refusals (at first) kind earlier xs)
            → Each (Lacks (earlier ++ parameter_names xs)) rest → Each IsParameter xs
            → AreConstants (with_these ns xs)
        parameters_constant [] ns first earlier rest all begins list h lacks w = all
        parameters_constant (x ∷ xs) ns first earlier rest all begins list h lacks w =
            parameters_constant xs (ns ++ (x.name, now ns x) ∷ []) first (earlier ++ x.name ∷ []) rest
            (both (λ n. IsConstant n.1) ns ((x.name, now ns x) ∷ []) all (is_constant, tt)) begins
            (ap (λ l. l ++ (parameter_names xs ++ rest)) (map-append ns ((x.name, now ns x) ∷ []))
            ∙ append-list (names_in ns) (x.name ∷ []) (parameter_names xs ++ rest) ∙ list)
            (none-back here (parameters_refusals (at first) kind (earlier ++ x.name ∷ []) xs) h)
            (subst (λ l. Each (Lacks l) rest) (sym (append-list earlier (x.name ∷ []) (parameter_names xs))) lacks) w.1
          where
            here : List ElabFault
            here = parameter_refusals (at first) (not (is_localparam kind) && is_overridden c.overrides x.name) earlier x

            none_here : NoneOf here
            none_here = none-front here (parameters_refusals (at first) kind (earlier ++ x.name ∷ []) xs) h

            behind : List (List ℕ)
            behind = parameter_names (x ∷ xs) ++ rest

            all_new : Each (Lacks earlier) behind
            all_new =
                both (Lacks earlier) (parameter_names (x ∷ xs)) rest (parameters-new (at first) kind earlier (x ∷ xs) h)
                (fewer earlier (parameter_names (x ∷ xs)) rest lacks)

            so_far : AreSoFar s beyond outer c made outer_named outer_sound beyond_named beyond_sound ns earlier
            so_far = record {
              all = all;
              begin = begins_so_far ns (with_these ns (x ∷ xs)) (constants_there ns all) (grows (x ∷ xs) ns) begins;
              reached = λ text own there.
                  constants_listed text ns all
                  (has-or (names_in ns) behind text (subst (λ l. Has l text) (sym list) own)
                  (not-there earlier behind text all_new there));
            }

            ns_before : List Names
            ns_before = before s beyond outer c made outer_named outer_sound beyond_named beyond_sound earlier

            values : List ElabFault
            values = if not (is_localparam kind) && is_overridden c.overrides x.name then []
                else expr_refusals ns_before true (value_context ns_before x.shape.range x.value) x.value

            known_so : is_known_parameter os (around_now s beyond outer c made outer_named outer_sound beyond_named beyond_sound ns) x ≡ true
            known_so =
                known_parameter s beyond outer c made outer_named outer_sound beyond_named beyond_sound ns earlier so_far os x valued w.0
                (none-back _ (range_refusals ns_before x.shape.range)
                (none-front _ (width_refusals ns_before x.pos x.shape.range) (none-front _ values none_here)))
                (none-back _ (width_refusals ns_before x.pos x.shape.range) (none-front _ values none_here))
                (subst (λ b. NoneOf (if b then []
                else expr_refusals ns_before true (value_context ns_before x.shape.range x.value) x.value))
                (same x.name) (none-back _ values none_here))

            is_constant : IsConstant (now ns x)
            is_constant =
                subst (λ b. IsConstant (constant_or b (constant_of s.constants x.name)
                (may_be_selected (around_now s beyond outer c made outer_named outer_sound beyond_named beyond_sound ns) x.shape.range))) (sym known_so)
                (constant_there (constant_of s.constants x.name)
                (may_be_selected (around_now s beyond outer c made outer_named outer_sound beyond_named beyond_sound ns) x.shape.range)
                (made.there x.name (subst (λ l. Has l x.name) list
                (has-back (names_in ns) behind x.name (has-first x.name (parameter_names xs ++ rest))))))

  -- ---- those of the items

  abbrev with_items : Names → Items → Names
  with_items ns xs = with_item_constants s beyond c.overrides (all_later c) ns xs

  grown_both : (ns ms whole : Names) → Grown ns ms → Grown ms whole → Grown ns whole
  grown_both ns ms whole h k = record {
    more = h.more ++ k.more;
    is = k.is ∙ ap (λ l. l ++ k.more) h.is ∙ append-names ns h.more k.more;
  }

  items_grow : (xs : Items) (ns : Names) → Grown ns (with_items ns xs)
  items_grow no_items ns = record { more = []; is = none_more ns }
  items_grow (more_items (parameter attrs p k.Parameter ys) xs) ns =
      grown_both ns (with_these c.overrides ns ys) (with_items (with_these c.overrides ns ys) xs)
      (grows c.overrides ys ns) (items_grow xs (with_these c.overrides ns ys))
  items_grow (more_items (parameter attrs p k.Localparam ys) xs) ns =
      grown_both ns (with_these [] ns ys) (with_items (with_these [] ns ys) xs) (grows [] ys ns)
      (items_grow xs (with_these [] ns ys))
  items_grow (more_items (declaration attrs p d) xs) ns = items_grow xs ns
  items_grow (more_items (integer attrs p ys) xs) ns = items_grow xs ns
  items_grow (more_items (genvar attrs p ys) xs) ns = items_grow xs ns
  items_grow (more_items (assign attrs p ys) xs) ns = items_grow xs ns
  items_grow (more_items (always attrs p e y) xs) ns = items_grow xs ns
  items_grow (more_items (initial attrs p y) xs) ns = items_grow xs ns
  items_grow (more_items (instance attrs p y) xs) ns = items_grow xs ns
  items_grow (more_items (generate attrs p y) xs) ns = items_grow xs ns
  items_grow (more_items (for_loop attrs p y b) xs) ns = items_grow xs ns
  items_grow (more_items (if_only attrs p e b) xs) ns = items_grow xs ns
  items_grow (more_items (if_else attrs p e b d) xs) ns = items_grow xs ns

  -- those of an item, and then those of the items behind it
  both_constant : (ms : List Module) (os : Overrides) (kind : ParameterKind)
      (same : (text : List ℕ) → (not (is_localparam kind) && is_overridden c.overrides text) ≡ is_overridden os text)
      (valued : AllValued os) (ys : List Parameter) (xs : Items) (ns : Names) (earlier : List (List ℕ)) → AreConstants ns
      → Begins (with_items (with_these os ns ys) xs)
      → names_in ns ++ (parameter_names ys ++ parameters_of xs) ≡ own_names c
      → NoneOf (parameters_refusals (at earlier) kind earlier ys)
      → ItemsFine ms (at (earlier ++ parameter_names ys)) xs → All IsParameter ys
      → (AreConstants (with_these os ns ys) → names_in (with_these os ns ys) ++ parameters_of xs ≡ own_names c
      → AreConstants (with_items (with_these os ns ys) xs))
      → AreConstants (with_items (with_these os ns ys) xs)
  both_constant ms os kind same valued ys xs ns earlier all begins list h fine w next =
      let whole : Names = with_items (with_these os ns ys) xs in
      let there : AreThere (with_these os ns ys) = stays_there os ys ns (constants_there ns all) in
      next
      (parameters_constant os kind same valued ys ns earlier earlier (parameters_of xs) all
      (begins_so_far (with_these os ns ys) whole there (items_grow xs (with_these os ns ys)) begins) list h
      (parameters_new ms (at (earlier ++ parameter_names ys)) xs fine) (all-each IsParameter ys w))
      (ap (λ l. l ++ parameters_of xs) (parameter_list s beyond (all_later c) os ys ns)
      ∙ append-list (names_in ns) (parameter_names ys) (parameters_of xs) ∙ list)

  module _ (valued : AllValued c.overrides) where
    pub items_constant : (ms : List Module) (xs : Items) (ns : Names) (earlier : List (List ℕ)) → AreConstants ns
        → Begins (with_items ns xs) → names_in ns ++ parameters_of xs ≡ own_names c → ItemsFine ms (at earlier) xs
        → AreWellFormed xs → AreConstants (with_items ns xs)
    items_constant ms no_items ns earlier all begins list h w = all
    items_constant ms (more_items (parameter attrs p k.Parameter ys) xs) ns earlier all begins list h w =
        both_constant ms c.overrides k.Parameter (λ text. refl) valued ys xs ns earlier all begins list h.0 h.1 w.0.1.1
        (λ all list. items_constant ms xs (with_these c.overrides ns ys) (earlier ++ parameter_names ys) all begins list
        h.1 w.1)
    items_constant ms (more_items (parameter attrs p k.Localparam ys) xs) ns earlier all begins list h w =
        both_constant ms [] k.Localparam (λ text. refl) tt ys xs ns earlier all begins list h.0 h.1 w.0.1.1
        (λ all list. items_constant ms xs (with_these [] ns ys) (earlier ++ parameter_names ys) all begins list h.1 w.1)
    items_constant ms (more_items (declaration attrs p d) xs) ns earlier all begins list h w =
        items_constant ms xs ns (earlier ++ names_of (declaration attrs p d)) all begins list h.1 w.1
    items_constant ms (more_items (integer attrs p ys) xs) ns earlier all begins list h w =
        items_constant ms xs ns (earlier ++ names_of (integer attrs p ys)) all begins list h.1 w.1
    items_constant ms (more_items (genvar attrs p ys) xs) ns earlier all begins list h w =
        items_constant ms xs ns (earlier ++ names_of (genvar attrs p ys)) all begins list h.1 w.1
    items_constant ms (more_items (assign attrs p ys) xs) ns earlier all begins list h w =
        items_constant ms xs ns (earlier ++ names_of (assign attrs p ys)) all begins list h.1 w.1
    items_constant ms (more_items (always attrs p e y) xs) ns earlier all begins list h w =
        items_constant ms xs ns (earlier ++ names_of (always attrs p e y)) all begins list h.1 w.1
    items_constant ms (more_items (initial attrs p y) xs) ns earlier all begins list h w =
        items_constant ms xs ns (earlier ++ names_of (initial attrs p y)) all begins list h.1 w.1
    items_constant ms (more_items (instance attrs p y) xs) ns earlier all begins list h w =
        items_constant ms xs ns (earlier ++ names_of (instance attrs p y)) all begins list h.1 w.1
    items_constant ms (more_items (generate attrs p y) xs) ns earlier all begins list h w =
        items_constant ms xs ns (earlier ++ names_of (generate attrs p y)) all begins list h.1 w.1
    items_constant ms (more_items (for_loop attrs p y b) xs) ns earlier all begins list h w =
        items_constant ms xs ns (earlier ++ names_of (for_loop attrs p y b)) all begins list h.1 w.1
    items_constant ms (more_items (if_only attrs p e b) xs) ns earlier all begins list h w =
        items_constant ms xs ns (earlier ++ names_of (if_only attrs p e b)) all begins list h.1 w.1
    items_constant ms (more_items (if_else attrs p e b d) xs) ns earlier all begins list h w =
        items_constant ms xs ns (earlier ++ names_of (if_else attrs p e b d)) all begins list h.1 w.1

    -- of a whole scope
    pub all_constant : (ms : List Module) → NoneOf (parameters_refusals (at []) k.Parameter [] c.parameters)
        → (earlier : List (List ℕ)) → Each (Lacks (parameter_names c.parameters)) (parameters_of c.items)
        → ItemsFine ms (at earlier) c.items → Each IsParameter c.parameters → AreWellFormed c.items
        → AreConstants (own s beyond outer c)
    all_constant ms head earlier new h w v =
        let first : Names = with_these c.overrides [] c.parameters in
        let begins : Begins (with_items first c.items) = λ text d. refl in
        let there : AreThere first = stays_there c.overrides c.parameters [] tt in
        let constant : AreConstants first
        = parameters_constant c.overrides k.Parameter (λ text. refl) valued c.parameters [] [] [] (parameters_of c.items) tt
        (begins_so_far first (with_items first c.items) there (items_grow c.items first) begins) refl head new w in
        items_constant ms c.items first earlier constant begins
        (ap (λ l. l ++ parameters_of c.items) (parameter_list s beyond (all_later c) c.overrides c.parameters [])) h v
