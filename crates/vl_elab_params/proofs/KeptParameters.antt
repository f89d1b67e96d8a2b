-- Parameters, one behind the other, mean what the definitions say of them.
use Rattle.std.specs.Prelude.{◌≡◌, refl, ℕ, List, [], ◌∷◌, ◌++◌, Bool, true, false, ◌&&◌, bytes_eq, is_none}
use Rattle.std.specs.Prelude.{nat_le, int_le, pos, Option, Some, None, if◌then◌else◌}
use Rattle.std.proofs.Common.{ap, sym, ◌∙◌, subst}
use Rattle.std.proofs.lemmas.Slice.Eq.{bytes_eq-Decides}
use Rattle.vl_tree.specs.declared.declaration.Parameter.{Parameter}
use Rattle.vl_tree.specs.declared.declaration.ParameterKind.TheVariants as k
use Rattle.vl_tree.specs.declared.declaration.Range.{Range}
use Rattle.vl_tree.specs.Expr.{Expr}
use Rattle.vl_tree.specs.Item.{
  Items,
  declaration,
  integer,
  genvar,
  parameter,
  assign,
  always,
  initial,
  instance,
  generate,
  for_loop,
  if_only,
  if_else,
  no_items,
  more_items,
}
use Rattle.vl_size.specs.Divisors.{larger}
use Rattle.vl_size.specs.Sign.{sign}
use Rattle.vl_size.specs.Size.{size}
use Rattle.vl_mean.specs.declared.const_number.Const.{Const}
use Rattle.vl_mean.specs.Constants.{Constants, constant_of}
use Rattle.vl_mean.specs.Declarations as d
use Rattle.vl_mean.specs.Declarations.{Overrides, is_value_or, parameter_value, with_constants}
use Rattle.vl_mean.specs.Scopes.{Scope, constant_in, constant_unless}
use Rattle.vl_elab_spec.specs.Meanings as m
use Rattle.vl_elab_spec.specs.Meanings.{Meaning, undeclared, constant, loop_variable, object, faulty, shapeless, later}
use Rattle.vl_elab_spec.specs.Meanings.{Names}
use Rattle.vl_elab_spec.specs.Meanings.{is_undeclared, meaning_of, meaning_in, value_of, is_known_in, is_known_value}
use Rattle.vl_elab_spec.specs.Meanings.{is_known_shape, may_be_selected, constant_or, with_parameter_meanings}
use Rattle.vl_elab_spec.specs.Meanings.{with_item_constants}
use Rattle.vl_elab_scope.specs.Seen.{IsNamed, AreNamed, with_name}
use Rattle.vl_elab_scope.specs.Alike.{Alike}
use Rattle.vl_elab_scope.proofs.Items.{same_known_range, same_declared_width}
use Rattle.vl_elab_scope.proofs.Sizes.{same_known, same_is_known, same_bound}
use Rattle.vl_elab_const.specs.declared.given.Value.{Value}
use Rattle.vl_elab_const.specs.Given.{IsGiven}
use Rattle.vl_elab_const.specs.Numbers.{HaveNumbers, parameter_number}
use Rattle.vl_elab_const.proofs.Values.{number_is}
use Rattle.vl_elab_params.specs.Entered.{Stacks, stacks, constant_if, is_known_parameter, selected_if_known}
use Rattle.vl_elab_params.specs.Entered.{with_parameters, none_given, with_items}
use Rattle.vl_elab_params.proofs.Listed.{inner_or, inner_assoc, named_only, meaning_append, named_append, meaning_with}
use Rattle.vl_elab_params.proofs.Listed.{named_with}
use Rattle.vl_elab_params.proofs.Listed.{constant_else, constant_append, kept_constant}

-- ---- what is known over names that mean the same

module _ (ns ms : List Names) (h : Alike ns ms) where
  same_value : (r : Option Range) (e : Expr) → is_known_value ns r e ≡ is_known_value ms r e
  same_value None e = same_is_known ns ms h e
  same_value (Some r) e =
      λ i. let x = same_known ns ms h e i in
      is_known_in (record {
        size = larger (Some (same_declared_width ns ms h (Some r) i)) (size [] x);
        signed = sign [] x;
      }) x

  pub same_shape : (r : Option Range) → is_known_shape ns r ≡ is_known_shape ms r
  same_shape r = λ i. same_known_range ns ms h r i && nat_le (same_declared_width ns ms h r i) 128

  same_selected : (r : Option Range) → may_be_selected ns r ≡ may_be_selected ms r
  same_selected None = refl
  same_selected (Some r) =
      λ i. int_le (pos 0) (same_bound ns ms h r.left i) && int_le (same_bound ns ms h r.right i) (pos 0)
      && int_le (pos 0) (same_bound ns ms h r.right i)

  same_parameter : (given : List ℕ → Option Value) (os : Overrides) → IsGiven given os → (x : Parameter)
      → is_known_parameter given ns x ≡ m.is_known_parameter os ms x
  same_parameter given os g x =
      (λ i. sym (g.known x.name (is_known_value ns x.shape.range x.value)) i && is_known_shape ns x.shape.range)
      ∙ (λ i. is_value_or os x.name (same_value x.shape.range x.value i) && same_shape x.shape.range i)

-- a `localparam`
nothing_given : IsGiven none_given []
nothing_given = record { value = λ text x. refl; known = λ text b. refl; there = λ text. refl }

-- ---- meanings and numbers

value_unless : (a b : Meaning) (o c : Option Const) → value_of a ≡ o → is_undeclared a ≡ is_none o → value_of b ≡ c
    → value_of (inner_or a b) ≡ constant_unless o false c
value_unless undeclared b None c h k e = e
value_unless undeclared b (Some x) c h k e = cc
value_unless (constant y selected) b None c h k e = cc
value_unless (constant y selected) b (Some x) c h k e = h
value_unless loop_variable b None c h k e = cc
value_unless loop_variable b (Some x) c h k e = cc
value_unless (object y role scalar) b None c h k e = cc
value_unless (object y role scalar) b (Some x) c h k e = cc
value_unless faulty b None c h k e = cc
value_unless shapeless b None c h k e = cc
value_unless faulty b (Some x) c h k e = cc
value_unless shapeless b (Some x) c h k e = cc
value_unless later b None c h k e = cc
value_unless later b (Some x) c h k e = cc

or_known : (known : Bool) (c : Const) (selected : Bool)
    → constant_if c (if known then Some selected else None) ≡ constant_or known (Some c) selected
or_known true c selected = refl
or_known false c selected = refl

if_named : (text : List ℕ) (c : Const) (o : Option Bool) → IsNamed (text, constant_if c o)
if_named text c None = tt
if_named text c (Some selected) = tt

or_there : (known : Bool) (o : Option Const) (selected : Bool) → is_undeclared (constant_or known o selected) ≡ false
or_there true None selected = refl
or_there true (Some c) selected = refl
or_there false None selected = refl
or_there false (Some c) selected = refl

or_named : (text : List ℕ) (known : Bool) (o : Option Const) (selected : Bool)
    → IsNamed (text, constant_or known o selected)
or_named text true None selected = tt
or_named text true (Some c) selected = tt
or_named text false None selected = tt
or_named text false (Some c) selected = tt

is_none_of : (o : Option Const) → is_none o ≡ true → o ≡ None
is_none_of None h = refl
is_none_of (Some c) h = cc

-- of two names one of which is declared
there_with : (a : Meaning) (o : Option Const) (b : Bool) (m : Meaning) (c : Const) → is_undeclared a ≡ is_none o
    → is_undeclared m ≡ false
    → is_undeclared (inner_or a (if b then m else undeclared))
    ≡ is_none (constant_else o (if b then Some c else None))
there_with undeclared None true m c h k = k
there_with undeclared None false m c h k = refl
there_with undeclared (Some x) b m c h k = cc
there_with (constant y selected) None b m c h k = cc
there_with (constant y selected) (Some x) b m c h k = refl
there_with loop_variable None b m c h k = cc
there_with loop_variable (Some x) b m c h k = refl
there_with (object y role scalar) None b m c h k = cc
there_with (object y role scalar) (Some x) b m c h k = refl
there_with faulty None b m c h k = cc
there_with shapeless None b m c h k = cc
there_with faulty (Some x) b m c h k = refl
there_with shapeless (Some x) b m c h k = refl
there_with later None b m c h k = cc
there_with later (Some x) b m c h k = refl

value_with : (a : Meaning) (o : Option Const) (b : Bool) (c c' : Const) → value_of a ≡ o → is_undeclared a ≡ is_none o
    → c ≡ c'
    → value_of (inner_or a (if b then constant c true else undeclared))
    ≡ constant_else o (if b then Some c' else None)
value_with undeclared None true c c' h k e = ap Some e
value_with undeclared None false c c' h k e = refl
value_with undeclared (Some x) b c c' h k e = cc
value_with (constant y selected) None b c c' h k e = cc
value_with (constant y selected) (Some x) b c c' h k e = h
value_with loop_variable None b c c' h k e = cc
value_with loop_variable (Some x) b c c' h k e = cc
value_with (object y role scalar) None b c c' h k e = cc
value_with (object y role scalar) (Some x) b c c' h k e = cc
value_with faulty None b c c' h k e = cc
value_with shapeless None b c c' h k e = cc
value_with faulty (Some x) b c c' h k e = cc
value_with shapeless (Some x) b c c' h k e = cc
value_with later None b c c' h k e = cc
value_with later (Some x) b c c' h k e = cc

-- ---- a scope behind whose parameters the names `behind` stand, kept as `later_names`, within other scopes

module _ (s : Scope) (behind later_names : Names) (outer around numbers : List Names) (ss : List Scope)
    (same_behind : (text : List ℕ) → meaning_of later_names text ≡ meaning_of behind text)
    (named_later : AreNamed later_names) (named_behind : AreNamed behind) (same_outer : Alike around outer)
    (same_numbers : HaveNumbers numbers ss) where
  -- the names that are kept, and their numbers, are those of the definitions
  pub record AreKept (own values ns : Names) (cs : Constants) : Type 0 where
    pub own_named : AreNamed own
    pub also_named : AreNamed ns
    pub values_named : AreNamed values
    pub meaning : (text : List ℕ) → meaning_of own text ≡ meaning_of ns text
    pub there : (text : List ℕ) → is_undeclared (meaning_of ns text) ≡ is_none (constant_of cs text)
    pub value : (text : List ℕ) → value_of (meaning_of values text) ≡ constant_of cs text
    pub only : (text : List ℕ) → is_undeclared (meaning_of values text) ≡ is_none (constant_of cs text)

  none_kept : AreKept [] [] [] []
  none_kept = record {
    own_named = tt;
    also_named = tt;
    values_named = tt;
    meaning = λ text. refl;
    there = λ text. refl;
    value = λ text. refl;
    only = λ text. refl;
  }

  module _ (own values ns : Names) (cs : Constants) (h : AreKept own values ns cs) where
    pub kept_alike : Alike (own ∷ later_names ∷ around) ((ns ++ behind) ∷ outer)
    kept_alike = record {
      named = (h.own_named, (named_later, same_outer.named));
      also_named = (named_append ns behind h.also_named named_behind, same_outer.also_named);
      meaning = λ text.
          (λ i. inner_or (h.meaning text i) (inner_or (same_behind text i) (same_outer.meaning text i)))
          ∙ inner_assoc (meaning_of ns text) (meaning_of behind text) (meaning_in outer text)
          ∙ ap (λ n. inner_or n (meaning_in outer text)) (sym (meaning_append ns behind h.also_named text));
    }

    pub kept_numbers : HaveNumbers (values ∷ numbers) (with_constants cs ss)
    kept_numbers text =
        value_unless (meaning_of values text) (meaning_in numbers text) (constant_of cs text) (constant_in ss text)
        (h.value text) (h.only text) (same_numbers text)

    module _ (given : List ℕ → Option Value) (os : Overrides) (g : IsGiven given os) (x : Parameter)
        (all : (text : List ℕ) (c : Const)
        → constant_of (cs ++ (x.name, parameter_value os (with_constants cs ss) x) ∷ []) text ≡ Some c
        → constant_of s.constants text ≡ Some c) where
      abbrev kept_number : Const
      kept_number = parameter_number (values ∷ numbers) given x

      abbrev number : Const
      number = parameter_value os (with_constants cs ss) x

      abbrev here : List Names
      here = (ns ++ behind) ∷ outer

      abbrev kept_meaning : Meaning
      kept_meaning = constant_if kept_number (selected_if_known given (own ∷ later_names ∷ around) x)

      abbrev meant : Meaning
      meant = constant_or (m.is_known_parameter os here x) (constant_of s.constants x.name)
          (may_be_selected here x.shape.range)

      same_number : kept_number ≡ number
      same_number = number_is (values ∷ numbers) (with_constants cs ss) kept_numbers given os g x

      own_number : is_undeclared (meaning_of ns x.name) ≡ true → constant_of s.constants x.name ≡ Some number
      own_number e =
          all x.name number (constant_append cs ((x.name, number) ∷ []) x.name
          ∙ (λ i. constant_else (is_none_of (constant_of cs x.name) (sym (h.there x.name) ∙ e) i)
          (if (bytes_eq-Decides x.name x.name).1 refl i then Some number else None)))

      same_meaning : is_undeclared (meaning_of ns x.name) ≡ true → kept_meaning ≡ meant
      same_meaning e =
          (λ i. constant_if (same_number i)
          (if same_parameter (own ∷ later_names ∷ around) here kept_alike given os g x i
          then Some (same_selected (own ∷ later_names ∷ around) here kept_alike x.shape.range i) else None))
          ∙ or_known (m.is_known_parameter os here x) number (may_be_selected here x.shape.range)
          ∙ ap (λ o. constant_or (m.is_known_parameter os here x) o (may_be_selected here x.shape.range))
          (sym (own_number e))

      only_name : (text : List ℕ)
          → inner_or (meaning_of ns text) (named_only x.name kept_meaning text)
          ≡ inner_or (meaning_of ns text) (named_only x.name meant text)
      only_name text = by (bytes_eq text x.name) refl (is_undeclared (meaning_of ns text)) refl
        where
          by : (b : Bool) → bytes_eq text x.name ≡ b → (t : Bool) → is_undeclared (meaning_of ns text) ≡ t
              → (if t then (if b then kept_meaning else undeclared) else meaning_of ns text)
              ≡ (if t then (if b then meant else undeclared) else meaning_of ns text)
          by true e true k =
              same_meaning (ap (λ t. is_undeclared (meaning_of ns t)) (sym ((bytes_eq-Decides text x.name).0 e)) ∙ k)
          by true e false k = refl
          by false e true k = refl
          by false e false k = refl

      pub kept_next : AreKept (with_name own x.name kept_meaning)
          (with_name values x.name (constant kept_number true)) (ns ++ (x.name, meant) ∷ [])
          (cs ++ (x.name, number) ∷ [])
      kept_next =
          let known = m.is_known_parameter os here x in
          let selected = may_be_selected here x.shape.range in
          let found = constant_of s.constants x.name in
          record {
            own_named = named_with own x.name kept_meaning h.own_named (if_named x.name kept_number
                (selected_if_known given (own ∷ later_names ∷ around) x));
            also_named = named_append ns ((x.name, meant) ∷ []) h.also_named
                (or_named x.name known found selected, tt);
            values_named = named_with values x.name (constant kept_number true) h.values_named tt;
            meaning = λ text.
                meaning_with own x.name kept_meaning h.own_named text
                ∙ ap (λ n. inner_or n (named_only x.name kept_meaning text)) (h.meaning text) ∙ only_name text
                ∙ sym (meaning_append ns ((x.name, meant) ∷ []) h.also_named text);
            there = λ text.
                ap is_undeclared (meaning_append ns ((x.name, meant) ∷ []) h.also_named text)
                ∙ there_with (meaning_of ns text) (constant_of cs text) (bytes_eq text x.name) meant number
                (h.there text) (or_there known found selected)
                ∙ ap is_none (sym (constant_append cs ((x.name, number) ∷ []) text));
            value = λ text.
                ap value_of (meaning_with values x.name (constant kept_number true) h.values_named text)
                ∙ value_with (meaning_of values text) (constant_of cs text) (bytes_eq text x.name) kept_number number
                (h.value text) (h.only text) same_number
                ∙ sym (constant_append cs ((x.name, number) ∷ []) text);
            only = λ text.
                ap is_undeclared (meaning_with values x.name (constant kept_number true) h.values_named text)
                ∙ there_with (meaning_of values text) (constant_of cs text) (bytes_eq text x.name)
                (constant kept_number true) number (h.only text) refl
                ∙ ap is_none (sym (constant_append cs ((x.name, number) ∷ []) text));
          }

  -- ---- all of them

  -- a constant stays what it is behind others
  pub parameters_keep : (os : Overrides) (cs : Constants) (xs : List Parameter) (text : List ℕ) (c : Const)
      → constant_of cs text ≡ Some c → constant_of (d.with_parameters os ss cs xs) text ≡ Some c
  parameters_keep os cs [] text c e = e
  parameters_keep os cs (x ∷ xs) text c e =
      let more = (x.name, parameter_value os (with_constants cs ss) x) ∷ [] in
      parameters_keep os (cs ++ more) xs text c
      (constant_append cs more text ∙ kept_constant (constant_of cs text) (constant_of more text) c e)

  items_keep : (os : Overrides) (cs : Constants) (xs : Items) (text : List ℕ) (c : Const)
      → constant_of cs text ≡ Some c → constant_of (d.with_items_parameters os ss cs xs) text ≡ Some c
  items_keep os cs no_items text c e = e
  items_keep os cs (more_items (parameter attrs p k.Parameter xs) more) text c e =
      items_keep os (d.with_parameters os ss cs xs) more text c (parameters_keep os cs xs text c e)
  items_keep os cs (more_items (parameter attrs p k.Localparam xs) more) text c e =
      items_keep os (d.with_parameters [] ss cs xs) more text c (parameters_keep [] cs xs text c e)
  items_keep os cs (more_items (declaration attrs p x) more) text c e = items_keep os cs more text c e
  items_keep os cs (more_items (integer attrs p xs) more) text c e = items_keep os cs more text c e
  items_keep os cs (more_items (genvar attrs p xs) more) text c e = items_keep os cs more text c e
  items_keep os cs (more_items (assign attrs p xs) more) text c e = items_keep os cs more text c e
  items_keep os cs (more_items (always attrs p event x) more) text c e = items_keep os cs more text c e
  items_keep os cs (more_items (initial attrs p x) more) text c e = items_keep os cs more text c e
  items_keep os cs (more_items (instance attrs p x) more) text c e = items_keep os cs more text c e
  items_keep os cs (more_items (generate attrs p mark) more) text c e = items_keep os cs more text c e
  items_keep os cs (more_items (for_loop attrs p head b) more) text c e = items_keep os cs more text c e
  items_keep os cs (more_items (if_only attrs p x b) more) text c e = items_keep os cs more text c e
  items_keep os cs (more_items (if_else attrs p x b b') more) text c e = items_keep os cs more text c e

  abbrev AreAll : Constants → Type 0
  AreAll cs = (text : List ℕ) (c : Const) → constant_of cs text ≡ Some c → constant_of s.constants text ≡ Some c

  -- what comes of the stacks
  abbrev pub Kept : Stacks → Names → Constants → Type 0
  Kept t ns cs = (own values : Names)
      × (t ≡ stacks (own ∷ later_names ∷ around) (values ∷ numbers))
      × AreKept own values ns cs

  kept_names : (t : Stacks) (ns : Names) (cs : Constants) → Kept t ns cs → Alike t.names ((ns ++ behind) ∷ outer)
  kept_names t ns cs h =
      subst (λ t. Alike t.names ((ns ++ behind) ∷ outer)) (sym h.2) (kept_alike h.0 h.1 ns cs h.3)

  kept_values : (t : Stacks) (ns : Names) (cs : Constants) → Kept t ns cs
      → HaveNumbers t.numbers (with_constants cs ss)
  kept_values t ns cs h =
      subst (λ t. HaveNumbers t.numbers (with_constants cs ss)) (sym h.2) (kept_numbers h.0 h.1 ns cs h.3)

  parameters_kept : (given : List ℕ → Option Value) (os : Overrides) → IsGiven given os → (xs : List Parameter)
      (own values ns : Names) (cs : Constants) → AreKept own values ns cs → AreAll (d.with_parameters os ss cs xs)
      → Kept (with_parameters given (stacks (own ∷ later_names ∷ around) (values ∷ numbers)) xs)
      (with_parameter_meanings s outer os behind ns xs) (d.with_parameters os ss cs xs)
  parameters_kept given os g [] own values ns cs h all = (own, values, refl, h)
  parameters_kept given os g (x ∷ xs) own values ns cs h all =
      let more = (x.name, parameter_value os (with_constants cs ss) x) ∷ [] in
      parameters_kept given os g xs _ _ _ (cs ++ more) (kept_next own values ns cs h given os g x
      (λ text c e. all text c (parameters_keep os (cs ++ more) xs text c e))) all

  module _ (given : List ℕ → Option Value) (os : Overrides) (g : IsGiven given os) where
    -- behind parameters of an item
    behind_item : (t : Stacks) (ns : Names) (cs : Constants) (more : Items) → Kept t ns cs
        → ((own values : Names) → AreKept own values ns cs
        → Kept (with_items given (stacks (own ∷ later_names ∷ around) (values ∷ numbers)) more)
        (with_item_constants s outer os behind ns more) (d.with_items_parameters os ss cs more))
        → Kept (with_items given t more) (with_item_constants s outer os behind ns more)
        (d.with_items_parameters os ss cs more)
    behind_item t ns cs more h f =
        subst (λ t. Kept (with_items given t more) (with_item_constants s outer os behind ns more)
        (d.with_items_parameters os ss cs more)) (sym h.2) (f h.0 h.1 h.3)

    pub items_kept : (xs : Items) (own values ns : Names) (cs : Constants) → AreKept own values ns cs
        → AreAll (d.with_items_parameters os ss cs xs)
        → Kept (with_items given (stacks (own ∷ later_names ∷ around) (values ∷ numbers)) xs)
        (with_item_constants s outer os behind ns xs) (d.with_items_parameters os ss cs xs)
    items_kept no_items own values ns cs h all = (own, values, refl, h)
    items_kept (more_items (parameter attrs p k.Parameter xs) more) own values ns cs h all =
        let next = d.with_parameters os ss cs xs in
        behind_item _ _ next more (parameters_kept given os g xs own values ns cs h
        (λ text c e. all text c (items_keep os next more text c e)))
        (λ own values k. items_kept more own values _ next k all)
    items_kept (more_items (parameter attrs p k.Localparam xs) more) own values ns cs h all =
        let next = d.with_parameters [] ss cs xs in
        behind_item _ _ next more (parameters_kept none_given [] nothing_given xs own values ns cs h
        (λ text c e. all text c (items_keep os next more text c e)))
        (λ own values k. items_kept more own values _ next k all)
    items_kept (more_items (declaration attrs p x) more) own values ns cs h all =
        items_kept more own values ns cs h all
    items_kept (more_items (integer attrs p xs) more) own values ns cs h all = items_kept more own values ns cs h all
    items_kept (more_items (genvar attrs p xs) more) own values ns cs h all = items_kept more own values ns cs h all
    items_kept (more_items (assign attrs p xs) more) own values ns cs h all = items_kept more own values ns cs h all
    items_kept (more_items (always attrs p event x) more) own values ns cs h all =
        items_kept more own values ns cs h all
    items_kept (more_items (initial attrs p x) more) own values ns cs h all =
        items_kept more own values ns cs h all
    items_kept (more_items (instance attrs p x) more) own values ns cs h all =
        items_kept more own values ns cs h all
    items_kept (more_items (generate attrs p mark) more) own values ns cs h all =
        items_kept more own values ns cs h all
    items_kept (more_items (for_loop attrs p head b) more) own values ns cs h all =
        items_kept more own values ns cs h all
    items_kept (more_items (if_only attrs p x b) more) own values ns cs h all =
        items_kept more own values ns cs h all
    items_kept (more_items (if_else attrs p x b b') more) own values ns cs h all =
        items_kept more own values ns cs h all

    pub all_kept : (ps : List Parameter) (xs : Items)
        → s.constants ≡ d.with_items_parameters os ss (d.with_parameters os ss [] ps) xs
        → Kept (with_items given (with_parameters given (stacks ([] ∷ later_names ∷ around) ([] ∷ numbers)) ps) xs)
        (with_item_constants s outer os behind (with_parameter_meanings s outer os behind [] ps) xs)
        (d.with_items_parameters os ss (d.with_parameters os ss [] ps) xs)
    all_kept ps xs same =
        let first = d.with_parameters os ss [] ps in
        let all : AreAll (d.with_items_parameters os ss first xs) = λ text c e.
        ap (λ cs. constant_of cs text) same ∙ e in
        behind_item _ _ first xs (parameters_kept given os g ps [] [] [] [] none_kept
        (λ text c e. all text c (items_keep os first xs text c e)))
        (λ own values k. items_kept xs own values _ first k all)

    -- the whole
    module _ (ps : List Parameter) (xs : Items)
        (same : s.constants ≡ d.with_items_parameters os ss (d.with_parameters os ss [] ps) xs) where
      abbrev whole : Stacks
      whole = with_items given (with_parameters given (stacks ([] ∷ later_names ∷ around) ([] ∷ numbers)) ps) xs

      pub all_alike : Alike whole.names ((with_item_constants s outer os behind
          (with_parameter_meanings s outer os behind [] ps) xs ++ behind) ∷ outer)
      all_alike = kept_names whole _ _ (all_kept ps xs same)

      pub all_numbers : HaveNumbers whole.numbers (with_constants s.constants ss)
      all_numbers =
          subst (λ cs. HaveNumbers whole.numbers (with_constants cs ss)) (sym same)
          (kept_values whole _ _ (all_kept ps xs same))
