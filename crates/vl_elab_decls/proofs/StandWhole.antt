-- Scopes of blocks and modules that are entered.
use Rattle.std.specs.Prelude.{◌≡◌, refl, ℕ, List, [], ◌∷◌, ◌++◌, drop, Bool, true, false, ◌&&◌, is_some}
use Rattle.std.specs.Prelude.{Option, Some, None, if◌then◌else◌}
use Rattle.std.proofs.Common.{ap, sym, ◌∙◌, subst}
use Rattle.std.proofs.lemmas.List.{append-nil}
use Rattle.vl_tree.specs.declared.declaration.HeaderParameter.{HeaderParameter}
use Rattle.vl_tree.specs.declared.declaration.Port.{Port}
use Rattle.vl_tree.specs.declared.source.Module.{Module}
use Rattle.vl_tree.specs.Expr.{Expr}
use Rattle.vl_tree.specs.Item.{Item, Items, items}
use Rattle.vl_size.specs.declared.decl.Decl.{Decl}
use Rattle.vl_size.specs.Table.{declared_as, is_declared}
use Rattle.vl_size.proofs.Entries.{named_declared}
use Rattle.vl_mean.specs.Constants.{constant_of}
use Rattle.vl_mean.specs.Declarations.{Overrides, with_constants, with_items_parameters, declared, declared_ports}
use Rattle.vl_mean.specs.Declarations.{full_ports, ports_of, header_parameters}
use Rattle.vl_mean.specs.Scopes.{Scope, constant_in, declared_in, visible, is_clock_decl, unless_constant}
use Rattle.vl_mean.specs.Scopes.{constant_unless}
use Rattle.vl_mean.specs.Walk.{Contents, Place, Use, block_place, header_of, written_ports, module_scope, module_around}
use Rattle.vl_mean.specs.Walk.{items_contents, module_contents, port_names, top_input}
use Rattle.vl_elab_spec.specs.Meanings.{Names, undeclared, faulty, is_undeclared, meaning_of, meaning_in, value_of}
use Rattle.vl_elab_spec.specs.Meanings.{items_names, port_meanings, items_meanings, scope_meanings, all_meanings}
use Rattle.vl_elab_spec.specs.Meanings.{all_later, meanings_at, meanings_before}
use Rattle.vl_elab_scope.specs.Seen.{innermost, AllNamed}
use Rattle.vl_elab_scope.specs.Alike.{Alike}
use Rattle.vl_elab_const.specs.declared.given.Value.{Value}
use Rattle.vl_elab_const.specs.Given.{IsGiven, known_or, operand_or}
use Rattle.vl_elab_const.specs.Numbers.{HaveNumbers}
use Rattle.vl_elab_params.specs.Among.{contents, constants_of, parameter_meanings, among_parameters}
use Rattle.vl_elab_params.proofs.LaterNames.{all_named}
use Rattle.vl_elab_params.proofs.Listed.{inner_or, inner_assoc, meaning_append, named_append}
use Rattle.vl_elab_params.specs.Own.{AreBehind, AreOwn}
use Rattle.vl_elab_decls.specs.declared.inputs.Inputs.{Inputs}
use Rattle.vl_elab_decls.specs.declared.inputs.Inputs.TheVariants as i
use Rattle.vl_elab_decls.specs.Inputs.{AreInputs}
use Rattle.vl_elab_decls.specs.Shaped.{ArePlain, AreShaped, IsDeclared}
use Rattle.vl_elab_decls.specs.Hidden.{with_hidden_items}
use Rattle.vl_elab_decls.specs.Stands.{Stands}
use Rattle.vl_elab_decls.proofs.PortClocks.{ports_clock, block_clock, block_around}
use Rattle.vl_elab_decls.proofs.Hiding.{all_hidden}
use Rattle.vl_elab_decls.proofs.Stacks.{again}
use Rattle.vl_elab_decls.proofs.Standing.{scope_alike, scope_among, shapes_among, number_by, number_alone, clock_by}
use Rattle.vl_elab_decls.proofs.Standing.{clock_alone}

-- nothing is given
pub nothing_given : (given : List ℕ → Option Value) → ((text : List ℕ) → given text ≡ None) → IsGiven given []
nothing_given given h = record {
  value = λ text x. ap (λ o. operand_or o x) (sym (h text));
  known = λ text b. ap (λ o. known_or o b) (sym (h text));
  there = λ text. ap is_some (sym (h text));
}

-- without any scope
pub nothing_alike : (names : List Names) → names ≡ [] → Alike names []
nothing_alike names e =
    subst (λ ns. Alike ns []) (sym e) (record { named = tt; also_named = tt; meaning = λ text. refl })

pub nothing_numbers : (numbers : List Names) → numbers ≡ [] → HaveNumbers numbers []
nothing_numbers numbers e = subst (λ ns. HaveNumbers ns []) (sym e) (λ text. refl)

-- a block has no ports
abbrev pub block_use : Use
block_use = record { is_top = true; overrides = []; input = top_input }

pub block_inputs : AreInputs i.Top block_use
block_inputs = record { top = refl; stands = λ text. refl }

-- ---- blocks

module _ (at : Place) (path : List ℕ) (xs : Items) where
  abbrev pub block_contents : Contents
  block_contents = items_contents at.earlier xs

  abbrev pub block_scope : Scope
  block_scope =
      let cs = with_items_parameters [] at.scopes [] xs in
      record { path = path; decls = declared (with_constants cs at.scopes) xs; constants = cs }

  abbrev shapes : List Scope
  shapes = with_constants block_scope.constants at.scopes

  -- what is reached where the block stands
  abbrev before : List Names
  before = meanings_before at at.earlier

  -- what its parameters mean, what names mean in its shapes, and what its nets, variables and genvars do
  abbrev pub own_meant : Names
  own_meant = parameter_meanings block_scope before block_contents

  abbrev pub shapes_meant : List Names
  shapes_meant = among_parameters block_scope before (meanings_at at) block_contents

  abbrev pub objects_meant : Names
  objects_meant =
      port_meanings block_scope (meanings_at at) shapes_meant []
      ++ items_meanings block_scope (meanings_at at) shapes_meant xs

  module _ (clocks : List ℕ → Bool) (names numbers : List Names)
      (prior : Stands names numbers clocks (meanings_at at) at.scopes) (own values rest : Names)
      (h : AreOwn own values own_meant block_scope.constants)
      (r : AreShaped rest
      objects_meant
      block_scope.decls) where
    abbrev hidden : Names
    hidden = with_hidden_items values [] xs

    abbrev hides : List ℕ → Bool
    hides text = is_declared block_scope.decls text

    hidden_meaning : (text : List ℕ)
        → meaning_of hidden text
        ≡ (if hides text && is_undeclared (meaning_of values text) then faulty else undeclared)
    hidden_meaning text = (all_hidden values shapes text xs).meaning

    is_there : (b : Bool) (text : List ℕ) → hides text ≡ b → is_some (declared_as block_scope.decls text) ≡ b
    is_there b text e = named_declared block_scope.decls text ∙ e

    pub block_stands : Stands (own ∷ rest ∷ names) (hidden ∷ values ∷ numbers) clocks
        (meanings_at (block_place at path xs)) (block_scope ∷ at.scopes)
    block_stands = record {
      alike =
          scope_alike block_scope before (meanings_at at) block_contents own values rest h r names prior.alike;
      numbers = λ text.
          ap (λ m. value_of (inner_or m (inner_or (meaning_of values text) (meaning_in numbers text))))
          (hidden_meaning text)
          ∙ number_by (meaning_of values text) (meaning_in numbers text) (constant_of block_scope.constants text)
          (constant_in at.scopes text) (hides text) (h.value text) (h.only text) (prior.numbers text);
      among =
          scope_among block_scope before (meanings_at at) block_contents own values rest h r at.scopes prior.among;
      clock = λ text.
          clock_by (meaning_of values text) (meaning_in numbers text) (constant_of block_scope.constants text)
          (constant_in at.scopes text) (hides text) (clocks text)
          (declared_as (block_scope.decls ++ visible at.scopes) text) (declared_as (visible at.scopes) text)
          (h.value text) (h.only text)
          (λ e. block_clock shapes text xs (visible at.scopes) (is_there true text e))
          (λ e. block_around shapes text xs (visible at.scopes) (is_there false text e)) (prior.clock text)
          ∙ ap (λ m. clocks text
          && is_undeclared (inner_or m (inner_or (meaning_of values text) (meaning_in numbers text))))
          (sym (hidden_meaning text));
    }

  -- what its declarations are read over
  pub block_declared : ArePlain (items_names xs) → (clocks : List ℕ → Bool) (names numbers : List Names)
      → Stands names numbers clocks (meanings_at at) at.scopes → (own values : Names)
      → AreOwn own values own_meant block_scope.constants
      → IsDeclared block_scope shapes_meant shapes block_use [] xs
  block_declared p clocks names numbers prior own values h = record {
    decls = refl;
    among = shapes_among block_scope before (meanings_at at) block_contents own values h at.scopes prior.among;
    plain = p;
  }

-- ---- modules

module _ (s : Scope) (u : Use) (ps : List HeaderParameter) (qs : List Port) (xs : List Item) where
  abbrev made : Contents
  made = contents u.overrides ps qs xs

  abbrev over : List Scope
  over = with_constants s.constants []

  abbrev own_ports : List Decl
  own_ports = declared_ports over u.is_top u.input (full_ports None qs)

  module _ (decls : s.decls ≡ own_ports ++ declared over (items xs)) where
    module _ (own values rest : Names) (clocks : List ℕ → Bool)
        (h : AreOwn own values (parameter_meanings s [] made) s.constants)
        (r : AreShaped rest
        (port_meanings s [] (among_parameters s [] [] made) (full_ports None qs)
        ++ items_meanings s [] (among_parameters s [] [] made) (items xs)) s.decls)
        (known : (text : List ℕ) → clocks text ≡ is_clock_decl (declared_as own_ports text)) where
      nothing : Alike [] []
      nothing = record { named = tt; also_named = tt; meaning = λ text. refl }

      pub module_stands : Stands (own ∷ rest ∷ []) ([] ∷ values ∷ []) clocks (scope_meanings s [] [] made ∷ []) (s ∷ [])
      module_stands = record {
        alike = scope_alike s [] [] made own values rest h r [] nothing;
        numbers = λ text.
            number_alone (meaning_of values text) (constant_of s.constants text) (is_declared s.decls text)
            (h.value text);
        among = scope_among s [] [] made own values rest h r [] (λ text c e. e);
        clock = λ text.
            clock_alone (meaning_of values text) (constant_of s.constants text) (is_declared s.decls text)
            (clocks text) (declared_as (s.decls ++ []) text) (h.value text) (h.only text)
            (ap (λ ds. is_clock_decl (declared_as ds text)) (append-nil s.decls ∙ decls)
            ∙ ports_clock over text own_ports (items xs) ∙ sym (known text));
      }

    pub module_declared : ArePlain (port_names (full_ports None qs) ++ items_names (items xs)) → (own values : Names)
        → AreOwn own values (parameter_meanings s [] made) s.constants
        → IsDeclared s (among_parameters s [] [] made) over u (full_ports None qs) (items xs)
    module_declared p own values h = record {
      decls = decls;
      among = shapes_among s [] [] made own values h [] (λ text c e. e);
      plain = p;
    }

-- ---- of a block the parameters, and behind them its other names

module _ (s : Scope) (before outer : List Names) (c : Contents) (one names : List Names) (values : Names)
    (stack : one ≡ innermost one ∷ innermost (drop 1 one) ∷ names)
    (h : AreOwn (innermost one) values (parameter_meanings s before c) s.constants)
    (b : AreBehind (innermost (drop 1 one)) (all_later c)) (prior : Alike names outer) where
  pub parameters_alike : Alike one (among_parameters s before outer c)
  parameters_alike = record {
    named = subst AllNamed (sym stack) (h.own_named, (b.named, prior.named));
    also_named =
        (named_append (parameter_meanings s before c) (all_later c) h.also_named (all_named c), prior.also_named);
    meaning = λ text.
        ap (λ ns. meaning_in ns text) stack
        ∙ (λ i. inner_or (h.meaning text i) (inner_or (b.meaning text i) (prior.meaning text i)))
        ∙ inner_assoc (meaning_of (parameter_meanings s before c) text) (meaning_of (all_later c) text)
        (meaning_in outer text)
        ∙ ap (λ m. inner_or m (meaning_in outer text))
        (sym (meaning_append (parameter_meanings s before c) (all_later c) h.also_named text));
  }

-- ---- from one stack to the next

module _ (at : Place) (path : List ℕ) (xs : Items) (clocks : List ℕ → Bool) (names one two : List Names)
    (numbers first next : List Names) (prior : Stands names numbers clocks (meanings_at at) at.scopes)
    (around : drop 2 one ≡ names) (beneath : drop 1 first ≡ numbers) where
  abbrev s : Scope
  s = block_scope at path xs

  abbrev c : Contents
  c = block_contents at path xs

  module _ (own : AreOwn (innermost one) (innermost first) (own_meant at path xs) s.constants)
      (stack : two ≡ innermost one ∷ innermost (drop 1 two) ∷ drop 2 one)
      (shaped : AreShaped (innermost (drop 1 two))
      (objects_meant at path xs) s.decls)
      (hidden : next ≡ with_hidden_items (innermost first) [] xs ∷ innermost first ∷ drop 1 first) where
    pub block_entered : Stands two next clocks (meanings_at (block_place at path xs)) (s ∷ at.scopes)
    block_entered =
        subst (λ ns. Stands ns next clocks (meanings_at (block_place at path xs)) (s ∷ at.scopes))
        (sym (stack ∙ (λ i. innermost one ∷ innermost (drop 1 two) ∷ around i)))
        (subst (λ ns. Stands (innermost one ∷ innermost (drop 1 two) ∷ names) ns clocks
        (meanings_at (block_place at path xs)) (s ∷ at.scopes))
        (sym (hidden ∙ (λ i. with_hidden_items (innermost first) [] xs ∷ innermost first ∷ beneath i)))
        (block_stands at path xs clocks names numbers prior (innermost one) (innermost first) (innermost (drop 1 two))
        own shaped))

-- numbers that mean the same
renumber : (names numbers others : List Names) (clocks : List ℕ → Bool) (known : List Names) (ss : List Scope)
    → Stands names numbers clocks known ss
    → ((text : List ℕ) → meaning_in others text ≡ meaning_in numbers text) → Stands names others clocks known ss
renumber names numbers others clocks known ss h same = record {
  alike = h.alike;
  numbers = λ text. ap value_of (same text) ∙ h.numbers text;
  among = h.among;
  clock = λ text. h.clock text ∙ ap (λ m. clocks text && is_undeclared m) (sym (same text));
}

module _ (s : Scope) (u : Use) (ps : List HeaderParameter) (qs : List Port) (xs : List Item)
    (decls : s.decls ≡ own_ports s u ps qs xs ++ declared (with_constants s.constants []) (items xs))
    (clocks : List ℕ → Bool) (one two first : List Names) (around : drop 2 one ≡ []) (beneath : drop 1 first ≡ [])
    (own : AreOwn (innermost one) (innermost first) (parameter_meanings s [] (made s u ps qs xs)) s.constants)
    (stack : two ≡ innermost one ∷ innermost (drop 1 two) ∷ drop 2 one)
    (shaped : AreShaped (innermost (drop 1 two))
    (port_meanings s [] (among_parameters s [] [] (made s u ps qs xs)) (full_ports None qs)
    ++ items_meanings s [] (among_parameters s [] [] (made s u ps qs xs)) (items xs)) s.decls)
    (known : (text : List ℕ) → clocks text ≡ is_clock_decl (declared_as (own_ports s u ps qs xs) text)) where
  same_meaning : (text : List ℕ) → meaning_in ([] ∷ first) text ≡ meaning_in ([] ∷ innermost first ∷ []) text
  same_meaning text =
      ap (inner_or undeclared)
      (sym (again first text) ∙ ap (λ ns. meaning_in (innermost first ∷ ns) text) beneath)

  pub module_entered : Stands two ([] ∷ first) clocks (scope_meanings s [] [] (made s u ps qs xs) ∷ []) (s ∷ [])
  module_entered =
      renumber two ([] ∷ innermost first ∷ []) ([] ∷ first) clocks _ _
      (subst (λ ns. Stands ns ([] ∷ innermost first ∷ []) clocks (scope_meanings s [] [] (made s u ps qs xs) ∷ [])
      (s ∷ [])) (sym (stack ∙ (λ i. innermost one ∷ innermost (drop 1 two) ∷ around i)))
      (module_stands s u ps qs xs decls (innermost one) (innermost first) (innermost (drop 1 two)) clocks own shaped
      known)) same_meaning

-- of a module by its parts
module _ (m : Module) (u : Use) (path : List ℕ) (ps : List HeaderParameter) (qs : List Port) (xs : List Item)
    (e : ps ≡ header_of m.parameters) (f : qs ≡ written_ports m.ports) (g : xs ≡ m.items) where
  ports_are : (ps : Option (List Port)) → full_ports None (written_ports ps) ≡ ports_of ps
  ports_are None = refl
  ports_are (Some ps) = refl

  also_ports : full_ports None qs ≡ ports_of m.ports
  also_ports = ap (full_ports None) f ∙ ports_are m.ports

  pub made_is : made (module_scope m u path) u ps qs xs ≡ module_contents m u
  made_is = λ i. record {
    overrides = u.overrides;
    parameters = header_parameters (e i);
    ports = also_ports i;
    items = items (g i);
    earlier = [];
  }

  pub module_constants_are : (module_scope m u path).constants
      ≡ constants_of [] (made (module_scope m u path) u ps qs xs)
  module_constants_are = ap (constants_of []) (sym made_is)

  pub module_decls_are : (module_scope m u path).decls
      ≡ own_ports (module_scope m u path) u ps qs xs
      ++ declared (with_constants (module_scope m u path).constants []) (items xs)
  module_decls_are = λ i.
      declared_ports (module_around m u) u.is_top u.input (sym also_ports i) ++ declared (module_around m u)
      (items (sym g i))

  pub plain_is : ArePlain (port_names (module_contents m u).ports ++ items_names (items m.items))
      → ArePlain (port_names (full_ports None qs) ++ items_names (items xs))
  plain_is p = subst ArePlain (λ i. port_names (sym also_ports i) ++ items_names (items (sym g i))) p
