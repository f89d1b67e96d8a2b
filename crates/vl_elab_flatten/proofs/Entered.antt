-- A module that is opened.
use Rattle.std.specs.Prelude.{◌≡◌, refl, ℕ, List, [], ◌∷◌, ◌++◌, drop, map, Bool, Option, Some, None}
use Rattle.std.proofs.Common.{ap, sym, ◌∙◌, subst, append_assoc}
use Rattle.vl_tree.specs.declared.declaration.FullPort.{FullPort}
use Rattle.vl_tree.specs.declared.declaration.HeaderParameter.{HeaderParameter}
use Rattle.vl_tree.specs.declared.declaration.Port.{Port}
use Rattle.vl_tree.specs.declared.source.Module.{Module}
use Rattle.vl_tree.specs.Expr.{Expr}
use Rattle.vl_tree.specs.Item.{Items, items}
use Rattle.vl_size.specs.declared.decl.Class.{Class}
use Rattle.vl_size.specs.declared.decl.Decl.{Decl}
use Rattle.vl_size.specs.Table.{AreDifferent, IsPlain}
use Rattle.vl_mean.specs.Constants.{Constants}
use Rattle.vl_mean.specs.Declarations.{all_names, declared, declared_ports, full_ports, header_parameters}
use Rattle.vl_mean.specs.Declarations.{ports_of, with_constants, with_items_parameters, with_parameters}
use Rattle.vl_mean.specs.Runs.{Each}
use Rattle.vl_mean.specs.Scopes.{Scope}
use Rattle.vl_mean.specs.Walk.{Use, header_of, module_scope, parameter_names, port_names, written_ports}
use Rattle.vl_elab_spec.specs.Meanings.{Names}
use Rattle.vl_elab_scope.specs.Seen.{innermost}
use Rattle.vl_elab_draft.specs.Kept.{empty_scope}
use Rattle.vl_elab_const.specs.declared.given.Value.{Value}
use Rattle.vl_elab_const.specs.Given.{IsGiven}
use Rattle.vl_elab_const.specs.Numbers.{HaveNumbers}
use Rattle.vl_mean_flat.proofs.EachOf.{back, front}
use Rattle.vl_elab_decls.specs.declared.inputs.Inputs.{Inputs}
use Rattle.vl_elab_decls.specs.Inputs.{AreInputs}
use Rattle.vl_elab_const.specs.Openable.{Different, IsInRange, IsOpenable, constant_names, items_constants}
use Rattle.vl_elab_flatten.specs.declared.modules.Contents.{Contents}
use Rattle.vl_elab_flatten.specs.declared.modules.Opened.{Opened}
use Rattle.vl_elab_flatten.specs.Levels.{Adds, HasConstants, constants_level, hidden, with_decls}
use Rattle.vl_elab_flatten.specs.Modules.{
  AreFilled,
  AreRead,
  CanFill,
  CanOpen,
  IsModuleOpenable,
  IsModuleOpened,
  IsOpened,
  all_constants,
  around_with,
  constants_with,
  decls_with,
  names_with,
  ports_with,
  scope_with,
  with_all_parameters,
}
use Rattle.vl_elab_flatten.proofs.Distinct.{different_front, names_with_items, names_with_parameters}
use Rattle.vl_elab_flatten.proofs.Filled.{different_decls_front}
use Rattle.vl_elab_flatten.proofs.Numbered.{hidden_append, hidden_numbers, level_numbers}

-- the parameters of the head, and then those of the items
pub both_added : (given : List ℕ → Option Value) (hs : List HeaderParameter) (xs : Items) (s t u : Scope)
    (ns ms ks : List Names)
    → Adds given (λ os ss cs. with_parameters os ss cs (header_parameters hs)) (parameter_names (header_parameters hs))
    s ns t ms
    → Adds given (λ os ss cs. with_items_parameters os ss cs xs) (items_constants xs) t ms u ks
    → Adds given (λ os ss cs. with_all_parameters os ss cs hs xs) (all_constants hs xs) s ns u ks
both_added given hs xs s t u ns ms ks first second os ss path cs outer g h d has =
    let ps = header_parameters hs in
    let names = constant_names cs in
    let more = items_constants xs in
    let different : Different ((names ++ parameter_names ps) ++ more) =
    subst Different (sym (append_assoc names (parameter_names ps) more)) d in
    second os ss path (with_parameters os ss cs ps) outer g h
    (subst (λ ns. Different (ns ++ more)) (sym (names_with_parameters os ss cs ps)) different)
    (first os ss path cs outer g h (different_front (names ++ parameter_names ps) more different) has)

names_mapped : (ss : List Scope) (is_top : Bool) (input : List ℕ → Class) (ps : List FullPort)
    → map (λ (d : Decl). d.name) (declared_ports ss is_top input ps) ≡ port_names ps
names_mapped ss is_top input [] = refl
names_mapped ss is_top input (p ∷ ps) = ap (λ ns. p.name ∷ ns) (names_mapped ss is_top input ps)

module _ (hs : List HeaderParameter) (ps : List Port) (xs : Items) (inputs : Inputs) (given : List ℕ → Option Value)
    (path : List ℕ) (can : CanOpen hs ps xs inputs given path) where
  abbrev used : Use
  used = can.used

  all_different : Different (all_constants hs xs)
  all_different =
      let first = with_parameters used.overrides [] [] (header_parameters hs) in
      subst Different (names_with_items used.overrides [] first xs
      ∙ ap (λ ns. ns ++ items_constants xs) (names_with_parameters used.overrides [] [] (header_parameters hs)))
      can.openable.constants

  no_numbers : HaveNumbers [] []
  no_numbers text = refl

  -- its constants stand in it, for each such use
  pub constants_are : (text : List ℕ) (s t : Scope) (l ms : List Names) → text ≡ path → s ≡ empty_scope text
      → l ≡ [] ∷ []
      → Adds given (λ os ss cs. with_all_parameters os ss cs hs xs) (all_constants hs xs) s l t ms
      → (u : Use) → IsGiven given u.overrides → HasConstants path (constants_with hs xs u) [] t ms
  constants_are text s t l ms e is at added u g =
      added u.overrides [] path [] [] g no_numbers all_different
      (record { scope = is ∙ ap empty_scope e; numbers = at })

  module _ (t : Scope) (ms : List Names)
      (has : (u : Use) → IsGiven given u.overrides → HasConstants path (constants_with hs xs u) [] t ms) where
    here : HasConstants path (constants_with hs xs used) [] t ms
    here = has used can.given_is

    numbers_here : HaveNumbers ms (around_with hs xs used)
    numbers_here =
        subst (λ ls. HaveNumbers ls (around_with hs xs used)) (sym here.numbers)
        (level_numbers [] [] no_numbers (constants_with hs xs used))

    -- for each such use
    module _ (w : Use) (a : AreInputs inputs w) (g : IsGiven given w.overrides) where
      constants_alike : constants_with hs xs used ≡ constants_with hs xs w
      constants_alike = ap (λ s. s.constants) (sym here.scope ∙ (has w g).scope)

      top_alike : used.is_top ≡ w.is_top
      top_alike = can.inputs_are.top ∙ sym a.top

      input_alike : used.input ≡ w.input
      input_alike = λ i text. (can.inputs_are.stands text ∙ sym (a.stands text)) i

      ports_alike : ports_with hs ps xs used ≡ ports_with hs ps xs w
      ports_alike = λ i.
          declared_ports (with_constants (constants_alike i) []) (top_alike i) (input_alike i) (full_ports None ps)

      decls_alike : decls_with hs xs used ≡ decls_with hs xs w
      decls_alike = ap (λ cs. declared (with_constants cs []) xs) constants_alike

      pub ports_read : (ports : List Decl)
          → ((ss : List Scope) (u : Use) → AreInputs inputs u → HaveNumbers ms ss
          → Each IsInRange (declared_ports ss u.is_top u.input (full_ports None ps))
          → ports ≡ declared_ports ss u.is_top u.input (full_ports None ps))
          → ports ≡ ports_with hs ps xs w
      ports_read ports read =
          read (around_with hs xs used) used can.inputs_are numbers_here
          (front IsInRange (ports_with hs ps xs used) (decls_with hs xs used) can.openable.in_range)
          ∙ ports_alike

      pub decls_read : (decls : List Decl)
          → ((ss : List Scope) → HaveNumbers ms ss → Each IsInRange (declared ss xs) → decls ≡ declared ss xs)
          → decls ≡ decls_with hs xs w
      decls_read decls read =
          read (around_with hs xs used) numbers_here
          (back IsInRange (ports_with hs ps xs used) (decls_with hs xs used) can.openable.in_range)
          ∙ decls_alike

-- ---- what stands in the scope

pub can_fill : (hs : List HeaderParameter) (ps : List Port) (xs : Items) (u : Use) (path : List ℕ) (c : Contents)
    → AreRead hs ps xs u path c → IsOpenable (scope_with hs ps xs u path) → CanFill c
can_fill hs ps xs u path c h can =
    let all : c.ports ++ c.decls ≡ ports_with hs ps xs u ++ decls_with hs xs u =
    λ i. h.ports_are i ++ h.decls_are i in
    record {
      different = subst (λ s. AreDifferent (s.decls ++ (c.ports ++ c.decls))) (sym h.constants.scope)
          (subst AreDifferent (sym all) can.decls);
      plain = subst (Each IsPlain) (sym all) can.plain;
      in_range = subst (Each IsInRange) (sym all) can.in_range;
    }

module _ (s : Scope) (ports decls : List Decl) (different : AreDifferent (s.decls ++ (ports ++ decls))) where
  pub first_different : AreDifferent (s.decls ++ ports)
  first_different =
      different_decls_front (s.decls ++ ports) decls
      (subst AreDifferent (sym (append_assoc s.decls ports decls)) different)

  pub second_different : (t : Scope) → t ≡ with_decls s ports → AreDifferent (t.decls ++ decls)
  second_different t e =
      subst (λ u. AreDifferent (u.decls ++ decls)) (sym e)
      (subst AreDifferent (sym (append_assoc s.decls ports decls)) different)

pub both_filled : (s t u : Scope) (ports decls : List Decl) → t ≡ with_decls s ports → u ≡ with_decls t decls
    → u ≡ with_decls s (ports ++ decls)
both_filled s t u ports decls e f =
    f ∙ ap (λ v. with_decls v decls) e ∙ ap (λ ds. record s { decls = ds }) (append_assoc s.decls ports decls)

pub both_hidden : (ns ms ks : List Names) (ports decls : List Decl) → ms ≡ hidden (innermost ns) ports ∷ drop 1 ns
    → ks ≡ hidden (innermost ms) decls ∷ drop 1 ms → ks ≡ hidden (innermost ns) (ports ++ decls) ∷ drop 1 ns
both_hidden ns ms ks ports decls e f =
    f ∙ ap (λ ls. hidden (innermost ls) decls ∷ drop 1 ls) e
    ∙ ap (λ l. l ∷ drop 1 ns) (hidden_append (innermost ns) ports decls)

-- ---- the scope is open

module _ (hs : List HeaderParameter) (ps : List Port) (xs : Items) (u : Use) (path : List ℕ) (old new : Contents)
    (read : AreRead hs ps xs u path old) (filled : AreFilled old new) where
  all_are : old.ports ++ old.decls ≡ ports_with hs ps xs u ++ decls_with hs xs u
  all_are = λ i. read.ports_are i ++ read.decls_are i

  scope_is : new.scope ≡ scope_with hs ps xs u path
  scope_is = filled.scope ∙ (λ i. with_decls (read.constants.scope i) (all_are i))

  levels : new.numbers
      ≡ hidden (constants_level (constants_with hs xs u)) (ports_with hs ps xs u ++ decls_with hs xs u) ∷ []
  levels =
      filled.numbers
      ∙ (λ i. hidden (innermost (read.constants.numbers i)) (all_are i) ∷ drop 1 (read.constants.numbers i))

  none_around : HaveNumbers [] []
  none_around text = refl

  numbers_are : HaveNumbers new.numbers (scope_with hs ps xs u path ∷ [])
  numbers_are =
      subst (λ ls. HaveNumbers ls (scope_with hs ps xs u path ∷ [])) (sym levels)
      (hidden_numbers [] [] none_around path (ports_with hs ps xs u ++ decls_with hs xs u) (constants_with hs xs u))

  names_are : (ports : List Decl) → ports ≡ new.ports
      → parameter_names (header_parameters hs) ++ map (λ (d : Decl). d.name) ports ++ all_names xs
      ≡ names_with hs ps xs
  names_are ports e =
      ap (λ ns. parameter_names (header_parameters hs) ++ ns ++ all_names xs)
      (ap (map (λ (d : Decl). d.name)) (e ∙ filled.ports ∙ read.ports_are)
      ∙ names_mapped (around_with hs xs u) u.is_top u.input (full_ports None ps))

  pub opened : (o : Opened) (ports : List Decl) → o.here.scopes ≡ new.scope ∷ [] → o.here.numbers ≡ new.numbers
      → o.here.path ≡ path → ports ≡ new.ports
      → o.here.names ≡ parameter_names (header_parameters hs) ++ map (λ (d : Decl). d.name) ports ++ all_names xs
      → o.ports ≡ new.ports → o.decls ≡ new.decls → IsOpened hs ps xs u path o
  opened o ports ss_are ns_are path_is e ns ports_is decls_is =
      let scopes = ss_are ∙ ap (λ s. s ∷ []) scope_is in
      record {
        scopes = scopes;
        numbers = subst (λ ls. HaveNumbers ls o.here.scopes) (sym ns_are)
            (subst (HaveNumbers new.numbers) (sym scopes) numbers_are);
        path_is = path_is;
        names = ns ∙ names_are ports e;
        ports = ports_is ∙ filled.ports ∙ read.ports_are;
        decls = decls_is ∙ filled.decls ∙ read.decls_are;
      }

-- ---- of a module

ports_written : (o : Option (List Port)) → ports_of o ≡ full_ports None (written_ports o)
ports_written None = refl
ports_written (Some ps) = refl

module _ (m : Module) (hs : List HeaderParameter) (ps : List Port) (all : Items) (path : List ℕ)
    (hs_are : hs ≡ header_of m.parameters) (ps_are : ps ≡ written_ports m.ports) (all_are : all ≡ items m.items) where
  full_are : full_ports None ps ≡ ports_of m.ports
  full_are = ap (full_ports None) ps_are ∙ sym (ports_written m.ports)

  abbrev scope_by : List HeaderParameter → List FullPort → Items → Use → Scope
  scope_by hs qs xs u = record {
    path = path;
    decls = declared_ports (around_with hs xs u) u.is_top u.input qs ++ decls_with hs xs u;
    constants = constants_with hs xs u;
  }

  module_scope_is : (u : Use) → scope_with hs ps all u path ≡ module_scope m u path
  module_scope_is u = λ i. scope_by (hs_are i) (full_are i) (all_are i) u

  pub can_open : (inputs : Inputs) (given : List ℕ → Option Value) → IsModuleOpenable m inputs given path
      → CanOpen hs ps all inputs given path
  can_open inputs given can = record {
    used = can.used;
    inputs_are = can.inputs_are;
    given_is = can.given_is;
    openable = subst IsOpenable (sym (module_scope_is can.used)) can.openable;
  }

  pub module_opened : (u : Use) (o : Opened) → IsOpened hs ps all u path o → IsModuleOpened m u path o
  module_opened u o so = record {
    scopes = so.scopes ∙ ap (λ s. s ∷ []) (module_scope_is u);
    numbers = so.numbers;
    path_is = so.path_is;
    names =
        so.names
        ∙ (λ i. parameter_names (header_parameters (hs_are i)) ++ port_names (full_are i) ++ all_names (all_are i));
    ports =
        so.ports
        ∙ (λ i. declared_ports (around_with (hs_are i) (all_are i) u) u.is_top u.input (full_are i));
    decls = so.decls ∙ (λ i. decls_with (hs_are i) (all_are i) u);
  }
