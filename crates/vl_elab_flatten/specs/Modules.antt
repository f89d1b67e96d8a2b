-- Between functions: Modules that are opened, where they are used so. IEEE 1364-2005, sections 12.1 to 12.3.
use Rattle.std.specs.Prelude.{◌≡◌, ℕ, List, [], ◌∷◌, ◌++◌, drop, None, Option}
use Rattle.vl_tree.specs.declared.declaration.HeaderParameter.{HeaderParameter}
use Rattle.vl_tree.specs.declared.declaration.Port.{Port}
use Rattle.vl_tree.specs.declared.source.Module.{Module}
use Rattle.vl_tree.specs.Expr.{Expr}
use Rattle.vl_tree.specs.Item.{Items, items}
use Rattle.vl_size.specs.declared.decl.Decl.{Decl}
use Rattle.vl_size.specs.Table.{AreDifferent, IsPlain}
use Rattle.vl_mean.specs.Constants.{Constants}
use Rattle.vl_mean.specs.Declarations.{Overrides, all_names, declared, declared_ports, full_ports, header_parameters}
use Rattle.vl_mean.specs.Declarations.{ports_of, with_constants, with_items_parameters, with_parameters}
use Rattle.vl_mean.specs.Runs.{Each}
use Rattle.vl_mean.specs.Scopes.{Scope}
use Rattle.vl_mean.specs.Walk.{Use, module_around, module_names, module_scope, parameter_names, port_names}
use Rattle.vl_elab_scope.specs.Seen.{innermost}
use Rattle.vl_elab_const.specs.declared.given.Value.{Value}
use Rattle.vl_elab_const.specs.Given.{IsGiven}
use Rattle.vl_elab_const.specs.Numbers.{HaveNumbers}
use Rattle.vl_elab_decls.specs.declared.inputs.Inputs.{Inputs}
use Rattle.vl_elab_decls.specs.Inputs.{AreInputs}
use Rattle.vl_elab_const.specs.Openable.{IsInRange, IsOpenable, items_constants}
use Rattle.vl_elab_flatten.specs.declared.modules.Contents.{Contents}
use Rattle.vl_elab_flatten.specs.declared.modules.Opened.{Opened}
use Rattle.vl_elab_flatten.specs.Levels.{HasConstants, hidden, with_decls}

-- ---- by the parameters of its head, its ports and its items

abbrev pub with_all_parameters : Overrides → List Scope → Constants → List HeaderParameter → Items → Constants
with_all_parameters os ss cs hs xs =
    with_items_parameters os ss (with_parameters os ss cs (header_parameters hs)) xs

abbrev pub all_constants : List HeaderParameter → Items → List (List ℕ)
all_constants hs xs = parameter_names (header_parameters hs) ++ items_constants xs

abbrev pub constants_with : List HeaderParameter → Items → Use → Constants
constants_with hs xs u = with_all_parameters u.overrides [] [] hs xs

abbrev pub around_with : List HeaderParameter → Items → Use → List Scope
around_with hs xs u = with_constants (constants_with hs xs u) []

abbrev pub ports_with : List HeaderParameter → List Port → Items → Use → List Decl
ports_with hs ps xs u = declared_ports (around_with hs xs u) u.is_top u.input (full_ports None ps)

abbrev pub decls_with : List HeaderParameter → Items → Use → List Decl
decls_with hs xs u = declared (around_with hs xs u) xs

abbrev pub scope_with : List HeaderParameter → List Port → Items → Use → List ℕ → Scope
scope_with hs ps xs u path = record {
  path = path;
  decls = ports_with hs ps xs u ++ decls_with hs xs u;
  constants = constants_with hs xs u;
}

abbrev pub names_with : List HeaderParameter → List Port → Items → List (List ℕ)
names_with hs ps xs = parameter_names (header_parameters hs) ++ port_names (full_ports None ps) ++ all_names xs

-- there is a use of these inputs and with these values in which its scope can be opened
pub record CanOpen (hs : List HeaderParameter) (ps : List Port) (xs : Items) (inputs : Inputs)
    (given : List ℕ → Option Value) (path : List ℕ) : Type 0 where
  pub used : Use
  pub inputs_are : AreInputs inputs used
  pub given_is : IsGiven given used.overrides
  pub openable : IsOpenable (scope_with hs ps xs used path)

-- ---- what stands in its scope

-- constants alone stand in the scope, and the declarations are read
pub record AreRead (hs : List HeaderParameter) (ps : List Port) (xs : Items) (u : Use) (path : List ℕ) (c : Contents)
    : Type 0 where
  pub constants : HasConstants path (constants_with hs xs u) [] c.scope c.numbers
  pub ports_are : c.ports ≡ ports_with hs ps xs u
  pub decls_are : c.decls ≡ decls_with hs xs u

abbrev pub all_decls : Contents → List Decl
all_decls c = c.ports ++ c.decls

pub record CanFill (c : Contents) : Type 0 where
  pub different : AreDifferent (c.scope.decls ++ all_decls c)
  pub plain : Each IsPlain (all_decls c)
  pub in_range : Each IsInRange (all_decls c)

-- the scope is filled with the declarations of the same contents, which hide the constants around
pub record AreFilled (old new : Contents) : Type 0 where
  pub scope : new.scope ≡ with_decls old.scope (all_decls old)
  pub numbers : new.numbers ≡ hidden (innermost old.numbers) (all_decls old) ∷ drop 1 old.numbers
  pub ports : new.ports ≡ old.ports
  pub decls : new.decls ≡ old.decls

-- the scope is open, and these are the declarations of the ports and the items
pub record IsOpened (hs : List HeaderParameter) (ps : List Port) (xs : Items) (u : Use) (path : List ℕ) (o : Opened)
    : Type 0 where
  pub scopes : o.here.scopes ≡ scope_with hs ps xs u path ∷ []
  pub numbers : HaveNumbers o.here.numbers o.here.scopes
  pub path_is : o.here.path ≡ path
  pub names : o.here.names ≡ names_with hs ps xs
  pub ports : o.ports ≡ ports_with hs ps xs u
  pub decls : o.decls ≡ decls_with hs xs u

-- ---- of a module

-- there is a use of these inputs and with these values in which its scope can be opened
pub record IsModuleOpenable (m : Module) (inputs : Inputs) (given : List ℕ → Option Value) (path : List ℕ) : Type 0
  where
    pub used : Use
    pub inputs_are : AreInputs inputs used
    pub given_is : IsGiven given used.overrides
    pub openable : IsOpenable (module_scope m used path)

-- its scope alone is open, and these are the declarations of its ports and its items
pub record IsModuleOpened (m : Module) (u : Use) (path : List ℕ) (o : Opened) : Type 0 where
  pub scopes : o.here.scopes ≡ module_scope m u path ∷ []
  pub numbers : HaveNumbers o.here.numbers o.here.scopes
  pub path_is : o.here.path ≡ path
  pub names : o.here.names ≡ module_names m
  pub ports : o.ports ≡ declared_ports (module_around m u) u.is_top u.input (ports_of m.ports)
  pub decls : o.decls ≡ declared (module_around m u) (items m.items)
