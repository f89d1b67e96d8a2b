-- Between functions: What a scope declares, and what is known of it. IEEE 1364-2005, sections 3.2, 3.3, 3.9 and 12.3.
use Rattle.std.specs.Prelude.{◌≡◌, ℕ, List, [], ◌∷◌, ◌++◌, true, None}
use Rattle.vl_tree.specs.declared.declaration.FullPort.{FullPort}
use Rattle.vl_tree.specs.Item.{Items}
use Rattle.vl_size.specs.declared.decl.Decl.{Decl}
use Rattle.vl_size.specs.Table.{is_plain, declared_as}
use Rattle.vl_mean.specs.Declarations.{declared, declared_ports}
use Rattle.vl_mean.specs.Scopes.{Scope, constant_in}
use Rattle.vl_mean.specs.Walk.{Use, port_names}
use Rattle.vl_elab_spec.specs.Meanings.{Names, constants, items_names, is_undeclared, meaning_of}
use Rattle.vl_elab_scope.specs.Seen.{AreNamed}
use Rattle.vl_elab_spec.specs.Among.{AreAmong}

-- in none of these names stands a bracket
abbrev pub ArePlain : List (List ℕ) → Type 0
ArePlain [] = Unit {0}
ArePlain (text ∷ texts) = (is_plain text ≡ true) × ArePlain texts

-- the scope declares these ports, of a module that is used so, and what these items declare, with bounds that are read
-- over the scopes; what is known of constants there is right
pub record IsDeclared (s : Scope) (known : List Names) (ss : List Scope) (u : Use) (ps : List FullPort) (xs : Items)
    : Type 0 where
  pub decls : s.decls ≡ declared_ports ss u.is_top u.input ps ++ declared ss xs
  pub among : AreAmong (constants known) (constant_in ss)
  pub plain : ArePlain (port_names ps ++ items_names xs)

-- The names that are kept are those that are meant, and what they don't declare, these declarations don't.
pub record AreShaped (kept meant : Names) (ds : List Decl) : Type 0 where
  pub named : AreNamed kept
  pub also_named : AreNamed meant
  pub meaning : (text : List ℕ) → meaning_of kept text ≡ meaning_of meant text
  pub rest : (text : List ℕ) → is_undeclared (meaning_of meant text) ≡ true → declared_as ds text ≡ None
