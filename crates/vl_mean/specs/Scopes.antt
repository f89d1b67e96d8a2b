-- Meaning: Scopes, and what a name means in them. IEEE 1364-2005, sections 12.4, 12.5 and 12.7: a name means what the
-- innermost scope that declares it declares, and a full name joins the names of the scopes by dots. The top module's
-- name stays out of it: a rule of this project.
use Rattle.std.specs.Prelude.{
  ℕ,
  List,
  [],
  ◌∷◌,
  ◌++◌,
  Bool,
  true,
  false,
  Option,
  Some,
  None,
  if◌then◌else◌,
}
use Rattle.vl_tree.specs.Expr.{Expr, name, whole}
use Rattle.vl_size.specs.declared.decl.Class.{Class}
use Rattle.vl_size.specs.declared.decl.Class.TheVariants as class
use Rattle.vl_size.specs.declared.decl.Decl.{Decl}
use Rattle.vl_size.specs.Size.{Values, Operand, cell_name}
use Rattle.vl_size.specs.Table.{is_declared, declared_as}
use Rattle.vl_mean.specs.declared.const_number.Const.{Const}
use Rattle.vl_mean.specs.Constants.{Constants, constant_of, settled_operand}

-- a module's instance, a generate block or a turn of a generate loop: what stands before the names in it, and what it
-- declares under the names as they are written
pub record Scope : Type 0 where
  pub path : List ℕ
  pub decls : List Decl
  pub constants : Constants

-- the full name of a name: the scopes stand with the innermost first
abbrev pub full : List Scope → List ℕ → List ℕ
full [] text = text
full (s ∷ ss) text = if is_declared s.decls text then s.path ++ text else full ss text

abbrev pub constant_unless : Option Const → Bool → Option Const → Option Const
constant_unless (Some c) hidden outer = Some c
constant_unless None true outer = None
constant_unless None false outer = outer

-- the constant that a name means
abbrev pub constant_in : List Scope → List ℕ → Option Const
constant_in [] text = None
constant_in (s ∷ ss) text =
    constant_unless (constant_of s.constants text) (is_declared s.decls text) (constant_in ss text)

-- what is declared, the innermost first
abbrev pub visible : List Scope → List Decl
visible [] = []
visible (s ∷ ss) = s.decls ++ visible ss

abbrev pub unless_constant : Option Const → Option Decl → Option Decl
unless_constant None d = d
unless_constant (Some c) d = None

-- the net or variable that a name means; None where it means a constant
abbrev pub declared_in : List Scope → List ℕ → Option Decl
declared_in ss text = unless_constant (constant_in ss text) (declared_as (visible ss) text)

-- ---- the clock: it has no number

abbrev pub is_clock_class : Class → Bool
is_clock_class class.Clock = true
is_clock_class c = false

abbrev pub is_clock_decl : Option Decl → Bool
is_clock_decl None = false
is_clock_decl (Some d) = is_clock_class d.class

-- the clock, by its plain name
abbrev pub is_clock : List Scope → Option Expr → Bool
is_clock ss (Some (name p text whole)) = is_clock_decl (declared_in ss text)
is_clock ss e = false

-- ---- expressions

-- each name has the number 0
abbrev pub no_values : Values
no_values text = 0

-- an expression in scopes: its size and sign by itself, and its number in each context, over the values of full
-- names; a memory's word has the index behind the memory's full name
abbrev pub operand_in : List Scope → Values → Expr → Operand
operand_in ss v e = settled_operand (constant_in ss) (visible ss) (λ text index. v (cell_name (full ss text) index)) e
