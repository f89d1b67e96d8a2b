-- Meaning: The parts of a design without hierarchy, off those of a design: declarations first, then drivers, then
-- values at first; each with full names, and with numbers in place of constants. Rule of this project.
use Rattle.std.specs.Prelude.{◌≡◌, ℕ, ◌≤◌, max, List, [], ◌∷◌, ◌++◌, length, Some}
use Rattle.vl_tree.specs.Expr.{Expr, number}
use Rattle.vl_tree.specs.Lval.{Lval}
use Rattle.vl_size.specs.declared.decl.Decl.{Decl}
use Rattle.vl_size.specs.Table.{declared_as}
use Rattle.vl_mean.specs.declared.const_number.Const.{Const}
use Rattle.vl_mean.specs.Constants.{cut_to, number_of}
use Rattle.vl_mean.specs.FlatLaw.{flat_scopes}
use Rattle.vl_mean.specs.Parts.{Part, declares, equation, combinational, clocked, starts, here}
use Rattle.vl_mean.specs.Scopes.{Scope, visible, operand_in, no_values}
use Rattle.vl_mean.specs.Targets.{spots}
use Rattle.vl_mean_flat.specs.FullNames.{flat_expr, flat_lval, flat_stmt}
use Rattle.vl_mean_flat.specs.Names.{ExprNames, TargetNames, StmtNames}

abbrev pub decls_of : List Part → List Decl
decls_of [] = []
decls_of (declares d ∷ ps) = d ∷ decls_of ps
decls_of (p ∷ ps) = decls_of ps

-- at which size an assignment evaluates its value: section 5.4
abbrev pub start_width : List Scope → Lval → Expr → ℕ
start_width ss l e = max (length (spots ss no_values l)) (operand_in ss no_values e).size

-- the value at first
abbrev pub start_value : List Scope → Lval → Expr → Const
start_value ss l e =
    let x = operand_in ss no_values e in cut_to (start_width ss l e) x.sign (x.at (start_width ss l e) x.sign)

abbrev pub flat_part : List Scope → Part → Part
flat_part fs (declares d) = declares d
flat_part fs (equation ts l ss e) = equation fs (flat_lval ts l) fs (flat_expr ss e)
flat_part fs (combinational ss s) = combinational fs (flat_stmt ss s)
flat_part fs (clocked ss s) = clocked fs (flat_stmt ss s)
flat_part fs (starts ss l e) = starts fs (flat_lval ss l) (number here (number_of (start_value ss l e)))

module _ (fs : List Scope) where
  abbrev pub flat_decls : List Part → List Part
  flat_decls [] = []
  flat_decls (declares d ∷ ps) = declares d ∷ flat_decls ps
  flat_decls (p ∷ ps) = flat_decls ps

  abbrev pub flat_drivers : List Part → List Part
  flat_drivers [] = []
  flat_drivers (declares d ∷ ps) = flat_drivers ps
  flat_drivers (starts ss l e ∷ ps) = flat_drivers ps
  flat_drivers (p ∷ ps) = flat_part fs p ∷ flat_drivers ps

  abbrev pub flat_starts : List Part → List Part
  flat_starts [] = []
  flat_starts (starts ss l e ∷ ps) = flat_part fs (starts ss l e) ∷ flat_starts ps
  flat_starts (p ∷ ps) = flat_starts ps

abbrev pub flattened : List Part → List Part
flattened ps = let fs = flat_scopes (decls_of ps) in flat_decls fs ps ++ flat_drivers fs ps ++ flat_starts fs ps

-- ---- what a part's names have to be

-- P of each name in it but constants, in its scopes; what begins with a value has 1 to 128 bits
abbrev pub PartNames : (List Scope → List ℕ → Type 0) → Part → Type 0
PartNames P (declares d) = Unit {0}
PartNames P (equation ts l ss e) = TargetNames (P ts) ts l × ExprNames (P ss) ss e
PartNames P (combinational ss s) = StmtNames (P ss) ss s
PartNames P (clocked ss s) = StmtNames (P ss) ss s
PartNames P (starts ss l e) =
    TargetNames (P ss) ss l × ExprNames (P ss) ss e × (1 ≤ start_width ss l e) × (start_width ss l e ≤ 128)

-- the name is declared in some scope
pub record IsSeen (ss : List Scope) (text : List ℕ) : Type 0 where
  pub decl : Decl
  pub declared : declared_as (visible ss) text ≡ Some decl

-- each name of a part is a constant or declared, and each target is declared
abbrev pub Known : Part → Type 0
Known p = PartNames IsSeen p
