-- Meaning: What a design is made of: the parts of each step of the walk through it, as they are written, with the
-- scopes in which their names are read. IEEE 1364-2005, sections 6.1, 9.2, 9.9 and 12.
use Rattle.std.specs.Prelude.{ℕ, List, [], ◌∷◌, ◌++◌, map, Option, Some, None, if◌then◌else◌}
use Rattle.fv_text.specs.declared.pos.Pos.{Pos}
use Rattle.vl_tree.specs.declared.declaration.DeclaredName.{DeclaredName}
use Rattle.vl_tree.specs.declared.declaration.Direction.{Direction}
use Rattle.vl_tree.specs.declared.declaration.Direction.TheVariants as direction
use Rattle.vl_tree.specs.declared.declaration.FullPort.{FullPort}
use Rattle.vl_tree.specs.declared.declaration.NetKind.{NetKind}
use Rattle.vl_tree.specs.declared.declaration.NetKind.TheVariants as net
use Rattle.vl_tree.specs.declared.part.Assignment.{Assignment}
use Rattle.vl_tree.specs.declared.part.EventKind.{EventKind}
use Rattle.vl_tree.specs.declared.part.EventKind.TheVariants as e
use Rattle.vl_tree.specs.declared.source.Module.{Module}
use Rattle.vl_tree.specs.Expr.{Expr, Exprs, name, concat, none, more, whole}
use Rattle.vl_tree.specs.Lval.{Lval, Lvals, named, joined, no_lvals, more_lvals}
use Rattle.vl_tree.specs.Stmt as stmt
use Rattle.vl_tree.specs.Stmt.{Stmt, Stmts, no_stmts, more_stmts}
use Rattle.vl_tree.specs.Item.{Item, declaration, integer, genvar, parameter, assign, always, initial, instance}
use Rattle.vl_tree.specs.Item.{generate, for_loop, if_only, if_else}
use Rattle.vl_size.specs.declared.decl.Decl.{Decl}
use Rattle.vl_size.specs.Size.{◌>>=◌}
use Rattle.vl_mean.specs.Declarations.{declared_by, port_decl, port_named, ports_of}
use Rattle.vl_mean.specs.Scopes.{Scope, is_clock}
use Rattle.vl_mean.specs.Walk.{Place, Step, header, port, item, override, connection, block_step, walk}

pub data Part : Type 0 where
  -- a name is declared; it stands under its full name
  declares : Decl → Part
  -- the target has the value of the expression, each in scopes of its own
  equation : List Scope → Lval → List Scope → Expr → Part
  -- a block that stands for a circuit without memory, and one that acts at the clock's edge
  combinational : List Scope → Stmt → Part
  clocked : List Scope → Stmt → Part
  -- the target has the value at first
  starts : List Scope → Lval → Expr → Part

-- a name by itself
abbrev pub here : Pos
here = record { file = 1; line = 1; col = 1 }

abbrev pub plain : List ℕ → Expr
plain text = name here text whole

abbrev pub plain_target : List ℕ → Lval
plain_target text = named here text whole

-- ---- declared names

abbrev pub declares_all : List ℕ → List Decl → List Part
declares_all path ds = map (λ d. declares (record d { name = path ++ d.name })) ds

-- the value in the declaration of a net is an assignment, that of a variable its value at first
abbrev pub value_part : List Scope → NetKind → List ℕ → Expr → Part
value_part ss net.Wire text e = equation ss (plain_target text) ss e
value_part ss net.Reg text e = starts ss (plain_target text) e

abbrev pub optional_value : List Scope → NetKind → List ℕ → Option Expr → List Part
optional_value ss kind text None = []
optional_value ss kind text (Some e) = value_part ss kind text e ∷ []

abbrev pub values_of : List Scope → NetKind → List DeclaredName → List Part
values_of ss kind [] = []
values_of ss kind (x ∷ xs) = optional_value ss kind x.name x.value ++ values_of ss kind xs

abbrev pub port_kind : Option NetKind → NetKind
port_kind None = net.Wire
port_kind (Some kind) = kind

-- ---- assignments and blocks

abbrev pub assignments : List Scope → List Assignment → List Part
assignments ss [] = []
assignments ss (x ∷ xs) = equation ss x.target ss x.value ∷ assignments ss xs

abbrev pub block_part : List Scope → EventKind → Stmt → Part
block_part ss (e.Posedge text) s = clocked ss s
block_part ss kind s = combinational ss s

-- the assignments of an `initial` block, in order
abbrev mutual
  pub initial_parts : List Scope → Stmt → List Part
  initial_parts ss (stmt.begin attrs p label xs) = all_initial_parts ss xs
  initial_parts ss (stmt.assign attrs p l kind e) = starts ss l e ∷ []
  initial_parts ss s = []

  pub all_initial_parts : List Scope → Stmts → List Part
  all_initial_parts ss no_stmts = []
  all_initial_parts ss (more_stmts x xs) = initial_parts ss x ++ all_initial_parts ss xs

-- ---- connections: section 12.3.6

-- the target that an output is joined to: a name with its selects, or a concatenation of such
abbrev mutual
  pub target_of : Expr → Option Lval
  target_of (name p text xs) = Some (named p text xs)
  target_of (concat p es) = targets_of es >>= λ ls. Some (joined p ls)
  target_of e = None

  pub targets_of : Exprs → Option Lvals
  targets_of none = Some no_lvals
  targets_of (more e es) = target_of e >>= λ l. targets_of es >>= λ ls. Some (more_lvals l ls)

abbrev pub with_target : Option Lval → (Lval → List Part) → List Part
with_target None f = []
with_target (Some l) f = f l

-- an input has the value of what it is joined to, but the clock, which has none; what an output is joined to has its
-- value
abbrev pub connection_part : List Scope → List Scope → Direction → List ℕ → Expr → List Part
connection_part ss inside direction.Input text e =
    if is_clock ss (Some e) then [] else equation inside (plain_target text) ss e ∷ []
connection_part ss inside direction.Output text e =
    with_target (target_of e) (λ l. equation ss l inside (plain text) ∷ [])

abbrev pub port_part : List Scope → List Scope → Option FullPort → Option Expr → List Part
port_part ss inside None value = []
port_part ss inside (Some p) None = []
port_part ss inside (Some p) (Some e) = connection_part ss inside p.direction p.name e

-- ---- the parts of a step

-- the other items have none by themselves
abbrev pub item_parts : Place → Item → List Part
item_parts at (declaration attrs p d) =
    declares_all at.path (declared_by at.around (declaration attrs p d)) ++ values_of at.scopes d.net d.names
item_parts at (integer attrs p xs) =
    declares_all at.path (declared_by at.around (integer attrs p xs)) ++ values_of at.scopes net.Reg xs
item_parts at (assign attrs p xs) = assignments at.scopes xs
item_parts at (always attrs p event s) = block_part at.scopes event.kind s ∷ []
item_parts at (initial attrs p s) = initial_parts at.scopes s
item_parts at x = []

-- the parameters of a module's head, and what an instance gives to them, are in the scopes of the other steps
abbrev pub step_parts : Step → List Part
step_parts (header at x) = []
step_parts (port at u p q) =
    declares_all at.path (port_decl at.around u.is_top u.input q ∷ [])
    ++ optional_value at.scopes (port_kind q.net) q.name q.value
step_parts (item at x) = item_parts at x
step_parts (override at m u given x) = []
step_parts (block_step at b) = []
step_parts (connection at m u inside given x) =
    port_part at.scopes inside (port_named (ports_of m.ports) x.port) x.value

abbrev pub parts_of_steps : List Step → List Part
parts_of_steps [] = []
parts_of_steps (x ∷ xs) = step_parts x ++ parts_of_steps xs

-- all parts of the design with this top module
abbrev pub design : List Module → List ℕ → List Part
design ms top = parts_of_steps (walk ms top)
