-- Between functions: Simple wrappers: one module `rvfi_wrapper` of ports and of assignments to whole outputs. Rules of
-- this project.
use Rattle.std.specs.Prelude.{◌≡◌, ℕ, ◌+◌, ◌≤◌, List, [], ◌∷◌, ◌++◌, length, true, false, Option, None, Some}
use Rattle.std.specs.Prelude.{bytes_eq, codes}
use Rattle.vl_tree.specs.declared.declaration.FullPort.{FullPort}
use Rattle.vl_tree.specs.declared.declaration.PortKind.{PortKind}
use Rattle.vl_tree.specs.declared.declaration.PortKind.TheVariants.{Full, Short}
use Rattle.vl_tree.specs.declared.declaration.Range.{Range}
use Rattle.vl_tree.specs.declared.part.Assignment.{Assignment}
use Rattle.vl_tree.specs.declared.source.Module.{Module}
use Rattle.vl_tree.specs.Expr.{Expr, number, name, paren, unary, binary, conditional, cast, whole}
use Rattle.vl_tree.specs.Item.{Item, assign}
use Rattle.vl_tree.specs.Lval.{Lval, named}
use Rattle.vl_size.specs.Size.{divides}
use Rattle.vl_mean.specs.Cells.{contains_name}
use Rattle.vl_mean.specs.Declarations.{is_output, port_named, ports_of}
use Rattle.vl_mean.specs.Runs.{Each}
use Rattle.vl_mean.specs.Walk.{port_names, written_ports}
use Rattle.vl_elab_spec.specs.Counts.{assignment_nodes, range_nodes, value_nodes}

-- ---- ports

-- a number of 32 bits, as one that is written without a size is, and so much at most
abbrev pub IsNumberUpTo : ℕ → Expr → Type 0
IsNumberUpTo most (number p n) = (n.width ≡ 32) × (n.value ≤ most)
IsNumberUpTo most e = ⊥

-- none, which is one bit, or `[high:0]`, which is 128 bits at most
abbrev pub IsSimpleRange : Option Range → Type 0
IsSimpleRange None = Unit {0}
IsSimpleRange (Some r) = IsNumberUpTo 127 r.left × IsNumberUpTo 0 r.right

-- without `reg` or `wire` and without a value; attributes before it, and `signed`, may be there
pub record IsSimplePort (p : FullPort) : Type 0 where
  pub no_net : p.net ≡ None
  pub no_value : p.value ≡ None
  pub range : IsSimpleRange p.shape.range

-- with its own direction
abbrev pub IsSimpleKind : PortKind → Type 0
IsSimpleKind (Full p) = IsSimplePort p
IsSimpleKind (Short text value) = ⊥

-- each differs from the earlier ones, and from those before it
abbrev pub AreNew : List (List ℕ) → List (List ℕ) → Type 0
AreNew earlier [] = Unit {0}
AreNew earlier (n ∷ ns) = (contains_name earlier n ≡ false) × AreNew (earlier ++ n ∷ []) ns

-- ---- assignments, where these are the ports

-- the name is that of a port, and not that of the clock; an output may be read too
abbrev pub IsReadable : Option FullPort → Type 0
IsReadable None = ⊥
IsReadable (Some p) = bytes_eq p.name (codes "clock") ≡ false

-- the name is that of an output
abbrev pub IsAssignable : Option FullPort → Type 0
IsAssignable None = ⊥
IsAssignable (Some p) = is_output p.direction ≡ true

module _ (ps : List FullPort) where
  -- numbers, whole ports but the clock, brackets, and operators but `/` and `%`
  abbrev pub IsSimpleExpr : Expr → Type 0
  IsSimpleExpr (number p n) = Unit {0}
  IsSimpleExpr (name p text whole) = IsReadable (port_named ps text)
  IsSimpleExpr (paren p x) = IsSimpleExpr x
  IsSimpleExpr (unary p op x) = IsSimpleExpr x
  IsSimpleExpr (binary p op x y) = (divides op ≡ false) × IsSimpleExpr x × IsSimpleExpr y
  IsSimpleExpr (conditional p c x y) = IsSimpleExpr c × IsSimpleExpr x × IsSimpleExpr y
  IsSimpleExpr (cast p to x) = IsSimpleExpr x
  IsSimpleExpr e = ⊥

  -- a whole output
  abbrev pub IsSimpleTarget : Lval → Type 0
  IsSimpleTarget (named p text whole) = IsAssignable (port_named ps text)
  IsSimpleTarget l = ⊥

  pub record IsSimpleAssignment (x : Assignment) : Type 0 where
    pub target : IsSimpleTarget x.target
    pub value : IsSimpleExpr x.value

  -- an `assign`, with attributes or without
  abbrev pub IsSimpleItem : Item → Type 0
  IsSimpleItem (assign attrs p xs) = Each IsSimpleAssignment xs
  IsSimpleItem x = ⊥

-- ---- the whole

-- `module rvfi_wrapper (ports); assignments endmodule`
pub record IsSimpleModule (m : Module) : Type 0 where
  pub named : m.name ≡ codes "rvfi_wrapper"
  pub no_parameters : m.parameters ≡ None
  pub ports : Each (λ p. IsSimpleKind p.kind) (written_ports m.ports)
  pub differ : AreNew [] (port_names (ports_of m.ports))
  pub items : Each (IsSimpleItem (ports_of m.ports)) m.items

-- Elaboration doesn't ask that each output is assigned once, that those of RVFI are there, and that the clock and the
-- reset are inputs of one bit; so it is left out.
abbrev pub IsSimple : List Module → Type 0
IsSimple [] = ⊥
IsSimple (m ∷ []) = IsSimpleModule m
IsSimple (m ∷ n ∷ ms) = ⊥

-- ---- how large it is, as refusals count it

abbrev pub ports_nodes : List FullPort → ℕ
ports_nodes [] = 0
ports_nodes (p ∷ ps) = range_nodes p.shape.range + value_nodes p.value + 1 + ports_nodes ps

-- other items don't stand in a simple wrapper
abbrev pub item_nodes : Item → ℕ
item_nodes (assign attrs p xs) = assignment_nodes xs + 1
item_nodes x = 0

abbrev pub items_nodes : List Item → ℕ
items_nodes [] = 0
items_nodes (x ∷ xs) = item_nodes x + items_nodes xs

abbrev pub wrapper_ports : List Module → ℕ
wrapper_ports [] = 0
wrapper_ports (m ∷ ms) = length (ports_of m.ports) + wrapper_ports ms

abbrev pub wrapper_nodes : List Module → ℕ
wrapper_nodes [] = 0
wrapper_nodes (m ∷ ms) = ports_nodes (ports_of m.ports) + items_nodes m.items + wrapper_nodes ms
