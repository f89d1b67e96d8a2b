-- Between functions: Small trees that together have each alternative of the grammar, and texts: words and signs with
-- one blank between two. Rule of this project.
use Rattle.std.specs.Prelude.{ℕ, true, false, List, [], ◌∷◌, ◌++◌, map, Option, None, Some, codes}
use Rattle.fv_text.specs.Keyword.{keyword_text}
use Rattle.fv_text.specs.Symbol.{symbol_text}
use Rattle.fv_text.specs.declared.kind.Kind.{Kind}
use Rattle.fv_text.specs.declared.kind.Kind.TheVariants as k
use Rattle.fv_text.specs.declared.pos.Pos.{Pos}
use Rattle.vl_tree.specs.declared.declaration.DeclaredName.{DeclaredName}
use Rattle.vl_tree.specs.declared.declaration.HeaderParameter.{HeaderParameter}
use Rattle.vl_tree.specs.declared.declaration.NetKind.TheVariants as net
use Rattle.vl_tree.specs.declared.declaration.Direction.TheVariants as direction
use Rattle.vl_tree.specs.declared.declaration.Parameter.{Parameter}
use Rattle.vl_tree.specs.declared.declaration.ParameterKind.TheVariants as kind
use Rattle.vl_tree.specs.declared.declaration.Port.{Port}
use Rattle.vl_tree.specs.declared.declaration.PortKind.{PortKind}
use Rattle.vl_tree.specs.declared.declaration.PortKind.TheVariants as port
use Rattle.vl_tree.specs.declared.declaration.Range.{Range}
use Rattle.vl_tree.specs.declared.declaration.Shape.{Shape}
use Rattle.vl_tree.specs.declared.item.RegionMark.TheVariants as mark
use Rattle.vl_tree.specs.declared.operator.BinaryOperator.TheVariants as b
use Rattle.vl_tree.specs.declared.operator.Cast.TheVariants as cast
use Rattle.vl_tree.specs.declared.operator.UnaryOperator.TheVariants as u
use Rattle.vl_tree.specs.declared.part.Connection.{Connection}
use Rattle.vl_tree.specs.declared.part.EventKind.{EventKind}
use Rattle.vl_tree.specs.declared.part.EventKind.TheVariants as event
use Rattle.vl_tree.specs.declared.source.Module.{Module}
use Rattle.vl_tree.specs.declared.stmt.AssignKind.TheVariants as assign
use Rattle.vl_tree.specs.declared.stmt.CaseKind.TheVariants as case
use Rattle.vl_tree.specs.Attributes.{Attributes}
use Rattle.vl_tree.specs.Expr.{Expr, name, paren, unary, binary, conditional, concat, repeat, cast as to_sign, exprs}
use Rattle.vl_tree.specs.Expr.{whole, bit, part, indexed}
use Rattle.vl_tree.specs.ExprSpelling as expr
use Rattle.vl_tree.specs.Item as item
use Rattle.vl_tree.specs.Lval.{Lval, named, joined, lvals}
use Rattle.vl_tree.specs.Phrase.{Phrase, kinds}
use Rattle.vl_tree.specs.Stmt as stmt
use Rattle.vl_tree.specs.Stmt.{Stmt}

abbrev pub text_of : Kind → List ℕ
text_of (k.Name text) = text
text_of (k.Keyword word) = keyword_text word
text_of (k.Symbol sign) = symbol_text sign
text_of (k.System text) = 36 ∷ text
text_of other = []

abbrev pub with_blanks : List Kind → List ℕ
with_blanks [] = []
with_blanks (x ∷ []) = text_of x
with_blanks (x ∷ y ∷ xs) = text_of x ++ (32 ∷ with_blanks (y ∷ xs))

abbrev pub written : Phrase → List ℕ
written a = with_blanks (kinds a)

abbrev pub here : Pos
here = record { file = 1; line = 1; col = 1 }

abbrev pub a : Expr
a = name here (codes "a") whole

abbrev pub z : Expr
z = name here (codes "z") whole

abbrev pub to_a : Lval
to_a = named here (codes "a") whole

-- each operator between two operands
abbrev pub binary_texts : List (List ℕ)
binary_texts = map (λ op. written (expr.spell (binary here op a z)))
    (b.Multiply ∷ b.Divide ∷ b.Remainder ∷ b.Add ∷ b.Subtract ∷ b.ShiftLeft ∷ b.ShiftRight
    ∷ b.ArithmeticShiftLeft ∷ b.ArithmeticShiftRight ∷ b.Less ∷ b.LessEqual ∷ b.Greater ∷ b.GreaterEqual
    ∷ b.Equal ∷ b.NotEqual ∷ b.CaseEqual ∷ b.CaseNotEqual ∷ b.BitwiseAnd ∷ b.BitwiseXor ∷ b.BitwiseXnor
    ∷ b.BitwiseXnorCaretFirst ∷ b.BitwiseOr ∷ b.LogicalAnd ∷ b.LogicalOr ∷ [])

-- and before one
abbrev pub unary_texts : List (List ℕ)
unary_texts = map (λ op. written (expr.spell (unary here op a)))
    (u.Plus ∷ u.Minus ∷ u.LogicalNot ∷ u.BitwiseNot ∷ u.ReductionAnd ∷ u.ReductionNand ∷ u.ReductionOr
    ∷ u.ReductionNor ∷ u.ReductionXor
    ∷ u.ReductionXnor ∷ u.ReductionXnorCaretFirst ∷ [])

abbrev pub primary : Expr
primary = conditional here (paren here a) (concat here (exprs (z ∷ repeat here a (exprs (z ∷ a ∷ [])) ∷ [])))
    (conditional here a (to_sign here cast.Signed a) (to_sign here cast.Unsigned z))

abbrev pub selects : Expr
selects = name here (codes "a") (bit here z (part here a z (indexed here z a whole)))

abbrev pub target : Lval
target = joined here (lvals (to_a ∷ named here (codes "z") (bit here a whole) ∷ []))

-- `(* x = a, y *) (* z *)`
abbrev pub attributes : Attributes
attributes = record {
  pos = here;
  attributes = record { pos = here; name = codes "x"; value = Some a }
      ∷ record { pos = here; name = codes "y"; value = None } ∷ [];
}
    ∷ record { pos = here; attributes = record { pos = here; name = codes "z"; value = None } ∷ [] } ∷ []

abbrev pub empty : Stmt
empty = stmt.empty [] here

abbrev pub now : Stmt
now = stmt.assign [] here to_a assign.Blocking z

abbrev pub later : Stmt
later = stmt.assign [] here to_a assign.Nonblocking z

abbrev pub statement : Stmt
statement = stmt.begin attributes here (Some (codes "l")) (stmt.stmts (
    stmt.if_else [] here a now (stmt.if_only [] here z later)
    ∷ stmt.assume [] here a ∷ stmt.begin [] here None stmt.no_stmts ∷ empty
    ∷ stmt.case [] here case.Case a (stmt.labels here (a ∷ z ∷ []) empty
    (stmt.default here true empty stmt.no_arms))
    ∷ stmt.case [] here case.Casez z (stmt.default here false empty (stmt.labels here (z ∷ []) empty stmt.no_arms))
    ∷ []))

abbrev pub range : Range
range = record { pos = here; left = a; right = z }

abbrev pub scalar : Shape
scalar = record { signed = false; range = None }

abbrev pub vector : Shape
vector = record { signed = true; range = Some range }

abbrev pub declares : List ℕ → Option Range → Option Expr → DeclaredName
declares text words value = record { pos = here; name = text; words = words; value = value }

abbrev pub parameter : Shape → List ℕ → Parameter
parameter shape text = record { pos = here; shape = shape; name = text; value = a }

abbrev pub connection : List ℕ → Option Expr → Connection
connection text value = record { pos = here; port = text; value = value }

abbrev pub on : EventKind → item.Item
on kind = item.always [] here (record { pos = here; kind = kind }) empty

abbrev pub wire : item.Item
wire = item.declaration [] here (record {
  net = net.Wire;
  shape = scalar;
  names = declares (codes "a") None None
      ∷ [];
})

abbrev pub opens : item.Item
opens = item.generate [] here mark.Open

abbrev pub closes : item.Item
closes = item.generate [] here mark.Close

abbrev pub body : List item.Item
body =
    item.declaration attributes here (record {
      net = net.Reg;
      shape = vector;
      names = declares (codes "a") (Some range) None ∷ declares (codes "z") None (Some a) ∷ [];
    })
    ∷ item.integer [] here (declares (codes "i") None None ∷ declares (codes "j") None (Some a) ∷ [])
    ∷ item.genvar [] here (codes "g" ∷ codes "h" ∷ [])
    ∷ item.parameter [] here kind.Parameter (parameter scalar (codes "p") ∷ [])
    ∷ item.parameter [] here kind.Localparam (parameter vector (codes "q") ∷ parameter scalar (codes "r") ∷ [])
    ∷ item.assign [] here (record { target = to_a; value = z } ∷ record { target = target; value = a } ∷ [])
    ∷ on event.Bare ∷ on event.Spaced ∷ on event.OpenJoined ∷ on event.CloseJoined
    ∷ on (event.Posedge (codes "c"))
    ∷ item.initial [] here now
    ∷ item.instance [] here (record { definition = codes "n"; overrides = None; name = codes "u"; connections = [] })
    ∷ item.instance [] here (record {
      definition = codes "n";
      overrides = Some (connection (codes "x") None ∷ connection (codes "y") (Some a) ∷ []);
      name = codes "u";
      connections = connection (codes "x") None ∷ [];
    })
    ∷ item.generate attributes here mark.Open ∷ wire ∷ opens ∷ closes ∷ closes
    ∷ item.for_loop [] here (record {
      variable = codes "g";
      start = a;
      condition = z;
      next_variable = codes "g";
      next = a;
    }) (item.begin here (Some (codes "l")) (item.items (wire ∷ [])))
    ∷ item.if_only [] here a (item.single wire)
    ∷ item.if_only [] here z (item.region here (item.items (wire ∷ [])))
    ∷ item.if_else [] here a (item.begin here None item.no_items) (item.single wire)
    ∷ []

abbrev pub module_of : Option (List HeaderParameter) → Option (List Port) → List item.Item → Module
module_of parameters ports all =
    record { pos = here; name = codes "m"; parameters = parameters; ports = ports; items = all }

abbrev pub port_of : PortKind → Port
port_of kind = record { pos = here; kind = kind }

abbrev pub head : Module
head = module_of
    (Some (record { keyword = true; parameter = parameter scalar (codes "p") }
    ∷ record { keyword = false; parameter = parameter vector (codes "q") }
    ∷ record { keyword = true; parameter = parameter scalar (codes "r") } ∷ []))
    (Some (port_of (port.Full (record {
      attributes = attributes;
      direction = direction.Input;
      net = Some net.Wire;
      shape = vector;
      name = codes "a";
      name_pos = here;
      value = None;
    }))
    ∷ port_of (port.Short (codes "b") (Some a))
    ∷ port_of (port.Full (record {
      attributes = [];
      direction = direction.Output;
      net = Some net.Reg;
      shape = scalar;
      name = codes "c";
      name_pos = here;
      value = Some z;
    }))
    ∷ port_of (port.Short (codes "d") None) ∷ []))
    []
