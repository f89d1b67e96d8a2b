-- Between functions: Small designs, and maps for them that were worked out by hand. Rule of this project.
use Rattle.std.specs.Prelude.{
  ℕ,
  ◌^◌,
  ◌<◌,
  List,
  [],
  ◌∷◌,
  pos,
  true,
  false,
  ◌||◌,
  Option,
  Some,
  None,
  codes,
  bytes_eq,
}
use Rattle.std.specs.Prelude.{if◌then◌else◌}
use Rattle.std.proofs.Common.{lit≤, lit<}
use Rattle.vl_tree.specs.declared.operator.BinaryOperator.TheVariants as b
use Rattle.vl_tree.specs.declared.declaration.Direction.TheVariants as direction
use Rattle.vl_tree.specs.declared.declaration.NetKind.{NetKind}
use Rattle.vl_tree.specs.declared.declaration.NetKind.TheVariants as net
use Rattle.vl_tree.specs.declared.declaration.Port.{Port}
use Rattle.vl_tree.specs.declared.declaration.PortKind.TheVariants as port
use Rattle.vl_tree.specs.declared.declaration.Shape.{Shape}
use Rattle.vl_tree.specs.declared.declaration.ParameterKind.TheVariants as k
use Rattle.vl_tree.specs.declared.part.Connection.{Connection}
use Rattle.vl_tree.specs.declared.part.EventKind.TheVariants as e
use Rattle.vl_tree.specs.declared.source.Module.{Module}
use Rattle.vl_tree.specs.declared.stmt.AssignKind.TheVariants as a
use Rattle.vl_tree.specs.declared.stmt.CaseKind.TheVariants as kind
use Rattle.vl_tree.specs.Expr.{Expr, number, name, binary, whole, bit}
use Rattle.vl_tree.specs.Lval.{Lval, named, joined, no_lvals, more_lvals}
use Rattle.vl_tree.specs.Stmt as stmt
use Rattle.vl_tree.specs.Stmt.{Stmt, stmts, labels, default, no_arms}
use Rattle.vl_tree.specs.Item.{Item, declaration, always, assign, genvar, parameter, instance, for_loop, if_only}
use Rattle.vl_tree.specs.Item.{if_else, no_items, more_items, begin, single}
use Rattle.vl_size.specs.declared.decl.Class.TheVariants as class
use Rattle.vl_size.specs.declared.decl.Decl.{Decl}
use Rattle.vl_size.specs.Size.{Values}
use Rattle.vl_mean.specs.Constants.{number_of, cut_to}
use Rattle.vl_mean.specs.Execution.{State, begun, exec}
use Rattle.vl_mean.specs.FlatLaw.{flat_scopes}
use Rattle.vl_mean.specs.Scopes.{no_values}
use Rattle.vl_mean.specs.Parts.{Part, declares, here, plain, plain_target, design}

-- ---- pieces of text

-- a number of w bits
abbrev pub literal : ℕ → ℕ → Expr
literal w n = number here (number_of (cut_to w false n))

-- without size
abbrev pub decimal : ℕ → Expr
decimal n = number here (number_of (cut_to 32 true n))

abbrev pub scalar : Shape
scalar = record { signed = false; range = None }

-- `[left:0]`
abbrev pub bits : ℕ → Shape
bits left = record { signed = false; range = Some (record { pos = here; left = decimal left; right = decimal 0 }) }

abbrev pub input : List ℕ → Port
input text = record {
  pos = here;
  kind = port.Full (record {
    attributes = [];
    direction = direction.Input;
    net = None;
    shape = scalar;
    name = text;
    name_pos = here;
    value = None;
  });
}

abbrev pub declares_name : NetKind → Shape → List ℕ → Option Expr → Item
declares_name kind shape text value =
    declaration [] here (record {
      net = kind;
      shape = shape;
      names = record { pos = here; name = text; words = None; value = value } ∷ [];
    })

-- `always @(posedge clock) s`
abbrev pub at_clock : Stmt → Item
at_clock s = always [] here (record { pos = here; kind = e.Posedge (codes "clock") }) s

-- `always @* s`
abbrev pub at_any_change : Stmt → Item
at_any_change s = always [] here (record { pos = here; kind = e.Bare }) s

-- `target <= e;`
abbrev pub later : List ℕ → Expr → Stmt
later text e = stmt.assign [] here (plain_target text) a.Nonblocking e

abbrev pub plus : Expr → Expr → Expr
plus x y = binary here b.Add x y

abbrev pub module_of : List ℕ → List Port → List Item → Module
module_of text ports xs = record { pos = here; name = text; parameters = None; ports = Some ports; items = xs }

-- ---- a counter: `module counter(input clock, input reset); reg [1:0] q = 2; always @(posedge clock) q <= q + 1;`
-- `always @* assume (q); endmodule`

abbrev pub counter : Module
counter = module_of (codes "counter") (input (codes "clock") ∷ input (codes "reset") ∷ []) (
    declares_name net.Reg (bits 1) (codes "q") (Some (decimal 2))
    ∷ at_clock (later (codes "q") (plus (plain (codes "q")) (decimal 1)))
    ∷ at_any_change (stmt.assume [] here (plain (codes "q")))
    ∷ [])

abbrev pub counter_design : List Part
counter_design = design (counter ∷ []) (codes "counter")

-- the reset and the counter in a cycle
abbrev pub counts : ℕ → ℕ → Values
counts reset q text = if bytes_eq text (codes "q") then q else if bytes_eq text (codes "reset") then reset else 0

-- ---- a choice: `module choice(input c, input [1:0] x); reg [1:0] y; always @* begin y = 1; if (c) y = x; end
-- endmodule`

abbrev pub now : Lval → Expr → Stmt
now l e = stmt.assign [] here l a.Blocking e

abbrev pub vector_input : Shape → List ℕ → Port
vector_input shape text = record {
  pos = here;
  kind = port.Full (record {
    attributes = [];
    direction = direction.Input;
    net = None;
    shape = shape;
    name = text;
    name_pos = here;
    value = None;
  });
}

abbrev pub choice : Module
choice = module_of (codes "choice") (input (codes "c") ∷ vector_input (bits 1) (codes "x") ∷ []) (
    declares_name net.Reg (bits 1) (codes "y") None
    ∷ at_any_change (stmt.begin [] here None (stmts (
    now (plain_target (codes "y")) (decimal 1)
    ∷ stmt.if_only [] here (plain (codes "c")) (now (plain_target (codes "y")) (plain (codes "x")))
    ∷ [])))
    ∷ [])

abbrev pub choice_design : List Part
choice_design = design (choice ∷ []) (codes "choice")

abbrev pub chosen : ℕ → ℕ → ℕ → Values
chosen c x y text = if bytes_eq text (codes "c") then c else if bytes_eq text (codes "x") then x
    else if bytes_eq text (codes "y") then y else 0

-- ---- two blocks that exchange their values: `reg a, b; always @(posedge clock) a <= b; always @(posedge clock) b <=
-- a;`

abbrev pub exchange : Module
exchange = module_of (codes "exchange") (input (codes "clock") ∷ []) (
    declares_name net.Reg scalar (codes "a") None
    ∷ declares_name net.Reg scalar (codes "b") None
    ∷ at_clock (later (codes "a") (plain (codes "b")))
    ∷ at_clock (later (codes "b") (plain (codes "a")))
    ∷ [])

abbrev pub exchange_design : List Part
exchange_design = design (exchange ∷ []) (codes "exchange")

abbrev pub pair : ℕ → ℕ → Values
pair x y text = if bytes_eq text (codes "a") then x else if bytes_eq text (codes "b") then y else 0

-- ---- an instance in a generate loop:
-- `module top(output [1:0] o); genvar i; for (i = 0; i < 2; i = i + 1) begin : g is_one #(.K(i)) u (.y(o[i])); end
-- endmodule` `module is_one #(parameter K = 0) (output y); wire w; assign w = K == 1; assign y = w; endmodule`

abbrev pub equal : Expr → Expr → Expr
equal x y = binary here b.Equal x y

abbrev pub connection : List ℕ → Expr → Connection
connection port e = record { pos = here; port = port; value = Some e }

abbrev pub output : Shape → List ℕ → Port
output shape text = record {
  pos = here;
  kind = port.Full (record {
    attributes = [];
    direction = direction.Output;
    net = None;
    shape = shape;
    name = text;
    name_pos = here;
    value = None;
  });
}

abbrev pub assigns : List ℕ → Expr → Item
assigns text e = assign [] here (record { target = plain_target text; value = e } ∷ [])

-- `for (i = 0; i < turns; i = i + 1) begin : label x end`
abbrev pub loop : List ℕ → ℕ → List ℕ → Item → Item
loop i turns label x = for_loop [] here (record {
  variable = i;
  start = decimal 0;
  condition = binary here b.Less (plain i) (decimal turns);
  next_variable = i;
  next = plus (plain i) (decimal 1);
}) (begin here (Some label) (more_items x no_items))

abbrev pub is_one : Module
is_one = record {
  pos = here;
  name = codes "is_one";
  parameters = Some (record {
    keyword = true;
    parameter = record { pos = here; shape = scalar; name = codes "K"; value = decimal 0 };
  } ∷ []);
  ports = Some (output scalar (codes "y") ∷ []);
  items = declares_name net.Wire scalar (codes "w") None
      ∷ assigns (codes "w") (equal (plain (codes "K")) (decimal 1))
      ∷ assigns (codes "y") (plain (codes "w"))
      ∷ [];
}

abbrev pub bit_of_o : Expr
bit_of_o = name here (codes "o") (bit here (plain (codes "i")) whole)

abbrev pub looped : Module
looped = module_of (codes "top") (output (bits 1) (codes "o") ∷ []) (
    genvar [] here (codes "i" ∷ [])
    ∷ loop (codes "i") 2 (codes "g") (instance [] here (record {
      definition = codes "is_one";
      overrides = Some (connection (codes "K") (plain (codes "i")) ∷ []);
      name = codes "u";
      connections = connection (codes "y") bit_of_o ∷ [];
    }))
    ∷ [])

abbrev pub looped_design : List Part
looped_design = design (looped ∷ is_one ∷ []) (codes "top")

-- the outputs and the instances' names
abbrev pub turns : ℕ → ℕ → ℕ → Values
turns o zeroth first text =
    if bytes_eq text (codes "o") then o
    else if bytes_eq text (codes "g[0].u.y") || bytes_eq text (codes "g[0].u.w") then zeroth
    else if bytes_eq text (codes "g[1].u.y") || bytes_eq text (codes "g[1].u.w") then first
    else 0

-- ---- generate blocks without labels:
-- `module blocks; parameter P = 1; if (P == 2) wire a = 0; else if (P == 1) wire a = 1;`
-- `if (P == 1) begin if (P == 1) begin wire b = 1; end end wire genblk3; if (P == 1) wire c = genblk3; endmodule`

abbrev pub wire_with : List ℕ → Expr → Item
wire_with text e = declares_name net.Wire scalar text (Some e)

abbrev pub is_p : ℕ → Expr
is_p n = equal (plain (codes "P")) (decimal n)

abbrev pub blocks : Module
blocks = record {
  pos = here;
  name = codes "blocks";
  parameters = None;
  ports = None;
  items =
      parameter [] here k.Parameter (record { pos = here; shape = scalar; name = codes "P"; value = decimal 1 } ∷ [])
      ∷ if_else [] here (is_p 2) (single (wire_with (codes "a") (decimal 0))) (
      single (if_only [] here (is_p 1) (single (wire_with (codes "a") (decimal 1)))))
      ∷ if_only [] here (is_p 1) (begin here None (more_items (if_only [] here (is_p 1) (begin here None (more_items (
      wire_with (codes "b") (decimal 1)) no_items))) no_items))
      ∷ declares_name net.Wire scalar (codes "genblk3") None
      ∷ if_only [] here (is_p 1) (single (wire_with (codes "c") (plain (codes "genblk3"))))
      ∷ [];
}

abbrev pub blocks_design : List Part
blocks_design = design (blocks ∷ []) (codes "blocks")

-- the full names of all
abbrev pub full_names : List Part → List (List ℕ)
full_names [] = []
full_names (declares d ∷ ps) = d.name ∷ full_names ps
full_names (p ∷ ps) = full_names ps

abbrev pub in_blocks : ℕ → Values
in_blocks c text =
    if bytes_eq text (codes "genblk1.a") || bytes_eq text (codes "genblk2.genblk1.b")
    || bytes_eq text (codes "genblk3") then 1
    else if bytes_eq text (codes "genblk03.c") then c
    else 0

-- ---- a block: `reg [3:0] a, b, c, d; reg [7:0] m [0:3]; always @* begin {a, b} = 8'ha7; c <= a; c <= c + b; casez
-- (b) 4'b1???: d = 1;` `default: d = 2; 4'b01??: d = 3; endcase m[a - 9] = 5; assume (a); end`

abbrev pub nibble : List ℕ → Decl
nibble text = record {
  name = text;
  width = 4;
  signed = false;
  left = pos 3;
  right = pos 0;
  words = None;
  class = class.Variable;
  output = false;
}

abbrev pub block_decls : List Decl
block_decls = nibble (codes "a") ∷ nibble (codes "b") ∷ nibble (codes "c") ∷ nibble (codes "d") ∷ record {
  name = codes "m";
  width = 8;
  signed = false;
  left = pos 7;
  right = pos 0;
  words = Some (pos 0, pos 3);
  class = class.Variable;
  output = false;
} ∷ []

-- four bits, of which some are wild
abbrev pub wild : (value w : ℕ) → value < 2 ^ 4 → w < 2 ^ 4 → Expr
wild value w value_fits wild_fits = number here (record {
  sized = true;
  signed = false;
  width = 4;
  value = value;
  wild = w;
  unknown = 0;
  some_bits = lit≤ tt;
  few_bits = lit≤ tt;
  value_fits = value_fits;
  wild_fits = wild_fits;
  unknown_fits = lit< tt;
})

abbrev pub block : Stmt
block = stmt.begin [] here None (stmts (
    now (joined here (more_lvals (plain_target (codes "a")) (more_lvals (plain_target (codes "b")) no_lvals)))
    (literal 8 0xa7)
    ∷ later (codes "c") (plain (codes "a"))
    ∷ later (codes "c") (plus (plain (codes "c")) (plain (codes "b")))
    ∷ stmt.case [] here kind.Casez (plain (codes "b")) (
    labels here (wild 8 7 (lit< tt) (lit< tt) ∷ []) (now (plain_target (codes "d")) (decimal 1))
    (default here true (now (plain_target (codes "d")) (decimal 2)) (
    labels here (wild 4 3 (lit< tt) (lit< tt) ∷ []) (now (plain_target (codes "d")) (decimal 3)) no_arms)))
    ∷ now (named here (codes "m") (bit here (binary here b.Subtract (plain (codes "a")) (decimal 9)) whole))
    (decimal 5)
    ∷ stmt.assume [] here (plain (codes "a"))
    ∷ []))

-- what it makes of the values that are all 0
abbrev pub after_block : State
after_block = exec (flat_scopes block_decls) block (begun no_values)
