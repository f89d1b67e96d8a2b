-- Between functions: Small designs without hierarchy, each with drivers that are refused, or with one that is easily
-- refused and isn't. Rule of this project.
use Rattle.std.specs.Prelude.{ℕ, ◌+◌, List, [], ◌∷◌, true, false, Some, None, pos, codes}
use Rattle.fv_text.specs.declared.pos.Pos.{Pos}
use Rattle.vl_tree.specs.declared.operator.BinaryOperator.TheVariants as op
use Rattle.vl_tree.specs.declared.operator.UnaryOperator.TheVariants as u
use Rattle.vl_tree.specs.declared.stmt.AssignKind.TheVariants as way
use Rattle.vl_tree.specs.declared.stmt.CaseKind.TheVariants as kind
use Rattle.vl_tree.specs.Expr.{Expr, number, name, unary, binary, concat, none, more, whole, bit, part, indexed}
use Rattle.vl_tree.specs.Lval.{Lval, named, joined, no_lvals, more_lvals}
use Rattle.vl_tree.specs.Stmt as stmt
use Rattle.vl_tree.specs.Stmt.{Stmt, stmts, labels, no_arms}
use Rattle.vl_size.specs.declared.decl.Class.{Class}
use Rattle.vl_size.specs.declared.decl.Class.TheVariants as class
use Rattle.vl_size.specs.declared.decl.Decl.{Decl}
use Rattle.vl_mean.specs.declared.driver.Driver.{Driver}
use Rattle.vl_mean.specs.declared.driver.DriverKind.TheVariants as k
use Rattle.vl_mean.specs.Constants.{cut_to, number_of}
use Rattle.vl_mean.specs.Parts.{here, plain, plain_target}

-- ---- pieces

-- the first column of a line
abbrev pub at_line : ℕ → Pos
at_line n = record { file = 1; line = n; col = 1 }

abbrev pub a : List ℕ
a = codes "a"

abbrev pub b : List ℕ
b = codes "b"

abbrev pub c : List ℕ
c = codes "c"

abbrev pub m : List ℕ
m = codes "m"

-- `[n:0]`
abbrev of_bits : Class → ℕ → List ℕ → Decl
of_bits class n text = record {
  name = text;
  width = n + 1;
  signed = false;
  left = pos n;
  right = pos 0;
  words = None;
  class = class;
  output = false;
}

-- nets and variables of two bits, and the clock
abbrev pub net : List ℕ → Decl
net text = of_bits class.Net 1 text

abbrev pub variable : List ℕ → Decl
variable text = of_bits class.Variable 1 text

abbrev pub input : List ℕ → Decl
input text = of_bits class.Input 1 text

abbrev pub free : List ℕ → Decl
free text = of_bits class.EachCycle 1 text

-- two words of two bits
abbrev pub memory : List ℕ → Decl
memory text = record (variable text) { words = Some (pos 0, pos 1) }

-- a number of w bits
abbrev pub literal : ℕ → ℕ → Expr
literal w n = number here (number_of (cut_to w false n))

abbrev pub decimal : ℕ → Expr
decimal n = number here (number_of (cut_to 32 true n))

abbrev pub bit_of : List ℕ → Expr → Expr
bit_of text i = name here text (bit here i whole)

abbrev pub to_bit : List ℕ → Expr → Lval
to_bit text i = named here text (bit here i whole)

-- `text[i][j]`, of a memory
abbrev pub bit_of_word : List ℕ → Expr → Expr → Expr
bit_of_word text i j = name here text (bit here i (bit here j whole))

abbrev pub to_bit_of_word : List ℕ → Expr → Expr → Lval
to_bit_of_word text i j = named here text (bit here i (bit here j whole))

-- `text[i][start +: 1]`
abbrev pub part_of_word : List ℕ → Expr → Expr → Expr
part_of_word text i start = name here text (bit here i (indexed here start (decimal 1) whole))

-- `text[left:right]`
abbrev pub to_part : List ℕ → ℕ → ℕ → Lval
to_part text left right = named here text (part here (decimal left) (decimal right) whole)

abbrev pub to_both : Lval → Lval → Lval
to_both l r = joined here (more_lvals l (more_lvals r no_lvals))

abbrev pub both : Expr → Expr → Expr
both x y = concat here (more x (more y none))

abbrev pub plus : Expr → Expr → Expr
plus x y = binary here op.Add x y

abbrev pub product : Expr → Expr → Expr
product x y = binary here op.Multiply x y

abbrev pub less : Expr → Expr → Expr
less x y = binary here op.Less x y

abbrev pub equal : Expr → Expr → Expr
equal x y = binary here op.Equal x y

abbrev pub any_bit : Expr → Expr
any_bit x = unary here u.ReductionOr x

abbrev pub now : Lval → Expr → Stmt
now l e = stmt.assign [] here l way.Blocking e

abbrev pub later : Lval → Expr → Stmt
later l e = stmt.assign [] here l way.Nonblocking e

abbrev pub each : List Stmt → Stmt
each xs = stmt.begin [] here None (stmts xs)

abbrev pub under : Expr → Stmt → Stmt
under e x = stmt.if_only [] here e x

-- on its line
abbrev pub assigns : ℕ → Lval → Expr → Driver
assigns line l e = record { pos = at_line line; what = k.Assign l e }

abbrev pub always : ℕ → Stmt → Driver
always line x = record { pos = at_line line; what = k.Comb x }

abbrev pub at_clock : ℕ → Stmt → Driver
at_clock line x = record { pos = at_line line; what = k.Clocked x }

-- one name gets the value of another
abbrev pub copies : ℕ → List ℕ → List ℕ → Driver
copies line to from = assigns line (plain_target to) (plain from)

-- `to = {from[0], 1'b0}`
abbrev pub high : ℕ → List ℕ → List ℕ → Driver
high line to from = assigns line (plain_target to) (both (bit_of from (decimal 0)) (literal 1 0))

-- `to = {1'b0, from[0]}`
abbrev pub low : ℕ → List ℕ → List ℕ → Driver
low line to from = assigns line (plain_target to) (both (literal 1 0) (bit_of from (decimal 0)))

-- ---- a block that has two values of a condition of one bit, and no default

abbrev pub two_labels : Stmt
two_labels = stmt.case [] here kind.Case (bit_of b (decimal 0))
    (labels here (decimal 0 ∷ []) (now (plain_target a) (decimal 0))
    (labels here (decimal 1 ∷ []) (now (plain_target a) (decimal 1)) no_arms))

-- a variable that is first set, then changed where a condition holds
abbrev pub first_set : Stmt
first_set =
    each (now (plain_target a) (decimal 0)
    ∷ under (plain b) (now (to_bit a (decimal 0)) (bit_of a (decimal 1)))
    ∷ [])
