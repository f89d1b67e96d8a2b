-- Between functions: What a contract sees of a target of the program: the plain tree, without its pointers. Rule of
-- this project.
use Rattle.fv_text.specs.declared.pos.Pos.{Pos}
use Rattle.vl_tree.specs.declared.lval.LvalKind.{LvalKind}
use Rattle.vl_tree.specs.declared.lval.LvalKind.TheVariants as k
use Rattle.vl_tree.specs.ExprView.{selects}
use Rattle.vl_tree.specs.Lval.{Lval, named, joined, lvals}

abbrev pub shown : Pos → LvalKind → Lval
shown p (k.Name text ss) = named p text (selects ss)
shown p (k.Concat ls) = joined p (lvals ls)
