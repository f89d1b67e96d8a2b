-- Between functions: A small simple wrapper. Rule of this project.
use Rattle.std.specs.Prelude.{List, [], ◌∷◌, codes}
use Rattle.vl_tree.specs.declared.operator.BinaryOperator.TheVariants as b
use Rattle.vl_tree.specs.declared.source.Module.{Module}
use Rattle.vl_tree.specs.Expr.{binary}
use Rattle.vl_mean_examples.specs.Examples.{assigns, bits, decimal, module_of, output, scalar, vector_input}
use Rattle.vl_mean.specs.Parts.{here, plain}

-- `module rvfi_wrapper(input [31:0] a, output b); assign b = a == 0; endmodule`
abbrev pub small : List Module
small =
    module_of (codes "rvfi_wrapper") (vector_input (bits 31) (codes "a") ∷ output scalar (codes "b") ∷ [])
    (assigns (codes "b") (binary here b.Equal (plain (codes "a")) (decimal 0)) ∷ []) ∷ []
