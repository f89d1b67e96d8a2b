-- What an instance gives to its module.
use Rattle.std.specs.Prelude.{◌≡◌, ℕ, List, Option}
use Rattle.std.proofs.Common.{subst}
use Rattle.vl_tree.specs.declared.part.Connection.{Connection}
use Rattle.vl_tree.specs.declared.part.Instance.{Instance}
use Rattle.vl_tree.specs.Expr.{Expr}
use Rattle.vl_mean.specs.Scopes.{Scope}
use Rattle.vl_mean.specs.Walk.{has_any}
use Rattle.vl_mean.specs.Walk.{connections_of, overrides_of, use_of}
use Rattle.vl_elab_const.specs.declared.given.Value.{Value}
use Rattle.vl_elab_const.specs.Given.{IsGiven}

pub instance_given : (given : List ℕ → Option Value) (ss : List Scope) (xs : List Connection) (x : Instance)
    → xs ≡ connections_of x.overrides → IsGiven given (overrides_of has_any ss xs)
    → IsGiven given (use_of has_any ss x).overrides
instance_given given ss xs x e h = subst (λ ys. IsGiven given (overrides_of has_any ss ys)) e h
