-- Meaning: What a statement does: the values after it, the bits that it leaves pending, and the numbers that it
-- assumes. IEEE 1364-2005, clause 9; `assume`, and that values have no unknown bits, are rules of this project.
use Rattle.std.specs.Prelude.{
  ℕ,
  ◌==◌,
  max,
  List,
  [],
  ◌∷◌,
  ◌++◌,
  length,
  Bool,
  true,
  false,
  ◌&&◌,
  ◌||◌,
  bit_or,
}
use Rattle.std.specs.Prelude.{if◌then◌else◌}
use Rattle.vl_tree.specs.declared.stmt.CaseKind.{CaseKind}
use Rattle.vl_tree.specs.declared.stmt.CaseKind.TheVariants as c
use Rattle.vl_tree.specs.declared.stmt.AssignKind.TheVariants as a
use Rattle.vl_tree.specs.Expr.{Expr, number}
use Rattle.vl_tree.specs.Lval.{Lval}
use Rattle.vl_tree.specs.Stmt.{
  Stmt,
  Stmts,
  Arms,
  begin,
  if_only,
  if_else,
  case,
  assign,
  assume,
  empty,
  no_stmts,
  more_stmts,
  no_arms,
  labels,
  default,
}
use Rattle.fv_bits.specs.Bits.{extended}
use Rattle.vl_size.specs.Size.{Values, own, is_true}
use Rattle.vl_mean.specs.Scopes.{Scope, operand_in, no_values}
use Rattle.vl_mean.specs.Targets.{Write, spots, written, put_all, may_change}

-- in the midst of a block: the values of full names, the bits that wait for the block's end, and what was assumed
pub record State : Type 0 where
  pub now : Values
  pub pending : List Write
  pub seen : List ℕ

-- at a block's begin
abbrev pub begun : Values → State
begun v = record { now = v; pending = []; seen = [] }

-- the values when the block has ended: section 9.2.2
abbrev pub ended : State → Values
ended t = put_all t.pending t.now

-- the wild bits of a label, in w bits, extended like a number
abbrev pub wild_bits : CaseKind → ℕ → Bool → Expr → ℕ
wild_bits c.Casez w s (number p n) = extended n.width w s n.wild
wild_bits kind w s e = 0

-- the bits of the target, in its scopes, get those of the expression, in its own, which has its own sign and the
-- larger of both sizes: section 5.4
abbrev pub assigned : List Scope → Lval → List Scope → Expr → Values → List Write
assigned ts l ss e v =
    let bits = spots ts v l in let x = operand_in ss v e in written bits (x.at (max (length bits) x.size) x.sign)

module _ (ss : List Scope) where
  -- ---- labels of a case: section 9.5

  -- the largest size, and whether all are signed; neither needs values
  abbrev pub labels_size : List Expr → ℕ
  labels_size [] = 0
  labels_size (e ∷ es) = max (operand_in ss no_values e).size (labels_size es)

  abbrev pub labels_sign : List Expr → Bool
  labels_sign [] = true
  labels_sign (e ∷ es) = (operand_in ss no_values e).sign && labels_sign es

  abbrev pub arms_size : Arms → ℕ
  arms_size no_arms = 0
  arms_size (labels p es s arms) = max (labels_size es) (arms_size arms)
  arms_size (default p colon s arms) = arms_size arms

  abbrev pub arms_sign : Arms → Bool
  arms_sign no_arms = true
  arms_sign (labels p es s arms) = labels_sign es && arms_sign arms
  arms_sign (default p colon s arms) = arms_sign arms

  -- one of the labels has the number x, but for its wild bits
  abbrev pub matches : CaseKind → Values → ℕ → Bool → ℕ → List Expr → Bool
  matches kind v w s x [] = false
  matches kind v w s x (e ∷ es) =
      let wild = wild_bits kind w s e in
      (bit_or ((operand_in ss v e).at w s) wild == bit_or x wild) || matches kind v w s x es

  abbrev mutual
    pub exec : Stmt → State → State
    exec (begin attrs p label xs) t = exec_all xs t
    exec (if_only attrs p e x) t = let done = exec x t in if is_true (operand_in ss t.now e) then done else t
    exec (if_else attrs p e x y) t =
        let first = exec x t in let second = exec y t in if is_true (operand_in ss t.now e) then first else second
    exec (case attrs p kind e arms) t =
        let x = operand_in ss t.now e in
        let w = max x.size (arms_size arms) in
        let s = x.sign && arms_sign arms in
        pick arms (λ es. matches kind t.now w s (x.at w s) es) (λ u. otherwise arms u) t
    exec (assign attrs p l a.Blocking e) t = record t { now = put_all (assigned ss l ss e t.now) t.now }
    exec (assign attrs p l a.Nonblocking e) t = record t { pending = t.pending ++ assigned ss l ss e t.now }
    exec (assume attrs p e) t = record t { seen = t.seen ++ own (operand_in ss t.now e) ∷ [] }
    exec (empty attrs p) t = t

    pub exec_all : Stmts → State → State
    exec_all no_stmts t = t
    exec_all (more_stmts x xs) t = exec_all xs (exec x t)

    -- the first arm with a label that matches, or else what is done otherwise
    pub pick : Arms → (List Expr → Bool) → (State → State) → State → State
    pick no_arms test other t = other t
    pick (labels p es x arms) test other t =
        let here = exec x t in let there = pick arms test other t in if test es then here else there
    pick (default p colon x arms) test other t = pick arms test other t

    -- the default arm, wherever it stands
    pub otherwise : Arms → State → State
    otherwise no_arms t = t
    otherwise (labels p es x arms) t = otherwise arms t
    otherwise (default p colon x arms) t = exec x t

  -- ---- some assignment of the statement may change a bit of a cell

  abbrev mutual
    pub assigns : Stmt → List ℕ → ℕ → Bool
    assigns (begin attrs p label xs) n k = any_assigns xs n k
    assigns (if_only attrs p e x) n k = assigns x n k
    assigns (if_else attrs p e x y) n k = assigns x n k || assigns y n k
    assigns (case attrs p kind e arms) n k = arms_assign arms n k
    assigns (assign attrs p l kind e) n k = may_change ss l n k
    assigns (assume attrs p e) n k = false
    assigns (empty attrs p) n k = false

    pub any_assigns : Stmts → List ℕ → ℕ → Bool
    any_assigns no_stmts n k = false
    any_assigns (more_stmts x xs) n k = assigns x n k || any_assigns xs n k

    pub arms_assign : Arms → List ℕ → ℕ → Bool
    arms_assign no_arms n k = false
    arms_assign (labels p es x arms) n k = assigns x n k || arms_assign arms n k
    arms_assign (default p colon x arms) n k = assigns x n k || arms_assign arms n k
