-- Meaning: Well formed targets. IEEE 1364-2005, section A.8.5.
use Rattle.vl_tree.specs.ExprWellFormed.{IsName, AreSelects}
use Rattle.vl_tree.specs.Lval.{Lval, Lvals, named, joined, no_lvals, more_lvals}

abbrev pub IsSome : Lvals → Type 0
IsSome no_lvals = ⊥
IsSome (more_lvals l ls) = Unit {0}

abbrev mutual
  pub IsWellFormed : Lval → Type 0
  IsWellFormed (named p text ss) = IsName text × AreSelects ss
  IsWellFormed (joined p ls) = IsSome ls × AreWellFormed ls

  pub AreWellFormed : Lvals → Type 0
  AreWellFormed no_lvals = Unit {0}
  AreWellFormed (more_lvals l ls) = IsWellFormed l × AreWellFormed ls
