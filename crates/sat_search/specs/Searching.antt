-- Between functions: What the search keeps: how the trail stands, what the steps so far come to, and what falls with
-- each round. Rules of this project.
use Rattle.std.specs.Prelude.{
  ℕ,
  zero,
  suc,
  ◌+◌,
  ◌*◌,
  ◌^◌,
  ◌≡◌,
  Bool,
  true,
  false,
  not,
  ◌&&◌,
  ◌||◌,
}
use Rattle.std.specs.Prelude.{if◌then◌else◌, List, [], ◌∷◌, ℤ, pos, length}
use Rattle.std.specs.List.{list_all}
use Rattle.cnf_form.specs.Cnf.{AreLiterals, AreClauses}
use Rattle.lrat_check.specs.Sets.{has, is_false}
use Rattle.lrat_check.specs.Steps.{is_empty}
use Rattle.lrat_check.specs.Resolved.{consistent}
use Rattle.sat_trail.specs.Trail.{Entries, lits, Stand, is_assigned}
use Rattle.sat_trail.specs.Known.{many}
use Rattle.sat_search.specs.Ledger.{State as Ledger, Tells}

-- how many of the variables up to one have no value
abbrev pub open_vars : ℕ → List ℤ → ℕ
open_vars zero set = 0
open_vars (suc n) set = (if is_assigned set (n + 1) then 0 else 1) + open_vars n set

-- both or neither
abbrev pub agrees : Bool → Bool → Bool
agrees true other = other
agrees false other = not other

-- one of so many variables, or its complement, is in one of the clauses alone
abbrev pub differ : ℕ → List ℤ → List ℤ → Bool
differ zero a b = false
differ (suc n) a b = not (agrees (has a (pos (n + 1))) (has b (pos (n + 1)))
    && agrees (is_false a (pos (n + 1))) (is_false b (pos (n + 1)))) || differ n a b

-- each two of the clauses differ so
abbrev pub Apart : ℕ → List (List ℤ) → Type 0
Apart vars [] = Unit {0}
Apart vars (c ∷ cs) = (list_all (differ vars c) cs ≡ true) × Apart vars cs

-- the trail stands over the clauses that are held; the steps so far derive clauses that were learnt, which differ from
-- one another, and as many more may be learnt as are left of the budget
pub record Searching (vars budget : ℕ) (formula : List (List ℤ)) (book : Ledger) (trail : Entries) (left : ℕ)
    : Type 0 where
  pub stand : Stand book.clauses trail
  pub known : AreLiterals vars (lits trail)
  pub learnt : List (List ℤ)
  pub told : Tells vars formula learnt book
  pub learnt_names : AreClauses vars learnt
  pub counted : length learnt + left ≡ budget
  pub some : list_all (λ c. not (is_empty c)) learnt ≡ true
  pub pairless : list_all consistent learnt ≡ true
  pub apart : Apart vars learnt

-- what falls with each clause: how many may still be learnt, and behind that how many were dropped and not learnt again
abbrev pub rank : ℕ → Ledger → ℕ
rank left book = left * 2 ^ 64 + many book.dropped

-- what falls with each round
abbrev pub rounds : ℕ → ℕ → Entries → ℕ
rounds vars rest trail = rest * (vars + 1) + open_vars vars (lits trail)
