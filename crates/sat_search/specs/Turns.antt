-- Between functions: What a search keeps from one turn to the next, and what a turn comes to. Rules of this project.
use Rattle.std.specs.Prelude.{ℕ, ◌^◌, ◌<◌, ◌≡◌, ◌⊎◌, Bool, true, List, ℤ, length}
use Rattle.lrat_check.specs.Texts.{AreShort}
use Rattle.cnf_form.specs.Cnf.{formula_true, value_of}
use Rattle.lrat_check.specs.declared.step.Step.{Step}
use Rattle.lrat_check.specs.Steps.{Refutes, Valid, AreSteps}
use Rattle.lrat_check.specs.Resolved.{Resolved, derived}
use Rattle.sat_trail.specs.Trail.{Entries, lits, values_of}
use Rattle.sat_propagate.specs.declared.unit_scan.Scan.{Scan}
use Rattle.sat_propagate.specs.Propagation.{Taken, Sees, Holds, HoldsOn}
use Rattle.sat_search.specs.declared.turn.Turn.{Turn}
use Rattle.sat_search.specs.declared.turn.Turn.TheVariants as turn
use Rattle.sat_learn.specs.Learning.{Learns}
use Rattle.sat_trail.specs.Known.{many}
use Rattle.sat_search.specs.Added.{AreAdded}
use Rattle.sat_search.specs.Ledger.{State as Ledger, Adds}
use Rattle.sat_search.specs.Found.{EndsEmpty, nonempty}
use Rattle.sat_search.specs.Searching.{Searching, rank, rounds}

-- so many variables; the clauses and steps; what is true; how many clauses may still be learnt; what is watched
pub record State : Type 0 where
  pub vars : ℕ
  pub ledger : Ledger
  pub trail : Entries
  pub left : ℕ
  pub taken : Taken

-- it searches in the formula, with so many clauses to learn in all, of which some are left
pub record Keeps (budget : ℕ) (formula : List (List ℤ)) (s : State) : Type 0 where
  pub searching : Searching s.vars budget formula s.ledger s.trail s.left
  pub holds : Holds s.ledger.clauses s.trail s.taken
  pub some : 0 < s.left

-- so it is for some formula
abbrev pub IsSearch : State → Type 0
IsSearch s = (budget : ℕ) × (formula : List (List ℤ)) × Keeps budget formula s

-- what a look at the clauses found
abbrev pub Looked : State → Scan → Type 0
Looked s found = Sees s.ledger.clauses (lits s.trail) found × HoldsOn s.ledger.clauses s.trail s.taken found

-- the state with these clauses and steps, this trail, and so many clauses left to learn
abbrev pub with_ledger : State → Ledger → Entries → ℕ → State
with_ledger s ledger trail left = record {
  vars = s.vars;
  ledger = ledger;
  trail = trail;
  left = left;
  taken = s.taken;
}

-- a clause is learnt, and may be new
pub record Learned (s now : State) (is_new : Bool) : Type 0 where
  pub clause : List ℤ
  pub hints : List ℤ
  pub learns : Learns s.ledger.clauses clause hints s.trail now.trail
  pub adds : Adds s.ledger now.ledger clause hints is_new
  pub same : now ≡ with_ledger s now.ledger now.trail s.left

-- the search goes on, with as many clauses left to learn; if others were dropped than before, they are fewer than
-- 2 ^ 63
pub record GoesOn (s now : State) : Type 0 where
  pub vars_are : now.vars ≡ s.vars
  pub left_is : now.left ≡ s.left
  pub few : (many now.ledger.dropped ≡ many s.ledger.dropped) ⊎ (many now.ledger.dropped < 2 ^ 63)
  pub keeps : (budget : ℕ) (formula : List (List ℤ)) → Keeps budget formula s → Keeps budget formula now

-- the steps refute the formula, with fewer clauses than the budget
pub record IsRefuted (budget : ℕ) (formula : List (List ℤ)) (vars : ℕ) (steps : List Step) : Type 0 where
  pub id : ℕ
  pub refutes : Refutes formula steps id
  pub last : EndsEmpty steps id
  pub fewer : length (nonempty (derived formula steps)) < budget
  pub added : AreAdded vars steps
  pub are_steps : AreSteps steps
  pub short : vars < 10 ^ 18 → AreShort steps

-- the steps derive as many clauses as the budget
pub record IsSpent (budget : ℕ) (formula : List (List ℤ)) (vars : ℕ) (steps : List Step) : Type 0 where
  pub valid : Valid formula steps
  pub resolved : Resolved formula steps
  pub spent : length (derived formula steps) ≡ budget
  pub bound : budget < 3 ^ vars
  pub added : AreAdded vars steps
  pub are_steps : AreSteps steps
  pub short : vars < 10 ^ 18 → AreShort steps

-- what falls with each turn
abbrev pub turns_left : State → ℕ
turns_left s = rounds s.vars (rank s.left s.ledger) s.trail

-- what a turn comes to
abbrev pub ComesTo : ℕ → List (List ℤ) → State → State → Turn → Type 0
ComesTo budget formula s now turn.On = Keeps budget formula now × (turns_left now < turns_left s)
ComesTo budget formula s now turn.Satisfied =
    formula_true (value_of (values_of now.vars (lits now.trail))) formula ≡ true
ComesTo budget formula s now turn.Refuted = IsRefuted budget formula now.vars now.ledger.steps
ComesTo budget formula s now turn.Spent = IsSpent budget formula now.vars now.ledger.steps

-- so it is whatever the formula, and the variables stay the same
abbrev pub Turns : State → State → Turn → Type 0
Turns s now came = (now.vars ≡ s.vars)
    × ((budget : ℕ) (formula : List (List ℤ)) → Keeps budget formula s → ComesTo budget formula s now came)
