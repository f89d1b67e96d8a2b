-- Between functions: What the reader keeps while it goes over a clause file. Rule of this project.
use Rattle.std.specs.Prelude.{ℕ, ◌≡◌, Result, Ok, Err}
use Rattle.cnf_form.specs.Cnf.{AreLiterals}
use Rattle.cnf_text.specs.declared.body.Body.{Body}
use Rattle.cnf_text.specs.declared.header.Sizes.{Sizes}
use Rattle.cnf_text.specs.declared.fault.DimacsFault.{DimacsFault}
use Rattle.cnf_text.specs.declared.fault.DimacsFault.TheVariants.{Memory}
use Rattle.cnf_text.specs.Dimacs as d

abbrev pub body_of : Body → d.Body
body_of b = record { clauses = b.formula.clauses; clause = b.clause.items; last = b.last }

-- the open clause is one of the formula's variables
pub record IsBody (vars : ℕ) (b : Body) : Type 0 where
  pub vars_are : b.formula.vars ≡ vars
  pub literals : AreLiterals vars b.clause.items

-- how far the body came, or why it did not
abbrev pub Goes : ℕ → Body → Result (Unit {0}) DimacsFault → Result d.Body DimacsFault → Type 0
Goes vars now (Ok u) wanted = IsBody vars now × (wanted ≡ Ok (body_of now))
Goes vars now (Err e) wanted = d.OrMemory e (wanted ≡ Err e)

abbrev pub OnlyMemory : {X : Type 0} → Result X DimacsFault → Type 0
OnlyMemory (Ok x) = Unit {0}
OnlyMemory (Err e) = e ≡ Memory

abbrev pub sizes_of : Sizes → ℕ × ℕ
sizes_of s = (s.vars, s.count)
