-- A branch is a choice of two fields.
use Rattle.std.specs.Prelude.{◌≡◌, refl, Bool, true, false}
use Rattle.rv_table.specs.declared.step.Step.{Step}
use Rattle.rv_table.specs.Arithmetic.{sum}
use Rattle.rv_table.specs.Immediates.{b_immediate}
use Rattle.rv_table.specs.Effect.{gives, branches}
use Rattle.rv_rows.specs.Effects.{goes_where}

pub branches_is : (x : Step) (taken : Bool)
    → goes_where x taken (sum x.pc (b_immediate x.word)) (gives x 0) ≡ branches x taken
unfolding branches
branches_is x true = refl
branches_is x false = refl
