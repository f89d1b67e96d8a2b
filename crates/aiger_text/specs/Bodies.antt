-- Between functions: What the reader keeps while it goes over the lines behind the header. Rule of this project.
use Rattle.std.specs.Prelude.{ℕ, ◌≡◌, List, [], ◌∷◌, map, Result, Ok, Err}
use Rattle.aiger_text.specs.declared.fault.AagFault.{AagFault}
use Rattle.aiger_text.specs.declared.inputs.Inputs.{Inputs}
use Rattle.aiger_text.specs.declared.body.Body.{Body}
use Rattle.aiger_text.specs.Faults.{OrMemory}
use Rattle.aiger_text.specs.Said.{Said, variable, variables}

-- words of which there are not three
abbrev pub AreNotThree : List (List ℕ) → Type 0
AreNotThree ws = (a b c : List ℕ) → ws ≡ a ∷ b ∷ c ∷ [] → ⊥

abbrev pub said_of : Body → Said
said_of b = record { inputs = b.inputs.items; output = b.output; gates = b.gates.items }

-- the set has the variables, in their order
abbrev pub AreInputs : Inputs → Type 0
AreInputs i = i.variables.keys ≡ map variable i.literals.items

abbrev pub IsBody : Body → Type 0
IsBody b = b.variables.keys ≡ variables (said_of b)

-- how far the reader came, or why it did not
abbrev pub InputsGo : Inputs → Result (Unit {0}) AagFault → Result (List ℕ) AagFault → Type 0
InputsGo now (Ok u) wanted = AreInputs now × (wanted ≡ Ok now.literals.items)
InputsGo now (Err e) wanted = OrMemory e (wanted ≡ Err e)

abbrev pub Goes : Body → Result (Unit {0}) AagFault → Result Said AagFault → Type 0
Goes now (Ok u) wanted = IsBody now × (wanted ≡ Ok (said_of now))
Goes now (Err e) wanted = OrMemory e (wanted ≡ Err e)

-- what was read is what the lines say
abbrev pub Reads : Result Body AagFault → Result Said AagFault → Type 0
Reads (Ok b) wanted = IsBody b × (wanted ≡ Ok (said_of b))
Reads (Err e) wanted = OrMemory e (wanted ≡ Err e)
