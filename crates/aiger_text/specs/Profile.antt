-- Meaning: Which graph a text says, behind what its lines say (AIGER; Biere, 2007, section 2): the variables that no
-- line defines, the gates that depend on themselves, and the value of the output. Which of them is refused, and at
-- which line, is a rule of this project.
use Rattle.std.specs.Prelude.{
  ◌≡◌,
  ℕ,
  ◌+◌,
  ◌<◌,
  Bool,
  true,
  false,
  ◌&&◌,
  ◌||◌,
  ◌⊎◌,
  ◌==◌,
  nat_eq,
  if◌then◌else◌,
  List,
  [],
  ◌∷◌,
}
use Rattle.std.specs.Prelude.{length, slice_get, Option, Some, None, Result, Ok, Err}
use Rattle.std.specs.List.{list_any}
use Rattle.bb_aig.specs.declared.node.AigNode.{AigNode}
use Rattle.bb_aig.specs.declared.node.AigNode.TheVariants as n
use Rattle.bb_aig.specs.Graph.{is_negated, turned, inputs_of, IsLit, lit_at}
use Rattle.aiger_text.specs.declared.fault.AagFault.{AagFault}
use Rattle.aiger_text.specs.declared.fault.AagFault.TheVariants.{Undefined, Loop}
use Rattle.aiger_text.specs.declared.gate.Gate.{Gate}
use Rattle.aiger_text.specs.Faults.{OrMemory}
use Rattle.aiger_text.specs.Said.{Said, variable, variables, said_by}

-- ---- variables that no line defines

-- a literal of a variable that lines define, or 0 or 1, which are constant
abbrev pub is_known : List ℕ → ℕ → Bool
is_known vs literal = (variable literal == 0) || list_any (nat_eq (variable literal)) vs

-- the line of the first gate that uses another variable
abbrev pub unknown_line : List ℕ → List Gate → Option ℕ
unknown_line vs [] = None
unknown_line vs (g ∷ gs) = if is_known vs g.left && is_known vs g.right then unknown_line vs gs else Some g.line

-- the first line that uses a variable that no line defines, the output's before those of gates
abbrev pub undefined_line : Said → Option ℕ
undefined_line said =
    if is_known (variables said) said.output.literal then unknown_line (variables said) said.gates
    else Some said.output.line

-- ---- gates that depend on themselves

-- gate k uses the variable that gate j defines
pub record Needs (gates : List Gate) (k j : ℕ) : Type 0 where
  pub user : Gate
  pub used : Gate
  pub user_is : slice_get gates k ≡ Some user
  pub used_is : slice_get gates j ≡ Some used
  pub uses : (variable user.left ≡ variable used.literal) ⊎ (variable user.right ≡ variable used.literal)

-- each uses the next one, and the last one the goal
abbrev pub LeadsTo : List Gate → ℕ → ℕ → List ℕ → Type 0
LeadsTo gates goal k [] = Needs gates k goal
LeadsTo gates goal k (j ∷ js) = Needs gates k j × LeadsTo gates goal j js

-- the gate needs itself, at once or over others
abbrev pub DependsOnItself : List Gate → ℕ → Type 0
DependsOnItself gates k = (others : List ℕ) × LeadsTo gates k k others

-- the first such gate stands in this line
pub record IsLoop (gates : List Gate) (line : ℕ) : Type 0 where
  pub place : ℕ
  pub gate : Gate
  pub gate_is : slice_get gates place ≡ Some gate
  pub line_is : gate.line ≡ line
  pub depends : DependsOnItself gates place
  pub first : (j : ℕ) → j < place → DependsOnItself gates j → ⊥

-- ---- values

-- the value of a literal, by the values of variables
abbrev pub literal_value : (ℕ → Bool) → ℕ → Bool
literal_value v literal = turned (is_negated literal) (v (variable literal))

-- the values of variables are those that the text says, where the inputs have these values: 0 is false, and the
-- variable of a gate is both of its literals
pub record Meets (said : Said) (x v : ℕ → Bool) : Type 0 where
  pub constant : v 0 ≡ false
  pub inputs : (k literal : ℕ) → slice_get said.inputs k ≡ Some literal → v (variable literal) ≡ x k
  pub gates : (k : ℕ) (g : Gate) → slice_get said.gates k ≡ Some g
      → v (variable g.literal) ≡ (literal_value v g.left && literal_value v g.right)

-- the output's value, where the inputs have these values: there are values of the variables that the text says, and in
-- all of them the output has this value
pub record IsOutput (said : Said) (x : ℕ → Bool) (value : Bool) : Type 0 where
  pub some : (v : ℕ → Bool) × Meets said x v
  pub same : (v : ℕ → Bool) → Meets said x v → literal_value v said.output.literal ≡ value

-- ---- what is read

-- the text says a graph
pub record IsOfProfile (bytes : List ℕ) (said : Said) : Type 0 where
  pub says : said_by bytes ≡ Ok said
  pub defined : undefined_line said ≡ None
  pub in_order : (k : ℕ) → DependsOnItself said.gates k → ⊥

-- the cause of a refusal: a line, the first use of a variable that no line defines, or the first gate that depends on
-- itself
pub data HasCause (bytes : List ℕ) (e : AagFault) : Type 0 where
  in_line : said_by bytes ≡ Err e → HasCause bytes e
  in_use : (said : Said) (line : ℕ) → said_by bytes ≡ Ok said → undefined_line said ≡ Some line → e ≡ Undefined line
      → HasCause bytes e
  in_loop : (said : Said) (line : ℕ) → said_by bytes ≡ Ok said → undefined_line said ≡ None → IsLoop said.gates line
      → e ≡ Loop line → HasCause bytes e

-- the root of the graph has the output's value for all values of the inputs, which are its first nodes in order; behind
-- them is a node for each gate
pub record IsGraphOf (said : Said) (graph : List AigNode) (root : ℕ) : Type 0 where
  pub count : inputs_of graph ≡ length said.inputs
  pub inputs : (k : ℕ) → k < length said.inputs → slice_get graph (k + 1) ≡ Some (n.Input k)
  pub nodes : length graph ≡ 1 + length said.inputs + length said.gates
  pub literal : IsLit graph root
  pub output : (x : ℕ → Bool) → IsOutput said x (lit_at graph x root)

abbrev pub IsReadGraph : Said → List AigNode × ℕ → Type 0
IsReadGraph said found = IsGraphOf said found.0 found.1

-- what is answered of a text that says a graph, or why it says none; want of memory has no cause
abbrev pub Answers : {X : Type 0} → (Said → X → Type 0) → List ℕ → Result X AagFault → Type 0
Answers P bytes (Ok x) = (said : Said) × IsOfProfile bytes said × P said x
Answers P bytes (Err e) = OrMemory e (HasCause bytes e)

-- the answer is this refusal, or want of memory
abbrev pub IsRefusedBy : {X : Type 0} → AagFault → Result X AagFault → Type 0
IsRefusedBy e (Ok x) = ⊥
IsRefusedBy e (Err f) = OrMemory f (f ≡ e)

-- the text says the graph: it has as many inputs, and its output is the root, for all values of the inputs in order
abbrev pub SaysGraph : List ℕ → List AigNode → ℕ → Type 0
SaysGraph bytes graph root = (said : Said) × IsOfProfile bytes said × (length said.inputs ≡ inputs_of graph)
    × ((x : ℕ → Bool) → IsOutput said x (lit_at graph x root))
