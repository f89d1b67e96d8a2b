-- One cycle more of a run.
use Rattle.std.specs.Prelude.{◌≡◌, ℕ, suc, ◌+◌, List, [], ◌∷◌, ◌++◌}
use Rattle.std.proofs.Common.{ap, sym, ◌∙◌, subst, add-one}
use Rattle.wn_net.specs.declared.parts.State.{State}
use Rattle.wn_net.specs.declared.names.NetName.{NetName}
use Rattle.wn_net.specs.Given.{IsGiven, given}
use Rattle.wn_net.specs.Net.{Netlist, IsNet, values_of}
use Rattle.wn_net.specs.Next.{next_state}
use Rattle.wn_run.specs.Runs.{Choices, AreChoicesOf, inputs_at, start_of, state_at}
use Rattle.wn_run.specs.Laws.{CyclesAreGiven, ChoicesMakeRuns}
use Rattle.tr_replay.specs.Traces.{name_values, first_cycles, cycle_of}
use Rattle.tr_replay.specs.Values.{all_by}
use Rattle.tr_replay.proofs.Each.{named_is}

-- the values by those of nodes are the values of names
pub shown_here : (net : Netlist) (ins : List ℕ) (s : State) (vs : List ℕ) (list : List NetName) (made : List ℕ)
    → vs ≡ values_of net (given ins s) → made ≡ all_by vs s.mems list → made ≡ name_values net (given ins s) list
shown_here net ins s vs list made is by =
    by ∙ ap (λ ws. all_by ws s.mems list) is ∙ sym (named_is net (given ins s) list)

-- the numbers of a cycle are those of the run
here_is : (net : Netlist) (ch : Choices) (k : ℕ) (ins : List ℕ) (s : State) → ins ≡ inputs_at net ch k
    → s ≡ state_at net (inputs_at net ch) (start_of net ch) k → given ins s ≡ cycle_of net ch k
here_is net ch k ins s i e =
    ap (λ xs. given xs s) i ∙ ap (λ t. given (inputs_at net ch k) t) e

pub given_here : (net : Netlist) (ch : Choices) (k : ℕ) (ins : List ℕ) (s : State) → CyclesAreGiven → ChoicesMakeRuns
    → IsNet net → AreChoicesOf net ch → ins ≡ inputs_at net ch k
    → s ≡ state_at net (inputs_at net ch) (start_of net ch) k → IsGiven net (given ins s)
given_here net ch k ins s cycles runs whole chosen i e =
    subst (IsGiven net) (sym (here_is net ch k ins s i e))
    (cycles net (inputs_at net ch) (start_of net ch) k whole (runs net ch whole chosen))

-- the state of the next cycle
pub next_here : (net : Netlist) (ch : Choices) (k : ℕ) (ins : List ℕ) (s t : State) → ins ≡ inputs_at net ch k
    → s ≡ state_at net (inputs_at net ch) (start_of net ch) k → t ≡ next_state net (given ins s)
    → t ≡ state_at net (inputs_at net ch) (start_of net ch) (k + 1)
next_here net ch k ins s t i e n =
    n ∙ ap (λ g. next_state net g) (here_is net ch k ins s i e)
    ∙ ap (λ j. state_at net (inputs_at net ch) (start_of net ch) j) (sym (add-one k))

-- the cycles up to it
pub cycles_here : (net : Netlist) (ch : Choices) (k : ℕ) (ins : List ℕ) (s : State) (list : List NetName)
    (row : List ℕ) (before after : List (List ℕ)) → ins ≡ inputs_at net ch k
    → s ≡ state_at net (inputs_at net ch) (start_of net ch) k → row ≡ name_values net (given ins s) list
    → before ≡ first_cycles net list (cycle_of net ch) k → after ≡ before ++ row ∷ []
    → after ≡ first_cycles net list (cycle_of net ch) (k + 1)
cycles_here net ch k ins s list row before after i e r b a =
    a ∙ ap (λ z. z ++ row ∷ []) b
    ∙ ap (λ z. first_cycles net list (cycle_of net ch) k ++ z ∷ [])
    (r ∙ ap (λ g. name_values net g list) (here_is net ch k ins s i e))
    ∙ ap (λ j. first_cycles net list (cycle_of net ch) j) (sym (add-one k))
