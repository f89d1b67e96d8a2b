-- Between functions: Registers that tell of the cycles before (rule of this project).
use Rattle.std.specs.Prelude.{◌≡◌, ◌==◌, ℕ, zero, suc, Bool, true, false, not, ◌&&◌, ◌||◌, List, [], ◌∷◌}
use Rattle.wn_net.specs.Net.{Netlist, IsNodeOf, value_at}
use Rattle.wn_run.specs.Runs.{Choices, AreChoicesOf}
use Rattle.bm_induct.specs.StepRuns.{run_cycle}
use Rattle.ck_history.specs.Truths.{is_one}
use Rattle.ck_history.specs.Lines.{AddsKnown}
use Rattle.bm_induct.specs.declared.past.Past.{Past}

-- in all of the first k cycles, and in some of them
abbrev pub in_all : (ℕ → Bool) → ℕ → Bool
in_all holds zero = true
in_all holds (suc k) = in_all holds k && holds k

abbrev pub in_some : (ℕ → Bool) → ℕ → Bool
in_some holds zero = false
in_some holds (suc k) = in_some holds k || holds k

-- in each cycle of each run the first node tells of a node's cycles before, and the second one of this cycle too
abbrev pub TellPast : ((ℕ → Bool) → ℕ → Bool) → Netlist → ℕ → Past → Type 0
TellPast told net holds past =
    (ch : Choices) (k : ℕ) → AreChoicesOf net ch
    → (is_one net (run_cycle net ch k) past.before ≡ told (λ j. is_one net (run_cycle net ch j) holds) k)
    × (is_one net (run_cycle net ch k) past.now ≡ told (λ j. is_one net (run_cycle net ch j) holds) (suc k))

-- a register of one bit that begins with a known number is added, and two nodes of one bit tell of the cycles
pub record AddsPast (told : (ℕ → Bool) → ℕ → Bool) (old new : Netlist) (holds : ℕ) (past : Past) : Type 0 where
  pub known : AddsKnown old new 1
  pub before : IsNodeOf new 1 past.before
  pub now : IsNodeOf new 1 past.now
  pub tell : TellPast told new holds past

-- the values of nodes in the cycles of the run with these choices
abbrev pub run_values : Netlist → Choices → ℕ → ℕ → ℕ
run_values net ch k id = value_at net (run_cycle net ch k) id

-- all of these nodes are other than 0, where nodes have these values
abbrev pub all_other : (ℕ → ℕ) → List ℕ → Bool
all_other v [] = true
all_other v (id ∷ ids) = not (v id == 0) && all_other v ids

-- these nodes are other than 0 in this cycle and in all before, by their values in each cycle
abbrev pub is_met : List ℕ → (ℕ → ℕ → ℕ) → ℕ → Bool
is_met ids v k = in_all (λ j. all_other (v j) ids) (suc k)

-- and the bad node is other than 0 in it, which isn't the first
abbrev pub fails_first : List ℕ → ℕ → (ℕ → ℕ → ℕ) → ℕ → Bool
fails_first ids bad v k = is_met ids v k && (in_some (λ j. true) k && not (v k bad == 0))

-- the bad node is other than 0 in this cycle, and 0 in all before
abbrev pub fails_last : ℕ → (ℕ → ℕ → ℕ) → ℕ → Bool
fails_last bad v k = in_all (λ j. not (not (v j bad == 0))) k && not (v k bad == 0)

-- in each cycle of each run the node says whether this is so
abbrev pub TellsRun : Netlist → ((ℕ → ℕ → ℕ) → ℕ → Bool) → ℕ → Type 0
TellsRun net said id =
    (ch : Choices) (k : ℕ) → AreChoicesOf net ch
    → is_one net (run_cycle net ch k) id ≡ said (run_values net ch) k

-- so many registers of known starts are added, and a node of one bit, which says in each cycle whether this is so
pub record SaysRun (registers : ℕ) (said : (ℕ → ℕ → ℕ) → ℕ → Bool) (old new : Netlist) (id : ℕ) : Type 0 where
  pub known : AddsKnown old new registers
  pub node : IsNodeOf new 1 id
  pub tells : TellsRun new said id
