-- Between functions: Arms of a case while they are executed one after the other: each where none before it matches.
-- IEEE 1364-2005, section 9.5; that they are done under paths is a rule of this project.
use Rattle.std.specs.Prelude.{◌≡◌, ℕ, List, [], ◌∷◌, Bool, false, ◌&&◌, ◌||◌, not, Option, Some, None, All, IsSome}
use Rattle.std.specs.Prelude.{if◌then◌else◌}
use Rattle.vl_tree.specs.declared.stmt.CaseKind.{CaseKind}
use Rattle.vl_tree.specs.declared.stmt.Arm.{Arm}
use Rattle.vl_tree.specs.declared.stmt.Arm.TheVariants as arm
use Rattle.vl_tree.specs.Expr.{Expr}
use Rattle.vl_tree.specs.Stmt.{Arms, no_arms, labels, default}
use Rattle.vl_tree.specs.StmtView.{arms}
use Rattle.vl_size.specs.declared.decl.Decl.{Decl}
use Rattle.vl_size.specs.Size.{Values, size}
use Rattle.vl_mean.specs.Execution.{State, matches, pick}
use Rattle.vl_mean.specs.FlatLaw.{IsBlock, flat_scopes}
use Rattle.vl_mean.specs.Scopes.{Scope}
use Rattle.wn_net.specs.Value.{Given}
use Rattle.wn_net.specs.Net.{Netlist, IsNodeOf, value_at}
use Rattle.wn_net.specs.Given.{IsGiven}
use Rattle.vl_lower_assign.specs.Slots.{IsPath, is_taken}
use Rattle.vl_lower_assign.specs.Frames.{Cells, StandsFor, Steps}
use Rattle.vl_lower_assign.specs.Stored.{arm_stored}

-- ---- what may stand in arms

abbrev pub AreSized : List Decl → List Expr → Type 0
AreSized ds es = All (λ e. IsSome (size ds e)) es

-- labels have sizes, and what they lead to keeps the law of a block
abbrev pub AreLedTo : List Decl → Arms → Type 0
AreLedTo ds no_arms = Unit {0}
AreLedTo ds (labels p es s rest) = AreSized ds es × (IsBlock ds s × AreLedTo ds rest)
AreLedTo ds (default p colon s rest) = IsBlock ds s × AreLedTo ds rest

-- ---- a node that may be left out where it is 0

abbrev pub IsNodeOr : Netlist → ℕ → Option ℕ → Type 0
IsNodeOr net width None = Unit {0}
IsNodeOr net width (Some id) = IsNodeOf net width id

abbrev pub number_or : Netlist → Given → Option ℕ → ℕ
number_or net g None = 0
number_or net g (Some id) = value_at net g id

-- ---- arms

module _ (ss : List Scope) where
  -- some label matches
  abbrev pub matched : (List Expr → Bool) → List Arm → Bool
  matched test [] = false
  matched test (arm.Labels p es s ∷ xs) = test es || matched test xs
  matched test (arm.Default p colon s ∷ xs) = matched test xs

  -- what the first of these arms does that matches, and else nothing
  abbrev pub picked : (List Expr → Bool) → List Arm → State → State
  picked test xs t = pick ss (arms xs) test (λ u. u) t

  abbrev pub picked_stored : (List Expr → Bool) → List Arm → State → Values → Values
  picked_stored test xs t w = arm_stored ss (arms xs) test (λ u m. m) t w

-- one of the labels matches the number that a node had before the case
abbrev pub case_test : List Decl → Netlist → CaseKind → ℕ → Bool → ℕ → Given → State → List Expr → Bool
case_test ds net kind width signed word g t es =
    matches (flat_scopes ds) kind t.now width signed (value_at net g word) es

-- these arms are done, and the path goes on where none of them matched
pub record ArmsDone (ds : List Decl) (old : Netlist) (before : Cells) (path : Option ℕ)
    (test : Given → State → List Expr → Bool) (new : Netlist) (after : Cells) (rest : Option ℕ) (xs : List Arm)
    : Type 0 where
  pub steps : Steps old new ds before after
      (λ g t. if is_taken old g path then picked (flat_scopes ds) (test g t) xs t else t)
      (λ g t w. if is_taken old g path then picked_stored (flat_scopes ds) (test g t) xs t w else w)
  pub way : IsPath new rest
  pub left : (g : Given) (t : State) (w : Values) → IsGiven old g → StandsFor old g ds before t w
      → is_taken new g rest ≡ (is_taken old g path && not (matched (flat_scopes ds) (test g t) xs))
