-- A register whose next node is built from its own.
use Rattle.std.specs.Prelude.{◌≡◌, refl, ℕ, zero, suc, ◌+◌, ◌==◌, Bool, ◌&&◌, ◌||◌}
use Rattle.std.specs.Prelude.{List, [], ◌∷◌, ◌++◌, length, map, drop, slice_index}
use Rattle.std.specs.List.{AllByRecursion}
use Rattle.std.proofs.Common.{ap, sym, ◌∙◌, arith, subst}
use Rattle.std.proofs.lemmas.List.{length_push}
use Rattle.wn_net.specs.declared.node.Node.TheVariants as n
use Rattle.wn_net.specs.declared.parts.Reg.{Reg}
use Rattle.wn_net.specs.declared.parts.Init.TheVariants.{Known}
use Rattle.wn_net.specs.Value.{Given}
use Rattle.wn_net.specs.Given.{AreMemsOf, AreNumbersOf, IsGiven}
use Rattle.wn_net.specs.Net.{Netlist, IsNet, IsNode, IsNodeOf, value_at}
use Rattle.wn_net.specs.Changes.{AddsNodes, BuildsReg, Keeps, with_next}
use Rattle.wn_net.proofs.Laws.{adds_regs, built_reg, built_reg_node, next_on, regs_on, value_on, node_on}
use Rattle.wn_run.specs.Runs.{Choices, AreChoicesOf, cycle_at, inputs_at, regs_from, start_number, start_of}
use Rattle.wn_run.proofs.Given.{choices_run, cycles_given}
use Rattle.bm_induct.specs.StepRuns.{run_cycle}
use Rattle.ck_history.specs.Truths.{Tells, is_one}
use Rattle.ck_history.specs.Lines.{AddsKnown, IsBehind, IsKnown}
use Rattle.ck_history.proofs.Laws.{set_is}
use Rattle.bm_induct.specs.Past.{AddsPast, in_all, in_some}

last_next : (next : ℕ) (rs : List Reg) (r : Reg)
    → with_next (length rs) next (rs ++ r ∷ []) ≡ rs ++ record r { next = next } ∷ []
last_next next [] r = refl
last_next next (x ∷ xs) r = ap (λ rs. x ∷ rs) (last_next next xs r)

last_mapped : (f : Reg → ℕ) (rs : List Reg) (r : Reg) → slice_index (map f (rs ++ r ∷ [])) (length rs) ≡ f r
last_mapped f [] r = refl
last_mapped f (x ∷ xs) r = last_mapped f xs r

last_known : (rs : List Reg) (r : Reg) → IsKnown r.init
    → AllByRecursion (λ r. IsKnown r.init) (drop (length rs) (rs ++ r ∷ []))
last_known [] r known = (known, tt)
last_known (x ∷ xs) r known = last_known xs r known

last_start : (choices : ℕ → ℕ) (i : ℕ) (rs : List Reg) (r : Reg)
    → slice_index (regs_from choices i (rs ++ r ∷ [])) (length rs) ≡ start_number (choices (i + length rs)) r.init
last_start choices i [] r =
    let none : i ≡ i + 0 = omega arith in
    ap (λ k. start_number (choices k) r.init) none
last_start choices i (x ∷ xs) r =
    let one : i + 1 + length xs ≡ i + length (x ∷ xs) = omega arith in
    last_start choices (i + 1) xs r ∙ ap (λ k. start_number (choices k) r.init) one

-- A register is added, then nodes, and then it gets a next node.
module _ (a b m c : Netlist) (number id node : ℕ)
    (built : BuildsReg a b (record { width = 1; init = Known number; next = length a.nodes }) id)
    (adds : AddsNodes b m) (e : c ≡ record m { regs = with_next (length a.regs) node m.regs }) (keeps : Keeps m c) where
  abbrev now : Reg
  now = record { width = 1; init = Known number; next = node }

  regs_are : c.regs ≡ a.regs ++ now ∷ []
  regs_are =
      ap (λ n. n.regs) e ∙ ap (with_next (length a.regs) node) (adds.regs ∙ built.regs)
      ∙ last_next node a.regs (record { width = 1; init = Known number; next = length a.nodes })

  pub latch_known : AddsKnown a c 1
  latch_known =
      let P : List Reg → Type 0 = λ rs. AllByRecursion (λ r. IsKnown r.init) (drop (length a.regs) rs) in
      let r : Reg = record { width = 1; init = Known number; next = length a.nodes } in
      record {
        adds =
            next_on a m c (length a.regs) node (regs_on a b m (built_reg a b r id built) (adds_regs b m adds))
            (omega arith) e keeps;
        count = ap length regs_are ∙ length_push a.regs now;
        known = subst P (sym regs_are) (last_known a.regs now tt);
      }

  own : IsNodeOf m 1 id
  own = node_on b m 1 id adds (built_reg_node a b (record { width = 1; init = Known number; next = length a.nodes }) id
      built)

  pub latch_node : IsNodeOf c 1 id
  latch_node = (omega (arith, keeps.longer, own.0), keeps.widths id own.0 ∙ own.1)

  pub latch_value : (g : Given) → value_at c g id ≡ slice_index g.state.regs (length a.regs)
  latch_value g =
      keeps.values g id own.0
      ∙ value_on b m g id adds (built_reg_node a b (record { width = 1; init = Known number; next = length a.nodes })
      id built).0
      ∙ built.value g

  pub latch_behind : IsBehind c node id
  unfolding value_at
  latch_behind = λ inputs start k.
      latch_value (cycle_at c inputs start (suc k))
      ∙ ap (λ rs. slice_index (map (λ (r : Reg). value_at c (cycle_at c inputs start k) r.next) rs) (length a.regs))
      regs_are
      ∙ last_mapped (λ (r : Reg). value_at c (cycle_at c inputs start k) r.next) a.regs now

  pub latch_first : (ch : Choices) → value_at c (run_cycle c ch 0) id ≡ number
  latch_first ch =
      latch_value (run_cycle c ch 0)
      ∙ ap (λ rs. slice_index (regs_from ch.regs 0 rs) (length a.regs)) regs_are
      ∙ last_start ch.regs 0 a.regs now

-- ---- what the two nodes tell

-- the numbers of a cycle of the net in the end are those of one of the net whose register has no next node yet
given_before : (b m c : Netlist) (i node : ℕ) (g : Given) → AddsNodes b m
    → c ≡ record m { regs = with_next i node m.regs } → IsGiven c g → IsGiven b g
given_before b m c i node g adds e given = record {
  inputs =
      subst (λ xs. AreNumbersOf (map (λ x. x.width) xs) g.inputs) (ap (λ n. n.inputs) e ∙ adds.inputs) given.inputs;
  state = record {
    regs =
        subst (λ ws. AreNumbersOf ws g.state.regs)
        (ap (λ n. map (λ r. r.width) n.regs) e ∙ widths i m.regs ∙ ap (map (λ r. r.width)) adds.regs) given.state.regs;
    mems = subst (λ ms. AreMemsOf ms g.state.mems) (ap (λ n. n.mems) e ∙ adds.mems) given.state.mems;
  };
}
  where
    widths : (k : ℕ) (rs : List Reg) → map (λ r. r.width) (with_next k node rs) ≡ map (λ r. r.width) rs
    widths k [] = refl
    widths zero (r ∷ rs) = refl
    widths (suc k) (r ∷ rs) = ap (λ us. r.width ∷ us) (widths k rs)

-- what the next node tells, in the net in the end
told_last : (b m c : Netlist) (i node : ℕ) (f : Given → Bool) (g : Given) → AddsNodes b m → Tells b m f node
    → c ≡ record m { regs = with_next i node m.regs } → Keeps m c → IsGiven c g → is_one c g node ≡ f g
told_last b m c i node f g adds tells e keeps given =
    ap (λ n. n == 1) (keeps.values g node tells.node.0
    ∙ tells.value g (given_before b m c i node g adds e given)) ∙ set_is (f g)

-- the same of a node of the net whose register has no next node yet
same_one : (b m c : Netlist) (g : Given) (id : ℕ) → AddsNodes b m → Keeps m c → IsNode b id
    → is_one b g id ≡ is_one c g id
same_one b m c g id adds keeps own =
    ap (λ n. n == 1) (sym (keeps.values g id (omega (arith, own, adds.keeps.longer)) ∙ value_on b m g id adds own))

pub always_tells : (a b m c : Netlist) (holds before now : ℕ) → IsNet c
    → BuildsReg a b (record { width = 1; init = Known 1; next = length a.nodes }) before → AddsNodes b m
    → Tells b m (λ g. is_one b g before && is_one b g holds) now → IsNode a holds
    → c ≡ record m { regs = with_next (length a.regs) now m.regs } → Keeps m c
    → AddsPast in_all a c holds (record { before = before; now = now })
always_tells a b m c holds before now whole built adds tells own e keeps =
    let there : IsNode b before = (built_reg_node a b (record { width = 1; init = Known 1; next = length a.nodes })
    before built).0 in
    let was : IsNode b holds = omega (arith, own, ap length built.nodes, length_push a.nodes (n.Reg (length a.regs))) in
    let given : (ch : Choices) (k : ℕ) → AreChoicesOf c ch → IsGiven c (run_cycle c ch k) = λ ch k of.
    cycles_given c (inputs_at c ch) (start_of c ch) k whole (choices_run c ch whole of) in
    let both : (ch : Choices) (k : ℕ) → AreChoicesOf c ch → is_one c (run_cycle c ch k) now
    ≡ is_one c (run_cycle c ch k) before && is_one c (run_cycle c ch k) holds = λ ch k of.
    told_last b m c (length a.regs) now (λ g. is_one b g before && is_one b g holds) (run_cycle c ch k) adds tells e
    keeps (given ch k of)
    ∙ (λ j. same_one b m c (run_cycle c ch k) before adds keeps there j
    && same_one b m c (run_cycle c ch k) holds adds keeps was j) in
    record {
      known = latch_known a b m c 1 before now built adds e keeps;
      before = latch_node a b m c 1 before now built adds e keeps;
      now = (omega (arith, tells.node.0, keeps.longer), keeps.widths now tells.node.0 ∙ tells.node.1);
      tell = λ ch k of.
          let first = all_so c before now holds ch (λ i. both ch i of)
          (latch_first a b m c 1 before now built adds e keeps ch)
          (λ i. latch_behind a b m c 1 before now built adds e keeps (inputs_at c ch) (start_of c ch) i) in
          (first k, both ch k of ∙ ap (λ t. t && is_one c (run_cycle c ch k) holds) (first k));
    }
  where
    all_so : (c : Netlist) (before now holds : ℕ) (ch : Choices)
        → ((i : ℕ) → is_one c (run_cycle c ch i) now
        ≡ is_one c (run_cycle c ch i) before && is_one c (run_cycle c ch i) holds)
        → value_at c (run_cycle c ch 0) before ≡ 1
        → ((i : ℕ) → value_at c (run_cycle c ch (suc i)) before ≡ value_at c (run_cycle c ch i) now) → (k : ℕ)
        → is_one c (run_cycle c ch k) before ≡ in_all (λ j. is_one c (run_cycle c ch j) holds) k
    all_so c before now holds ch both first next zero = ap (λ n. n == 1) first
    all_so c before now holds ch both first next (suc k) =
        ap (λ n. n == 1) (next k) ∙ both k
        ∙ ap (λ t. t && is_one c (run_cycle c ch k) holds) (all_so c before now holds ch both first next k)

pub ever_tells : (a b m c : Netlist) (holds before now : ℕ) → IsNet c
    → BuildsReg a b (record { width = 1; init = Known 0; next = length a.nodes }) before → AddsNodes b m
    → Tells b m (λ g. is_one b g before || is_one b g holds) now → IsNode a holds
    → c ≡ record m { regs = with_next (length a.regs) now m.regs } → Keeps m c
    → AddsPast in_some a c holds (record { before = before; now = now })
ever_tells a b m c holds before now whole built adds tells own e keeps =
    let there : IsNode b before = (built_reg_node a b (record { width = 1; init = Known 0; next = length a.nodes })
    before built).0 in
    let was : IsNode b holds = omega (arith, own, ap length built.nodes, length_push a.nodes (n.Reg (length a.regs))) in
    let given : (ch : Choices) (k : ℕ) → AreChoicesOf c ch → IsGiven c (run_cycle c ch k) = λ ch k of.
    cycles_given c (inputs_at c ch) (start_of c ch) k whole (choices_run c ch whole of) in
    let one : (ch : Choices) (k : ℕ) → AreChoicesOf c ch → is_one c (run_cycle c ch k) now
    ≡ is_one c (run_cycle c ch k) before || is_one c (run_cycle c ch k) holds = λ ch k of.
    told_last b m c (length a.regs) now (λ g. is_one b g before || is_one b g holds) (run_cycle c ch k) adds tells e
    keeps (given ch k of)
    ∙ (λ j. same_one b m c (run_cycle c ch k) before adds keeps there j
    || same_one b m c (run_cycle c ch k) holds adds keeps was j) in
    record {
      known = latch_known a b m c 0 before now built adds e keeps;
      before = latch_node a b m c 0 before now built adds e keeps;
      now = (omega (arith, tells.node.0, keeps.longer), keeps.widths now tells.node.0 ∙ tells.node.1);
      tell = λ ch k of.
          let first = some_so c before now holds ch (λ i. one ch i of)
          (latch_first a b m c 0 before now built adds e keeps ch)
          (λ i. latch_behind a b m c 0 before now built adds e keeps (inputs_at c ch) (start_of c ch) i) in
          (first k, one ch k of ∙ ap (λ t. t || is_one c (run_cycle c ch k) holds) (first k));
    }
  where
    some_so : (c : Netlist) (before now holds : ℕ) (ch : Choices)
        → ((i : ℕ) → is_one c (run_cycle c ch i) now
        ≡ is_one c (run_cycle c ch i) before || is_one c (run_cycle c ch i) holds)
        → value_at c (run_cycle c ch 0) before ≡ 0
        → ((i : ℕ) → value_at c (run_cycle c ch (suc i)) before ≡ value_at c (run_cycle c ch i) now) → (k : ℕ)
        → is_one c (run_cycle c ch k) before ≡ in_some (λ j. is_one c (run_cycle c ch j) holds) k
    some_so c before now holds ch one first next zero = ap (λ n. n == 1) first
    some_so c before now holds ch one first next (suc k) =
        ap (λ n. n == 1) (next k) ∙ one k
        ∙ ap (λ t. t || is_one c (run_cycle c ch k) holds) (some_so c before now holds ch one first next k)
