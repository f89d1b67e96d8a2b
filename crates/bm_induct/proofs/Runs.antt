-- What nodes tell in the cycles of runs, in a net with more nodes and registers.
use Rattle.std.specs.Prelude.{◌≡◌, refl, ℕ, suc, ◌==◌, Bool, true, not, ◌&&◌}
use Rattle.std.specs.Prelude.{List, [], ◌∷◌, length, map, drop}
use Rattle.std.specs.List.{AllByRecursion}
use Rattle.std.proofs.Common.{ap, sym, ◌∙◌, arith, subst}
use Rattle.wn_net.specs.declared.parts.Reg.{Reg}
use Rattle.wn_net.specs.Value.{Given}
use Rattle.wn_net.specs.Given.{AreMemsOf, AreNumbersOf, IsGiven}
use Rattle.wn_net.specs.Net.{Netlist, AreNodes, IsNet, IsNode, value_at, width_at}
use Rattle.wn_net.specs.Changes.{AddsNodes, AddsRegs}
use Rattle.wn_net.proofs.Laws.{adds_regs, adds_on, node_on, regs_none, regs_node_on, regs_on, there_on, value_on}
use Rattle.wn_run.specs.Runs.{Choices, AreChoicesOf, inputs_at, start_of}
use Rattle.wn_run.proofs.Given.{choices_run, cycles_given}
use Rattle.bm_induct.specs.StepRuns.{run_cycle}
use Rattle.ck_history.specs.Truths.{Tells, is_one}
use Rattle.ck_history.specs.Lines.{AddsKnown, IsKnown}
use Rattle.ck_history.proofs.Laws.{set_is}
use Rattle.ck_history.proofs.Lines.{known_on}
use Rattle.bm_induct.specs.declared.past.Past.{Past}
use Rattle.bm_induct.specs.Past.{AddsPast, SaysRun, all_other, fails_first, fails_last, in_all, in_some, is_met}
use Rattle.bm_induct.specs.Past.{run_values}
use Rattle.bm_induct.proofs.Anew.{carried}
use Rattle.bm_induct.proofs.Choosing.{fewer_choices}
use Rattle.bm_induct.proofs.Truths.{same_all, same_other, same_some}

-- ---- a net with more nodes

given_fewer : (a b : Netlist) (g : Given) → AddsNodes a b → IsGiven b g → IsGiven a g
given_fewer a b g adds own = record {
  inputs = subst (λ xs. AreNumbersOf (map (λ x. x.width) xs) g.inputs) adds.inputs own.inputs;
  state = record {
    regs = subst (λ rs. AreNumbersOf (map (λ r. r.width) rs) g.state.regs) adds.regs own.state.regs;
    mems = subst (λ ms. AreMemsOf ms g.state.mems) adds.mems own.state.mems;
  };
}

pub run_given : (net : Netlist) (ch : Choices) (k : ℕ) → IsNet net → AreChoicesOf net ch
    → IsGiven net (run_cycle net ch k)
run_given net ch k whole of =
    cycles_given net (inputs_at net ch) (start_of net ch) k whole (choices_run net ch whole of)

nodes_known : (a b : Netlist) → AddsNodes a b → AddsKnown a b 0
nodes_known a b adds = record {
  adds = adds_regs a b adds;
  count = omega (arith, ap length adds.regs);
  known = subst (λ rs. AllByRecursion (λ r. IsKnown r.init) (drop (length a.regs) rs)) (sym adds.regs) (none a.regs);
}
  where
    none : (rs : List Reg) → AllByRecursion (λ r. IsKnown r.init) (drop (length rs) rs)
    none [] = tt
    none (r ∷ rs) = none rs

known_behind : (a b c : Netlist) → AddsNodes a b → AddsKnown b c 1 → AddsKnown a c 1
known_behind a b c adds known = known_on a b c 0 1 (nodes_known a b adds) known

known_before : (a b c : Netlist) → AddsKnown a b 1 → AddsNodes b c → AddsKnown a c 1
known_before a b c known adds = known_on a b c 1 0 known (nodes_known b c adds)

-- what a node tells of the net before it, in a run of a net with more
told_in : (a b last : Netlist) (f : Given → Bool) (id : ℕ) (ch : Choices) (k : ℕ) → IsNet b → AddsNodes a b
    → AddsRegs b last → AreChoicesOf last ch → Tells a b f id
    → is_one last (run_cycle last ch k) id ≡ f (run_cycle b ch k)
told_in a b last f id ch k whole adds more of tells =
    ap (λ n. n == 1) (carried b last ch k id whole more tells.node.0
    ∙ tells.value (run_cycle b ch k)
    (given_fewer a b (run_cycle b ch k) adds (run_given b ch k whole (fewer_choices b last ch more of))))
    ∙ set_is (f (run_cycle b ch k))

-- and the value of a node that was there
seen_value : (a b last : Netlist) (ch : Choices) (k id : ℕ) → IsNet b → AddsNodes a b → AddsRegs b last
    → IsNode a id → value_at a (run_cycle b ch k) id ≡ run_values last ch k id
seen_value a b last ch k id whole adds more own =
    sym (value_on a b (run_cycle b ch k) id adds own)
    ∙ sym (carried b last ch k id whole more (there_on a b id adds own))

all_seen : (a b last : Netlist) (ch : Choices) (k : ℕ) (ids : List ℕ) → IsNet b → AddsNodes a b → AddsRegs b last
    → AreNodes a ids → AllByRecursion (λ id. value_at a (run_cycle b ch k) id ≡ run_values last ch k id) ids
all_seen a b last ch k [] whole adds more own = tt
all_seen a b last ch k (id ∷ ids) whole adds more own =
    (seen_value a b last ch k id whole adds more own.0, all_seen a b last ch k ids whole adds more own.1)

-- ---- the nodes of the base

pub met_says : (a b c : Netlist) (ids : List ℕ) (node : ℕ) (past : Past) → IsNet b → AddsNodes a b
    → Tells a b (λ g. all_other (value_at a g) ids) node → AreNodes a ids → AddsPast in_all b c node past
    → SaysRun 1 (is_met ids) a c past.now
met_says a b c ids node past whole adds tells own more = record {
  known = known_behind a b c adds more.known;
  node = more.now;
  tells = λ ch k of.
      (more.tell ch k of).1
      ∙ same_all (λ j. is_one c (run_cycle c ch j) node) (λ j. all_other (run_values c ch j) ids) (suc k)
      (λ j. told_in a b c (λ g. all_other (value_at a g) ids) node ch j whole adds more.known.adds of tells
      ∙ same_other (value_at a (run_cycle b ch j)) (run_values c ch j) ids
      (all_seen a b c ch j ids whole adds more.known.adds own));
}

pub begun_says : (a b c : Netlist) (node : ℕ) (past : Past) → IsNet b → AddsNodes a b → Tells a b (λ g. true) node
    → AddsPast in_some b c node past → SaysRun 1 (λ v k. in_some (λ j. true) k) a c past.before
begun_says a b c node past whole adds tells more = record {
  known = known_behind a b c adds more.known;
  node = more.before;
  tells = λ ch k of.
      (more.tell ch k of).0
      ∙ same_some (λ j. is_one c (run_cycle c ch j) node) (λ j. true) k
      (λ j. told_in a b c (λ g. true) node ch j whole adds more.known.adds of tells);
}

all_carried : (b d : Netlist) (ch : Choices) (i : ℕ) (ids : List ℕ) → IsNet b → AddsRegs b d → AreNodes b ids
    → AllByRecursion (λ id. run_values b ch i id ≡ run_values d ch i id) ids
all_carried b d ch i [] whole adds own = tt
all_carried b d ch i (id ∷ ids) whole adds own =
    (sym (carried b d ch i id whole adds own.0), all_carried b d ch i ids whole adds own.1)

nodes_later : (a b : Netlist) (ids : List ℕ) → AddsRegs a b → AreNodes a ids → AreNodes b ids
nodes_later a b [] adds own = tt
nodes_later a b (id ∷ ids) adds own =
    ((regs_node_on a b (width_at a id) id adds (own.0, refl)).0, nodes_later a b ids adds own.1)

-- what a node says stays so in a net with more registers
met_so : (a b d : Netlist) (ids : List ℕ) (met : ℕ) (ch : Choices) (j : ℕ) → IsNet b → AreNodes a ids
    → SaysRun 1 (is_met ids) a b met → AddsRegs b d → AreChoicesOf d ch
    → is_one d (run_cycle d ch j) met ≡ is_met ids (run_values d ch) j
met_so a b d ids met ch j whole own says adds of =
    ap (λ n. n == 1) (carried b d ch j met whole adds says.node.0)
    ∙ says.tells ch j (fewer_choices b d ch adds of)
    ∙ same_all (λ i. all_other (run_values b ch i) ids) (λ i. all_other (run_values d ch i) ids) (suc j)
    (λ i. same_other (run_values b ch i) (run_values d ch i) ids
    (all_carried b d ch i ids whole adds (nodes_later a b ids says.known.adds own)))

begun_so : (b c d : Netlist) (begun : ℕ) (ch : Choices) (j : ℕ) → IsNet c
    → SaysRun 1 (λ v k. in_some (λ i. true) k) b c begun → AddsRegs c d → AreChoicesOf d ch
    → is_one d (run_cycle d ch j) begun ≡ in_some (λ i. true) j
begun_so b c d begun ch j whole says adds of =
    ap (λ n. n == 1) (carried c d ch j begun whole adds says.node.0)
    ∙ says.tells ch j (fewer_choices c d ch adds of)

-- met, begun, and the failure as a node, and whether there was one
pub failed_says : (a b c m d : Netlist) (ids : List ℕ) (bad met begun fails : ℕ) (found : Past)
    → IsNet b → IsNet c → IsNet m → AreNodes a ids → IsNode a bad
    → SaysRun 1 (is_met ids) a b met → SaysRun 1 (λ v k. in_some (λ i. true) k) b c begun → AddsNodes c m
    → Tells c m (λ g. is_one c g met && (is_one c g begun && not (value_at c g bad == 0))) fails
    → AddsPast in_some m d fails found
    → SaysRun 3 (λ v k. in_some (fails_first ids bad v) (suc k)) a d found.now
failed_says a b c m d ids bad met begun fails found whole_b whole_c whole_m own_ids own_bad says_met says_begun adds
    tells more =
    let from_m : AddsRegs m d = more.known.adds in
    let from_c : AddsRegs c d = regs_on c m d (adds_regs c m adds) from_m in
    let from_b : AddsRegs b d = regs_on b c d says_begun.known.adds from_c in
    let bad_b = regs_node_on a b (width_at a bad) bad says_met.known.adds (own_bad, refl) in
    let bad_c = regs_node_on b c (width_at a bad) bad says_begun.known.adds bad_b in
    let met_c = regs_node_on b c 1 met says_begun.known.adds says_met.node in
    record {
      known =
          known_on a b d 1 2 says_met.known
          (known_on b c d 1 1 says_begun.known (known_behind c m d adds more.known));
      node = more.now;
      tells = λ ch k of.
          (more.tell ch k of).1
          ∙ same_some (λ j. is_one d (run_cycle d ch j) fails) (fails_first ids bad (run_values d ch)) (suc k)
          (λ j.
          told_in c m d (λ g. is_one c g met && (is_one c g begun && not (value_at c g bad == 0))) fails ch j whole_m
          adds from_m of tells
          ∙ (λ i. (seen_value c m d ch j met whole_m adds from_m met_c.0 i == 1)
          && ((seen_value c m d ch j begun whole_m adds from_m says_begun.node.0 i == 1)
          && not (seen_value c m d ch j bad whole_m adds from_m bad_c.0 i == 0)))
          ∙ (λ i. met_so a b d ids met ch j whole_b own_ids says_met from_b of i
          && (begun_so b c d begun ch j whole_c says_begun from_c of i && not (run_values d ch j bad == 0))));
    }

-- ---- the node of the step

pub now_says : (a b m c d : Netlist) (bad fails holds last : ℕ) (past : Past) → IsNet b → IsNet m → IsNet c
    → IsNet d → IsNode a bad → AddsNodes a b → Tells a b (λ g. not (value_at a g bad == 0)) fails → AddsNodes b m
    → Tells b m (λ g. not (is_one b g fails)) holds → AddsPast in_all m c holds past → AddsNodes c d
    → Tells c d (λ g. is_one c g past.before && is_one c g fails) last
    → SaysRun 1 (fails_last bad) a d last
now_says a b m c d bad fails holds last past whole_b whole_m whole_c whole_d own adds_b tells_b adds_m tells_m more
    adds_d tells_d =
    let from_c : AddsRegs c d = adds_regs c d adds_d in
    let from_m : AddsRegs m d = regs_on m c d more.known.adds from_c in
    let from_b : AddsRegs b d = regs_on b m d (adds_regs b m adds_m) from_m in
    let fails_m = node_on b m 1 fails adds_m tells_b.node in
    let fails_c = regs_node_on m c 1 fails more.known.adds fails_m in
    record {
      known =
          known_behind a m d (adds_on a b m adds_b adds_m)
          (known_before m c d more.known adds_d);
      node = tells_d.node;
      tells = λ ch k of.
          let failing : (j : ℕ) → is_one d (run_cycle d ch j) fails ≡ not (run_values d ch j bad == 0) = λ j.
          told_in a b d (λ g. not (value_at a g bad == 0)) fails ch j whole_b adds_b from_b of tells_b
          ∙ ap (λ n. not (n == 0)) (seen_value a b d ch j bad whole_b adds_b from_b own) in
          let holding : (j : ℕ) → is_one c (run_cycle c ch j) holds ≡ not (not (run_values d ch j bad == 0)) = λ j.
          ap (λ n. n == 1) (sym (carried c d ch j holds whole_c from_c
          (regs_node_on m c 1 holds more.known.adds tells_m.node).0))
          ∙ told_in b m d (λ g. not (is_one b g fails)) holds ch j whole_m adds_m from_m of tells_m
          ∙ ap (λ n. not (n == 1)) (seen_value b m d ch j fails whole_m adds_m from_m tells_b.node.0)
          ∙ ap not (failing j) in
          told_in c d d (λ g. is_one c g past.before && is_one c g fails) last ch k whole_d adds_d (regs_none d) of
          tells_d
          ∙ (λ i. (seen_value c d d ch k past.before whole_d adds_d (regs_none d) more.before.0 i == 1)
          && (seen_value c d d ch k fails whole_d adds_d (regs_none d) fails_c.0 i == 1))
          ∙ (λ i. ap (λ n. n == 1) (carried c d ch k past.before whole_c from_c more.before.0) i && failing k i)
          ∙ ap (λ t. t && not (run_values d ch k bad == 0))
          ((more.tell ch k (fewer_choices c d ch from_c of)).0
          ∙ same_all (λ j. is_one c (run_cycle c ch j) holds) (λ j. not (not (run_values d ch j bad == 0))) k holding);
    }
