use Rattle.std.specs.Prelude.{◌≡◌, ℕ}
use Rattle.std.proofs.Common.{subst}
use Rattle.std.proofs.lemmas.Result.{IfOk-weaker}
use Rattle.wn_net.specs.Net.{Netlist}
use Rattle.bm_unroll.specs.Frames.{IsBadRun}
use Rattle.ck_gen.specs.Monitors.{AddsFew}
use Rattle.rvf_graph.specs.RunGraphs.{IsGraphOfRuns}
use Rattle.rvf_graph.specs.declared.graph.RunGraph.{RunGraph}
use Rattle.rvf_graph.proofs.OwnGraph.{own_graph}
use Rattle.rvf_graph.proofs.graph.graph_of.Goals as goal

few : (old mid new : Netlist) → mid ≡ old → AddsFew mid new → AddsFew old new
few old mid new e h = let P : Netlist → Type 0 = λ n. AddsFew n new in subst P e h

pub returns : goal.returns
returns c =
    let net = c.args.net.now in
    let new = c.ask.new.net in
    let q = c.args.question.now in
    let bad = c.in_ok-bad.bad in
    let added = few net c.in_ok-watched.watched new c.in_ok-watched.ensures c.in_ok-bad.ensures.known in
    let At : RunGraph → ℕ → Type 0 = λ r k. IsGraphOfRuns new k (IsBadRun new bad k) r in
    IfOk-weaker c.graph_of_runs.result _ _
    (λ r made. own_graph net new added.registers c.args.port.now q c.args.opts bad r c.nodes.ensures.whole
    c.nodes-2.ensures.whole added.known c.requires.port c.in_ok-bad.ensures.tells
    (subst (At r) c.cycle.ensures made)) c.graph_of_runs.ensures
