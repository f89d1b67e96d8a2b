use Rattle.std.specs.Prelude.{◌≡◌}
use Rattle.wn_chain.specs.Chains.{IsChain}
use Rattle.net_answers.proofs.chain.push_all.Given as goal

abbrev pub invariant-loop-write : goal.invariant-loop-write
invariant-loop-write l = IsChain l.net l.chain × (l.chain.words ≡ l.initial.chain.words)
