use Rattle.std.proofs.Common.{refl}
use Rattle.wn_chain.proofs.Chains.{pushed, pushed_list}
use Rattle.wn_chain.proofs.chain.Chain.push.Goals as goal

pub returns-clause-chain : goal.returns-clause-chain
returns-clause-chain c =
    pushed c.args.net.now c.args.self.now _ c.args.write.now c.requires.chain c.requires.write refl
    c.in_ok-push.ensures.ok

pub returns-clause-list : goal.returns-clause-list
returns-clause-list c = λ g.
    pushed_list c.args.net.now g c.args.self.now _ c.args.write.now refl c.in_ok-push.ensures.ok
