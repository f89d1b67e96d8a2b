use Rattle.std.proofs.Common.{subst}
use Rattle.bm_decide.specs.declared.verdict.Verdict.{Verdict}
use Rattle.bm_decide.specs.Verdicts.{IsVerdict}
use Rattle.rvf_judge.proofs.Told.{never, shown, spent}
use Rattle.rvf_judge.proofs.judging.judge.Goals as goal

pub returns-in_ok-texts-in-Never : goal.returns-in_ok-texts-in-Never
returns-in_ok-texts-in-Never g c = λ ps channels wants loaded own.
    let more = g.S.Search.more c.args.search.now in
    let P : Verdict → Type 0 =
    λ v. IsVerdict (more c.args.budget) c.args.net.now c.args.port.now c.args.question.now c.args.opts c.args.budget v
    in
    never ps c.args.net.now c.args.names.now channels wants c.args.port.now c.args.question.now c.args.opts loaded
    c.nodes.ensures.whole c.requires.question more c.args.budget c.in-Never.certificate c.in_ok-texts-in-Never.texts
    (subst P c.in-Never.is c.in_ok-verdict.ensures) c.in_ok-texts-in-Never.ensures.texts
    c.in_ok-texts-in-Never.ensures.read_back

pub returns-in_ok-dump-in-Once : goal.returns-in_ok-dump-in-Once
returns-in_ok-dump-in-Once g c = λ ps channels wants loaded own.
    let P : Verdict → Type 0 =
    λ v. IsVerdict (g.S.Search.more c.args.search.now c.args.budget) c.args.net.now c.args.port.now
    c.args.question.now c.args.opts c.args.budget v in
    shown ps c.args.net.now c.args.names.now channels wants c.args.port.now c.args.question.now c.args.opts loaded
    c.nodes.ensures.whole c.requires.question c.in-Once.witness c.in_ok-dump-in-Once.dump own
    (subst P c.in-Once.is c.in_ok-verdict.ensures) c.in_ok-dump-in-Once.ensures

pub returns-in_ok-texts-in-Spent : goal.returns-in_ok-texts-in-Spent
returns-in_ok-texts-in-Spent g c = λ ps channels wants loaded own.
    let P : Verdict → Type 0 =
    λ v. IsVerdict (g.S.Search.more c.args.search.now c.args.budget) c.args.net.now c.args.port.now
    c.args.question.now c.args.opts c.args.budget v in
    spent ps c.args.net.now c.args.names.now channels wants c.args.port.now c.args.question.now c.args.opts loaded
    c.nodes.ensures.whole c.requires.question c.args.budget c.in-Spent.certificate c.in_ok-texts-in-Spent.texts
    (subst P c.in-Spent.is c.in_ok-verdict.ensures) c.in_ok-texts-in-Spent.ensures.texts
    c.in_ok-texts-in-Spent.ensures.read_back
