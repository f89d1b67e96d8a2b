use Rattle.std.proofs.Common.{subst}
use Rattle.bm_decide.specs.declared.verdict.Verdict.{Verdict}
use Rattle.ck_induct.specs.Verdicts.{IsStepSettled}
use Rattle.rvf_judge.proofs.HalvesTold.{opened, proved, spent_step}
use Rattle.rvf_judge.proofs.inducting.stepped.Goals as goal

pub returns-in_ok-step-in-Never : goal.returns-in_ok-step-in-Never
returns-in_ok-step-in-Never g c = λ ps has t own.
    let more = g.S.Search.more c.args.search.now in
    let net = c.args.net.now in
    let P : Verdict → Type 0 = λ v. IsStepSettled net c.args.bad c.args.k (more c.args.budget) c.args.budget v in
    proved ps net c.args.names.now has c.args.bad c.args.k t c.nodes.ensures.whole more c.args.budget
    c.args.refuted.now c.requires.refuted c.in_ok-base-in-Never.base c.in_ok-step-in-Never.step c.in-Never.certificate
    (subst P c.in-Never.is c.in_ok-verdict.ensures) c.in_ok-base-in-Never.ensures.texts
    c.in_ok-base-in-Never.ensures.read_back c.in_ok-step-in-Never.ensures.texts c.in_ok-step-in-Never.ensures.read_back

pub returns-in_ok-dump-in-Once : goal.returns-in_ok-dump-in-Once
returns-in_ok-dump-in-Once g c = λ ps has t own.
    let more = g.S.Search.more c.args.search.now in
    let net = c.args.net.now in
    let P : Verdict → Type 0 = λ v. IsStepSettled net c.args.bad c.args.k (more c.args.budget) c.args.budget v in
    opened ps net c.args.names.now has c.args.bad c.args.k t c.nodes.ensures.whole more c.args.budget
    c.args.refuted.now c.requires.refuted own c.in-Once.witness c.in_ok-dump-in-Once.dump
    (subst P c.in-Once.is c.in_ok-verdict.ensures) c.in_ok-dump-in-Once.ensures

pub returns-in_ok-texts-in-Spent : goal.returns-in_ok-texts-in-Spent
returns-in_ok-texts-in-Spent g c = λ ps has t own.
    let more = g.S.Search.more c.args.search.now in
    let net = c.args.net.now in
    let P : Verdict → Type 0 = λ v. IsStepSettled net c.args.bad c.args.k (more c.args.budget) c.args.budget v in
    spent_step ps net c.args.names.now has c.args.bad c.args.k t c.nodes.ensures.whole more c.args.budget
    c.args.refuted.now c.requires.refuted c.in-Spent.certificate c.in_ok-texts-in-Spent.texts
    (subst P c.in-Spent.is c.in_ok-verdict.ensures) c.in_ok-texts-in-Spent.ensures.texts
    c.in_ok-texts-in-Spent.ensures.read_back
