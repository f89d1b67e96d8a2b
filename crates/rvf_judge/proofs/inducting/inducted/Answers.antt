use Rattle.std.proofs.Common.{subst}
use Rattle.bm_decide.specs.declared.verdict.Verdict.{Verdict}
use Rattle.ck_induct.specs.Verdicts.{IsBaseSettled}
use Rattle.rvf_judge.proofs.HalvesTold.{failing, spent_base}
use Rattle.rvf_judge.proofs.inducting.inducted.Goals as goal

pub returns-in_ok-dump-in-Once : goal.returns-in_ok-dump-in-Once
returns-in_ok-dump-in-Once g c = λ ps has t own.
    failing ps c.args.net.now c.args.names.now has c.args.bad c.args.k t c.nodes.ensures.whole own c.in-Once.witness
    c.in_ok-dump-in-Once.dump c.in_ok-dump-in-Once.ensures

pub returns-in_ok-texts-in-Spent : goal.returns-in_ok-texts-in-Spent
returns-in_ok-texts-in-Spent g c = λ ps has t own.
    let more = g.S.Search.more c.args.search.now in
    let net = c.args.net.now in
    let P : Verdict → Type 0 = λ v. IsBaseSettled net c.args.bad c.args.k (more c.args.budget) c.args.budget v in
    spent_base ps net c.args.names.now has c.args.bad c.args.k t c.nodes.ensures.whole c.args.budget
    c.in-Spent.certificate c.in_ok-texts-in-Spent.texts (subst P c.in-Spent.is c.in_ok-verdict.ensures)
    c.in_ok-texts-in-Spent.ensures.texts c.in_ok-texts-in-Spent.ensures.read_back
