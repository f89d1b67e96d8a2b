use Rattle.vl_prep.proofs.Whole.{groups_of, only_preprocessed, refusal_of, only_refused}
use Rattle.vl_prep.proofs.law.groups_decide.Goals as goal

pub returns-clause-accepted : goal.returns-clause-accepted
returns-clause-accepted c macros tokens r h = groups_of macros tokens r h

pub returns-clause-accepted_alone : goal.returns-clause-accepted_alone
returns-clause-accepted_alone c macros tokens r h = only_preprocessed macros tokens r h

pub returns-clause-refused : goal.returns-clause-refused
returns-clause-refused c macros tokens f h = refusal_of macros tokens f h

pub returns-clause-refused_alone : goal.returns-clause-refused_alone
returns-clause-refused_alone c macros tokens f h = only_refused macros tokens f h
