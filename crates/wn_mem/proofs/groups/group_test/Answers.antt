use Rattle.wn_mem.proofs.groups.group_test.Goals as goal

pub returns-then-place-ne0-clause-value : goal.returns-then-place-ne0-clause-value
returns-then-place-ne0-clause-value c = λ g given. c.requires.kept g given (λ none. c.if-place-ne0.true none)
