use Rattle.std.specs.Prelude.{IfOk}
use Rattle.std.proofs.Common.{sym, subst}
use Rattle.bb_aig.specs.Gates.{Meaning, IsMade}
use Rattle.bb_words.specs.WordsOperators.{of_operator}
use Rattle.bb_words.specs.declared.pairs.BitOperator.{BitOperator}
use Rattle.bb_words.proofs.pairs.BitOperator.gate.Goals as goal

pub returns-in-And-clause-made : goal.returns-in-And-clause-made
returns-in-And-clause-made c =
    let P : BitOperator → Type 0 = λ o. IfOk c.and.result (λ l. (f h : Meaning)
    → IsMade c.args.gates.now f c.args.a → IsMade c.args.gates.now h c.args.b
    → IsMade c.and.new.self (λ x. of_operator o (f x) (h x)) l) in
    subst P (sym c.in-And.is) c.and.ensures.made

pub returns-in-Or-clause-made : goal.returns-in-Or-clause-made
returns-in-Or-clause-made c =
    let P : BitOperator → Type 0 = λ o. IfOk c.either.result (λ l. (f h : Meaning)
    → IsMade c.args.gates.now f c.args.a → IsMade c.args.gates.now h c.args.b
    → IsMade c.either.new.gates (λ x. of_operator o (f x) (h x)) l) in
    subst P (sym c.in-Or.is) c.either.ensures.made

pub returns-in-Xor-clause-made : goal.returns-in-Xor-clause-made
returns-in-Xor-clause-made c =
    let P : BitOperator → Type 0 = λ o. IfOk c.differ.result (λ l. (f h : Meaning)
    → IsMade c.args.gates.now f c.args.a → IsMade c.args.gates.now h c.args.b
    → IsMade c.differ.new.gates (λ x. of_operator o (f x) (h x)) l) in
    subst P (sym c.in-Xor.is) c.differ.ensures.made
