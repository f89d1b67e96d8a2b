use Rattle.std.proofs.Common.{◌∙◌, ◌-◌, ap, length, subst, sym}
use Rattle.vl_elab_scope.specs.Seen.{AllNamed, inward}
use Rattle.vl_elab_scope.proofs.Levels.{beneath, lifted, named_parted}
use Rattle.vl_elab_scope.proofs.names.Names.lift.Goals as goal

pub invariant_of-result : goal.invariant_of-result
invariant_of-result c =
    let ls = c.self.inside.levels.items in
    subst (λ ls. AllNamed (inward ls)) (sym c.in_ok-last_levels.ensures.last)
    (named_parted ls (length ls - c.args.count) c.self.invariant).0

pub invariant_of-self-2 : goal.invariant_of-self-2
invariant_of-self-2 c =
    let ls = c.self.inside.levels.items in
    subst (λ ls. AllNamed (inward ls)) (sym c.in_ok-last_levels.ensures.rest)
    (named_parted ls (length ls - c.args.count) c.self.invariant).1

pub returns-clause-laid : goal.returns-clause-laid
returns-clause-laid c over rest is long =
    ap inward c.in_ok-last_levels.ensures.last
    ∙ lifted c.self.inside.levels.items over rest c.args.count (c.self.view_is ∙ is) long

pub returns-clause-rest : goal.returns-clause-rest
returns-clause-rest c over rest is long =
    ap inward c.in_ok-last_levels.ensures.rest
    ∙ beneath c.self.inside.levels.items over rest c.args.count (c.self.view_is ∙ is) long
