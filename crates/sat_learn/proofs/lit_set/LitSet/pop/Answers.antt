use Rattle.std.proofs.Common.{cond, ap, sym, subst, ◌∙◌}
use Rattle.std.specs.Ordering.{int_eq}
use Rattle.lrat_check.specs.Sets.{IsLit}
use Rattle.sat_trail.specs.Trail.{place_of}
use Rattle.sat_trail.proofs.Codes.{lit_kept}
use Rattle.sat_learn.proofs.Placings.{popped, last_is_lit}
use Rattle.sat_learn.proofs.lit_set.LitSet.pop.Goals as goal

pub clear-requires : goal.clear-requires
clear-requires c =
    let i = last_is_lit c.self.inside.lits.items c.pop.new.self.items c.in_ok-lit.lit c.in_ok-lit.ensures.items
    c.self.invariant.all_lits in
    subst IsLit (sym (lit_kept c.in_ok-lit.lit i)) i

pub invariant_of-self-2 : goal.invariant_of-self-2
invariant_of-self-2 c =
    let i = last_is_lit c.self.inside.lits.items c.pop.new.self.items c.in_ok-lit.lit c.in_ok-lit.ensures.items
    c.self.invariant.all_lits in
    popped c.self.inside.lits.items c.pop.new.self.items c.self.inside.places c.clear.new.self c.in_ok-lit.lit
    c.in_ok-lit.ensures.items c.self.invariant
    (λ l. c.clear.ensures l ∙ ap (λ z. cond (int_eq z l) 0 (place_of c.self.inside.places l))
    (lit_kept c.in_ok-lit.lit i))
