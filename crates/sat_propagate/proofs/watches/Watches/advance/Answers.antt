use Rattle.std.proofs.Common.{◌+◌, refl, ap, sym, subst, ◌∙◌}
use Rattle.lrat_check.specs.Codes.{code_of, flip}
use Rattle.sat_trail.specs.Trail.{true_codes, IsNext}
use Rattle.sat_trail.proofs.Codes.{lit_kept}
use Rattle.sat_propagate.specs.Watching.{is_false_code}
use Rattle.sat_propagate.specs.Watches.{State, Keeps}
use Rattle.sat_propagate.proofs.Keeping.{taken_on}
use Rattle.sat_propagate.proofs.Steps.{false_next}
use Rattle.sat_propagate.proofs.watches.Watches.advance.Goals as goal

pub visit-requires-clause-keeps : goal.visit-requires-clause-keeps
visit-requires-clause-keeps c =
    let i = c.self.inside in
    let w : State = record { store = i.store; lists = i.lists; head = i.head; code = i.code; rest = i.rest.items } in
    let k : Keeps w c.args.trail.now = subst (λ z. Keeps z c.args.trail.now) (sym c.self.view_is) c.requires.keeps in
    taken_on w c.args.trail.now c.args.lit c.take.new.self c.take.new.spare.items (i.head + 1)
    c.flip-self-inside.result k (ap (λ z. z.rest) c.self.view_is ∙ c.requires.rest)
    (subst (λ z. IsNext c.args.trail.now z c.args.lit) (sym (ap (λ z. z.head) c.self.view_is)) c.requires.lit) refl
    (c.flip-self-inside.ensures ∙ ap flip (c.code_of.ensures ∙ ap code_of (lit_kept c.args.lit c.requires.lit.is_lit)))
    c.take.ensures.rest c.take.ensures.list

pub visit-requires-clause-code : goal.visit-requires-clause-code
visit-requires-clause-code c =
    ap (is_false_code (true_codes c.args.trail.now))
    (c.flip-self-inside.ensures ∙ ap flip (c.code_of.ensures ∙ ap code_of (lit_kept c.args.lit c.requires.lit.is_lit)))
    ∙ false_next c.args.trail.now c.args.self.now.head c.args.lit c.requires.lit
