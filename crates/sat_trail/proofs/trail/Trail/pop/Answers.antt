use Rattle.std.proofs.Common.{[], ◌∷◌, ap, subst, reverse, ◌∙◌}
use Rattle.std.proofs.lemmas.List.{reverse-append}
use Rattle.sat_trail.specs.Trail.{Entries, ArePlaces}
use Rattle.sat_trail.proofs.Standing.{popped}
use Rattle.sat_trail.proofs.trail.Trail.pop.Goals as goal

pub clear-requires : goal.clear-requires
clear-requires c =
    let P : Entries → Type 0 = λ t. ArePlaces t c.self.inside.places in
    (subst P (ap reverse c.in_ok-entry.ensures.items
    ∙ reverse-append c.pop.new.self.items (c.in_ok-entry.entry ∷ [])) c.self.invariant).all_lits.0

pub invariant_of-self-2 : goal.invariant_of-self-2
invariant_of-self-2 c =
    popped (reverse c.pop.new.self.items) c.in_ok-entry.entry c.self.inside.places c.clear.new.self
    (let P : Entries → Type 0 = λ t. ArePlaces t c.self.inside.places in
    subst P (ap reverse c.in_ok-entry.ensures.items
    ∙ reverse-append c.pop.new.self.items (c.in_ok-entry.entry ∷ [])) c.self.invariant)
    c.clear.ensures
