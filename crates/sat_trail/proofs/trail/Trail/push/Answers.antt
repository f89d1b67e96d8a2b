use Rattle.std.proofs.Common.{◌≡◌, false, [], ◌∷◌, suc, ap, sym, subst, reverse, ◌∙◌, length, arith}
use Rattle.std.proofs.lemmas.List.{reverse-append, length-reverse, length_push}
use Rattle.lrat_check.specs.Sets.{has}
use Rattle.sat_trail.specs.Trail.{Entries, lits, ArePlaces}
use Rattle.sat_trail.proofs.Standing.{pushed}
use Rattle.sat_trail.proofs.trail.Trail.push.Goals as goal

pub invariant_of-self-in-Ok : goal.invariant_of-self-in-Ok
invariant_of-self-in-Ok c =
    let P : Entries → Type 0 = λ t. ArePlaces t c.put.new.self in
    let Q : Entries → Type 0 = λ t. has (lits t) c.args.entry.lit ≡ false in
    let place : c.len.result ≡ suc (length (reverse c.self.inside.entries.items)) =
    omega (
      arith,
      c.len.ensures,
      c.push.new.self.ok.0,
      ap length c.in_ok-push.ensures.items,
      length_push
          c.self.inside.entries.items c.args.entry,
      length-reverse c.self.inside.entries.items,
    ) in
    subst P (sym (ap reverse c.in_ok-push.ensures.items
    ∙ reverse-append c.self.inside.entries.items (c.args.entry ∷ [])))
    (pushed (reverse c.self.inside.entries.items) c.args.entry c.self.inside.places c.put.new.self
    c.self.invariant c.requires.lit (subst Q (sym c.self.view_is) c.requires.fresh)
    (λ q. let u = c.in-Ok.ensures.ok q in grind (arith, u, place)))
