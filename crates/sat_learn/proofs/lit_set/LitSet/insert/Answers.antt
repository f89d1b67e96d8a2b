use Rattle.std.proofs.Common.{◌≡◌, ◌+◌, ◌-◌, false, [], ◌∷◌, ◌++◌, length, vec_len, ap, sym, subst, ◌∙◌, arith}
use Rattle.std.proofs.lemmas.List.{length_push}
use Rattle.lrat_check.specs.Sets.{has}
use Rattle.sat_trail.proofs.Codes.{lit_kept}
use Rattle.sat_learn.specs.Placed.{ArePlaced}
use Rattle.sat_learn.proofs.Placings.{inserted, same_places, popped_list}
use Rattle.sat_learn.proofs.lit_set.LitSet.insert.Goals as goal

pub invariant_of-self-in-Ok : goal.invariant_of-self-in-Ok
invariant_of-self-in-Ok c =
    let set = c.self.inside.lits.items in
    let fresh : has set c.args.lit.now ≡ false =
    ap (λ z. has z c.args.lit.now) c.self.view_is ∙ sym c.has.ensures ∙ c.if-has.false in
    let items : c.push.new.self.items ≡ set ++ c.args.lit.now ∷ [] =
    c.in_ok-push.ensures.items ∙ ap (λ z. set ++ z ∷ []) (lit_kept c.args.lit.now c.requires) in
    let long = ap length items ∙ length_push set c.args.lit.now in
    let many : c.len.result ≡ length set + 1 = omega (arith, c.len.ensures, c.push.new.self.ok.0, long) in
    subst (λ z. ArePlaced z c.put.new.self) (sym items)
    (inserted set c.self.inside.places c.self.invariant c.args.lit.now c.put.new.self c.requires fresh
    (λ l. let u = c.in-Ok.ensures.ok l in grind (arith, u, many)))

pub invariant_of-self-in-Err : goal.invariant_of-self-in-Err
invariant_of-self-in-Err c =
    let set = c.self.inside.lits.items in
    let items : c.push.new.self.items ≡ set ++ c.args.lit.now ∷ [] =
    c.in_ok-push.ensures.items ∙ ap (λ z. set ++ z ∷ []) (lit_kept c.args.lit.now c.requires) in
    let long = ap length items ∙ length_push set c.args.lit.now in
    let many : vec_len c.push.new.self - 1 ≡ length set = omega (arith, c.push.new.self.ok.0, long) in
    same_places c.pop.new.self.items c.self.inside.places c.put.new.self
    (subst (λ z. ArePlaced z c.self.inside.places)
    (sym (popped_list set c.push.new.self.items c.pop.new.self.items c.args.lit.now (vec_len c.push.new.self - 1)
    items many c.pop.ensures.rest)) c.self.invariant) c.in-Err.ensures.err
