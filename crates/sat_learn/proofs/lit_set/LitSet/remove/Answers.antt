use Rattle.std.proofs.Common.{◌≡◌, ◌<◌, ◌≤◌, ◌-◌, List, ℤ, pos, length, vec_len, cond, ap, sym, subst, ◌∙◌}
use Rattle.std.proofs.Common.{not, ◌&&◌, arith}
use Rattle.std.specs.Ordering.{int_eq}
use Rattle.lrat_check.specs.Sets.{has, AreLits}
use Rattle.sat_trail.specs.Trail.{place_of}
use Rattle.sat_propagate.specs.Watches.{lit_at}
use Rattle.sat_learn.proofs.Placings.{hadnt, within, moved_placed, lits_kept, taken_out, taken_has}
use Rattle.sat_learn.proofs.lit_set.LitSet.remove.Goals as goal

pub returns-then-place-eq0 : goal.returns-then-place-eq0
returns-then-place-eq0 c =
    let P : List ℤ → Type 0 = λ z. (x : ℤ) → has z x ≡ (not (int_eq c.args.lit.now x) && has z x) in
    subst P c.self.view_is (hadnt c.self.inside.lits.items c.self.inside.places c.self.invariant c.args.lit.now
    (sym c.get-place.ensures ∙ c.if-place-eq0.true))

pub swap_remove-requires : goal.swap_remove-requires
swap_remove-requires c =
    let w = within c.self.inside.lits.items c.self.inside.places c.self.invariant c.args.lit.now c.get-place.result
    c.get-place.ensures c.if-place-eq0.false in
    omega (arith, w, c.self.inside.lits.ok.0)

pub settle-requires-clause-placed : goal.settle-requires-clause-placed
settle-requires-clause-placed c =
    let P : List ℤ → Type 0 = λ z. c.get-place.result ≤ length z
    → 0 < place_of c.self.inside.places (lit_at z (c.get-place.result - 1)) in
    let last : vec_len c.self.inside.lits - 1 ≡ length c.self.inside.lits.items - 1 =
    omega (arith, c.self.inside.lits.ok.0) in
    subst P (sym c.deref.ensures.value) (moved_placed c.self.inside.lits.items c.self.inside.places c.self.invariant
    c.args.lit.now c.get-place.result c.get-place.ensures c.if-place-eq0.false c.swap_remove.new.self.items
    (omega (arith, c.swap_remove.ensures.len, c.swap_remove.new.self.ok.0, c.self.inside.lits.ok.0))
    (λ h. c.swap_remove.ensures.by_index.0 (pos 0) (omega (arith, h, c.self.inside.lits.ok.0))
    ∙ ap (lit_at c.self.inside.lits.items) last)
    (λ k n h. c.swap_remove.ensures.by_index.1 k (pos 0) n (omega (arith, h, c.self.inside.lits.ok.0))))

pub settle-requires-clause-lits : goal.settle-requires-clause-lits
settle-requires-clause-lits c =
    let last : vec_len c.self.inside.lits - 1 ≡ length c.self.inside.lits.items - 1 =
    omega (arith, c.self.inside.lits.ok.0) in
    subst AreLits (sym c.deref.ensures.value) (lits_kept c.self.inside.lits.items c.self.inside.places c.self.invariant
    c.args.lit.now c.get-place.result c.get-place.ensures c.if-place-eq0.false c.swap_remove.new.self.items
    (omega (arith, c.swap_remove.ensures.len, c.swap_remove.new.self.ok.0, c.self.inside.lits.ok.0))
    (λ h. c.swap_remove.ensures.by_index.0 (pos 0) (omega (arith, h, c.self.inside.lits.ok.0))
    ∙ ap (lit_at c.self.inside.lits.items) last)
    (λ k n h. c.swap_remove.ensures.by_index.1 k (pos 0) n (omega (arith, h, c.self.inside.lits.ok.0))))

pub invariant_of-self : goal.invariant_of-self
invariant_of-self c =
    let last : vec_len c.self.inside.lits - 1 ≡ length c.self.inside.lits.items - 1 =
    omega (arith, c.self.inside.lits.ok.0) in
    let P : List ℤ → Type 0 = λ z. c.get-place.result ≤ length z → (l : ℤ) → place_of c.settle.new.places l
    ≡ cond (int_eq (lit_at z (c.get-place.result - 1)) l) c.get-place.result (place_of c.self.inside.places l) in
    let Q : List ℤ → Type 0 = λ z. length z < c.get-place.result → (l : ℤ)
    → place_of c.settle.new.places l ≡ place_of c.self.inside.places l in
    taken_out c.self.inside.lits.items c.self.inside.places c.self.invariant
    c.args.lit.now c.get-place.result c.get-place.ensures c.if-place-eq0.false c.swap_remove.new.self.items
    (omega (arith, c.swap_remove.ensures.len, c.swap_remove.new.self.ok.0, c.self.inside.lits.ok.0))
    (λ h. c.swap_remove.ensures.by_index.0 (pos 0) (omega (arith, h, c.self.inside.lits.ok.0))
    ∙ ap (lit_at c.self.inside.lits.items) last)
    (λ k n h. c.swap_remove.ensures.by_index.1 k (pos 0) n (omega (arith, h, c.self.inside.lits.ok.0)))
    c.settle.new.places c.clear.new.self (subst P c.deref.ensures.value c.settle.ensures.moved)
    (subst Q c.deref.ensures.value c.settle.ensures.same) c.clear.ensures

pub returns : goal.returns
returns c =
    let last : vec_len c.self.inside.lits - 1 ≡ length c.self.inside.lits.items - 1 =
    omega (arith, c.self.inside.lits.ok.0) in
    let P : List ℤ → Type 0 = λ z. c.get-place.result ≤ length z → (l : ℤ) → place_of c.settle.new.places l
    ≡ cond (int_eq (lit_at z (c.get-place.result - 1)) l) c.get-place.result (place_of c.self.inside.places l) in
    let Q : List ℤ → Type 0 = λ z. length z < c.get-place.result → (l : ℤ)
    → place_of c.settle.new.places l ≡ place_of c.self.inside.places l in
    let R : List ℤ → Type 0 = λ z. (x : ℤ)
    → has c.swap_remove.new.self.items x ≡ (not (int_eq c.args.lit.now x) && has z x) in
    subst R c.self.view_is (taken_has c.self.inside.lits.items c.self.inside.places c.self.invariant
    c.args.lit.now c.get-place.result c.get-place.ensures c.if-place-eq0.false c.swap_remove.new.self.items
    (omega (arith, c.swap_remove.ensures.len, c.swap_remove.new.self.ok.0, c.self.inside.lits.ok.0))
    (λ h. c.swap_remove.ensures.by_index.0 (pos 0) (omega (arith, h, c.self.inside.lits.ok.0))
    ∙ ap (lit_at c.self.inside.lits.items) last)
    (λ k n h. c.swap_remove.ensures.by_index.1 k (pos 0) n (omega (arith, h, c.self.inside.lits.ok.0)))
    c.settle.new.places c.clear.new.self (subst P c.deref.ensures.value c.settle.ensures.moved)
    (subst Q c.deref.ensures.value c.settle.ensures.same) c.clear.ensures)
