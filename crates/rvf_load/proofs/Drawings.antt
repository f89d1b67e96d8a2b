-- Modules have one design without hierarchy.
use Rattle.std.specs.Prelude.{◌≡◌, refl, List, [], ◌∷◌, map, Bool, true, false}
use Rattle.std.proofs.Common.{ap, sym, ◌∙◌, true≢false}
use Rattle.vl_tree.specs.declared.source.Module.{Module}
use Rattle.vl_size.specs.declared.decl.Decl.{Decl}
use Rattle.vl_mean.specs.declared.driver.Driver.{Driver}
use Rattle.vl_mean.specs.declared.driver.Start.{Start}
use Rattle.vl_mean.specs.declared.flat.Flat.{Flat}
use Rattle.rvf_load.specs.Loads.{IsFlat}

-- ---- lists that are equal are so part by part

abbrev is_empty : {A : Type 0} → List A → Bool
is_empty [] = true
is_empty (x ∷ xs) = false

abbrev first_or : {A : Type 0} → A → List A → A
first_or z [] = z
first_or z (x ∷ xs) = x

abbrev behind : {A : Type 0} → List A → List A
behind [] = []
behind (x ∷ xs) = xs

-- drivers are their places and what they do
drivers_one : (xs ys : List Driver) → map (λ x. x.pos) xs ≡ map (λ x. x.pos) ys
    → map (λ x. x.what) xs ≡ map (λ x. x.what) ys → xs ≡ ys
drivers_one [] [] p w = refl
drivers_one [] (y ∷ ys) p w = absurd (true≢false (ap is_empty p))
drivers_one (x ∷ xs) [] p w = absurd (true≢false (sym (ap is_empty p)))
drivers_one (x ∷ xs) (y ∷ ys) p w =
    let pos : x.pos ≡ y.pos = ap (first_or x.pos) p in
    let what : x.what ≡ y.what = ap (first_or x.what) w in
    let same : x ≡ y = λ i. record { pos = pos i; what = what i } in
    let rest : xs ≡ ys = drivers_one xs ys (ap behind p) (ap behind w) in
    λ i. same i ∷ rest i

-- ---- a design without hierarchy by its lists

abbrev pub Lists : Type 0
Lists = List Decl × List Driver × List Start

abbrev pub lists_of : Flat → Lists
lists_of f = (f.decls, f.drivers, f.starts)

pub one_design : (modules : List Module) (f g : Flat) → IsFlat modules f → IsFlat modules g → lists_of f ≡ lists_of g
one_design modules f g h k =
    let decls : f.decls ≡ g.decls = h.drawn.decls_are ∙ sym k.drawn.decls_are in
    let drivers : f.drivers ≡ g.drivers =
    drivers_one f.drivers g.drivers (h.placed ∙ sym k.placed) (h.drawn.drivers_are ∙ sym k.drawn.drivers_are) in
    let starts : f.starts ≡ g.starts = h.drawn.starts_are ∙ sym k.drawn.starts_are in
    λ i. (decls i, drivers i, starts i)
