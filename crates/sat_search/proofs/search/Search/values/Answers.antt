use Rattle.std.proofs.Common.{◌≡◌, ◌<◌, ◌^◌, sym, subst}
use Rattle.std.specs.Prelude.{IfOk}
use Rattle.sat_trail.specs.Trail.{lits, values_of}
use Rattle.sat_search.proofs.search.Search.values.Goals as goal

pub values-requires : goal.values-requires
values-requires c = subst (λ z. z.vars < 2 ^ 63) (sym c.self.view_is) c.requires

pub returns : goal.returns
returns c =
    subst (λ z. IfOk c.values.result (λ values. values ≡ values_of z.vars (lits z.trail))) c.self.view_is
    c.values.ensures
