use Rattle.std.proofs.Common.{◌≡◌, List, rules, subst}
use Rattle.std.specs.Prelude.{All}
use Rattle.vl_mean.specs.declared.driver.Driver.{Driver}
use Rattle.vl_mean.specs.FlatLaw.{IsDriver}
use Rattle.vl_flow.specs.Analyses.{AreSetsOf}
use Rattle.vl_flow.proofs.Analysing.{footprints_of, theirs}
use Rattle.vl_flow.proofs.analysis.analyzed.Goals as goal

pub returns : goal.returns
returns c =
    let ds = c.args.flat.now.decls in
    let drivers = c.args.flat.now.drivers in
    let lawful = c.args.flat.now.lawful in
    let slice : c.as_slice.result.now ≡ drivers = search rules in
    let sets = subst (λ (xs : List Driver). All (λ x. IsDriver ds x.what) xs → AreSetsOf ds xs c.in_ok-sets.sets) slice
    c.in_ok-sets.ensures lawful.driven in record {
      numbering_is = c.in_ok-numbering.ensures;
      layout_is = record {
        footprints = footprints_of ds c.in_ok-groups.groups c.in_ok-sets.sets.footprints drivers lawful.driven
            c.in_ok-groups.ensures sets.footprints_are;
        all = c.in_ok-all.ensures;
        assigned = theirs ds c.in_ok-sets.sets.assigned drivers sets.assigned_are;
      };
      latched_are = sets.latched_are;
    }
