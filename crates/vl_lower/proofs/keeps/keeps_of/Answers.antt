use Rattle.std.proofs.Common.{◌≡◌, ◌∙◌, List, [], ℕ, ap, length, rules, sym, subst}
use Rattle.vl_mean.specs.declared.driver.Driver.{Driver}
use Rattle.vl_mean.specs.declared.driver.Start.{Start}
use Rattle.vl_flow_effects.specs.Masks.{AreDriven, AreStarted}
use Rattle.vl_lower_stmt.specs.First.{AreFirst}
use Rattle.vl_lower.specs.Keeping.{AreJoined}
use Rattle.vl_lower.proofs.KeepingLaws.{all_kept}
use Rattle.vl_lower.proofs.keeps.keeps_of.Goals as goal

pub joined-requires-clause-known : goal.joined-requires-clause-known
joined-requires-clause-known c =
    ap length c.as_slice-5.ensures ∙ (c.in_ok-known.ensures []).0 ∙ sym (c.in_ok-driven.ensures []).0
    ∙ sym (ap length c.as_slice-4.ensures)

pub joined-requires-clause-values : goal.joined-requires-clause-values
joined-requires-clause-values c =
    ap length c.as_slice-6.ensures ∙ c.in_ok-values.ensures.each ∙ sym (c.in_ok-driven.ensures []).0
    ∙ sym (ap length c.as_slice-4.ensures)

pub returns : goal.returns
returns c =
    let ds = c.args.flat.now.decls in
    let drivers = c.args.flat.now.drivers in
    let xs = c.args.flat.now.starts in
    let driven = c.in_ok-driven.driven in
    let known = c.in_ok-known.known in
    let values = c.in_ok-values.values in
    let keeps = c.in_ok-joined.field-0 in
    let first : c.as_slice.result.now ≡ drivers = search rules in
    let second : c.as_slice-2.result.now ≡ xs = search rules in
    let third : c.as_slice-3.result.now ≡ xs = search rules in
    let joined : AreJoined driven known values keeps =
    subst (λ (ys : List ℕ). AreJoined driven known ys keeps) c.as_slice-6.ensures
    (subst (λ (ys : List ℕ). AreJoined driven ys c.as_slice-6.result.now keeps) c.as_slice-5.ensures
    (subst (λ (ys : List ℕ). AreJoined ys c.as_slice-5.result.now c.as_slice-6.result.now keeps) c.as_slice-4.ensures
    c.in_ok-joined.ensures)) in
    record {
      each = c.in_ok-joined.ensures.each ∙ ap length c.as_slice-4.ensures ∙ (c.in_ok-driven.ensures []).0;
      are = all_kept ds drivers xs driven known values keeps
          (subst (λ (ys : List Driver). AreDriven ds ys driven) first c.in_ok-driven.ensures)
          (subst (λ (ys : List Start). AreStarted ds ys known) second c.in_ok-known.ensures)
          (subst (λ (ys : List Start). AreFirst ds ys values) third c.in_ok-values.ensures) joined;
    }
