use Rattle.std.specs.Prelude.{ℕ, List, ◌++◌, ◌∷◌, []}
use Rattle.std.proofs.Common.{sym, ◌∙◌, subst}
use Rattle.wn_net.specs.Net.{AreNodes}
use Rattle.wn_opt.specs.Needed.{IsIn}
use Rattle.wn_opt.specs.Cone.{IsCone, KeepsRuns}
use Rattle.bm_decide.proofs.Coned.{assumed_first, first_there}
use Rattle.bm_decide.proofs.part.part_of.Goals as goal

pub cone-requires : goal.cone-requires
cone-requires c =
    let P : List ℕ → Type 0 = λ ids. AreNodes c.args.net.now ids in
    subst P (sym (c.as_slice-ends.ensures.value ∙ c.in_ok-first.ensures))
    (first_there c.args.net.now c.args.watch.now c.nodes.ensures.whole c.requires.watch)

pub cone_behind-requires-clause-first : goal.cone_behind-requires-clause-first
cone_behind-requires-clause-first c =
    let P : List ℕ → Type 0 = λ ids. AreNodes c.args.net.now ids in
    subst P (sym (c.as_slice-ends.ensures.value ∙ c.in_ok-first.ensures))
    (first_there c.args.net.now c.args.watch.now c.nodes.ensures.whole c.requires.watch)

pub cone_behind-requires-clause-assumed : goal.cone_behind-requires-clause-assumed
cone_behind-requires-clause-assumed c = λ id h.
    let P : List ℕ → Type 0 = λ ids. IsIn ids id in
    subst P (sym (c.as_slice-ends.ensures.value ∙ c.in_ok-first.ensures))
    (assumed_first c.args.net.now c.args.watch.now id h)

pub returns-clause-cone : goal.returns-clause-cone
returns-clause-cone c =
    let P : List ℕ → Type 0 = λ ids. IsCone c.args.net.now (ids ++ c.args.bad ∷ []) c.in_ok-grown.grown
    c.in_ok-grown.places in
    subst P (c.as_slice-ends.ensures.value ∙ c.in_ok-first.ensures) c.in_ok-grown.ensures.cone

pub returns-clause-runs : goal.returns-clause-runs
returns-clause-runs c =
    let P : List ℕ → Type 0 = λ ids. KeepsRuns c.args.net.now (ids ++ c.args.bad ∷ []) c.in_ok-grown.grown
    c.in_ok-grown.places in
    subst P (c.as_slice-ends.ensures.value ∙ c.in_ok-first.ensures) c.in_ok-grown.ensures.runs
