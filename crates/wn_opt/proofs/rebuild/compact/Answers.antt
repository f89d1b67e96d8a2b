use Rattle.std.specs.Prelude.{ℕ, List, Option, map}
use Rattle.std.proofs.Common.{ap, sym, ◌∙◌, subst}
use Rattle.wn_net.specs.Net.{AreNodes}
use Rattle.wn_opt.specs.Compact.{IsCompact}
use Rattle.wn_opt.specs.Cone.{place}
use Rattle.wn_opt.specs.Rebuilt.{IsNarrowed}
use Rattle.wn_opt.proofs.Compacting.{heads_there, is_compact}
use Rattle.wn_opt.proofs.rebuild.compact.Goals as goal

pub narrow-requires-clause-roots : goal.narrow-requires-clause-roots
narrow-requires-clause-roots c =
    let roots = c.args.roots.now in
    let middle = c.in_ok-shared.shared in
    let t = c.in_ok-shared.places.items in
    let e = c.in_ok-heads.ensures ∙ ap (λ (p : List (Option ℕ)). map (place p) roots) c.as_slice.ensures.value in
    subst (λ ids. AreNodes middle ids) (sym c.as_slice-2.ensures.value)
    (heads_there c.args.net.now middle roots c.in_ok-heads.heads.items t c.in_ok-shared.ensures e)

pub returns : goal.returns
returns c =
    let net = c.args.net.now in
    let roots = c.args.roots.now in
    let middle = c.in_ok-shared.shared in
    let part = c.in_ok-narrowed.narrowed.net in
    let inputs = c.in_ok-narrowed.narrowed.inputs.items in
    let t = c.in_ok-shared.places.items in
    let u = c.in_ok-narrowed.narrowed.places.items in
    let heads = c.in_ok-heads.heads.items in
    let ends = c.in_ok-ends.ends.items in
    let e = c.in_ok-heads.ensures ∙ ap (λ (p : List (Option ℕ)). map (place p) roots) c.as_slice.ensures.value in
    let k : IsNarrowed middle heads part inputs u =
    subst (λ ids. IsNarrowed middle ids part inputs u) c.as_slice-2.ensures.value c.in_ok-narrowed.ensures in
    let f = c.in_ok-ends.ensures ∙ ap (λ (p : List (Option ℕ)). map (place p) c.as_slice-4.result.now)
    c.as_slice-3.ensures.value ∙ ap (map (place u)) c.as_slice-4.ensures.value in
    let Kept : List ℕ → Type 0 = λ xs. IsCompact net roots part xs c.from_vec-2.result in
    let Ends : List ℕ → Type 0 = λ xs. IsCompact net roots part inputs xs in
    subst Kept (sym c.from_vec.ensures)
    (subst Ends (sym c.from_vec-2.ensures)
    (is_compact net middle part roots heads ends inputs t u c.in_ok-shared.ensures e k f))
