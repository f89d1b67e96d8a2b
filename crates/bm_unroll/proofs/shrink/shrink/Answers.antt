use Rattle.std.specs.Prelude.{refl, ℕ, ◌<◌, List, Some, length, map, slice_index}
use Rattle.std.specs.List.{AllByRecursion}
use Rattle.std.proofs.Common.{ap, sym, ◌∙◌, subst}
use Rattle.std.proofs.lemmas.List.{length-map}
use Rattle.wn_net.specs.declared.parts.Input.{Input}
use Rattle.wn_net.specs.Net.{width_at}
use Rattle.bm_unroll.specs.declared.frames.Source.{Source}
use Rattle.bm_unroll.specs.Shrunk.{frames_of, source_at}
use Rattle.bm_unroll.proofs.Shrinking.{first_within, is_shrunk, sources_there}
use Rattle.bm_unroll.proofs.shrink.shrink.Goals as goal

pub framed-requires : goal.framed-requires
framed-requires c =
    let w = c.args.walked in
    let m = c.in_ok-made.made in
    let ids_are = c.as_slice-ends.ensures.value ∙ c.in_ok-ids.ensures in
    let same = c.in_ok-made.ensures.root_widths ∙ ap (map (width_at c.args.draft.net)) ids_are in
    record {
      long = first_within (width_at m.net) (width_at c.args.draft.net) w.roots.items w.watch.items m.roots same;
    }

pub returns : goal.returns
returns c =
    let d = c.args.draft in
    let w = c.args.walked in
    let m = c.in_ok-made.made in
    let f = c.in_ok-frames.frames in
    let made = c.in_ok-frames.ensures in
    let kept = c.as_slice-kept.ensures in
    let listed = c.as_slice-listed.ensures.value in
    let wide = c.as_slice-wide.ensures.value in
    let Below : ℕ → Type 0 = λ n. AllByRecursion (λ k. k < n) m.inputs in
    let below : Below (length d.sources.items) =
    subst Below
    (sym (length-map d.net.inputs (λ (x : Input). x.width)) ∙ ap length c.requires.inputs ∙ c.requires.each)
    c.in_ok-made.ensures.there in
    is_shrunk (frames_of d w) f d.net m.net m.inputs c.as_slice-ends.result.now m.roots c.requires.flat refl
    c.requires.inputs (c.as_slice-ends.ensures.value ∙ c.in_ok-ids.ensures) c.in_ok-made.ensures made.net made.nodes
    (ap (λ (xs : List Source). map Some xs)
    (made.sources ∙ c.in_ok-sources.ensures ∙ (λ i. map (source_at (listed i)) (kept i)))
    ∙ sources_there d.sources.items m.inputs below)
    (made.widths ∙ c.in_ok-widths.ensures ∙ (λ i. map (slice_index (wide i)) (kept i))) made.roots made.watch
