use Rattle.std.specs.Prelude.{ℕ, List, Option, map, ◌++◌, ◌∷◌, []}
use Rattle.std.proofs.Common.{ap, refl, sym, ◌∙◌, subst}
use Rattle.wn_net.specs.Net.{IsNode, AreNodes}
use Rattle.wn_opt.specs.Cone.{place}
use Rattle.bm_unroll.specs.Frames.{HasRoots, HasWatch}
use Rattle.bm_decide.proofs.Coned.{assumed_in, bad_in, net_choices, net_chosen, net_roots, net_watch, net_widths}
use Rattle.bm_decide.proofs.Coned.{part_within, place_there, places_there, watched_in}
use Rattle.bm_decide.proofs.part.part_frames.Goals as goal

pub unroll-requires-clause-bad : goal.unroll-requires-clause-bad
unroll-requires-clause-bad c =
    let net = c.args.net.now in
    let part = c.in_ok-part.part in
    let roots = (net.assumes ++ c.args.watch.now) ++ c.args.bad ∷ [] in
    let t = c.in_ok-part.table in
    let last_is = c.place-last.ensures ∙ ap (λ (p : List (Option ℕ)). place p c.args.bad) c.as_slice-places.ensures in
    let P : ℕ → Type 0 = λ id. IsNode part id in
    subst P (sym last_is)
    (place_there net part roots t c.nodes.ensures.whole c.nodes-2.ensures.whole c.in_ok-part.ensures.cone
    c.in_ok-part.ensures.runs c.args.bad (bad_in net c.args.watch.now c.args.bad roots refl))

pub unroll-requires-clause-watch : goal.unroll-requires-clause-watch
unroll-requires-clause-watch c =
    let net = c.args.net.now in
    let part = c.in_ok-part.part in
    let roots = (net.assumes ++ c.args.watch.now) ++ c.args.bad ∷ [] in
    let t = c.in_ok-part.table in
    let shown_are = c.as_slice-shown.ensures.value ∙ c.in_ok-watched.ensures
    ∙ ap (λ (p : List (Option ℕ)). map (place p) c.args.watch.now) c.as_slice-places.ensures in
    let P : List ℕ → Type 0 = λ ids. AreNodes part ids in
    subst P (sym shown_are)
    (places_there net part roots t c.nodes.ensures.whole c.nodes-2.ensures.whole c.in_ok-part.ensures.cone
    c.in_ok-part.ensures.runs c.args.watch.now (watched_in net c.args.watch.now c.args.bad roots refl))

pub unroll-requires-clause-within : goal.unroll-requires-clause-within
unroll-requires-clause-within c =
    let net = c.args.net.now in
    let part = c.in_ok-part.part in
    let roots = (net.assumes ++ c.args.watch.now) ++ c.args.bad ∷ [] in
    let t = c.in_ok-part.table in
    part_within net part roots t c.nodes.ensures.whole c.nodes-2.ensures.whole c.in_ok-part.ensures.cone
    c.in_ok-part.ensures.runs c.requires.within

pub returns-clause-roots : goal.returns-clause-roots
returns-clause-roots c =
    let net = c.args.net.now in
    let part = c.in_ok-part.part in
    let roots = (net.assumes ++ c.args.watch.now) ++ c.args.bad ∷ [] in
    let t = c.in_ok-part.table in
    let last_is = c.place-last.ensures ∙ ap (λ (p : List (Option ℕ)). place p c.args.bad) c.as_slice-places.ensures in
    let f = c.in_ok-frames.frames in
    let P : ℕ → Type 0 = λ id. HasRoots part id c.args.cycle f in
    net_roots net part roots t c.nodes.ensures.whole c.nodes-2.ensures.whole c.in_ok-part.ensures.cone
    c.in_ok-part.ensures.runs c.args.bad c.args.cycle f
    (assumed_in net c.args.watch.now c.args.bad roots refl) (bad_in net c.args.watch.now c.args.bad roots refl)
    (subst P last_is c.in_ok-frames.ensures.roots)

pub returns-clause-watch : goal.returns-clause-watch
returns-clause-watch c =
    let net = c.args.net.now in
    let part = c.in_ok-part.part in
    let roots = (net.assumes ++ c.args.watch.now) ++ c.args.bad ∷ [] in
    let t = c.in_ok-part.table in
    let shown_are = c.as_slice-shown.ensures.value ∙ c.in_ok-watched.ensures
    ∙ ap (λ (p : List (Option ℕ)). map (place p) c.args.watch.now) c.as_slice-places.ensures in
    let f = c.in_ok-frames.frames in
    let P : List ℕ → Type 0 = λ ids. HasWatch part ids c.args.cycle f in
    net_watch net part roots t c.nodes.ensures.whole c.nodes-2.ensures.whole c.in_ok-part.ensures.cone
    c.in_ok-part.ensures.runs c.args.watch.now c.args.cycle f
    (watched_in net c.args.watch.now c.args.bad roots refl) (subst P shown_are c.in_ok-frames.ensures.watch)

pub returns-clause-sources : goal.returns-clause-sources
returns-clause-sources c =
    let net = c.args.net.now in
    let part = c.in_ok-part.part in
    let roots = (net.assumes ++ c.args.watch.now) ++ c.args.bad ∷ [] in
    let t = c.in_ok-part.table in
    net_choices net part roots t c.nodes.ensures.whole c.nodes-2.ensures.whole c.in_ok-part.ensures.cone
    c.in_ok-part.ensures.runs c.args.cycle c.in_ok-frames.frames.sources c.in_ok-frames.ensures.sources

pub returns-clause-widths : goal.returns-clause-widths
returns-clause-widths c =
    let net = c.args.net.now in
    let part = c.in_ok-part.part in
    let roots = (net.assumes ++ c.args.watch.now) ++ c.args.bad ∷ [] in
    let t = c.in_ok-part.table in
    c.in_ok-frames.ensures.widths
    ∙ net_widths net part roots t c.nodes.ensures.whole c.nodes-2.ensures.whole c.in_ok-part.ensures.cone
    c.in_ok-part.ensures.runs c.in_ok-frames.frames.sources

pub returns-clause-chosen : goal.returns-clause-chosen
returns-clause-chosen c =
    let net = c.args.net.now in
    let part = c.in_ok-part.part in
    let roots = (net.assumes ++ c.args.watch.now) ++ c.args.bad ∷ [] in
    let t = c.in_ok-part.table in
    let f = c.in_ok-frames.frames in
    net_chosen net part roots t c.nodes.ensures.whole c.nodes-2.ensures.whole c.in_ok-part.ensures.cone
    c.in_ok-part.ensures.runs f.widths f.sources c.in_ok-frames.ensures.chosen
