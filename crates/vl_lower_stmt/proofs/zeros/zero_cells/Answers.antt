use Rattle.std.proofs.Common.{◌≡◌, ◌+◌, ◌++◌, ◌∷◌, [], ap, sym, ◌∙◌, take, Some}
use Rattle.std.specs.Prelude.{slice_get}
use Rattle.std.specs.Option.{option_copied}
use Rattle.std.proofs.lemmas.List.{take_more}
use Rattle.std.proofs.lemmas.Option.{get_or_from_slice_get, slice_get_within}
use Rattle.wn_net.proofs.Laws.{adds_on}
use Rattle.vl_lower_stmt.proofs.ZeroCells.{name_more}
use Rattle.vl_lower_stmt.proofs.zeros.zero_cells.Goals as goal

pub loop-index-preserved : goal.loop-index-preserved
loop-index-preserved c =
    let ds = c.args.decls.now in
    let i = c.loop-index.index in
    let d = c.in-Some.decl.now in
    let old = c.loop-index.net in
    let new = c.put_zeros.new.net in
    let puts = c.in_ok-put_zeros-in-Some.ensures in
    let at : slice_get ds i ≡ Some d = sym c.get.ensures ∙ ap option_copied c.in-Some.is in
    let more : take (i + 1) ds ≡ take i ds ++ d ∷ [] =
    take_more ds i d (slice_get_within ds i d at)
    ∙ ap (λ y. take i ds ++ y ∷ []) (get_or_from_slice_get ds i d d at) in
    record {
      adds = adds_on c.args.net.now old new c.loop-index.invariant.adds puts.adds;
      zeros = name_more old new (take i ds) (take (i + 1) ds) d c.loop-index.cells.items c.put_zeros.new.cells.items
          c.loop-index.invariant.zeros puts more;
    }
