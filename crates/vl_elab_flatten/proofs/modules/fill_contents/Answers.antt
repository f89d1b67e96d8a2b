use Rattle.std.proofs.Common.{◌∙◌, ◌∷◌, ◌++◌, ap, drop, refl, subst, sym}
use Rattle.vl_size.specs.Table.{AreDifferent, IsPlain}
use Rattle.vl_mean.specs.Runs.{Each}
use Rattle.vl_elab_scope.specs.Seen.{innermost}
use Rattle.vl_mean_flat.proofs.EachOf.{back, front}
use Rattle.vl_elab_const.specs.Openable.{IsInRange}
use Rattle.vl_elab_flatten.specs.Levels.{hidden, with_decls}
use Rattle.vl_elab_flatten.proofs.Entered.{both_filled, both_hidden, first_different, second_different}
use Rattle.vl_elab_flatten.proofs.modules.fill_contents.Goals as goal

pub fill-requires : goal.fill-requires
fill-requires c =
    let s = c.args.contents.now.scope in
    let ports = c.args.contents.now.ports in
    let decls = c.args.contents.now.decls in
    record {
      different = subst (λ ds. AreDifferent (s.decls ++ ds)) (sym c.as_slice.ensures)
          (first_different s ports decls c.requires.different);
      plain = subst (Each IsPlain) (sym c.as_slice.ensures) (front IsPlain ports decls c.requires.plain);
      in_range = subst (Each IsInRange) (sym c.as_slice.ensures) (front IsInRange ports decls c.requires.in_range);
    }

pub fill-requires-2 : goal.fill-requires-2
fill-requires-2 c =
    let s = c.args.contents.now.scope in
    let ports = c.args.contents.now.ports in
    let decls = c.args.contents.now.decls in
    let t = c.fill.new.scope in
    record {
      different = subst (λ ds. AreDifferent (t.decls ++ ds)) (sym c.as_slice-2.ensures)
          (second_different s ports decls c.requires.different t
          (c.in_ok-fill.ensures.scope ∙ ap (with_decls s) c.as_slice.ensures));
      plain = subst (Each IsPlain) (sym c.as_slice-2.ensures) (back IsPlain ports decls c.requires.plain);
      in_range = subst (Each IsInRange) (sym c.as_slice-2.ensures) (back IsInRange ports decls c.requires.in_range);
    }

pub returns : goal.returns
returns c =
    let s = c.args.contents.now.scope in
    let ns = c.args.contents.now.numbers in
    let ports = c.args.contents.now.ports in
    let decls = c.args.contents.now.decls in
    let t = c.fill.new.scope in
    let ms = c.fill.new.numbers in
    record {
      scope = both_filled s t c.fill-2.new.scope ports decls
          (c.in_ok-fill.ensures.scope ∙ ap (with_decls s) c.as_slice.ensures)
          (c.in_ok-fill-2.ensures.scope ∙ ap (with_decls t) c.as_slice-2.ensures);
      numbers = both_hidden ns ms c.fill-2.new.numbers ports decls
          (c.in_ok-fill.ensures.numbers ∙ ap (λ ds. hidden (innermost ns) ds ∷ drop 1 ns) c.as_slice.ensures)
          (c.in_ok-fill-2.ensures.numbers ∙ ap (λ ds. hidden (innermost ms) ds ∷ drop 1 ms) c.as_slice-2.ensures);
      ports = refl;
      decls = refl;
    }
