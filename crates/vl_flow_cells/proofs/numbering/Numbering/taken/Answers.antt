use Rattle.std.proofs.Common.{◌≡◌, ap, sym, ◌∙◌, subst, arith, Some, slice_get}
use Rattle.std.specs.Option.{option_copied}
use Rattle.vl_tree.specs.ExprView.{selects}
use Rattle.vl_size.specs.Table.{IsShaped}
use Rattle.vl_mean.specs.FlatLaw.{IsKept}
use Rattle.vl_flow_spec.specs.Reads.{selected}
use Rattle.vl_flow_spec.proofs.Same.{declared_name}
use Rattle.vl_flow_cells.specs.Numbered.{HasSize, Shows, some_takes}
use Rattle.vl_flow_cells.proofs.Lists.{all_at, get_less}
use Rattle.vl_flow_cells.proofs.Numbers.{first_few}
use Rattle.vl_flow_cells.proofs.Sizes.{unsized}
use Rattle.vl_flow_cells.proofs.Taking.{place_none, place_some}
use Rattle.vl_flow_cells.proofs.numbering.Numbering.taken.Goals as goal

pub returns-in_err-name : goal.returns-in_err-name
returns-in_err-name c sized =
    let ds = c.args.decls.now in
    let text = c.args.text.now in
    absurd (unsized ds text (selects c.args.all.now) (place_none ds text (sym c.find.ensures ∙ c.in_err-name.was))
    sized)

pub returns-in_err-decl : goal.returns-in_err-decl
returns-in_err-decl c sized =
    let ds = c.args.decls.now in
    let text = c.args.text.now in
    absurd (unsized ds text (selects c.args.all.now)
    (place_some ds text c.in_ok-name.name (sym c.find.ensures ∙ c.in_ok-name.was)
    ∙ sym c.get.ensures ∙ ap option_copied c.in_err-decl.was) sized)

pub first_of-first-requires : goal.first_of-first-requires
first_of-first-requires c =
    let ds = c.args.decls.now in
    let at : slice_get ds c.in_ok-name.name ≡ Some c.in_ok-decl.decl.now =
    sym c.get.ensures ∙ ap option_copied c.in_ok-decl.was in
    let less = get_less ds c.in_ok-name.name c.in_ok-decl.decl.now at in
    omega (arith, less, c.requires.size)

pub taken_of-requires-clause-kept : goal.taken_of-requires-clause-kept
taken_of-requires-clause-kept c =
    all_at IsKept c.args.decls.now c.in_ok-name.name c.in_ok-decl.decl.now
    (sym c.get.ensures ∙ ap option_copied c.in_ok-decl.was) c.requires.kept

pub taken_of-requires-clause-few : goal.taken_of-requires-clause-few
taken_of-requires-clause-few c =
    (all_at IsShaped c.args.decls.now c.in_ok-name.name c.in_ok-decl.decl.now
    (sym c.get.ensures ∙ ap option_copied c.in_ok-decl.was) c.requires.shaped).few_bits

pub taken_of-requires-clause-low : goal.taken_of-requires-clause-low
taken_of-requires-clause-low c =
    let number = c.requires.firsts c.in_ok-name.name c.first_of-first.result c.first_of-first.ensures in
    let few = first_few c.args.decls.now c.in_ok-name.name in omega (arith, number, few, c.requires.few)

pub returns : goal.returns
returns c sized =
    let ds = c.args.decls.now in
    let text = c.args.text.now in
    let xs = selects c.args.all.now in
    let j = c.in_ok-name.name in
    let d = c.in_ok-decl.decl.now in
    let at : slice_get ds j ≡ Some d = sym c.get.ensures ∙ ap option_copied c.in_ok-decl.was in
    let own = place_some ds text j (sym c.find.ensures ∙ c.in_ok-name.was) ∙ at in
    let named = declared_name ds text d own in
    subst (λ t. Shows ds (some_takes c.taken_of.result) (selected ds t xs)) (sym named)
    (c.taken_of.ensures ds (record {
      place = j;
      at = at;
      number = c.requires.firsts j c.first_of-first.result c.first_of-first.ensures;
      different = c.requires.different;
      apart = c.requires.apart;
      kept = c.requires.kept;
    }) (subst (λ t. HasSize ds t xs) named sized))
