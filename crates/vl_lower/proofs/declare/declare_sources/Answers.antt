use Rattle.std.specs.Prelude.{◌≡◌, ◌+◌, ◌≤◌, Some, length, slice_get}
use Rattle.std.specs.Option.{option_copied}
use Rattle.std.proofs.Common.{ap, arith, subst, sym, ◌∙◌}
use Rattle.vl_size.specs.Table.{IsShaped}
use Rattle.vl_mean.specs.FlatLaw.{IsKept}
use Rattle.vl_mean.specs.FlatParts.{flat_parts}
use Rattle.vl_flow_cells.proofs.Lists.{all_at}
use Rattle.vl_lower.specs.Design.{is_stored, keeping}
use Rattle.vl_lower.proofs.Names.{IsAt, all_names, at_first, cells_few, cells_within, few_entries, memory_is}
use Rattle.vl_lower.proofs.Names.{name_more}
use Rattle.vl_lower.proofs.declare.declare_sources.Goals as goal

pub loop-at-init : goal.loop-at-init
loop-at-init c =
    at_first (flat_parts c.args.flat.now) (keeping c.args.keeps.now) c.args.flat.now.decls c.new-sources.result
    c.new-sources.ensures

pub is_stored-stored-requires-clause-there : goal.is_stored-stored-requires-clause-there
is_stored-stored-requires-clause-there c =
    let there = sym c.get.ensures ∙ ap option_copied c.in-Some.is in
    omega (
      arith,
      cells_within c.args.flat.now.decls c.loop-at.at c.in-Some.decl.now there,
      c.requires.each,
      c.loop-at.invariant.first,
      c.len.ensures,
    )

pub add_name-requires-clause-kept : goal.add_name-requires-clause-kept
add_name-requires-clause-kept c =
    all_at IsKept c.args.flat.now.decls c.loop-at.at c.in-Some.decl.now
    (sym c.get.ensures ∙ ap option_copied c.in-Some.is) c.args.flat.now.lawful.kept

pub add_name-requires-clause-shaped : goal.add_name-requires-clause-shaped
add_name-requires-clause-shaped c =
    all_at IsShaped c.args.flat.now.decls c.loop-at.at c.in-Some.decl.now
    (sym c.get.ensures ∙ ap option_copied c.in-Some.is) c.len-at-end.ensures.shaped

pub add_name-requires-clause-there : goal.add_name-requires-clause-there
add_name-requires-clause-there c =
    let there = sym c.get.ensures ∙ ap option_copied c.in-Some.is in
    omega (
      arith,
      cells_within c.args.flat.now.decls c.loop-at.at c.in-Some.decl.now there,
      c.requires.each,
      c.loop-at.invariant.first,
    )

pub add_name-requires-clause-few : goal.add_name-requires-clause-few
add_name-requires-clause-few c =
    let there = sym c.get.ensures ∙ ap option_copied c.in-Some.is in
    omega (
      arith,
      cells_few c.args.flat.now.decls c.loop-at.at c.in-Some.decl.now there,
      c.args.flat.now.lawful.few_names,
      c.loop-at.invariant.first,
    )

pub entry_count-name-requires-clause-kept : goal.entry_count-name-requires-clause-kept
entry_count-name-requires-clause-kept c =
    all_at IsKept c.args.flat.now.decls c.loop-at.at c.in-Some.decl.now
    (sym c.get.ensures ∙ ap option_copied c.in-Some.is) c.args.flat.now.lawful.kept

pub entry_count-name-requires-clause-few : goal.entry_count-name-requires-clause-few
entry_count-name-requires-clause-few c =
    let there = sym c.get.ensures ∙ ap option_copied c.in-Some.is in
    omega (
      arith,
      cells_few c.args.flat.now.decls c.loop-at.at c.in-Some.decl.now there,
      c.args.flat.now.lawful.few_names,
    )

pub overflow_add-name : goal.overflow_add-name
overflow_add-name c =
    let ds = c.args.flat.now.decls in
    let ps = flat_parts c.args.flat.now in
    let d = c.in-Some.decl.now in
    let k = c.loop-at.at in
    let there : slice_get ds k ≡ Some d = sym c.get.ensures ∙ ap option_copied c.in-Some.is in
    let kept = all_at IsKept ds k d there c.args.flat.now.lawful.kept in
    let shaped = all_at IsShaped ds k d there c.len-at-end.ensures.shaped in
    let memory =
    memory_is ps (keeping c.args.keeps.now) ds c.loop-at.sources c.loop-at.name k d c.is_stored-stored.result
    c.loop-at.invariant c.requires.are there kept shaped
    (c.is_stored-stored.ensures ∙ ap (λ n. is_stored (keeping c.args.keeps.now) d n) c.len.ensures) in
    let small : c.loop-at.name + c.entry_count-name.result ≤ 200000 =
    omega (
      arith,
      c.entry_count-name.ensures ps memory,
      few_entries ps d,
      c.loop-at.invariant.names,
      c.loop-at.invariant.first,
      cells_few ds k d there,
      c.args.flat.now.lawful.few_names,
    ) in
    omega (arith, small)

pub loop-at-preserved : goal.loop-at-preserved
loop-at-preserved c =
    let ds = c.args.flat.now.decls in
    let ps = flat_parts c.args.flat.now in
    let keep = keeping c.args.keeps.now in
    let d = c.in-Some.decl.now in
    let k = c.loop-at.at in
    let there : slice_get ds k ≡ Some d = sym c.get.ensures ∙ ap option_copied c.in-Some.is in
    let kept = all_at IsKept ds k d there c.args.flat.now.lawful.kept in
    let shaped = all_at IsShaped ds k d there c.len-at-end.ensures.shaped in
    let memory =
    memory_is ps keep ds c.loop-at.sources c.loop-at.name k d c.is_stored-stored.result c.loop-at.invariant
    c.requires.are there kept shaped
    (c.is_stored-stored.ensures ∙ ap (λ n. is_stored keep d n) c.len.ensures) in
    subst (λ n. IsAt ps keep ds c.add_name.new.self n (k + 1))
    (ap (λ n. c.loop-at.name + n) (sym (c.entry_count-name.ensures ps memory)))
    (name_more ps keep ds c.loop-at.sources c.add_name.new.self c.loop-at.name k d there kept shaped
    c.loop-at.invariant (c.in_ok-add_name-in-Some.ensures.adds ps memory))

pub returns : goal.returns
returns c =
    let ds = c.args.flat.now.decls in
    let past : length ds ≡ c.loop-at.at =
    omega (arith, c.loop-at-test.false, c.loop-at.auto.at-end, c.len-at-end.ensures.value) in
    all_names (flat_parts c.args.flat.now) ds c.args.keeps.now c.loop-at.sources c.loop-at.name c.loop-at.at
    c.nodes.ensures.whole past
    c.loop-at.invariant
