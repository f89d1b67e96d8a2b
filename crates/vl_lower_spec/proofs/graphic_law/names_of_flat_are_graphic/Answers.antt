use Rattle.vl_lower_spec.proofs.graphic_law.names_of_flat_are_graphic.Goals as goal

pub returns : goal.returns
returns c =
    let flat = c.args.flat.now in
    c.names_are_graphic.ensures flat.decls flat.drivers flat.starts c.args.net.now c.args.names.now flat.lawful.kept
    c.requires
