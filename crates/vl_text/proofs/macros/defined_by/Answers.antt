use Rattle.std.proofs.Common.{◌≡◌, Ok, ap, sym, ◌∙◌}
use Rattle.vl_prep.specs.Macros.{held}
use Rattle.vl_prep.specs.Prep.{preprocessed}
use Rattle.vl_text.proofs.Defining.{defined_once}
use Rattle.vl_text.proofs.macros.defined_by.Goals as goal

pub returns-in-Ok-prep-clause-one : goal.returns-in-Ok-prep-clause-one
returns-in-Ok-prep-clause-one c =
    let e : preprocessed (held c.empty.result) c.as_slice.result.now
    ≡ Ok (record {
      macros = held c.in-Ok-prep.macros;
      output = c.in-Ok-prep._output.items;
    }) = c.in-Ok-prep.ensures.exactly in
    defined_once c.args.core c.args.text.now c.in-Ok.tokens.items (held c.empty.result)
    (held c.in-Ok-prep.macros) c.in-Ok-prep._output.items c.requires
    c.in-Ok.ensures.found c.in-Ok.ensures.one c.empty.ensures
    (ap (preprocessed (held c.empty.result)) (sym c.as_slice.ensures.value) ∙ e)
