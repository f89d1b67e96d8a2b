use Rattle.std.proofs.Common.{◌∙◌, sym, ap, arith}
use Rattle.std.proofs.lemmas.Bool.Decides.{nat_tests}
use Rattle.vcd_dump.specs.Digits.{code}
use Rattle.vcd_text.proofs.Values.{code_same}
use Rattle.vcd_text.proofs.name_line.is_code.Goals as goal

pub returns-in-Some : goal.returns-in-Some
returns-in-Some c = let h = c.in-Some.ensures
    in (
      λ t. h.1 ∙ ap code (grind (arith, nat_tests)),
      λ e. let s = code_same c.in-Some.found c.args.index
          (sym h.1 ∙ e) in grind (arith, nat_tests),
    )
