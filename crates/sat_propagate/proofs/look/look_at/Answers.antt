use Rattle.std.proofs.Common.{◌-◌, ap, sym, ◌∙◌, arith}
use Rattle.sat_trail.specs.Trail.{true_codes, has_code}
use Rattle.sat_propagate.proofs.Looks.{has_index, last_one, all_false}
use Rattle.sat_propagate.proofs.look.look_at.Goals as goal

pub returns-then-is_false : goal.returns-then-is_false
returns-then-is_false c =
    all_false (true_codes c.args.trail.now) c.args.clause.now c.args.place c.args.other c.requires.low
    c.requires.other c.requires.code (sym c.is_false.ensures ∙ c.if-is_false.true) c.in-None.ensures

pub returns-else-is_false : goal.returns-else-is_false
returns-else-is_false c = record {
  member = ap (has_code c.args.clause.now) c.requires.other
      ∙ has_index c.args.clause.now (1 - c.args.place) (omega (arith, c.requires.low, c.requires.long));
  untrue = sym c.is_true.ensures ∙ c.if-is_true.false;
  unfalse = sym c.is_false.ensures ∙ c.if-is_false.false;
  others = λ x h k. last_one (true_codes c.args.trail.now) c.args.clause.now c.args.place c.args.other x
      c.requires.low c.requires.other c.requires.code c.in-None.ensures h k;
}
