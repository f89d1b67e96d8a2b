use Rattle.std.proofs.Common.{◌++◌, codes, subst, ap, ◌∙◌, ◌≡◌, true, rules}
use Rattle.std.specs.List.{list_all}
use Rattle.vcd_dump.specs.Digits.{code}
use Rattle.fv_lines.specs.Cuts.{HasNo}
use Rattle.vcd_text.specs.Reading.{is_plain}
use Rattle.vcd_text.proofs.Values.{has_mark}
use Rattle.vcd_text.proofs.Names.{width_cut, code_cut, text_is}
use Rattle.vcd_text.proofs.name_line.name_at.Goals as goal

pub returns-in_default-cut_at-2 : goal.returns-in_default-cut_at-2
returns-in_default-cut_at-2 c = λ n w p e.
    let k = width_cut c.args.index n c.args.line.now c.in-Some.rest.now c.in-Some-cut_at.digits.now
    c.in-Some-cut_at.rest.now w.1 c.in-Some.ensures c.in-Some-cut_at.ensures e in
    has_mark 32 (code c.args.index) (n.text ++ codes " $end") (subst (HasNo 32) k.1 c.in_default-cut_at-2.ensures)

pub returns-in_default-before : goal.returns-in_default-before
returns-in_default-before c = λ n w p e.
    let k = width_cut c.args.index n c.args.line.now c.in-Some.rest.now c.in-Some-cut_at.digits.now
    c.in-Some-cut_at.rest.now w.1 c.in-Some.ensures c.in-Some-cut_at.ensures e in
    let m = code_cut c.args.index n c.in-Some-cut_at.rest.now c.in-Some-cut_at-2.characters.now
    c.in-Some-cut_at-2.rest.now c.in-Some-cut_at-2.ensures k.1 in
    c.in_default-before.ensures n.text m.1

pub returns-then-not-is_code : goal.returns-then-not-is_code
returns-then-not-is_code c = λ n w p e.
    let k = width_cut c.args.index n c.args.line.now c.in-Some.rest.now c.in-Some-cut_at.digits.now
    c.in-Some-cut_at.rest.now w.1 c.in-Some.ensures c.in-Some-cut_at.ensures e in
    let m = code_cut c.args.index n c.in-Some-cut_at.rest.now c.in-Some-cut_at-2.characters.now
    c.in-Some-cut_at-2.rest.now c.in-Some-cut_at-2.ensures k.1 in
    let t = c.is_code.ensures.1 m.0 in search rules

pub returns-in_default-width_of : goal.returns-in_default-width_of
returns-in_default-width_of c = λ n w p e.
    let k = width_cut c.args.index n c.args.line.now c.in-Some.rest.now c.in-Some-cut_at.digits.now
    c.in-Some-cut_at.rest.now w.1 c.in-Some.ensures c.in-Some-cut_at.ensures e in
    c.in_default-width_of.ensures n.width w.0 w.1 k.0

pub returns-then-not-are_plain : goal.returns-then-not-are_plain
returns-then-not-are_plain c = λ n w p e.
    let k = width_cut c.args.index n c.args.line.now c.in-Some.rest.now c.in-Some-cut_at.digits.now
    c.in-Some-cut_at.rest.now w.1 c.in-Some.ensures c.in-Some-cut_at.ensures e in
    let m = code_cut c.args.index n c.in-Some-cut_at.rest.now c.in-Some-cut_at-2.characters.now
    c.in-Some-cut_at-2.rest.now c.in-Some-cut_at-2.ensures k.1 in
    let s = text_is n c.in-Some-cut_at-2.rest.now c.in-Some-before.text.now c.in-Some-before.ensures m.1 in
    let q : list_all is_plain c.in-Some-before.text.now ≡ true = ap (list_all is_plain) s ∙ p in search rules
