use Rattle.std.specs.Prelude.{◌≡◌}
use Rattle.std.proofs.Common.{ap, ◌∙◌}
use Rattle.std.proofs.Math.Nat.{div-one}
use Rattle.std.proofs.lemmas.Nat.{one_shl, mod_below, pow_pos}
use Rattle.fv_bits.specs.Bits.{low, part, shifted_left}
use Rattle.wn_net.specs.Net.{value_at, width_at}
use Rattle.wn_net.proofs.Laws.{value_on, built_node}
use Rattle.wn_mem.proofs.marks.one_of_sixteen.Goals as goal

pub returns-clause-value : goal.returns-clause-value
returns-clause-value c = λ g.
    let v = value_at c.args.net.now g c.args.addr in
    let one = c.slice.new.self in
    let two = c.konst.new.self in
    let by = c.in_ok-by.ensures.built in
    let first = c.in_ok-one.ensures.built in
    let wide : width_at two c.in_ok-one.one ≡ 16 = (built_node _ _ _ _ _ _ first).1 ∙ c.in-Some.ensures.width in
    let one_is : value_at two g c.in_ok-one.one ≡ 1 = first.value g ∙ c.in-Some.ensures.value in
    let by_is : value_at two g c.in_ok-by.by ≡ part 0 4 v =
    value_on one two g c.in_ok-by.by first.adds (built_node _ _ _ _ _ _ by).0 ∙ by.value g in
    c.in_ok-shifted.ensures.built.value g
    ∙ (λ i. shifted_left (wide i) (one_is i) (by_is i))
    ∙ ap (λ x. shifted_left 16 1 (low 4 x)) (div-one v)
    ∙ one_shl (low 4 v) 16 (mod_below v 16 (pow_pos 4))
