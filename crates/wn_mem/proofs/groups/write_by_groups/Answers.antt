use Rattle.std.specs.Prelude.{◌≡◌, ◌+◌, ◌-◌, ◌*◌, ◌^◌, ◌<◌}
use Rattle.std.proofs.Common.{◌∙◌, arith, ap}
use Rattle.std.proofs.lemmas.Nat.{mod_below, pow_pos}
use Rattle.fv_bits.specs.Bits.{low, part}
use Rattle.wn_net.specs.Next.{written}
use Rattle.wn_net.specs.Net.{value_at, width_at}
use Rattle.wn_net.proofs.Laws.{adds_on, given_on, value_on}
use Rattle.wn_net.proofs.Moved.{value_below}
use Rattle.wn_mem.proofs.Tree.{numbers_on}
use Rattle.wn_mem.proofs.Telling.{tell_on}
use Rattle.wn_mem.proofs.After.{share_on}
use Rattle.wn_mem.proofs.Sixteens.{by_sixteen, groups_of}
use Rattle.wn_mem.proofs.groups.write_by_groups.Goals as goal

pub write_groups-requires-clause-reached : goal.write_groups-requires-clause-reached
write_groups-requires-clause-reached c =
    let net = c.args.net.now in
    let one = c.mark_nodes.new.net in
    let two = c.group_of.new.net in
    let addr = c.args.write.now.addr in
    let marks = c.in_ok-mark_nodes.ensures in
    let made = c.in_ok-group.ensures.group in
    let w = width_at net addr in
    let wide : width_at c.request.new.net c.in_ok-group.group.addr ≡ w - 4 =
    c.in_ok-asked.ensures.adds.keeps.widths c.in_ok-group.group.addr made.addr.0
    ∙ made.addr.1 ∙ ap (λ k. k - 4) (marks.adds.keeps.widths addr c.requires.write.addr) in
    let same : 2 ^ width_at c.request.new.net c.in_ok-group.group.addr ≡ 2 ^ (w - 4) = ap (λ k. 2 ^ k) wide in
    let given : 2 ^ c.width-width.result ≡ 2 ^ w = ap (λ k. 2 ^ k) c.width-width.ensures.value in
    omega (arith, c.reached_by-most.ensures.reached, given, groups_of w c.requires.wide, same)

pub returns-clause-value : goal.returns-clause-value
returns-clause-value c = λ g mask number given s.
    let net = c.args.net.now in
    let one = c.mark_nodes.new.net in
    let two = c.group_of.new.net in
    let three = c.request.new.net in
    let write = c.args.write.now in
    let addr = write.addr in
    let put = c.args.shared.written in
    let w = width_at net put in
    let marks = c.in_ok-mark_nodes.ensures in
    let made = c.in_ok-group.ensures.group in
    let group = c.in_ok-group.group in
    let asked = c.in_ok-asked.ensures.adds in
    let later = adds_on one two three c.in_ok-group.ensures.adds asked in
    let all = adds_on net one three marks.adds later in
    let a = value_at net g addr in
    let bits = width_at net addr in
    let fits : a < 2 ^ bits = value_below net g c.width-width.ensures.whole given addr in
    let few : low 4 a < 16 = mod_below a 16 (pow_pos 4) in
    let above : value_at three g group.addr ≡ part 4 (bits - 4) a =
    value_on two three g group.addr asked made.addr.0
    ∙ made.value g
    ∙ (λ i. part 4 (marks.adds.keeps.widths addr c.requires.write.addr i - 4)
    (value_on net one g addr marks.adds c.requires.write.addr i)) in
    let enable : value_at three g group.enable ≡ value_at net g write.enable =
    ap (value_at three g) made.enable ∙ value_on net three g write.enable all c.requires.write.enable.0 in
    let whole : value_at three g group.addr * 16 + low 4 a ≡ a =
    ap (λ k. k * 16 + low 4 a) above ∙ by_sixteen a bits c.requires.wide fits in
    let same : 2 ^ c.width-width.result ≡ 2 ^ bits = ap (λ k. 2 ^ k) c.width-width.ensures.value in
    c.in_ok-write_groups.ensures.value g mask number (low 4 a) (given_on net three g all given)
    (share_on net three g mask number put c.args.shared.kept all c.requires.shared s) few
    (tell_on one three g c.mark_nodes.new.marks (low 4 a) later marks.nodes (marks.value g))
    (λ less. omega (arith, c.reached_by-most.ensures.all less, fits, same, whole))
    ∙ (λ i. written (all.keeps.widths put c.requires.shared.0.0 i)
    (numbers_on net three w g c.args.words.now all c.requires.words i) (enable i) (whole i) mask number)
