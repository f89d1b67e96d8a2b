use Rattle.std.specs.Prelude.{◌≡◌, ℕ, suc, ◌+◌, ◌*◌}
use Rattle.std.proofs.Common.{ap, ◌∙◌, arith, subst}
use Rattle.fv_bits.specs.Bits.{joined}
use Rattle.vl_size.specs.Size as spec
use Rattle.wn_net.specs.Net.{width_at, value_at}
use Rattle.wn_net.specs.Changes.{Shows}
use Rattle.wn_net.proofs.Laws.{adds_on, adds_none, built_node, value_on}
use Rattle.vl_lower_expr.proofs.Finding.{fits_more, copy_more}
use Rattle.vl_lower_expr.proofs.copies.copies.Goals as goal

pub loop-made-init : goal.loop-made-init
loop-made-init c =
    let net = c.args.net.now in
    record {
      some = omega arith;
      few = c.requires.some;
      adds = adds_none net;
      shows = record { node = (c.requires.there, omega arith); value = λ g given. omega arith };
    }

pub concat-requires-clause-few : goal.concat-requires-clause-few
concat-requires-clause-few c =
    let inv = c.loop-made.invariant in
    let w = width_at c.args.net.now c.args.node in
    let fits = fits_more c.loop-made.made c.args.count w (omega arith) c.requires.few in
    let all = inv.shows.node.1 in
    let one = inv.adds.keeps.widths c.args.node c.requires.there in
    omega (arith, fits, all, one)

pub loop-made-preserved : goal.loop-made-preserved
loop-made-preserved c =
    let inv = c.loop-made.invariant in
    let net = c.args.net.now in
    let id = c.args.node in
    let made = c.loop-made.made in
    let built = c.in_ok-all.ensures.built in
    let w = width_at net id in
    let one = inv.adds.keeps.widths id c.requires.there in
    let long = inv.shows.node.1 in
    let next : suc made ≡ made + 1 = omega arith in
    record {
      some = omega arith;
      few = omega arith;
      adds = adds_on _ _ _ inv.adds built.adds;
      shows = record {
        node = ((built_node _ _ _ _ _ _ built).0, omega (arith, built.width, long, one));
        value = λ g given.
            built.value g
            ∙ (λ i. joined (one i) (inv.shows.value g given i) (value_on net c.loop-made.net g id inv.adds
            c.requires.there i))
            ∙ copy_more made w (value_at net g id) ∙ ap (λ n. spec.copies n w (value_at net g id)) next;
      };
    }

pub returns-clause-shows : goal.returns-clause-shows
returns-clause-shows c =
    let inv = c.loop-made.invariant in
    let net = c.args.net.now in
    let id = c.args.node in
    let all : c.loop-made.made ≡ c.args.count = omega (arith, inv.few) in
    let P : ℕ → Type 0 = λ n. Shows net c.loop-made.net (n * width_at net id)
    (λ g. spec.copies n (width_at net id) (value_at net g id)) c.loop-made.all in
    subst P all inv.shows
