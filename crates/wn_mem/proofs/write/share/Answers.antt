use Rattle.std.specs.Prelude.{ℕ}
use Rattle.std.proofs.Common.{◌∙◌, subst}
use Rattle.wn_net.specs.Net.{value_at, width_at}
use Rattle.wn_net.proofs.Laws.{value_on, built_node}
use Rattle.wn_mem.specs.Words.{IsKept}
use Rattle.wn_mem.proofs.write.share.Goals as goal

pub returns-clause-value : goal.returns-clause-value
returns-clause-value c = λ g.
    let net = c.args.net.now in
    let one = c.and.new.self in
    let new = c.kept_bits.new.net in
    let mask = c.args.write.now.mask in
    let built = c.in_ok-written.ensures.built in
    let kept = c.in_ok-kept.ensures in
    let P : ℕ → Type 0 = λ w. IsKept new g w (value_at net g mask) c.in_ok-kept.kept in
    let Q : ℕ → Type 0 = λ m. IsKept new g (width_at one mask) m c.in_ok-kept.kept in
    record {
      changed_is = value_on one new g c.in_ok-written.written kept.adds (built_node _ _ _ _ _ _ built).0 ∙ built.value g;
      kept_is =
          subst P (built.adds.keeps.widths mask c.requires.mask)
          (subst Q (value_on net one g mask built.adds c.requires.mask) (kept.value g));
    }
