use Rattle.std.specs.Prelude.{◌≡◌, refl, List, ℕ, None, false}
use Rattle.std.specs.List.{list_any}
use Rattle.std.specs.Str.{bytes_eq}
use Rattle.std.proofs.Common.{ap, sym, ◌∙◌, subst}
use Rattle.wn_net.specs.declared.names.NetName.{NetName}
use Rattle.wn_net.specs.declared.names.Place.TheVariants as place
use Rattle.wn_net.proofs.Laws.{built_node}
use Rattle.channel_answers.specs.Listed.{AreListed}
use Rattle.channel_answers.proofs.Names.{listed_push}
use Rattle.channel_answers.proofs.design.put_name.Goals as goal

pub returns : goal.returns
returns c =
    let n : NetName = record {
      text = c.in_ok-text.text;
      width = c.args.word.width;
      place = place.Node c.in_ok-node.node;
      output = c.args.output;
      words = None;
    } in
    let text : c.in_ok-text.text ≡ c.as_bytes.result.now =
    cc (c.in_ok-text.ensures, c.as_bytes.ensures.value, c.as_bytes-2.ensures.value) in
    let free : list_any (λ (m : NetName). bytes_eq m.text c.in_ok-text.text) c.args.list.now ≡ false =
    ap (λ (t : List ℕ). list_any (λ (m : NetName). bytes_eq m.text t) c.args.list.now) text
    ∙ ap (λ xs. list_any (λ (m : NetName). bytes_eq m.text c.as_bytes.result.now) xs) (sym c.as_slice.ensures)
    ∙ sym c.has_text.ensures ∙ c.if-has_text.false in
    let P : List NetName → Type 0 = λ xs. AreListed c.konst.new.self xs in
    subst P (sym c.in_ok-push.ensures.ok)
    (listed_push c.args.net.now c.konst.new.self c.args.list.now n c.in_ok-node.ensures.built.adds c.requires free
    (built_node _ _ _ _ _ _ c.in_ok-node.ensures.built, refl))
